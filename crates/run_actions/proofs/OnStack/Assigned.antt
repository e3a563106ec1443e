-- The phis of a block, all together.
use Rattle.std.proofs.Common.{◌≡◌, ℕ, ◌+◌, ◌-◌, List, [], ◌∷◌, length, take, drop, map, set, refl, ap, subst, ◌∙◌, arith}
use Rattle.std.specs.Prelude.{All}
use Rattle.std.proofs.lemmas.List.{drop-set-add, take-set-le, length-set}
use Rattle.ir_eval.specs.declared.value.Pointer.{Pointer}
use Rattle.ir_eval.specs.declared.value.Scalar.{Scalar}
use Rattle.run_rules.specs.Frame.{assigned, followed}
use Rattle.run_rules.specs.State.{Frame}
use Rattle.run_actions.specs.declared.stack.mark.Mark.{Mark}
use Rattle.run_actions.specs.declared.stack.origin.Move.{Move}
use Rattle.run_actions.specs.Stack.Origins.{origin_of, move_of, edge_of, IsMoveIn, had, moved, spread}
use Rattle.run_actions.specs.Stack.Pool.{at_place, frame_of, frames_of, AreBehind}
use Rattle.run_actions.specs.Stack.UnderWay.{newest, on_newest}
use Rattle.run_actions.proofs.OnStack.Frames.{read_is, length_newest}

-- what was gathered is what they get
pub spread_gathered : (first : ℕ) (old : List Scalar) (ms : List Move) (values pool : List Scalar) → take (length ms) values ≡ map (λ m. had old (origin_of m.from)) ms → spread first ms values pool ≡ moved first old ms pool
spread_gathered first old [] values pool e = refl
spread_gathered first old (m ∷ ms) [] pool e = cc
spread_gathered first old (m ∷ ms) (v ∷ vs) pool e =
    let head : v ≡ had old (origin_of m.from) = cc in
    let rest : take (length ms) vs ≡ map (λ n. had old (origin_of n.from)) ms = cc in
    rw head (spread_gathered first old ms vs (set pool (first + m.to) (had old (origin_of m.from))) rest)

-- in the frame that is as the definition assigns
pub drop_moved : (first : ℕ) (f : Frame) (ms : List Move) (pool : List Scalar) → drop first (moved first f.leaves ms pool) ≡ assigned f (map move_of ms) (drop first pool)
drop_moved first f [] pool = refl
drop_moved first f (m ∷ ms) pool =
    let v = had f.leaves (origin_of m.from) in
    rw (read_is f (origin_of m.from))
    (drop_moved first f ms (set pool (first + m.to) v) ∙ ap (λ (l : List Scalar). assigned f (map move_of ms) l) (drop-set-add first pool m.to v))

-- and the frames below keep their leaves
pub take_moved : (first : ℕ) (old : List Scalar) (ms : List Move) (pool : List Scalar) → take first (moved first old ms pool) ≡ take first pool
take_moved first old [] pool = refl
take_moved first old (m ∷ ms) pool =
    let v = had old (origin_of m.from) in
    take_moved first old ms (set pool (first + m.to) v) ∙ take-set-le first pool (first + m.to) v (omega arith)

pub length_moved : (first : ℕ) (old : List Scalar) (ms : List Move) (pool : List Scalar) → length (moved first old ms pool) ≡ length pool
length_moved first old [] pool = refl
length_moved first old (m ∷ ms) pool =
    let v = had old (origin_of m.from) in
    length_moved first old ms (set pool (first + m.to) v) ∙ length-set pool (first + m.to) v

module _ (allocas : List Pointer) (m : Mark) where
  -- the newest frame follows the edge
  pub followed_newest : (leaves : List Scalar) (ns : List Mark) (block position : ℕ) (moves : List Move)
      → frames_of (moved m.first (drop m.first leaves) moves leaves) allocas (at_place m block position) ns ≡ on_newest (followed (edge_of block position moves)) (frames_of leaves allocas m ns)
  followed_newest leaves [] block position moves = refl
  followed_newest leaves (n ∷ ns) block position moves =
      rw (drop_moved m.first (frame_of m leaves allocas) moves leaves, take_moved m.first (drop m.first leaves) moves leaves) refl

  -- where no phi is, its leaves stay
  pub followed_with_none : (leaves : List Scalar) (ns : List Mark) (block position : ℕ) (moves : List Move) → moves ≡ []
      → frames_of leaves allocas (at_place m block position) ns ≡ on_newest (followed (edge_of block position moves)) (frames_of leaves allocas m ns)
  followed_with_none leaves ns block position moves e =
      let whole = followed_newest leaves ns block position moves in
      rw e (rw e at whole)

  -- the places of the moves are within the frame
  pub moves_within : (leaves : List Scalar) (ns : List Mark) (moves : List Move) → AreBehind (length leaves) (length allocas) m ns
      → All (IsMoveIn (length (newest (frames_of leaves allocas m ns)).leaves)) moves → All (IsMoveIn (length leaves - m.first)) moves
  moves_within leaves ns moves h l = subst (λ k. All (IsMoveIn k) moves) (length_newest allocas m leaves ns h) l
