-- What a clause sees of the pool after each call. In each `s` is what it saw before.
use Rattle.std.proofs.Common.{◌≡◌, ℕ, ◌+◌, ◌-◌, ◌<◌, ◌≤◌, List, [], ◌∷◌, ◌++◌, length, take, drop, map, set, max, reverse, replicate, Some, None, ap, ◌∙◌}
use Rattle.std.specs.Prelude.{All}
use Rattle.std.proofs.lemmas.List.{length-reverse, nil_from_length}
use Rattle.ir_eval.specs.declared.value.Pointer.{Pointer}
use Rattle.ir_eval.specs.declared.value.Scalar.{Scalar}
use Rattle.ir_eval.specs.declared.value.Scalar.TheVariants.{Poison}
use Rattle.run_rules.specs.Calls.{begun}
use Rattle.run_rules.specs.Frame.{read, read_all, with_leaves, with_value, moved_on, followed}
use Rattle.run_rules.specs.State.{weights}
use Rattle.run_actions.specs.declared.stack.mark.Mark.{Mark}
use Rattle.run_actions.specs.declared.stack.origin.Origin.{Origin}
use Rattle.run_actions.specs.declared.stack.origin.Move.{Move}
use Rattle.run_actions.specs.Stack.Origins.{origin_of, edge_of, IsIn, IsMoveIn, had, had_all, moved}
use Rattle.run_actions.specs.Stack.Pool.{at_place, frame_of, IsPool, seen}
use Rattle.run_actions.specs.Stack.UnderWay.{UnderWay, newest, older, changed, IsRunning, Fits, with_alloca, without_alloca, first_alloca}
use Rattle.run_actions.proofs.OnStack.Frames.{newest_is, first_within, place_in_pool, place_within, places_within, read_newest, read_all_newest, count_of}
use Rattle.run_actions.proofs.OnStack.Changes.{set_newest, set_many, value_in_pool, moved_on_newest}
use Rattle.run_actions.proofs.OnStack.Calls.{mark_of, begun_newest, left_newest, some_below}
use Rattle.run_actions.proofs.OnStack.Weights.{weight_of}
use Rattle.run_actions.proofs.OnStack.Assigned.{followed_newest, followed_with_none, moves_within}
use Rattle.run_actions.proofs.OnStack.Allocas.{one_more, one_less, last_is, still_running, none_first, none_left}

-- the same leaves, the same mark and the same width show the same frames
pub seen_alike : {leaves others : List Scalar} {m n : Mark} {widest width : ℕ} (allocas : List Pointer) (below : List Mark) → leaves ≡ others → m ≡ n → widest ≡ width → seen leaves allocas m below widest ≡ seen others allocas n below width
seen_alike allocas below l k w = λ i. seen (l i) allocas (k i) below (w i)

module _ (leaves : List Scalar) (allocas : List Pointer) (m : Mark) (below : List Mark) (widest : ℕ) (s : UnderWay) (is : seen leaves allocas m below widest ≡ s) where
  -- ---- what is told of the frames

  pub newest_seen : IsRunning s.frames → newest s.frames ≡ frame_of m leaves allocas
  newest_seen h = rw (← is) (newest_is allocas m leaves (reverse below) (rw (← is) at h))

  pub count_seen : length s.frames ≡ length below
  count_seen = rw (← is) (count_of leaves allocas m (reverse below) ∙ length-reverse below)

  pub some_seen : IsRunning s.frames → length below ≡ 0 → ⊥
  some_seen h e = some_below leaves allocas m below (rw (← is) at h) e

  -- ---- a leaf of the newest, and a value

  pub set_seen : (to : ℕ) (v : Scalar) → to < length (newest s.frames).leaves → seen (set leaves (m.first + to) v) allocas m below widest ≡ changed (λ f. with_value f to (v ∷ [])) s
  set_seen to v h = rw (← is) (ap (λ fs. record { frames = fs; widest = widest }) (set_newest allocas m leaves (reverse below) to v (rw (← is) at h)))

  pub set_many_seen : (to : ℕ) (vs : List Scalar) → seen (with_leaves leaves (m.first + to) vs) allocas m below widest ≡ changed (λ f. with_value f to vs) s
  set_many_seen to vs = rw (← is) (ap (λ fs. record { frames = fs; widest = widest }) (set_many allocas m leaves (reverse below) to vs))

  -- ---- where it stands

  pub moved_on_seen : IsRunning s.frames → seen leaves allocas (record m { position = m.position + 1 }) below widest ≡ changed moved_on s
  moved_on_seen h = rw (← is) (ap (λ fs. record { frames = fs; widest = widest }) (moved_on_newest leaves allocas m (reverse below) (rw (← is) at h)))

  pub followed_seen : (block position : ℕ) (moves : List Move) → seen (moved m.first (drop m.first leaves) moves leaves) allocas (at_place m block position) below widest ≡ changed (followed (edge_of block position moves)) s
  followed_seen block position moves = rw (← is) (ap (λ fs. record { frames = fs; widest = widest }) (followed_newest allocas m leaves (reverse below) block position moves))

  pub followed_none_seen : (block position : ℕ) (moves : List Move) → length moves ≡ 0 → seen leaves allocas (at_place m block position) below widest ≡ changed (followed (edge_of block position moves)) s
  followed_none_seen block position moves e =
      rw (← is) (ap (λ fs. record { frames = fs; widest = widest }) (followed_with_none allocas m leaves (reverse below) block position moves (nil_from_length moves e)))

  -- ---- calls

  pub begun_seen : (arguments : List Scalar) (function count to wider more : ℕ) → wider ≡ max widest more
      → seen (leaves ++ (arguments ++ replicate (count - length arguments) Poison)) allocas (mark_of function to (length leaves) (length allocas)) (below ++ m ∷ []) wider
      ≡ record { frames = begun function count arguments to ∷ s.frames; widest = max s.widest more }
  begun_seen arguments function count to wider more e = rw (← is, e) (begun_newest leaves arguments allocas m below function count to (max widest more))

  pub left_seen : (caller : Mark) (rest : List Mark) → below ≡ rest ++ caller ∷ [] → seen (take m.first leaves) (take m.allocas allocas) caller rest widest ≡ record { frames = older s.frames; widest = s.widest }
  left_seen caller rest e = rw (← is) (left_newest leaves allocas m caller below rest widest e)

  -- ---- what asks that the frames lie one behind the other

  module _ (pool : IsPool (length leaves) (length allocas) m below) where
    pub first_seen : m.first ≤ length leaves
    first_seen = first_within allocas m leaves (reverse below) pool.behind

    pub place_seen : (to : ℕ) → to < length (newest s.frames).leaves → m.first + to < length leaves
    place_seen to h = place_in_pool allocas m leaves (reverse below) to pool.behind (rw (← is) at h)

    pub value_seen : (to : ℕ) (vs : List Scalar) → 0 < length vs → Fits (length (newest s.frames).leaves) to vs → m.first + to + length vs ≤ length leaves
    value_seen to vs l h = value_in_pool allocas m leaves (reverse below) to vs l pool.behind (rw (← is) at h)

    pub in_seen : (o : Origin) → IsIn (length (newest s.frames).leaves) o → IsIn (length leaves - m.first) o
    in_seen o h = place_within allocas m leaves (reverse below) o pool.behind (rw (← is) at h)

    pub all_in_seen : (os : List Origin) → All (IsIn (length (newest s.frames).leaves)) os → All (IsIn (length leaves - m.first)) os
    all_in_seen os h = places_within allocas m leaves (reverse below) os pool.behind (rw (← is) at h)

    pub moves_seen : (moves : List Move) → All (IsMoveIn (length (newest s.frames).leaves)) moves → All (IsMoveIn (length leaves - m.first)) moves
    moves_seen moves h = moves_within allocas m leaves (reverse below) moves pool.behind (rw (← is) at h)

    pub read_seen : (o : Origin) → had (drop m.first leaves) (origin_of o) ≡ read (newest s.frames) (origin_of o)
    read_seen o = rw (← is) (read_newest allocas m leaves (reverse below) o pool.behind)

    pub read_all_seen : (os : List Origin) → had_all (drop m.first leaves) os ≡ read_all (newest s.frames) (map origin_of os)
    read_all_seen os = rw (← is) (read_all_newest allocas m leaves (reverse below) os pool.behind)

    pub weight_seen : weights s.frames ≡ length below + length leaves
    weight_seen = rw (← is) (weight_of leaves allocas m below (reverse below) (length-reverse below) pool.behind)

    pub one_more_seen : (p : Pointer) → seen leaves (allocas ++ p ∷ []) m below widest ≡ changed (with_alloca p) s
    one_more_seen p = rw (← is) (ap (λ fs. record { frames = fs; widest = widest }) (one_more leaves m allocas (reverse below) p pool.behind))

-- ---- the last alloca

module _ (leaves : List Scalar) (rest : List Pointer) (p : Pointer) (m : Mark) (below : List Mark) (widest : ℕ) (s : UnderWay) (is : seen leaves (rest ++ p ∷ []) m below widest ≡ s) (there : m.allocas ≤ length rest) where
  pub one_less_seen : seen leaves rest m below widest ≡ changed without_alloca s
  one_less_seen = rw (← is) (ap (λ fs. record { frames = fs; widest = widest }) (one_less leaves m rest (reverse below) p there))

  pub last_seen : IsRunning s.frames → Some p ≡ first_alloca (newest s.frames).allocas
  last_seen h = rw (← is) (last_is leaves m rest (reverse below) p (still_running leaves m (rest ++ p ∷ []) rest (reverse below) (rw (← is) at h)) there)

module _ (leaves : List Scalar) (allocas : List Pointer) (m : Mark) (below : List Mark) (widest : ℕ) (s : UnderWay) (is : seen leaves allocas m below widest ≡ s) (none : length allocas ≡ m.allocas) where
  pub none_less_seen : s ≡ changed without_alloca s
  none_less_seen = rw (← is) (ap (λ fs. record { frames = fs; widest = widest }) (none_left leaves m allocas (reverse below) none))

  pub none_last_seen : None ≡ first_alloca (newest s.frames).allocas
  none_last_seen = rw (← is) (none_first leaves m allocas (reverse below) none)
