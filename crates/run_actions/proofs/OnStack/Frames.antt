-- The newest frame, and where it lies.
use Rattle.std.proofs.Common.{◌≡◌, ℕ, suc, ◌+◌, ◌-◌, ◌<◌, ◌≤◌, List, [], ◌∷◌, length, take, drop, map, refl, sym, ap, subst, ◌∙◌, arith}
use Rattle.std.specs.Prelude.{All}
use Rattle.std.proofs.lemmas.List.{length-drop, drop_all}
use Rattle.ir_eval.specs.declared.value.Pointer.{Pointer}
use Rattle.ir_eval.specs.declared.value.Scalar.{Scalar}
use Rattle.run_rules.specs.Action as actions
use Rattle.run_rules.specs.Frame.{read, read_all}
use Rattle.run_rules.specs.State.{Frame}
use Rattle.run_actions.specs.declared.stack.mark.Mark.{Mark}
use Rattle.run_actions.specs.declared.stack.origin.Origin.{Origin}
use Rattle.run_actions.specs.Stack.Origins.{origin_of, IsIn, had, had_all}
use Rattle.run_actions.specs.Stack.Pool.{frame_of, frames_of, AreBehind}
use Rattle.run_actions.specs.Stack.UnderWay.{newest, IsRunning}

-- what is read of a frame is had from its leaves
pub read_is : (f : Frame) (o : actions.Origin) → read f o ≡ had f.leaves o
read_is f (actions.Held place) = refl
read_is f (actions.Known leaf) = refl

module _ (allocas : List Pointer) (m : Mark) where
  -- the newest frame is the one at the last mark
  pub newest_is : (leaves : List Scalar) (ns : List Mark) → IsRunning (frames_of leaves allocas m ns) → newest (frames_of leaves allocas m ns) ≡ frame_of m leaves allocas
  newest_is leaves [] h = absurd h
  newest_is leaves (n ∷ ns) h = refl

  -- it begins within the pool
  pub first_within : (leaves : List Scalar) (ns : List Mark) → AreBehind (length leaves) (length allocas) m ns → m.first ≤ length leaves
  first_within leaves [] h = omega (arith, h.2)
  first_within leaves (n ∷ ns) h = h.0

  -- its leaves are those from there on, also where there is none
  pub leaves_newest : (leaves : List Scalar) (ns : List Mark) → AreBehind (length leaves) (length allocas) m ns → (newest (frames_of leaves allocas m ns)).leaves ≡ drop m.first leaves
  leaves_newest leaves [] h = sym (drop_all m.first leaves (omega (arith, h.0)))
  leaves_newest leaves (n ∷ ns) h = refl

  pub length_newest : (leaves : List Scalar) (ns : List Mark) → AreBehind (length leaves) (length allocas) m ns → length (newest (frames_of leaves allocas m ns)).leaves ≡ length leaves - m.first
  length_newest leaves ns h = ap length (leaves_newest leaves ns h) ∙ length-drop m.first leaves

  -- a place in it is one of the pool
  pub place_in_pool : (leaves : List Scalar) (ns : List Mark) (place : ℕ) → AreBehind (length leaves) (length allocas) m ns → place < length (newest (frames_of leaves allocas m ns)).leaves → m.first + place < length leaves
  place_in_pool leaves ns place h l =
      let within = first_within leaves ns h in
      omega (arith, within, l, length_newest leaves ns h)

  pub place_within : (leaves : List Scalar) (ns : List Mark) (o : Origin) → AreBehind (length leaves) (length allocas) m ns → IsIn (length (newest (frames_of leaves allocas m ns)).leaves) o → IsIn (length leaves - m.first) o
  place_within leaves ns o h l = subst (λ k. IsIn k o) (length_newest leaves ns h) l

  pub places_within : (leaves : List Scalar) (ns : List Mark) (os : List Origin) → AreBehind (length leaves) (length allocas) m ns → All (IsIn (length (newest (frames_of leaves allocas m ns)).leaves)) os → All (IsIn (length leaves - m.first)) os
  places_within leaves ns os h l = subst (λ k. All (IsIn k) os) (length_newest leaves ns h) l

  -- what is had from the pool is read of it
  pub read_newest : (leaves : List Scalar) (ns : List Mark) (o : Origin) → AreBehind (length leaves) (length allocas) m ns → had (drop m.first leaves) (origin_of o) ≡ read (newest (frames_of leaves allocas m ns)) (origin_of o)
  read_newest leaves ns o h =
      let f = newest (frames_of leaves allocas m ns) in
      ap (λ (l : List Scalar). had l (origin_of o)) (sym (leaves_newest leaves ns h)) ∙ sym (read_is f (origin_of o))

  pub read_all_newest : (leaves : List Scalar) (ns : List Mark) (os : List Origin) → AreBehind (length leaves) (length allocas) m ns → had_all (drop m.first leaves) os ≡ read_all (newest (frames_of leaves allocas m ns)) (map origin_of os)
  read_all_newest leaves ns [] h = refl
  read_all_newest leaves ns (o ∷ os) h = rw (read_newest leaves ns o h, read_all_newest leaves ns os h) refl

-- there are as many frames as marks below the newest
pub count_of : (leaves : List Scalar) (allocas : List Pointer) (m : Mark) (ns : List Mark) → length (frames_of leaves allocas m ns) ≡ length ns
count_of leaves allocas m [] = refl
count_of leaves allocas m (n ∷ ns) = ap suc (count_of (take m.first leaves) (take m.allocas allocas) n ns)
