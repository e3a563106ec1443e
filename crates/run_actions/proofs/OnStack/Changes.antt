-- What is done to the newest frame is done in the pool, and to no other frame.
use Rattle.std.proofs.Common.{◌≡◌, ℕ, ◌+◌, ◌<◌, ◌≤◌, List, [], ◌∷◌, ◌++◌, length, take, drop, set, reverse, refl, ap, ◌∙◌, arith}
use Rattle.std.proofs.lemmas.List.{append-nil, drop_all, drop-set-add, length-set, take-set-le, take_all}
use Rattle.ir_eval.specs.declared.value.Pointer.{Pointer}
use Rattle.ir_eval.specs.declared.value.Scalar.{Scalar}
use Rattle.run_rules.specs.Frame.{with_leaves, with_value, moved_on}
use Rattle.run_actions.specs.declared.stack.mark.Mark.{Mark}
use Rattle.run_actions.specs.Stack.Pool.{frames_of, AreBehind, IsPool}
use Rattle.run_rules.specs.State.{Frame}
use Rattle.run_actions.specs.Stack.UnderWay.{UnderWay, newest, on_newest, changed, IsRunning, Fits}
use Rattle.run_actions.proofs.OnStack.Frames.{first_within, length_newest}

-- what was made of a whole slice is what the vector has
pub put_back : {A : Type 0} (n : ℕ) (new old : List A) → length new ≡ length old → n ≡ length old → take n (new ++ drop (length new) old) ≡ new
put_back n new old long whole =
    let none : drop (length new) old ≡ [] = drop_all (length new) old (omega (arith, long)) in
    ap (λ xs. take n (new ++ xs)) none ∙ ap (take n) (append-nil new) ∙ take_all n new (omega (arith, long, whole))

-- a value's leaves in the pool
pub drop_with : (first to : ℕ) (vs leaves : List Scalar) → drop first (with_leaves leaves (first + to) vs) ≡ with_leaves (drop first leaves) to vs
drop_with first to [] leaves = refl
drop_with first to (v ∷ vs) leaves =
    let next : first + to + 1 ≡ first + (to + 1) = omega arith in
    rw next (drop_with first (to + 1) vs (set leaves (first + to) v) ∙ ap (λ (l : List Scalar). with_leaves l (to + 1) vs) (drop-set-add first leaves to v))

pub take_with : (first to : ℕ) (vs leaves : List Scalar) → take first (with_leaves leaves (first + to) vs) ≡ take first leaves
take_with first to [] leaves = refl
take_with first to (v ∷ vs) leaves =
    let next : first + to + 1 ≡ first + (to + 1) = omega arith in
    rw next (take_with first (to + 1) vs (set leaves (first + to) v) ∙ take-set-le first leaves (first + to) v (omega arith))

pub length_with : (to : ℕ) (vs leaves : List Scalar) → length (with_leaves leaves to vs) ≡ length leaves
length_with to [] leaves = refl
length_with to (v ∷ vs) leaves = length_with (to + 1) vs (set leaves to v) ∙ length-set leaves to v

-- a value with no leaf changes nothing
newest_alone : (fs : List Frame) (to : ℕ) → fs ≡ on_newest (λ f. with_value f to []) fs
newest_alone [] to = refl
newest_alone (f ∷ fs) to = refl

pub changed_none : (s : UnderWay) (to : ℕ) (vs : List Scalar) → length vs ≡ 0 → s ≡ changed (λ f. with_value f to vs) s
changed_none s to [] e = ap (λ fs. record s { frames = fs }) (newest_alone s.frames to)
changed_none s to (v ∷ vs) e = cc

module _ (allocas : List Pointer) (m : Mark) where
  -- one leaf is set
  pub set_newest : (leaves : List Scalar) (ns : List Mark) (to : ℕ) (v : Scalar) → to < length (newest (frames_of leaves allocas m ns)).leaves
      → frames_of (set leaves (m.first + to) v) allocas m ns ≡ on_newest (λ f. with_value f to (v ∷ [])) (frames_of leaves allocas m ns)
  set_newest leaves [] to v h = refl
  set_newest leaves (n ∷ ns) to v h = rw (drop-set-add m.first leaves to v, take-set-le m.first leaves (m.first + to) v (omega arith)) refl

  -- the leaves of a value are set
  pub set_many : (leaves : List Scalar) (ns : List Mark) (to : ℕ) (vs : List Scalar) → frames_of (with_leaves leaves (m.first + to) vs) allocas m ns ≡ on_newest (λ f. with_value f to vs) (frames_of leaves allocas m ns)
  set_many leaves [] to vs = refl
  set_many leaves (n ∷ ns) to vs = rw (drop_with m.first to vs leaves, take_with m.first to vs leaves) refl

  -- the leaves of a value are within the pool
  pub value_in_pool : (leaves : List Scalar) (ns : List Mark) (to : ℕ) (vs : List Scalar) → 0 < length vs → AreBehind (length leaves) (length allocas) m ns
      → Fits (length (newest (frames_of leaves allocas m ns)).leaves) to vs → m.first + to + length vs ≤ length leaves
  value_in_pool leaves ns to [] l h k = absurd (omega (arith, l))
  value_in_pool leaves ns to (v ∷ vs) l h k = let within = first_within allocas m leaves ns h in omega (arith, within, k, length_newest allocas m leaves ns h)

-- the next instruction is due
pub moved_on_newest : (leaves : List Scalar) (allocas : List Pointer) (m : Mark) (ns : List Mark) → IsRunning (frames_of leaves allocas m ns)
    → frames_of leaves allocas (record m { position = m.position + 1 }) ns ≡ on_newest moved_on (frames_of leaves allocas m ns)
moved_on_newest leaves allocas m [] h = refl
moved_on_newest leaves allocas m (n ∷ ns) h = refl

-- a mark that begins where another does lies as that one
pub lies_alike : (leaves allocas : ℕ) (m n : Mark) (ns : List Mark) → n.first ≡ m.first → n.allocas ≡ m.allocas → AreBehind leaves allocas m ns → AreBehind leaves allocas n ns
lies_alike leaves allocas m n [] e d h = (h.0, h.1, e ∙ h.2)
lies_alike leaves allocas m n (k ∷ ks) e d h = rw (e, d) h

pub pool_alike : (leaves allocas : ℕ) (m n : Mark) (below : List Mark) → n.first ≡ m.first → n.allocas ≡ m.allocas → IsPool leaves allocas m below → IsPool leaves allocas n below
pool_alike leaves allocas m n below e d h = record { behind = lies_alike leaves allocas m n (reverse below) e d h.behind; light = h.light }

-- as many leaves, and allocas, lie as they did
pub pool_as_long : (leaves more allocas : ℕ) (m : Mark) (below : List Mark) → more ≡ leaves → IsPool leaves allocas m below → IsPool more allocas m below
pool_as_long leaves more allocas m below e h = rw e h
