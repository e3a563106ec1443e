-- Values of many leaves, put together.
use Rattle.std.proofs.Common.{◌≡◌, ℕ, ◌+◌, ◌<◌, ◌≤◌, List, [], ◌∷◌, length, get_or, map, sym, ap, ◌∙◌, arith}
use Rattle.std.proofs.lemmas.List.{length-map}
use Rattle.std.proofs.lemmas.Simd.{map-map}
use Rattle.ir_eval.specs.declared.value.Scalar.{Scalar}
use Rattle.ir_eval.specs.Operators.{freeze_of, select_of}
use Rattle.run_rules.specs.Action.{Gather, Select, Freeze}
use Rattle.run_rules.specs.Frame.{read_all, with_result}
use Rattle.run_rules.specs.State.{goes}
use Rattle.run_actions.specs.declared.stack.origin.Origin.{Origin}
use Rattle.run_actions.specs.Stack.Origins.{origin_of}
use Rattle.run_actions.specs.Stack.UnderWay.{UnderWay, newest, changed, Fits, IsRunning}
use Rattle.run_actions.specs.declared.values.Arm.{Arm}
use Rattle.run_actions.specs.declared.values.FrozenLeaf.{FrozenLeaf}
use Rattle.run_actions.specs.Carried.{IsCarriedOut}
use Rattle.run_actions.specs.Operands.{leaf_of}
use Rattle.run_actions.specs.Values.{arm_of, part_of}
use Rattle.run_actions.proofs.Carried.{carried}

-- a value has its places where there is room for as many leaves
pub fits_from : (count to : ℕ) (value : List Scalar) → (0 < length value → to + length value ≤ count) → Fits count to value
fits_from count to [] h = tt
fits_from count to (v ∷ vs) h = h (omega arith)

-- a list of one item
pub one_item : {A : Type 0} (xs : List A) (x : A) → length xs ≡ 1 → x ≡ get_or xs 0 x → xs ≡ x ∷ []
one_item [] x long e = absurd (omega (arith, long))
one_item (y ∷ []) x long e = ap (λ z. z ∷ []) (sym e)
one_item (y ∷ z ∷ zs) x long e = absurd (omega (arith, long))

-- as many leaves are read as there are operands
pub length_read : (s : UnderWay) (value : List Origin) → length (read_all (newest s.frames) (map origin_of value)) ≡ length value
length_read s value = length-map (map origin_of value) _ ∙ length-map value origin_of

module _ (to : ℕ) (old new : UnderWay) (result : List Scalar) (running : IsRunning old.frames) (is : new ≡ changed (λ f. with_result f to result) old) where
  pub gathers : (value : List Origin) → result ≡ read_all (newest old.frames) (map origin_of value) → IsCarriedOut (Gather to (map origin_of value)) old new
  gathers value e =
      carried (Gather to (map origin_of value)) (λ f. with_result f to result) old new running is (λ table c. ap (λ (vs : List Scalar). goes (with_result (newest old.frames) to vs) c) (sym e))

  pub selects : (condition : Origin) (arms : List Arm) → result ≡ map (λ a. select_of (leaf_of old condition) (leaf_of old a.first) (leaf_of old a.second)) arms
      → IsCarriedOut (Select to (origin_of condition) (map arm_of arms)) old new
  selects condition arms e =
      carried (Select to (origin_of condition) (map arm_of arms)) (λ f. with_result f to result) old new running is
      (λ table c. ap (λ (vs : List Scalar). goes (with_result (newest old.frames) to vs) c) (map-map _ arm_of arms ∙ sym e))

  pub freezes : (value : List FrozenLeaf) → result ≡ map (λ p. freeze_of p.pointer (leaf_of old p.value)) value → IsCarriedOut (Freeze to (map part_of value)) old new
  freezes value e =
      carried (Freeze to (map part_of value)) (λ f. with_result f to result) old new running is
      (λ table c. ap (λ (vs : List Scalar). goes (with_result (newest old.frames) to vs) c) (map-map _ part_of value ∙ sym e))
