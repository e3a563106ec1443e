-- Leaves that are stored by their slots, no more than there are of either.
use Rattle.std.proofs.Common.{◌≡◌, ℕ, zero, suc, ◌≤◌, All, List, [], ◌∷◌, length, map, take, min, refl, ap, arith}
use Rattle.std.specs.Prelude.{zip}
use Rattle.std.proofs.lemmas.List.Elements.{All-cons, All-head, All-nil, All-tail}
use Rattle.ir_memory.specs.Given.{IsLeaf}
use Rattle.run_rules.specs.Leaves.{Slot}
use Rattle.run_actions.specs.declared.stack.origin.Origin.{Origin}
use Rattle.run_actions.specs.Stack.UnderWay.{UnderWay}
use Rattle.run_actions.specs.Operands.{IsThere, leaf_of}
use Rattle.typed_runs.specs.States.{AreStored}
use Rattle.run_acts.specs.Classes.May.{IsStorable}

-- the fronts of two lists, as long as the shorter, give all pairs
pub zip_front : {A B C : Type 0} (f : B → C) (n : ℕ) (xs : List A) (ys : List B) → min (length xs) (length ys) ≤ n → zip (take n xs) (map f (take n ys)) ≡ zip xs (map f ys)
zip_front f zero [] ys h = refl
zip_front f zero (x ∷ xs) [] h = refl
zip_front f zero (x ∷ xs) (y ∷ ys) h = absurd (omega (arith, h))
zip_front f (suc n) [] ys h = refl
zip_front f (suc n) (x ∷ xs) [] h = refl
zip_front f (suc n) (x ∷ xs) (y ∷ ys) h = ap (λ zs. (x, f y) ∷ zs) (zip_front f n xs ys (omega (arith, h)))

-- pairs of what the second items are in an action
pub zip_mapped : {A B C : Type 0} (f : B → C) (xs : List A) (ys : List B) → zip xs (map f ys) ≡ map (λ (x : A × B). (x.0, f x.1)) (zip xs ys)
zip_mapped f [] ys = refl
zip_mapped f (x ∷ xs) [] = refl
zip_mapped f (x ∷ xs) (y ∷ ys) = ap (λ zs. (x, f y) ∷ zs) (zip_mapped f xs ys)

-- what a store asks for
pub record ArePaired (count : ℕ) (s : UnderWay) (slots : List Slot) (value : List Origin) : Type 0 where
  pub count_same : length value ≡ length slots
  pub leaves : All (λ (x : Slot). IsLeaf x.leaf) slots
  pub there : All (IsThere s) value
  pub stored : AreStored count (zip slots (map (leaf_of s) value))

pub paired : (count : ℕ) (s : UnderWay) (n : ℕ) (slots : List Slot) (value : List Origin) → n ≡ min (length slots) (length value) → All (IsStorable count s) (zip slots value) → ArePaired count s (take n slots) (take n value)
paired count s zero slots value e h = record { count_same = refl; leaves = All-nil (λ (x : Slot). IsLeaf x.leaf); there = All-nil (IsThere s); stored = tt }
paired count s (suc n) [] value e h = absurd (omega (arith, e))
paired count s (suc n) (x ∷ xs) [] e h = absurd (omega (arith, e))
paired count s (suc n) (x ∷ xs) (y ∷ ys) e h =
    let first = All-head (IsStorable count s) (x, y) (zip xs ys) h in
    let rest = paired count s n xs ys (omega (arith, e)) (All-tail (IsStorable count s) (x, y) (zip xs ys) h) in
    record {
      count_same = ap suc rest.count_same;
      leaves = All-cons (λ (x : Slot). IsLeaf x.leaf) x (take n xs) first.0 rest.leaves;
      there = All-cons (IsThere s) y (take n ys) first.1 rest.there;
      stored = (first.2, rest.stored);
    }
