-- Operands of 64 bits, where they are no more than 64 bits count.
use Rattle.std.proofs.Common.{ℕ, ◌^◌, ◌<◌, ◌≤◌, Bool, List, [], ◌∷◌, ◌++◌, length, flat_map, arith}
use Rattle.std.specs.List.{AllByRecursion}
use Rattle.std.proofs.lemmas.Bool.{ltb-true}
use Rattle.std.proofs.lemmas.List.{length-append}
use Rattle.record_table.specs.Fields.{Numbering}
use Rattle.record_table.specs.Layout.{place}
use Rattle.record_table.specs.Listed.{IsListed}
use Rattle.record_law.proofs.OnTypes.Tests.{both_of}
use Rattle.bit_tree.specs.Sizes.Plain.{AreSmall}

pub record IsSmall (ns : List ℕ) : Type 0 where
  pub all : AreSmall ns

pub none : IsSmall []
none = record { all = λ few. tt }

pub next : (n : ℕ) (ns : List ℕ) → n < 2 ^ 64 → IsSmall ns → IsSmall (n ∷ ns)
next n ns less rest = record { all = λ few. (less, rest.all (omega (arith, few))) }

pub one : (n : ℕ) → n < 2 ^ 64 → IsSmall (n ∷ [])
one n less = next n [] less none

pub join : (xs ys : List ℕ) → IsSmall xs → IsSmall ys → IsSmall (xs ++ ys)
join xs ys front rest = record {
  all = λ few. let count = length-append xs ys in
      both_of (λ (n : ℕ). n < 2 ^ 64) xs ys (front.all (omega (arith, few, count))) (rest.all (omega (arith, few, count)));
}

-- as many as there are, of values that each take an operand
module _ {A : Type 0} (spell : A → List ℕ) where
  pub at_least : (xs : List A) → ((x : A) → 0 < length (spell x)) → length xs ≤ length (flat_map spell xs)
  at_least [] some = omega arith
  at_least (x ∷ xs) some = let one = some x in let others = at_least xs some in omega (arith, one, others, length-append (spell x) (flat_map spell xs))

  pub flat : (xs : List A) → AllByRecursion (λ x. IsSmall (spell x)) xs → IsSmall (flat_map spell xs)
  flat [] all = none
  flat (x ∷ xs) all = join (spell x) (flat_map spell xs) all.0 (flat xs all.1)

  pub counted : (xs : List A) → ((x : A) → 0 < length (spell x)) → AllByRecursion (λ x. IsSmall (spell x)) xs → IsSmall (length xs ∷ flat_map spell xs)
  counted xs some all =
      let count = at_least xs some in
      let others = flat xs all in
      record { all = λ few. (omega (arith, few, count), others.all (omega (arith, few))) }

-- the place of what is listed
pub indexed : {A : Type 0} (same : A → A → Bool) (all : List A) (other x : A) → IsListed same all other x → length all < 2 ^ 64 → place same all x < 2 ^ 64
indexed same all other x listed few = let less : place same all x < length all = ltb-true (place same all x) (length all) listed.inside in omega (arith, less, few)

-- lists of a module and of a body that 64 bits count
pub record AreFew (k : Numbering) : Type 0 where
  pub types : length k.types < 2 ^ 64
  pub globals : length k.globals < 2 ^ 64
  pub targets : length k.targets < 2 ^ 64
  pub values : length k.values < 2 ^ 64
  pub blocks : length k.blocks < 2 ^ 64
