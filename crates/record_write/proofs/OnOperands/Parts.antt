-- The parts of a constant.
use Rattle.std.proofs.Common.{◌≡◌, ℕ, zero, suc, ◌+◌, ◌-◌, ◌<◌, ◌≤◌, max, All, List, [], ◌∷◌, ◌++◌, Result, length, take, drop, get_or, OnOk, false, refl, sym, ap, ◌∙◌, subst, arith}
use Rattle.std.specs.Prelude.{nat_eq}
use Rattle.std.proofs.lemmas.Bool.{false≢true}
use Rattle.type_table.specs.Tree.{Tree}
use Rattle.type_table.specs.Types.{tree}
use Rattle.module_arena.specs.Changes.{constant_in}
use Rattle.module_arena.specs.declared.constant.Const.{Const}
use Rattle.module_arena.specs.declared.constant.TypedConst.{TypedConst}
use Rattle.module_arena.specs.Lists.{Lists}
use Rattle.module_arena.specs.Module as m
use Rattle.record_table.specs.Constants.{form_code, count_constants, spell_constant, spell_operands, spell_parts, spell_typed}
use Rattle.record_table.specs.Standing.{Stands, AllStand}
use Rattle.record_write.specs.Operands.Numbered.{indices, constant_of, constants_in}
use Rattle.record_write.specs.Operands.Wide.{HasTyped, form_in}
use Rattle.record_write.proofs.OnOperands.Chain.{behind}

-- above all of them
abbrev pub top : List TypedConst → ℕ
top [] = 0
top (part ∷ parts) = max (part.value + 1) (top parts)

pub below_top : (parts : List TypedConst) (place : ℕ) (d : TypedConst) → place < length parts → (get_or parts place d).value < top parts
below_top [] place d h = absurd (omega arith)
below_top (part ∷ parts) zero d h = omega arith
below_top (part ∷ parts) (suc place) d h = let again = below_top parts place d (omega (arith, h)) in omega (arith, again, h)

pub top_within : (types : ℕ) (parts : List TypedConst) (bound : ℕ) → All (λ part. (part.ty < types) × (part.value < bound)) parts → top parts ≤ bound
top_within types [] bound h = omega arith
top_within types (part ∷ parts) bound h =
    let again = top_within types parts bound (λ k d lt. h (suc k) d (omega (arith, lt))) in
    let here = (h 0 part (omega arith)).1 in
    omega (arith, again, here)

-- parts of an earlier number are parts of the arena
pub all_parts : (a : Lists) (id : ℕ) (parts : List TypedConst) → id < length a.constants → All (λ t. (t.ty < length a.table.types) × (t.value < id)) parts → All (HasTyped a) parts
all_parts a id parts lt h = λ k d l. let here = h k d l in let less = here.1 in record { ty = here.0; value = omega (arith, less, lt) }

-- one of them is
pub one_part : (a : Lists) (id : ℕ) (part : TypedConst) → id < length a.constants → (part.ty < length a.table.types) × (part.value < id) → HasTyped a part
one_part a id part lt h = let less = h.1 in record { ty = h.0; value = omega (arith, less, lt) }

-- all but the first
abbrev pub rest_of : List TypedConst → List TypedConst
rest_of parts = take (length parts - 1) (drop 1 parts)

take_length : (xs : List TypedConst) → take (length xs) xs ≡ xs
take_length [] = refl
take_length (x ∷ xs) = ap (λ (ys : List TypedConst). x ∷ ys) (take_length xs)

rest_is : (x : TypedConst) (xs : List TypedConst) → rest_of (x ∷ xs) ≡ xs
rest_is x xs = ap (λ (n : ℕ). take n xs) (omega arith) ∙ take_length xs

module _ (a : Lists) where
  -- what a part spells, and what the parts do
  abbrev pub part_spelled : TypedConst → List ℕ
  part_spelled part = spell_constant (indices a) (tree a.table part.ty) (constant_of a part.value)

  abbrev pub parts_spelled : List TypedConst → List ℕ
  parts_spelled parts = spell_parts (indices a) (constants_in a parts)

  abbrev pub typed_spelled : List TypedConst → List ℕ
  typed_spelled parts = spell_typed (indices a) (constants_in a parts)

  -- as many as there are
  pub many_parts : (parts : List TypedConst) → count_constants (constants_in a parts) ≡ length parts
  many_parts [] = refl
  many_parts (part ∷ parts) = ap suc (many_parts parts)

  -- each of some that stand does
  pub one_stands : (parts : List TypedConst) (k : ℕ) (part : TypedConst) → AllStand (constants_in a parts) → k < length parts → part ≡ get_or parts k part → Stands (tree a.table part.ty) (constant_of a part.value)
  one_stands [] k part all lt is = absurd (omega arith)
  one_stands (x ∷ parts) zero part all lt is = subst (λ (y : TypedConst). Stands (tree a.table y.ty) (constant_of a y.value)) (sym is) all.0
  one_stands (x ∷ parts) (suc k) part all lt is = one_stands parts k part all.1 (omega (arith, lt)) is

  -- the first of some, and what stands behind it
  pub first_part : (parts : List TypedConst) (base : TypedConst) → nat_eq (length parts) 0 ≡ false → base ≡ get_or parts 0 base → AllStand (constants_in a parts)
      → Stands (tree a.table base.ty) (constant_of a base.value) × AllStand (constants_in a (rest_of parts)) × (part_spelled base ++ (length (rest_of parts) ∷ typed_spelled (rest_of parts)) ≡ spell_operands (indices a) (constants_in a parts))
  first_part [] base some is all = absurd (false≢true (sym some))
  first_part (x ∷ xs) base some is all = (
    one_stands (x ∷ xs) 0 base all (omega arith) is,
    subst (λ (ps : List TypedConst). AllStand (constants_in a ps)) (sym (rest_is x xs)) all.1,
    ap (λ (y : TypedConst). part_spelled y ++ (length (rest_of (x ∷ xs)) ∷ typed_spelled (rest_of (x ∷ xs)))) is
        ∙ ap (λ (ps : List TypedConst). part_spelled x ++ (length ps ∷ typed_spelled ps)) (rest_is x xs)
        ∙ ap (λ (n : ℕ). part_spelled x ++ (n ∷ typed_spelled xs)) (sym (many_parts xs)),
  )

  -- a constant that is `known` stands as its form says
  pub stands_as : (t : Tree) (id : ℕ) (known form : Const) → constant_of a id ≡ constant_in a known → known ≡ form → Stands t (constant_of a id) → Stands t (constant_in a form)
  stands_as t id known form here is stands = subst (λ (c : m.Constant). Stands t c) (here ∙ ap (constant_in a) is) stands

  -- its form, and what stands behind it
  pub form_put : {E : Type 0} (t : Tree) (id : ℕ) (known form : Const) (rest : List ℕ) → constant_of a id ≡ constant_in a known → known ≡ form → form_code (form_in form) ∷ rest ≡ spell_constant (indices a) t (constant_in a form)
      → (r : Result (Unit {0}) E) (o m n : List ℕ) → m ≡ o ++ form_code (form_in known) ∷ [] → OnOk r (n ≡ m ++ rest) → OnOk r (n ≡ o ++ spell_constant (indices a) t (constant_of a id))
  form_put t id known form rest here is spelled r o m n e f =
      behind r o (form_code (form_in known) ∷ []) rest (spell_constant (indices a) t (constant_of a id)) m n e f
      (ap (λ (c : Const). form_code (form_in c) ∷ rest) is ∙ spelled ∙ ap (spell_constant (indices a) t) (sym (here ∙ ap (constant_in a) is)))

  -- a form with nothing behind it
  pub leaf_put : (t : Tree) (id : ℕ) (known : Const) → constant_of a id ≡ constant_in a known → form_code (form_in known) ∷ [] ≡ spell_constant (indices a) t (constant_in a known) → (o m : List ℕ) → m ≡ o ++ form_code (form_in known) ∷ [] → m ≡ o ++ spell_constant (indices a) t (constant_of a id)
  leaf_put t id known here spelled o m e = e ∙ ap (λ (l : List ℕ). o ++ l) (spelled ∙ ap (spell_constant (indices a) t) (sym here))
