-- Indices, one after the other.
use Rattle.std.proofs.Common.{◌≡◌, ℕ, zero, suc, ◌+◌, ◌<◌, ◌≤◌, Bool, false, ◌&&◌, List, [], ◌∷◌, map, drop, take, length, get_or, slice_get, Option, Some, None, sym, ap, ◌∙◌, arith}
use Rattle.std.specs.List.{list_all}
use Rattle.std.specs.Option.{option_map}
use Rattle.std.proofs.lemmas.List.{take_all}
use Rattle.std.proofs.lemmas.List.Folds.{list_all-map}
use Rattle.std.proofs.lemmas.Option.{none-some, same_Some, slice_get-get_or}
use Rattle.type_table.specs.Tree.{Tree, Structs}
use Rattle.type_table.specs.Types.{Types, tree, structs}
use Rattle.module_arena.specs.declared.constant.TypedConst.{TypedConst}
use Rattle.module_arena.specs.Constants.{Index, indexed, indices_fit, leads_to_part, written_number}
use Rattle.module_arena.specs.Lists.{Lists}
use Rattle.module_arena.specs.TypeTests.{opened, is_integer, is_pointer, is_type}
use Rattle.module_arena.specs.View.{constant_at, constants_of}
use Rattle.entry_verify.specs.Constants.ConstantParts.{are_element_operands, index_at}

pub index_leads : (s : Structs) (t u : Tree) (i : Index) (is : List Index) → indexed (opened s t) i ≡ Some u → leads_to_part s t (i ∷ is) ≡ leads_to_part s u is
index_leads s t u i is e = ap (is_type (λ part. leads_to_part s part is)) e

pub index_fails : (s : Structs) (t : Tree) (i : Index) (is : List Index) → indexed (opened s t) i ≡ None → leads_to_part s t (i ∷ is) ≡ false
index_fails s t i is e = ap (is_type (λ part. leads_to_part s part is)) e

left_from : {X Y : Type 0} (f : X → Y) (xs : List X) (i : ℕ) (x : X) → slice_get xs i ≡ Some x → map f (drop i xs) ≡ f x ∷ map f (drop (suc i) xs)
left_from f [] i x e = absurd (none-some x e)
left_from f (y ∷ xs) zero x e = ap (λ z. f z ∷ map f xs) (same_Some y x e)
left_from f (y ∷ xs) (suc i) x e = left_from f xs i x e

pub left_is : {X Y : Type 0} (f : X → Y) (xs : List X) (i : ℕ) (x : X) → slice_get xs i ≡ Some x → map f (drop i xs) ≡ f x ∷ map f (drop (i + 1) xs)
left_is f xs i x e =
    let next : suc i ≡ i + 1 = omega arith in
    left_from f xs i x e ∙ ap (λ n. f x ∷ map f (drop n xs)) next

module _ (a : Lists) (t : Types) (same : t ≡ a.table) where
  -- an index as it is read
  index_read : (x : TypedConst) (number : Option ℕ) → number ≡ written_number (constant_at (constants_of a) x.value) → record { ty = tree t x.ty; number = number } ≡ index_at a x
  index_read x number e = λ j. record { ty = tree (same j) x.ty; number = e j }

  part_read : (ty : ℕ) (x : TypedConst) (number part : Option ℕ) → number ≡ written_number (constant_at (constants_of a) x.value)
      → option_map (tree t) part ≡ indexed (opened (structs t) (tree t ty)) (record { ty = tree t x.ty; number = number })
      → indexed (opened (structs a.table) (tree a.table ty)) (index_at a x) ≡ option_map (tree a.table) part
  part_read ty x number part n e =
      (λ j. indexed (opened (structs (sym same j)) (tree (sym same j) ty)) (sym (index_read x number n) j))
      ∙ sym e
      ∙ ap (λ (u : Types). option_map (tree u) part) same

  -- the index at a place leads on
  pub leads_on : (xs : List TypedConst) (i ty part : ℕ) (x : TypedConst) (number : Option ℕ) → i < length xs → x ≡ get_or xs i x → number ≡ written_number (constant_at (constants_of a) x.value)
      → Some (tree t part) ≡ indexed (opened (structs t) (tree t ty)) (record { ty = tree t x.ty; number = number })
      → leads_to_part (structs a.table) (tree a.table part) (map (index_at a) (drop (i + 1) xs)) ≡ leads_to_part (structs a.table) (tree a.table ty) (map (index_at a) (drop i xs))
  leads_on xs i ty part x number lt is n e =
      sym
      (ap (leads_to_part (structs a.table) (tree a.table ty)) (left_is (index_at a) xs i x (slice_get-get_or xs i x lt ∙ ap Some (sym is)))
      ∙ index_leads (structs a.table) (tree a.table ty) (tree a.table part) (index_at a x) (map (index_at a) (drop (i + 1) xs)) (part_read ty x number (Some part) n e))

  -- the index at a place leads nowhere
  pub leads_nowhere : (xs : List TypedConst) (i ty : ℕ) (x : TypedConst) (number : Option ℕ) → i < length xs → x ≡ get_or xs i x → number ≡ written_number (constant_at (constants_of a) x.value)
      → None ≡ indexed (opened (structs t) (tree t ty)) (record { ty = tree t x.ty; number = number })
      → leads_to_part (structs a.table) (tree a.table ty) (map (index_at a) (drop i xs)) ≡ false
  leads_nowhere xs i ty x number lt is n e =
      ap (leads_to_part (structs a.table) (tree a.table ty)) (left_is (index_at a) xs i x (slice_get-get_or xs i x lt ∙ ap Some (sym is)))
      ∙ index_fails (structs a.table) (tree a.table ty) (index_at a x) (map (index_at a) (drop (i + 1) xs)) (part_read ty x number None n e)

  -- one index or more
  pub indices_told : (source n : ℕ) (xs : List TypedConst) (all leads : Bool) → 1 ≤ length xs → length xs ≤ n + 1 → all ≡ list_all (λ (x : TypedConst). is_integer (tree t x.ty)) xs
      → leads ≡ leads_to_part (structs a.table) (tree a.table source) (map (index_at a) (take n (drop 1 xs))) → (all && leads) ≡ indices_fit (structs a.table) (tree a.table source) (map (index_at a) xs)
  indices_told source n [] all leads some le whole part = absurd (omega (arith, some))
  indices_told source n (x ∷ xs) all leads some le whole part =
      let integers = whole ∙ ap (λ (u : Types). list_all (λ (y : TypedConst). is_integer (tree u y.ty)) (x ∷ xs)) same ∙ sym (list_all-map (λ (i : Index). is_integer i.ty) (index_at a) (x ∷ xs)) in
      let rest = part ∙ ap (λ (ys : List TypedConst). leads_to_part (structs a.table) (tree a.table source) (map (index_at a) ys)) (take_all n xs (omega (arith, le))) in
      λ j. integers j && rest j

  -- a base, and indices
  pub operands_told : (source n : ℕ) (xs : List TypedConst) (base : TypedConst) (points steps : Bool) → 1 ≤ length xs → length xs ≤ n + 1 → base ≡ get_or xs 0 base → points ≡ is_pointer (tree t base.ty)
      → steps ≡ indices_fit (structs a.table) (tree a.table source) (map (index_at a) (take n (drop 1 xs))) → (points && steps) ≡ are_element_operands (structs a.table) (tree a.table source) (map (index_at a) xs)
  operands_told source n [] base points steps some le is p s = absurd (omega (arith, some))
  operands_told source n (x ∷ xs) base points steps some le is p s =
      let rest = s ∙ ap (λ (ys : List TypedConst). indices_fit (structs a.table) (tree a.table source) (map (index_at a) ys)) (take_all n xs (omega (arith, le))) in
      λ j. (p ∙ (λ i. is_pointer (tree (same i) (is i).ty))) j && rest j
