-- The indices of `getelementptr`, one after the other.
use Rattle.std.proofs.Common.{◌≡◌, ℕ, ◌+◌, ◌<◌, ◌≤◌, Bool, true, false, ◌&&◌, List, [], ◌∷◌, take, arith, map, drop, length, get_or, slice_get, Some, None, refl, sym, ap, ◌∙◌}
use Rattle.std.proofs.lemmas.List.{drop_all, take_all}
use Rattle.std.proofs.lemmas.List.Folds.{list_all-map}
use Rattle.std.specs.List.{list_all}
use Rattle.std.proofs.lemmas.Option.{slice_get-get_or}
use Rattle.type_table.specs.Tree.{Tree, Structs}
use Rattle.entry_verify.proofs.OnConstants.LeadsTold.{index_fails, index_leads, left_is}
use Rattle.module_arena.specs.Constants.{Index, indexed, indices_fit, leads_to_part}
use Rattle.module_arena.specs.Lists.{Lists}
use Rattle.module_arena.specs.Module.{LocalName}
use Rattle.module_arena.specs.ValueRules.{index_of_operand}
use Rattle.module_arena.specs.declared.instruction.Operand.{Operand}
use Rattle.module_arena.specs.TypeTests.{is_integer, opened}
use Rattle.instruction_verify.specs.ArenaOperands.{index_in, operand_in}

module _ {X : Type 0} where
  pub leads_on : (s : Structs) (t u : Tree) (f : X → Index) (xs : List X) (i : ℕ) (x : X) → i < length xs → x ≡ get_or xs i x → indexed (opened s t) (f x) ≡ Some u
      → leads_to_part s u (map f (drop (i + 1) xs)) ≡ leads_to_part s t (map f (drop i xs))
  leads_on s t u f xs i x lt is e =
      let at : slice_get xs i ≡ Some x = slice_get-get_or xs i x lt ∙ ap Some (sym is) in
      sym (ap (leads_to_part s t) (left_is f xs i x at) ∙ index_leads s t u (f x) (map f (drop (i + 1) xs)) e)

  pub leads_nowhere : (s : Structs) (t : Tree) (f : X → Index) (xs : List X) (i : ℕ) (x : X) → i < length xs → x ≡ get_or xs i x → indexed (opened s t) (f x) ≡ None
      → false ≡ leads_to_part s t (map f (drop i xs))
  leads_nowhere s t f xs i x lt is e =
      let at : slice_get xs i ≡ Some x = slice_get-get_or xs i x lt ∙ ap Some (sym is) in
      sym (ap (leads_to_part s t) (left_is f xs i x at) ∙ index_fails s t (f x) (map f (drop (i + 1) xs)) e)

  pub leads_end : (s : Structs) (t : Tree) (f : X → Index) (xs : List X) (i : ℕ) → length xs ≤ i → true ≡ leads_to_part s t (map f (drop i xs))
  leads_end s t f xs i le = sym (ap (λ ys. leads_to_part s t (map f ys)) (drop_all i xs le))

  -- a first index, and the others
  pub indices_told : (s : Structs) (source : Tree) (f : X → Index) (n : ℕ) (xs : List X) (all leads : Bool) → 1 ≤ length xs → length xs ≤ n + 1 → all ≡ list_all (λ (x : X). is_integer (f x).ty) xs
      → leads ≡ leads_to_part s source (map f (take n (drop 1 xs))) → (all && leads) ≡ indices_fit s source (map f xs)
  indices_told s source f n [] all leads some le whole part = absurd (omega (arith, some))
  indices_told s source f n (x ∷ xs) all leads some le whole part =
      let integers = whole ∙ sym (list_all-map (λ (i : Index). is_integer i.ty) f (x ∷ xs)) in
      let rest = part ∙ ap (λ (ys : List X). leads_to_part s source (map f ys)) (take_all n xs (omega (arith, le))) in
      λ j. integers j && rest j

-- the indices of an instruction
pub indices_listed : (a : Lists) (values blocks : List LocalName) (os : List Operand) → map (index_in a values blocks) os ≡ map index_of_operand (map (operand_in a values blocks) os)
indices_listed a values blocks [] = refl
indices_listed a values blocks (o ∷ os) = ap (λ is. index_in a values blocks o ∷ is) (indices_listed a values blocks os)
