-- What is known of some operands, one after the other.
use Rattle.std.proofs.Common.{◌≡◌, ℕ, ◌+◌, ◌<◌, Bool, true, ◌&&◌, List, [], ◌∷◌, ◌++◌, map, take, length, get_or, slice_get, Some, sym, ap, ◌∙◌}
use Rattle.std.proofs.lemmas.List.Folds.{list_all-append}
use Rattle.std.proofs.lemmas.Option.{slice_get-get_or}
use Rattle.type_table.specs.Types.{tree, structs}
use Rattle.entry_verify.proofs.OnConstants.ConstantsKnown.{own_structs, and_true}
use Rattle.entry_verify.proofs.OnConstants.WholeTold.{mapped_next}
use Rattle.module_arena.specs.Constants.{fits}
use Rattle.module_arena.specs.EntryRules.{constant_types_suit, takes_no_intrinsic}
use Rattle.module_arena.specs.InstructionRules.{value_takes_no_intrinsic, value_types_suit}
use Rattle.module_arena.specs.Lists.{Lists}
use Rattle.module_arena.specs.Module.{LocalName, Operand, Module}
use Rattle.module_arena.specs.TypeTests.{is_passable}
use Rattle.module_arena.specs.ValueRules.{value_fits}
use Rattle.module_arena.specs.View.{constant_at, constants_of, module_of}
use Rattle.module_arena.specs.declared.instruction.Value.TheVariants as value
use Rattle.instruction_verify.specs.ArenaOperands.{all_pass, both_operand_facts, operand_fact, operand_in, operands_fact}
use Rattle.instruction_verify.specs.declared.operands.OperandFact.{OperandFact}

pub both_pass : (f : OperandFact) → both_operand_facts f all_pass ≡ f
both_pass f = λ j. record {
  takes_no_intrinsic = and_true f.takes_no_intrinsic j;
  types_suit = and_true f.types_suit j;
  fits = and_true f.fits j;
}

module _ (m : Module) where
  -- one operand
  pub one_fact : (o : Operand) → operand_fact m o ≡ operands_fact m (o ∷ [])
  one_fact o = sym (both_pass (operand_fact m o))

  -- some operands behind others
  pub joined_facts : (xs ys : List Operand) → both_operand_facts (operands_fact m xs) (operands_fact m ys) ≡ operands_fact m (xs ++ ys)
  joined_facts xs ys = λ j. record {
    takes_no_intrinsic = sym (list_all-append (λ (o : Operand). value_takes_no_intrinsic m o.ty o.value) xs ys) j;
    types_suit = sym (list_all-append (λ (o : Operand). is_passable m.structs o.ty && value_types_suit m.structs o.ty o.value) xs ys) j;
    fits = sym (list_all-append (λ (o : Operand). value_fits m.structs o.ty o.value) xs ys) j;
  }

  -- one operand more
  pub next_fact : {X : Type 0} (f : X → Operand) (xs : List X) (i : ℕ) (x : X) → i < length xs → x ≡ get_or xs i x
      → both_operand_facts (operands_fact m (map f (take i xs))) (operand_fact m (f x)) ≡ operands_fact m (map f (take (i + 1) xs))
  next_fact f xs i x lt is =
      let at : slice_get xs i ≡ Some x = slice_get-get_or xs i x lt ∙ ap Some (sym is) in
      ap (both_operand_facts (operands_fact m (map f (take i xs)))) (one_fact (f x))
      ∙ joined_facts (map f (take i xs)) (f x ∷ [])
      ∙ ap (operands_fact m) (mapped_next f xs i x at)

-- ---- one operand, by its id

module _ (a : Lists) (values blocks : List LocalName) where
  pub local_fact : (ty id : ℕ) (passable : Bool) → passable ≡ is_passable (structs a.table) (tree a.table ty)
      → record { takes_no_intrinsic = true; types_suit = passable; fits = true } ≡ operand_fact (module_of a) (operand_in a values blocks (record { ty = ty; value = value.Local id }))
  local_fact ty id passable e =
      λ j. record {
        takes_no_intrinsic = true;
        types_suit = (e ∙ sym (and_true (is_passable (structs a.table) (tree a.table ty))) ∙ ap (λ s. is_passable s (tree a.table ty) && true) (sym (own_structs a))) j;
        fits = true;
      }

  pub known_fact : (ty id : ℕ) (taken passable suit fit : Bool)
      → taken ≡ takes_no_intrinsic (module_of a) (tree a.table ty) (constant_at (constants_of a) id)
      → passable ≡ is_passable (structs a.table) (tree a.table ty)
      → suit ≡ constant_types_suit (structs a.table) (tree a.table ty) (constant_at (constants_of a) id)
      → fit ≡ fits (structs a.table) (tree a.table ty) (constant_at (constants_of a) id)
      → record { takes_no_intrinsic = taken; types_suit = passable && suit; fits = fit } ≡ operand_fact (module_of a) (operand_in a values blocks (record { ty = ty; value = value.Known id }))
  known_fact ty id taken passable suit fit t p s f =
      let k = constant_at (constants_of a) id in
      let u = tree a.table ty in
      (λ j. record { takes_no_intrinsic = t j; types_suit = p j && s j; fits = f j })
      ∙ (λ j. record { takes_no_intrinsic = takes_no_intrinsic (module_of a) u k; types_suit = is_passable (sym (own_structs a) j) u && constant_types_suit (sym (own_structs a) j) u k; fits = fits (sym (own_structs a) j) u k })
