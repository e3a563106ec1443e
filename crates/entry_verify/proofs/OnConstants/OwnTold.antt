-- What is asked of a constant itself, by ids.
use Rattle.std.proofs.Common.{◌≡◌, ℕ, ◌&&◌, List, map, sym, ap, ◌∙◌}
use Rattle.std.specs.List.{list_all}
use Rattle.std.proofs.lemmas.List.Folds.{list_all-map}
use Rattle.ir_tables.specs.declared.opcode.Opcode.{Opcode}
use Rattle.type_table.specs.Tree.{void}
use Rattle.type_table.specs.Types.{Types, trees, tree, structs}
use Rattle.module_arena.specs.declared.constant.Brackets as the_brackets
use Rattle.module_arena.specs.declared.constant.Const as the_const
use Rattle.module_arena.specs.declared.constant.Const.TheVariants as const
use Rattle.module_arena.specs.declared.constant.TypedConst.{TypedConst}
use Rattle.module_arena.specs.declared.constant.ConstAddress.{ConstAddress}
use Rattle.module_arena.specs.declared.constant.ConstPair.{ConstPair}
use Rattle.module_arena.specs.Constants.{expected}
use Rattle.module_arena.specs.EntryRules.{types_written_suit}
use Rattle.module_arena.specs.Lists.{Lists}
use Rattle.module_arena.specs.TypeTests.{is_free_of_void, is_passable, lies_in_memory, opened}
use Rattle.module_arena.specs.View.{brackets_view, constants_of, module_of, type_at}
use Rattle.module_arena.specs.Changes.{constant_in}
use Rattle.entry_verify.specs.Constants.ConstantParts.{have_types, fits_outside, own_operands_fit, are_element_operands, index_at}
use Rattle.entry_verify.proofs.OnConstants.ConstantsKnown.{own_structs}
use Rattle.entry_verify.proofs.OnConstants.PartsTold.{types_listed, operands_listed}

module _ (a : Lists) (t : Types) (same : t ≡ a.table) where
  -- ---- types

  -- the structs of the module are those of the table
  table_structs : (module_of a).structs ≡ structs t
  table_structs = own_structs a ∙ ap structs (sym same)

  pub list_written : (round : the_brackets.Brackets) (es : List TypedConst)
      → list_all (λ (x : TypedConst). is_free_of_void (tree t x.ty)) es ≡ types_written_suit (module_of a).structs (void, constant_in a (const.Aggregate round es))
  list_written round es =
      ap (λ (u : Types). list_all (λ (x : TypedConst). is_free_of_void (tree u x.ty)) es) same
      ∙ sym (list_all-map is_free_of_void (λ (x : TypedConst). type_at (trees a.table) x.ty) es)
      ∙ sym (ap (list_all is_free_of_void) (types_listed (trees a.table) (constants_of a) es))

  pub address_written : (flags : ℕ) (address : ConstAddress)
      → (lies_in_memory (structs t) (tree t address.source) && list_all (λ (x : TypedConst). is_passable (structs t) (tree t x.ty)) address.operands)
      ≡ types_written_suit (module_of a).structs (void, constant_in a (const.ElementAddress flags address))
  address_written flags address =
      ap (λ (u : Types). lies_in_memory (structs u) (tree u address.source) && list_all (λ (x : TypedConst). is_passable (structs u) (tree u x.ty)) address.operands) same
      ∙ ap (λ b. lies_in_memory (structs a.table) (tree a.table address.source) && b)
      (sym (list_all-map (is_passable (structs a.table)) (λ (x : TypedConst). type_at (trees a.table) x.ty) address.operands)
      ∙ sym (ap (list_all (is_passable (structs a.table))) (types_listed (trees a.table) (constants_of a) address.operands)))
      ∙ ap (λ s. types_written_suit s (void, constant_in a (const.ElementAddress flags address))) (sym (own_structs a))

  pub cast_written : (opcode : Opcode) (x : TypedConst) (to : ℕ) → (is_passable (structs t) (tree t x.ty) && is_free_of_void (tree t to)) ≡ types_written_suit (module_of a).structs (void, constant_in a (const.Cast opcode x to))
  cast_written opcode x to =
      ap (λ (u : Types). is_passable (structs u) (tree u x.ty) && is_free_of_void (tree u to)) same
      ∙ ap (λ s. types_written_suit s (void, constant_in a (const.Cast opcode x to))) (sym (own_structs a))

  pub pair_written : (opcode : Opcode) (flags : ℕ) (pair : ConstPair)
      → (is_passable (structs t) (tree t pair.left.ty) && is_passable (structs t) (tree t pair.right.ty)) ≡ types_written_suit (module_of a).structs (void, constant_in a (const.Binary opcode flags pair))
  pair_written opcode flags pair =
      ap (λ (u : Types). is_passable (structs u) (tree u pair.left.ty) && is_passable (structs u) (tree u pair.right.ty)) same
      ∙ ap (λ s. types_written_suit s (void, constant_in a (const.Binary opcode flags pair))) (sym (own_structs a))

  -- ---- what fits

  pub list_fits : (ty : ℕ) (round : the_brackets.Brackets) (es : List TypedConst)
      → have_types (expected (brackets_view round) (opened (structs t) (tree t ty))) (map (λ (x : TypedConst). tree t x.ty) es) ≡ fits_outside (structs a.table) (tree a.table ty) (constant_in a (const.Aggregate round es))
  list_fits ty round es =
      ap (λ (u : Types). have_types (expected (brackets_view round) (opened (structs u) (tree u ty))) (map (λ (x : TypedConst). tree u x.ty) es)) same
      ∙ ap (have_types (expected (brackets_view round) (opened (structs a.table) (tree a.table ty)))) (sym (types_listed (trees a.table) (constants_of a) es))

  pub operands_suit : (flags : ℕ) (address : ConstAddress)
      → are_element_operands (structs a.table) (tree a.table address.source) (map (index_at a) address.operands) ≡ own_operands_fit (structs a.table) (constant_in a (const.ElementAddress flags address))
  operands_suit flags address = sym (operands_listed a (structs a.table) (tree a.table address.source) address.operands)
