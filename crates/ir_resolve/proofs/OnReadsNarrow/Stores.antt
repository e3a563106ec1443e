-- What has a name before it is no store.
use Rattle.std.proofs.Common.{◌≡◌, ◌∙◌, Bool, true, false, Option, Some, None, refl, sym, ap, subst}
use Rattle.ir_tables.specs.declared.opcode.Opcode.{Opcode}
use Rattle.ir_tables.specs.declared.opcode.Opcode.TheVariants as op
use Rattle.ir_terminals.specs.PhraseRows.Row.{among, one}
use Rattle.ir_terminals.specs.declared.limits.Limits.{Limits}
use Rattle.ir_terminals.specs.declared.terminal.Terminal.{Terminal}
use Rattle.ir_terminals.specs.declared.terminal.Terminal.TheVariants as terminal
use Rattle.ir_terminals.specs.declared.values.Local.{Local}
use Rattle.ir_terminals.specs.Role.{class, terminal as terminal_of}
use Rattle.ir_terminals.specs.Terminal.{code}
use Rattle.ir_terminals.specs.Values.{opcode_in, opcode_of}
use Rattle.ir_terminals.specs.Tokens.{word}
use Rattle.ir_phrases.proofs.OnConstants.Gives.{Gives, gives_fail, gives_chain, gives_second, gives_alt, gives_labelled}
use Rattle.ir_phrases.specs.Instructions.Tree.{OperationTree, Store}
use Rattle.ir_phrases.specs.Instructions.Calls.{call_shape, call_core}
use Rattle.ir_phrases.specs.Instructions.Operations.{operation_shape, binary_core, compare_core, cast_core, select_core, freeze_core, phi_core, load_core, store_core, alloca_core, element_address_core, extract_core, insert_core, operation_core}
use Rattle.ir_phrases.specs.Instructions.Instructions.{result_classes, operation_over_shape, operation_over_core, operation_over}
use Rattle.item_build.specs.Buildable.Narrow.{StoresNothing}

-- whether it is a store
abbrev is_store : OperationTree → Bool
is_store (Store flags value address alignment) = true
is_store _ = false

abbrev pub NoStore : OperationTree → Type 0
NoStore operation = is_store operation ≡ false

apart : false ≡ true → ⊥
apart e = absurd cc

-- what is no store may have a name
pub other_stores_nothing : (result : Option Local) (operation : OperationTree) → NoStore operation → StoresNothing (record { result = result; operation = operation })
other_stores_nothing result operation h flags value address alignment e = absurd (apart (sym h ∙ ap is_store e))

-- what has no name may be a store
pub bare_stores_nothing : (operation : OperationTree) → StoresNothing (record { result = None; operation = operation })
bare_stores_nothing operation flags value address alignment e = refl

abbrev is_store_opcode : Opcode → Bool
is_store_opcode op.Store = true
is_store_opcode _ = false

other : (o : Opcode) → among (code (terminal.Opcode o)) result_classes ≡ true → is_store_opcode o ≡ false
other op.Store e = absurd cc
other _ e = refl

other_opcode : (x : Terminal) (opcode : Opcode) → among (code x) result_classes ≡ true → opcode_in x ≡ Some opcode → is_store_opcode opcode ≡ false
other_opcode (terminal.Opcode o) opcode a e = subst (λ o. is_store_opcode o ≡ false) (once o opcode e) (other o a)
  where
    once : (a b : Opcode) → Some a ≡ Some b → a ≡ b
    once a b q = cc
other_opcode _ opcode a e = absurd cc

gives_result_opcode : Gives (one class result_classes opcode_of) (λ opcode. is_store_opcode opcode ≡ false)
gives_result_opcode = record { value = λ us opcode w. other_opcode (terminal_of w.0.token) opcode w.2 w.3 }

module _ (limits : Limits) where
  other_core : (opcode : Opcode) → is_store_opcode opcode ≡ false → Gives (operation_core limits opcode) NoStore
  unfolding operation_core binary_core compare_core cast_core select_core freeze_core phi_core load_core store_core alloca_core element_address_core call_core extract_core insert_core
  other_core op.Store e = absurd cc
  other_core op.Ret e = gives_fail operation_shape NoStore
  other_core op.Br e = gives_fail operation_shape NoStore
  other_core op.Switch e = gives_fail operation_shape NoStore
  other_core op.Unreachable e = gives_fail operation_shape NoStore
  other_core _ e = record { value = λ us a w. subst NoStore (sym w.2) refl }

  no_store_call : Gives (call_core limits) NoStore
  unfolding call_core
  no_store_call = record { value = λ us a w. subst NoStore (sym w.2) refl }

  -- what has a name before it is no store
  gives_no_store_core : Gives (operation_over_core result_classes limits) NoStore
  unfolding operation_over_core
  gives_no_store_core =
      gives_alt class
      (gives_second (word terminal.TailMark) (gives_second (word (terminal.Opcode op.Call)) (gives_labelled call_shape no_store_call)))
      (gives_chain operation_shape NoStore gives_result_opcode
      (λ opcode x. gives_labelled operation_shape (other_core opcode x)))

  pub gives_no_store : Gives (operation_over result_classes limits) NoStore
  gives_no_store = gives_labelled (operation_over_shape result_classes) gives_no_store_core
