use Rattle.std.proofs.Common.{ℕ, List, IfOk, sym, subst}
use Rattle.module_arena.specs.declared.instruction.Choice.{Choice}
use Rattle.module_arena.specs.declared.instruction.Inst.{Inst}
use Rattle.module_arena.specs.declared.instruction.Inst.TheVariants as inst
use Rattle.module_arena.specs.declared.instruction.Insertion.{Insertion}
use Rattle.module_arena.specs.declared.instruction.Operand.{Operand}
use Rattle.run_decode.specs.Operands.Suits.{HasChoice, HasExtraction, HasInsertion, HasSteps, Suits}
use Rattle.run_decode.specs.Operations.{Meant}
use Rattle.run_decode.proofs.Told.{by_load, by_store}
use Rattle.run_decode.proofs.instructions.put_operation.Goals as goal

pub put_binary-requires-clause-to : goal.put_binary-requires-clause-to
put_binary-requires-clause-to c = let h = subst (Suits c.args.scope.now) c.in-Binary.is c.requires.suits in h.0

pub put_binary-requires-clause-pair : goal.put_binary-requires-clause-pair
put_binary-requires-clause-pair c = let h = subst (Suits c.args.scope.now) c.in-Binary.is c.requires.suits in h.1

pub returns-in-Binary-clause-action : goal.returns-in-Binary-clause-action
returns-in-Binary-clause-action c = subst (λ (i : Inst). IfOk c.put_binary.result (Meant c.args.scope.now c.put_binary.new.pools i)) (sym c.in-Binary.is) c.put_binary.ensures.action

pub put_compare-requires-clause-to : goal.put_compare-requires-clause-to
put_compare-requires-clause-to c = let h = subst (Suits c.args.scope.now) c.in-Compare.is c.requires.suits in h.0

pub put_compare-requires-clause-pair : goal.put_compare-requires-clause-pair
put_compare-requires-clause-pair c = let h = subst (Suits c.args.scope.now) c.in-Compare.is c.requires.suits in h.1

pub returns-in-Compare-clause-action : goal.returns-in-Compare-clause-action
returns-in-Compare-clause-action c = subst (λ (i : Inst). IfOk c.put_compare.result (Meant c.args.scope.now c.put_compare.new.pools i)) (sym c.in-Compare.is) c.put_compare.ensures.action

pub put_convert-requires-clause-to : goal.put_convert-requires-clause-to
put_convert-requires-clause-to c = let h = subst (Suits c.args.scope.now) c.in-Convert.is c.requires.suits in h.0

pub put_convert-requires-clause-cast : goal.put_convert-requires-clause-cast
put_convert-requires-clause-cast c = let h = subst (Suits c.args.scope.now) c.in-Convert.is c.requires.suits in h.1

pub returns-in-Convert-clause-action : goal.returns-in-Convert-clause-action
returns-in-Convert-clause-action c = subst (λ (i : Inst). IfOk c.put_convert.result (Meant c.args.scope.now c.put_convert.new.pools i)) (sym c.in-Convert.is) c.put_convert.ensures.action

pub put_select-requires-clause-to : goal.put_select-requires-clause-to
put_select-requires-clause-to c = let h = subst (Suits c.args.scope.now) c.in-Select.is c.requires.suits in h.0

pub put_select-requires-clause-choice : goal.put_select-requires-clause-choice
put_select-requires-clause-choice c = let h = subst (Suits c.args.scope.now) c.in-Select.is c.requires.suits in subst (HasChoice c.args.scope.now) (sym c.get.ensures) h.1

pub returns-in-Select-clause-action : goal.returns-in-Select-clause-action
returns-in-Select-clause-action c =
    let meant = subst (λ (x : Choice). IfOk c.put_select.result (Meant c.args.scope.now c.put_select.new.pools (inst.Select c.in-Select.to x))) c.get.ensures c.put_select.ensures.action in
    subst (λ (i : Inst). IfOk c.put_select.result (Meant c.args.scope.now c.put_select.new.pools i)) (sym c.in-Select.is) meant

pub put_freeze-requires-clause-to : goal.put_freeze-requires-clause-to
put_freeze-requires-clause-to c = let h = subst (Suits c.args.scope.now) c.in-Freeze.is c.requires.suits in h.0

pub put_freeze-requires-clause-operand : goal.put_freeze-requires-clause-operand
put_freeze-requires-clause-operand c = let h = subst (Suits c.args.scope.now) c.in-Freeze.is c.requires.suits in h.1

pub returns-in-Freeze-clause-action : goal.returns-in-Freeze-clause-action
returns-in-Freeze-clause-action c = subst (λ (i : Inst). IfOk c.put_freeze.result (Meant c.args.scope.now c.put_freeze.new.pools i)) (sym c.in-Freeze.is) c.put_freeze.ensures.action

pub put_load-requires-clause-to : goal.put_load-requires-clause-to
put_load-requires-clause-to c = let h = subst (Suits c.args.scope.now) c.in-Load.is c.requires.suits in h.0

pub put_load-requires-clause-load : goal.put_load-requires-clause-load
put_load-requires-clause-load c = let h = subst (Suits c.args.scope.now) c.in-Load.is c.requires.suits in h.1

pub returns-in-Load-clause-action : goal.returns-in-Load-clause-action
returns-in-Load-clause-action c = by_load (λ (i : Inst). IfOk c.put_load.result (Meant c.args.scope.now c.put_load.new.pools i)) _ _ _ _ _ _ c.in-Load.is c.put_load.ensures.action

pub put_store-requires : goal.put_store-requires
put_store-requires c = subst (Suits c.args.scope.now) c.in-Store.is c.requires.suits

pub returns-in-Store-clause-action : goal.returns-in-Store-clause-action
returns-in-Store-clause-action c = by_store (λ (i : Inst). IfOk c.put_store.result (Meant c.args.scope.now c.put_store.new.pools i)) _ _ _ _ _ c.in-Store.is c.put_store.ensures.action

pub put_alloca-requires-clause-to : goal.put_alloca-requires-clause-to
put_alloca-requires-clause-to c = let h = subst (Suits c.args.scope.now) c.in-Alloca.is c.requires.suits in h.0

pub put_alloca-requires-clause-lies : goal.put_alloca-requires-clause-lies
put_alloca-requires-clause-lies c = let h = subst (Suits c.args.scope.now) c.in-Alloca.is c.requires.suits in h.1

pub put_alloca-requires-clause-count : goal.put_alloca-requires-clause-count
put_alloca-requires-clause-count c = let h = subst (Suits c.args.scope.now) c.in-Alloca.is c.requires.suits in h.2

pub returns-in-Alloca-clause-action : goal.returns-in-Alloca-clause-action
returns-in-Alloca-clause-action c = subst (λ (i : Inst). IfOk c.put_alloca.result (Meant c.args.scope.now c.put_alloca.new.pools i)) (sym c.in-Alloca.is) c.put_alloca.ensures.action

pub put_displace-requires-clause-to : goal.put_displace-requires-clause-to
put_displace-requires-clause-to c = let h = subst (Suits c.args.scope.now) c.in-GetElementPtr.is c.requires.suits in h.0

pub put_displace-requires-clause-steps : goal.put_displace-requires-clause-steps
put_displace-requires-clause-steps c =
    let h = subst (Suits c.args.scope.now) c.in-GetElementPtr.is c.requires.suits in
    subst (HasSteps c.args.scope.now c.in-GetElementPtr.source c.in-GetElementPtr.base) (sym c.as_slice.ensures) h.1

pub returns-in-GetElementPtr-clause-action : goal.returns-in-GetElementPtr-clause-action
returns-in-GetElementPtr-clause-action c =
    let made = λ (os : List Operand). inst.GetElementPtr c.in-GetElementPtr.flags c.in-GetElementPtr.to c.in-GetElementPtr.source c.in-GetElementPtr.base os in
    let meant = subst (λ (os : List Operand). IfOk c.put_displace.result (Meant c.args.scope.now c.put_displace.new.pools (made os))) c.as_slice.ensures c.put_displace.ensures.action in
    subst (λ (i : Inst). IfOk c.put_displace.result (Meant c.args.scope.now c.put_displace.new.pools i)) (sym c.in-GetElementPtr.is) meant

pub put_extract-requires-clause-to : goal.put_extract-requires-clause-to
put_extract-requires-clause-to c = let h = subst (Suits c.args.scope.now) c.in-ExtractValue.is c.requires.suits in h.0

pub put_extract-requires-clause-extraction : goal.put_extract-requires-clause-extraction
put_extract-requires-clause-extraction c =
    let h = subst (Suits c.args.scope.now) c.in-ExtractValue.is c.requires.suits in
    subst (HasExtraction c.args.scope.now c.in-ExtractValue.aggregate) (sym c.as_slice-in-ExtractValue.ensures) h.1

pub returns-in-ExtractValue-clause-action : goal.returns-in-ExtractValue-clause-action
returns-in-ExtractValue-clause-action c =
    let meant = subst (λ (ks : List ℕ). IfOk c.put_extract.result (Meant c.args.scope.now c.put_extract.new.pools (inst.ExtractValue c.in-ExtractValue.to c.in-ExtractValue.aggregate ks))) c.as_slice-in-ExtractValue.ensures c.put_extract.ensures.action in
    subst (λ (i : Inst). IfOk c.put_extract.result (Meant c.args.scope.now c.put_extract.new.pools i)) (sym c.in-ExtractValue.is) meant

pub put_insert-requires-clause-to : goal.put_insert-requires-clause-to
put_insert-requires-clause-to c = let h = subst (Suits c.args.scope.now) c.in-InsertValue.is c.requires.suits in h.0

pub put_insert-requires-clause-insertion : goal.put_insert-requires-clause-insertion
put_insert-requires-clause-insertion c = let h = subst (Suits c.args.scope.now) c.in-InsertValue.is c.requires.suits in subst (HasInsertion c.args.scope.now) (sym c.get-in-InsertValue.ensures) h.1

pub returns-in-InsertValue-clause-action : goal.returns-in-InsertValue-clause-action
returns-in-InsertValue-clause-action c =
    let meant = subst (λ (x : Insertion). IfOk c.put_insert.result (Meant c.args.scope.now c.put_insert.new.pools (inst.InsertValue c.in-InsertValue.to x))) c.get-in-InsertValue.ensures c.put_insert.ensures.action in
    subst (λ (i : Inst). IfOk c.put_insert.result (Meant c.args.scope.now c.put_insert.new.pools i)) (sym c.in-InsertValue.is) meant
