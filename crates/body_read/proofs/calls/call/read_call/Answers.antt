use Rattle.std.proofs.Common.{ℕ, List, Option, Some, ◌<◌, ◌∙◌, All, IfSome, ap, length, map, refl, subst, sym}
use Rattle.std.specs.Option.{option_map}
use Rattle.type_table.specs.Tree.{Tree}
use Rattle.type_table.specs.Types.{Types}
use Rattle.ir_tables.specs.declared.opcode.Opcode.TheVariants as op
use Rattle.module_arena.specs.declared.instruction.Call.{Call}
use Rattle.module_arena.specs.declared.instruction.Inst.TheVariants as inst
use Rattle.module_arena.specs.TypeTests.{is_void}
use Rattle.record_table.specs.Constants.{value}
use Rattle.record_table.specs.Lines.{arguments}
use Rattle.record_read.specs.Fields.{texts_of}
use Rattle.type_read.specs.Arena.Kept.{IsKnownType, tree_at}
use Rattle.type_read.proofs.OnArena.TypesTold.{known_within}
use Rattle.body_read.specs.Operands.Found.{Finds, HasOperands, HasValue, both, operands_in, value_in}
use Rattle.body_read.specs.Lines.Kept.{HasInst, operation_in}
use Rattle.body_read.specs.Calls.Calls.{kept_call, operation_read}
use Rattle.body_read.proofs.OnCalls.Calling.{call_found, truth_found}
use Rattle.body_read.proofs.OnCalls.Lines.{call_line}
use Rattle.body_read.proofs.OnCalls.ParameterTypes.{still_all}
use Rattle.body_read.proofs.calls.call.read_call.Goals as goal

pub is_void-void-requires : goal.is_void-void-requires
is_void-void-requires c =
    let m1 = c.read_returned-returns.new.m in
    subst (λ (o : Option ℕ). IfSome o (λ id. id < length c.table.result.now.types)) (sym c.same.ensures)
    (subst (λ (t : Types). IfSome c.read_returned-returns.result (λ id. id < length t.types)) (sym c.table.ensures) (known_within m1 c.read_returned-returns.result c.read_returned-returns.ensures.known))

pub read_arguments-requires : goal.read_arguments-requires
read_arguments-requires c =
    let m4 = c.read_parameters.new.m in
    let m5 = c.read_value.new.m in
    subst (λ (xs : List (Option ℕ)). All (IsKnownType m5) xs) (sym c.as_slice.ensures.value) (still_all m4 m5 c.in_ok-parameters.parameters.types.items c.in_ok-callee.ensures.goes c.in_ok-parameters.ensures.reads.known)

pub returns : goal.returns
returns c =
    let texts = texts_of c.args.texts.now in
    let m0 = c.args.m.now in
    let m1 = c.read_returned-returns.new.m in
    let m2 = c.read_result.new.m in
    let s = c.read_flag-variadic.new.reader in
    let m3 = record m2 { reader = s } in
    let m4 = c.read_parameters.new.m in
    let m5 = c.read_value.new.m in
    let m6 = c.read_arguments.new.m in
    let items = c.in_ok-parameters.parameters.types.items in
    let known = c.in_ok-parameters.parameters.known in
    let void = c.is_void-void.result in
    let void_is = c.is_void-void.ensures ∙ (λ j. is_void (tree_at (c.table.ensures j) (c.same.ensures j))) in
    let flag = truth_found m2 s c.read_flag-variadic.result c.read_flag-variadic.ensures in
    let target = subst (λ (t : Tree). Finds HasValue value_in (λ k. (value k t).read) m4 m5 c.in_ok-callee.callee) c.pointer-pointer.ensures.is.tree_is c.in_ok-callee.ensures in
    let given = subst (λ (xs : List (Option ℕ)). Finds HasOperands operands_in (λ k. (arguments k (map (tree_at m5.growing.arena.table) xs)).read) m5 m6 c.in_ok-arguments.arguments) c.as_slice.ensures.value c.in_ok-arguments.ensures in
    let rid = c.defined_by-result_id.result in
    let parts = both c.read_returned-returns.result (both (Some c.read_flag-variadic.result) (both (Some known) (both c.in_ok-callee.callee c.in_ok-arguments.arguments))) in
    let found = subst (Finds HasInst operation_in (operation_read texts c.args.own op.Call) m0 m6) (sym (c.in_ok-instruction.ensures ∙ ap (option_map (λ (x : Call). inst.Call x)) c.call_of-call.ensures))
    (call_found texts c.args.own void m0 m1 m2 m3 m4 m5 m6 c.read_returned-returns.result c.in_ok-name.name c.read_flag-variadic.result items known c.in_ok-callee.callee c.in_ok-arguments.arguments rid c.read_returned-returns.ensures void_is c.in_ok-name.ensures flag
    c.in_ok-parameters.ensures target given) in
    call_line texts c.args.own c.args.defined void m0 m1 m2 m6 c.read_returned-returns.result c.in_ok-name.name rid (kept_call rid) parts c.call_of-call.result c.in_ok-instruction.instruction c.unless_broken.result
    c.read_returned-returns.ensures void_is c.in_ok-name.ensures (λ broken. given.goes.lasts (target.goes.lasts (c.in_ok-parameters.ensures.reads.takes.lasts (flag.goes.lasts broken)))) c.defined_by-result_id.ensures (λ z. refl)
    c.call_of-call.ensures c.in_ok-instruction.ensures found c.unless_broken.ensures
