use Rattle.std.proofs.Common.{◌≡◌, length, Some, slice_get, subst, arith}
use Rattle.type_table.specs.Types.{trees}
use Rattle.module_arena.specs.Module.{Function}
use Rattle.module_arena.specs.View.{module_of, constants_of, function_view}
use Rattle.extract_rules.specs.Selected.{is_among}
use Rattle.extract_rules.proofs.Keeping.{flags_more, flags_whole, function_at, functions_length}
use Rattle.extract_rules.proofs.kept_names.named.named_functions.Goals as goal

pub loop-number-preserved : goal.loop-number-preserved
loop-number-preserved c =
    let a = c.args.arena.now in
    let x = c.function.result.now in
    let at : slice_get a.functions c.loop-number.number ≡ Some x = subst (λ n. slice_get a.functions n ≡ Some x) c.new.ensures c.function.ensures in
    flags_more (λ (y : Function). is_among c.args.names.now.keys y.name) (module_of a).functions c.loop-number.number (function_view (trees a.table) (constants_of a) x) c.loop-number.flags c.push.new.self c.contains-is_named.result
    (function_at a c.loop-number.number x at) c.loop-number.invariant c.in_ok-push.ensures.ok c.contains-is_named.ensures

pub returns : goal.returns
returns c =
    let a = c.args.arena.now in
    let long = functions_length a in
    let end : c.loop-number.number ≡ length (module_of a).functions = omega (arith, c.loop-number-test.false, c.loop-number.auto.number-end, c.function_count-number-end.ensures, long) in
    flags_whole (λ (y : Function). is_among c.args.names.now.keys y.name) (module_of a).functions c.loop-number.number c.loop-number.flags end c.loop-number.invariant
