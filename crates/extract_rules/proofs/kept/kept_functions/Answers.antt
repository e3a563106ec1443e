use Rattle.std.proofs.Common.{◌≡◌, length, Some, not, slice_get, refl, subst, arith, ◌∙◌, if◌then◌else◌}
use Rattle.type_table.specs.Types.{trees}
use Rattle.module_arena.specs.View.{module_of, constants_of, function_view}
use Rattle.extract_rules.specs.Selected.{is_among, keeps_function}
use Rattle.extract_rules.proofs.Keeping.{flags_more, flags_whole, function_at, functions_length, kept_function}
use Rattle.extract_rules.proofs.kept.kept_functions.Goals as goal

pub loop-number-preserved : goal.loop-number-preserved
loop-number-preserved c =
    let a = c.args.arena.now in
    let s = c.args.selection.now in
    let x = c.function-function.result.now in
    let names = c.args.names.now.keys in
    let at : slice_get a.functions c.loop-number.number ≡ Some x = subst (λ n. slice_get a.functions n ≡ Some x) c.new.ensures c.function-function.ensures in
    flags_more (keeps_function (module_of a) s) (module_of a).functions c.loop-number.number (function_view (trees a.table) (constants_of a) x) c.loop-number.flags c.push.new.self c.keeps_definition-is_kept.result
    (function_at a c.loop-number.number x at) c.loop-number.invariant c.in_ok-push.ensures.ok
    (c.keeps_definition-is_kept.ensures ∙ kept_function a s names c.requires x c.is_some-is_written.result (if s.delete then not (is_among names x.name) else is_among names x.name) refl c.is_some-is_written.ensures)

pub returns : goal.returns
returns c =
    let a = c.args.arena.now in
    let long = functions_length a in
    let end : c.loop-number.number ≡ length (module_of a).functions = omega (arith, c.loop-number-test.false, c.loop-number.auto.number-end, c.function_count-number-end.ensures, long) in
    flags_whole (keeps_function (module_of a) c.args.selection.now) (module_of a).functions c.loop-number.number c.loop-number.flags end c.loop-number.invariant
