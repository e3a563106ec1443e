use Rattle.std.proofs.Common.{◌≡◌, ◌<◌, List, Some, false, length, slice_get, subst, arith}
use Rattle.std.proofs.lemmas.Option.{slice_get-get_or}
use Rattle.module_arena.specs.declared.entry.Function.{Function}
use Rattle.module_arena.specs.Module.{Constant}
use Rattle.extract_rules.specs.KeptNames.Marks.{in_function}
use Rattle.extract_rules.proofs.OnKeptNames.Naming.{picked_marked}
use Rattle.extract_rules.proofs.kept_names.named.mark_functions.Goals as goal

pub loop-number-preserved : goal.loop-number-preserved
loop-number-preserved c =
    let a = c.args.arena.now in
    let n = c.loop-number.number in
    let x = c.function-function.result.now in
    let lt : n < length c.args.kept.now = omega (arith, c.loop-number-test.true, c.function_count-number-end.ensures, c.requires) in
    picked_marked (λ (cs : List Constant) (y : Function). in_function cs y) c.args.kept.now a.functions n _ x c.args.marks.now c.loop-number.marks c.mark_function.new.marks
    (slice_get-get_or c.args.kept.now n false lt) (subst (λ k. slice_get a.functions k ≡ Some x) c.new.ensures c.function-function.ensures) c.loop-number.invariant c.mark_function.ensures
