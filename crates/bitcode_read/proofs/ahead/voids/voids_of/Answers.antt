use Rattle.std.proofs.Common.{map, ap, ◌∙◌, arith}
use Rattle.type_table.specs.Types.{tree, trees}
use Rattle.type_table.proofs.Added.{length-trees}
use Rattle.module_arena.specs.TypeTests.{is_void}
use Rattle.bitcode_read.proofs.OnAhead.VoidTypes.{one_more, all_taken}
use Rattle.bitcode_read.proofs.ahead.voids.voids_of.Goals as goal

pub numbers-preserved : goal.numbers-preserved
numbers-preserved c = one_more is_void c.args.types.now _ _ c.numbers.number c.is_void.result (omega (arith, c.type_count-count.ensures.count, c.numbers-test.true)) c.numbers.invariant (c.is_void.ensures ∙ ap (λ n. is_void (tree c.args.types.now n)) c.new.ensures) c.in_ok-push.ensures.items

pub returns : goal.returns
returns c = c.numbers.invariant ∙ ap (λ l. map is_void l) (all_taken (trees c.args.types.now) c.numbers.number (let long = length-trees c.args.types.now in omega (arith, c.type_count-count.ensures.count, c.numbers.auto.number-end, c.numbers-test.false)))
