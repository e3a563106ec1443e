use Rattle.std.proofs.Common.{arith, ap, sym, ◌∙◌, below_more}
use Rattle.std.proofs.lemmas.Bool.{both_ways}
use Rattle.std.proofs.lemmas.List.{length-map, get_or-map}
use Rattle.module_arena.specs.View.{local_view}
use Rattle.name_rules.specs.Locals.{local_in}
use Rattle.ir_resolve.proofs.instruction_build.local_ids.LocalIds.search.Goals as goal

pub unreachable-requires : goal.unreachable-requires
unreachable-requires c =
    let there = c.requires.there in
    let lt = there.1 in
    let long = length-map c.args.self.now.names.items local_view in
    let past = c.names-test.false in
    let many = c.len-id-end.ensures in
    c.names.invariant there.0 (omega (arith, lt, long, past, many)) there.2

pub names-preserved : goal.names-preserved
names-preserved c =
    let xs = c.args.self.now.names.items in
    let written = local_in c.args.written.now in
    let test = c.names-test.true in
    let many = c.len-id-end.ensures in
    below_more _ _ c.names.invariant
    (λ e. both_ways c.is_written.result c.if-is_written.false (c.is_written.ensures.1 (ap local_view c.index.ensures ∙ sym (get_or-map local_view xs c.names.id c.index.result.now written (omega (arith, test, many))) ∙ e)))
