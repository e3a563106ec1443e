use Rattle.std.proofs.Common.{◌<◌, [], List, length, sym, ◌∙◌, subst, add-one, arith}
use Rattle.std.proofs.lemmas.Result.{err_from_is_err_and}
use Rattle.std.specs.Vec.Iter.{into_iter_items}
use Rattle.linkage_rules.specs.Ids.{modules}
use Rattle.module_arena.specs.Lists.{Lists}
use Rattle.module_arena.specs.View.{module_of}
use Rattle.tool_cli.specs.Made.{AreParts}
use Rattle.tool_cli.proofs.Judging.{short_at, next_left, some_left, judged_on, refused_at, judged_at_end}
use Rattle.tool_cli.proofs.Linked.{part_accepted, taken_more, taken_all}
use Rattle.tool_cli.proofs.parts.accepted_parts.Goals as goal

pub inputs-init : goal.inputs-init
inputs-init c = record {
  judged = λ found rest. rest;
  are = subst (λ (parts : List Lists). AreParts [] (modules parts)) (sym c.new-parts.ensures.items) tt;
  left = c.into_iter-rest.ensures.rest ∙ c.into_vec.ensures;
}

pub unreachable-requires : goal.unreachable-requires
unreachable-requires c =
    let lt : c.inputs.name-index < length c.args.texts = omega (arith, c.inputs-test.true, c.requires.same) in
    some_left c.inputs.name-index c.args.texts (into_iter_items c.inputs.rest) lt c.inputs.invariant.left (sym c.inputs.rest.rest.ok.0 ∙ c.in-None.ensures.cases.0)

pub accepted_part-requires : goal.accepted_part-requires
accepted_part-requires c =
    let lt : c.inputs.name-index < length c.args.texts = omega (arith, c.inputs-test.true, c.requires.same) in
    let next = next_left c.inputs.name-index c.args.texts c.in-Some.text (into_iter_items c.next.new.self) (sym c.in-Some.ensures.items ∙ c.inputs.invariant.left) in
    short_at c.args.texts c.inputs.name-index c.in-Some.text c.requires.short lt next.0

pub returns-in_err-checked-clause-refused : goal.returns-in_err-checked-clause-refused
returns-in_err-checked-clause-refused c =
    let p = err_from_is_err_and c.from_residual.result c.from_residual.ensures.1 in
    let lt : c.inputs.name-index < length c.args.texts = omega (arith, c.inputs-test.true, c.requires.same) in
    let next = next_left c.inputs.name-index c.args.texts c.in-Some.text (into_iter_items c.next.new.self) (sym c.in-Some.ensures.items ∙ c.inputs.invariant.left) in
    rw (p.1, p.2) (refused_at c.args.names.now c.args.texts c.inputs.name-index c.name-item.result c.in-Some.text c.in_err-checked.field-0.0
    lt c.requires.same c.name-item.is next.0 c.inputs.invariant.judged c.in_err-checked.ensures.refused)

pub inputs-preserved : goal.inputs-preserved
inputs-preserved c =
    let lt : c.inputs.name-index < length c.args.texts = omega (arith, c.inputs-test.true, c.requires.same) in
    let next = next_left c.inputs.name-index c.args.texts c.in-Some.text (into_iter_items c.next.new.self) (sym c.in-Some.ensures.items ∙ c.inputs.invariant.left) in
    let part = c.in_ok-checked.ensures.part in
    record {
      judged = λ found rest.
          judged_on c.args.names.now c.args.texts c.inputs.name-index c.name-item.result c.in-Some.text found
          lt c.requires.same c.name-item.is next.0 (part_accepted c.in-Some.text (module_of c.in_ok-checked.checked) part) c.inputs.invariant.judged rest;
      are = rw c.in-Ok.ensures.items
          (taken_more c.args.texts c.inputs.name-index c.inputs.parts.items c.in-Some.text c.in_ok-checked.checked lt next.0 c.inputs.invariant.are part);
      left = rw add-one next.1;
    }

pub returns-clause-accepted : goal.returns-clause-accepted
returns-clause-accepted c = judged_at_end c.args.names.now c.args.texts c.inputs.name-index (omega (arith, c.inputs-test.false, c.requires.same)) c.inputs.invariant.judged

pub returns-clause-parts : goal.returns-clause-parts
returns-clause-parts c = taken_all c.args.texts c.inputs.name-index (modules c.inputs.parts.items) (omega (arith, c.inputs-test.false, c.requires.same)) c.inputs.invariant.are
