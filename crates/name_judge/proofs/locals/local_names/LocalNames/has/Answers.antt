use Rattle.std.proofs.Common.{sym, subst, Bool}
use Rattle.name_judge.proofs.OnLocals.Named.{kind_has}
use Rattle.name_judge.specs.Locals.Names.{HoldsKind}
use Rattle.name_judge.proofs.locals.local_names.LocalNames.has.Goals as goal

pub returns-then-block : goal.returns-then-block
returns-then-block c =
    let names = c.args.self.now in
    kind_has names names.labels c.args.block _ c.has.result
    (λ all h. subst (λ (block : Bool). HoldsKind names.marks.items names.labels block all) (sym c.if-block.true) h.labels)
    (rw c.as_slice-marks.ensures.value at c.has.ensures)

pub returns-else-block : goal.returns-else-block
returns-else-block c =
    let names = c.args.self.now in
    kind_has names names.values c.args.block _ c.has-else-block.result
    (λ all h. subst (λ (block : Bool). HoldsKind names.marks.items names.values block all) (sym c.if-block.false) h.values)
    (rw c.as_slice-marks.ensures.value at c.has-else-block.ensures)
