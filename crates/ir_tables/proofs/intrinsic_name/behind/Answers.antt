use Rattle.std.proofs.Common.{sym, ◌∙◌}
use Rattle.std.proofs.lemmas.Slice.Eq.{bytes_eq-Decides}
use Rattle.ir_tables.proofs.Fronts.{behind_some, behind_none}
use Rattle.ir_tables.proofs.intrinsic_name.behind.Goals as goal

pub returns-then-eq : goal.returns-then-eq
returns-then-eq c =
    let same = (bytes_eq-Decides c.split_at.result.0.now c.args.front.now).0 (sym c.eq.ensures ∙ c.if-eq.true) in
    behind_some c.args.bytes.now c.args.front.now c.split_at.result.0.now c.split_at.result.1.now c.split_at.ensures.front c.split_at.ensures.back same

pub returns-else-eq : goal.returns-else-eq
returns-else-eq c =
    behind_none c.args.bytes.now c.args.front.now c.split_at.result.0.now c.split_at.ensures.front
    (λ same. let t = (bytes_eq-Decides c.split_at.result.0.now c.args.front.now).1 same in let f = c.if-eq.false in let e = c.eq.ensures in cc)
