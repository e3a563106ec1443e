use Rattle.std.proofs.Common.{ap, subst, sym}
use Rattle.type_table.specs.Tree.{Tree}
use Rattle.type_table.specs.Types.{Types}
use Rattle.record_table.specs.Lines.{case_of}
use Rattle.record_read.specs.Reader.{Reader}
use Rattle.record_read.proofs.Gathering.{loop_goes, loop_ends}
use Rattle.type_read.specs.Arena.Kept.{tree_at}
use Rattle.type_read.proofs.OnArena.Kept.{same_table}
use Rattle.type_read.proofs.OnArena.Steps.{goes_two, still_known}
use Rattle.body_read.proofs.OnConstants.Making.{goes_number}
use Rattle.body_read.specs.Operands.Found.{Finds}
use Rattle.body_read.proofs.OnOperands.Gathered.{gather_none, gather_more, gather_all}
use Rattle.body_read.specs.Endings.Ends.{HasCase, case_in}
use Rattle.body_read.proofs.endings.switch.read_cases.Goals as goal

pub cases-init : goal.cases-init
cases-init c =
    let m0 = c.args.m.now in
    gather_none HasCase case_in (λ k. (case_of k (tree_at m0.growing.arena.table c.args.ty.now)).read) (record m0 { reader = c.number-count.new.self }) c.number-count.result _ c.new-cases.ensures.items

pub read_case-requires : goal.read_case-requires
read_case-requires c =
    let m0 = c.args.m.now in
    let r = c.number-count.new.self in
    still_known m0 c.cases.m c.args.ty.now (goes_two m0 (record m0 { reader = r }) c.cases.m (goes_number m0 r c.number-count.result c.number-count.ensures) c.cases.invariant.goes) c.requires

pub cases-preserved : goal.cases-preserved
cases-preserved c =
    let m0 = c.args.m.now in
    let first = record m0 { reader = c.number-count.new.self } in
    let now = c.cases.m in
    let on = loop_goes c.cases.place c.number-count.result _ (sym c.cases-test.ensures) in
    let same = ap (λ (t : Types). tree_at t c.args.ty.now) (same_table first.growing now.growing c.cases.invariant.goes.grows) in
    gather_more first now c.read_case.new.m c.number-count.result c.cases.place c.cases.cases.items _ c.in_ok-one.one c.cases.invariant on.0 on.1
    (subst (λ (t : Tree). Finds HasCase case_in (λ k. (case_of k t).read) now c.read_case.new.m c.in_ok-one.one) same c.in_ok-one.ensures) c.in_ok-push_known.ensures

pub returns : goal.returns
returns c =
    let m0 = c.args.m.now in
    let r = c.number-count.new.self in
    let first = record m0 { reader = r } in
    gather_all (λ n w. w) m0 first c.cases.m c.number-count.result c.cases.place c.cases.cases.items c.unbroken.result (goes_number m0 r c.number-count.result c.number-count.ensures) c.number-count.ensures.value
    (ap (λ (q : Reader). q.walk) c.number-count.ensures.reader) c.cases.invariant (loop_ends c.cases.place c.number-count.result _ (sym c.cases-test.ensures)) c.unbroken.ensures
