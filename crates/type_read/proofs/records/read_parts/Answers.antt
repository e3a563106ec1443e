use Rattle.std.proofs.Common.{◌+◌, ◌∙◌, nat_lt, refl, sym, ap, arith}
use Rattle.record_table.specs.Walk.{count_left}
use Rattle.record_read.specs.Reader.{Reader}
use Rattle.record_read.proofs.Gathering.{taken, asked_left}
use Rattle.type_read.proofs.Gathered.{starts_gathered, one_gathered, asked_below, rest_gathered}
use Rattle.type_read.proofs.Lefts.{goes_on}
use Rattle.type_read.proofs.records.read_parts.Goals as goal

pub parts-init : goal.parts-init
parts-init c = starts_gathered c.args.count _ _ _ c.new-parts.result.items refl c.new-parts.ensures.items

pub parts-preserved : goal.parts-preserved
parts-preserved c =
    let t = taken _ _ _ c.in-Some.ensures in
    let on = goes_on _ _ _ c.in-Some.ensures in
    let r = asked_below c.args.count _ _ _ _ _ t.reads on c.ask.ensures c.earlier_of.ensures in
    let count = t.fewer ∙ ap (λ n. n + 1) (sym (ap (λ (r : Reader). count_left r.walk) c.ask.ensures ∙ asked_left 2 (nat_lt c.in-Some.number c.args.count) _)) in
    one_gathered c.args.count _ _ _ _ _ _ _ _ _ count t.goes c.parts.invariant r c.in_ok-push_known-in-Some.ensures

pub parts-smaller : goal.parts-smaller
parts-smaller c =
    let t = taken _ _ _ c.in-Some.ensures in
    let same = ap (λ (r : Reader). count_left r.walk) c.ask.ensures ∙ asked_left 2 (nat_lt c.in-Some.number c.args.count) _ in
    omega (arith, t.fewer, same)

pub returns-in-None : goal.returns-in-None
returns-in-None c = rest_gathered c.args.count _ _ _ _ _ c.parts.invariant c.in-None.ensures c.unbroken.ensures
