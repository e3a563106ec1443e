use Rattle.std.proofs.Common.{◌+◌, ◌<◌, ◌∙◌, arith, length, refl, sym, subst, List}
use Rattle.std.proofs.Common.{take, drop}
use Rattle.std.proofs.lemmas.Result.{err_from_is_err_and}
use Rattle.ir_syntax.specs.Tree.{ItemTree}
use Rattle.ir_syntax.specs.View.{items_view}
use Rattle.type_judge.proofs.OnOrder.Gathered.{items_more}
use Rattle.type_judge.specs.Gathered.{known_of}
use Rattle.name_judge.specs.Seen.{AreKept, IsSeen}
use Rattle.type_judge.proofs.Parts.{leads_start}
use Rattle.name_judge.proofs.DistinctNames.{distinct_at, none_kept}
use Rattle.name_judge.proofs.InOrder.{item_next, item_fails, items_end}
use Rattle.name_judge.proofs.items.check_each.Goals as goal

pub items-init : goal.items-init
items-init c = record {
  seen = c.requires.seen;
  kept = none_kept _ _ c.requires.globals;
  leads = leads_start _;
}

pub items-preserved : goal.items-preserved
items-preserved c =
    let less : c.items.item-index < length c.args.items.now = omega arith in
    let known = known_of c.args.known.now in
    let items = c.args.items.now in
    let front = items_view (take c.items.item-index items) in
    let rest = items_view (drop (c.items.item-index + 1) items) in
    let distinct = distinct_at known items items c.items.item-index c.item-item.result
    c.requires.items refl less c.item-item.is in
    let earlier = c.in_ok-earlier.ensures.earlier front rest c.items.invariant.kept
    (λ e. distinct (sym c.are_distinct-distinct.ensures ∙ e)) in
    let told = c.are_distinct-distinct.result in
    let more = items_more items c.items.item-index c.item-item.result less c.item-item.is in
    record {
      seen = subst (λ (before : List ItemTree). IsSeen c.check_item.new.seen before) (sym more)
          (c.in_ok-check_item.ensures.seen front c.items.invariant.seen);
      kept =
          subst (λ (before : List ItemTree). AreKept told c.earlier_global.new.seen before)
          (sym more) (c.in_ok-earlier.ensures.kept front c.items.invariant.kept);
      leads = item_next known items c.items.item-index c.item-item.result _ less c.item-item.is
          (c.in_ok-check_item.ensures.judged front c.items.invariant.seen earlier)
          c.items.invariant.leads;
    }

pub returns-in_err-check_item : goal.returns-in_err-check_item
returns-in_err-check_item c =
    let less : c.items.item-index < length c.args.items.now = omega arith in
    let known = known_of c.args.known.now in
    let items = c.args.items.now in
    let front = items_view (take c.items.item-index items) in
    let rest = items_view (drop (c.items.item-index + 1) items) in
    let distinct = distinct_at known items items c.items.item-index c.item-item.result
    c.requires.items refl less c.item-item.is in
    let earlier = c.in_ok-earlier.ensures.earlier front rest c.items.invariant.kept
    (λ e. distinct (sym c.are_distinct-distinct.ensures ∙ e)) in
    let p = err_from_is_err_and c.from_residual-in_err-check_item.result
    c.from_residual-in_err-check_item.ensures.1 in
    rw (p.1, p.2) (item_fails known items c.items.item-index c.item-item.result _ _ less
    c.item-item.is (c.in_err-check_item.ensures.judged front c.items.invariant.seen earlier)
    c.items.invariant.leads)

pub returns-in_err-earlier : goal.returns-in_err-earlier
returns-in_err-earlier c =
    let p = err_from_is_err_and c.from_residual.result c.from_residual.ensures.1 in
    rw (p.1, p.2) (record { told = tt })

pub returns : goal.returns
returns c = items_end (known_of c.args.known.now) c.args.items.now c.items.item-index _
    (omega arith) c.items.invariant.leads
