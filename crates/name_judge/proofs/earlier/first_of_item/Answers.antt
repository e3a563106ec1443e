use Rattle.std.proofs.Common.{ap, sym, subst, ◌≡◌, Option}
use Rattle.std.specs.Prelude.{filter_map, IfOk}
use Rattle.std.proofs.lemmas.Result.{on_ok_weaker}
use Rattle.ir_base.specs.declared.place.Place.{Place}
use Rattle.ir_syntax.specs.View.{item_view}
use Rattle.ir_terminals.specs.declared.values.PlacedName.{PlacedName}
use Rattle.name_rules.specs.Breaks.{global_name}
use Rattle.name_judge.specs.Seen.{place_among}
use Rattle.name_judge.proofs.SeenItem.{names_kept, names_more}
use Rattle.name_judge.proofs.earlier.first_of_item.Goals as goal

pub returns-in-None-clause-earlier : goal.returns-in-None-clause-earlier
returns-in-None-clause-earlier c before are = ap (place_among (filter_map global_name before)) c.in-None.ensures

pub returns-in-None-clause-kept : goal.returns-in-None-clause-kept
returns-in-None-clause-kept c before are = names_kept global_name before (item_view c.args.item.now) c.args.seen.now (sym c.in-None.ensures) are

pub returns-in-Some-clause-earlier : goal.returns-in-Some-clause-earlier
returns-in-Some-clause-earlier c before are =
    let names = filter_map global_name before in
    subst (λ (o : Option PlacedName). IfOk c.first_or_kept.result (λ (earlier : Option Place). earlier ≡ place_among names o)) c.in-Some.ensures (c.first_or_kept.ensures.earlier names are)

pub returns-in-Some-clause-kept : goal.returns-in-Some-clause-kept
returns-in-Some-clause-kept c before are =
    on_ok_weaker c.first_or_kept.result
    (λ new. names_more global_name before (item_view c.args.item.now) c.in-Some.name.now c.first_or_kept.new.seen (sym c.in-Some.ensures) new)
    (c.first_or_kept.ensures.kept (filter_map global_name before) are)
