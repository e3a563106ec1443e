use Rattle.std.proofs.Common.{◌∙◌, ap, sym, List}
use Rattle.std.proofs.lemmas.Result.{err_from_is_err_and}
use Rattle.ir_syntax.specs.declared.item.Item.{Item}
use Rattle.ir_syntax.specs.View.{items_view}
use Rattle.name_rules.specs.Breaks.{known_in}
use Rattle.name_rules.specs.TypeDemands.{Known}
use Rattle.type_judge.specs.Gathered.{known_of}
use Rattle.name_judge.proofs.InOrder.{whole_judged}
use Rattle.name_judge.proofs.items.check_items.Goals as goal

pub returns-in_err-known : goal.returns-in_err-known
returns-in_err-known c =
    let p = err_from_is_err_and c.from_residual.result c.from_residual.ensures.1 in
    rw (p.1, p.2) (record { told = tt })

pub returns-in_err-mentions : goal.returns-in_err-mentions
returns-in_err-mentions c =
    let p = err_from_is_err_and c.from_residual-in_err-mentions.result
    c.from_residual-in_err-mentions.ensures.1 in
    rw (p.1, p.2) (record { told = tt })

pub check_gathered-requires : goal.check_gathered-requires
check_gathered-requires c = record {
  known = c.in_ok-known.ensures.known;
  mentions = c.in_ok-mentions.ensures.mentions;
  structs =
      c.in_ok-mentions.ensures.structs
      ∙ sym (ap (λ (known : Known). known.structs) c.in_ok-known.ensures.items);
  items =
      c.in_ok-known.ensures.items
      ∙ ap (λ (items : List Item). known_in (items_view items)) (sym c.as_slice.ensures);
}

pub returns : goal.returns
returns c = whole_judged (known_of c.in_ok-known.known) c.as_slice.result.now c.args.items.now _
    c.in_ok-known.ensures.items c.as_slice.ensures c.check_gathered.ensures
