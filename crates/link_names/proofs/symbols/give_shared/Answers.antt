use Rattle.std.proofs.Common.{◌≡◌, Some, slice_get, length, take, refl, sym, ap, ◌∙◌, subst, arith}
use Rattle.std.proofs.lemmas.Option.{slice_get-get_or}
use Rattle.linkage_rules.proofs.Steps.{take_whole}
use Rattle.link_rules.specs.Rename.{shared_names}
use Rattle.link_names.specs.Naming.{HasMore}
use Rattle.link_names.proofs.Avoided.{nothing_more, symbol_given}
use Rattle.link_names.proofs.symbols.give_shared.Goals as goal

pub loop-symbol-init : goal.loop-symbol-init
loop-symbol-init c = record { given = nothing_more c.args.naming.now.given; avoided = refl }

pub loop-symbol-preserved : goal.loop-symbol-preserved
loop-symbol-preserved c =
    let ss = c.args.symbols.now in
    let k = c.loop-symbol.symbol-index in
    let s = c.symbol-item.result in
    let at : slice_get ss k ≡ Some s = slice_get-get_or ss k s c.loop-symbol-test.true ∙ ap Some (sym c.symbol-item.is) in
    record {
      given = symbol_given ss k s c.args.naming.now.given c.loop-symbol.naming.given c.give_if_shared.new.naming.given at c.loop-symbol.invariant.given c.in_ok-give_if_shared.ensures.given;
      avoided = c.give_if_shared.ensures.avoided ∙ c.loop-symbol.invariant.avoided;
    }

pub returns-clause-given : goal.returns-clause-given
returns-clause-given c =
    let ss = c.args.symbols.now in
    let end : c.loop-symbol.symbol-index ≡ length ss = omega (arith, c.loop-symbol-test.false, c.loop-symbol.auto.symbol-index-end) in
    subst (λ l. HasMore c.args.naming.now.given (shared_names l) c.loop-symbol.naming.given) (ap (λ n. take n ss) end ∙ take_whole ss) c.loop-symbol.invariant.given
