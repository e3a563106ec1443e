use Rattle.std.proofs.Common.{◌≡◌, ◌++◌, List, Some, slice_get, length, sym, ap, ◌∙◌, bytes_eq, arith}
use Rattle.std.proofs.lemmas.Option.{slice_get-get_or}
use Rattle.module_arena.specs.Module.{Bytes}
use Rattle.linkage_rules.specs.Ids.{modules}
use Rattle.linkage_rules.specs.Lists.{has}
use Rattle.link_rules.specs.Rename.{all_names, base_of, with_given_names, renaming, shared_names}
use Rattle.link_names.specs.Naming.{TakenNames}
use Rattle.link_names.proofs.Given.{named_all, named_end, named_more, new_ones, same_behind_none}
use Rattle.link_names.proofs.symbols.names_apart.Goals as goal

pub loop-symbol-init : goal.loop-symbol-init
loop-symbol-init c =
    let ms = modules c.args.parts.now in
    let ss = c.args.symbols.now in
    let none_given = c.avoid_all.ensures.given ∙ ap (λ (v : TakenNames). v.given) c.new-naming.ensures in
    record {
      joined = ap (λ (l : List Bytes). l ++ new_ones (with_given_names base_of (all_names ms) c.give_shared.new.naming.given ss)) c.new-names.ensures
          ∙ named_all ms ss c.give_shared.new.naming.given c.requires (same_behind_none c.avoid_all.new.naming.given (shared_names ss) c.give_shared.new.naming.given none_given c.in_ok-give_shared.ensures.given);
      avoided = λ name.
          ap (λ l. has bytes_eq l name) c.give_shared.ensures.avoided
          ∙ same_behind_none c.new-naming.result.avoided (all_names ms) c.avoid_all.new.naming.avoided (ap (λ (v : TakenNames). v.avoided) c.new-naming.ensures) c.in_ok-avoid_all.ensures.avoided name;
    }

pub loop-symbol-preserved : goal.loop-symbol-preserved
loop-symbol-preserved c =
    let ms = modules c.args.parts.now in
    let ss = c.args.symbols.now in
    let k = c.loop-symbol.symbol-index in
    let s = c.symbol-item.result in
    let at : slice_get ss k ≡ Some s = slice_get-get_or ss k s c.loop-symbol-test.true ∙ ap Some (sym c.symbol-item.is) in
    record {
      joined = named_more (all_names ms) c.loop-symbol.naming c.name_symbol.new.naming ss k s c.in_ok-name.name c.loop-symbol.names c.push.new.self (new_ones (renaming ms)) at
          c.loop-symbol.invariant.avoided c.in_ok-name.ensures.name c.in_ok-push.ensures.ok c.loop-symbol.invariant.joined;
      avoided = λ name. ap (λ l. has bytes_eq l name) c.name_symbol.ensures.avoided ∙ c.loop-symbol.invariant.avoided name;
    }

pub returns : goal.returns
returns c =
    let ms = modules c.args.parts.now in
    let ss = c.args.symbols.now in
    let k = c.loop-symbol.symbol-index in
    let end : k ≡ length ss = omega (arith, c.loop-symbol-test.false, c.loop-symbol.auto.symbol-index-end) in
    named_end (all_names ms) c.loop-symbol.naming.given c.loop-symbol.names (new_ones (renaming ms)) ss k end c.loop-symbol.invariant.joined
