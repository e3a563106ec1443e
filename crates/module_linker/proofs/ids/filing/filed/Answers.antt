use Rattle.std.proofs.Common.{◌≡◌, ◌+◌, ◌<◌, List, length, map, slice_get, All, Some, sym, ap, ◌∙◌, subst, arith}
use Rattle.std.specs.Vec.{with_items}
use Rattle.std.proofs.lemmas.List.{with_items_is}
use Rattle.std.proofs.lemmas.List.Elements.{All-weaker}
use Rattle.std.proofs.lemmas.Option.{slice_get-get_or, slice_get_within}
use Rattle.linkage_rules.specs.Entries.{same_symbol}
use Rattle.linkage_rules.specs.Grouped.{group_in}
use Rattle.linkage_rules.specs.Ids.{IsEntryId, modules}
use Rattle.linkage_rules.specs.declared.entry.EntryId.{EntryId}
use Rattle.linkage_rules.specs.declared.symbol.Symbol.{Symbol}
use Rattle.link_rules.proofs.Apart.{Apart}
use Rattle.link_rules.proofs.Symbols.{symbols_apart}
use Rattle.module_linker.specs.Ids.Filing.{HasPlace, IsFiledUnder, KnownIds, places}
use Rattle.module_linker.proofs.OnIds.Among.{AreFiledTo, symbol_filed}
use Rattle.module_linker.proofs.OnIds.Once.{long_as, place_of}
use Rattle.module_linker.proofs.ids.filing.filed.Goals as goal

pub file-requires : goal.file-requires
file-requires c =
    let ps = c.args.parts.now in
    let ids = c.each.ids.items in
    let rows = c.args.bindings.now.groups in
    let s = c.at.result.now in
    let group : All (HasPlace ids) (group_in rows s) = All-weaker (IsEntryId ps) (HasPlace ids) (λ e known. place_of ps ids c.each.invariant.room e known) (group_in rows s) (c.requires.resolved.bindings.groups.known s) in
    subst (λ (l : List KnownIds). All (HasPlace l) c.entries.result.now) (sym c.deref_mut.ensures.value) (subst (λ (es : List EntryId). All (HasPlace ids) es) (sym c.entries.ensures) group)

pub each-preserved : goal.each-preserved
each-preserved c =
    let ps = c.args.parts.now in
    let v = c.each.ids in
    let after = c.file.new.ids in
    let rows = c.args.bindings.now.groups in
    let ss = c.args.bindings.now.symbols in
    let new = c.args.new.now in
    let n = c.each.index in
    let s = c.at.result.now in
    let g = c.index-new-index.result in
    let more = c.each-test.true in
    let many = c.len-index-end.ensures in
    let listed = ap length c.symbols-symbols.ensures in
    let one_each = c.requires.one_each in
    let lt : n < length new = omega (arith, more, many, listed, one_each) in
    let own : IsFiledUnder c.deref_mut.result.now (group_in rows s) g after = subst (λ (es : List EntryId). IsFiledUnder c.deref_mut.result.now es g after) c.entries.ensures c.file.ensures in
    let filed : IsFiledUnder v.items (group_in rows s) g after = subst (λ (l : List KnownIds). IsFiledUnder l (group_in rows s) g after) c.deref_mut.ensures.value own in
    let long = long_as v.items after filed.room in
    let items : (with_items v after).items ≡ after = with_items_is v after (omega (arith, long, v.ok.0)) in
    let here : slice_get ss n ≡ Some s = ap (λ (l : List Symbol). slice_get l n) (sym c.symbols-symbols.ensures) ∙ c.at.ensures in
    let is : slice_get new n ≡ Some g = slice_get-get_or new n g lt ∙ ap Some (sym c.index-new-index.is) in
    let apart : Apart same_symbol ss = subst (Apart same_symbol) (sym c.requires.resolved.symbols) (symbols_apart (modules ps)) in
    record {
      upto = omega (arith, more, many, listed);
      room = ap (map places) items ∙ filed.room ∙ c.each.invariant.room;
      through = subst (λ (l : List KnownIds). AreFiledTo (n + 1) ps ss new l) (sym items)
          (symbol_filed ps rows c.requires.resolved.bindings.groups c.in_ok-ids.ensures.distinct ss apart new v.items after n s g here is filed c.each.invariant.through);
    }

pub returns-clause-filed : goal.returns-clause-filed
returns-clause-filed c = λ id k known at.
    let within = slice_get_within c.args.bindings.now.symbols k _ at in
    let past = c.each-test.false in
    let many = c.len-index-end.ensures in
    let listed = ap length c.symbols-symbols.ensures in
    c.each.invariant.through id k known (omega (arith, within, past, many, listed)) at
