use Rattle.std.proofs.Common.{◌≡◌, length, map, ap, ◌∙◌, arith}
use Rattle.linkage_rules.specs.Ids.{modules}
use Rattle.link_rules.specs.Linked.{linked, linked_globals}
use Rattle.module_linker.specs.Stages.Declared.{bare, with_globals, ids_from}
use Rattle.module_linker.specs.Stages.Ground.{ground}
use Rattle.module_linker.proofs.OnEntries.Numbering.{whole_list}
use Rattle.module_linker.proofs.OnEntries.Rooms.{room, declaring_on, ids_on, linked_at, is_symbol, as_many_names, as_many_globals, none_declared}
use Rattle.module_linker.proofs.entries.declaring.declare_symbols.Goals as goal

pub at-name-requires : goal.at-name-requires
at-name-requires c =
    let long = as_many_names (modules c.args.parts.now) c.symbols-symbols.result.now c.args.names.now (c.symbols-symbols.ensures ∙ c.requires.resolved.symbols) c.requires.names in
    omega (arith, long, c.each-test.true, c.len-index-end.ensures)

pub declare_symbol-requires-clause-symbol : goal.declare_symbol-requires-clause-symbol
declare_symbol-requires-clause-symbol c =
    is_symbol (modules c.args.parts.now) c.symbols-symbols.result.now c.args.names.now (c.symbols-symbols.ensures ∙ c.requires.resolved.symbols) c.requires.names c.each.index c.at-symbol.result.now c.at-name.result.now c.at-symbol.ensures c.at-name.ensures

pub declare_symbol-requires-clause-types : goal.declare_symbol-requires-clause-types
declare_symbol-requires-clause-types c = c.each.invariant.declaring.types

pub declare_symbol-requires-clause-room : goal.declare_symbol-requires-clause-room
declare_symbol-requires-clause-room c =
    let ms = modules c.args.parts.now in
    let s = c.at-symbol.result.now in
    let m = c.at-name.result.now in
    let at = linked_at ms c.symbols-symbols.result.now c.args.names.now (c.symbols-symbols.ensures ∙ c.requires.resolved.symbols) c.requires.names c.each.index s m c.at-symbol.ensures c.at-name.ensures in
    room c.args.parts.now c.args.copiers.now c.each.index c.each.into.arena c.each.invariant.declaring (linked ms (s, m)) at c.requires.can

pub each-init : goal.each-init
each-init c = record {
  upto = omega arith;
  declaring = none_declared c.args.parts.now c.args.copiers.now c.args.into.now.arena c.requires.types c.requires.ground;
  ids = c.new-ids.ensures.items;
}

pub each-preserved : goal.each-preserved
each-preserved c =
    let parts = c.args.parts.now in
    let ms = modules parts in
    let s = c.at-symbol.result.now in
    let m = c.at-name.result.now in
    let old = c.each.invariant in
    let at = linked_at ms c.symbols-symbols.result.now c.args.names.now (c.symbols-symbols.ensures ∙ c.requires.resolved.symbols) c.requires.names c.each.index s m c.at-symbol.ensures c.at-name.ensures in
    record {
      upto = omega (arith, c.each-test.true, c.len-index-end.ensures);
      declaring = declaring_on parts c.args.copiers.now c.each.index c.each.into.arena old.declaring (linked ms (s, m)) at c.declare_symbol.new.into.arena c.in_ok-id.id c.in_ok-id.ensures;
      ids = ids_on parts c.args.copiers.now c.each.index c.each.into.arena old.declaring (linked ms (s, m)) at c.declare_symbol.new.into.arena c.in_ok-id.id c.in_ok-id.ensures c.each.ids.items c.push.new.self.items old.ids c.in_ok-push.ensures.items;
    }

pub returns-clause-module : goal.returns-clause-module
returns-clause-module c =
    let ms = modules c.args.parts.now in
    let upto = c.each.invariant.upto in
    let long = as_many_globals ms c.symbols-symbols.result.now c.args.names.now (c.symbols-symbols.ensures ∙ c.requires.resolved.symbols) c.requires.names in
    let end : c.each.index ≡ length (linked_globals ms) = omega (arith, upto, long, c.each-test.false, c.len-index-end.ensures) in
    c.each.invariant.declaring.joined ∙ ap (λ l. with_globals (ground ms) (map bare l)) (whole_list (linked_globals ms) c.each.index end)

pub returns-clause-types : goal.returns-clause-types
returns-clause-types c = c.each.invariant.declaring.types

pub returns-clause-untargeted : goal.returns-clause-untargeted
returns-clause-untargeted c = c.each.invariant.declaring.untargeted

pub returns-clause-ids : goal.returns-clause-ids
returns-clause-ids c =
    let ms = modules c.args.parts.now in
    let upto = c.each.invariant.upto in
    let long = as_many_globals ms c.symbols-symbols.result.now c.args.names.now (c.symbols-symbols.ensures ∙ c.requires.resolved.symbols) c.requires.names in
    let end : c.each.index ≡ length (linked_globals ms) = omega (arith, upto, long, c.each-test.false, c.len-index-end.ensures) in
    c.each.invariant.ids ∙ ap (ids_from 0 0 0) (whole_list (linked_globals ms) c.each.index end)
