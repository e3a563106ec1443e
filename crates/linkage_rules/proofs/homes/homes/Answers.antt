use Rattle.std.proofs.Common.{map, sym, ap, ◌∙◌, subst, All}
use Rattle.std.specs.Option.{option_map}
use Rattle.std.proofs.lemmas.List.Elements.{All-push}
use Rattle.indexmap.specs.IndexMap.{keys}
use Rattle.linkage_rules.specs.Grouped.{IsHome}
use Rattle.linkage_rules.specs.Ids.{IsEntryId, modules, seen}
use Rattle.linkage_rules.proofs.Steps.{homes_step}
use Rattle.linkage_rules.proofs.homes.homes.Goals as goal

pub home_among-requires : goal.home_among-requires
home_among-requires c = subst (All (IsEntryId c.args.parts.now)) (sym c.group.ensures) (c.requires.known c.symbol_at-symbol.result.now)

pub loop-index-preserved : goal.loop-index-preserved
loop-index-preserved c =
    let parts = modules c.args.parts.now in
    let s = c.symbol_at-symbol.result.now in
    record {
      each =
          ap (map (option_map (seen parts))) c.in_ok-push.ensures.items
          ∙ homes_step parts (keys c.args.groups.now) c.loop-index.index s c.loop-index.homes.items c.home_among.result c.group.result.now c.symbol_at-symbol.ensures c.loop-index.invariant.each c.home_among.ensures.best
          (ap (map (seen parts)) c.group.ensures ∙ c.requires.groups s);
      known = subst (All (IsHome c.args.parts.now)) (sym c.in_ok-push.ensures.items) (All-push (IsHome c.args.parts.now) c.loop-index.homes.items c.home_among.result c.loop-index.invariant.known c.home_among.ensures.home);
    }
