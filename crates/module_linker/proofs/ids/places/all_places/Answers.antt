use Rattle.std.proofs.Common.{map, ap, ◌∙◌, arith}
use Rattle.module_linker.specs.Ids.Filing.{places}
use Rattle.module_linker.proofs.OnIds.Once.{distinct_more, places_more}
use Rattle.module_linker.proofs.ids.places.all_places.Goals as goal

pub parts-preserved : goal.parts-preserved
parts-preserved c =
    let ps = c.args.parts.now in
    let n = c.parts.part in
    let a = c.arena_of.result.now in
    let at = c.arena_of.ensures.arena in
    record {
      upto = omega arith;
      places = ap (map places) c.in_ok-push.ensures.items ∙ places_more ps n a at c.parts.ids.items c.in_ok-new.field-0 c.parts.invariant.places c.in_ok-new.ensures.places;
      distinct = distinct_more ps n a at c.parts.invariant.distinct c.in_ok-new.ensures.distinct;
    }
