use Rattle.std.proofs.Common.{◌≡◌, map, length, take, refl, ap, ◌∙◌, subst, arith}
use Rattle.std.proofs.lemmas.Option.{slice_get-get_or}
use Rattle.linkage_rules.specs.Globals.{name_of}
use Rattle.linkage_rules.specs.Ids.{modules, seen}
use Rattle.linkage_rules.proofs.Steps.{take_whole}
use Rattle.link_names.specs.Naming.{HasMore}
use Rattle.link_names.proofs.Avoided.{name_avoided, nothing_more}
use Rattle.link_names.proofs.symbols.avoid_names.Goals as goal

pub loop-id-init : goal.loop-id-init
loop-id-init c = record { avoided = nothing_more c.args.naming.now.avoided; given = refl }

pub loop-id-preserved : goal.loop-id-preserved
loop-id-preserved c =
    record {
      avoided = name_avoided (modules c.args.parts.now) c.args.ids.now c.loop-id.id-index _ c.name.result.now c.args.naming.now.avoided c.loop-id.naming.avoided c.avoid.new.self.avoided
          (slice_get-get_or c.args.ids.now c.loop-id.id-index _ c.loop-id-test.true) c.name.ensures c.loop-id.invariant.avoided c.in_ok-avoid.ensures.avoided;
      given = c.avoid.ensures.given ∙ c.loop-id.invariant.given;
    }

pub returns-clause-avoided : goal.returns-clause-avoided
returns-clause-avoided c =
    let ids = c.args.ids.now in
    let end : c.loop-id.id-index ≡ length ids = omega (arith, c.loop-id-test.false, c.loop-id.auto.id-index-end) in
    subst (λ l. HasMore c.args.naming.now.avoided (map (λ id. name_of (seen (modules c.args.parts.now) id).global) l) c.loop-id.naming.avoided) (ap (λ n. take n ids) end ∙ take_whole ids) c.loop-id.invariant.avoided
