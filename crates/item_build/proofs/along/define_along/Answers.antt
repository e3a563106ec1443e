use Rattle.std.proofs.Common.{refl, sym, ap, ◌∙◌, subst}
use Rattle.type_table.specs.Types.{structs}
use Rattle.module_arena.specs.Module.{Module}
use Rattle.item_build.specs.Partly.{with_structs}
use Rattle.item_build.specs.Places.{ArePlaces}
use Rattle.item_build.proofs.Partly.{same_structs}
use Rattle.item_build.proofs.along.define_along.Goals as goal

pub order-init : goal.order-init
order-init c = record { joined = same_structs c.args.builder.now.arena; others = refl; partly = c.requires.partly }

pub define_numbered-requires-clause-places : goal.define_numbered-requires-clause-places
define_numbered-requires-clause-places c = subst (ArePlaces c.args.items.now) (sym c.as_slice-places.ensures.value) c.in_ok-listed.ensures

pub order-preserved : goal.order-preserved
order-preserved c = record {
  joined = c.in_ok-define_numbered.ensures.module ∙ ap (λ (m : Module). with_structs m (structs c.define_numbered.new.builder.arena.table)) c.order.invariant.joined;
  others = c.in_ok-define_numbered.ensures.entries ∙ c.order.invariant.others;
  partly = c.in_ok-define_numbered.ensures.partly;
}
