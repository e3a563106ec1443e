use Rattle.std.proofs.Common.{◌≡◌, sym, ap, ◌∙◌, subst}
use Rattle.std.specs.Prelude.{slice_get, option_and_then}
use Rattle.std.specs.Option.{option_map}
use Rattle.module_arena.specs.View.{module_of}
use Rattle.run_rules.specs.Look.{variable_bounds}
use Rattle.run_names.specs.Spots.{AreWithin, bounds_of}
use Rattle.run_names.specs.Told.{alone}
use Rattle.run_names.proofs.Spotted.{bounds_told}
use Rattle.run_names.proofs.names.Names.bounds.Goals as goal

pub bounds_at-requires : goal.bounds_at-requires
bounds_at-requires c = subst AreWithin (sym c.deref.ensures.value) c.self.invariant.0.within

pub returns-in-Some : goal.returns-in-Some
returns-in-Some c =
    let a = c.self.inside.program.now in
    c.bounds_at.ensures ∙ ap (λ l. option_map bounds_of (slice_get l c.in-Some.block)) c.deref.ensures.value
    ∙ subst (λ x. option_map bounds_of (slice_get c.self.inside.spots.items c.in-Some.block) ≡ variable_bounds (alone (module_of x)) c.in-Some.block) c.self.view_is (bounds_told a c.self.inside.spots.items c.self.invariant.0 c.in-Some.block)
    ∙ ap (option_and_then (variable_bounds (alone (module_of c.args.self.now)))) (sym c.in-Some.is)
