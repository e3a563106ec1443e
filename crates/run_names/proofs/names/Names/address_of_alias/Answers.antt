use Rattle.std.proofs.Common.{◌≡◌, Some, refl, sym, subst}
use Rattle.std.specs.Prelude.{slice_get}
use Rattle.module_arena.specs.declared.entry.GlobalId.TheVariants as global
use Rattle.module_arena.specs.Known.{IsGood, HasGlobal, counts}
use Rattle.module_arena.specs.Lists.{Lists, name_at}
use Rattle.module_arena.specs.View.{module_of}
use Rattle.run_rules.specs.Look.{address_in}
use Rattle.run_names.specs.Told.{alone}
use Rattle.run_names.proofs.Asked.{alias_never, alias_told, known_target, target_there}
use Rattle.run_names.proofs.names.Names.address_of_alias.Goals as goal

pub returns-in_default : goal.returns-in_default
returns-in_default c =
    let a = c.self.inside.program.now in
    let x = c.alias.result.now in
    let at = subst (λ (y : Lists). slice_get y.aliases c.args.id ≡ Some x) c.arena-arena.ensures.arena c.alias.ensures in
    absurd (target_there a c.arena-arena.ensures.well_formed c.arena-arena.ensures.valid c.args.id x at c.in_default.is)

pub address_of_target-requires-clause-known : goal.address_of_target-requires-clause-known
address_of_target-requires-clause-known c =
    let a = c.self.inside.program.now in
    let x = c.alias.result.now in
    let at = subst (λ (y : Lists). slice_get y.aliases c.args.id ≡ Some x) c.arena-arena.ensures.arena c.alias.ensures in
    let good = subst IsGood c.arena-arena.ensures.arena c.variable_count-count.ensures.good in
    subst (λ (y : Lists). HasGlobal (counts y) c.in-Some.target) c.self.view_is (known_target a c.arena-arena.ensures.well_formed c.arena-arena.ensures.valid c.args.id x at good c.in-Some.target c.in-Some.target c.in-Some.is refl)

pub address_of_target-requires-clause-plain : goal.address_of_target-requires-clause-plain
address_of_target-requires-clause-plain c =
    let a = c.self.inside.program.now in
    let x = c.alias.result.now in
    let at = subst (λ (y : Lists). slice_get y.aliases c.args.id ≡ Some x) c.arena-arena.ensures.arena c.alias.ensures in
    let good = subst IsGood c.arena-arena.ensures.arena c.variable_count-count.ensures.good in
    (λ k is. alias_never a c.arena-arena.ensures.well_formed c.arena-arena.ensures.valid c.args.id x at good c.in-Some.target k c.in-Some.is is)

pub returns : goal.returns
returns c =
    let a = c.self.inside.program.now in
    let x = c.alias.result.now in
    let at = subst (λ (y : Lists). slice_get y.aliases c.args.id ≡ Some x) c.arena-arena.ensures.arena c.alias.ensures in
    let leaf = c.address_of_target.result in
    let told = subst (λ y. leaf ≡ address_in (alone (module_of y)) 0 (name_at y c.in-Some.target)) (sym c.self.view_is) c.address_of_target.ensures in
    subst (λ y. leaf ≡ address_in (alone (module_of y)) 0 (name_at y (global.Alias c.args.id))) c.self.view_is
    (alias_told a c.arena-arena.ensures.well_formed c.arena-arena.ensures.valid c.args.id x at c.in-Some.target leaf c.in-Some.is told)
