use Rattle.std.proofs.Common.{◌≡◌, ◌<◌, get_or, length, refl, sym, ap, ◌∙◌, subst, arith}
use Rattle.std.proofs.lemmas.List.{length-map}
use Rattle.std.proofs.lemmas.Option.{slice_get_read}
use Rattle.module_arena.specs.declared.entry.Variable.{Variable}
use Rattle.module_arena.specs.declared.entry.GlobalId.TheVariants as global
use Rattle.module_arena.specs.Known.{HasGlobal, counts}
use Rattle.module_arena.specs.Lists.{Lists, name_at}
use Rattle.module_arena.specs.View.{module_of}
use Rattle.run_rules.specs.Look.{address_in}
use Rattle.run_names.specs.Told.{alone}
use Rattle.run_names.proofs.Asked.{variable_told}
use Rattle.run_names.proofs.names.Names.address_of_target.Goals as goal

pub returns-in-Variable : goal.returns-in-Variable
returns-in-Variable c =
    let a = c.self.inside.program.now in
    let n = c.in-Variable.id in
    let requested : n < length c.args.self.now.variables = subst (HasGlobal (counts c.args.self.now)) c.in-Variable.is c.requires.known in
    let many = ap (λ (y : Lists). length y.variables) c.self.view_is in
    let kept : length c.self.inside.addresses.items ≡ length a.variables = ap length c.self.invariant.1 ∙ length-map a.variables (λ (v : Variable). address_in (alone (module_of a)) 0 v.name) in
    let inside : n < length c.self.inside.addresses.items = omega (arith, requested, many, kept) in
    let read = subst (λ i. c.index.result.now ≡ get_or c.self.inside.addresses.items i c.index.result.now) c.number.ensures c.index.ensures in
    let at = slice_get_read c.self.inside.addresses.items _ n _ refl inside read in
    subst (λ y. c.index.result.now ≡ address_in (alone (module_of y)) 0 (name_at y (global.Variable n))) c.self.view_is
    (variable_told a c.arena-arena.ensures.well_formed c.arena-arena.ensures.valid c.self.inside.addresses.items c.self.invariant.1 n c.index.result.now at)
    ∙ ap (λ g. address_in (alone (module_of c.args.self.now)) 0 (name_at c.args.self.now g)) (sym c.in-Variable.is)

pub returns-in-Function : goal.returns-in-Function
returns-in-Function c = c.address_of_function.ensures ∙ ap (λ g. address_in (alone (module_of c.args.self.now)) 0 (name_at c.args.self.now g)) (sym c.in-Function.is)

pub returns-in-Alias : goal.returns-in-Alias
returns-in-Alias c = absurd (c.requires.plain _ c.in-Alias.is)
