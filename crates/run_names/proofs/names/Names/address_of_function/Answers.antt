use Rattle.std.proofs.Common.{◌≡◌, ◌<◌, None, length, get_or, refl, sym, ap, ◌∙◌, subst, arith}
use Rattle.std.proofs.lemmas.List.{length-map}
use Rattle.std.proofs.lemmas.Option.{slice_get_read}
use Rattle.ir_eval.specs.declared.value.Scalar.TheVariants.{Ptr}
use Rattle.linkage_rules.specs.Addresses.{function_address}
use Rattle.module_arena.specs.declared.entry.GlobalId.TheVariants as global
use Rattle.module_arena.specs.Lists.{Lists, name_at}
use Rattle.module_arena.specs.View.{module_of}
use Rattle.run_rules.specs.Look.{address_in}
use Rattle.run_names.specs.declared.standing.Standing.TheVariants as standing
use Rattle.run_names.specs.Standings.{function_stands}
use Rattle.run_names.specs.Told.{alone}
use Rattle.run_names.proofs.Arena.{leaf_by}
use Rattle.run_names.proofs.Asked.{function_told}
use Rattle.run_names.proofs.names.Names.address_of_function.Goals as goal

pub returns-in-Code : goal.returns-in-Code
returns-in-Code c =
    let a = c.self.inside.program.now in
    let there = Ptr (record { block = None; address = function_address c.args.id }) in
    let many = ap (λ (x : Lists). length x.functions) c.self.view_is in
    let kept : length c.self.inside.standings.items ≡ length a.functions = ap length c.self.invariant.2 ∙ length-map a.functions function_stands in
    let inside : c.args.id < length c.self.inside.standings.items = omega (arith, many, kept, c.requires) in
    let read = subst (λ i. c.index.result.now ≡ get_or c.self.inside.standings.items i c.index.result.now) c.number.ensures c.index.ensures in
    let at = slice_get_read c.self.inside.standings.items _ c.args.id _ refl inside read in
    c.function_pointer.ensures ∙ ap (leaf_by there) (sym c.in-Code.is)
    ∙ subst (λ x. leaf_by there c.index.result.now ≡ address_in (alone (module_of x)) 0 (name_at x (global.Function c.args.id))) c.self.view_is
    (function_told a c.arena-arena.ensures.well_formed c.arena-arena.ensures.valid c.self.inside.standings.items c.self.invariant.2 c.args.id c.index.result.now at)

pub returns-in-Host : goal.returns-in-Host
returns-in-Host c =
    let a = c.self.inside.program.now in
    let there = Ptr (record { block = None; address = function_address c.args.id }) in
    let many = ap (λ (x : Lists). length x.functions) c.self.view_is in
    let kept : length c.self.inside.standings.items ≡ length a.functions = ap length c.self.invariant.2 ∙ length-map a.functions function_stands in
    let inside : c.args.id < length c.self.inside.standings.items = omega (arith, many, kept, c.requires) in
    let read = subst (λ i. c.index.result.now ≡ get_or c.self.inside.standings.items i c.index.result.now) c.number.ensures c.index.ensures in
    let at = slice_get_read c.self.inside.standings.items _ c.args.id _ refl inside read in
    c.function_pointer-in-Host.ensures ∙ ap (leaf_by there) (sym c.in-Host.is)
    ∙ subst (λ x. leaf_by there c.index.result.now ≡ address_in (alone (module_of x)) 0 (name_at x (global.Function c.args.id))) c.self.view_is
    (function_told a c.arena-arena.ensures.well_formed c.arena-arena.ensures.valid c.self.inside.standings.items c.self.invariant.2 c.args.id c.index.result.now at)

pub returns-in-Null : goal.returns-in-Null
returns-in-Null c =
    let a = c.self.inside.program.now in
    let there = Ptr (record { block = None; address = function_address c.args.id }) in
    let many = ap (λ (x : Lists). length x.functions) c.self.view_is in
    let kept : length c.self.inside.standings.items ≡ length a.functions = ap length c.self.invariant.2 ∙ length-map a.functions function_stands in
    let inside : c.args.id < length c.self.inside.standings.items = omega (arith, many, kept, c.requires) in
    let read = subst (λ i. c.index.result.now ≡ get_or c.self.inside.standings.items i c.index.result.now) c.number.ensures c.index.ensures in
    let at = slice_get_read c.self.inside.standings.items _ c.args.id _ refl inside read in
    ap (leaf_by there) (sym c.in-Null.is)
    ∙ subst (λ x. leaf_by there c.index.result.now ≡ address_in (alone (module_of x)) 0 (name_at x (global.Function c.args.id))) c.self.view_is
    (function_told a c.arena-arena.ensures.well_formed c.arena-arena.ensures.valid c.self.inside.standings.items c.self.invariant.2 c.args.id c.index.result.now at)

pub returns-in-Unresolved : goal.returns-in-Unresolved
returns-in-Unresolved c =
    let a = c.self.inside.program.now in
    let there = Ptr (record { block = None; address = function_address c.args.id }) in
    let many = ap (λ (x : Lists). length x.functions) c.self.view_is in
    let kept : length c.self.inside.standings.items ≡ length a.functions = ap length c.self.invariant.2 ∙ length-map a.functions function_stands in
    let inside : c.args.id < length c.self.inside.standings.items = omega (arith, many, kept, c.requires) in
    let read = subst (λ i. c.index.result.now ≡ get_or c.self.inside.standings.items i c.index.result.now) c.number.ensures c.index.ensures in
    let at = slice_get_read c.self.inside.standings.items _ c.args.id _ refl inside read in
    ap (leaf_by there) (sym c.in-Unresolved.is)
    ∙ subst (λ x. leaf_by there c.index.result.now ≡ address_in (alone (module_of x)) 0 (name_at x (global.Function c.args.id))) c.self.view_is
    (function_told a c.arena-arena.ensures.well_formed c.arena-arena.ensures.valid c.self.inside.standings.items c.self.invariant.2 c.args.id c.index.result.now at)
