use Rattle.std.proofs.Common.{◌≡◌, ◌<◌, Some, length, ap, sym, ◌∙◌, subst}
use Rattle.std.specs.Prelude.{codes, option_and_then}
use Rattle.module_arena.specs.Lists.{Lists, global_name}
use Rattle.module_arena.specs.Known.{IsGood}
use Rattle.run_names.specs.Entry.Mains.{main_by_number, shared_function}
use Rattle.run_names.proofs.OnEntry.Entered.{found, main_is, no_main, shared_there}
use Rattle.run_names.proofs.entry.main_function.main_named.Goals as goal

pub shared_function-requires : goal.shared_function-requires
shared_function-requires c = found c.arena-arena.result.now c.in-Some.global c.args.name.now ((c.lookup.ensures c.in-Some.global).0 c.in-Some.is)

pub main_by-requires : goal.main_by-requires
main_by-requires c =
    let a = c.arena-arena.result.now in
    let g = c.in-Some.global in
    let named = (c.lookup.ensures g).0 c.in-Some.is in
    subst (λ (b : Lists). c.in-Some-shared_function.id < length b.functions) c.arena-arena.ensures.arena
    (shared_there a c.variable_count-count.ensures.good g c.in-Some-shared_function.id (found a g c.args.name.now named) (sym c.shared_function.ensures ∙ c.in-Some-shared_function.is))

pub returns-in_default : goal.returns-in_default
returns-in_default c =
    let p = c.args.program.now in
    sym
    (no_main p c.arena-arena.ensures.well_formed c.arena-arena.ensures.valid (codes "main")
    (λ g h. c.in_default.not-Some g ((c.lookup.ensures g).1 (ap (λ (b : Lists). global_name b g) c.arena-arena.ensures.arena ∙ h ∙ ap (λ n. Some n) (sym c.requires)))))

pub returns-in-Some-shared_function : goal.returns-in-Some-shared_function
returns-in-Some-shared_function c =
    let p = c.args.program.now in
    let g = c.in-Some.global in
    let same = c.arena-arena.ensures.arena in
    let named : global_name p g ≡ Some (codes "main") = ap (λ (b : Lists). global_name b g) (sym same) ∙ (c.lookup.ensures g).0 c.in-Some.is ∙ ap (λ n. Some n) c.requires in
    let shared : shared_function p g ≡ Some c.in-Some-shared_function.id = ap (λ (b : Lists). shared_function b g) (sym same) ∙ sym c.shared_function.ensures ∙ c.in-Some-shared_function.is in
    c.main_by.ensures ∙ ap (option_and_then (main_by_number p)) (sym shared)
    ∙ sym (main_is p c.arena-arena.ensures.well_formed c.arena-arena.ensures.valid (subst IsGood same c.variable_count-count.ensures.good) (codes "main") g named)

pub returns-in-None : goal.returns-in-None
returns-in-None c =
    let p = c.args.program.now in
    let g = c.in-Some.global in
    let same = c.arena-arena.ensures.arena in
    let named : global_name p g ≡ Some (codes "main") = ap (λ (b : Lists). global_name b g) (sym same) ∙ (c.lookup.ensures g).0 c.in-Some.is ∙ ap (λ n. Some n) c.requires in
    ap (option_and_then (main_by_number p)) (sym (ap (λ (b : Lists). shared_function b g) (sym same) ∙ sym c.shared_function.ensures ∙ c.in-None.is))
    ∙ sym (main_is p c.arena-arena.ensures.well_formed c.arena-arena.ensures.valid (subst IsGood same c.variable_count-count.ensures.good) (codes "main") g named)
