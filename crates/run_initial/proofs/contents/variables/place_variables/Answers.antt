use Rattle.std.proofs.Common.{get_or, length, ap, sym, ◌∙◌, subst, arith}
use Rattle.std.proofs.lemmas.Option.{slice_get-get_or}
use Rattle.ir_memory.specs.Given.{IsAlignment}
use Rattle.module_arena.specs.Known.{counts}
use Rattle.module_arena.specs.Lists.{Lists}
use Rattle.module_arena.specs.Valid.{IsValid}
use Rattle.module_arena.specs.View.{module_of}
use Rattle.module_arena.specs.WellFormed.{IsWellFormed}
use Rattle.run_names.proofs.Bounded.{few_variables}
use Rattle.run_initial.proofs.OnContents.Aligned.{variable_aligned}
use Rattle.run_initial.proofs.OnContents.Known.{placed_where}
use Rattle.run_initial.proofs.OnContents.Placed.{are_placed}
use Rattle.run_initial.proofs.OnContents.Rooms.{align_is, as_many, its_variable, no_more}
use Rattle.run_initial.proofs.contents.variables.place_variables.Goals as goal

pub add_variables-requires-clause-aligned : goal.add_variables-requires-clause-aligned
add_variables-requires-clause-aligned c = λ k d lt.
    let a = c.args.names.now in
    let well_formed : IsWellFormed (module_of a) = subst (λ (b : Lists). IsWellFormed (module_of b)) c.program-program.ensures c.arena-arena.ensures.well_formed in
    let valid : IsValid (module_of a) = subst (λ (b : Lists). IsValid (module_of b)) c.program-program.ensures c.arena-arena.ensures.valid in
    let spots = c.spots.result.now in
    let s = get_or spots k d in
    let there = slice_get-get_or spots k d lt in
    let its = its_variable a well_formed valid spots c.spots.ensures k s there in
    subst IsAlignment (sym (align_is a well_formed valid spots c.spots.ensures k s there its.0 its.1)) (variable_aligned a s.variable its.0 its.1.at valid)

pub add_variables-requires-clause-few : goal.add_variables-requires-clause-few
add_variables-requires-clause-few c =
    let a = c.args.names.now in
    let well_formed : IsWellFormed (module_of a) = subst (λ (b : Lists). IsWellFormed (module_of b)) c.program-program.ensures c.arena-arena.ensures.well_formed in
    let valid : IsValid (module_of a) = subst (λ (b : Lists). IsValid (module_of b)) c.program-program.ensures c.arena-arena.ensures.valid in
    let many = as_many a well_formed valid c.spots.result.now c.spots.ensures in
    let few = no_more a well_formed valid in
    let same = ap (λ (b : Lists). length b.variables) (c.arena-arena.ensures.arena ∙ c.program-program.ensures) in
    let most = few_variables (counts c.arena-arena.result.now) c.variable_count-count.ensures.good.few in
    omega (arith, many, few, same, most)

pub returns-clause-fresh : goal.returns-clause-fresh
returns-clause-fresh c =
    let a = c.args.names.now in
    let well_formed : IsWellFormed (module_of a) = subst (λ (b : Lists). IsWellFormed (module_of b)) c.program-program.ensures c.arena-arena.ensures.well_formed in
    let valid : IsValid (module_of a) = subst (λ (b : Lists). IsValid (module_of b)) c.program-program.ensures c.arena-arena.ensures.valid in
    placed_where a c.add_variables.result _ _ c.add_variables.new.memory c.spots.ensures.variables c.add_variables.ensures (are_placed a well_formed valid c.add_variables.new.memory)
