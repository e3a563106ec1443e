use Rattle.std.proofs.Common.{◌≡◌, ◌<◌, All, [], length, Some, sym, ap, ◌∙◌, subst}
use Rattle.std.specs.Prelude.{slice_get}
use Rattle.std.proofs.lemmas.List.Elements.{All-map}
use Rattle.std.proofs.lemmas.Option.{slice_get_within}
use Rattle.module_arena.specs.declared.entry.Parameter.{Parameter}
use Rattle.module_arena.specs.Known.{KnowsFunction}
use Rattle.module_arena.specs.Lists.{Lists}
use Rattle.module_arena.specs.Valid.{IsValid}
use Rattle.module_arena.specs.View.{module_of}
use Rattle.module_arena.specs.WellFormed.{IsWellFormed}
use Rattle.run_initial.specs.Constants.Sound.{names_of}
use Rattle.run_rules.specs.Scope.{leaf_count}
use Rattle.run_decode.specs.Scopes.Scopes.{function_of}
use Rattle.run_decode.proofs.OnSignatures.Numbered.{numbers_none}
use Rattle.run_decode.proofs.OnSuits.Listed.{item_of}
use Rattle.run_acts.proofs.OnProgram.Made.{code_of_found, head_made}
use Rattle.run_acts.proofs.program.told.head_of.Goals as goal

pub function-function-requires : goal.function-function-requires
function-function-requires c =
    subst (λ (a : Lists). c.args.id < length a.functions) (sym (c.arena-arena.ensures.arena ∙ c.program.ensures)) (slice_get_within c.args.names.now.functions c.args.id c.requires.code.0 c.requires.code.1)

pub leaf_count-requires : goal.leaf_count-requires
leaf_count-requires c =
    let x = c.arena-arena.result.now in
    c.functions_of_a_checked_module_have_values.ensures x c.variable_count-count.ensures.good
    (subst (λ (a : Lists). IsWellFormed (module_of a)) (sym c.arena-arena.ensures.arena) c.arena-arena.ensures.well_formed)
    (subst (λ (a : Lists). IsValid (module_of a)) (sym c.arena-arena.ensures.arena) c.arena-arena.ensures.valid)
    c.args.id c.function-function.result.now c.function-function.ensures []

pub number-requires-clause-returns : goal.number-requires-clause-returns
number-requires-clause-returns c =
    let x = c.arena-arena.result.now in
    let f = c.function-function.result.now in
    let known : KnowsFunction (length x.table.types) (length x.constants) f = item_of (KnowsFunction (length x.table.types) (length x.constants)) x.functions c.args.id f c.variable_count-count.ensures.good.functions c.function-function.ensures in
    subst (λ (a : Lists). f.result < length a.table.types) (c.arena-arena.ensures.arena ∙ c.program.ensures ∙ sym c.requires.lists) known.result_known

pub number-requires-clause-parameters : goal.number-requires-clause-parameters
number-requires-clause-parameters c =
    let x = c.arena-arena.result.now in
    let f = c.function-function.result.now in
    let known : KnowsFunction (length x.table.types) (length x.constants) f = item_of (KnowsFunction (length x.table.types) (length x.constants)) x.functions c.args.id f c.variable_count-count.ensures.good.functions c.function-function.ensures in
    subst (All (λ ty. ty < length c.args.signatures.now.lists.table.types)) (sym (c.deref.ensures.value ∙ c.in_ok-parameters.ensures))
    (All-map (λ ty. ty < length c.args.signatures.now.lists.table.types) (λ (p : Parameter). p.ty) f.parameters
    (subst (λ (a : Lists). All (λ (p : Parameter). p.ty < length a.table.types) f.parameters) (c.arena-arena.ensures.arena ∙ c.program.ensures ∙ sym c.requires.lists) known.parameters_known))

pub returns-in_err-leaves-clause-numbers : goal.returns-in_err-leaves-clause-numbers
returns-in_err-leaves-clause-numbers c = numbers_none c.args.signatures.now

pub returns-in_err-parameters-clause-numbers : goal.returns-in_err-parameters-clause-numbers
returns-in_err-parameters-clause-numbers c = numbers_none c.args.signatures.now

pub returns-clause-head : goal.returns-clause-head
returns-clause-head c =
    let a = c.args.names.now in
    let same = c.arena-arena.ensures.arena ∙ c.program.ensures in
    let f = c.function-function.result.now in
    let at : slice_get a.functions c.args.id ≡ Some f = subst (λ (x : Lists). slice_get x.functions c.args.id ≡ Some f) same c.function-function.ensures in
    head_made a
    (subst (λ (x : Lists). IsWellFormed (module_of x)) c.program.ensures c.arena-arena.ensures.well_formed)
    (subst (λ (x : Lists). IsValid (module_of x)) c.program.ensures c.arena-arena.ensures.valid)
    c.args.id f at (code_of_found a c.args.id f c.requires.code at) c.number.new.self c.args.signatures.now.lists c.deref.result.now _
    c.requires.lists (c.deref.ensures.value ∙ c.in_ok-parameters.ensures) c.in_ok-signature.ensures.number
    (c.in_ok-leaves.ensures ∙ ap (λ (x : Lists). leaf_count (names_of x) (function_of x f)) same)
