use Rattle.std.proofs.Common.{◌≡◌, ◌<◌, ◌≤◌, Some, false, true, length, map, ap, sym, ◌∙◌, arith}
use Rattle.std.proofs.lemmas.List.{length-map}
use Rattle.std.proofs.lemmas.Option.{slice_get_within, get_or_from_slice_get}
use Rattle.extract_rules.proofs.Keeping.{functions_length}
use Rattle.extract_rules.specs.Selected.{is_among}
use Rattle.module_arena.specs.declared.entry.GlobalId.TheVariants as global
use Rattle.module_arena.specs.Lists.{Lists, name_at}
use Rattle.module_arena.specs.Module.{Function}
use Rattle.module_arena.specs.View.{module_of}
use Rattle.run_initial.specs.Missing.Used.{is_lacking, used_names}
use Rattle.run_initial.proofs.OnMissing.Searched.{first_at, none_at_all, passed, function_name_at, function_used}
use Rattle.run_initial.proofs.missing.missing.lacking_function.Goals as goal

pub bounds-used-number : goal.bounds-used-number
bounds-used-number c =
    let a = c.args.names.now in
    let there : c.functions.number < length a.functions = omega (arith, c.function_count-number-end.ensures, ap (λ (b : Lists). length b.functions) (c.arena-arena.ensures.arena ∙ c.program.ensures)) in
    slice_get_within c.args.used.now c.functions.number _ (function_used a (used_names (module_of a)) c.args.used.now c.functions.number c.requires there)

pub is_lacking-requires-clause-used : goal.is_lacking-requires-clause-used
is_lacking-requires-clause-used c =
    let a = c.args.names.now in
    let there : c.functions.number < length a.functions = omega (arith, c.function_count-number-end.ensures, ap (λ (b : Lists). length b.functions) (c.arena-arena.ensures.arena ∙ c.program.ensures)) in
    get_or_from_slice_get c.args.used.now c.functions.number (is_among (used_names (module_of a)) (name_at a (global.Function c.functions.number))) false (function_used a (used_names (module_of a)) c.args.used.now c.functions.number c.requires there)
    ∙ ap (λ g. is_among (used_names (module_of a)) (name_at a g)) (sym c.function.ensures)

pub returns-then-is_lacking-clause-first : goal.returns-then-is_lacking-clause-first
returns-then-is_lacking-clause-first c =
    let a = c.args.names.now in
    let there : c.functions.number < length a.functions = omega (arith, c.function_count-number-end.ensures, ap (λ (b : Lists). length b.functions) (c.arena-arena.ensures.arena ∙ c.program.ensures)) in
    let is : is_lacking (module_of a) (name_at a (global.Function c.functions.number)) ≡ true = ap (λ g. is_lacking (module_of a) (name_at a g)) (sym c.function.ensures) ∙ sym c.if-is_lacking.ensures in
    ap (λ g. Some (name_at a g)) c.function-then-is_lacking.ensures
    ∙ first_at (is_lacking (module_of a)) (map (λ (x : Function). x.name) (module_of a).functions) c.functions.number (name_at a (global.Function c.functions.number)) (function_name_at a c.functions.number there) c.functions.invariant is

pub functions-preserved : goal.functions-preserved
functions-preserved c =
    let a = c.args.names.now in
    let there : c.functions.number < length a.functions = omega (arith, c.function_count-number-end.ensures, ap (λ (b : Lists). length b.functions) (c.arena-arena.ensures.arena ∙ c.program.ensures)) in
    let is : is_lacking (module_of a) (name_at a (global.Function c.functions.number)) ≡ false = ap (λ g. is_lacking (module_of a) (name_at a g)) (sym c.function.ensures) ∙ sym c.if-is_lacking.ensures in
    passed (is_lacking (module_of a)) (map (λ (x : Function). x.name) (module_of a).functions) c.functions.number (name_at a (global.Function c.functions.number)) (function_name_at a c.functions.number there) c.functions.invariant is

pub returns-clause-first : goal.returns-clause-first
returns-clause-first c =
    let a = c.args.names.now in
    let whole : length (map (λ (x : Function). x.name) (module_of a).functions) ≤ c.functions.number =
    omega (arith, c.functions-test.false, c.function_count-number-end.ensures, ap (λ (b : Lists). length b.functions) (c.arena-arena.ensures.arena ∙ c.program.ensures), length-map (module_of a).functions (λ (x : Function). x.name), functions_length a) in
    none_at_all (is_lacking (module_of a)) (map (λ (x : Function). x.name) (module_of a).functions) c.functions.number whole c.functions.invariant
