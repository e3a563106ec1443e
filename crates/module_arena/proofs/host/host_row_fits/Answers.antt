use Rattle.std.proofs.Common.{◌≡◌, ℕ, Some, slice_get, sym, ap, ◌∙◌}
use Rattle.std.specs.Option.{option_map}
use Rattle.std.proofs.lemmas.Option.{slice_get-map}
use Rattle.module_arena.specs.Changes.{function_in}
use Rattle.module_arena.specs.HostRows.{is_declared_as}
use Rattle.module_arena.specs.Lists.{Lists}
use Rattle.module_arena.specs.Module as modules
use Rattle.module_arena.specs.View.{module_of}
use Rattle.module_arena.specs.declared.entry.Function as the_function
use Rattle.module_arena.proofs.Found.{some-equal}
use Rattle.module_arena.proofs.HostTypesAgree.{declared_by_forms, declared_as_integer}
use Rattle.module_arena.proofs.host.host_row_fits.Goals as goal

-- the function of the module is that of the arena
same : (a : Lists) (id : ℕ) (g : the_function.Function) (f : modules.Function) → slice_get a.functions id ≡ Some g → slice_get (module_of a).functions id ≡ Some f → function_in a g ≡ f
unfolding module_of
same a id g f here there = some-equal (sym (slice_get-map (function_in a) a.functions id ∙ ap (option_map (function_in a)) here) ∙ there)

pub returns-in-Integer : goal.returns-in-Integer
returns-in-Integer c f at =
    c.integer_fits.ensures
    ∙ sym (declared_as_integer c.in-Integer.which c.in-Integer.width (function_in c.args.arena.now c.function-declared.result.now))
    ∙ (λ j. is_declared_as (sym c.in-Integer.is j) (same c.args.arena.now c.args.function c.function-declared.result.now f c.function-declared.ensures at j))

pub returns-in_default : goal.returns-in_default
returns-in_default c f at =
    c.fixed_fits.ensures
    ∙ sym (declared_by_forms c.args.row (function_in c.args.arena.now c.function-declared.result.now) c.in_default.not-Integer)
    ∙ ap (is_declared_as c.args.row) (same c.args.arena.now c.args.function c.function-declared.result.now f c.function-declared.ensures at)
