use Rattle.std.proofs.Common.{◌≡◌, false, map, OnOk, sym, subst, ap, ◌∙◌}
use Rattle.ir_phrases.specs.Constants.View.{type_view}
use Rattle.ir_syntax.specs.declared.item.WrittenParameter.{WrittenParameter}
use Rattle.ir_syntax.specs.View.{parameter_view, head_view}
use Rattle.module_arena.specs.Changes.{more_functions}
use Rattle.module_arena.specs.Module.{Module}
use Rattle.module_arena.specs.View.{module_of}
use Rattle.name_rules.specs.ModuleOf.{parameters_in}
use Rattle.name_rules.specs.Written.{type_in}
use Rattle.item_build.proofs.OnTypes.Staying.{can_still_be}
use Rattle.item_build.specs.Types.Parameters.{kept, function_head}
use Rattle.item_build.proofs.OnTypes.Declaring.{free_still, then_same}
use Rattle.item_build.proofs.OnTypes.Parameters.{numbered_alone}
use Rattle.item_build.proofs.OnTypes.Made.{map_twice}
use Rattle.item_build.proofs.types.functions.declare_function.Goals as goal

pub declare_head-requires-clause-returns : goal.declare_head-requires-clause-returns
declare_head-requires-clause-returns c = can_still_be _ _ c.in_ok-parameters.ensures.grows (type_in (type_view c.args.written.now.head.returns)) c.requires.returns

pub declare_head-requires-clause-free : goal.declare_head-requires-clause-free
declare_head-requires-clause-free c = free_still _ _ c.in_ok-parameters.ensures.grows c.args.written.now.head.name.name c.requires.free

pub returns-clause-module : goal.returns-clause-module
returns-clause-module c =
    let items = c.args.written.now.formal.parameters.items in
    let grows = c.in_ok-parameters.ensures.grows in
    let ps = c.in_ok-parameters.ensures.are.parameters
    ∙ ap (λ xs. parameters_in 0 (map (λ (x : WrittenParameter). kept false (parameter_view x)) xs)) c.deref.ensures.value
    ∙ (ap (parameters_in 0) (sym (map_twice parameter_view (kept false) items)) ∙ sym (numbered_alone 0 (map parameter_view items))) in
    subst (λ (w : Module). OnOk c.declare_head.result (module_of c.declare_head.new.builder.arena ≡ w))
    (λ j. more_functions (grows.same j) (function_head (head_view c.args.written.now.head) (ps j) c.args.written.now.formal.variadic))
    c.declare_head.ensures.module

pub returns-clause-aliases : goal.returns-clause-aliases
returns-clause-aliases c = then_same c.declare_head.result _ _ _ c.in_ok-parameters.ensures.grows.aliases c.declare_head.ensures.aliases
