use Rattle.std.proofs.Common.{List, map, length, slice_get, subst, sym, ap, ◌∙◌}
use Rattle.std.proofs.lemmas.List.{length-map}
use Rattle.ir_phrases.specs.Instructions.View.{block_view}
use Rattle.ir_syntax.specs.declared.item.WrittenParameter.{WrittenParameter}
use Rattle.ir_syntax.specs.View.{parameter_view}
use Rattle.type_table.specs.Types.{trees}
use Rattle.module_arena.specs.Changes.{defined, blocks_in}
use Rattle.module_arena.specs.Known.{KnowsBody}
use Rattle.module_arena.specs.View.{module_of, body_view, constants_of}
use Rattle.item_build.specs.Buildable.Bodies.{parameter_names, body_of}
use Rattle.ir_resolve.proofs.Defined.{same_blocks, listed, many_parameters}
use Rattle.ir_resolve.proofs.bodies.define_function.Goals as goal

pub define-requires-clause-body : goal.define-requires-clause-body
define-requires-clause-body c f is =
    let a = c.args.builder.now.arena in
    let b = c.build_body.new.builder.arena in
    let ps = c.args.written.now.parameters.items in
    let grows = c.in_ok-body.ensures.grows in
    let at = sym (λ j. slice_get (grows.functions j) (c.new.ensures j)) ∙ is in
    let many = many_parameters a f (map parameter_view ps) (c.requires.called _ (listed a c.args.number f at)) in
    subst (λ n. KnowsBody (length b.table.types) (length b.constants) n c.in_ok-body.body)
    (ap length c.deref.ensures.value ∙ sym (many ∙ length-map ps parameter_view)) c.in_ok-body.ensures.known

pub returns : goal.returns
returns c =
    let a = c.args.builder.now.arena in
    let b = c.build_body.new.builder.arena in
    let written = c.args.written.now in
    let body = c.in_ok-body.body in
    let all = body_of (map parameter_view written.parameters.items) (map block_view written.blocks.items) in
    c.define.ensures.module
    ∙ (λ j. defined (c.in_ok-body.ensures.grows.same j) (c.new.ensures j) (blocks_in b body))
    ∙ same_blocks (module_of a) c.args.number (blocks_in b body) all
    (λ f is.
    ap (λ ns. body_view (trees b.table) (constants_of b) ns body) (c.requires.called f is ∙ ap (λ (xs : List WrittenParameter). parameter_names (map parameter_view xs)) (sym c.deref.ensures.value))
    ∙ c.in_ok-body.ensures.blocks
    ∙ (λ j. body_of (map parameter_view (c.deref.ensures.value j)) (map block_view (c.deref-2.ensures.value j))))
