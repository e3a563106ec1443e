use Rattle.std.proofs.Common.{slice_get, sym, subst, ◌∙◌}
use Rattle.ir_syntax.specs.View.{body_view}
use Rattle.type_table.specs.Types.{bodies}
use Rattle.module_arena.specs.Lists.{Lists}
use Rattle.item_build.specs.Partly.{IsPartly, IsDone}
use Rattle.item_build.proofs.Partly.{body_can_part, memory_alone, after_partly, after_done, after_kept, done_already, same_structs, new_structs}
use Rattle.item_build.proofs.defining.define_struct.Goals as goal

pub returns-then-is_some-clause-module : goal.returns-then-is_some-clause-module
returns-then-is_some-clause-module c = same_structs c.args.builder.now.arena

pub returns-then-is_some-clause-done : goal.returns-then-is_some-clause-done
returns-then-is_some-clause-done c whole can =
    let a = c.args.builder.now.arena in
    let at = sym (λ j. slice_get (bodies (c.types.ensures j)) (c.new-id.ensures j)) ∙ c.struct_body.ensures in
    done_already whole a c.args.number c.struct_body.result can.partly at (sym c.is_some.ensures ∙ c.if-is_some.true)

pub add_body-requires : goal.add_body-requires
add_body-requires c = let can = c.requires.1 in body_can_part c.requires.0 c.args.builder.now.arena can.partly (body_view c.args.written.now) can.fields

pub type_out_of_memory-requires : goal.type_out_of_memory-requires
type_out_of_memory-requires c =
    let whole = c.requires.0 in
    let can = c.requires.1 in
    let a = c.args.builder.now.arena in
    let b = c.add_body.new.builder.arena in
    let within = c.in_ok-body.ensures.within whole can.fields can.partly.within in
    let partly = after_partly whole a b c.args.number c.new-id.result (body_view c.args.written.now) c.in_ok-body.body can c.in_ok-body.ensures.grows within c.in_ok-body.ensures.is c.new-id.ensures in
    memory_alone whole _ partly can.fit c.in-Err.fault c.in-Err.ensures.fault

pub returns-in-Ok-clause-module : goal.returns-in-Ok-clause-module
returns-in-Ok-clause-module c = new_structs c.args.builder.now.arena c.add_body.new.builder.arena c.define_struct.new.self _ c.in_ok-body.ensures.grows c.in-Ok.ensures.module

pub returns-in-Ok-clause-partly : goal.returns-in-Ok-clause-partly
returns-in-Ok-clause-partly c whole can =
    let a = c.args.builder.now.arena in
    let b = c.add_body.new.builder.arena in
    let within = c.in_ok-body.ensures.within whole can.fields can.partly.within in
    subst (λ (w : Lists). IsPartly whole w) (sym c.in-Ok.ensures.ok)
    (after_partly whole a b c.args.number c.new-id.result (body_view c.args.written.now) c.in_ok-body.body can c.in_ok-body.ensures.grows within c.in_ok-body.ensures.is c.new-id.ensures)

pub returns-in-Ok-clause-done : goal.returns-in-Ok-clause-done
returns-in-Ok-clause-done c whole can =
    let a = c.args.builder.now.arena in
    let b = c.add_body.new.builder.arena in
    let within = c.in_ok-body.ensures.within whole can.fields can.partly.within in
    subst (λ (w : Lists). IsDone whole w c.args.number) (sym c.in-Ok.ensures.ok)
    (after_done whole a b c.args.number c.new-id.result (body_view c.args.written.now) c.in_ok-body.body can c.in_ok-body.ensures.grows within c.in_ok-body.ensures.is c.new-id.ensures)

pub returns-in-Ok-clause-kept : goal.returns-in-Ok-clause-kept
returns-in-Ok-clause-kept c whole other can done =
    let a = c.args.builder.now.arena in
    let b = c.add_body.new.builder.arena in
    let within = c.in_ok-body.ensures.within whole can.fields can.partly.within in
    subst (λ (w : Lists). IsDone whole w other) (sym c.in-Ok.ensures.ok)
    (after_kept whole a b c.args.number c.new-id.result (body_view c.args.written.now) c.in_ok-body.body can c.in_ok-body.ensures.grows within c.in_ok-body.ensures.is c.new-id.ensures other done)
