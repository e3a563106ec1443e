use Rattle.std.proofs.Common.{ap, ◌∙◌, arith}
use Rattle.ir_phrases.specs.Constants.View.{type_view}
use Rattle.ir_syntax.specs.declared.item.WrittenParameter.{WrittenParameter}
use Rattle.ir_syntax.specs.View.{parameter_view}
use Rattle.type_table.specs.Types.{structs}
use Rattle.module_arena.specs.declared.entry.Parameter as the_parameter
use Rattle.name_rules.specs.Locals.{called}
use Rattle.name_rules.specs.Written.{type_in}
use Rattle.item_build.specs.Types.Fitting.{CanBe}
use Rattle.item_build.proofs.OnTypes.Growing.{grows_on}
use Rattle.item_build.proofs.OnTypes.Staying.{can_still_be, at_item}
use Rattle.item_build.specs.Types.Parameters.{name_kept, kept}
use Rattle.item_build.proofs.OnTypes.Parameters.{parameters_step, behind_step, behind_le}
use Rattle.item_build.proofs.types.functions.add_parameters.Goals as goal

pub add_type-requires : goal.add_type-requires
add_type-requires c =
    let here = at_item (λ (x : WrittenParameter). CanBe (structs c.args.builder.now.arena.table) (type_in (type_view x.ty))) c.args.written.now c.loop-parameter.parameter-index c.parameter-item.result c.loop-parameter-test.true c.parameter-item.is c.requires.can in
    can_still_be _ _ c.loop-parameter.invariant.grows (type_in (type_view c.parameter-item.result.ty)) here

pub loop-parameter-preserved : goal.loop-parameter-preserved
loop-parameter-preserved c =
    let a = c.loop-parameter.builder.arena in
    let b = c.add_type.new.self.arena in
    let grows = c.in_ok-ty.ensures.grows in
    let f = λ (x : WrittenParameter). kept c.args.named (parameter_view x) in
    let xs = c.args.written.now in
    let i = c.loop-parameter.parameter-index in
    let x = c.parameter-item.result in
    let made : the_parameter.Parameter = record { ty = c.in_ok-ty.ty; name = c.in_ok-name.name } in
    let name = c.in_ok-name.ensures ∙ ap (λ n. called n (name_kept c.args.named x.name)) c.loop-parameter.invariant.next in
    let le = behind_le c.loop-parameter.next (name_kept c.args.named x.name) in
    let one = c.number_behind-next.ensures in
    let bound = c.loop-parameter.invariant.bound in
    record {
      grows = grows_on _ _ _ c.loop-parameter.invariant.grows grows;
      so_far = parameters_step a b grows f xs i x c.loop-parameter-test.true c.parameter-item.is c.loop-parameter.parameters.items _ made c.loop-parameter.invariant.so_far c.in_ok-ty.ensures.is name c.in_ok-push.ensures.items;
      next = behind_step a b grows f xs i x c.loop-parameter-test.true c.parameter-item.is c.loop-parameter.next c.number_behind-next.result c.loop-parameter.invariant.next one;
      bound = omega (arith, le, one, bound);
    }
