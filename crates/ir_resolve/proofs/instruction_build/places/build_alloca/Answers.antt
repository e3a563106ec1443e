use Rattle.std.proofs.Common.{◌≡◌, Option, Some, None, sym, subst, ap, ◌∙◌}
use Rattle.std.specs.Global.{Global}
use Rattle.std.specs.Option.{option_map}
use Rattle.std.specs.Prelude.{Box}
use Rattle.ir_phrases.specs.declared.constants.value.TypedValue.{TypedValue}
use Rattle.ir_phrases.specs.Constants.View.{type_view, typed_value_view}
use Rattle.type_table.specs.Types.{structs}
use Rattle.module_arena.specs.declared.instruction.Inst.TheVariants as inst
use Rattle.module_arena.specs.Module as m
use Rattle.name_rules.specs.Written.{type_in, operand_in}
use Rattle.item_build.specs.Types.Holding.{entries}
use Rattle.item_build.proofs.OnTypes.Growing.{grows_on}
use Rattle.item_build.specs.Buildable.Bodies.{CanCount}
use Rattle.ir_resolve.specs.InstructionBuild.Parts.{value_names, block_names, TakesOperand}
use Rattle.ir_resolve.proofs.OnInstructionBuild.Taking.{takes_operand}
use Rattle.ir_resolve.specs.InstructionBuild.Made.{Makes, count_in}
use Rattle.ir_resolve.proofs.OnInstructionBuild.Assembled.{makes_alloca, makes_counted_alloca}
use Rattle.ir_resolve.proofs.instruction_build.places.build_alloca.Goals as goal

pub build_operand-requires-clause-can : goal.build_operand-requires-clause-can
build_operand-requires-clause-can c =
    let a = c.args.builder.now.arena in
    let can = subst (λ (x : Option (Box TypedValue Global)). CanCount (structs a.table) (entries a) (value_names c.args.locals.now) (block_names c.args.locals.now) (count_in x)) c.in-Some.is c.requires.can.1 in
    let still = takes_operand _ _ c.in_ok-ty.ensures.grows c.args.locals.now (typed_value_view c.in-Some.written.value) can in
    subst (λ (x : TypedValue). TakesOperand c.add_type.new.self.arena c.args.locals.now (typed_value_view x)) (sym c.deref.ensures) still

pub returns-in_ok-count-in-Some-clause-grows : goal.returns-in_ok-count-in-Some-clause-grows
returns-in_ok-count-in-Some-clause-grows c = grows_on _ _ _ c.in_ok-ty.ensures.grows c.in_ok-count-in-Some.ensures.grows

pub returns-in_ok-count-in-Some-clause-is : goal.returns-in_ok-count-in-Some-clause-is
returns-in_ok-count-in-Some-clause-is c =
    let values = value_names c.args.locals.now in
    let blocks = block_names c.args.locals.now in
    let b = c.build_operand.new.builder.arena in
    let t = type_in (type_view c.args.alloca.now.ty) in
    let n = c.alignment_of-alignment.result in
    let count = c.in_ok-count-in-Some.count in
    let made = makes_counted_alloca values blocks b c.args.next c.in_ok-ty.ty t count _ n (c.in_ok-count-in-Some.ensures.grows.types _ _ c.in_ok-ty.ensures.is) c.in_ok-count-in-Some.ensures.is in
    let same : Some (operand_in (typed_value_view c.deref.result.now)) ≡ option_map operand_in (count_in c.args.alloca.now.count) =
    ap (λ (x : TypedValue). Some (operand_in (typed_value_view x))) c.deref.ensures ∙ sym (ap (λ (x : Option (Box TypedValue Global)). option_map operand_in (count_in x)) c.in-Some.is) in
    subst (λ (o : m.Operation). Makes values blocks b (Some c.args.next) (inst.Alloca c.args.next c.in_ok-ty.ty (Some count) n) o) (λ j. m.Alloca t (same j) (c.alignment_of-alignment.ensures j)) made

pub returns-in-None-clause-is : goal.returns-in-None-clause-is
returns-in-None-clause-is c =
    let values = value_names c.args.locals.now in
    let blocks = block_names c.args.locals.now in
    let b = c.add_type.new.self.arena in
    let t = type_in (type_view c.args.alloca.now.ty) in
    let n = c.alignment_of-alignment.result in
    let made = makes_alloca values blocks b c.args.next c.in_ok-ty.ty t n c.in_ok-ty.ensures.is in
    let same : None ≡ option_map operand_in (count_in c.args.alloca.now.count) = sym (ap (λ (x : Option (Box TypedValue Global)). option_map operand_in (count_in x)) c.in-None.is) in
    subst (λ (o : m.Operation). Makes values blocks b (Some c.args.next) (inst.Alloca c.args.next c.in_ok-ty.ty None n) o) (λ j. m.Alloca t (same j) (c.alignment_of-alignment.ensures j)) made
