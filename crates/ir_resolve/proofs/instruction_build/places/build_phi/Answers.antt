use Rattle.std.proofs.Common.{List, All, map, sym, subst}
use Rattle.ir_phrases.specs.Constants.View.{type_view}
use Rattle.ir_phrases.specs.declared.instructions.operation.WrittenIncoming as the_written
use Rattle.ir_phrases.specs.Instructions.View.{incoming_view}
use Rattle.name_rules.specs.Bodies.{incoming_in}
use Rattle.name_rules.specs.Written.{type_in}
use Rattle.item_build.proofs.OnTypes.Growing.{grows_on}
use Rattle.item_build.proofs.OnTypes.Staying.{can_still_be}
use Rattle.ir_resolve.specs.InstructionBuild.Parts.{value_names, block_names, TakesIncoming, Each, IsIncoming}
use Rattle.ir_resolve.proofs.OnInstructionBuild.Taking.{takes_incoming_list}
use Rattle.ir_resolve.proofs.OnInstructionBuild.Assembled.{makes_phi}
use Rattle.ir_resolve.proofs.instruction_build.places.build_phi.Goals as goal

pub build_incoming_list-requires-clause-ty : goal.build_incoming_list-requires-clause-ty
build_incoming_list-requires-clause-ty c = can_still_be _ _ c.in_ok-ty.ensures.grows (type_in (type_view c.args.phi.now.ty)) c.requires.can.0

pub build_incoming_list-requires-clause-can : goal.build_incoming_list-requires-clause-can
build_incoming_list-requires-clause-can c =
    subst (λ (ws : List the_written.WrittenIncoming). All (TakesIncoming c.add_type.new.self.arena c.args.locals.now) (map incoming_view ws)) (sym c.deref.ensures.value)
    (takes_incoming_list _ _ c.in_ok-ty.ensures.grows c.args.locals.now (map incoming_view c.args.phi.now.incoming.items) c.requires.can.1)

pub returns-clause-grows : goal.returns-clause-grows
returns-clause-grows c = grows_on _ _ _ c.in_ok-ty.ensures.grows c.in_ok-incoming.ensures.grows

pub returns-clause-is : goal.returns-clause-is
returns-clause-is c =
    let values = value_names c.args.locals.now in
    let blocks = block_names c.args.locals.now in
    let a = c.build_incoming_list.new.builder.arena in
    let t = type_in (type_view c.args.phi.now.ty) in
    let are = subst (λ (ws : List the_written.WrittenIncoming). Each (IsIncoming values blocks a) c.in_ok-incoming.incoming (map (incoming_in t) (map incoming_view ws))) c.deref.ensures.value c.in_ok-incoming.ensures.are in
    makes_phi values blocks a c.args.next c.in_ok-ty.ty t c.in_ok-incoming.incoming _ (c.in_ok-incoming.ensures.grows.types _ _ c.in_ok-ty.ensures.is) are
