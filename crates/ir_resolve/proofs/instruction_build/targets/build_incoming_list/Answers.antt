use Rattle.std.proofs.Common.{map, sym, subst, arith, []}
use Rattle.std.proofs.lemmas.List.{take_all}
use Rattle.ir_phrases.specs.Constants.View.{type_view}
use Rattle.ir_phrases.specs.Instructions.View.{incoming_view}
use Rattle.name_rules.specs.Bodies.{incoming_in}
use Rattle.name_rules.specs.Written.{type_in}
use Rattle.item_build.proofs.OnTypes.Growing.{grows_not, grows_on}
use Rattle.item_build.proofs.OnTypes.Staying.{can_still_be}
use Rattle.ir_resolve.specs.InstructionBuild.Parts.{value_names, block_names, TakesIncoming, Each, IsIncoming}
use Rattle.ir_resolve.proofs.OnInstructionBuild.Lists.{each_step}
use Rattle.ir_resolve.proofs.OnInstructionBuild.Standing.{incoming_stays}
use Rattle.ir_resolve.proofs.OnInstructionBuild.Taking.{at_mapped, takes_incoming}
use Rattle.ir_resolve.proofs.instruction_build.targets.build_incoming_list.Goals as goal

pub build_incoming-requires-clause-ty : goal.build_incoming-requires-clause-ty
build_incoming-requires-clause-ty c = can_still_be _ _ c.loop-one.invariant.grows (type_in (type_view c.args.ty.now)) c.requires.ty

pub build_incoming-requires-clause-can : goal.build_incoming-requires-clause-can
build_incoming-requires-clause-can c =
    let here = at_mapped incoming_view (TakesIncoming c.args.builder.now.arena c.args.locals.now) c.args.written.now c.loop-one.one-index c.one-item.result c.loop-one-test.true c.one-item.is c.requires.can in
    takes_incoming _ _ c.loop-one.invariant.grows c.args.locals.now (incoming_view c.one-item.result) here

pub loop-one-init : goal.loop-one-init
loop-one-init c = record {
  grows = grows_not c.args.builder.now.arena;
  so_far = subst (λ is. Each (IsIncoming (value_names c.args.locals.now) (block_names c.args.locals.now) c.args.builder.now.arena) is []) (sym c.in_ok-incoming.ensures.items) tt;
}

pub loop-one-preserved : goal.loop-one-preserved
loop-one-preserved c =
    let values = value_names c.args.locals.now in
    let blocks = block_names c.args.locals.now in
    record {
      grows = grows_on _ _ _ c.loop-one.invariant.grows c.in_ok-next.ensures.grows;
      so_far = each_step incoming_view (incoming_in (type_in (type_view c.args.ty.now))) c.args.written.now c.loop-one.one-index c.one-item.result c.loop-one-test.true c.one-item.is
          (IsIncoming values blocks c.loop-one.builder.arena) (IsIncoming values blocks c.build_incoming.new.builder.arena) (incoming_stays values blocks _ _ c.in_ok-next.ensures.grows)
          c.loop-one.incoming.items _ c.in_ok-next.next c.loop-one.invariant.so_far c.in_ok-next.ensures.is c.in_ok-push.ensures.items;
    }

pub returns-clause-grows : goal.returns-clause-grows
returns-clause-grows c = c.loop-one.invariant.grows

pub returns-clause-are : goal.returns-clause-are
returns-clause-are c =
    let Is = IsIncoming (value_names c.args.locals.now) (block_names c.args.locals.now) c.loop-one.builder.arena in
    let meant = incoming_in (type_in (type_view c.args.ty.now)) in
    subst (λ is. Each Is is (map meant (map incoming_view c.args.written.now))) (sym c.from_vec.ensures)
    (subst (λ ws. Each Is c.loop-one.incoming.items (map meant (map incoming_view ws))) (take_all c.loop-one.one-index c.args.written.now (omega arith)) c.loop-one.invariant.so_far)
