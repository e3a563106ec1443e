use Rattle.std.proofs.Common.{map, sym, subst, arith, []}
use Rattle.std.proofs.lemmas.List.{take_all}
use Rattle.ir_phrases.specs.Instructions.View.{case_view}
use Rattle.name_rules.specs.Bodies.{case_in}
use Rattle.item_build.proofs.OnTypes.Growing.{grows_not, grows_on}
use Rattle.ir_resolve.specs.InstructionBuild.Parts.{block_names, TakesCase, Each, IsCase}
use Rattle.ir_resolve.proofs.OnInstructionBuild.Lists.{each_step}
use Rattle.ir_resolve.proofs.OnInstructionBuild.Standing.{case_stays}
use Rattle.ir_resolve.proofs.OnInstructionBuild.Taking.{at_mapped, takes_case}
use Rattle.ir_resolve.proofs.instruction_build.targets.build_cases.Goals as goal

pub build_case-requires-clause-can : goal.build_case-requires-clause-can
build_case-requires-clause-can c =
    let here = at_mapped case_view (TakesCase c.args.builder.now.arena c.args.locals.now) c.args.written.now c.loop-one.one-index c.one-item.result c.loop-one-test.true c.one-item.is c.requires.can in
    takes_case _ _ c.loop-one.invariant.grows c.args.locals.now (case_view c.one-item.result) here

pub loop-one-init : goal.loop-one-init
loop-one-init c = record {
  grows = grows_not c.args.builder.now.arena;
  so_far = subst (λ cs. Each (IsCase (block_names c.args.locals.now) c.args.builder.now.arena) cs []) (sym c.in_ok-cases.ensures.items) tt;
}

pub loop-one-preserved : goal.loop-one-preserved
loop-one-preserved c =
    let blocks = block_names c.args.locals.now in
    record {
      grows = grows_on _ _ _ c.loop-one.invariant.grows c.in_ok-case.ensures.grows;
      so_far = each_step case_view case_in c.args.written.now c.loop-one.one-index c.one-item.result c.loop-one-test.true c.one-item.is
          (IsCase blocks c.loop-one.builder.arena) (IsCase blocks c.build_case.new.builder.arena) (case_stays blocks _ _ c.in_ok-case.ensures.grows)
          c.loop-one.cases.items _ c.in_ok-case.case c.loop-one.invariant.so_far c.in_ok-case.ensures.is c.in_ok-push.ensures.items;
    }

pub returns-clause-grows : goal.returns-clause-grows
returns-clause-grows c = c.loop-one.invariant.grows

pub returns-clause-are : goal.returns-clause-are
returns-clause-are c =
    let Is = IsCase (block_names c.args.locals.now) c.loop-one.builder.arena in
    subst (λ cs. Each Is cs (map case_in (map case_view c.args.written.now))) (sym c.from_vec.ensures)
    (subst (λ ws. Each Is c.loop-one.cases.items (map case_in (map case_view ws))) (take_all c.loop-one.one-index c.args.written.now (omega arith)) c.loop-one.invariant.so_far)
