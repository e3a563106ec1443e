use Rattle.std.proofs.Common.{◌≡◌, [], length, map, sym, subst, arith}
use Rattle.type_table.specs.Types.{trees}
use Rattle.module_arena.specs.Functions.{numbered_parameters}
use Rattle.module_arena.specs.View.{type_at}
use Rattle.item_build.specs.Types.Parameters.{AreParameters}
use Rattle.extract_rules.proofs.Adding.{take_whole}
use Rattle.extract_core.proofs.OnPart.Numbering.{numbered_step, no_parameters}
use Rattle.extract_core.proofs.part.functions.numbered_parameters.Goals as goal

pub parameters-init : goal.parameters-init
parameters-init c = record { upto = omega arith; are = λ a b h known. subst (λ l. AreParameters b l []) (sym c.new-parameters.ensures) (no_parameters b) }

pub parameters-preserved : goal.parameters-preserved
parameters-preserved c =
    let types = c.args.types.now in
    let k = c.parameters.place in
    record {
      upto = omega (arith, c.parameters-test.true, c.len-place-end.ensures);
      are = λ a b h known. numbered_step a b c.args.copier.now h types known k c.at.result.now c.at.ensures c.parameters.parameters c.push.new.self c.new_type-ty.result c.in_ok-number.number c.new_type-ty.ensures c.in_ok-number.ensures c.in_ok-push.ensures.ok (c.parameters.invariant.are a b h known);
    }

pub returns : goal.returns
returns c = λ a b h known.
    let types = c.args.types.now in
    let k = c.parameters.place in
    let upto = c.parameters.invariant.upto in
    let end : k ≡ length types = omega (arith, upto, c.parameters-test.false, c.len-place-end.ensures) in
    subst (λ l. AreParameters b c.parameters.parameters (numbered_parameters 0 (map (type_at (trees a.table)) l))) (take_whole types k end) (c.parameters.invariant.are a b h known)
