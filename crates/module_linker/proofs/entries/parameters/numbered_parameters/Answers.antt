use Rattle.std.proofs.Common.{◌≡◌, [], length, map, sym, subst, arith}
use Rattle.type_table.specs.Types.{trees}
use Rattle.module_arena.specs.View.{parameter_view}
use Rattle.link_rules.specs.Linked.{declared_parameters}
use Rattle.item_build.specs.Types.Parameters.{AreParameters}
use Rattle.module_linker.proofs.OnEntries.Numbering.{numbered_step, no_parameters, whole_list}
use Rattle.module_linker.proofs.entries.parameters.numbered_parameters.Goals as goal

pub places-init : goal.places-init
places-init c = record { upto = omega arith; are = λ ms i a b h known. subst (λ l. AreParameters b l []) (sym c.new-numbered.ensures) (no_parameters b) }

pub places-preserved : goal.places-preserved
places-preserved c =
    let ps = c.args.parameters.now in
    let k = c.places.place in
    record {
      upto = omega (arith, c.places-test.true, c.len-place-end.ensures);
      are = λ ms i a b h known. numbered_step ms i a b c.args.copier.now h ps known k c.at.result.now c.at.ensures c.places.numbered c.push.new.self c.new_type-ty.result c.in_ok-number.number c.new_type-ty.ensures c.in_ok-number.ensures c.in_ok-push.ensures.ok (c.places.invariant.are ms i a b h known);
    }

pub returns : goal.returns
returns c = λ ms i a b h known.
    let ps = c.args.parameters.now in
    let k = c.places.place in
    let upto = c.places.invariant.upto in
    let end : k ≡ length ps = omega (arith, upto, c.places-test.false, c.len-place-end.ensures) in
    subst (λ l. AreParameters b c.places.numbered (declared_parameters ms i 0 (map (parameter_view (trees a.table)) l))) (whole_list ps k end) (c.places.invariant.are ms i a b h known)
