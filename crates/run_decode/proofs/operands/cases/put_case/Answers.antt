use Rattle.std.proofs.Common.{◌≡◌, ◌<◌, true, length, ap, sym, ◌∙◌, subst}
use Rattle.module_arena.specs.Lists.{Lists}
use Rattle.module_arena.specs.View.{module_of}
use Rattle.type_table.specs.Types.{tree}
use Rattle.run_initial.specs.Constants.Sound.{IsSound, constant_of, is_scalar, names_of}
use Rattle.run_rules.specs.Constant.{constant_value, one_leaf}
use Rattle.run_rules.specs.Displace.{number_of}
use Rattle.run_decode.proofs.operands.cases.put_case.Goals as goal

pub leaf_of-requires-clause-ty : goal.leaf_of-requires-clause-ty
leaf_of-requires-clause-ty c = subst (λ (a : Lists). c.args.case.ty < length a.table.types) (sym c.names.ensures) c.requires.case.number.value.known

pub leaf_of-requires-clause-constant : goal.leaf_of-requires-clause-constant
leaf_of-requires-clause-constant c = subst (λ (a : Lists). c.args.case.value < length a.constants) (sym c.names.ensures) c.requires.case.number.value.there

pub leaf_of-requires-clause-scalar : goal.leaf_of-requires-clause-scalar
leaf_of-requires-clause-scalar c = subst (λ (a : Lists). is_scalar (tree a.table c.args.case.ty) ≡ true) (sym c.names.ensures) c.requires.case.number.scalar

pub leaf_of-requires-clause-sound : goal.leaf_of-requires-clause-sound
leaf_of-requires-clause-sound c = subst (λ (a : Lists). IsSound (module_of a) (tree a.table c.args.case.ty) (constant_of a c.args.case.value)) (sym c.names.ensures) c.requires.case.number.value.stands

pub returns-clause-case : goal.returns-clause-case
returns-clause-case c =
    let number = c.number_of-number.ensures ∙ ap number_of (c.leaf_of.ensures.value ∙ ap (λ (a : Lists). one_leaf (constant_value (names_of a) (tree a.table c.args.case.ty) (constant_of a c.args.case.value))) c.names.ensures) in
    λ j. (number j, c.in_ok-edge.ensures.way j)
