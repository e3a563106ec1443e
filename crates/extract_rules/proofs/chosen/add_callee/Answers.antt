use Rattle.std.proofs.Common.{List, subst}
use Rattle.std.specs.Prelude.{OnOk}
use Rattle.module_arena.specs.Module.{Bytes}
use Rattle.extract_rules.specs.Calls.{Adds}
use Rattle.extract_rules.proofs.Adding.{adds_as, adds_none}
use Rattle.extract_rules.proofs.Called.{called_none, called_one, address_known}
use Rattle.extract_rules.proofs.chosen.add_callee.Goals as goal

pub returns-in_default-constant : goal.returns-in_default-constant
returns-in_default-constant c =
    adds_as _ _ _ _ (called_none c.args.arena.now c.variable_count-count.ensures.good c.args.callee c.in-Known.id c.in-Known.is c.constant.result.now c.constant.ensures c.in_default-constant.not-Address) (adds_none c.args.names.now.keys)

pub add_defined-requires-clause-known : goal.add_defined-requires-clause-known
add_defined-requires-clause-known c =
    address_known c.args.arena.now c.variable_count-count.ensures.good c.args.callee c.in-Known.id c.in-Known.is c.constant.result.now c.constant.ensures c.in-Address.entry c.in-Address.is

pub returns : goal.returns
returns c =
    subst (λ (xs : List Bytes). OnOk c.add_defined.result (Adds c.args.names.now.keys xs c.add_defined.new.names.keys))
    (called_one c.args.arena.now c.variable_count-count.ensures.good c.args.callee c.in-Known.id c.in-Known.is c.constant.result.now c.constant.ensures c.in-Address.entry c.in-Address.is) c.add_defined.ensures
