-- For all calls of `Judge`: what it keeps beside the arena.
use Rattle.std.specs.Prelude.{◌≡◌, List, map}
use Rattle.type_table.specs.Types.{Types}
use Rattle.module_arena.specs.Known.{IsGood}
use Rattle.module_arena.specs.Lists.{Lists}
use Rattle.module_arena.specs.View.{constants_of, module_of}
use Rattle.entry_verify.specs.Constants.ConstantParts.{const_fact}
use Rattle.entry_verify.specs.declared.constants.constants.ConstFact.{ConstFact}

-- the types are those of the arena, and the facts those of its constants
pub record IsJudge (a : Lists) (table : Types) (facts : List ConstFact) : Type 0 where
  pub good : IsGood a
  pub same : table ≡ a.table
  pub told : facts ≡ map (const_fact (module_of a)) (constants_of a)
