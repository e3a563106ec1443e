-- What a switch is asked, by ids.
use Rattle.std.proofs.Common.{◌≡◌, ℕ, ◌&&◌, List, [], ◌∷◌, ◌++◌, map, nat_eq, Result, Ok, Err, Bool, refl, sym, ap}
use Rattle.std.specs.Prelude.{IfOk, flat_map}
use Rattle.std.specs.List.{list_all}
use Rattle.std.proofs.lemmas.List.Folds.{list_all-map}
use Rattle.ir_tables.specs.Table.{is_distinct}
use Rattle.type_table.specs.Types.{tree}
use Rattle.module_arena.specs.Lists.{Lists}
use Rattle.module_arena.specs.Module as modules
use Rattle.module_arena.specs.Module.{LocalName}
use Rattle.module_arena.specs.TypeTests.{is_integer}
use Rattle.module_arena.specs.ValueRules.{case_numbers, ending_suits, is_case_of}
use Rattle.module_arena.specs.declared.instruction.Case.{Case}
use Rattle.module_arena.specs.declared.instruction.Ending.TheVariants as ending
use Rattle.module_arena.specs.declared.instruction.Operand.{Operand}
use Rattle.instruction_verify.specs.ArenaOperands.{case_in, ending_in}
use Rattle.instruction_verify.specs.Parts.{is_case_at, numbers_at}

pub if_ok : {E : Type 0} (P Q : Bool → Type 0) (r : Result Bool E) → IfOk r P → ((b : Bool) → P b → Q b) → IfOk r Q
if_ok P Q (Ok b) p to = to b p
if_ok P Q (Err e) p to = tt

module _ (a : Lists) (values blocks : List LocalName) where
  numbers_listed : (cases : List Case) → flat_map (numbers_at a) cases ≡ case_numbers (map (case_in a values blocks) cases)
  numbers_listed [] = refl
  numbers_listed (c ∷ cases) = ap (λ ns. numbers_at a c ++ ns) (numbers_listed cases)

  pub switch_told : (f : modules.Function) (operand : Operand) (otherwise : ℕ) (cases : List Case)
      → (is_integer (tree a.table operand.ty) && (list_all (is_case_at a operand.ty) cases && is_distinct nat_eq (flat_map (numbers_at a) cases)))
      ≡ ending_suits f (ending_in a values blocks (ending.Switch operand otherwise cases))
  switch_told f operand otherwise cases =
      λ j. is_integer (tree a.table operand.ty) && (sym (list_all-map (is_case_of (tree a.table operand.ty)) (case_in a values blocks) cases) j && is_distinct nat_eq (numbers_listed cases j))
