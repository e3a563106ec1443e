-- A module whose canonical text is read back.
use Rattle.std.specs.Prelude.{false, [], ◌∷◌, Some, codes}
use Rattle.std.proofs.Common.{refl}
use Rattle.ir_tables.specs.declared.linkage.Linkage.TheVariants.{External, Internal}
use Rattle.ir_tables.specs.declared.opcode.Opcode.TheVariants as opcode
use Rattle.type_table.specs.Tree.{int, ptr, named, no_trees, more_trees, fields}
use Rattle.ir_tables.specs.MayHave.{may_have}
use Rattle.type_table.specs.Shape.{name_shape}
use Rattle.module_arena.specs.Module.{Module, empty_module}
use Rattle.module_arena.specs.Module as mod_
use Rattle.module_arena.specs.Paths.{reached_within}
use Rattle.module_arena.proofs.WellFormedTest.{well_formed_by_test}
use Rattle.module_arena.proofs.FirstFailure.{valid_has_no_failure}
use Rattle.canonical.specs.Canonical.{canon}
use Rattle.name_rules.specs.Reads.{Reads}
use Rattle.canonical.specs.Reads.Laws.{IsGoodModule}
use Rattle.canonical.proofs.OnReads.Writes.{canon_is_read_back}

-- a struct, a variable of it that holds its own address, an alias of the variable and one of a function that counts from
-- a parameter
abbrev counter : Module
counter = record empty_module {
  structs = (codes "T", fields false (more_trees (int 8) (more_trees ptr no_trees))) ∷ [];
  variables = record {
    name = codes "x";
    linkage = Internal;
    constant = false;
    ty = named (codes "T");
    alignment = Some 8;
    initialiser = Some (mod_.Aggregate mod_.Braces (mod_.more_constants (int 8) (mod_.Integer 255) (mod_.more_constants ptr (mod_.Address (codes "x")) mod_.no_constants)));
  } ∷ [];
  aliases =
      record { name = codes "y"; linkage = Internal; ty = mod_.PlainType (named (codes "T")); target = codes "x" }
      ∷ record { name = codes "g"; linkage = External; ty = mod_.FunctionType (record { returns = int 32; parameters = int 32 ∷ []; variadic = false }); target = codes "f" }
      ∷ [];
  functions = record {
    name = codes "f";
    linkage = External;
    returns = int 32;
    parameters = record { ty = int 32; name = mod_.Numbered 0 } ∷ [];
    variadic = false;
    body = Some (record {
      name = mod_.Numbered 1;
      instructions = record {
        result = Some (mod_.Named (codes "sum"));
        operation = mod_.BinaryOperation opcode.Add 2 (record { ty = int 32; value = mod_.Local (mod_.Numbered 0) }) (mod_.Known (mod_.Integer 1));
      } ∷ [];
      ending = mod_.Return (record { ty = int 32; value = mod_.Local (mod_.Named (codes "sum")) });
    } ∷ []);
  } ∷ [];
}

counter_is_good : IsGoodModule counter
unfolding reached_within name_shape may_have
counter_is_good = record { well_formed = well_formed_by_test counter refl; valid = (valid_has_no_failure counter).1 refl }

counter_is_read : Reads (canon counter) counter
counter_is_read = (canon_is_read_back counter counter_is_good counter).1 refl
