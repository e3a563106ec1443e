-- A worked row: a module with every form of type, constant, instruction and end, both ways.
use Rattle.std.specs.Prelude.{◌≡◌, refl, ℕ, ◌^◌, ◌+◌, true, false, List, [], ◌∷◌, Option, Some, None, Ok, codes}
use Rattle.ir_tables.specs.declared.opcode.Opcode.TheVariants as op
use Rattle.ir_tables.specs.declared.predicate.Predicate.TheVariants.{Slt}
use Rattle.ir_tables.specs.declared.linkage.Linkage.TheVariants.{External, Private, Weak}
use Rattle.type_table.specs.Tree.{Tree, int, ptr, void, array, struct, named, Trees, no_trees, more_trees, opaque_body, fields}
use Rattle.module_arena.specs.Module.{Module, Variable, PlainType, FunctionType, Block, Instruction, Operation, Named, Numbered, Operand, Value, Local, Known, Square, Braces, Packed, Constant, Integer, Undef, Poison, ZeroInitializer, Address, ByteString, Aggregate, ElementAddress, Cast, Binary, Constants, no_constants, more_constants, BinaryOperation, Compare, Convert, Select, Freeze, Phi, Load, Store, Alloca, GetElementPtr, Call, ExtractValue, InsertValue, ReturnVoid, Return, Jump, Branch, Switch, Unreachable}
use Rattle.record_table.specs.Records.{read}
use Rattle.record_table.specs.Spelling.{string_table, written_module, records_put}
use Rattle.record_table.proofs.Rows.{computed}

abbrev two : Tree → Tree → Trees
two s t = more_trees s (more_trees t no_trees)

abbrev t : Tree
t = named (codes "T")

abbrev of_two : Tree → Constant → Tree → Constant → Constants
of_two s a u b = more_constants s a (more_constants u b no_constants)

abbrev at : Tree → Value → Operand
at ty value = record { ty = ty; value = value }

abbrev n : ℕ → Value
n number = Known (Integer number)

abbrev r : ℕ → Value
r number = Local (Numbered number)

abbrev gives : ℕ → Operation → Instruction
gives number operation = record { result = Some (Numbered number); operation = operation }

abbrev does : Operation → Instruction
does operation = record { result = None; operation = operation }

abbrev variable : List ℕ → Tree → Option ℕ → Option Constant → Variable
variable name ty align init = record { name = name; linkage = Weak; constant = true; ty = ty; alignment = align; initialiser = init }

abbrev element : Constant
element = ElementAddress 65 t (more_constants ptr (Address (codes "f")) (of_two (int 64) (Integer 0) (int 32) (Integer 1)))

abbrev all_variables : List Variable
all_variables =
    variable (codes "a") (array 2 t) (Some 8) (Some (Aggregate Square (of_two t (Aggregate Braces (of_two (int 32) (Integer 1) ptr (Address (codes "f")))) t ZeroInitializer)))
    ∷ variable (codes "s") (array 2 (int 8)) None (Some (ByteString (codes "hi")))
    ∷ variable (codes "e") (int 128) None (Some (Integer (5 + 2 ^ 100)))
    ∷ variable (codes "x") (int 64) (Some 65536) (Some (Binary op.Sub 3 (int 64) (Cast op.PtrToInt ptr element (int 64)) (int 64) (Integer 3)))
    ∷ variable (codes "p") (struct true (two (int 8) ptr)) None (Some (Aggregate Packed (of_two (int 8) Undef ptr Poison)))
    ∷ variable (codes "d") (named (codes "O")) None None ∷ []

abbrev entry : Block
entry = record {
  name = Numbered 1;
  instructions =
      gives 2 (BinaryOperation op.UDiv 4 (at (int 32) (Local (Named (codes "c")))) (n 7))
      ∷ gives 3 (Compare 32 Slt (at (int 32) (r 2)) (n 9))
      ∷ gives 4 (Convert op.ZExt 16 (at (int 32) (r 2)) (int 128))
      ∷ gives 5 (Select (at (int 1) (r 3)) (at (int 32) (r 2)) (at (int 32) (n 4)))
      ∷ gives 6 (Freeze (at t (Known Undef)))
      ∷ gives 7 (Alloca (int 8) (Some (at (int 32) (r 2))) (Some 16))
      ∷ gives 8 (Alloca (int 8) None None)
      ∷ does (Store 256 (at (int 32) (r 2)) (at ptr (r 7)) (Some 1))
      ∷ gives 9 (Load 0 (int 32) (at ptr (r 0)) (Some 4))
      ∷ gives 10 (GetElementPtr 193 t (at ptr (r 0)) (at (int 64) (n 0) ∷ at (int 32) (n 1) ∷ []))
      ∷ gives 11 (Call (record { returns = int 32; parameters = int 32 ∷ []; variadic = true }) (Known (Address (codes "h"))) (at (int 32) (r 9) ∷ at (int 64) (n 8) ∷ []))
      ∷ does (Call (record { returns = void; parameters = []; variadic = false }) (r 0) [])
      ∷ gives 12 (ExtractValue (at t (r 6)) (0 ∷ []))
      ∷ gives 13 (InsertValue (at t (r 6)) (at (int 32) (r 12)) (0 ∷ [])) ∷ [];
  ending = Switch (at (int 32) (r 9)) (Numbered 14) (record { ty = int 32; value = Integer 3; target = Named (codes "l") } ∷ []);
}

abbrev loop : Block
loop = record {
  name = Named (codes "l");
  instructions = gives 15 (Phi (int 32) (record { value = r 9; block = Numbered 1 } ∷ record { value = r 15; block = Named (codes "l") } ∷ [])) ∷ [];
  ending = Branch (at (int 1) (r 3)) (Named (codes "l")) (Numbered 16);
}

abbrev ends : ℕ → Block
ends number = record { name = Numbered number; instructions = []; ending = Jump (Named (codes "l")) }

abbrev every : Module
every = record {
  aliases =
      record { name = codes "y"; linkage = Private; ty = PlainType (int 16); target = codes "s" }
      ∷ record { name = codes "h"; linkage = External; ty = FunctionType (record { returns = void; parameters = ptr ∷ array 9 ptr ∷ []; variadic = true }); target = codes "f" } ∷ [];
  source = Some [];
  layout = Some (codes "e");
  triple = Some (codes "x");
  structs = (codes "T", fields false (two (int 32) ptr)) ∷ (codes "O", opaque_body) ∷ (codes "P", fields true (more_trees (array 3 (int 8)) no_trees)) ∷ [];
  variables = all_variables;
  functions =
      record { name = codes "v"; linkage = External; returns = int 32; parameters = record { ty = int 32; name = Numbered 0 } ∷ []; variadic = true; body = None }
      ∷ record {
        name = codes "f";
        linkage = External;
        returns = void;
        parameters = record { ty = ptr; name = Numbered 0 } ∷ record { ty = int 32; name = Named (codes "c") } ∷ [];
        variadic = false;
        body = Some (entry ∷ ends 14 ∷ loop ∷ record { name = Numbered 16; instructions = []; ending = ReturnVoid } ∷ []);
      }
      ∷ record {
        name = codes "g";
        linkage = Weak;
        returns = t;
        parameters = [];
        variadic = false;
        body = Some (record { name = Named (codes "0"); instructions = []; ending = Return (at t (Known ZeroInitializer)) } ∷ record { name = Numbered 0; instructions = []; ending = Unreachable } ∷ []);
      } ∷ [];
}

its_texts : string_table every ≡ codes "exTOPaspdvfgyhcl0"
its_texts = refl

it_is_read_back : read (records_put (written_module every)) ≡ Ok every
unfolding computed
it_is_read_back = refl
