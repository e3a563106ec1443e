-- Modules that are not well formed, by computation.
use Rattle.std.specs.Prelude.{◌≡◌, ℕ, zero, suc, Bool, true, false, List, [], ◌∷◌, None, codes}
use Rattle.std.proofs.Common.{refl}
use Rattle.ir_tables.specs.MayHave.{may_have}
use Rattle.ir_tables.specs.declared.opcode.Opcode.TheVariants as opcode
use Rattle.type_table.specs.Tree.{Tree, int, ptr, void, array, struct, named, no_trees, more_trees, fields}
use Rattle.type_table.specs.Shape.{name_shape}
use Rattle.module_arena.specs.Module.{Constant, LocalName, Instruction, Ending, empty_module}
use Rattle.module_arena.specs.Module.LocalName.{Named, Numbered}
use Rattle.module_arena.specs.Module.Brackets.{Square}
use Rattle.module_arena.specs.Module.Constant.{Integer, Truth, Null, Undef, ZeroInitializer, Address, Aggregate}
use Rattle.module_arena.specs.Module.Constants.{no_constants, more_constants}
use Rattle.module_arena.specs.Module.Value.{Local}
use Rattle.module_arena.specs.Module.Operation.{BinaryOperation, Phi, Store, ExtractValue}
use Rattle.module_arena.specs.Module.Ending.{Return, Jump}
use Rattle.module_arena.proofs.RowModules.{of_variables, of_functions, global, declared, defined, parameter, block, numbered, bare, operand, known, number}
use Rattle.module_arena.proofs.WellFormedTest.{is_well_formed}

-- ---- variables and types

abbrev only : Tree → Constant → Bool
only ty c = is_well_formed (of_variables (global (codes "x") ty c ∷ []))

-- @x = global i8 256, and 255
too_large_a_number : only (int 8) (Integer 256) ≡ false
too_large_a_number = refl

greatest_number : only (int 8) (Integer 255) ≡ true
greatest_number = refl

-- at i1 there are numbers alone
truth_at_i1 : only (int 1) (Truth true) ≡ false
truth_at_i1 = refl

wide_integer : only (int 129) (Integer 0) ≡ false
wide_integer = refl

-- [1099511627776 x i16]
too_many_bytes : only (array 1099511627776 (int 16)) ZeroInitializer ≡ false
too_many_bytes = refl

-- the same within a type that has no size
too_many_bytes_within : only (struct false (more_trees (array 1099511627776 (int 16)) (more_trees void no_trees))) ZeroInitializer ≡ false
too_many_bytes_within = refl

no_such_entry : only ptr (Address (codes "y")) ≡ false
no_such_entry = refl

no_such_struct : only (named (codes "T")) ZeroInitializer ≡ false
no_such_struct = refl

-- two entries of one name
one_name_twice : is_well_formed (record empty_module { variables = global (codes "x") ptr Null ∷ []; functions = declared void (codes "x") [] ∷ [] }) ≡ false
one_name_twice = refl

-- %T = type { %T }
contains_itself : is_well_formed (record empty_module { structs = (codes "T", fields false (more_trees (named (codes "T")) no_trees)) ∷ [] }) ≡ false
unfolding name_shape
contains_itself = refl

-- so many arrays of one element in each other, and a list of lists for them
unfoldable nest : ℕ → Tree
nest zero = int 32
nest (suc n) = array 1 (nest n)

unfoldable lists : ℕ → Constant
lists zero = Integer 7
lists (suc n) = Aggregate Square (more_constants (nest n) (lists n) no_constants)

nested_64_deep : only (nest 64) (lists 64) ≡ true
unfolding nest lists
nested_64_deep = refl

nested_65_deep : only (nest 65) ZeroInitializer ≡ false
unfolding nest
nested_65_deep = refl

-- the type of the outermost list is not written with it
listed_65_deep : only (nest 64) (lists 65) ≡ false
unfolding nest lists
listed_65_deep = refl

-- ---- functions

abbrev of_one_block : LocalName → List Instruction → Ending → Bool
of_one_block name instructions ending = is_well_formed (of_functions (defined (int 32) (codes "f") [] (block name instructions ending ∷ []) ∷ []))

-- ret i32 %x
no_such_value : of_one_block (Numbered 0) [] (Return (operand (int 32) (Local (Named (codes "x"))))) ≡ false
no_such_value = refl

-- br label %x
no_such_block : of_one_block (Numbered 0) [] (Jump (Named (codes "x"))) ≡ false
no_such_block = refl

-- %2 = add i32 1, 1
skipped_number : of_one_block (Numbered 0) (numbered 2 (BinaryOperation opcode.Add 0 (known (int 32) (Integer 1)) (number 1)) ∷ []) (Return (known (int 32) (Integer 0))) ≡ false
skipped_number = refl

-- %1 = store i32 0, ptr null
named_store : of_one_block (Numbered 0) (numbered 1 (Store 0 (known (int 32) (Integer 0)) (known ptr Null) None) ∷ []) (Return (known (int 32) (Integer 0))) ≡ false
named_store = refl

-- an `add` without a result, and one with the flag of a load
bare_sum : of_one_block (Numbered 0) (bare (BinaryOperation opcode.Add 0 (known (int 32) (Integer 1)) (number 1)) ∷ []) (Return (known (int 32) (Integer 0))) ≡ false
bare_sum = refl

volatile_sum : of_one_block (Numbered 0) (numbered 1 (BinaryOperation opcode.Add 256 (known (int 32) (Integer 1)) (number 1)) ∷ []) (Return (known (int 32) (Integer 0))) ≡ false
unfolding may_have
volatile_sum = refl

phi_of_nothing : of_one_block (Numbered 0) (numbered 1 (Phi (int 32) []) ∷ []) (Return (known (int 32) (Integer 0))) ≡ false
phi_of_nothing = refl

part_without_index : of_one_block (Numbered 0) (numbered 1 (ExtractValue (known (int 32) Undef) []) ∷ []) (Return (known (int 32) (Integer 0))) ≡ false
part_without_index = refl

-- declare void @f(i32 %x): a declaration has numbers
named_in_a_declaration : is_well_formed (of_functions (declared void (codes "f") (parameter (int 32) (Named (codes "x")) ∷ []) ∷ [])) ≡ false
named_in_a_declaration = refl

no_block : is_well_formed (of_functions (defined void (codes "f") [] [] ∷ [])) ≡ false
no_block = refl
