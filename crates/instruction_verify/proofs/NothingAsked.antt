-- Instructions that a rule asks nothing of.
use Rattle.std.proofs.Common.{◌≡◌, ℕ, true, ◌&&◌, List, Option, Some, None, refl, ap, option_to_list}
use Rattle.std.specs.List.{list_all}
use Rattle.std.specs.Option.{option_map}
use Rattle.ir_tables.specs.declared.opcode.Opcode.{Opcode}
use Rattle.type_table.specs.Tree.{Structs}
use Rattle.type_table.specs.Types.{Types, tree}
use Rattle.module_arena.specs.TypeTests.{is_integer}
use Rattle.module_arena.specs.Module as modules
use Rattle.module_arena.specs.Lists.{Lists}
use Rattle.module_arena.specs.Module.{LocalName}
use Rattle.module_arena.specs.ValueRules.{address_suits, arithmetic_suits, cast_suits, element_address_suits, part_suits}
use Rattle.module_arena.specs.declared.instruction.Choice.{Choice}
use Rattle.module_arena.specs.declared.instruction.Inst as the_inst
use Rattle.module_arena.specs.declared.instruction.Inst.TheVariants as inst
use Rattle.module_arena.specs.declared.instruction.Insertion.{Insertion}
use Rattle.module_arena.specs.declared.instruction.Operand.{Operand}
use Rattle.module_arena.specs.declared.instruction.Value.{Value}
use Rattle.ir_tables.specs.declared.predicate.Predicate.{Predicate}
use Rattle.instruction_verify.specs.ArenaOperands.{instruction_in, operand_in}

module _ (a : Lists) (values blocks : List LocalName) where
  pub no_arithmetic : (i : the_inst.Inst) → ((opcode : Opcode) (flags result : ℕ) (left : Operand) (right : Value) → i ≡ inst.Binary opcode flags result left right → ⊥) → ((flags : ℕ) (predicate : Predicate) (result : ℕ) (left : Operand) (right : Value) → i ≡ inst.Compare flags predicate result left right → ⊥) → ((result : ℕ) (choice : Choice) → i ≡ inst.Select result choice → ⊥) → true ≡ arithmetic_suits (instruction_in a values blocks i).operation
  no_arithmetic (inst.Binary opcode flags result left right) o p q = absurd (o opcode flags result left right refl)
  no_arithmetic (inst.Compare flags predicate result left right) o p q = absurd (p flags predicate result left right refl)
  no_arithmetic (inst.Convert opcode flags result operand to) o p q = refl
  no_arithmetic (inst.Select result choice) o p q = absurd (q result choice refl)
  no_arithmetic (inst.Freeze result operand) o p q = refl
  no_arithmetic (inst.Phi result ty incoming) o p q = refl
  no_arithmetic (inst.Load flags result ty address alignment) o p q = refl
  no_arithmetic (inst.Store flags stored address alignment) o p q = refl
  no_arithmetic (inst.Alloca result ty count alignment) o p q = refl
  no_arithmetic (inst.GetElementPtr flags result source base indices) o p q = refl
  no_arithmetic (inst.Call call) o p q = refl
  no_arithmetic (inst.ExtractValue result aggregate indices) o p q = refl
  no_arithmetic (inst.InsertValue result insertion) o p q = refl

  pub no_cast : (i : the_inst.Inst) → ((opcode : Opcode) (flags result : ℕ) (operand : Operand) (to : ℕ) → i ≡ inst.Convert opcode flags result operand to → ⊥) → true ≡ cast_suits (instruction_in a values blocks i).operation
  no_cast (inst.Binary opcode flags result left right) o = refl
  no_cast (inst.Compare flags predicate result left right) o = refl
  no_cast (inst.Convert opcode flags result operand to) o = absurd (o opcode flags result operand to refl)
  no_cast (inst.Select result choice) o = refl
  no_cast (inst.Freeze result operand) o = refl
  no_cast (inst.Phi result ty incoming) o = refl
  no_cast (inst.Load flags result ty address alignment) o = refl
  no_cast (inst.Store flags stored address alignment) o = refl
  no_cast (inst.Alloca result ty count alignment) o = refl
  no_cast (inst.GetElementPtr flags result source base indices) o = refl
  no_cast (inst.Call call) o = refl
  no_cast (inst.ExtractValue result aggregate indices) o = refl
  no_cast (inst.InsertValue result insertion) o = refl

  pub no_address : (i : the_inst.Inst) → ((flags result ty : ℕ) (address : Operand) (alignment : Option ℕ) → i ≡ inst.Load flags result ty address alignment → ⊥) → ((flags : ℕ) (stored address : Operand) (alignment : Option ℕ) → i ≡ inst.Store flags stored address alignment → ⊥) → ((result ty : ℕ) (count : Option Operand) (alignment : Option ℕ) → i ≡ inst.Alloca result ty count alignment → ⊥) → true ≡ address_suits (instruction_in a values blocks i).operation
  no_address (inst.Binary opcode flags result left right) o p q = refl
  no_address (inst.Compare flags predicate result left right) o p q = refl
  no_address (inst.Convert opcode flags result operand to) o p q = refl
  no_address (inst.Select result choice) o p q = refl
  no_address (inst.Freeze result operand) o p q = refl
  no_address (inst.Phi result ty incoming) o p q = refl
  no_address (inst.Load flags result ty address alignment) o p q = absurd (o flags result ty address alignment refl)
  no_address (inst.Store flags stored address alignment) o p q = absurd (p flags stored address alignment refl)
  no_address (inst.Alloca result ty count alignment) o p q = absurd (q result ty count alignment refl)
  no_address (inst.GetElementPtr flags result source base indices) o p q = refl
  no_address (inst.Call call) o p q = refl
  no_address (inst.ExtractValue result aggregate indices) o p q = refl
  no_address (inst.InsertValue result insertion) o p q = refl

  pub no_part : (s : Structs) (i : the_inst.Inst) → ((result : ℕ) (aggregate : Operand) (indices : List ℕ) → i ≡ inst.ExtractValue result aggregate indices → ⊥) → ((result : ℕ) (insertion : Insertion) → i ≡ inst.InsertValue result insertion → ⊥) → true ≡ part_suits s (instruction_in a values blocks i).operation
  no_part s (inst.Binary opcode flags result left right) o p = refl
  no_part s (inst.Compare flags predicate result left right) o p = refl
  no_part s (inst.Convert opcode flags result operand to) o p = refl
  no_part s (inst.Select result choice) o p = refl
  no_part s (inst.Freeze result operand) o p = refl
  no_part s (inst.Phi result ty incoming) o p = refl
  no_part s (inst.Load flags result ty address alignment) o p = refl
  no_part s (inst.Store flags stored address alignment) o p = refl
  no_part s (inst.Alloca result ty count alignment) o p = refl
  no_part s (inst.GetElementPtr flags result source base indices) o p = refl
  no_part s (inst.Call call) o p = refl
  no_part s (inst.ExtractValue result aggregate indices) o p = absurd (o result aggregate indices refl)
  no_part s (inst.InsertValue result insertion) o p = absurd (p result insertion refl)

  pub no_element : (s : Structs) (i : the_inst.Inst) → ((flags result source : ℕ) (base : Operand) (indices : List Operand) → i ≡ inst.GetElementPtr flags result source base indices → ⊥) → true ≡ element_address_suits s (instruction_in a values blocks i).operation
  no_element s (inst.Binary opcode flags result left right) o = refl
  no_element s (inst.Compare flags predicate result left right) o = refl
  no_element s (inst.Convert opcode flags result operand to) o = refl
  no_element s (inst.Select result choice) o = refl
  no_element s (inst.Freeze result operand) o = refl
  no_element s (inst.Phi result ty incoming) o = refl
  no_element s (inst.Load flags result ty address alignment) o = refl
  no_element s (inst.Store flags stored address alignment) o = refl
  no_element s (inst.Alloca result ty count alignment) o = refl
  no_element s (inst.GetElementPtr flags result source base indices) o = absurd (o flags result source base indices refl)
  no_element s (inst.Call call) o = refl
  no_element s (inst.ExtractValue result aggregate indices) o = refl
  no_element s (inst.InsertValue result insertion) o = refl

-- the count of an alloca
pub count_in : (a : Lists) (values blocks : List LocalName) (t : Types) → t ≡ a.table → (count : Option Operand)
    → list_all (λ (o : Operand). is_integer (tree t o.ty)) (option_to_list count) ≡ list_all (λ (o : modules.Operand). is_integer o.ty) (option_to_list (option_map (operand_in a values blocks) count))
count_in a values blocks t same None = refl
count_in a values blocks t same (Some o) = ap (λ (u : Types). is_integer (tree u o.ty) && true) same
