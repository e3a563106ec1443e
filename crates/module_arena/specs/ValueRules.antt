-- For `Checked::seal`: what is asked of the types of what instructions and the ends of blocks work on.
use Rattle.std.specs.Prelude.{ℕ, Bool, true, false, not, ◌&&◌, ◌||◌, nat_eq, List, [], ◌∷◌, map, flat_map, Option, Some, None, is_some, is_none, option_to_list}
use Rattle.std.specs.List.{list_all}
use Rattle.ir_tables.specs.declared.flag.Flag.TheVariants.{Samesign}
use Rattle.ir_tables.specs.Flags.{has_flag}
use Rattle.ir_tables.specs.Table.{is_distinct}
use Rattle.type_table.specs.Tree.{Tree, ptr, Structs}
use Rattle.module_arena.specs.Module.{LocalName, Value, Operand, Operation, Case, Ending, Function}
use Rattle.module_arena.specs.Module.Value.{Local, Known}
use Rattle.module_arena.specs.Module.Operation.{BinaryOperation, Compare, Convert, Select, Load, Store, Alloca, GetElementPtr, Call, ExtractValue, InsertValue}
use Rattle.module_arena.specs.Module.Ending.{ReturnVoid, Return, Branch, Switch}
use Rattle.module_arena.specs.Same.{same_type}
use Rattle.module_arena.specs.TypeTests.{is_integer, is_integer_of, is_pointer, is_void, part_at, is_type}
use Rattle.module_arena.specs.Constants.{is_cast_between, Index, written_number, indices_fit, fits, is_pointer_constant}
use Rattle.module_arena.specs.Functions.{local_type}

-- a local value has this type
abbrev pub value_has_type : Structs → Function → Tree → Value → Bool
value_has_type structs f t (Local name) = is_type (same_type t) (local_type structs f name)
value_has_type structs f t (Known c) = true

-- local values have the types that their places write
abbrev pub have_types_written : Structs → Function → List Operand → Bool
have_types_written structs f os = list_all (λ o. value_has_type structs f o.ty o.value) os

-- binary operands are integers; operands of icmp are integers or, without samesign, ptr; a select has the condition i1
-- and arms of one type
abbrev pub arithmetic_suits : Operation → Bool
arithmetic_suits (BinaryOperation opcode flags left right) = is_integer left.ty
arithmetic_suits (Compare flags predicate left right) = is_integer left.ty || (not (has_flag flags Samesign) && is_pointer left.ty)
arithmetic_suits (Select condition first second) = is_integer_of 1 condition.ty && same_type first.ty second.ty
arithmetic_suits _ = true

-- a cast is between types that it is for
abbrev pub cast_suits : Operation → Bool
cast_suits (Convert opcode flags value to) = is_cast_between opcode value.ty to
cast_suits _ = true

-- the address of load and store is ptr, and the count of an alloca is an integer
abbrev pub address_suits : Operation → Bool
address_suits (Load flags ty address alignment) = is_pointer address.ty
address_suits (Store flags value address alignment) = is_pointer address.ty
address_suits (Alloca ty count alignment) = list_all (λ c. is_integer c.ty) (option_to_list count)
address_suits _ = true

-- the number that a value writes
abbrev pub number_in : Value → Option ℕ
number_in (Local name) = None
number_in (Known c) = written_number c

-- an operand as an index
abbrev pub index_of_operand : Operand → Index
index_of_operand o = record { ty = o.ty; number = number_in o.value }

-- a base is `ptr`, and each index leads to a part
abbrev pub element_address_suits : Structs → Operation → Bool
element_address_suits structs (GetElementPtr flags source base indices) = is_pointer base.ty && indices_fit structs source (map index_of_operand indices)
element_address_suits structs _ = true

-- the indices name a part, and an inserted value has its type
abbrev pub part_suits : Structs → Operation → Bool
part_suits structs (ExtractValue aggregate indices) = is_some (part_at structs aggregate.ty indices)
part_suits structs (InsertValue aggregate part indices) = is_type (same_type part.ty) (part_at structs aggregate.ty indices)
part_suits structs _ = true

-- ---- calls and ends

-- the value is a pointer
abbrev pub is_pointer_value : Structs → Function → Value → Bool
is_pointer_value structs f (Local name) = is_type is_pointer (local_type structs f name)
is_pointer_value structs f (Known c) = is_pointer_constant c

-- arguments have the types of the parameters in number and order, with further ones only where the function is variadic
abbrev pub arguments_suit : Bool → List Tree → List Operand → Bool
arguments_suit variadic [] [] = true
arguments_suit variadic [] (a ∷ as_) = variadic
arguments_suit variadic (t ∷ ts) [] = false
arguments_suit variadic (t ∷ ts) (a ∷ as_) = same_type t a.ty && arguments_suit variadic ts as_

-- what is called is a pointer, the arguments suit its signature, and a void call has no result
abbrev pub call_suits : Structs → Function → Option LocalName → Operation → Bool
call_suits structs f result (Call signature callee arguments) =
    is_pointer_value structs f callee
    && (arguments_suit signature.variadic signature.parameters arguments && (not (is_void signature.returns) || is_none result))
call_suits structs f result _ = true

-- a number of this type
abbrev pub is_case_of : Tree → Case → Bool
is_case_of t c = same_type c.ty t && is_some (written_number c.value)

-- the numbers of the cases
abbrev pub case_numbers : List Case → List ℕ
case_numbers cases = flat_map (λ c. option_to_list (written_number c.value)) cases

-- `ret` has the function's return type, a `br` has a condition i1, and a `switch` is on an integer, with distinct integers
-- of its type as cases
abbrev pub ending_suits : Function → Ending → Bool
ending_suits f ReturnVoid = is_void f.returns
ending_suits f (Return value) = same_type value.ty f.returns
ending_suits f (Branch condition then_to else_to) = is_integer_of 1 condition.ty
ending_suits f (Switch value otherwise cases) = is_integer value.ty && (list_all (is_case_of value.ty) cases && is_distinct nat_eq (case_numbers cases))
ending_suits f _ = true

-- ---- constants

-- a constant fits this type
abbrev pub value_fits : Structs → Tree → Value → Bool
value_fits structs t (Local name) = true
value_fits structs t (Known c) = fits structs t c

-- each constant among the operands fits its type
abbrev pub operands_fit : Structs → List Operand → Bool
operands_fit structs os = list_all (λ o. value_fits structs o.ty o.value) os

-- a constant callee fits `ptr`
abbrev pub callee_fits : Structs → Option Value → Bool
callee_fits structs None = true
callee_fits structs (Some value) = value_fits structs ptr value
