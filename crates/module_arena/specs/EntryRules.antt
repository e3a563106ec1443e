-- For `Checked::seal`: what is asked of variables, aliases and functions.
use Rattle.std.specs.Prelude.{◌≡◌, ◌↔◌, ◌^◌, ◌≤◌, ℕ, Bool, true, false, not, ◌&&◌, ◌||◌, ◌==◌, nat_eq, bytes_eq, List, [], ◌∷◌, flat_map, Option, Some, None, is_some, is_none, codes}
use Rattle.std.specs.List.{list_all, list_any, starts_with}
use Rattle.std.specs.Option.{option_map_or}
use Rattle.ir_tables.specs.declared.linkage.Linkage.{Linkage}
use Rattle.ir_tables.specs.declared.linkage.Linkage.TheVariants.{External, Private, Internal, Common, Appending, ExternWeak}
use Rattle.type_table.specs.Tree.{Tree, int, ptr, array, struct, no_trees, more_trees, Structs}
use Rattle.module_arena.specs.Module.{Bytes, Constant, Constants, Variable, AliasType, Alias, Function, Module}
use Rattle.module_arena.specs.Module.AliasType.{PlainType, FunctionType}
use Rattle.module_arena.specs.Module.Brackets.{Square, Braces}
use Rattle.module_arena.specs.Module.Constant.{Integer, Truth, Null, ZeroInitializer, Address, Aggregate, ElementAddress, Cast, Binary}
use Rattle.module_arena.specs.Module.Constants.{no_constants, more_constants}
use Rattle.module_arena.specs.Same.{same_type}
use Rattle.module_arena.specs.TypeTests.{is_integer_of, is_pointer, is_void, is_free_of_void, is_free_of_names, lies_in_memory, is_passable}
use Rattle.module_arena.specs.Constants.{Typed, constants_in, address_in}
use Rattle.module_arena.specs.HostRows.{host_row, is_declared_as}
use Rattle.module_arena.specs.Functions.{function_names}

-- a declaration is external or extern_weak, and a definition is not extern_weak
abbrev pub linkage_suits : (is_defined : Bool) → Linkage → Bool
linkage_suits true ExternWeak = false
linkage_suits true _ = true
linkage_suits false External = true
linkage_suits false ExternWeak = true
linkage_suits false _ = false

-- the linkage is `common`
abbrev pub is_common : Linkage → Bool
is_common Common = true
is_common _ = false

-- the linkage is `appending`
abbrev pub is_appending : Linkage → Bool
is_appending Appending = true
is_appending _ = false

-- 0, `false`, `null` or `zeroinitializer`
abbrev pub is_zero : Option Constant → Bool
is_zero (Some (Integer n)) = n == 0
is_zero (Some (Truth truth)) = not truth
is_zero (Some Null) = true
is_zero (Some ZeroInitializer) = true
is_zero _ = false

-- a common entry is a variable, not constant, with such an initialiser
abbrev pub common_variable_suits : Variable → Bool
common_variable_suits v = not (is_common v.linkage) || (not v.constant && is_zero v.initialiser)

-- a bracketed list, or `zeroinitializer` for no element
abbrev pub is_list_of : ℕ → Option Constant → Bool
is_list_of n (Some (Aggregate Square elements)) = true
is_list_of n (Some ZeroInitializer) = n == 0
is_list_of n _ = false

-- a variable of array type, with such an element type and such an initialiser
abbrev pub is_list_variable : Tree → Option Constant → Bool
is_list_variable (array n t) initialiser = is_free_of_names t && is_list_of n initialiser
is_list_variable _ initialiser = false

-- an appending entry is a variable of array type, with an element type without struct names, and such an initialiser
abbrev pub appending_variable_suits : Variable → Bool
appending_variable_suits v = not (is_appending v.linkage) || is_list_variable v.ty v.initialiser

-- ---- names that begin `llvm.`

-- the name begins `llvm.`
abbrev pub is_llvm_name : Bytes → Bool
is_llvm_name name = starts_with nat_eq name (codes "llvm.")

-- the module has a function of that name
abbrev pub has_function : Module → Bytes → Bool
has_function m name = list_any (bytes_eq name) (function_names m)

-- { i32, ptr, ptr }
abbrev pub constructor_type : Tree
constructor_type = struct false (more_trees (int 32) (more_trees ptr (more_trees ptr no_trees)))

-- an alias of that name is one of a function
abbrev pub has_alias_of_function : Module → Bytes → Bool
has_alias_of_function m name = list_any (λ a. bytes_eq a.name name && has_function m a.target) m.aliases

-- the address of a function or of an alias of one, or `null`
abbrev pub is_function_or_null : Module → Constant → Bool
is_function_or_null m (Address name) = has_function m name || has_alias_of_function m name
is_function_or_null m Null = true
is_function_or_null m _ = false

-- { i32 INT, ptr F, ptr X }, where F is a function, an alias of a function, or null
abbrev pub is_constructor : Module → Constant → Bool
is_constructor m (Aggregate Braces (more_constants a (Integer priority) (more_constants b f (more_constants c x no_constants)))) =
    is_integer_of 32 a && (is_pointer b && (is_pointer c && is_function_or_null m f))
is_constructor m _ = false

-- each element is a constructor
abbrev pub are_constructors : Module → Constants → Bool
are_constructors m no_constants = true
are_constructors m (more_constants t c cs) = same_type t constructor_type && (is_constructor m c && are_constructors m cs)

-- a list of constructors, or none
abbrev pub lists_constructors : Module → Option Constant → Bool
lists_constructors m (Some (Aggregate _ elements)) = are_constructors m elements
lists_constructors m (Some ZeroInitializer) = true
lists_constructors m _ = false

-- an array of elements of this type
abbrev pub is_array_of : Tree → Tree → Bool
is_array_of element (array n t) = same_type t element
is_array_of element _ = false

-- the appending `llvm.global_ctors` or `llvm.global_dtors`, with constructors
abbrev pub is_constructor_list : Module → Variable → Bool
is_constructor_list m v =
    list_any (bytes_eq v.name) (codes "llvm.global_ctors" ∷ codes "llvm.global_dtors" ∷ [])
    && (is_appending v.linkage && (is_array_of constructor_type v.ty && lists_constructors m v.initialiser))

-- the appending `llvm.used` or `llvm.compiler.used`, with elements `ptr`
abbrev pub is_used_list : Variable → Bool
is_used_list v =
    list_any (bytes_eq v.name) (codes "llvm.used" ∷ codes "llvm.compiler.used" ∷ []) && (is_appending v.linkage && is_array_of ptr v.ty)

-- a variable whose name begins `llvm.` is one of these
abbrev pub variable_name_suits : Module → Variable → Bool
variable_name_suits m v = not (is_llvm_name v.name) || (is_constructor_list m v || is_used_list v)

-- an intrinsic is declared with its type
abbrev pub function_name_suits : Function → Bool
function_name_suits f = not (is_llvm_name f.name) || option_map_or (λ row. is_declared_as row f) (host_row f.name) false

-- a function that may be used only as a direct callee
abbrev pub is_only_called : Module → Bytes → Bool
is_only_called m name = is_llvm_name name && has_function m name

-- a constant that is written anywhere else names no such function
abbrev pub takes_no_intrinsic : Module → Tree → Constant → Bool
takes_no_intrinsic m t c = not (list_any (is_only_called m) (flat_map address_in (constants_in t c)))

-- an alias has no such name, and is of no such function
abbrev pub alias_names_suit : Module → Alias → Bool
alias_names_suit m a = not (is_llvm_name a.name) && not (is_only_called m a.target)

-- ---- types

-- the types that are written before the constants
abbrev pub constant_types : Constants → List Tree
constant_types no_constants = []
constant_types (more_constants t c cs) = t ∷ constant_types cs

-- operands of a constant expression are as those of an instruction, and `void` is not written
abbrev pub types_written_suit : Structs → Typed → Bool
types_written_suit structs (t, Aggregate _ elements) = list_all is_free_of_void (constant_types elements)
types_written_suit structs (t, ElementAddress flags source operands) = lies_in_memory structs source && list_all (is_passable structs) (constant_types operands)
types_written_suit structs (t, Cast opcode from value to) = is_passable structs from && is_free_of_void to
types_written_suit structs (t, Binary opcode flags a left b right) = is_passable structs a && is_passable structs b
types_written_suit structs (t, _) = true

-- the types that a constant writes, at any depth
abbrev pub constant_types_suit : Structs → Tree → Constant → Bool
constant_types_suit structs t c = list_all (types_written_suit structs) (constants_in t c)

-- the type of a declared variable, and of one with this initialiser
abbrev pub variable_type_suits : Structs → Tree → Option Constant → Bool
variable_type_suits structs t None = is_free_of_void t
variable_type_suits structs t (Some c) = lies_in_memory structs t && constant_types_suit structs t c

-- a defined variable lies in memory
abbrev pub variable_types_suit : Structs → Variable → Bool
variable_types_suit structs v = variable_type_suits structs v.ty v.initialiser

-- `void` stands only as a return type
abbrev pub return_suits : Structs → Tree → Bool
return_suits structs t = is_void t || is_passable structs t

-- the types of a function; only a declaration is variadic
abbrev pub function_types_suit : Structs → Function → Bool
function_types_suit structs f =
    list_all (λ p. is_passable structs p.ty) f.parameters && (return_suits structs f.returns && (not f.variadic || is_none f.body))

-- the types in a function type are as those of a function, and `void` is not written elsewhere
abbrev pub alias_types_suit : Structs → AliasType → Bool
alias_types_suit structs (PlainType ty) = is_free_of_void ty
alias_types_suit structs (FunctionType signature) = list_all (is_passable structs) signature.parameters && return_suits structs signature.returns

-- ---- targets of aliases

-- external, private or internal
abbrev pub is_lasting : Linkage → Bool
is_lasting External = true
is_lasting Private = true
is_lasting Internal = true
is_lasting _ = false

-- the variable of that name, if it is defined so
abbrev pub is_lasting_variable : Bytes → Variable → Bool
is_lasting_variable name v = bytes_eq v.name name && (is_some v.initialiser && is_lasting v.linkage)

-- the function of that name, if it is defined so
abbrev pub is_lasting_function : Bytes → Function → Bool
is_lasting_function name f = bytes_eq f.name name && (is_some f.body && is_lasting f.linkage)

-- a defined function where the type is a function type, else a defined variable
abbrev pub target_suits : Module → AliasType → Bytes → Bool
target_suits m (PlainType ty) name = list_any (is_lasting_variable name) m.variables
target_suits m (FunctionType signature) name = list_any (is_lasting_function name) m.functions

-- an alias and what it is of are such definitions
abbrev pub alias_suits : Module → Alias → Bool
alias_suits m a = is_lasting a.linkage && target_suits m a.ty a.target

-- ---- alignments

-- the powers of two that are at most 65,536
abbrev pub alignments : List ℕ
alignments = 1 ∷ 2 ∷ 4 ∷ 8 ∷ 16 ∷ 32 ∷ 64 ∷ 128 ∷ 256 ∷ 512 ∷ 1024 ∷ 2048 ∷ 4096 ∷ 8192 ∷ 16384 ∷ 32768 ∷ 65536 ∷ []

-- one of these powers of two
abbrev pub is_alignment : ℕ → Bool
is_alignment n = list_any (nat_eq n) alignments

-- an alignment that is stated is one of these
abbrev pub alignment_suits : Option ℕ → Bool
alignment_suits None = true
alignment_suits (Some n) = is_alignment n

-- alignments are the powers of two up to 2^16
abbrev pub AlignmentsArePowers : Type 0
AlignmentsArePowers = (n : ℕ) → (is_alignment n ≡ true) ↔ ((k : ℕ) × (k ≤ 16) × (n ≡ 2 ^ k))
