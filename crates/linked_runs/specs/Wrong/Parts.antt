-- For `wrong_linkings_run_otherwise`: parts, and what a linker with one mistake makes of them.
use Rattle.std.specs.Prelude.{ℕ, false, List, [], ◌∷◌, codes, Some, None}
use Prim.Native.String.{String}
use Rattle.ir_tables.specs.declared.linkage.Linkage.{Linkage}
use Rattle.ir_tables.specs.declared.linkage.Linkage.TheVariants.{External, Internal, Weak, Common, Appending}
use Rattle.ir_tables.specs.declared.opcode.Opcode.TheVariants.{Sub, Trunc, PtrToInt}
use Rattle.type_table.specs.Tree.{Tree, int, ptr, void, array, struct, named}
use Rattle.module_arena.specs.Module.{Integer, Null, Undef, Address, Aggregate, Square, Braces, Constant, Value, Known, Instruction, BinaryOperation, Convert, Load, Return, ReturnVoid, Variable, Function, Module}
use Rattle.module_arena.specs.Write.{i32, result, number, at, typed, gives, calls, block, variable, function, just, module_of, types, constants, struct_with}

-- define i32 @main() { .. ret i32 v }
abbrev pub main_of : List Instruction → Value → Function
main_of instructions v = function External i32 "main" [] (Some (block 0 instructions (Return (typed i32 v)) ∷ []))

-- ---- a local variable, and one that holds its address

-- @name = internal global i32 n
abbrev pub own : String → ℕ → Variable
own name n = variable Internal name i32 (Some (Integer n))

-- @p = global ptr @v
abbrev pub holds_v : Variable
holds_v = variable External "p" ptr (Some (Address (codes "v")))

-- main returns what stands where @p leads
abbrev pub reads_through_p : Function
reads_through_p = main_of (gives 1 (Load 0 ptr (typed ptr (at "p")) None) ∷ gives 2 (Load 0 i32 (typed ptr (result 1)) None) ∷ []) (result 2)

-- each part has its own @v
abbrev pub inside_parts : List Module
inside_parts = module_of [] (own "v" 1 ∷ []) [] ∷ module_of [] (own "v" 2 ∷ holds_v ∷ []) (reads_through_p ∷ []) ∷ []

-- the second is renamed, and @p holds the name that it had
abbrev pub name_kept : Module
name_kept = module_of [] (own "v" 1 ∷ own "v.1" 2 ∷ holds_v ∷ []) (reads_through_p ∷ [])

-- ---- a weak function and a strong one

-- @f, which returns a number
abbrev pub gives_number : Linkage → ℕ → Function
gives_number linkage n = function linkage i32 "f" [] (just n)

-- main returns what @f does
abbrev pub calls_f : Function
calls_f = main_of (gives 1 (calls i32 "f" []) ∷ []) (result 1)

-- the weak one stands first
abbrev pub winner_parts : List Module
winner_parts =
    module_of [] [] (gives_number Weak 1 ∷ [])
    ∷ module_of [] [] (gives_number External 2 ∷ [])
    ∷ module_of [] [] (function External i32 "f" [] None ∷ calls_f ∷ [])
    ∷ []

-- and counts
abbrev pub first_kept : Module
first_kept = module_of [] [] (gives_number Weak 1 ∷ calls_f ∷ [])

-- ---- constructors of two parts

-- { i32, ptr, ptr }
abbrev pub constructor_type : Tree
constructor_type = struct false (types (i32 ∷ ptr ∷ ptr ∷ []))

-- { i32 65535, ptr @name, ptr null }
abbrev pub constructor_of : String → Tree × Constant
constructor_of name = (constructor_type, Aggregate Braces (constants ((i32, Integer 65535) ∷ (ptr, Address (codes name)) ∷ (ptr, Null) ∷ [])))

-- the array of so many constructors
abbrev pub constructors : ℕ → List (Tree × Constant) → Variable
constructors n cs = variable Appending "llvm.global_ctors" (array n constructor_type) (Some (Aggregate Square (constants cs)))

-- declare i32 @putchar(i32)
abbrev pub putchar : Function
putchar = function External i32 "putchar" (i32 ∷ []) None

-- %1 = call i32 @putchar(i32 letter)
abbrev pub prints : ℕ → Instruction
prints letter = gives 1 (calls i32 "putchar" (typed i32 (number letter) ∷ []))

-- a function that prints a letter
abbrev pub letter_of : String → ℕ → Function
letter_of name letter = function External void name [] (Some (block 0 (prints letter ∷ []) ReturnVoid ∷ []))

-- main prints an m
abbrev pub prints_m : Function
prints_m = main_of (prints 109 ∷ []) (number 0)

-- the first part's prints an a, the second's a b
abbrev pub constructors_parts : List Module
constructors_parts =
    module_of [] (constructors 1 (constructor_of "a" ∷ []) ∷ []) (putchar ∷ letter_of "a" 97 ∷ prints_m ∷ [])
    ∷ module_of [] (constructors 1 (constructor_of "b" ∷ []) ∷ []) (putchar ∷ letter_of "b" 98 ∷ []) ∷ []

-- the second's stands first
abbrev pub order_turned : Module
order_turned = module_of [] (constructors 2 (constructor_of "b" ∷ constructor_of "a" ∷ []) ∷ []) (putchar ∷ letter_of "a" 97 ∷ prints_m ∷ letter_of "b" 98 ∷ [])

-- ---- commons of one name

-- @a = global i8 0
abbrev pub one_byte : Variable
one_byte = variable External "a" (int 8) (Some (Integer 0))

-- @c = common global TYPE 0, align n
abbrev pub common_of : Tree → ℕ → Variable
common_of t n = record (variable Common "c" t (Some (Integer 0))) { alignment = Some n }

-- main returns how far @c stands behind 65,536
abbrev pub tells_place : Function
tells_place = main_of (
    gives 1 (Convert PtrToInt 0 (typed ptr (at "c")) (int 64))
    ∷ gives 2 (BinaryOperation Sub 0 (typed (int 64) (result 1)) (number 65536))
    ∷ gives 3 (Convert Trunc 0 (typed (int 64) (result 2)) i32) ∷ []) (result 3)

-- the second is larger, the first has the greater alignment
abbrev pub commons_parts : List Module
commons_parts = module_of [] (one_byte ∷ common_of i32 16 ∷ []) (tells_place ∷ []) ∷ module_of [] (common_of (int 64) 8 ∷ []) [] ∷ []

-- the larger is as it was
abbrev pub unaligned : Module
unaligned = module_of [] (one_byte ∷ common_of (int 64) 8 ∷ []) (tells_place ∷ [])

-- ---- structs of one name and unlike bodies

-- %T
abbrev pub the_struct : Tree
the_struct = named (codes "T")

-- main passes a %T to @g, and returns what that does
abbrev pub passes_struct : Function
passes_struct = main_of (gives 1 (calls i32 "g" (typed the_struct (Known Undef) ∷ [])) ∷ []) (result 1)

-- @g takes a %T, and returns 3
abbrev pub takes_struct : Function
takes_struct = function External i32 "g" (the_struct ∷ []) (Some (block 1 [] (Return (typed i32 (number 3))) ∷ []))

-- it is called by a function type of another shape, since %T is another struct there
abbrev pub structs_parts : List Module
structs_parts =
    module_of (struct_with "T" (i32 ∷ []) ∷ []) [] (function External i32 "g" (the_struct ∷ []) None ∷ passes_struct ∷ [])
    ∷ module_of (struct_with "T" (int 64 ∷ []) ∷ []) [] (takes_struct ∷ []) ∷ []

-- the first stands for both
abbrev pub struct_shared : Module
struct_shared = module_of (struct_with "T" (i32 ∷ []) ∷ []) [] (takes_struct ∷ passes_struct ∷ [])
