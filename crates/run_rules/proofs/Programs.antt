-- Programs that run in the worked examples. Each is named after what it shows.
use Rattle.std.specs.Prelude.{ℕ, false, true, List, [], ◌∷◌, ◌++◌, codes, Some, None}
use Prim.Native.String.{String}
use Rattle.ir_tables.specs.declared.linkage.Linkage.TheVariants.{External, Internal, Appending}
use Rattle.ir_tables.specs.declared.opcode.Opcode.TheVariants.{Add, ZExt}
use Rattle.ir_tables.specs.declared.predicate.Predicate.TheVariants.{Eq}
use Rattle.type_table.specs.Tree.{Tree, int, ptr, void, array, struct}
use Rattle.module_arena.specs.Module.{LocalName, Named, Numbered, Null, Poison, Integer, Address, Aggregate, ByteString, Square, Braces, Constant, Value, Local, Known, Operand, Operation, BinaryOperation, Compare, Convert, Select, Phi, Load, Call, Instruction, ReturnVoid, Return, Jump, Branch, Block, Variable, Function, Module}
use Rattle.module_arena.specs.Write.{i32, result, number, at, typed, gives, does, calls, block, variable, function, just, module_of, types, constants}

-- define i32 @main() { .. }
abbrev pub main_of : List Block → Function
main_of blocks = function External i32 "main" [] (Some blocks)

-- one block that returns a value
abbrev pub returning : List Instruction → Value → Function
returning instructions v = main_of (block 0 instructions (Return (typed i32 v)) ∷ [])

-- n: ret i32 m
abbrev pub returns_number : ℕ → ℕ → Block
returns_number label n = block label [] (Return (typed i32 (number n)))

-- declare i32 @putchar(i32)
abbrev pub putchar : Function
putchar = function External i32 "putchar" (i32 ∷ []) None

-- %n = call i32 @putchar(i32 letter)
abbrev pub prints : ℕ → ℕ → Instruction
prints n letter = gives n (calls i32 "putchar" (typed i32 (number letter) ∷ []))

-- %1 = add nsw i32 2147483647, 1 %2 = icmp eq i32 %1, 0 br i1 %2, label %3, label %4 3: ret i32 1 4: ret i32 2
abbrev pub branches_on_poison : Module
branches_on_poison = module_of [] [] (main_of (
    block 0 (gives 1 (BinaryOperation Add 2 (typed i32 (number 2147483647)) (number 1)) ∷ gives 2 (Compare 0 Eq (typed i32 (result 1)) (number 0)) ∷ [])
    (Branch (typed (int 1) (result 2)) (Numbered 3) (Numbered 4))
    ∷ returns_number 3 1 ∷ returns_number 4 2 ∷ []) ∷ [])

-- %name
abbrev pub local : String → Value
local name = Local (Named (codes name))

-- the name of a block
abbrev pub label : String → LocalName
label name = Named (codes name)

-- %name = ..
abbrev pub names_result : String → Operation → Instruction
names_result name operation = record { result = Some (label name); operation = operation }

-- phi i32 [ v, %0 ], [ w, %l ]
abbrev pub from_entry_or_loop : Value → Value → Operation
from_entry_or_loop v w = Phi i32 (record { value = v; block = Numbered 0 } ∷ record { value = w; block = label "l" } ∷ [])

-- two phis that change places three times, and one that counts
abbrev pub swaps : Module
swaps = module_of [] [] (main_of (
    block 0 [] (Jump (label "l"))
    ∷ record {
      name = label "l";
      instructions =
          names_result "a" (from_entry_or_loop (number 11) (local "b"))
          ∷ names_result "b" (from_entry_or_loop (number 22) (local "a"))
          ∷ names_result "i" (from_entry_or_loop (number 0) (local "j"))
          ∷ names_result "j" (BinaryOperation Add 0 (typed i32 (local "i")) (number 1))
          ∷ names_result "c" (Compare 0 Eq (typed i32 (local "j")) (number 3)) ∷ [];
      ending = Branch (typed (int 1) (local "c")) (label "e") (label "l");
    }
    ∷ record { name = label "e"; instructions = []; ending = Return (typed i32 (local "a")) } ∷ []) ∷ [])

-- define internal i32 @main() { ret i32 1 }
abbrev pub local_main : Module
local_main = module_of [] [] (function Internal i32 "main" [] (just 1) ∷ [])

-- %1 = call i32 @putchar(i32 65) %2 = call i32 @putchar(i32 10) ret i32 0
abbrev pub prints_a_line : Module
prints_a_line = module_of [] [] (putchar ∷ returning (prints 1 65 ∷ prints 2 10 ∷ []) (number 0) ∷ [])

-- %1 = call i32 @getchar() ret i32 %1
abbrev pub reads_a_byte : Module
reads_a_byte = module_of [] [] (function External i32 "getchar" [] None ∷ returning (gives 1 (calls i32 "getchar" []) ∷ []) (result 1) ∷ [])

-- declare void @nope() .. call void @nope()
abbrev pub calls_nowhere : Module
calls_nowhere = module_of [] [] (function External void "nope" [] None ∷ returning (does (calls void "nope" []) ∷ []) (number 0) ∷ [])

-- a string without its zero: @s = constant [2 x i8] c"hi" .. call i32 @puts(ptr @s)
abbrev pub puts_no_string : Module
puts_no_string = module_of []
    (record { name = codes "s"; linkage = External; constant = true; ty = array 2 (int 8); alignment = None; initialiser = Some (ByteString (codes "hi")) } ∷ [])
    (function External i32 "puts" (ptr ∷ []) None ∷ returning (gives 1 (calls i32 "puts" (typed ptr (at "s") ∷ [])) ∷ []) (number 0) ∷ [])

-- variables of two parts that name each other: @b = external global ptr @a = global ptr @b, and main asks whether it comes back to @a
abbrev pub cycle_a : Module
cycle_a = module_of [] (variable External "b" ptr None ∷ variable External "a" ptr (Some (Address (codes "b"))) ∷ [])
    (returning
    (gives 1 (Load 0 ptr (typed ptr (at "a")) None)
    ∷ gives 2 (Load 0 ptr (typed ptr (result 1)) None)
    ∷ gives 3 (Compare 0 Eq (typed ptr (result 2)) (at "a"))
    ∷ gives 4 (Select (typed (int 1) (result 3)) (typed i32 (number 7)) (typed i32 (number 9))) ∷ []) (result 4) ∷ [])

-- @a = external global ptr @b = global ptr @a
abbrev pub cycle_b : Module
cycle_b = module_of [] (variable External "a" ptr None ∷ variable External "b" ptr (Some (Address (codes "a"))) ∷ []) []

-- { i32, ptr, ptr }
abbrev pub constructor_type : Tree
constructor_type = struct false (types (i32 ∷ ptr ∷ ptr ∷ []))

-- { i32 priority, ptr f, ptr null }
abbrev pub constructor : ℕ → Constant → Tree × Constant
constructor priority f = (constructor_type, Aggregate Braces (constants ((i32, Integer priority) ∷ (ptr, f) ∷ (ptr, Null) ∷ [])))

-- define void @name() that prints a letter
abbrev pub prints_letter : String → ℕ → Function
prints_letter name letter = function External void name [] (Some (block 0 (prints 1 letter ∷ []) ReturnVoid ∷ []))

-- constructors with priorities 2^32 - 1, 5, 0 and 5, that of 0 without a function
abbrev pub by_priority : Module
by_priority = module_of []
    (variable Appending "llvm.global_ctors" (array 4 constructor_type) (Some (Aggregate Square (constants (
    constructor 4294967295 (Address (codes "a")) ∷ constructor 5 (Address (codes "b")) ∷ constructor 0 Null ∷ constructor 5 (Address (codes "c")) ∷ [])))) ∷ [])
    (putchar ∷ prints_letter "a" 97 ∷ prints_letter "b" 98 ∷ prints_letter "c" 99 ∷ returning (prints 1 109 ∷ []) (number 0) ∷ [])

-- %1 = call i8 @llvm.fshl.i8(i8 -127, i8 -128, i8 1) %2 = zext i8 %1 to i32 ret i32 %2
abbrev pub funnels : Module
funnels = module_of [] [] (
    function External (int 8) "llvm.fshl.i8" (int 8 ∷ int 8 ∷ int 8 ∷ []) None
    ∷ returning
    (gives 1 (calls (int 8) "llvm.fshl.i8" (typed (int 8) (number 129) ∷ typed (int 8) (number 128) ∷ typed (int 8) (number 1) ∷ []))
    ∷ gives 2 (Convert ZExt 0 (typed (int 8) (result 1)) i32) ∷ []) (result 2) ∷ [])

-- %1 = call i8 @llvm.ctpop.i8(i8 poison) ret i32 0
abbrev pub counts_bits_of_poison : Module
counts_bits_of_poison = module_of [] [] (
    function External (int 8) "llvm.ctpop.i8" (int 8 ∷ []) None
    ∷ returning (gives 1 (calls (int 8) "llvm.ctpop.i8" (typed (int 8) (Known Poison) ∷ [])) ∷ []) (number 0) ∷ [])

-- @p = global [.. x i8] c"pattern\00", with a length
abbrev pub pattern : ℕ → List ℕ → Variable
pattern length bytes = variable External "p" (array length (int 8)) (Some (ByteString (bytes ++ 0 ∷ [])))

-- %1 = call i32 (ptr, ...) @printf(ptr @p, ..) ret i32 %1
abbrev pub prints_pattern : ℕ → List ℕ → List Variable → List Operand → Module
prints_pattern length bytes variables arguments = module_of [] (pattern length bytes ∷ variables) (
    record (function External i32 "printf" (ptr ∷ []) None) { variadic = true }
    ∷ returning (gives 1 (Call (record { returns = i32; parameters = ptr ∷ []; variadic = true }) (at "printf") (typed ptr (at "p") ∷ arguments)) ∷ []) (result 1) ∷ [])

-- printf("%5d|%-4u|%04x|%s\n", -42, 7, 255, "ab")
abbrev pub prints_numbers : Module
prints_numbers = prints_pattern 18 (codes "%5d|%-4u|%04x|%s" ++ 10 ∷ [])
    (variable External "s" (array 3 (int 8)) (Some (ByteString (97 ∷ 98 ∷ 0 ∷ []))) ∷ [])
    (typed i32 (number 4294967254) ∷ typed i32 (number 7) ∷ typed i32 (number 255) ∷ typed ptr (at "s") ∷ [])

-- printf("%d") without a further argument
abbrev pub prints_nothing : Module
prints_nothing = prints_pattern 3 (codes "%d") [] []
