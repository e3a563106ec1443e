-- Worked rows of canonical text.
use Rattle.std.specs.Prelude.{◌≡◌, refl, ℕ, ◌+◌, true, false, List, [], ◌∷◌, codes, Some, None}
use Rattle.name_rules.specs.Spelled.{digits_before}
use Rattle.ir_lexer.specs.Class.{byte_class}
use Rattle.ir_tables.specs.declared.linkage.Linkage.TheVariants as linkage
use Rattle.ir_tables.specs.declared.opcode.Opcode.TheVariants as op
use Rattle.ir_tables.specs.declared.predicate.Predicate.TheVariants as predicate
use Rattle.ir_lexer.specs.Pieces.{pieces_text, Line}
use Rattle.type_table.specs.Tree.{Tree, int, ptr, void, array, struct, named, Trees, no_trees, more_trees, opaque_body, fields}
use Rattle.module_arena.specs.Module.{Bytes, Named, Numbered, Square, Packed, Constant, Integer, Null, Undef, ZeroInitializer, Address, ByteString, Aggregate, ElementAddress, Cast, Binary, no_constants, more_constants, Local, Known, Operand, Operation, BinaryOperation, Compare, Phi, Load, Store, Alloca, GetElementPtr, Call, ExtractValue, Instruction, Return, Switch, Variable, Function, Module, empty_module}
use Rattle.canonical.specs.Phrase.{Phrase}
use Rattle.canonical.specs.Instructions.{instruction_phrase, ending_phrase}
use Rattle.canonical.specs.Canonical.{canon}

-- the empty module
of_nothing : canon empty_module ≡ []
of_nothing = refl

abbrev i32 : Tree
i32 = int 32

abbrev call_of : ℕ → ℕ → Instruction
call_of name number = record {
  result = Some (Numbered name);
  operation = Call (record { returns = i32; parameters = i32 ∷ []; variadic = false }) (Known (Address (codes "putchar"))) (record { ty = i32; value = Known (Integer number) } ∷ []);
}

abbrev putchar : Function
putchar = record { name = codes "putchar"; linkage = linkage.External; returns = i32; parameters = record { ty = i32; name = Numbered 0 } ∷ []; variadic = false; body = None }

abbrev main : Function
main = record {
  name = codes "main";
  linkage = linkage.External;
  returns = i32;
  parameters = [];
  variadic = false;
  body = Some (record { name = Numbered 0; instructions = call_of 1 65 ∷ call_of 2 10 ∷ []; ending = Return (record { ty = i32; value = Known (Integer 0) }) } ∷ []);
}

-- two calls of a declared function
of_calls : canon (record empty_module { functions = putchar ∷ main ∷ [] }) ≡ codes "declare i32 @putchar(i32)\ndefine i32 @main() {\n0:\n  %1 = call i32 @putchar(i32 65)\n  %2 = call i32 @putchar(i32 10)\n  ret i32 0\n}\n"
unfolding digits_before byte_class
of_calls = refl

abbrev variable_of : Bytes → Tree → Constant → Variable
variable_of name ty c = record { name = name; linkage = linkage.External; constant = false; ty = ty; alignment = None; initialiser = Some c }

abbrev of_variables : List Variable → Module
of_variables vs = record empty_module { variables = vs }

-- integers are signed
of_a_byte : canon (of_variables (variable_of (codes "x") (int 8) (Integer 255) ∷ [])) ≡ codes "@x = global i8 -1\n"
unfolding digits_before byte_class
of_a_byte = refl

-- names are quoted where they need it, and i1 is a truth
of_names : canon (of_variables (variable_of (codes "a b") (int 1) (Integer 1) ∷ record (variable_of (codes "c") ptr (Address (codes "a b"))) { constant = true } ∷ [])) ≡ codes "@\"a b\" = global i1 true\n@c = constant ptr @\"a b\"\n"
unfolding digits_before byte_class
of_names = refl

-- what stands in quotes
of_quotes : canon (record empty_module { source = Some (34 ∷ 92 ∷ 10 ∷ 126 ∷ 255 ∷ []); triple = Some (codes "x86_64-unknown-linux-gnu") }) ≡ codes "source_filename = \"\\22\\5C\\0A~\\FF\"\ntarget triple = \"x86_64-unknown-linux-gnu\"\n"
unfolding digits_before byte_class
of_quotes = refl

abbrev two : Tree → Tree → Trees
two a b = more_trees a (more_trees b no_trees)

-- structs
of_structs : canon (record empty_module { structs = (codes "T", fields false (two i32 (array 4 (int 8)))) ∷ (codes "E", fields false no_trees) ∷ (codes "P", fields true (two (struct false no_trees) (named (codes "0")))) ∷ (codes "Q", fields true no_trees) ∷ (codes "O", opaque_body) ∷ [] }) ≡ codes "%T = type { i32, [4 x i8] }\n%E = type {}\n%P = type <{ {}, %\"0\" }>\n%Q = type <{}>\n%O = type opaque\n"
unfolding digits_before byte_class
of_structs = refl

-- declared variables, and alignments
of_declared : canon (of_variables (record { name = codes "e"; linkage = linkage.External; constant = false; ty = i32; alignment = Some 4; initialiser = None } ∷ record { name = codes "w"; linkage = linkage.ExternWeak; constant = true; ty = ptr; alignment = None; initialiser = None } ∷ record { name = codes "d"; linkage = linkage.WeakOdr; constant = false; ty = i32; alignment = Some 16; initialiser = Some ZeroInitializer } ∷ [])) ≡ codes "@e = external global i32, align 4\n@w = extern_weak constant ptr\n@d = weak_odr global i32 zeroinitializer, align 16\n"
unfolding digits_before byte_class
of_declared = refl

abbrev bytes_of : Phrase → List ℕ
bytes_of p = pieces_text (p Line)

abbrev a_value : Tree → ℕ → Operand
a_value ty n = record { ty = ty; value = Local (Numbered n) }

-- lists of constants
of_lists : canon (of_variables (variable_of (codes "l") (array 2 (struct true (two i32 ptr))) (Aggregate Square (more_constants (struct true (two i32 ptr)) (Aggregate Packed (more_constants i32 (Integer 65535) (more_constants ptr Null no_constants))) (more_constants (struct true (two i32 ptr)) ZeroInitializer no_constants))) ∷ variable_of (codes "e") (array 0 i32) (Aggregate Square no_constants) ∷ variable_of (codes "s") (array 2 (int 8)) (ByteString (104 ∷ 0 ∷ [])) ∷ [])) ≡ codes "@l = global [2 x <{ i32, ptr }>] [<{ i32, ptr }> <{ i32 65535, ptr null }>, <{ i32, ptr }> zeroinitializer]\n@e = global [0 x i32] []\n@s = global [2 x i8] c\"h\\00\"\n"
unfolding digits_before byte_class
of_lists = refl

-- constant expressions
of_expressions : canon (of_variables (variable_of (codes "a") ptr (ElementAddress (64 + 1) (array 4 (int 8)) (more_constants ptr (Address (codes "s")) (more_constants (int 64) (Integer 0) (more_constants (int 64) (Integer 18446744073709551615) no_constants)))) ∷ variable_of (codes "b") (int 64) (Binary op.Sub 3 (int 64) (Cast op.PtrToInt ptr (Address (codes "s")) (int 64)) (int 64) (Integer 1)) ∷ [])) ≡ codes "@a = global ptr getelementptr inbounds nuw ([4 x i8], ptr @s, i64 0, i64 -1)\n@b = global i64 sub nuw nsw (i64 ptrtoint (ptr @s to i64), i64 1)\n"
unfolding digits_before byte_class
of_expressions = refl

-- an empty switch, and one with cases
of_switches : (bytes_of (ending_phrase (Switch (a_value i32 0) (Numbered 2) [])) ≡ codes "switch i32 %0, label %2 [ ]\n") × (bytes_of (ending_phrase (Switch (a_value i32 0) (Named (codes "b")) (record { ty = i32; value = Integer 1; target = Numbered 3 } ∷ record { ty = i32; value = Integer 4294967295; target = Named (codes "a b") } ∷ []))) ≡ codes "switch i32 %0, label %b [ i32 1, label %3 i32 -1, label %\"a b\" ]\n")
unfolding digits_before byte_class
of_switches = (refl, refl)

abbrev of_operation : Operation → List ℕ
of_operation o = bytes_of (instruction_phrase (record { result = Some (Named (codes "r")); operation = o }))

-- a variadic call
of_a_variadic_call : of_operation (Call (record { returns = i32; parameters = ptr ∷ []; variadic = true }) (Known (Address (codes "printf"))) (record { ty = ptr; value = Known (Address (codes "f")) } ∷ a_value i32 4 ∷ [])) ≡ codes "%r = call i32 (ptr, ...) @printf(ptr @f, i32 %4)\n"
unfolding digits_before byte_class
of_a_variadic_call = refl

-- a call of no arguments, with no result, through a pointer
of_a_void_call : bytes_of (instruction_phrase (record { result = None; operation = Call (record { returns = void; parameters = []; variadic = false }) (Local (Numbered 7)) [] })) ≡ codes "call void %7()\n"
unfolding digits_before byte_class
of_a_void_call = refl

-- flags, in the order that the instruction has
of_flags : (of_operation (GetElementPtr (1 + 64 + 128) i32 (a_value ptr 0) (a_value (int 64) 1 ∷ [])) ≡ codes "%r = getelementptr inbounds nusw nuw i32, ptr %0, i64 %1\n") × (of_operation (BinaryOperation op.Add 3 (a_value i32 0) (Known (Integer 2))) ≡ codes "%r = add nuw nsw i32 %0, 2\n") × (of_operation (Compare 32 predicate.Slt (a_value i32 0) (Known Undef)) ≡ codes "%r = icmp samesign slt i32 %0, undef\n")
unfolding digits_before byte_class
of_flags = (refl, refl, refl)

-- memory
of_memory : (of_operation (Alloca i32 (Some (a_value i32 0)) (Some 8)) ≡ codes "%r = alloca i32, i32 %0, align 8\n") × (of_operation (Alloca i32 None None) ≡ codes "%r = alloca i32\n") × (of_operation (Load 256 i32 (a_value ptr 1) (Some 4)) ≡ codes "%r = load volatile i32, ptr %1, align 4\n") × (bytes_of (instruction_phrase (record { result = None; operation = Store 0 (a_value i32 0) (a_value ptr 1) None })) ≡ codes "store i32 %0, ptr %1\n")
unfolding digits_before byte_class
of_memory = (refl, refl, refl, refl)

-- phis and parts
of_a_phi : (of_operation (Phi i32 (record { value = Known (Integer 0); block = Numbered 0 } ∷ record { value = Local (Numbered 5); block = Named (codes "loop") } ∷ [])) ≡ codes "%r = phi i32 [ 0, %0 ], [ %5, %loop ]\n") × (of_operation (ExtractValue (a_value (named (codes "T")) 3) (1 ∷ 0 ∷ [])) ≡ codes "%r = extractvalue %T %3, 1, 0\n")
unfolding digits_before byte_class
of_a_phi = (refl, refl)
