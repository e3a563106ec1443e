-- Worked rows: the modules that texts stand for.
use Rattle.std.specs.Prelude.{◌≡◌, refl, ℕ, false, true, [], ◌∷◌, codes, Some, None}
use Rattle.ir_tables.specs.declared.linkage.Linkage.TheVariants as linkage
use Rattle.ir_tables.specs.declared.predicate.Predicate.TheVariants as predicate
use Rattle.type_table.specs.Tree.{int, ptr, void, array, struct, named, no_trees, more_trees, opaque_body, fields}
use Rattle.module_arena.specs.Module as m
use Rattle.module_arena.specs.Module.{Operand, Value, empty_module}
use Rattle.name_rules.proofs.WorkedRows.{comes_to, Accepted}

abbrev numbered : ℕ → Value
numbered n = m.Local (m.Numbered n)

abbrev known : ℕ → Value
known n = m.Known (m.Integer n)

abbrev at_i32 : Value → Operand
at_i32 v = record { ty = int 32; value = v }

abbrev at_ptr : Value → Operand
at_ptr v = record { ty = ptr; value = v }

nothing : comes_to [] ≡ Accepted empty_module
unfolding comes_to
nothing = refl

dropped : comes_to (codes "; no item\nattributes #0 = { cold }\n!llvm.ident = !{!0}\n!0 = !{!\"me\"}") ≡ Accepted empty_module
unfolding comes_to
dropped = refl

second_of_a_cycle : comes_to (codes "@a = external global ptr @b = global ptr @a") ≡ Accepted (record empty_module {
  variables =
      record { name = codes "a"; linkage = linkage.External; constant = false; ty = ptr; alignment = None; initialiser = None }
      ∷ record { name = codes "b"; linkage = linkage.External; constant = false; ty = ptr; alignment = None; initialiser = Some (m.Address (codes "a")) }
      ∷ [];
})
unfolding comes_to
second_of_a_cycle = refl

-- numbers modulo 2^N, words at i1 and elsewhere, -1 and -0
constants : comes_to (codes "@a = constant <{ i8, i1, i1, i8, ptr }> <{ i8 -1, i1 true, i1 -1, i8 true, ptr 7 }>, align 8") ≡ Accepted (record empty_module {
  variables = record {
    name = codes "a";
    linkage = linkage.External;
    constant = true;
    ty = struct true (more_trees (int 8) (more_trees (int 1) (more_trees (int 1) (more_trees (int 8) (more_trees ptr no_trees)))));
    alignment = Some 8;
    initialiser = Some (m.Aggregate m.Packed (m.more_constants (int 8) (m.Integer 255) (m.more_constants (int 1) (m.Integer 1) (m.more_constants (int 1) (m.Integer 1) (m.more_constants (int 8) (m.Truth true) (m.more_constants ptr (m.Integer 7) m.no_constants))))));
  } ∷ [];
})
unfolding comes_to
constants = refl

texts_and_structs : comes_to (codes "%A = type opaque source_filename = \"s\\22\" target triple = \"t\" %B = type <{ %A, [3 x ptr] }> target datalayout = \"e\"") ≡ Accepted (record empty_module {
  source = Some (codes "s\"");
  layout = Some (codes "e");
  triple = Some (codes "t");
  structs = (codes "A", opaque_body) ∷ (codes "B", fields true (more_trees (named (codes "A")) (more_trees (array 3 ptr) no_trees))) ∷ [];
})
unfolding comes_to
texts_and_structs = refl

-- a parameter and two blocks without names, a call without a written function type
function : comes_to (codes "define i32 @f(i32 %a, i32) { %c = icmp slt i32 %a, -1 br i1 %c, label %x, label %2 x: %r = call i32 @f(i32 %0, i32 255) ret i32 %r store i8 -1, ptr null br label %x }") ≡ Accepted (record empty_module {
  functions = record {
    name = codes "f";
    linkage = linkage.External;
    returns = int 32;
    parameters = record { ty = int 32; name = m.Named (codes "a") } ∷ record { ty = int 32; name = m.Numbered 0 } ∷ [];
    variadic = false;
    body = Some (
        record {
          name = m.Numbered 1;
          instructions = record { result = Some (m.Named (codes "c")); operation = m.Compare 0 predicate.Slt (at_i32 (m.Local (m.Named (codes "a")))) (known 4294967295) } ∷ [];
          ending = m.Branch (record { ty = int 1; value = m.Local (m.Named (codes "c")) }) (m.Named (codes "x")) (m.Numbered 2);
        }
        ∷ record {
          name = m.Named (codes "x");
          instructions = record {
            result = Some (m.Named (codes "r"));
            operation = m.Call (record { returns = int 32; parameters = int 32 ∷ int 32 ∷ []; variadic = false }) (m.Known (m.Address (codes "f"))) (at_i32 (numbered 0) ∷ at_i32 (known 255) ∷ []);
          } ∷ [];
          ending = m.Return (at_i32 (m.Local (m.Named (codes "r"))));
        }
        ∷ record {
          name = m.Numbered 2;
          instructions = record { result = None; operation = m.Store 0 (record { ty = int 8; value = known 255 }) (at_ptr (m.Known m.Null)) None } ∷ [];
          ending = m.Jump (m.Named (codes "x"));
        }
        ∷ []
        );
  } ∷ [];
})
unfolding comes_to
function = refl

-- names and attributes of a declaration are dropped; a variadic call writes its function type
variadic_call : comes_to (codes "declare internal void @g(ptr noundef %p, ...) #0 define void @f() { call void (ptr, ...) @g(ptr null, i32 5) ret void }") ≡ Accepted (record empty_module {
  functions =
      record { name = codes "g"; linkage = linkage.Internal; returns = void; parameters = record { ty = ptr; name = m.Numbered 0 } ∷ []; variadic = true; body = None }
      ∷ record {
        name = codes "f";
        linkage = linkage.External;
        returns = void;
        parameters = [];
        variadic = false;
        body = Some (record {
          name = m.Numbered 0;
          instructions = record { result = None; operation = m.Call (record { returns = void; parameters = ptr ∷ []; variadic = true }) (m.Known (m.Address (codes "g"))) (at_ptr (m.Known m.Null) ∷ at_i32 (known 5) ∷ []) } ∷ [];
          ending = m.ReturnVoid;
        } ∷ []);
      }
      ∷ [];
})
unfolding comes_to
variadic_call = refl

-- of a variable and of a function, each before what it names
aliases : comes_to (codes "@y = internal alias i32, ptr @x @x = global i32 5 @g = alias i32 (ptr, ...), ptr @f declare i32 @f(ptr, ...)") ≡ Accepted (record empty_module {
  variables = record { name = codes "x"; linkage = linkage.External; constant = false; ty = int 32; alignment = None; initialiser = Some (m.Integer 5) } ∷ [];
  aliases =
      record { name = codes "y"; linkage = linkage.Internal; ty = m.PlainType (int 32); target = codes "x" }
      ∷ record { name = codes "g"; linkage = linkage.External; ty = m.FunctionType (record { returns = int 32; parameters = ptr ∷ []; variadic = true }); target = codes "f" }
      ∷ [];
  functions = record { name = codes "f"; linkage = linkage.External; returns = int 32; parameters = record { ty = ptr; name = m.Numbered 0 } ∷ []; variadic = true; body = None } ∷ [];
})
unfolding comes_to
aliases = refl
