-- Worked rows of canonical text with aliases.
use Rattle.std.specs.Prelude.{◌≡◌, refl, true, false, List, [], ◌∷◌, codes, Some, None}
use Rattle.name_rules.specs.Spelled.{digits_before}
use Rattle.ir_lexer.specs.Class.{byte_class}
use Rattle.ir_tables.specs.declared.linkage.Linkage.TheVariants as linkage
use Rattle.type_table.specs.Tree.{Tree, int, ptr, void}
use Rattle.module_arena.specs.Module.{Signature, PlainType, FunctionType, Alias, Numbered, Integer, Known, Return, Module, empty_module}
use Rattle.canonical.specs.Canonical.{canon}

abbrev of_aliases : List Alias → Module
of_aliases as_ = record empty_module { aliases = as_ }

abbrev of_type : Tree → List Tree → Signature
of_type returns parameters = record { returns = returns; parameters = parameters; variadic = false }

of_a_variable : canon (of_aliases (record { name = codes "y"; linkage = linkage.External; ty = PlainType (int 32); target = codes "x" } ∷ [])) ≡ codes "@y = alias i32, ptr @x\n"
unfolding digits_before byte_class
of_a_variable = refl

of_a_function : canon (of_aliases (record { name = codes "h"; linkage = linkage.Internal; ty = FunctionType (of_type (int 32) []); target = codes "f" } ∷ [])) ≡ codes "@h = internal alias i32 (), ptr @f\n"
unfolding digits_before byte_class
of_a_function = refl

of_parameters : canon (of_aliases (record { name = codes "a b"; linkage = linkage.Private; ty = FunctionType (record (of_type void (ptr ∷ int 8 ∷ [])) { variadic = true }); target = codes "1" } ∷ record { name = codes "z"; linkage = linkage.External; ty = FunctionType (record (of_type void []) { variadic = true }); target = codes "f" } ∷ [])) ≡ codes "@\"a b\" = private alias void (ptr, i8, ...), ptr @\"1\"\n@z = alias void (...), ptr @f\n"
unfolding digits_before byte_class
of_parameters = refl

-- @x = global i32 5, @y = alias i32, ptr @x and a function @main, in this order
in_order :
    canon (record empty_module {
      variables = record { name = codes "x"; linkage = linkage.External; constant = false; ty = int 32; alignment = None; initialiser = Some (Integer 5) } ∷ [];
      aliases = record { name = codes "y"; linkage = linkage.External; ty = PlainType (int 32); target = codes "x" } ∷ [];
      functions = record {
        name = codes "main";
        linkage = linkage.External;
        returns = int 32;
        parameters = [];
        variadic = false;
        body = Some (record { name = Numbered 0; instructions = []; ending = Return (record { ty = int 32; value = Known (Integer 0) }) } ∷ []);
      } ∷ [];
    })
    ≡ codes "@x = global i32 5\n@y = alias i32, ptr @x\ndefine i32 @main() {\n0:\n  ret i32 0\n}\n"
unfolding digits_before byte_class
in_order = refl
