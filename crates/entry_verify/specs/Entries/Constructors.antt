-- Says how the code reads: what `variable_name_suits` asks of a list of constructors, and of each of them by its parts.
use Rattle.std.specs.Prelude.{Bool, true, false, ◌&&◌, ◌||◌, List, [], ◌∷◌, codes, is_some}
use Rattle.entry_verify.specs.Constants.ConstantParts.{typed_at}
use Rattle.module_arena.specs.Constants.{Typed, written_number}
use Rattle.module_arena.specs.EntryRules.{has_function, has_alias_of_function, is_function_or_null, is_constructor, constructor_type}
use Rattle.module_arena.specs.Lists.{Lists}
use Rattle.module_arena.specs.Module.{Brackets, Bytes, Constant, Module}
use Rattle.module_arena.specs.Module.Brackets.{Braces}
use Rattle.module_arena.specs.Same.{same_type}
use Rattle.module_arena.specs.TypeTests.{is_integer_of, is_pointer}
use Rattle.module_arena.specs.View.{module_of}
use Rattle.module_arena.specs.declared.constant.TypedConst.{TypedConst}
use Rattle.type_table.specs.Tree.{Trees, no_trees, more_trees}

-- i32, ptr and ptr
abbrev pub are_constructor_types : Trees → Bool
are_constructor_types (more_trees a (more_trees b (more_trees c no_trees))) = is_integer_of 32 a && (is_pointer b && is_pointer c)
are_constructor_types _ = false

-- the entry of that name is a function, or an alias of one
abbrev pub leads_to_function : Module → Bytes → Bool
leads_to_function m name = has_function m name || has_alias_of_function m name

-- the constant is a number
abbrev pub is_number : Constant → Bool
is_number c = is_some (written_number c)

-- the brackets are those of a struct that is not packed
abbrev pub is_braces : Brackets → Bool
is_braces Braces = true
is_braces _ = false

-- a priority, a function or `null`, and a pointer
abbrev pub are_constructor_parts : Module → List Typed → Bool
are_constructor_parts m (a ∷ b ∷ c ∷ []) = (is_integer_of 32 a.0 && is_number a.1) && ((is_pointer b.0 && is_pointer c.0) && is_function_or_null m b.1)
are_constructor_parts m _ = false

-- each of these constants is a constructor, where one is written
abbrev pub is_constructor_at : Lists → TypedConst → Bool
is_constructor_at a x = same_type (typed_at a x).0 constructor_type && is_constructor (module_of a) (typed_at a x).1

-- the names of lists of constructors
abbrev pub constructor_names : List Bytes
constructor_names = codes "llvm.global_ctors" ∷ codes "llvm.global_dtors" ∷ []

-- the names of lists of what is used
abbrev pub used_names : List Bytes
used_names = codes "llvm.used" ∷ codes "llvm.compiler.used" ∷ []
