-- The rules of linking, on examples.
use Rattle.std.specs.Prelude.{◌≡◌, ◌^◌, true, List, [], ◌∷◌, codes, Some, None, refl}
use Rattle.std.specs.Option.{option_map}
use Rattle.type_table.specs.Tree.{int, void, array}
use Rattle.ir_tables.specs.declared.linkage.Linkage.TheVariants.{External, Internal, Weak}
use Rattle.module_arena.specs.Module.{Integer, Module, Variable}
use Rattle.module_arena.specs.Write.{i32, function, module_of, just, variable}
use Rattle.linkage_rules.specs.Globals.{OfFunction, OfVariable}
use Rattle.linkage_rules.specs.Entries.{Shared, Local, Entry}
use Rattle.linkage_rules.specs.Symbols.{symbols}
use Rattle.linkage_rules.specs.Winner.{winner}
use Rattle.linkage_rules.specs.Conflicts.{TwoStrong, FunctionAndVariable, AppendingAndPlain, ElementShape, Constness, first_conflict}
use Rattle.linkage_rules.specs.Bind.{Definition, Appended, Null, bind}
use Rattle.linkage_rules.specs.Addresses.{place}
use Rattle.linkage_rules.proofs.RowParts.{cycle_a, cycle_b, locals_p, locals_q, only, only_function, calls_f, common_a, common_b, constructors_p, constructors_q, may_be_null, numbers}

-- SYMBOLS

pub cycle_symbols : symbols (cycle_a ∷ cycle_b ∷ []) ≡ Shared (codes "b") ∷ Shared (codes "a") ∷ Shared (codes "main") ∷ []
cycle_symbols = refl

pub locals_symbols : symbols (locals_p ∷ locals_q ∷ []) ≡ Local 0 (codes "f") ∷ Shared (codes "main") ∷ Shared (codes "g") ∷ Local 1 (codes "f") ∷ Shared (codes "f.1") ∷ []
locals_symbols = refl

-- CONFLICTS

abbrev x_strong : List Module
x_strong = only External "x" i32 (Some (Integer 1)) ∷ only External "x" i32 (Some (Integer 2)) ∷ []

pub two_strong : first_conflict x_strong ≡ Some (record { kind = TwoStrong; name = codes "x"; one = 0; other = 1 })
two_strong = refl

abbrev void_x : Module
void_x = module_of [] [] (function External void "x" [] None ∷ [])

pub function_and_variable : first_conflict (void_x ∷ only External "x" i32 (Some (Integer 1)) ∷ []) ≡ Some (record { kind = FunctionAndVariable; name = codes "x"; one = 0; other = 1 })
function_and_variable = refl

pub strong_first : first_conflict (only_function External "x" 0 ∷ only External "x" i32 (Some (Integer 1)) ∷ []) ≡ Some (record { kind = TwoStrong; name = codes "x"; one = 0; other = 1 })
strong_first = refl

abbrev one_number : Variable
one_number = numbers i32 ((i32, Integer 1) ∷ []) 1

pub appending_and_plain : first_conflict (module_of [] (one_number ∷ []) [] ∷ only External "x" (array 1 i32) None ∷ []) ≡ Some (record { kind = AppendingAndPlain; name = codes "x"; one = 0; other = 1 })
appending_and_plain = refl

pub element_shape : first_conflict (module_of [] (one_number ∷ []) [] ∷ module_of [] (numbers (int 64) ((int 64, Integer 1) ∷ []) 1 ∷ []) [] ∷ []) ≡ Some (record { kind = ElementShape; name = codes "x"; one = 0; other = 1 })
element_shape = refl

pub constness : first_conflict (module_of [] (record one_number { constant = true } ∷ []) [] ∷ module_of [] (one_number ∷ []) [] ∷ []) ≡ Some (record { kind = Constness; name = codes "x"; one = 0; other = 1 })
constness = refl

pub no_conflict : first_conflict (common_a ∷ common_b ∷ []) ≡ None
no_conflict = refl

-- of two conflicts of one kind the least pair, and of two symbols the first
pub least_pair : first_conflict (only External "y" i32 None ∷ only External "x" i32 None ∷ only External "y" i32 (Some (Integer 1)) ∷ only External "x" i32 (Some (Integer 1)) ∷ only External "x" i32 (Some (Integer 1)) ∷ only External "y" i32 (Some (Integer 1)) ∷ []) ≡ Some (record { kind = TwoStrong; name = codes "y"; one = 2; other = 5 })
least_pair = refl

-- WINNERS

pub weak_first : option_map (λ (e : Entry). e.part) (winner (only_function Weak "f" 1 ∷ only_function External "f" 2 ∷ calls_f ∷ []) (codes "f")) ≡ Some 1
weak_first = refl

pub weak_second : option_map (λ (e : Entry). e.part) (winner (only_function External "f" 2 ∷ only_function Weak "f" 1 ∷ calls_f ∷ []) (codes "f")) ≡ Some 0
weak_second = refl

pub larger_common : option_map (λ (e : Entry). e.part) (winner (common_a ∷ common_b ∷ []) (codes "c")) ≡ Some 1
larger_common = refl

-- BINDINGS

pub own_local : bind (locals_p ∷ locals_q ∷ []) 1 (codes "f") ≡ Definition (record { part = 1; global = OfFunction (function Internal i32 "f" [] (just 2)) })
own_local = refl

pub appended : bind (constructors_p ∷ constructors_q ∷ []) 1 (codes "llvm.global_ctors") ≡ Appended (Shared (codes "llvm.global_ctors"))
appended = refl

pub null : bind (may_be_null ∷ []) 0 (codes "opt") ≡ Null
null = refl

pub not_null : bind (may_be_null ∷ only External "opt" i32 (Some (Integer 8)) ∷ []) 0 (codes "opt") ≡ Definition (record { part = 1; global = OfVariable (variable External "opt" i32 (Some (Integer 8))) })
not_null = refl

-- PLACES

pub common_places : place (common_a ∷ common_b ∷ []) ≡ (Shared (codes "a"), 65536) ∷ (Shared (codes "c"), 65568) ∷ (Shared (codes "main"), 2 ^ 62) ∷ []
common_places = refl

pub places : place (cycle_a ∷ cycle_b ∷ []) ≡ (Shared (codes "b"), 65536) ∷ (Shared (codes "a"), 65560) ∷ (Shared (codes "main"), 2 ^ 62) ∷ []
places = refl
