-- Linked modules, on examples.
use Rattle.std.specs.Prelude.{◌≡◌, ℕ, ◌^◌, [], ◌∷◌, codes, Some, None, refl}
use Rattle.ir_tables.specs.declared.linkage.Linkage.TheVariants.{External, Internal, Weak, Common, Appending, ExternWeak, AvailableExternally}
use Rattle.type_table.specs.Tree.{int, ptr, array, named, opaque_body}
use Rattle.type_table.specs.Shape.{name_shape}
use Rattle.module_arena.specs.Module.{Integer, ZeroInitializer, Address, Undef, Known, ExtractValue, InsertValue, Return, Function, Module}
use Rattle.module_arena.specs.Write.{i32, result, number, typed, gives, calls, block, variable, function, just, module_of, struct_with}
use Rattle.linkage_rules.proofs.RowParts.{cycle_a, cycle_b, cycle_main, locals_p, locals_q, locals_main, returns_call, only, only_function, calls_f, aligned, common_a, common_b, common_main, constructors_p, constructors_q, constructor_of, constructors, putchar, prints, prints_m, may_be_null, structs_p, structs_q, pointer_b, pointer_main, intrinsic_b, numbers}
use Rattle.link_rules.specs.Linked.{link_result}
use Rattle.module_arena.specs.declared.fault.CountKind.TheVariants.{Structs, Variables, Functions, Aliases, AppendedBytes}
use Rattle.module_arena.specs.declared.fault.CountKind.{CountKind}
use Rattle.link_rules.specs.Counts.{counts, first_past, too_many}

pub cycle : link_result (cycle_a ∷ cycle_b ∷ []) ≡ module_of [] (variable External "b" ptr (Some (Address (codes "a"))) ∷ variable External "a" ptr (Some (Address (codes "b"))) ∷ []) (cycle_main ∷ [])
cycle = refl

pub locals : link_result (locals_p ∷ locals_q ∷ []) ≡ module_of [] [] (function Internal i32 "f" [] (just 1) ∷ locals_main ∷ returns_call "g" "f.2" ∷ function Internal i32 "f.2" [] (just 2) ∷ function External i32 "f.1" [] (just 40) ∷ [])
locals = refl

pub weak_first : link_result (only_function Weak "f" 1 ∷ only_function External "f" 2 ∷ calls_f ∷ []) ≡ module_of [] [] (function External i32 "f" [] (just 2) ∷ returns_call "main" "f" ∷ [])
weak_first = refl

pub weak_second : link_result (only_function External "f" 2 ∷ only_function Weak "f" 1 ∷ calls_f ∷ []) ≡ module_of [] [] (function External i32 "f" [] (just 2) ∷ returns_call "main" "f" ∷ [])
weak_second = refl

pub common : link_result (common_a ∷ common_b ∷ []) ≡ module_of [] (variable External "a" (int 8) (Some (Integer 0)) ∷ aligned 16 (variable Common "c" (int 64) (Some (Integer 0))) ∷ []) (common_main ∷ [])
common = refl

pub appended : link_result (constructors_p ∷ constructors_q ∷ []) ≡ module_of [] (constructors (constructor_of "a" ∷ constructor_of "b" ∷ []) 2 ∷ []) (putchar ∷ prints "a" 97 ∷ prints_m ∷ prints "b" 98 ∷ [])
appended = refl

pub appended_other_way : link_result (constructors_q ∷ constructors_p ∷ []) ≡ module_of [] (constructors (constructor_of "b" ∷ constructor_of "a" ∷ []) 2 ∷ []) (putchar ∷ prints "b" 98 ∷ prints "a" 97 ∷ prints_m ∷ [])
appended_other_way = refl

pub null_alone : link_result (may_be_null ∷ []) ≡ may_be_null
null_alone = refl

pub null_defined : link_result (may_be_null ∷ only External "opt" i32 (Some (Integer 8)) ∷ []) ≡ record may_be_null { variables = variable External "opt" i32 (Some (Integer 8)) ∷ [] }
null_defined = refl

pub local_main : link_result (only_function Internal "main" 1 ∷ only_function External "main" 6 ∷ []) ≡ module_of [] [] (function Internal i32 "main.1" [] (just 1) ∷ function External i32 "main" [] (just 6) ∷ [])
local_main = refl

-- `main` as it is linked: it passes a %T of which the field is 9 to `g`
abbrev linked_main : Function
linked_main = function External i32 "main" [] (Some (block 0
    (gives 1 (InsertValue (typed (named (codes "T")) (Known Undef)) (typed i32 (number 9)) (0 ∷ []))
    ∷ gives 2 (calls i32 "g" (typed (named (codes "T")) (result 1) ∷ [])) ∷ [])
    (Return (typed i32 (result 2))) ∷ []))

-- `g` as it is linked: the field of the %U that it is passed
abbrev linked_g : Function
linked_g = function External i32 "g" (named (codes "U") ∷ []) (Some (block 1
    (gives 2 (ExtractValue (typed (named (codes "U")) (result 0)) (0 ∷ [])) ∷ []) (Return (typed i32 (result 2))) ∷ []))

pub structs : link_result (structs_p ∷ structs_q ∷ []) ≡ module_of (struct_with "T" (i32 ∷ []) ∷ struct_with "T.1" (int 64 ∷ []) ∷ struct_with "U" (i32 ∷ []) ∷ []) [] (linked_g ∷ linked_main ∷ [])
unfolding name_shape
structs = refl

pub pointer : link_result (only Internal "v" i32 (Some (Integer 1)) ∷ pointer_b ∷ []) ≡ module_of [] (variable Internal "v" i32 (Some (Integer 1)) ∷ variable Internal "v.1" i32 (Some (Integer 2)) ∷ variable External "p" ptr (Some (Address (codes "v.1"))) ∷ []) (pointer_main ∷ [])
pointer = refl

pub intrinsic : link_result (only_function Internal "llvm" 1 ∷ intrinsic_b ∷ []) ≡ module_of [] [] (function Internal i32 "llvm" [] (just 1) ∷ function Internal i32 "llvm_.1" [] (just 2) ∷ returns_call "main" "llvm_.1" ∷ [])
intrinsic = refl

-- structs of one name and one shape whose inner structs have unlike names are two
abbrev outer_a : Module
outer_a = module_of (struct_with "S" (named (codes "A") ∷ []) ∷ struct_with "A" (i32 ∷ []) ∷ []) [] []

-- the same names, but for that of the inner struct
abbrev outer_b : Module
outer_b = module_of (struct_with "S" (named (codes "B") ∷ []) ∷ struct_with "B" (i32 ∷ []) ∷ struct_with "A" (i32 ∷ []) ∷ []) [] []

pub inner_names : (link_result (outer_a ∷ outer_b ∷ [])).structs ≡ struct_with "S" (named (codes "A") ∷ []) ∷ struct_with "A" (i32 ∷ []) ∷ struct_with "S.1" (named (codes "B") ∷ []) ∷ struct_with "B" (i32 ∷ []) ∷ []
unfolding name_shape
inner_names = refl

-- an available_externally definition alone is a declaration, and its parameters are numbered
pub available : link_result (module_of [] [] (function AvailableExternally i32 "f" (i32 ∷ ptr ∷ []) (just 1) ∷ []) ∷ []) ≡ module_of [] [] (function External i32 "f" (i32 ∷ ptr ∷ []) None ∷ [])
available = refl

-- an appended array of no elements
pub no_elements : link_result (module_of [] (variable Appending "x" (array 0 i32) (Some ZeroInitializer) ∷ []) [] ∷ module_of [] (aligned 8 (numbers i32 ((i32, Integer 1) ∷ []) 1) ∷ []) [] ∷ []) ≡ module_of [] (aligned 8 (numbers i32 ((i32, Integer 1) ∷ []) 1) ∷ []) []
no_elements = refl

-- two commons state their greatest alignment, one alone states what it stated
pub commons_state : link_result (only Common "c" (int 64) (Some (Integer 0)) ∷ only Common "c" i32 (Some (Integer 0)) ∷ []) ≡ module_of [] (aligned 8 (variable Common "c" (int 64) (Some (Integer 0))) ∷ []) []
commons_state = refl

pub common_alone : link_result (only Common "c" i32 (Some (Integer 0)) ∷ only External "c" i32 None ∷ []) ≡ only Common "c" i32 (Some (Integer 0))
common_alone = refl

-- extern_weak exactly where all entries are, with the first entry's type
pub weak_everywhere : link_result (only ExternWeak "w" i32 None ∷ only ExternWeak "w" (int 8) None ∷ []) ≡ only ExternWeak "w" i32 None
weak_everywhere = refl

pub weak_once : link_result (only ExternWeak "w" i32 None ∷ only External "w" (int 8) None ∷ []) ≡ only External "w" i32 None
weak_once = refl

-- texts of the first part that has one
pub texts : link_result (record (only External "x" i32 None) { triple = Some (codes "t") } ∷ record (only External "x" i32 None) { source = Some (codes "s"); triple = Some (codes "u") } ∷ []) ≡ record (only External "x" i32 None) { source = Some (codes "s"); triple = Some (codes "t") }
texts = refl

-- an opaque struct is no struct with a body
abbrev opaque_s : Module
opaque_s = module_of ((codes "S", opaque_body) ∷ []) [] []

-- the same name with an empty body
abbrev empty_s : Module
empty_s = module_of (struct_with "S" [] ∷ []) [] []

pub opaque_alone : (link_result (opaque_s ∷ empty_s ∷ opaque_s ∷ [])).structs ≡ (codes "S", opaque_body) ∷ struct_with "S.1" [] ∷ []
unfolding name_shape
opaque_alone = refl

-- COUNTS, with smaller limits for the numbers of entries

-- at most three of each
abbrev small : CountKind → ℕ
small Structs = 3
small Variables = 3
small Functions = 3
small Aliases = 3
small AppendedBytes = 2 ^ 40

-- two variables
abbrev two_variables : Module
two_variables = module_of [] (variable External "a0" (int 1) (Some (Integer 0)) ∷ variable External "a1" (int 1) (Some (Integer 0)) ∷ []) []

-- two others
abbrev two_more : Module
two_more = module_of [] (variable External "b0" (int 1) (Some (Integer 0)) ∷ variable External "b1" (int 1) (Some (Integer 0)) ∷ []) []

pub too_many_variables : first_past small (counts (two_variables ∷ two_more ∷ [])) ≡ Some (record { kind = Variables; number = 4 })
too_many_variables = refl

-- an appended array whose one element has 2^40 bytes
abbrev large : Module
large = module_of [] (numbers (array (2 ^ 40) (int 8)) ((array (2 ^ 40) (int 8), ZeroInitializer) ∷ []) 1 ∷ []) []

pub too_many_bytes : too_many (large ∷ large ∷ []) ≡ Some (record { kind = AppendedBytes; number = 2199023255552 })
too_many_bytes = refl

pub bytes_fit : too_many (large ∷ []) ≡ None
bytes_fit = refl
