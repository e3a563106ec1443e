-- Worked rows: single records, and the least rule that each breaks.
use Rattle.std.specs.Prelude.{◌≡◌, refl, ℕ, ◌^◌, false, List, [], ◌∷◌, ◌++◌, replicate, flat_map, Option, Some, None}
use Rattle.ir_tables.specs.declared.opcode.Opcode.TheVariants as op
use Rattle.type_table.specs.Tree.{int, ptr, void, array, struct, no_trees, more_trees}
use Rattle.module_arena.specs.Module.{Numbered}
use Rattle.record_table.specs.Layout.{Layout, judged}
use Rattle.record_table.specs.Fields.{Numbering, version_1}
use Rattle.record_table.specs.Lines.{instruction, ending}
use Rattle.record_table.specs.Records.{variable, alias}
use Rattle.record_table.proofs.Rows.{computed}

-- types 0 i32, 1 ptr, 2 void, 3 i8, 4 [3 x i8], 5 i128, 6 { i32, i8 }; two values; two blocks; a function and an alias
abbrev pub k : Numbering
k = record {
  types = int 32 ∷ ptr ∷ void ∷ int 8 ∷ array 3 (int 8) ∷ int 128 ∷ struct false (more_trees (int 32) (more_trees (int 8) no_trees)) ∷ [];
  structs = [];
  targets = (102 ∷ []) ∷ [];
  globals = (102 ∷ []) ∷ (103 ∷ []) ∷ [];
  values = Numbered 0 ∷ Numbered 2 ∷ [];
  blocks = Numbered 1 ∷ Numbered 3 ∷ [];
}

abbrev pub broken : {A : Type 0} → Layout A → List ℕ → Option ℕ
broken l operands = (judged l operands).1

-- add: L, flags, T, V, V
an_add : broken (instruction version_1 k 3 op.Add) (0 ∷ 3 ∷ 0 ∷ 0 ∷ 0 ∷ 1 ∷ 7 ∷ []) ≡ None
unfolding computed
an_add = refl

one_too_many : broken (instruction version_1 k 3 op.Add) (0 ∷ 3 ∷ 0 ∷ 0 ∷ 0 ∷ 1 ∷ 7 ∷ 0 ∷ []) ≡ Some 1
unfolding computed
one_too_many = refl

-- cut short, and before that a type out of range: the least rule is told
cut_behind_a_bad_type : broken (instruction version_1 k 3 op.Add) (0 ∷ 3 ∷ 9 ∷ 0 ∷ 0 ∷ []) ≡ Some 1
unfolding computed
cut_behind_a_bad_type = refl

-- an integer of a type that is not known has one operand or two: what is behind its code is not judged
integer_of_a_bad_type : broken (instruction version_1 k 3 op.Add) (0 ∷ 3 ∷ 9 ∷ 1 ∷ 5 ∷ []) ≡ Some 2
unfolding computed
integer_of_a_bad_type = refl

-- a flag that is no flag of `add`, and an index that no value has
bad_flag_and_value : broken (instruction version_1 k 3 op.Add) (0 ∷ 4 ∷ 0 ∷ 0 ∷ 2 ∷ 1 ∷ 7 ∷ []) ≡ Some 2
unfolding computed
bad_flag_and_value = refl

bad_flag : broken (instruction version_1 k 3 op.Add) (0 ∷ 4 ∷ 0 ∷ 0 ∷ 0 ∷ 1 ∷ 7 ∷ []) ≡ Some 3
unfolding computed
bad_flag = refl

-- no constant has code 12: what is behind it is not judged
unknown_form : broken (instruction version_1 k 3 op.Add) (0 ∷ 0 ∷ 0 ∷ 12 ∷ []) ≡ Some 3
unfolding computed
unknown_form = refl

integer_too_large : broken (instruction version_1 k 3 op.Add) (0 ∷ 0 ∷ 3 ∷ 0 ∷ 0 ∷ 1 ∷ 256 ∷ []) ≡ Some 3
unfolding computed
integer_too_large = refl

two_halves : broken (instruction version_1 k 3 op.Freeze) (0 ∷ 5 ∷ 1 ∷ 0 ∷ 1 ∷ []) ≡ None
unfolding computed
two_halves = refl

one_half : broken (instruction version_1 k 3 op.Freeze) (0 ∷ 5 ∷ 1 ∷ 0 ∷ []) ≡ Some 1
unfolding computed
one_half = refl

-- a name with a zero byte, an empty name, and one that is cut
zero_byte : broken (instruction version_1 k 3 op.Freeze) (3 ∷ 97 ∷ 0 ∷ 0 ∷ 0 ∷ 0 ∷ []) ≡ Some 4
unfolding computed
zero_byte = refl

empty_name : broken (instruction version_1 k 3 op.Freeze) (1 ∷ 0 ∷ 0 ∷ 0 ∷ []) ≡ Some 4
unfolding computed
empty_name = refl

cut_name : broken (instruction version_1 k 3 op.Freeze) (9 ∷ 97 ∷ 0 ∷ 0 ∷ 0 ∷ []) ≡ Some 1
unfolding computed
cut_name = refl

-- a list with another count than its type, and the same cut short
another_count : broken (instruction version_1 k 3 op.Freeze) (0 ∷ 4 ∷ 7 ∷ 2 ∷ 1 ∷ 7 ∷ 1 ∷ 8 ∷ []) ≡ Some 6
unfolding computed
another_count = refl

another_count_cut : broken (instruction version_1 k 3 op.Freeze) (0 ∷ 4 ∷ 7 ∷ 5 ∷ 1 ∷ 7 ∷ 1 ∷ 8 ∷ []) ≡ Some 1
unfolding computed
another_count_cut = refl

-- the third part of a struct of two has no type, so an integer there has one operand or two; a null has none
a_part_too_many : broken (instruction version_1 k 3 op.Freeze) (0 ∷ 6 ∷ 7 ∷ 3 ∷ 1 ∷ 7 ∷ 1 ∷ 8 ∷ 1 ∷ []) ≡ Some 6
unfolding computed
a_part_too_many = refl

a_null_too_many : broken (instruction version_1 k 3 op.Freeze) (0 ∷ 6 ∷ 7 ∷ 3 ∷ 1 ∷ 7 ∷ 1 ∷ 8 ∷ 2 ∷ 0 ∷ []) ≡ Some 1
unfolding computed
a_null_too_many = refl

-- a null that is no pointer; then the operands are too few
null_at_integer : broken (instruction version_1 k 3 op.Freeze) (0 ∷ 0 ∷ 2 ∷ []) ≡ Some 6
unfolding computed
null_at_integer = refl

null_at_integer_cut : broken (instruction version_1 k 3 op.Add) (0 ∷ 0 ∷ 0 ∷ 2 ∷ []) ≡ Some 1
unfolding computed
null_at_integer_cut = refl

bytes_of_another_length : broken (instruction version_1 k 3 op.Freeze) (0 ∷ 4 ∷ 8 ∷ 2 ∷ 97 ∷ 98 ∷ []) ≡ Some 6
unfolding computed
bytes_of_another_length = refl

-- a call that announces 2 ^ 60 parameters, or as many arguments
absurd_count : broken (instruction version_1 k 3 op.Call) (2 ∷ 0 ∷ 2 ^ 60 ∷ 0 ∷ []) ≡ Some 1
unfolding computed
absurd_count = refl

absurd_arguments : broken (instruction version_1 k 3 op.Call) (2 ∷ 0 ∷ 0 ∷ 6 ∷ 0 ∷ 2 ^ 60 ∷ []) ≡ Some 1
unfolding computed
absurd_arguments = refl

-- of a call of a type that is not known it is not known whether it has a result
call_of_a_bad_type : broken (instruction version_1 k 3 op.Call) (9 ∷ []) ≡ Some 2
unfolding computed
call_of_a_bad_type = refl

-- no pairs, and no indices
empty_phi : broken (instruction version_1 k 3 op.Phi) (0 ∷ 0 ∷ 0 ∷ []) ≡ Some 1
unfolding computed
empty_phi = refl

no_indices : broken (instruction version_1 k 3 op.ExtractValue) (0 ∷ 4 ∷ 3 ∷ 0 ∷ []) ≡ Some 1
unfolding computed
no_indices = refl

-- an alignment of 2 ^ 17, and no block of an index
aligned_too_far : broken (instruction version_1 k 3 op.Load) (0 ∷ 0 ∷ 0 ∷ 0 ∷ 0 ∷ 18 ∷ []) ≡ Some 7
unfolding computed
aligned_too_far = refl

no_such_block : broken (ending k op.Br) (0 ∷ 2 ∷ []) ≡ Some 2
unfolding computed
no_such_block = refl

neither_branch : broken (ending k op.Br) (2 ∷ []) ≡ Some 3
unfolding computed
neither_branch = refl

-- 64 casts nest, and 65 do not
abbrev casts : ℕ → List ℕ
casts n = flat_map (λ o. o ∷ 15 ∷ 0 ∷ []) (replicate n 10) ++ 3 ∷ []

nested_64 : broken (instruction version_1 k 3 op.Freeze) (0 ∷ 0 ∷ casts 64) ≡ None
unfolding computed
nested_64 = refl

nested_65 : broken (instruction version_1 k 3 op.Freeze) (0 ∷ 0 ∷ casts 65) ≡ Some 7
unfolding computed
nested_65 = refl

-- @g = global i32, align 4, without an initialiser; a linkage of 11
a_variable : broken (variable version_1 k) (1 ∷ 103 ∷ 0 ∷ 0 ∷ 0 ∷ 3 ∷ 0 ∷ []) ≡ None
unfolding computed
a_variable = refl

bad_linkage : broken (variable version_1 k) (1 ∷ 103 ∷ 11 ∷ 0 ∷ 0 ∷ 3 ∷ 0 ∷ []) ≡ Some 3
unfolding computed
bad_linkage = refl

no_such_global : broken (variable version_1 k) (1 ∷ 103 ∷ 0 ∷ 0 ∷ 1 ∷ 0 ∷ 1 ∷ 6 ∷ 2 ∷ []) ≡ Some 2
unfolding computed
no_such_global = refl

-- @g = alias i32, ptr @f
an_alias : broken (alias version_1 k) (1 ∷ 103 ∷ 0 ∷ 0 ∷ 0 ∷ 0 ∷ []) ≡ None
unfolding computed
an_alias = refl

-- @g = internal alias i32 (ptr, ...), ptr @f
an_alias_of_a_function : broken (alias version_1 k) (1 ∷ 103 ∷ 2 ∷ 1 ∷ 0 ∷ 1 ∷ 1 ∷ 1 ∷ 0 ∷ []) ≡ None
unfolding computed
an_alias_of_a_function = refl

-- an alias may not be one of an alias
of_an_alias : broken (alias version_1 k) (1 ∷ 103 ∷ 0 ∷ 0 ∷ 0 ∷ 1 ∷ []) ≡ Some 2
unfolding computed
of_an_alias = refl

-- there are two kinds
neither_kind : broken (alias version_1 k) (1 ∷ 103 ∷ 0 ∷ 2 ∷ 0 ∷ 0 ∷ []) ≡ Some 3
unfolding computed
neither_kind = refl

alias_cut : broken (alias version_1 k) (1 ∷ 103 ∷ 0 ∷ 0 ∷ 0 ∷ []) ≡ Some 1
unfolding computed
alias_cut = refl
