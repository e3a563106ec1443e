-- For `initialiser_takes_no_intrinsic`, `initialiser_fits` and `variable_types_suit`, and how the code reads: what is asked of entries, by the constants and ids of the arena.
use Rattle.std.specs.Prelude.{ℕ, ◌<◌, Bool, true, false, not, ◌==◌, [], All, length, Option, option_to_list}
use Rattle.std.specs.Option.{option_map_or}
use Rattle.module_arena.specs.declared.constant.Const.{Const}
use Rattle.module_arena.specs.declared.constant.Const.TheVariants as const
use Rattle.module_arena.specs.declared.constant.Brackets.TheVariants as brackets
use Rattle.module_arena.specs.declared.entry.GlobalId.{GlobalId}
use Rattle.module_arena.specs.declared.entry.AliasType as the_alias_type
use Rattle.module_arena.specs.Known.{HasGlobal, counts}
use Rattle.module_arena.specs.Lists.{Lists, name_at}
use Rattle.module_arena.specs.Module.{Bytes, AliasType}
use Rattle.module_arena.specs.View.{alias_type_view}
use Rattle.type_table.specs.Types.{trees}

-- 0, `false`, `null` or `zeroinitializer`
abbrev pub is_zero_const : Const → Bool
is_zero_const (const.Integer number) = number == 0
is_zero_const (const.Truth truth) = not truth
is_zero_const const.Null = true
is_zero_const const.ZeroInitializer = true
is_zero_const _ = false

-- a list in square brackets, or `zeroinitializer` for no element
abbrev pub is_list_const : ℕ → Const → Bool
is_list_const n (const.Aggregate brackets.Square elements) = true
is_list_const n const.ZeroInitializer = n == 0
is_list_const n _ = false

-- the constant, where there is one, is one of the arena
abbrev pub KnowsConstant : Lists → Option ℕ → Type 0
KnowsConstant a constant = All (λ id. id < length a.constants) (option_to_list constant)

-- the entry, where there is one, is one of the arena
abbrev pub KnowsTarget : Lists → Option GlobalId → Type 0
KnowsTarget a target = All (HasGlobal (counts a)) (option_to_list target)

-- what an alias says of its target
abbrev pub alias_type_in : Lists → the_alias_type.AliasType → AliasType
alias_type_in a ty = alias_type_view (trees a.table) ty

-- the name of what an alias is of
abbrev pub target_name : Lists → Option GlobalId → Bytes
target_name a target = option_map_or (name_at a) target []
