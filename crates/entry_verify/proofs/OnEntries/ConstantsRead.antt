-- What initialisers are, by the constants of the arena.
use Rattle.std.proofs.Common.{◌≡◌, ℕ, List, Some, refl}
use Rattle.type_table.specs.Tree.{Tree}
use Rattle.module_arena.specs.EntryRules.{is_zero, is_list_of}
use Rattle.module_arena.specs.Module.{Bytes, Constant}
use Rattle.module_arena.specs.View.{constant_view}
use Rattle.module_arena.specs.declared.constant.Brackets.TheVariants as brackets
use Rattle.module_arena.specs.declared.constant.Const as the_const
use Rattle.module_arena.specs.declared.constant.Const.TheVariants as const
use Rattle.module_arena.specs.declared.entry.GlobalId.{GlobalId}
use Rattle.entry_verify.specs.Entries.Readings.{is_zero_const, is_list_const}

module _ (ts : List Tree) (ns : GlobalId → Bytes) (cs : List Constant) where
  pub zero_told : (c : the_const.Const) → is_zero_const c ≡ is_zero (Some (constant_view ts ns cs c))
  zero_told (const.Integer n) = refl
  zero_told (const.Truth b) = refl
  zero_told const.Null = refl
  zero_told const.Undef = refl
  zero_told const.Poison = refl
  zero_told const.ZeroInitializer = refl
  zero_told (const.Address g) = refl
  zero_told (const.ByteString bytes) = refl
  zero_told (const.Aggregate round es) = refl
  zero_told (const.ElementAddress f address) = refl
  zero_told (const.Cast o x to) = refl
  zero_told (const.Binary o f pair) = refl

  pub list_told : (n : ℕ) (c : the_const.Const) → is_list_const n c ≡ is_list_of n (Some (constant_view ts ns cs c))
  list_told n (const.Integer k) = refl
  list_told n (const.Truth b) = refl
  list_told n const.Null = refl
  list_told n const.Undef = refl
  list_told n const.Poison = refl
  list_told n const.ZeroInitializer = refl
  list_told n (const.Address g) = refl
  list_told n (const.ByteString bytes) = refl
  list_told n (const.Aggregate brackets.Square es) = refl
  list_told n (const.Aggregate brackets.Braces es) = refl
  list_told n (const.Aggregate brackets.Packed es) = refl
  list_told n (const.ElementAddress f address) = refl
  list_told n (const.Cast o x to) = refl
  list_told n (const.Binary o f pair) = refl
