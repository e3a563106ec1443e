-- For `add_typed` of `Builder`: constants with the types that are written before them.
use Rattle.std.specs.Prelude.{◌≡◌, ℕ, ◌-◌, ◌%◌, ◌^◌, Bool, if◌then◌else◌}
use Rattle.ir_tables.specs.declared.opcode.Opcode.{Opcode}
use Rattle.module_arena.specs.declared.constant.Const.{Const}
use Rattle.module_arena.specs.declared.constant.Const.TheVariants as const
use Rattle.ir_phrases.specs.Constants.Tree.{TypedConstantTree}
use Rattle.type_table.specs.Tree.{Tree}
use Rattle.module_arena.specs.Module.{Constant}
use Rattle.name_rules.specs.Written.{type_in, constant_in}

-- a constant that is written, and its type
abbrev pub typed_in : TypedConstantTree → Tree × Constant
typed_in written = (type_in written.0, constant_in (type_in written.0) written.1)

-- a constant of two others
abbrev pub pair_of : Opcode → ℕ → Tree × Constant → Tree × Constant → Constant
pair_of opcode flags left right = Constant.Binary opcode flags left.0 left.1 right.0 right.1

-- an integer of that sign and magnitude, modulo 2^bits
abbrev pub reduced_to : ℕ → Bool → ℕ → ℕ
reduced_to bits negative magnitude =
    if negative then (2 ^ bits - magnitude % 2 ^ bits) % 2 ^ bits
    else magnitude % 2 ^ bits

-- a constant that has no other in it
abbrev pub IsSimple : Const → Constant → Type 0
IsSimple (const.Integer number) c = c ≡ Constant.Integer number
IsSimple (const.Truth truth) c = c ≡ Constant.Truth truth
IsSimple const.Null c = c ≡ Constant.Null
IsSimple const.Undef c = c ≡ Constant.Undef
IsSimple const.Poison c = c ≡ Constant.Poison
IsSimple const.ZeroInitializer c = c ≡ Constant.ZeroInitializer
IsSimple _ c = ⊥
