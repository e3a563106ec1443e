-- For `read_types` and `gather_types`: what is kept of the operands of a type or struct.
use Rattle.std.specs.Prelude.{◌≡◌, ℕ, ◌<◌, ◌&&◌, Bool, true, false, List, All, Option, Some, None}
use Rattle.type_table.specs.Types.{Knows, KnowsBody}
use Rattle.type_table.specs.declared.ir_type.IrType.{IrType}
use Rattle.type_table.specs.declared.ir_type.StructBody.{StructBody}
use Rattle.module_arena.specs.Module.{Bytes}
use Rattle.record_table.specs.Fields.{Texts, is_name}
use Rattle.record_table.specs.Layout.{asking}
use Rattle.record_table.specs.Walk.{Walk}
use Rattle.record_table.specs.TypeRecords.{struct_body, definition}
use Rattle.record_read.specs.Reader.{Reader, IsKept, IsBroken}
use Rattle.record_read.specs.Fields.{are_bytes}
use Rattle.type_read.specs.declared.definition.StructDefinition.{StructDefinition}

-- the very types, each before so many
abbrev pub AreBelow : ℕ → List ℕ → List ℕ → Type 0
AreBelow count kept value = (kept ≡ value) × All (λ ty. ty < count) kept

-- the very type, whose parts are types and structs before so many
abbrev pub IsTypeOf : ℕ → ℕ → IrType → IrType → Type 0
IsTypeOf count known kept value = (kept ≡ value) × Knows count known kept

-- the very body, whose fields are types before so many
abbrev pub IsBodyOf : ℕ → StructBody → StructBody → Type 0
IsBodyOf count kept value = (kept ≡ value) × KnowsBody count (Some kept)

-- what a struct may be called: at least one byte, and none of them zero
abbrev pub is_good : Bytes → Bool
is_good name = is_name name && are_bytes name

-- the name that a text is; none exactly where it is no name
abbrev pub IsNameOf : Option Bytes → Bytes → Type 0
IsNameOf (Some kept) value = (kept ≡ value) × (is_good value ≡ true)
IsNameOf None value = is_good value ≡ false

-- the name at the end of a record was read; none only where a rule is broken
pub record ReadsName (t : Texts) (old new : Reader) (name : Option Bytes) : Type 0 where
  pub value : IsNameOf name ((asking 4 is_name t.last).read old.walk).0
  pub reader : new ≡ record old { walk = ((asking 4 is_name t.last).read old.walk).1 }
  pub broken : name ≡ None → IsBroken new.walk

-- the name of a definition, which stands behind its body
abbrev pub name_behind : StructBody × Bytes → Bytes
name_behind (body, name) = name

-- what a definition keeps: its body, none only where a rule is broken by then, and its name
pub record IsDefinition (t : Texts) (count : ℕ) (w : Walk) (made : StructDefinition) : Type 0 where
  pub body : IsKept (IsBodyOf count) made.body ((struct_body count).read w).0 ((struct_body count).read w).1
  pub name : IsNameOf made.name (name_behind ((definition t count).read w).0)
  pub broken : made.name ≡ None → IsBroken ((definition t count).read w).1
