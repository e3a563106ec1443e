-- The layouts of functions and aliases take the same operands as their fronts by the indices of types.
use Rattle.std.proofs.Common.{◌≡◌, ◌<◌, ℕ, zero, suc, length, refl, sym, ap, ◌∙◌, arith}
use Rattle.type_table.specs.Types.{trees}
use Rattle.type_table.proofs.Added.{length-trees}
use Rattle.record_table.specs.Fields as fields
use Rattle.record_table.specs.Fields.{Numbering, Texts, ty}
use Rattle.record_table.specs.Layout.{counted, either, either_by, many, ◌&◌}
use Rattle.record_table.specs.Records as records
use Rattle.record_table.specs.TypeRecords.{earlier}
use Rattle.record_table.specs.Walk.{Walk, going, stopped, next}
use Rattle.type_read.specs.declared.arena.module_reader.ModuleReader.{ModuleReader}
use Rattle.type_read.specs.Arena.Numbered.{Numbers}
use Rattle.type_read.proofs.OnArena.Indexed.{length_take}
use Rattle.bitcode_read.specs.Head.Fronts.{alias_type_front, function_front, function_type}

-- so many types are listed
pub many_types : (m : ModuleReader) (k : Numbering) → Numbers m k → m.growing.types < length m.growing.arena.table.types → m.growing.types ≡ length k.types
many_types m k h there =
    let long = length-trees m.growing.arena.table in
    sym (ap length h.types ∙ length_take (trees m.growing.arena.table) m.growing.types (omega arith))

module _ (k : Numbering) where
  abbrev count : ℕ
  count = length k.types

  many_same : (n : ℕ) (v : Walk) → (many (earlier count).read n v).1 ≡ (many (ty k).read n v).1
  unfolding many
  many_same zero v = refl
  many_same (suc n) (stopped broken) = refl
  many_same (suc n) (going rest broken) = many_same n ((ty k).read (going rest broken)).1

  counted_same : (v : Walk) → ((counted (earlier count)).read v).1 ≡ ((counted (ty k)).read v).1
  counted_same v = many_same (next v).0 (next v).1

  -- a function
  pub function_same : (t : Texts) (w : Walk) → ((function_front t count).read w).1 ≡ ((records.function t k).read w).1
  function_same t w = counted_same (fields.truth.read ((earlier count).read (fields.truth.read (fields.linkage.read ((fields.name t).read w).1).1).1).1).1

  either_same : (n : ℕ) (v : Walk) → (either_by (earlier count) (function_type count) n v).1 ≡ (either_by (ty k) (ty k & fields.truth & counted (ty k)) n v).1
  unfolding either_by
  either_same zero v = refl
  either_same (suc zero) v = counted_same (fields.truth.read ((earlier count).read v).1).1
  either_same (suc (suc n)) v = refl

  -- what an alias says of its target
  pub alias_type_same : (v : Walk) → ((alias_type_front count).read v).1 ≡ ((either (ty k) (ty k & fields.truth & counted (ty k))).read v).1
  alias_type_same v = either_same (next v).0 (next v).1
