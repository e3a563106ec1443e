-- For `texts_are_read_back`, `names_are_read_back`, `labels_are_read_back`, `constants_are_read_back`, `values_are_read_back` and
-- `instructions_are_read_back`: that what a layout spells is read back.
use Rattle.std.specs.Prelude.{◌≡◌, ℕ, List, ◌++◌, None}
use Rattle.record_table.specs.Walk.{going}
use Rattle.record_table.specs.Layout.{Layout}

-- where a value is good, it is read of what it spells, and the operands behind it are left
pub record Lays {A : Type 0} (good : A → Type 0) (l : Layout A) : Type 0 where
  pub back : (x : A) (rest : List ℕ) → good x → l.read (going (l.spell x ++ rest) None) ≡ (x, going rest None)
