-- For `names_are_read_back`, `labels_are_read_back`, `constants_are_read_back`, `values_are_read_back`, `instructions_are_read_back` and
-- `endings_are_read_back`: what records may name, so that `read` finds it again.
use Rattle.std.specs.Prelude.{◌≡◌, ℕ, nat_lt, Bool, true, List, [], ◌∷◌, length, Option, None, slice_index_or}
use Rattle.std.specs.List.{AllByRecursion}
use Rattle.ir_tables.specs.declared.opcode.Opcode.{Opcode}
use Rattle.type_table.specs.Tree.{Tree, void}
use Rattle.module_arena.specs.Module.{Bytes, LocalName, Named, Numbered}
use Rattle.module_arena.specs.Same.{same_type, same_local}
use Rattle.module_arena.specs.Forms.{are_flags_of}
use Rattle.record_table.specs.Layout.{place}
use Rattle.record_table.specs.Fields.{Texts, Numbering, same_option, coded_alignments, is_name}

-- a value that is found again at its place
pub record IsListed {A : Type 0} (same : A → A → Bool) (all : List A) (other x : A) : Type 0 where
  pub inside : nat_lt (place same all x) (length all) ≡ true
  pub found : slice_index_or all (place same all x) other ≡ x

-- each is below 256
abbrev pub AreBytes : List ℕ → Type 0
AreBytes bytes = AllByRecursion (λ b. nat_lt b 256 ≡ true) bytes

-- at least one, and each so
abbrev pub AreSome : {A : Type 0} → (A → Type 0) → List A → Type 0
AreSome holds [] = ⊥
AreSome holds (x ∷ xs) = AllByRecursion holds (x ∷ xs)

-- flags that the opcode may have
abbrev pub AreFlagsOf : Opcode → ℕ → Type 0
AreFlagsOf o f = are_flags_of o f ≡ true

module _ (k : Numbering) where
  -- a type of the module
  abbrev pub IsType : Tree → Type 0
  IsType t = IsListed same_type k.types void t

  -- a parameter or result of the body
  abbrev pub IsLocal : LocalName → Type 0
  IsLocal name = IsListed same_local k.values (Numbered 0) name

  -- a block of the body
  abbrev pub IsBlock : LocalName → Type 0
  IsBlock name = IsListed same_local k.blocks (Numbered 0) name

-- a name that these texts hold
abbrev pub IsName : Texts → Bytes → Type 0
IsName texts name = (texts.holds name ≡ true) × (is_name name ≡ true)

-- such a name, or the number that it has without one
abbrev pub IsLabel : Texts → ℕ → LocalName → Type 0
IsLabel texts own (Named name) = IsName texts name
IsLabel texts own (Numbered n) = n ≡ own

-- an alignment that records have a code of
abbrev pub IsAlignment : Option ℕ → Type 0
IsAlignment a = IsListed same_option coded_alignments None a
