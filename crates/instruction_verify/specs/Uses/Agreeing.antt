-- Says how the code of `PhiJudge::judge_phi` reads: entries that agree, by ids and classes of constants.
use Rattle.std.specs.Prelude.{ℕ, Bool, true, false, not, ◌||◌, ◌==◌, nat_lt, List, Option, Some, slice_get, slice_index_or}
use Rattle.std.specs.List.{list_all}
use Rattle.module_arena.specs.declared.instruction.Incoming.{Incoming}
use Rattle.module_arena.specs.declared.instruction.Value.{Value}
use Rattle.module_arena.specs.declared.instruction.Value.TheVariants as value

-- one local, or constants of one class
abbrev pub same_by : List ℕ → Value → Value → Bool
same_by classes (value.Local a) (value.Local b) = a == b
same_by classes (value.Local a) (value.Known b) = false
same_by classes (value.Known a) (value.Local b) = false
same_by classes (value.Known a) (value.Known b) = slice_index_or classes a 0 == slice_index_or classes b 0

-- two entries are equal, if they are for one block
abbrev pub agree_by : List ℕ → Incoming → Incoming → Bool
agree_by classes a b = not (a.block == b.block) || same_by classes a.value b.value

-- entries for one block are equal
abbrev pub entries_agree_by : List ℕ → List Incoming → Bool
entries_agree_by classes incoming = list_all (λ a. list_all (agree_by classes a) incoming) incoming

-- two entries that may be there are equal, if they are for one block
abbrev pub agree_both : List ℕ → Option Incoming → Option Incoming → Bool
agree_both classes (Some a) (Some b) = agree_by classes a b
agree_both classes _ _ = true

-- an entry agrees with that one, if it is an earlier one for the same block
abbrev pub agree_at : List ℕ → List Incoming → (earlier later : ℕ) → Bool
agree_at classes incoming earlier later = not (nat_lt earlier later) || agree_both classes (slice_get incoming earlier) (slice_get incoming later)
