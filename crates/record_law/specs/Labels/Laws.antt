-- For `labels_are_those_read`: what is gathered ahead of a body, against what is read of it.
use Rattle.std.specs.Prelude.{◌≡◌, ℕ, Bool, true, List, [], ◌++◌, map, flat_map, is_some, Ok}
use Rattle.module_arena.specs.Module.{LocalName, Instruction, Block}
use Rattle.record_table.specs.Walk.{Walk, going, stopped}
use Rattle.record_table.specs.Fields.{Texts, Numbering, label}
use Rattle.record_table.specs.Faults.{Records}
use Rattle.record_table.specs.Bodies.{Begun, BodyDue, Line, body, labels, results}

-- a rule is broken, whether or not it is known what follows
abbrev pub is_broken : Walk → Bool
is_broken (going rest broken) = is_some broken
is_broken (stopped broken) = is_some broken

-- it is known what stands next, or a rule is broken
abbrev pub IsSound : Walk → Type 0
IsSound (going rest broken) = Unit {0}
IsSound (stopped broken) = is_some broken ≡ true

-- names are read so that nothing says what stands next only where a rule is broken, and what is broken stays so
pub record HasSoundLabels (texts : Texts) : Type 0 where
  pub sound : (own : ℕ) (w : Walk) → IsSound w → IsSound ((label texts own).read w).1
  pub lasts : (own : ℕ) (w : Walk) → is_broken w ≡ true → is_broken ((label texts own).read w).1 ≡ true

-- the names of the results of these instructions
abbrev pub results_in : List Instruction → List LocalName
results_in is = flat_map (λ i. results i.result) is

-- those of the results of blocks
abbrev pub results_of : List Block → List LocalName
results_of bs = flat_map (λ b. results_in b.instructions) bs

-- while a line is due there is a block that has not ended
abbrev pub opened : {A : Type 0} → BodyDue → List A → List A
opened Line xs = xs
opened _ xs = []

-- The values that are gathered ahead are the parameters and the results of what is read, and the blocks are its blocks.
abbrev pub LabelsAreThoseRead : Type 0
LabelsAreThoseRead = (texts : Texts) (k : Numbering) (count at : ℕ) (inside : Records) (s : Begun) → HasSoundLabels texts → body texts k count at inside ≡ Ok s
    → ((labels texts k count inside).values ≡ s.parameters ++ results_of s.blocks) × ((labels texts k count inside).blocks ≡ map (λ b. b.name) s.blocks)
