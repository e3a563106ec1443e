-- For `PhiJudge::new` and `PhiJudge::judge_phi`: the edges to a block, by numbers, and lists with the same numbers.
use Rattle.std.specs.Prelude.{◌≡◌, ◌⊎◌, ℕ, ◌+◌, ◌<◌, Bool, true, ◌&&◌, ◌==◌, List, [], ◌∷◌, ◌++◌, map, filter, length, count_by, slice_index_or}
use Rattle.std.specs.List.{list_all}
use Rattle.module_arena.specs.declared.entry.Block.{Block}
use Rattle.module_arena.specs.declared.entry.Function.{Function}
use Rattle.module_arena.specs.declared.instruction.Incoming.{Incoming}
use Rattle.module_arena.specs.declared.instruction.Inst.{Inst}
use Rattle.module_arena.specs.declared.instruction.Inst.TheVariants as inst
use Rattle.module_arena.specs.Lists.{function_blocks}
use Rattle.module_arena.specs.Mentions.{targets_of}
use Rattle.instruction_verify.specs.Uses.Agreeing.{entries_agree_by}

-- how often a number is in a list
abbrev pub count_in : List ℕ → ℕ → ℕ
count_in xs n = count_by (λ x. x == n) xs

-- the same numbers, each as often
abbrev pub same_numbers : List ℕ → List ℕ → Bool
same_numbers xs ys = list_all (λ n. count_in xs n == count_in ys n) (xs ++ ys)

-- one block for each of its edges to another
abbrev pub edges_to : ℕ → List ℕ → ℕ → List ℕ
edges_to from targets to = map (λ t. from) (filter (λ t. t == to) targets)

-- the blocks that lead to a block, once for each edge, among blocks of which the first has that number
abbrev pub sources_from : ℕ → List Block → ℕ → List ℕ
sources_from first [] to = []
sources_from first (b ∷ bs) to = edges_to first (targets_of b.end) to ++ sources_from (first + 1) bs to

-- the list of a block
abbrev pub source_of : List (List ℕ) → ℕ → List ℕ
source_of sources b = slice_index_or sources b []

-- the lists of the blocks of a function
abbrev pub IsSourced : Function → List (List ℕ) → Type 0
IsSourced f sources =
    (length sources ≡ length (function_blocks f))
    × ((b : ℕ) → b < length (function_blocks f) → source_of sources b ≡ sources_from 0 (function_blocks f) b)

-- there are no lists yet, or they are those of the blocks of a function
abbrev pub MayBeSourced : Function → List (List ℕ) → Type 0
MayBeSourced f sources = (sources ≡ []) ⊎ IsSourced f sources

-- nothing is counted, and there is a place for each block
pub record IsScratch (sources : List (List ℕ)) (entries edges last : List ℕ) : Type 0 where
  pub entries_many : length entries ≡ length sources
  pub edges_many : length edges ≡ length sources
  pub last_many : length last ≡ length sources
  pub entries_zero : (n : ℕ) → slice_index_or entries n 0 ≡ 0
  pub edges_zero : (n : ℕ) → slice_index_or edges n 0 ≡ 0

-- one entry for each edge, and entries for one block equal
abbrev pub entries_suit_by : List ℕ → List ℕ → List Incoming → Bool
entries_suit_by classes sources incoming = same_numbers (map (λ i. i.block) incoming) sources && entries_agree_by classes incoming

-- the instruction suits as a phi, behind phis alone or not
abbrev pub suits_by : List ℕ → List ℕ → Bool → Inst → Bool
suits_by classes sources behind_phis (inst.Phi result ty incoming) = behind_phis && entries_suit_by classes sources incoming
suits_by classes sources behind_phis i = true
