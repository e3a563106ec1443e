-- Ranks that no mention lowers.
use Rattle.std.specs.Prelude.{◌≡◌, refl, ◌⊎◌, ℕ, zero, suc, ◌<◌, ◌≤◌, List, [], ◌∷◌, length, false, Some}
use Rattle.std.proofs.Common.{subst, arith, inl, inr, get_or}
use Rattle.std.proofs.lemmas.Bool.{cases_lt}
use Rattle.type_table.specs.Tree.{Structs}
use Rattle.module_arena.specs.Module.{Bytes}
use Rattle.type_table.specs.Names.Entries.{value_of}
use Rattle.name_rules.specs.Measured.{contains_itself}
use Rattle.type_judge.specs.Order.Mentions.{AreNumbers, lists_from}
use Rattle.type_judge.specs.Order.Order.{mentioned, HasNumber}
use Rattle.type_judge.proofs.OnOrder.Placed.{index_of_number}
use Rattle.type_judge.specs.Ends.Reach.{AreFrom, AreAbove, IsRising}
use Rattle.type_judge.proofs.OnEnds.Bridge.{leads_not}

-- where each has such a rank, index by index, all have
pub from_all : (ranks : List ℕ) (low : ℕ) (numbers : List ℕ) → ((k : ℕ) → k < length numbers → low ≤ get_or ranks (get_or numbers k 0) 0) → AreFrom ranks low numbers
from_all ranks low numbers each number h = let r = index_of_number numbers number h in subst (λ n. low ≤ get_or ranks n 0) r.2 (each r.0 r.1)

-- the same of higher ranks
pub above_all : (ranks : List ℕ) (low : ℕ) (numbers : List ℕ) → ((k : ℕ) → k < length numbers → low < get_or ranks (get_or numbers k 0) 0) → AreAbove ranks low numbers
above_all ranks low numbers each number h = let r = index_of_number numbers number h in subst (λ n. low < get_or ranks n 0) r.2 (each r.0 r.1)

nothing_at : (k : ℕ) → get_or {A = ℕ} [] k 0 ≡ 0
nothing_at zero = refl
nothing_at (suc k) = refl

-- no ranks rise
pub none_rise : (lists : List (List ℕ)) → IsRising lists []
none_rise lists last number h = let a = nothing_at last in let b = nothing_at number in omega (arith, a, b)

-- what has no list mentions nothing
nothing_mentioned : (lists : List (List ℕ)) (last : ℕ) → length lists ≤ last → mentioned lists last ≡ []
nothing_mentioned [] zero h = refl
nothing_mentioned [] (suc last) h = refl
nothing_mentioned (list ∷ lists) zero h = absurd (omega (arith, h))
nothing_mentioned (list ∷ lists) (suc last) h = nothing_mentioned lists last (omega (arith, h))

-- where the numbers with lists mention none of a lower rank, none does
pub rise_all : (lists : List (List ℕ)) (ranks : List ℕ) → ((last : ℕ) → last < length lists → AreFrom ranks (get_or ranks last 0) (mentioned lists last)) → IsRising lists ranks
rise_all lists ranks each last = by (cases_lt last (length lists))
  where
    by : (last < length lists) ⊎ (length lists ≤ last) → AreFrom ranks (get_or ranks last 0) (mentioned lists last)
    by (inl h) = each last h
    by (inr h) = λ number k. absurd (subst (λ ns. HasNumber number ns) (nothing_mentioned lists last h) k)

-- a struct that mentions higher ranks alone does not contain itself
pub rises_away : (structs : Structs) (table : List (Bytes × ℕ)) → AreNumbers table structs → (ranks : List ℕ) (x : Bytes) (start : ℕ) → value_of table x ≡ Some start → IsRising (lists_from table 0 structs) ranks → AreAbove ranks (get_or ranks start 0) (mentioned (lists_from table 0 structs) start) → contains_itself structs x ≡ false
rises_away structs table are ranks x start e rising above =
    leads_not structs table are x start (λ k. get_or ranks start 0 < get_or ranks k 0) e above
    (λ last number i h. (let more = rising last number h in omega (arith, i, more)))
    (λ i. omega (arith, i))
