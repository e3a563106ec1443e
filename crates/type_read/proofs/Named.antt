-- A name among names, as a test and as a fact.
use Rattle.std.proofs.Common.{◌≡◌, ◌<◌, ℕ, zero, suc, true, false, List, [], ◌∷◌, length, get_or, Contains, arith, inl, inr, ◌⊎◌}
use Rattle.std.specs.Prelude.{bytes_eq}
use Rattle.std.specs.List.{list_any}
use Rattle.std.proofs.lemmas.Bool.{or_cases, or_left, or_right, false_from_ne_true}
use Rattle.std.proofs.lemmas.Slice.Eq.{bytes_eq-Decides}
use Rattle.module_arena.specs.Module.{Bytes}

pub contains_any : (ns : List Bytes) (n : Bytes) → list_any (bytes_eq n) ns ≡ true → Contains ns n
contains_any [] n h = absurd (cc)
contains_any (m ∷ ns) n h = by_case (contains_any ns n) (or_cases (bytes_eq n m) (list_any (bytes_eq n) ns) h)
  where
    by_case : (list_any (bytes_eq n) ns ≡ true → Contains ns n) → (bytes_eq n m ≡ true) ⊎ (list_any (bytes_eq n) ns ≡ true) → Contains (m ∷ ns) n
    by_case again (inl same) = let is : n ≡ m = (bytes_eq-Decides n m).0 same in (0, omega arith, cc)
    by_case again (inr later) = let rest = again later in (suc rest.0, omega (arith, rest.1), rest.2)

pub any_contains : (ns : List Bytes) (n : Bytes) → Contains ns n → list_any (bytes_eq n) ns ≡ true
any_contains [] n h = absurd (omega (arith, h.1))
any_contains (m ∷ ns) n h = by_place (any_contains ns n) h.0 h.1 h.2
  where
    by_place : (Contains ns n → list_any (bytes_eq n) ns ≡ true) → (i : ℕ) → i < length (m ∷ ns) → get_or (m ∷ ns) i n ≡ n → list_any (bytes_eq n) (m ∷ ns) ≡ true
    by_place again zero lt is = or_left (bytes_eq n m) (list_any (bytes_eq n) ns) ((bytes_eq-Decides n m).1 (cc))
    by_place again (suc i) lt is = or_right (bytes_eq n m) (list_any (bytes_eq n) ns) (again (i, omega arith, is))

pub none_contains : (ns : List Bytes) (n : Bytes) → (Contains ns n → ⊥) → list_any (bytes_eq n) ns ≡ false
none_contains ns n never = false_from_ne_true (list_any (bytes_eq n) ns) (λ h. never (contains_any ns n h))
