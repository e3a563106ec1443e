-- Which parts stand while functions are defined.
use Rattle.std.proofs.Common.{◌≡◌, ◌⊎◌, inl, inr, ℕ, zero, suc, ◌+◌, ◌<◌, ◌≤◌, List, [], ◌∷◌, length, get_or, map, set, slice_get, Option, Some, None, refl, sym, ap, ◌∙◌, subst, arith}
use Rattle.std.proofs.lemmas.Bool.{cases_lt}
use Rattle.std.proofs.lemmas.Option.{same_Some, slice_get-get_or, slice_get_within}
use Rattle.linkage_rules.specs.declared.entry.EntryId.{EntryId}
use Rattle.module_arena.specs.Lists.{Lists}
use Rattle.module_linker.specs.Filling.Standing.{AreLast, AreStanding}
use Rattle.module_linker.specs.declared.filling.origins.SymbolOrigin.{SymbolOrigin}
use Rattle.module_linker.specs.declared.filling.standing.StandingParts.{StandingParts}

-- ---- a list of which one place is set

-- past its end none is
pub set_past : {X : Type 0} (xs : List X) (i : ℕ) (y : X) → length xs ≤ i → xs ≡ set xs i y
set_past [] i y le = refl
set_past (x ∷ xs) zero y le = absurd (omega (arith, le))
set_past (x ∷ xs) (suc i) y le = ap (λ l. x ∷ l) (set_past xs i y (omega (arith, le)))

-- a number that is read at a place stands there
pub number_read : (xs : List ℕ) (i d n : ℕ) → i < length xs → get_or xs i d ≡ n → slice_get xs i ≡ Some n
number_read xs i d n lt is = slice_get-get_or xs i d lt ∙ ap Some is

-- what is read is what was set, or stood at another place before
read_set : {X : Type 0} (xs : List X) (i k : ℕ) (y z : X) → slice_get (set xs i y) k ≡ Some z → (z ≡ y) ⊎ ((slice_get xs k ≡ Some z) × ¬ (k ≡ i))
read_set [] i k y z e = absurd (cc)
read_set (x ∷ xs) zero zero y z e = inl (sym (same_Some y z e))
read_set (x ∷ xs) zero (suc k) y z e = inr (e, λ same. absurd (omega (arith, same)))
read_set (x ∷ xs) (suc i) zero y z e = inr (e, λ same. absurd (omega (arith, same)))
read_set (x ∷ xs) (suc i) (suc k) y z e = by (read_set xs i k y z e)
  where
    by : (z ≡ y) ⊎ ((slice_get xs k ≡ Some z) × ¬ (k ≡ i)) → (z ≡ y) ⊎ ((slice_get xs k ≡ Some z) × ¬ (suc k ≡ suc i))
    by (inl is) = inl is
    by (inr old) = inr (old.0, λ same. old.1 (omega (arith, same)))

-- all others stay
others_stay : {X : Type 0} (xs : List X) (i k : ℕ) (y : X) → (slice_get (set xs i y) k ≡ slice_get xs k) ⊎ (k ≡ i)
others_stay [] i k y = inl refl
others_stay (x ∷ xs) zero zero y = inr refl
others_stay (x ∷ xs) zero (suc k) y = inl refl
others_stay (x ∷ xs) (suc i) zero y = inl refl
others_stay (x ∷ xs) (suc i) (suc k) y = by (others_stay xs i k y)
  where
    by : (slice_get (set xs i y) k ≡ slice_get xs k) ⊎ (k ≡ i) → (slice_get (set xs i y) k ≡ slice_get xs k) ⊎ (suc k ≡ suc i)
    by (inl same) = inl same
    by (inr same) = inr (ap suc same)

-- ---- the last symbol that is defined in a part

no_home : (home : EntryId) → Some home ≡ None → ⊥
no_home home e = cc

module _ (origins : List SymbolOrigin) (last : List ℕ) (n : ℕ) (x : SymbolOrigin) (at : slice_get origins n ≡ Some x) (so_far : AreLast n origins last) where
  there_too : (m : ℕ) (y : SymbolOrigin) → m ≡ n → slice_get origins m ≡ Some y → y ≡ x
  there_too m y e there = same_Some y x (sym there ∙ ap (slice_get origins) e ∙ at)

  -- the symbol with that number is defined in no part
  pub none_noted : x.home ≡ None → AreLast (n + 1) origins last
  none_noted none = λ m y home l lt there defined read. by m y home l lt there defined read (cases_lt m n)
    where
      by : (m : ℕ) (y : SymbolOrigin) (home : EntryId) (l : ℕ) → m < n + 1 → slice_get origins m ≡ Some y → y.home ≡ Some home → slice_get last home.part ≡ Some l → (m < n) ⊎ (n ≤ m) → m ≤ l
      by m y home l lt there defined read (inl before) = so_far m y home l before there defined read
      by m y home l lt there defined read (inr le) =
          let here : m ≡ n = omega (arith, lt, le) in
          let same = there_too m y here there in
          absurd (no_home home (sym defined ∙ ap (λ (z : SymbolOrigin). z.home) same ∙ none))

  -- it is defined in that part
  pub last_noted : (one : EntryId) → x.home ≡ Some one → AreLast (n + 1) origins (set last one.part n)
  last_noted one is = λ m y home l lt there defined read. by m y home l lt there defined (read_set last one.part home.part n l read)
    where
      before : (m : ℕ) (y : SymbolOrigin) (home : EntryId) (l : ℕ) → m < n + 1 → slice_get origins m ≡ Some y → y.home ≡ Some home → slice_get last home.part ≡ Some l → ¬ (home.part ≡ one.part) → (m < n) ⊎ (n ≤ m) → m ≤ l
      before m y home l lt there defined read other (inl less) = so_far m y home l less there defined read
      before m y home l lt there defined read other (inr le) =
          let here : m ≡ n = omega (arith, lt, le) in
          let same = there_too m y here there in
          let home_same : home ≡ one = same_Some home one (sym defined ∙ ap (λ (z : SymbolOrigin). z.home) same ∙ is) in
          absurd (other (ap (λ (h : EntryId). h.part) home_same))

      by : (m : ℕ) (y : SymbolOrigin) (home : EntryId) (l : ℕ) → m < n + 1 → slice_get origins m ≡ Some y → y.home ≡ Some home → (l ≡ n) ⊎ ((slice_get last home.part ≡ Some l) × ¬ (home.part ≡ one.part)) → m ≤ l
      by m y home l lt there defined (inl same) = omega (arith, lt, same)
      by m y home l lt there defined (inr old) = before m y home l lt there defined old.0 old.1 (cases_lt m n)

-- ---- the parts that stand

module _ (n : ℕ) (parts : List Lists) (origins : List SymbolOrigin) (s : StandingParts) (h : AreStanding n parts origins s) where
  -- what stands for some symbols stands for those behind them
  pub standing_on : (k : ℕ) → n ≤ k → AreStanding k parts origins s
  standing_on k le = record { parts_there = λ m x home behind. h.parts_there m x home (omega (arith, le, behind)); last = h.last }

  -- the part of a symbol stands
  pub part_stands : (x : SymbolOrigin) (home : EntryId) (a : Lists) → slice_get origins n ≡ Some x → x.home ≡ Some home → slice_get (map Some parts) home.part ≡ Some (Some a) → slice_get s.parts.items home.part ≡ Some (Some a)
  part_stands x home a at is there = h.parts_there n x home (omega arith) at is ∙ there

  -- where a part is let go whose last symbol that was, the others stay
  pub part_gone : (t : StandingParts) (part : ℕ) → slice_get s.last.items part ≡ Some n → t.parts.items ≡ set s.parts.items part None → t.last.items ≡ s.last.items → AreStanding (n + 1) parts origins t
  part_gone t part until changed same = record {
    parts_there = λ m x home behind at is. by m x home behind at is (others_stay s.parts.items part home.part None);
    last = subst (AreLast (length origins) origins) (sym same) h.last;
  }
    where
      by : (m : ℕ) (x : SymbolOrigin) (home : EntryId) → n + 1 ≤ m → slice_get origins m ≡ Some x → x.home ≡ Some home → (slice_get (set s.parts.items part None) home.part ≡ slice_get s.parts.items home.part) ⊎ (home.part ≡ part)
          → slice_get t.parts.items home.part ≡ slice_get (map Some parts) home.part
      by m x home behind at is (inl stays) = ap (λ l. slice_get l home.part) changed ∙ stays ∙ h.parts_there m x home (omega (arith, behind)) at is
      by m x home behind at is (inr here) =
          let upto = h.last m x home n (slice_get_within origins m x at) at is (ap (slice_get s.last.items) here ∙ until) in
          absurd (omega (arith, behind, upto))

-- the part that stands is the one that is there
pub same_part : (standing : List (Option Lists)) (parts : List Lists) (k : ℕ) (a b : Lists) → slice_get standing k ≡ Some (Some a) → slice_get standing k ≡ Some (Some b) → slice_get parts k ≡ Some a → slice_get parts k ≡ Some b
same_part standing parts k a b one other at = at ∙ same_Some (Some a) (Some b) (sym one ∙ other)
