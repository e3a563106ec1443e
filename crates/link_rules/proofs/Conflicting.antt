-- The conflicts that are told are the conflicts that there are.
use Rattle.std.proofs.Common.{◌≡◌, ℕ, zero, suc, ◌<◌, ◌≤◌, Bool, true, false, ◌⊎◌, inl, inr, List, [], ◌∷◌, ◌++◌, map, Some, None, refl, sym, ap, ◌∙◌, subst, filter, bytes_eq, arith, le_refl}
use Rattle.std.specs.Prelude.{slice_get, slice_index_or, length, flat_map, Contains, if◌then◌else◌}
use Rattle.std.specs.List.{list_any, AllByRecursion}
use Rattle.std.proofs.lemmas.Bool.{or_left, or_right, or_parts, cond-true, cond-false, both_ways}
use Rattle.std.proofs.lemmas.Option.{same_Some}
use Rattle.std.proofs.lemmas.List.Elements.{filter-append}
use Rattle.module_arena.specs.Module.{Bytes, Module}
use Rattle.linkage_rules.specs.Globals.{Global, name_of, linkage_of, globals}
use Rattle.linkage_rules.specs.Linkages.{is_local}
use Rattle.linkage_rules.specs.Lists.{has, pairs}
use Rattle.linkage_rules.specs.Entries.{Entry, entries_from, entries, same_symbol, symbol_of, mentions}
use Rattle.linkage_rules.specs.declared.symbol.Symbol.{Symbol}
use Rattle.linkage_rules.specs.declared.symbol.Symbol.TheVariants.{Shared, Local}
use Rattle.linkage_rules.specs.Symbols.{symbols}
use Rattle.linkage_rules.specs.declared.conflict.ConflictKind.{ConflictKind}
use Rattle.linkage_rules.specs.declared.conflict.ConflictKind.TheVariants.{TwoStrong, FunctionAndVariable, AppendingAndPlain, ElementShape, Constness}
use Rattle.linkage_rules.specs.Conflicts.{clash, Conflict, FoundConflict, found_conflict, conflicts_of_kind, conflict_kinds, conflicts_of, conflicts, first_conflict}
use Rattle.link_rules.proofs.Apart.{Apart, at_has}
use Rattle.linkage_rules.specs.SymbolLaws.{name_self, name_exact, symbol_self, symbol_exact}
use Rattle.link_rules.proofs.Symbols.{all_filter}
use Rattle.linkage_rules.proofs.Entries.{all_follow, all_passing}
use Rattle.linkage_rules.proofs.Gathered.{all_joined, all_mapped}
use Rattle.link_rules.proofs.Agreed.{AreDistinct, is_symbol, pair_at, pairs_behind, nothing_from, nothing_mapped, none_passes, first_none}

-- each stands in an earlier part than those behind it
abbrev pub Ascending : List Entry → Type 0
Ascending [] = Unit {0}
Ascending (e ∷ es) = AllByRecursion (λ d. e.part < d.part) es × Ascending es

abbrev entry : ℕ → Global → Entry
entry i g = record { part = i; global = g }

abbrev of_name : Bytes → Entry → Bool
of_name n e = same_symbol (Shared n) (symbol_of e)

named_so : (b : Bool) (i : ℕ) (n m : Bytes) → same_symbol (Shared n) (if b then Local i m else Shared m) ≡ true → n ≡ m
named_so true i n m h = cc
named_so false i n m h = name_exact n m h

none_named : (i : ℕ) (n : Bytes) (gs : List Global) → list_any (bytes_eq n) (map name_of gs) ≡ false → filter (of_name n) (map (entry i) gs) ≡ []
none_named i n [] h = refl
none_named i n (g ∷ gs) h =
    let halves = or_parts (bytes_eq n (name_of g)) _ h in
    let rest = none_named i n gs halves.1 in
    go (of_name n (entry i g)) refl rest halves.0
  where
    go : (b : Bool) → of_name n (entry i g) ≡ b → filter (of_name n) (map (entry i) gs) ≡ [] → bytes_eq n (name_of g) ≡ false → filter (of_name n) (map (entry i) (g ∷ gs)) ≡ []
    go true e rest absent = absurd (both_ways _ absent (subst (λ m. bytes_eq n m ≡ true) (named_so (is_local (linkage_of g)) i n (name_of g) e) (name_self n)))
    go false e rest absent = cond-false (of_name n (entry i g)) _ _ e ∙ rest

-- a part has at most one entry of the name
front_ascends : (i : ℕ) (n : Bytes) (gs : List Global) (rest : List Entry) → Apart bytes_eq (map name_of gs) → AllByRecursion (λ d. i < d.part) rest → Ascending rest → Ascending (filter (of_name n) (map (entry i) gs) ++ rest)
front_ascends i n [] rest a later up = up
front_ascends i n (g ∷ gs) rest a later up = go (of_name n (entry i g)) refl (front_ascends i n gs rest a.1 later up)
  where
    go : (b : Bool) → of_name n (entry i g) ≡ b → Ascending (filter (of_name n) (map (entry i) gs) ++ rest) → Ascending (filter (of_name n) (map (entry i) (g ∷ gs)) ++ rest)
    go false e more = subst (λ l. Ascending (l ++ rest)) (sym (cond-false (of_name n (entry i g)) _ _ e)) more
    go true e more =
        let same = named_so (is_local (linkage_of g)) i n (name_of g) e in
        let none = none_named i n gs (subst (λ m. list_any (bytes_eq m) (map name_of gs) ≡ false) (sym same) a.0) in
        subst (λ l. Ascending (l ++ rest)) (sym (cond-true (of_name n (entry i g)) _ _ e ∙ ap (λ l. entry i g ∷ l) none)) (later, up)

later_than : (i j : ℕ) (ms : List Module) → i < j → AllByRecursion (λ (d : Entry). i < d.part) (entries_from j ms)
later_than i j [] below = tt
later_than i j (m ∷ ms) below = all_joined (λ (d : Entry). i < d.part) (map (entry j) (globals m)) (entries_from (suc j) ms) (here (globals m)) (later_than i (suc j) ms (omega (arith, below)))
  where
    here : (gs : List Global) → AllByRecursion (λ (d : Entry). i < d.part) (map (entry j) gs)
    here [] = tt
    here (g ∷ gs) = (below, here gs)

ascends_from : (i : ℕ) (n : Bytes) (ms : List Module) → AllByRecursion AreDistinct ms → Ascending (filter (of_name n) (entries_from i ms))
ascends_from i n [] a = tt
ascends_from i n (m ∷ ms) a =
    subst Ascending (sym (filter-append (of_name n) (map (entry i) (globals m)) (entries_from (suc i) ms)))
    (front_ascends i n (globals m) (filter (of_name n) (entries_from (suc i) ms)) a.0 (all_filter (λ (d : Entry). i < d.part) (of_name n) (entries_from (suc i) ms) (later_than i (suc i) ms (le_refl (suc i)))) (ascends_from (suc i) n ms a.1))

-- the entries of a name stand in the order of their parts, one a part
pub mentions_ascend : (parts : List Module) (n : Bytes) → AllByRecursion AreDistinct parts → Ascending (mentions parts n)
mentions_ascend parts n a = ascends_from 0 n parts a

-- what holds of each element and each later one holds of all pairs
pub pairs_all : (P : Entry × Entry → Type 0) (es : List Entry) → ((a b : ℕ) (d e : Entry) → a < b → slice_get es a ≡ Some d → slice_get es b ≡ Some e → P (d, e)) → AllByRecursion P (pairs es)
pairs_all P [] f = tt
pairs_all P (x ∷ es) f = all_joined P (map {B = Entry × Entry} (λ y. (x, y)) es) (pairs es) (firsts_of es (λ k y h. f 0 (suc k) x y (omega arith) refl h)) (pairs_all P es (λ a b d e below h i. f (suc a) (suc b) d e (omega (arith, below)) h i))
  where
    firsts_of : (ys : List Entry) → ((k : ℕ) (y : Entry) → slice_get ys k ≡ Some y → P (x, y)) → AllByRecursion P (map {B = Entry × Entry} (λ y. (x, y)) ys)
    firsts_of [] g = tt
    firsts_of (y ∷ ys) g = (g 0 y refl, firsts_of ys (λ k z h. g (suc k) z h))

ascending_at : (es : List Entry) → Ascending es → (a b : ℕ) (d e : Entry) → a < b → slice_get es a ≡ Some d → slice_get es b ≡ Some e → d.part < e.part
ascending_at [] u a b d e below h i = cc
ascending_at (x ∷ es) u zero zero d e below h i = omega (arith, below)
ascending_at (x ∷ es) u (suc a) zero d e below h i = omega (arith, below)
ascending_at (x ∷ es) u zero (suc b) d e below h i = subst (λ z. z.part < e.part) (same_Some x d h) (at es b u.0 i)
  where
    at : (ys : List Entry) (k : ℕ) → AllByRecursion (λ (z : Entry). x.part < z.part) ys → slice_get ys k ≡ Some e → x.part < e.part
    at [] k a h = cc
    at (y ∷ ys) zero a h = subst (λ z. x.part < z.part) (same_Some y e h) a.0
    at (y ∷ ys) (suc k) a h = at ys k a.1 h
ascending_at (x ∷ es) u (suc a) (suc b) d e below h i = ascending_at es u.1 a b d e (omega (arith, below)) h i

-- EACH THAT IS TOLD IS ONE

pub contains_at : (es : List Entry) (k : ℕ) (e : Entry) → slice_get es k ≡ Some e → Contains es e
contains_at [] k e h = cc
contains_at (x ∷ es) zero e h = (0, omega arith, same_Some x e h)
contains_at (x ∷ es) (suc k) e h = let c = contains_at es k e h in (suc c.0, omega (arith, c.1), c.2)

all_flat : {A B : Type 0} (P : B → Type 0) (f : A → List B) (xs : List A) → ((x : A) → AllByRecursion P (f x)) → AllByRecursion P (flat_map f xs)
all_flat P f [] h = tt
all_flat P f (x ∷ xs) h = all_joined P (f x) (flat_map f xs) (h x) (all_flat P f xs h)

abbrev IsTold : List Module → FoundConflict → Type 0
IsTold parts c = Conflict parts c.kind c.name c.one c.other

module _ (parts : List Module) (distinct : AllByRecursion AreDistinct parts) where
  of_kind : (n : Bytes) (kind : ConflictKind) → AllByRecursion (IsTold parts) (conflicts_of_kind parts n kind)
  of_kind n kind =
      all_mapped (IsTold parts) (found_conflict kind n) (filter (λ pair. clash parts kind pair.0 pair.1) (pairs (mentions parts n)))
      (all_follow _ _ _ (λ pair h. record { one = pair.0; other = pair.1; one_is = h.0.0; other_is = h.0.1; one_part = refl; other_part = refl; in_order = h.0.2; clashes = h.1 })
      (all_passing (λ pair. Contains (mentions parts n) pair.0 × Contains (mentions parts n) pair.1 × (pair.0.part < pair.1.part)) (λ pair. clash parts kind pair.0 pair.1) (pairs (mentions parts n))
      (pairs_all _ (mentions parts n) (λ a b d e below h i. (contains_at (mentions parts n) a d h, contains_at (mentions parts n) b e i, ascending_at (mentions parts n) (mentions_ascend parts n distinct) a b d e below h i)))))

  of_symbol : (s : Symbol) → AllByRecursion (IsTold parts) (conflicts_of parts s)
  of_symbol (Shared n) = all_flat (IsTold parts) (conflicts_of_kind parts n) conflict_kinds (λ kind. of_kind n kind)
  of_symbol (Local i n) = tt

  pub told_are : AllByRecursion (IsTold parts) (conflicts parts)
  told_are = all_flat (IsTold parts) (conflicts_of parts) (symbols parts) of_symbol

  -- EACH THAT IS ONE IS TOLD

  place_of_kind : (kind : ConflictKind) → (k : ℕ) × (slice_get conflict_kinds k ≡ Some kind)
  place_of_kind TwoStrong = (0, refl)
  place_of_kind FunctionAndVariable = (1, refl)
  place_of_kind AppendingAndPlain = (2, refl)
  place_of_kind ElementShape = (3, refl)
  place_of_kind Constness = (4, refl)

  at_from : (es : List Entry) (k : ℕ) (e : Entry) → k < length es → slice_index_or es k e ≡ e → slice_get es k ≡ Some e
  at_from [] k e h i = absurd (omega (arith, h))
  at_from (x ∷ es) zero e h i = ap Some i
  at_from (x ∷ es) (suc k) e h i = at_from es k e (omega (arith, h)) i

  pair_from : (P : Entry × Entry → Type 0) (es : List Entry) → AllByRecursion P (pairs es) → (a b : ℕ) (d e : Entry) → a < b → slice_get es a ≡ Some d → slice_get es b ≡ Some e → P (d, e)
  pair_from P [] p a b d e below h i = cc
  pair_from P (x ∷ es) p a zero d e below h i = absurd (omega (arith, below))
  pair_from P (x ∷ es) p zero (suc b) d e below h i = subst (λ z. P (z, e)) (same_Some x d h) (pair_at P es es x b e p i)
  pair_from P (x ∷ es) p (suc a) (suc b) d e below h i = pair_from P es (pairs_behind P es es x p) a b d e (omega (arith, below)) h i

  some_named : (es : List Entry) (n : Bytes) (k : ℕ) (e : Entry) → slice_get (filter (of_name n) es) k ≡ Some e → has same_symbol (map symbol_of es) (Shared n) ≡ true
  some_named [] n k e h = cc
  some_named (x ∷ es) n k e h = go (of_name n x) refl h (some_named es n)
    where
      go : (b : Bool) → of_name n x ≡ b → slice_get (filter (of_name n) (x ∷ es)) k ≡ Some e → ((j : ℕ) (d : Entry) → slice_get (filter (of_name n) es) j ≡ Some d → has same_symbol (map symbol_of es) (Shared n) ≡ true) → has same_symbol (map symbol_of (x ∷ es)) (Shared n) ≡ true
      go true t h more = or_left _ _ t
      go false t h more = or_right (of_name n x) _ (more k e (ap (λ l. slice_get l k) (sym (cond-false (of_name n x) _ _ t)) ∙ h))

  -- where none is told there is none
  pub none_unless_told : first_conflict parts ≡ None → (kind : ConflictKind) (n : Bytes) (i j : ℕ) → Conflict parts kind n i j → ⊥
  none_unless_told none kind n i j c =
      let first_at = at_from (mentions parts n) c.one_is.0 c.one c.one_is.1 c.one_is.2 in
      let other_at = at_from (mentions parts n) c.other_is.0 c.other c.other_is.1 c.other_is.2 in
      let symbol = at_has same_symbol symbol_self symbol_exact (symbols parts) (Shared n) (is_symbol parts (Shared n) (some_named (entries parts) n c.one_is.0 c.one first_at)) in
      let of_it = nothing_from (conflicts_of parts) (symbols parts) symbol.0 (Shared n) (first_none (conflicts parts) none) symbol.1 in
      let place = place_of_kind kind in
      let nothing = nothing_mapped (found_conflict kind n) _ (nothing_from (conflicts_of_kind parts n) conflict_kinds place.0 kind of_it place.1) in
      let passes = none_passes (λ pair. clash parts kind pair.0 pair.1) (pairs (mentions parts n)) nothing in
      let below : c.one.part < c.other.part = subst (λ x. x < c.other.part) (sym c.one_part) (subst (λ y. i < y) (sym c.other_part) c.in_order) in
      go (compare c.one_is.0 c.other_is.0) first_at other_at passes below
    where
      compare : (a b : ℕ) → (a < b) ⊎ (b ≤ a)
      compare zero zero = inr (le_refl 0)
      compare zero (suc b) = inl (omega arith)
      compare (suc a) zero = inr (omega arith)
      compare (suc a) (suc b) = step (compare a b)
        where
          step : (a < b) ⊎ (b ≤ a) → (suc a < suc b) ⊎ (suc b ≤ suc a)
          step (inl h) = inl (omega (arith, h))
          step (inr h) = inr (omega (arith, h))

      up : Ascending (mentions parts n)
      up = mentions_ascend parts n distinct

      go : (c.one_is.0 < c.other_is.0) ⊎ (c.other_is.0 ≤ c.one_is.0) → slice_get (mentions parts n) c.one_is.0 ≡ Some c.one → slice_get (mentions parts n) c.other_is.0 ≡ Some c.other → AllByRecursion (λ pair. clash parts kind pair.0 pair.1 ≡ false) (pairs (mentions parts n)) → c.one.part < c.other.part → ⊥
      go (inl h) a b p below = both_ways _ (pair_from (λ pair. clash parts kind pair.0 pair.1 ≡ false) (mentions parts n) p c.one_is.0 c.other_is.0 c.one c.other h a b) c.clashes
      go (inr h) a b p below = later (compare c.other_is.0 c.one_is.0)
        where
          later : (c.other_is.0 < c.one_is.0) ⊎ (c.one_is.0 ≤ c.other_is.0) → ⊥
          later (inl g) = let back = ascending_at (mentions parts n) up c.other_is.0 c.one_is.0 c.other c.one g b a in omega (arith, below, back)
          later (inr g) =
              let same : c.one_is.0 ≡ c.other_is.0 = omega (arith, g, h) in
              let one = same_Some c.one c.other (sym a ∙ ap (slice_get (mentions parts n)) same ∙ b) in
              let parts_same : c.one.part ≡ c.other.part = ap (λ (e : Entry). e.part) one in
              omega (arith, below, parts_same)
