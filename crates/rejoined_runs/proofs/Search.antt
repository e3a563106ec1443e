-- The first pair that passes a test, where the first elements of a list are replaced by one that
-- can take the place of them all.
use Rattle.std.proofs.Common.{◌≡◌, Bool, true, false, ◌&&◌, ◌||◌, List, [], ◌∷◌, ◌++◌, map, Option, Some, None, refl, sym, ap, ap₂, ◌∙◌, subst, filter, option_map}
use Rattle.std.specs.Prelude.{flat_map, if◌then◌else◌}
use Rattle.std.specs.Option.{option_or}
use Rattle.std.specs.List.{list_any, AllByRecursion}
use Rattle.std.proofs.lemmas.List.Elements.{filter-append}
use Rattle.std.proofs.lemmas.List.{map-append}
use Rattle.std.proofs.lemmas.Option.{same_Some}
use Rattle.linkage_rules.specs.Lists.{pairs, first}
use Rattle.linkage_rules.proofs.Entries.{all_follow}
use Rattle.linkage_rules.proofs.Gathered.{all_mapped}
use Rattle.link_rules.proofs.Searches.{all_front, all_back}
use Rattle.rejoined_runs.proofs.Lists.{filter_mapped, filter_empty, all_filtered}

-- ---- the first of several lists

pub first_joined : {A : Type 0} (xs ys : List A)
    → first (xs ++ ys) ≡ option_or (first xs) (first ys)
first_joined [] ys = refl
first_joined (x ∷ xs) ys = refl

pub first_mapped : {A B : Type 0} (f : A → B) (xs : List A)
    → first (map f xs) ≡ option_map f (first xs)
first_mapped f [] = refl
first_mapped f (x ∷ xs) = refl

pub or_mapped : {A B : Type 0} (f : A → B) (o later : Option A)
    → option_map f (option_or o later) ≡ option_or (option_map f o) (option_map f later)
or_mapped f None later = refl
or_mapped f (Some x) later = refl

-- the first of all that is found, where each search finds the same
pub first_found : {A B C D : Type 0} (move : A → B) (g : C → D) (new : B → List D) (old : A
    → List C) (xs : List A)
    → AllByRecursion (λ x. first (new (move x)) ≡ option_map g (first (old x))) xs
    → first (flat_map new (map move xs)) ≡ option_map g (first (flat_map old xs))
first_found move g new old [] all = refl
first_found move g new old (x ∷ xs) all =
    first_joined (new (move x)) (flat_map new (map move xs))
    ∙ ap₂ option_or all.0 (first_found move g new old xs all.1)
    ∙ sym (or_mapped g (first (old x)) (first (flat_map old xs)))
    ∙ ap (option_map g) (sym (first_joined (old x) (flat_map old xs)))

-- ---- pairs

module _ {A F : Type 0} (before after : A × A → Bool) (move : A → A) (found again : A × A
    → F) (weak strict : A → Bool) (report : A → F) where
  abbrev with_each : A → List A → List (A × A)
  with_each x ys = map {B = A × A} (λ y. (x, y)) ys

  abbrev move_pair : A × A → A × A
  move_pair pair = (move pair.0, move pair.1)

  -- a pair of later elements is found as it was
  pub record LaterPair (pair : A × A) : Type 0 where
    pub tested : after (move_pair pair) ≡ before pair
    pub same : again (move_pair pair) ≡ found pair

  pairs_moved : (ys : List A) → pairs (map move ys) ≡ map move_pair (pairs ys)
  pairs_moved [] = refl
  pairs_moved (y ∷ ys) =
      ap₂ (λ l m. l ++ m) (with_moved ys) (pairs_moved ys)
      ∙ sym (map-append move_pair (with_each y ys) (pairs ys))
    where
      with_moved : (zs : List A) → with_each (move y) (map move zs) ≡ map move_pair (with_each y zs)
      with_moved [] = refl
      with_moved (z ∷ zs) = ap (λ l. (move y, move z) ∷ l) (with_moved zs)

  option_alike : (o : Option (A × A))
      → ((pair : A × A) → o ≡ Some pair → again (move_pair pair) ≡ found pair)
      → option_map again (option_map move_pair o) ≡ option_map found o
  option_alike None f = refl
  option_alike (Some pair) f = ap Some (f pair refl)

  first_has : (P : A × A → Type 0) (xs : List (A × A)) → AllByRecursion P xs → (x : A × A)
      → first xs ≡ Some x → P x
  first_has P [] all x h = cc
  first_has P (y ∷ xs) all x h = subst P (same_Some y x h) all.0

  pub later_pairs : (ys : List A) → AllByRecursion LaterPair (pairs ys)
      → option_map again (first (filter after (pairs (map move ys))))
      ≡ option_map found (first (filter before (pairs ys)))
  later_pairs ys all =
      ap (λ l. option_map again (first l)) (ap (filter after) (pairs_moved ys)
      ∙ filter_mapped move_pair after before (pairs ys)
      (all_follow LaterPair _ (pairs ys) (λ pair p. p.tested) all))
      ∙ ap (option_map again) (first_mapped move_pair (filter before (pairs ys)))
      ∙ option_alike (first (filter before (pairs ys)))
      (first_has _ (filter before (pairs ys))
      (all_filtered _ before (pairs ys)
      (all_follow LaterPair _ (pairs ys) (λ pair p. p.same) all)))

  -- of these first elements, those that can be in a pair are found alike with each later one
  pub record FirstElement (ys : List A) (x : A) : Type 0 where
    pub tested : AllByRecursion (λ y. before (x, y) ≡ (weak x && strict y)) ys
    pub same : AllByRecursion (λ y. found (x, y) ≡ report y) ys

  first_of_map : (x : A) (ys : List A) → AllByRecursion (λ y. found (x, y) ≡ report y) ys
      → option_map found (first (with_each x ys)) ≡ option_map report (first ys)
  first_of_map x [] all = refl
  first_of_map x (y ∷ ys) all = ap Some all.0

  with_one : (x : A) (ys : List A) → FirstElement ys x
      → option_map found (first (filter before (with_each x ys)))
      ≡ (if weak x then option_map report (first (filter strict ys)) else None)
  with_one x ys is = go (weak x) refl
    where
      go : (b : Bool) → weak x ≡ b
          → option_map found (first (filter before (with_each x ys)))
          ≡ (if b then option_map report (first (filter strict ys)) else None)
      go true h =
          ap (λ l. option_map found (first l))
          (filter_mapped (λ y. (x, y)) before strict ys
          (all_follow _ _ ys (λ y t. t ∙ ap (λ c. c && strict y) h) is.tested))
          ∙ first_of_map x (filter strict ys) (all_filtered _ strict ys is.same)
      go false h =
          ap (λ l. option_map found (first l))
          (filter_empty before (with_each x ys)
          (all_mapped _ (λ y. (x, y)) ys
          (all_follow _ _ ys (λ y t. t ∙ ap (λ c. c && strict y) h) is.tested)))

  -- the first pair of one of some elements, among which there is none, and a later one
  pub first_pairs : (xs ys : List A) → AllByRecursion (FirstElement ys) xs
      → AllByRecursion (λ pair. before pair ≡ false) (pairs xs)
      → option_map found (first (filter before (pairs (xs ++ ys))))
      ≡ option_or (if list_any weak xs then option_map report (first (filter strict ys)) else None)
      (option_map found (first (filter before (pairs ys))))
  first_pairs [] ys all none = refl
  first_pairs (x ∷ xs) ys all none =
      ap (λ l. option_map found (first l))
      (filter-append before (with_each x (xs ++ ys)) (pairs (xs ++ ys))
      ∙ ap (λ l. l ++ filter before (pairs (xs ++ ys)))
      (ap (filter before) (map-append {B = A × A} (λ y. (x, y)) xs ys)
      ∙ filter-append before (with_each x xs) (with_each x ys)
      ∙ ap (λ l. l ++ filter before (with_each x ys))
      (filter_empty before (with_each x xs) (all_front _ (with_each x xs) (pairs xs) none))))
      ∙ ap (option_map found)
      (first_joined (filter before (with_each x ys)) (filter before (pairs (xs ++ ys))))
      ∙ or_mapped found (first (filter before (with_each x ys)))
      (first (filter before (pairs (xs ++ ys))))
      ∙ ap₂ option_or (with_one x ys all.0)
      (first_pairs xs ys all.1 (all_back _ (with_each x xs) (pairs xs) none))
      ∙ joined (weak x) (list_any weak xs) (option_map report (first (filter strict ys)))
    where
      joined : (b c : Bool) (o : Option F)
          → option_or (if b then o else None)
          (option_or (if c then o else None)
          (option_map found (first (filter before (pairs ys)))))
          ≡ option_or (if b || c then o else None)
          (option_map found (first (filter before (pairs ys))))
      joined true true None = refl
      joined true true (Some f) = refl
      joined true false None = refl
      joined true false (Some f) = refl
      joined false c o = refl
