-- One step along a list.
use Rattle.std.proofs.Common.{◌≡◌, ℕ, zero, suc, ◌+◌, Bool, true, false, cond, ◌&&◌, List, [], ◌∷◌, ◌++◌, map, length, take, drop, get_or, Option, Some, refl, sym, ap, ap₂, ◌∙◌, subst, filter, arith, All, append_assoc}
use Rattle.std.specs.Prelude.{slice_get}
use Rattle.std.specs.List.{AllByRecursion}
use Rattle.std.specs.Option.{option_map}
use Rattle.std.proofs.lemmas.Bool.{cond-true, cond-false}
use Rattle.std.proofs.lemmas.List.Elements.{All-from_recursion, recursion_from_All}
use Rattle.std.proofs.lemmas.Option.{same_Some}
use Rattle.module_arena.specs.Module.{Module}
use Rattle.linkage_rules.specs.declared.entry.EntryId.{EntryId}
use Rattle.linkage_rules.specs.declared.symbol.SymbolKind.{SymbolKind}
use Rattle.linkage_rules.specs.Conflicts.{ConflictKind}
use Rattle.linkage_rules.specs.Entries.{Entry, Symbol, entries_of}
use Rattle.linkage_rules.specs.Grouped.{Rows, with_filed, IsFiled, better_of, home_among, takes_part, differ, clash_with, first_clash}
use Rattle.linkage_rules.specs.Ids.{seen}
use Rattle.linkage_rules.specs.Winner.{best, better, is_definition, home}
use Rattle.linkage_rules.proofs.Filed.{filed_more, map_joined}

taken : {A : Type 0} (xs : List A) (k : ℕ) (x : A) → slice_get xs k ≡ Some x → take (suc k) xs ≡ take k xs ++ x ∷ []
taken [] k x h = cc
taken (y ∷ xs) zero x h = ap (λ z. z ∷ []) (same_Some y x h)
taken (y ∷ xs) (suc k) x h = ap (λ l. y ∷ l) (taken xs k x h)

dropped : {A : Type 0} (xs : List A) (k : ℕ) (x : A) → slice_get xs k ≡ Some x → drop k xs ≡ x ∷ drop (suc k) xs
dropped [] k x h = cc
dropped (y ∷ xs) zero x h = ap (λ z. z ∷ xs) (same_Some y x h)
dropped (y ∷ xs) (suc k) x h = dropped xs k x h

pub take_more : {A : Type 0} (xs : List A) (k : ℕ) (x : A) → slice_get xs k ≡ Some x → take (k + 1) xs ≡ take k xs ++ x ∷ []
take_more xs k x h = let e : k + 1 ≡ suc k = omega arith in ap (λ n. take n xs) e ∙ taken xs k x h

pub drop_more : {A : Type 0} (xs : List A) (k : ℕ) (x : A) → slice_get xs k ≡ Some x → drop k xs ≡ x ∷ drop (k + 1) xs
drop_more xs k x h = let e : suc k ≡ k + 1 = omega arith in dropped xs k x h ∙ ap (λ n. x ∷ drop n xs) e

pub take_whole : {A : Type 0} (xs : List A) → take (length xs) xs ≡ xs
take_whole [] = refl
take_whole (x ∷ xs) = ap (λ l. x ∷ l) (take_whole xs)

pub drop_whole : {A : Type 0} (xs : List A) → drop (length xs) xs ≡ []
drop_whole [] = refl
drop_whole (x ∷ xs) = drop_whole xs

-- ALL

pub all_get : {A : Type 0} (P : A → Type 0) (xs : List A) (k : ℕ) (x : A) → All P xs → slice_get xs k ≡ Some x → P x
all_get P xs k x h e = go xs k (recursion_from_All P xs h) e
  where
    go : (ys : List _) (j : ℕ) → AllByRecursion P ys → slice_get ys j ≡ Some x → P x
    go [] j a e = cc
    go (y ∷ ys) zero a e = subst P (same_Some y x e) a.0
    go (y ∷ ys) (suc j) a e = go ys j a.1 e

pub all_kept : {A : Type 0} (P : A → Type 0) (p : A → Bool) (xs : List A) → All P xs → All P (filter p xs)
all_kept P p xs h = All-from_recursion P (filter p xs) (go xs (recursion_from_All P xs h))
  where
    one : (b : Bool) (y : _) (ys : List _) → P y → AllByRecursion P ys → AllByRecursion P (cond b (y ∷ ys) ys)
    one true y ys p a = (p, a)
    one false y ys p a = a

    go : (ys : List _) → AllByRecursion P ys → AllByRecursion P (filter p ys)
    go [] a = tt
    go (y ∷ ys) a = one (p y) y (filter p ys) a.0 (go ys a.1)

-- FILTERS AND SEARCHES

pub filter_more : {A : Type 0} (p : A → Bool) (xs : List A) (x : A) → filter p (xs ++ x ∷ []) ≡ filter p xs ++ cond (p x) (x ∷ []) []
filter_more p [] x = refl
filter_more p (y ∷ xs) x = go (p y) (filter_more p xs x)
  where
    go : (b : Bool) → filter p (xs ++ x ∷ []) ≡ filter p xs ++ cond (p x) (x ∷ []) [] → cond b (y ∷ filter p (xs ++ x ∷ [])) (filter p (xs ++ x ∷ [])) ≡ cond b (y ∷ filter p xs) (filter p xs) ++ cond (p x) (x ∷ []) []
    go true e = ap (λ l. y ∷ l) e
    go false e = e

module _ (parts : List Module) where
  -- an entry before others
  home_step : (x : EntryId) (xs : List EntryId) → home_among parts (x ∷ xs) ≡ better_of parts (seen parts x) (home_among parts xs)
  home_step x xs = go (is_definition (seen parts x))
    where
      go : (b : Bool) → best parts (cond b (seen parts x ∷ filter is_definition (map (seen parts) xs)) (filter is_definition (map (seen parts) xs))) ≡ cond b (better parts (seen parts x) (home_among parts xs)) (home_among parts xs)
      go true = refl
      go false = refl

  -- one entry further to the front
  pub home_back : (ids : List EntryId) (k j : ℕ) (x : EntryId) (before after : Option Entry) → j + 1 ≡ k → slice_get ids j ≡ Some x → after ≡ better_of parts (seen parts x) before → before ≡ home_among parts (drop k ids) → after ≡ home_among parts (drop j ids)
  home_back ids k j x before after next at is was =
      is ∙ ap (better_of parts (seen parts x)) (was ∙ ap (λ n. home_among parts (drop n ids)) (sym next)) ∙ sym (home_step x (drop (j + 1) ids)) ∙ ap (home_among parts) (sym (drop_more ids j x at))

  pub clash_found : (kind : ConflictKind) (a : Entry) (x : EntryId) (xs : List EntryId) → (takes_part kind (seen parts x) && differ parts kind a (seen parts x)) ≡ true → clash_with parts kind a (map (seen parts) (x ∷ xs)) ≡ Some (seen parts x)
  clash_found kind a x xs h = cond-true (takes_part kind (seen parts x) && differ parts kind a (seen parts x)) _ _ h

  pub clash_passed : (kind : ConflictKind) (a : Entry) (x : EntryId) (xs : List EntryId) → (takes_part kind (seen parts x) && differ parts kind a (seen parts x)) ≡ false → clash_with parts kind a (map (seen parts) (x ∷ xs)) ≡ clash_with parts kind a (map (seen parts) xs)
  clash_passed kind a x xs h = cond-false (takes_part kind (seen parts x) && differ parts kind a (seen parts x)) _ _ h

  pub first_taken : (kind : ConflictKind) (x : EntryId) (xs : List EntryId) → takes_part kind (seen parts x) ≡ true → first_clash parts kind (map (seen parts) (x ∷ xs)) ≡ option_map {U = Entry × Entry} (λ b. (seen parts x, b)) (clash_with parts kind (seen parts x) (map (seen parts) xs))
  first_taken kind x xs h = cond-true (takes_part kind (seen parts x)) _ _ h

  pub first_passed : (kind : ConflictKind) (x : EntryId) (xs : List EntryId) → takes_part kind (seen parts x) ≡ false → first_clash parts kind (map (seen parts) (x ∷ xs)) ≡ first_clash parts kind (map (seen parts) xs)
  first_passed kind x xs h = cond-false (takes_part kind (seen parts x)) _ _ h

-- one id more is filed
pub filed_step : (key : EntryId → Symbol) (ids : List EntryId) (k : ℕ) (x : EntryId) (s : Symbol) (rows after : Rows) → slice_get ids k ≡ Some x → IsFiled key (take k ids) rows → after ≡ with_filed rows s x → s ≡ key x → IsFiled key (take (k + 1) ids) after
filed_step key ids k x s rows after at h filed is =
    subst (λ l. IsFiled key l after) (sym (take_more ids k x at))
    (subst (IsFiled key (take k ids ++ x ∷ [])) (sym (filed ∙ ap (λ z. with_filed rows z x) is)) (filed_more key (take k ids) rows x h))

-- one key more
pub filter_step : {A : Type 0} (p : A → Bool) (xs : List A) (k : ℕ) (x : A) → slice_get xs k ≡ Some x → filter p (take (k + 1) xs) ≡ filter p (take k xs) ++ cond (p x) (x ∷ []) []
filter_step p xs k x h = ap (filter p) (take_more xs k x h) ∙ filter_more p (take k xs) x

pub map_step : {A B : Type 0} (f : A → B) (xs : List A) (k : ℕ) (x : A) → slice_get xs k ≡ Some x → map f (take (k + 1) xs) ≡ map f (take k xs) ++ f x ∷ []
map_step f xs k x h = ap (map f) (take_more xs k x h) ∙ map_joined f (take k xs) (x ∷ [])

-- the home of one symbol more
pub homes_step : (parts : List Module) (keys : List Symbol) (k : ℕ) (s : Symbol) (homes : List (Option EntryId)) (found : Option EntryId) (ids : List EntryId) → slice_get keys k ≡ Some s
    → map (option_map (seen parts)) homes ≡ map (home parts) (take k keys) → option_map (seen parts) found ≡ home_among parts ids → map (seen parts) ids ≡ entries_of parts s
    → map (option_map (seen parts)) (homes ++ found ∷ []) ≡ map (home parts) (take (k + 1) keys)
homes_step parts keys k s homes found ids at so_far is group =
    map_joined (option_map (seen parts)) homes (found ∷ [])
    ∙ ap₂ (λ x y. x ++ y ∷ []) so_far (is ∙ ap (λ es. best parts (filter is_definition es)) group)
    ∙ sym (map_step (home parts) keys k s at)

module _ (parts : List Module) (ids : List EntryId) (k : ℕ) (x : EntryId) (at : slice_get ids k ≡ Some x) where
  pub clash_here : (kind : ConflictKind) (a : Entry) → (takes_part kind (seen parts x) && differ parts kind a (seen parts x)) ≡ true → clash_with parts kind a (map (seen parts) (drop k ids)) ≡ Some (seen parts x)
  clash_here kind a h = ap (λ l. clash_with parts kind a (map (seen parts) l)) (drop_more ids k x at) ∙ clash_found parts kind a x (drop (k + 1) ids) h

  pub clash_next : (kind : ConflictKind) (a : Entry) → (takes_part kind (seen parts x) && differ parts kind a (seen parts x)) ≡ false → clash_with parts kind a (map (seen parts) (drop k ids)) ≡ clash_with parts kind a (map (seen parts) (drop (k + 1) ids))
  clash_next kind a h = ap (λ l. clash_with parts kind a (map (seen parts) l)) (drop_more ids k x at) ∙ clash_passed parts kind a x (drop (k + 1) ids) h

  pub first_here : (kind : ConflictKind) → takes_part kind (seen parts x) ≡ true → first_clash parts kind (map (seen parts) (drop k ids)) ≡ option_map {U = Entry × Entry} (λ b. (seen parts x, b)) (clash_with parts kind (seen parts x) (map (seen parts) (drop (k + 1) ids)))
  first_here kind h = ap (λ l. first_clash parts kind (map (seen parts) l)) (drop_more ids k x at) ∙ first_taken parts kind x (drop (k + 1) ids) h

  pub first_next : (kind : ConflictKind) → takes_part kind (seen parts x) ≡ false → first_clash parts kind (map (seen parts) (drop k ids)) ≡ first_clash parts kind (map (seen parts) (drop (k + 1) ids))
  first_next kind h = ap (λ l. first_clash parts kind (map (seen parts) l)) (drop_more ids k x at) ∙ first_passed parts kind x (drop (k + 1) ids) h

-- what is told of the symbol at a place
told_among : (known : Symbol → SymbolKind) (keys : List Symbol) (k : ℕ) (s : Symbol) (d : SymbolKind) → slice_get keys k ≡ Some s → get_or (map known keys) k d ≡ known s
told_among known [] k s d at = absurd cc
told_among known (x ∷ keys) zero s d at = (let same : x ≡ s = cc in ap known same)
told_among known (x ∷ keys) (suc k) s d at = told_among known keys k s d at

pub told_at : (known : Symbol → SymbolKind) (kinds : List SymbolKind) (keys : List Symbol) (k : ℕ) (s : Symbol) (d : SymbolKind) → kinds ≡ map known keys → slice_get keys k ≡ Some s → get_or kinds k d ≡ known s
told_at known kinds keys k s d told at = ap (λ (l : List SymbolKind). get_or l k d) told ∙ told_among known keys k s d at

-- a symbol that is kept or not
pub kept_step : (p : Symbol → Bool) (keys : List Symbol) (k : ℕ) (s : Symbol) (old so_far after : List Symbol) (b : Bool) → slice_get keys k ≡ Some s → so_far ≡ old ++ filter p (take k keys) → after ≡ so_far ++ cond b (s ∷ []) [] → b ≡ p s
    → after ≡ old ++ filter p (take (k + 1) keys)
kept_step p keys k s old so_far after b at was is test =
    is ∙ ap₂ (λ l c. l ++ cond c (s ∷ []) []) was test ∙ append_assoc old (filter p (take k keys)) (cond (p s) (s ∷ []) []) ∙ ap (λ l. old ++ l) (sym (filter_step p keys k s at))
