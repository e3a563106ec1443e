-- Rows of counts in two halves, while one of them changes.
use Rattle.std.proofs.Common.{◌≡◌, ℕ, ◌<◌, ◌≤◌, false, List, [], ◌∷◌, Some, None, Ordering, Less, Equal, Greater, nat_cmp, refl, sym, ap, ◌∙◌, arith, lt-ltb, le-ltb, ne_eqb, ⊎_elim}
use Rattle.std.specs.Prelude.{cond, unwrap_or}
use Rattle.std.specs.List.{AllByRecursion}
use Rattle.std.specs.List.Sorted.{IsStrictlySortedBy}
use Rattle.std.specs.Map.{lookup, keys_of}
use Rattle.std.specs.Option.{option_map}
use Rattle.std.specs.Ordering.{match_ordering, is_eq}
use Rattle.std.specs.BTreeMap.{is_at, insert_entry}
use Rattle.std.proofs.lemmas.Bool.{cases_lt}
use Rattle.std.proofs.lemmas.Cmp.{ranked}
use Rattle.bit_dump.specs.declared.counts.StreamCounts.{StreamCounts}
use Rattle.bit_dump.specs.declared.counts.Half.{Half}
use Rattle.bit_dump.specs.Halves.{whole, upper_of, joined}
use Rattle.bit_dump.specs.Tally.{counts_of, no_counts}

pub at_other : (x y : ℕ) → (y ≡ x → ⊥) → is_at (nat_cmp x) y ≡ false
at_other x y other = ⊎_elim (λ below. rw (lt-ltb x y below) refl) (λ above. rw (le-ltb x y above, ne_eqb x y (λ same. other (sym same))) refl) (cases_lt x y)

-- looking up

pub lookup_joined : (up rows : List (ℕ × Half)) (id : ℕ) → lookup (is_at (nat_cmp id)) (joined up rows) ≡ option_map (λ half. whole half (upper_of up id)) (lookup (is_at (nat_cmp id)) rows)
lookup_joined up [] id = refl
lookup_joined up (row ∷ rows) id = by (lookup_joined up rows id) (nat_cmp id row.0) refl where
  by : lookup (is_at (nat_cmp id)) (joined up rows) ≡ option_map (λ half. whole half (upper_of up id)) (lookup (is_at (nat_cmp id)) rows) → (o : Ordering) → nat_cmp id row.0 ≡ o → cond (is_eq o) (Some (whole row.1 (upper_of up row.0))) (lookup (is_at (nat_cmp id)) (joined up rows))
      ≡ option_map (λ half. whole half (upper_of up id)) (cond (is_eq o) (Some row.1) (lookup (is_at (nat_cmp id)) rows))
  by later Less e = later
  by later Equal e = ap (λ k. Some (whole row.1 (upper_of up k))) (sym (ranked id row.0 Equal (sym e)))
  by later Greater e = later

pub counts_there : (up rows : List (ℕ × Half)) (id : ℕ) (half : Half) → lookup (is_at (nat_cmp id)) rows ≡ Some half → counts_of (joined up rows) id ≡ whole half (upper_of up id)
counts_there up rows id half e = ap (λ o. unwrap_or o no_counts) (lookup_joined up rows id ∙ ap (option_map (λ half. whole half (upper_of up id))) e)

pub counts_none : (up rows : List (ℕ × Half)) (id : ℕ) → lookup (is_at (nat_cmp id)) rows ≡ None → counts_of (joined up rows) id ≡ no_counts
counts_none up rows id e = ap (λ o. unwrap_or o no_counts) (lookup_joined up rows id ∙ ap (option_map (λ half. whole half (upper_of up id))) e)

-- one row changes

abbrev IsOther : ℕ → ℕ → Type 0
IsOther id k = k ≡ id → ⊥

unchanged : (up now rows : List (ℕ × Half)) (id : ℕ) → ((k : ℕ) → IsOther id k → upper_of now k ≡ upper_of up k) → AllByRecursion (IsOther id) (keys_of rows) → joined now rows ≡ joined up rows
unchanged up now [] id same others = refl
unchanged up now (row ∷ rows) id same others = rw (same row.0 others.0, unchanged up now rows id same others.1) refl

above : (id first : ℕ) (ks : List ℕ) → id ≤ first → AllByRecursion (λ k. nat_cmp first k ≡ Less) ks → AllByRecursion (IsOther id) ks
above id first [] low later = tt
above id first (k ∷ ks) low later = let higher : first < k = ranked first k Less (sym later.0) in ((λ same. omega arith), above id first ks low later.1)

pub changed : (up now rows : List (ℕ × Half)) (id : ℕ) (low : Half) (counts : StreamCounts) → IsStrictlySortedBy nat_cmp (keys_of rows) → ((k : ℕ) → IsOther id k → upper_of now k ≡ upper_of up k) → whole low (upper_of now id) ≡ counts
    → joined now (insert_entry nat_cmp rows id low) ≡ insert_entry nat_cmp (joined up rows) id counts
unfolding IsStrictlySortedBy
changed up now [] id low counts sorted same is = ap (λ (c : StreamCounts). (id, c) ∷ []) is
changed up now (row ∷ rows) id low counts sorted same is = by (changed up now rows id low counts sorted.1 same is) (nat_cmp id row.0) refl where
  by : joined now (insert_entry nat_cmp rows id low) ≡ insert_entry nat_cmp (joined up rows) id counts → (o : Ordering) → nat_cmp id row.0 ≡ o → joined now (match_ordering o ((id, low) ∷ row ∷ rows) ((row.0, low) ∷ rows) (row ∷ insert_entry nat_cmp rows id low))
      ≡ match_ordering o ((id, counts) ∷ joined up (row ∷ rows)) ((row.0, counts) ∷ joined up rows) ((row.0, whole row.1 (upper_of up row.0)) ∷ insert_entry nat_cmp (joined up rows) id counts)
  by later Less e =
      let below : id < row.0 = ranked id row.0 Less (sym e) in
      rw (is, unchanged up now (row ∷ rows) id same ((λ (at : row.0 ≡ id). omega arith), above id row.0 (keys_of rows) (omega arith) sorted.0)) refl
  by later Equal e =
      let at : id ≡ row.0 = ranked id row.0 Equal (sym e) in
      let here : whole low (upper_of now row.0) ≡ counts = ap (λ k. whole low (upper_of now k)) (sym at) ∙ is in
      rw (here, unchanged up now rows id same (above id row.0 (keys_of rows) (omega arith) sorted.0)) refl
  by later Greater e =
      let over : row.0 < id = ranked id row.0 Greater (sym e) in
      rw (same row.0 (λ (at : row.0 ≡ id). omega arith), later) refl
