-- What makes rows a table, from a test that computes; and values read at the place of their row.
use Rattle.std.proofs.Common.{find, inl, inr, ◌≡◌, ◌≢◌, ◌≤◌, ◌+◌, get_or, below_more, ℕ, zero, suc, ◌<◌, ◌↔◌, Bool, true, false, not, List, [], ◌∷◌, map, length, Option, Some, None, slice_get, refl, ap, sym, ◌∙◌, arith, bytes_eq, nat_eq}
use Rattle.std.specs.Bool.{Decides}
use Rattle.std.specs.List.{list_any}
use Rattle.std.proofs.lemmas.Bool.{and_parts, not-true, eqb-true, cases_Bool}
use Rattle.std.proofs.lemmas.Bool.Decides.{Decides-eqb}
use Rattle.std.proofs.lemmas.Slice.Eq.{bytes_eq-Decides}
use Rattle.std.proofs.lemmas.List.{length-map}
use Rattle.std.proofs.lemmas.Map.Keys.{any_passes_from_place}
use Rattle.std.proofs.lemmas.Option.{slice_get-map, slice_get_within, slice_get-get_or}
use Rattle.ir_tables.specs.Table.{WordEntry, IsDistinct, is_distinct, IsTable, is_table, words, codes_of, entries, entry_of}
use Rattle.ir_tables.specs.declared.table.WordRow.{WordRow}

not_twice : {A : Type 0} (same : A → A → Bool) → ((x y : A) → Decides (same x y) (x ≡ y)) → (first : A) (values : List A) (i : ℕ) (value : A) → list_any (same first) values ≡ false → first ≡ value → slice_get values i ≡ Some value → ⊥
not_twice same decides first values i value absent e here = let t : list_any (same first) values ≡ true = any_passes_from_place (same first) values i value here ((decides first value).1 e) in cc

-- a test that computes shows that no value stands at two places
pub IsDistinct-tested : {A : Type 0} (same : A → A → Bool) → ((x y : A) → Decides (same x y) (x ≡ y)) → (values : List A) → is_distinct same values ≡ true → IsDistinct values
IsDistinct-tested same decides [] tested = λ i j value at_i at_j. absurd (cc)
IsDistinct-tested {A} same decides (first ∷ values) tested =
    let parts = and_parts (not (list_any (same first) values)) (is_distinct same values) tested in
    let absent : list_any (same first) values ≡ false = not-true _ parts.0 in
    λ i j value.
    elim i as (λ m. slice_get (first ∷ values) m ≡ Some value → slice_get (first ∷ values) j ≡ Some value → m ≡ j) [
      | zero ↦ elim j as (λ n. slice_get (first ∷ values) zero ≡ Some value → slice_get (first ∷ values) n ≡ Some value → zero ≡ n) [
        | zero ↦ λ at_i at_j. refl
        | suc n ↦ λ at_i at_j. let e : first ≡ value = cc in absurd (not_twice same decides first values n value absent e at_j)
      ]
      | suc m ↦ elim j as (λ n. slice_get (first ∷ values) (suc m) ≡ Some value → slice_get (first ∷ values) n ≡ Some value → suc m ≡ n) [
        | zero ↦ λ at_i at_j. let e : first ≡ value = cc in absurd (not_twice same decides first values m value absent e at_i)
        | suc n ↦ λ at_i at_j. ap suc (IsDistinct-tested same decides values parts.1 m n value at_i at_j)
      ]
    ]

-- a test that computes shows that rows are a table
pub IsTable-tested : (count : ℕ) (table : List WordEntry) → is_table count table ≡ true → IsTable count table
IsTable-tested count table tested =
    let parts = and_parts _ _ tested in
    let distinct = and_parts _ _ parts.1 in
    record {
      exact = eqb-true _ _ parts.0;
      distinct_words = IsDistinct-tested bytes_eq bytes_eq-Decides (words table) distinct.0;
      distinct_codes = IsDistinct-tested nat_eq Decides-eqb (codes_of table) distinct.1;
    }

-- `found` is the place of the key, and none where no place has it
abbrev pub IsPlaceOf : {K : Type 0} → List K → K → Option ℕ → Type 0
IsPlaceOf keys key found = (place : ℕ) → (found ≡ Some place) ↔ (slice_get keys place ≡ Some key)

-- each value stands in the list
abbrev pub IsListed : {A : Type 0} → List A → Type 0
IsListed {A} values = (value : A) → (place : ℕ) × (slice_get values place ≡ Some value)

-- values that are looked up by what `key_of` reads of them: a test tells whether two keys are one, and each value stands in the list
pub record IsKeyed {A K : Type 0} (same : K → K → Bool) (key_of : A → K) (values : List A) : Type 0 where
  pub decides : (x y : K) → Decides (same x y) (x ≡ y)
  pub listed : IsListed values

pub keyed_by_word : {A : Type 0} (word_of : A → List ℕ) (values : List A) → IsListed values → IsKeyed bytes_eq word_of values
keyed_by_word word_of values listed = record { decides = bytes_eq-Decides; listed = listed }

pub keyed_by_code : {A : Type 0} (code_of : A → ℕ) (values : List A) → IsListed values → IsKeyed nat_eq code_of values
keyed_by_code code_of values listed = record { decides = Decides-eqb; listed = listed }

-- what a look-up gives: the value that has the key, and it alone has it; and that is what the search of the definition finds
pub record IsGiven {A K : Type 0} (same : K → K → Bool) (key_of : A → K) (values : List A) (key : K) (given : Option A) : Type 0 where
  pub exact : (value : A) → (given ≡ Some value) ↔ (key_of value ≡ key)
  pub value : given ≡ find (λ value. same (key_of value) key) values

none_has_key : {A K : Type 0} (key_of : A → K) (values : List A) (keys : List K) (key : K) → IsListed values → keys ≡ map key_of values → IsPlaceOf keys key None → (value : A) → key_of value ≡ key → ⊥
none_has_key key_of values keys key listed e found value has =
    let (place, here) = listed value in
    let there : slice_get keys place ≡ Some key = rw (e, slice_get-map, here, has) in
    let contrary : None ≡ Some place = (found place).1 there in
    cc

below_length : {A K : Type 0} (key_of : A → K) (values : List A) (keys : List K) (key : K) (place : ℕ) → keys ≡ map key_of values → IsPlaceOf keys key (Some place) → place < length values
below_length key_of values keys key place e found = let there = slice_get_within keys place key ((found place).0 refl) in let same : length keys ≡ length values = ap length e ∙ length-map values key_of in omega (arith, there)

pub place_below : {A K : Type 0} {same : K → K → Bool} {key_of : A → K} {values : List A} {keys : List K} {key : K} {place : ℕ} → IsKeyed same key_of values → keys ≡ map key_of values → IsPlaceOf keys key (Some place) → place < length values
place_below {A} {K} {same} {key_of} {values} {keys} {key} {place} keyed e found = below_length key_of values keys key place e found

only_has_key : {A K : Type 0} (key_of : A → K) (values : List A) (keys : List K) (key : K) (place : ℕ) → IsListed values → keys ≡ map key_of values → IsPlaceOf keys key (Some place) → (read value : A) → slice_get values place ≡ Some read → (Some read ≡ Some value) ↔ (key_of value ≡ key)
only_has_key key_of values keys key place listed e found read value here = (
  λ same.
      let there : slice_get keys place ≡ Some key = (found place).0 refl in
      let there' : slice_get (map key_of values) place ≡ Some key = rw e at there in
      let v : read ≡ value = cc in
      let known : slice_get (map key_of values) place ≡ Some (key_of read) = rw (slice_get-map, here) in
      let k : key_of read ≡ key = cc in
      ap key_of (sym v) ∙ k,
  λ has.
      let (at, stands) = listed value in
      let there : slice_get keys at ≡ Some key = rw (e, slice_get-map, stands, has) in
      let same : Some place ≡ Some at = (found at).1 there in
      let p : place ≡ at = cc in
      cc,
)

key_at : {K : Type 0} (read : WordEntry → K) (rows : List WordRow) (at : ℕ) (row : WordRow) → at < length rows → slice_get (map read (entries rows)) at ≡ Some (read (entry_of (get_or rows at row)))
key_at read rows at row within = rw (slice_get-map, slice_get-map, slice_get-get_or rows at row within)

-- a search through the places in order stops at a row with the key
pub found_at : {K : Type 0} (read : WordEntry → K) (rows : List WordRow) (table : List WordEntry) (key : K) (at : ℕ) (row : WordRow) → table ≡ entries rows → IsDistinct (map read (entries rows)) → at < length rows → read (entry_of (get_or rows at row)) ≡ key → IsPlaceOf (map read table) key (Some at)
found_at read rows table key at row e distinct within has =
    let stands : slice_get (map read table) at ≡ Some key = rw (e, key_at read rows at row within, has) in
    λ place. (λ same. let p : at ≡ place = cc in (rw p at stands), λ other. let other' : slice_get (map read (entries rows)) place ≡ Some key = rw e at other in let stands' : slice_get (map read (entries rows)) at ≡ Some key = rw e at stands in ap Some (distinct at place key stands' other'))

-- it goes on past a row with another key
pub not_here : {K : Type 0} (read : WordEntry → K) (rows : List WordRow) (key : K) (at : ℕ) (row : WordRow) → at < length rows → ((k : ℕ) → k < at → slice_get (map read (entries rows)) k ≢ Some key) → read (entry_of (get_or rows at row)) ≢ key → (k : ℕ) → k < at + 1 → slice_get (map read (entries rows)) k ≢ Some key
not_here read rows key at row within before other =
    below_more (λ k. slice_get (map read (entries rows)) k ≢ Some key) at before
    (λ same. let known = key_at read rows at row within in let e : read (entry_of (get_or rows at row)) ≡ key = cc in other e)

-- and ends where no row has it
pub found_nowhere : {K : Type 0} (read : WordEntry → K) (rows : List WordRow) (table : List WordEntry) (key : K) (at : ℕ) → table ≡ entries rows → length rows ≤ at → ((k : ℕ) → k < at → slice_get (map read (entries rows)) k ≢ Some key) → IsPlaceOf (map read table) key None
found_nowhere read rows table key at e end before =
    λ place. (
      λ none. absurd (cc),
      λ stands.
          let there : slice_get (map read (entries rows)) place ≡ Some key = rw e at stands in
          let within = slice_get_within (map read (entries rows)) place key there in
          let n = length-map (entries rows) read in
          let m = length-map rows entry_of in
          absurd (before place (omega arith) there),
    )

find_none : {A : Type 0} (test : A → Bool) (values : List A) → ((value : A) → test value ≡ true → ⊥) → find test values ≡ None
find_none test [] absent = refl
find_none test (value ∷ values) absent =
    let failed : test value ≡ false = (elim (cases_Bool (test value)) [ inl passes ↦ absurd (absent value passes) | inr fails ↦ fails ]) in
    rw failed (find_none test values absent)

find_only : {A : Type 0} (test : A → Bool) (values : List A) (place : ℕ) (value : A) → ((other : A) → test other ≡ true → other ≡ value) → slice_get values place ≡ Some value → test value ≡ true → find test values ≡ Some value
find_only test [] place value only here passes = absurd (cc)
find_only test (first ∷ values) zero value only here passes = let e : first ≡ value = cc in let t : test first ≡ true = ap test e ∙ passes in rw t here
find_only test (first ∷ values) (suc place) value only here passes =
    let rest = find_only test values place value only here passes in
    elim (cases_Bool (test first)) [
      | inl passed ↦ let e = only first passed in rw passed (ap Some e)
      | inr fails ↦ rw fails rest
    ]

-- the search of the definition finds nothing where no value has the key
find_absent : {A K : Type 0} (same : K → K → Bool) → ((x y : K) → Decides (same x y) (x ≡ y)) → (key_of : A → K) (values : List A) (key : K) → ((value : A) → key_of value ≡ key → ⊥) → None ≡ find (λ value. same (key_of value) key) values
find_absent same decides key_of values key absent = sym (find_none (λ value. same (key_of value) key) values (λ value passes. absent value ((decides (key_of value) key).0 passes)))

-- and finds the one value that has it
find_present : {A K : Type 0} (same : K → K → Bool) → ((x y : K) → Decides (same x y) (x ≡ y)) → (key_of : A → K) (values : List A) (keys : List K) (key : K) (place : ℕ) → IsListed values → keys ≡ map key_of values → IsPlaceOf keys key (Some place) → (read : A) → slice_get values place ≡ Some read → Some read ≡ find (λ value. same (key_of value) key) values
find_present same decides key_of values keys key place listed e found read here =
    let has : key_of read ≡ key = (only_has_key key_of values keys key place listed e found read read here).0 refl in
    sym (find_only (λ value. same (key_of value) key) values place read
    (λ other passes. let s : Some read ≡ Some other = (only_has_key key_of values keys key place listed e found read other here).1 ((decides (key_of other) key).0 passes) in cc)
    here ((decides (key_of read) key).1 has))

-- what is given where no place has the key: nothing, since no value has it
pub absent : {A K : Type 0} {same : K → K → Bool} {key_of : A → K} {values : List A} {keys : List K} {key : K} {given : Option A} → IsKeyed same key_of values → keys ≡ map key_of values → IsPlaceOf keys key None → given ≡ None → IsGiven same key_of values key given
absent {A} {K} {same} {key_of} {values} {keys} {key} {given} keyed e found none =
    let without = none_has_key key_of values keys key keyed.listed e found in record {
      exact = λ value. (λ some. absurd (cc), λ has. absurd (without value has));
      value = none ∙ find_absent same keyed.decides key_of values key without;
    }

-- what is given where a place has the key: the value at that place, and no other value has it
pub present : {A K : Type 0} {same : K → K → Bool} {key_of : A → K} {values : List A} {keys : List K} {key : K} {place : ℕ} → IsKeyed same key_of values → keys ≡ map key_of values → IsPlaceOf keys key (Some place) → (default : A) → IsGiven same key_of values key (Some (get_or values place default))
present {A} {K} {same} {key_of} {values} {keys} {key} {place} keyed e found default =
    let here = slice_get-get_or values place default (below_length key_of values keys key place e found) in record {
      exact = λ value. only_has_key key_of values keys key place keyed.listed e found (get_or values place default) value here;
      value = find_present same keyed.decides key_of values keys key place keyed.listed e found (get_or values place default) here;
    }
