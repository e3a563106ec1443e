-- The names that a linked module gives.
use Rattle.std.proofs.Common.{◌≡◌, ℕ, zero, suc, ◌+◌, ◌<◌, ◌≤◌, Bool, true, false, not, cond, ◌||◌, List, [], ◌∷◌, ◌++◌, map, length, Some, refl, sym, ap, ap₂, ◌∙◌, subst, filter, bytes_eq, arith, le_refl}
use Rattle.std.specs.Prelude.{slice_get}
use Rattle.std.specs.List.{list_any}
use Rattle.std.proofs.lemmas.Bool.{or_left, or_right, or_from, or_parts, both_ways, false_from_ne_true}
use Rattle.std.proofs.lemmas.Option.{same_Some}
use Rattle.std.proofs.lemmas.Map.Views.{any-filter_same}
use Rattle.std.specs.Int.Digits.{digits_of}
use Rattle.std.proofs.lemmas.Int.Digits.{same_from_digits_of}
use Rattle.std.proofs.lemmas.List.{append_cancel_left}
use Rattle.module_arena.specs.Module.{Bytes}
use Rattle.linkage_rules.specs.Lists.{has}
use Rattle.linkage_rules.specs.declared.symbol.Symbol.{Symbol}
use Rattle.linkage_rules.specs.declared.symbol.Symbol.TheVariants.{Shared, Local}
use Rattle.linkage_rules.specs.Entries.{same_symbol}
use Rattle.link_rules.specs.Rename.{dotted, least, fresh, new_name, shared_names, with_given_names}
use Rattle.link_rules.proofs.Apart.{Apart}
use Rattle.linkage_rules.specs.SymbolLaws.{name_self, name_exact}

-- FRESH NAMES

fewer : {A : Type 0} (test : A → Bool) (xs : List A) → length (filter (λ y. not (test y)) xs) ≤ length xs
fewer test [] = omega arith
fewer test (x ∷ xs) = go (test x) refl (fewer test xs)
  where
    go : (b : Bool) → test x ≡ b → length (filter (λ y. not (test y)) xs) ≤ length xs → length (filter (λ y. not (test y)) (x ∷ xs)) ≤ length (x ∷ xs)
    go true e rest = rw e (omega (arith, rest))
    go false e rest = rw e (omega (arith, rest))

-- a filter that throws out what stands in the list shortens it
shorter : {A : Type 0} (test : A → Bool) (xs : List A) → list_any test xs ≡ true → length (filter (λ y. not (test y)) xs) < length xs
shorter test [] h = cc
shorter test (x ∷ xs) h = go (test x) refl (shorter test xs)
  where
    go : (b : Bool) → test x ≡ b → (list_any test xs ≡ true → length (filter (λ y. not (test y)) xs) < length xs) → length (filter (λ y. not (test y)) (x ∷ xs)) < length (x ∷ xs)
    go true e more = rw e (omega (arith, fewer test xs))
    go false e more = rw e (omega (arith, more (subst (λ c. (c || list_any test xs) ≡ true) e h)))

same_digits : (xs ys : List ℕ) → map (λ d. d + 48) xs ≡ map (λ d. d + 48) ys → xs ≡ ys
same_digits [] [] h = refl
same_digits [] (y ∷ ys) h = cc
same_digits (x ∷ xs) [] h = cc
same_digits (x ∷ xs) (y ∷ ys) h =
    let first : x + 48 ≡ y + 48 = cc in
    let rest : map (λ d. d + 48) xs ≡ map (λ d. d + 48) ys = cc in
    let same : x ≡ y = omega arith in
    ap₂ (λ z zs. z ∷ zs) same (same_digits xs ys rest)

dotted_differ : (name : Bytes) (m n : ℕ) → m < n → bytes_eq (dotted name m) (dotted name n) ≡ false
dotted_differ name m n h = false_from_ne_true _ (λ e.
    let tails = append_cancel_left name _ _ (name_exact _ _ e) in
    let digits : map (λ d. d + 48) (digits_of 10 m) ≡ map (λ d. d + 48) (digits_of 10 n) = cc in
    let same : m ≡ n = same_from_digits_of 10 m n (omega arith) (same_digits _ _ digits) in
    omega arith)

module _ (name : Bytes) where
  -- the least number looks at numbers from n on alone
  least_same : (room : ℕ) (taken other : List Bytes) (n : ℕ) → ((j : ℕ) → n ≤ j → has bytes_eq taken (dotted name j) ≡ has bytes_eq other (dotted name j)) → least room taken name n ≡ least room other name n
  least_same zero taken other n h = refl
  least_same (suc room) taken other n h =
      ap₂ (λ b r. cond b r n) (h n (le_refl n)) (least_same room taken other (suc n) (λ j below. h j (omega arith)))

  least_above : (room : ℕ) (taken : List Bytes) (n : ℕ) → n ≤ least room taken name n
  least_above zero taken n = le_refl n
  least_above (suc room) taken n = go (has bytes_eq taken (dotted name n)) (least_above room taken (suc n))
    where
      go : (b : Bool) → suc n ≤ least room taken name (suc n) → n ≤ cond b (least room taken name (suc n)) n
      go true h = omega arith
      go false h = le_refl n

  least_free : (room : ℕ) (taken : List Bytes) (n : ℕ) → length taken ≤ room → has bytes_eq taken (dotted name (least room taken name n)) ≡ false
  least_free zero [] n h = refl
  least_free zero (x ∷ taken) n h = absurd (omega (arith, h))
  least_free (suc room) taken n h = go (has bytes_eq taken (dotted name n)) refl (least_free room rest (suc n))
    where
      rest : List Bytes
      rest = filter (λ y. not (bytes_eq (dotted name n) y)) taken

      alike : (j : ℕ) → suc n ≤ j → has bytes_eq taken (dotted name j) ≡ has bytes_eq rest (dotted name j)
      alike j below = sym (any-filter_same (bytes_eq (dotted name j)) (λ y. not (bytes_eq (dotted name n) y)) true (λ y e. ap not (subst (λ z. bytes_eq (dotted name n) z ≡ false) (name_exact _ _ e) (dotted_differ name n j below))) taken)

      go : (b : Bool) → has bytes_eq taken (dotted name n) ≡ b → (length rest ≤ room → has bytes_eq rest (dotted name (least room rest name (suc n))) ≡ false) → has bytes_eq taken (dotted name (least (suc room) taken name n)) ≡ false
      go false e more = rw e e
      go true e more =
          let free = more (omega (arith, h, shorter (bytes_eq (dotted name n)) taken e)) in
          rw e (alike _ (least_above room taken (suc n)) ∙ ap (λ k. has bytes_eq rest (dotted name k)) (least_same room taken rest (suc n) alike) ∙ free)

pub fresh_free : (taken : List Bytes) (base : Bytes) → has bytes_eq taken (fresh taken base) ≡ false
fresh_free taken base = least_free base (length taken) taken 1 (le_refl (length taken))

front_free : (test : Bytes → Bool) (xs ys : List Bytes) → list_any test (xs ++ ys) ≡ false → list_any test xs ≡ false
front_free test [] ys h = refl
front_free test (x ∷ xs) ys h =
    let parts = or_parts (test x) (list_any test (xs ++ ys)) h in
    or_from (test x) _ parts.0 (front_free test xs ys parts.1)

-- THE TABLE

pub shared_has : (ss : List Symbol) (n : Bytes) → has bytes_eq (shared_names ss) n ≡ has same_symbol ss (Shared n)
shared_has [] n = refl
shared_has (Shared m ∷ ss) n = ap (λ b. bytes_eq n m || b) (shared_has ss n)
shared_has (Local i m ∷ ss) n = shared_has ss n

module _ (base : Bytes → Bytes) (everywhere : List Bytes) where
  -- a name that is given was not given before
  pub new_free : (given : List Bytes) (name : Bytes) → has bytes_eq given (new_name base everywhere given name) ≡ false
  new_free given name = go (has bytes_eq given name) refl
    where
      go : (b : Bool) → has bytes_eq given name ≡ b → has bytes_eq given (new_name base everywhere given name) ≡ false
      go true e = rw e (front_free (bytes_eq (fresh (given ++ everywhere) (base name))) given everywhere (fresh_free (given ++ everywhere) (base name)))
      go false e = rw e e

  -- the rows are the symbols, in order
  pub keys_named : (given : List Bytes) (ss : List Symbol) → map (λ r. r.0) (with_given_names base everywhere given ss) ≡ ss
  keys_named given [] = refl
  keys_named given (Shared n ∷ ss) = ap (λ l. Shared n ∷ l) (keys_named given ss)
  keys_named given (Local i n ∷ ss) = ap (λ l. Local i n ∷ l) (keys_named (new_name base everywhere given n ∷ given) ss)

  -- a name that is given already is given to no other symbol
  named_new : (ss : List Symbol) (given : List Bytes) (n : Bytes) → has bytes_eq given n ≡ true → has bytes_eq (shared_names ss) n ≡ false → has bytes_eq (map (λ r. r.1) (with_given_names base everywhere given ss)) n ≡ false
  named_new [] given n t g = refl
  named_new (Shared m ∷ ss) given n t g =
      let parts = or_parts (bytes_eq n m) _ g in
      or_from (bytes_eq n m) _ parts.0 (named_new ss given n t parts.1)
  named_new (Local i m ∷ ss) given n t g =
      let new = new_name base everywhere given m in
      let differs : bytes_eq n new ≡ false = false_from_ne_true _ (λ e. both_ways _ (new_free given m) (subst (λ z. has bytes_eq given z ≡ true) (name_exact n new e) t)) in
      or_from (bytes_eq n new) _ differs (named_new ss (new ∷ given) n (or_right _ _ t) g)

  -- no two symbols have one name in the result
  pub names_apart : (ss : List Symbol) (given : List Bytes) → Apart same_symbol ss → ((n : Bytes) → has bytes_eq (shared_names ss) n ≡ true → has bytes_eq given n ≡ true) → Apart bytes_eq (map (λ r. r.1) (with_given_names base everywhere given ss))
  names_apart [] given a inc = tt
  names_apart (Shared n ∷ ss) given a inc =
      (named_new ss given n (inc n (or_left _ _ (name_self n))) (shared_has ss n ∙ a.0), names_apart ss given a.1 (λ m h. inc m (or_right _ _ h)))
  names_apart (Local i n ∷ ss) given a inc =
      let new = new_name base everywhere given n in
      let not_shared : has bytes_eq (shared_names ss) new ≡ false = false_from_ne_true _ (λ e. both_ways _ (new_free given n) (inc new e)) in
      (named_new ss (new ∷ given) new (or_left _ _ (name_self new)) not_shared, names_apart ss (new ∷ given) a.1 (λ m h. or_right _ _ (inc m h)))

  -- a shared name stays
  pub shared_stays : (given : List Bytes) (ss : List Symbol) (k : ℕ) (n m : Bytes) → slice_get (with_given_names base everywhere given ss) k ≡ Some (Shared n, m) → m ≡ n
  shared_stays given [] k n m h = cc
  shared_stays given (Shared a ∷ ss) zero n m h =
      let e = same_Some (Shared a, a) (Shared n, m) h in
      let same : Shared a ≡ Shared n = ap (λ r. r.0) e in
      let a_is : a ≡ n = cc in
      sym (ap (λ r. r.1) e) ∙ a_is
  shared_stays given (Local i a ∷ ss) zero n m h =
      let same : Local i a ≡ Shared n = ap (λ r. r.0) (same_Some (Local i a, new_name base everywhere given a) (Shared n, m) h) in
      cc
  shared_stays given (Shared a ∷ ss) (suc k) n m h = shared_stays given ss k n m h
  shared_stays given (Local i a ∷ ss) (suc k) n m h = shared_stays (new_name base everywhere given a ∷ given) ss k n m h
