-- The numbers of cases, one after the other.
use Rattle.std.proofs.Common.{◌≡◌, ℕ, ◌+◌, ◌<◌, Bool, true, false, not, ◌&&◌, ◌||◌, List, [], ◌∷◌, ◌++◌, take, drop, length, get_or, slice_get, Some, nat_eq, refl, sym, ap, ◌∙◌, cond, true≢false}
use Rattle.std.specs.Prelude.{flat_map}
use Rattle.std.specs.List.{list_any}
use Rattle.std.specs.Cmp.{unsigned_Decides}
use Rattle.std.proofs.lemmas.List.{append_assoc, take-append-drop}
use Rattle.std.proofs.lemmas.List.Folds.{list_any-append}
use Rattle.std.proofs.lemmas.Option.{slice_get-get_or}
use Rattle.std.proofs.lemmas.Bool.Decides.{same_from_decides}
use Rattle.indexmap.specs.IndexSet.{insert_key}
use Rattle.ir_tables.specs.Table.{is_distinct}
use Rattle.type_table.proofs.Steps.{take_next}

-- a number behind others
flipped : (n m : ℕ) → nat_eq n m ≡ nat_eq m n
flipped n m = same_from_decides (nat_eq n m) (nat_eq m n) (unsigned_Decides n m) ((λ e. sym ((unsigned_Decides m n).0 e)), (λ e. (unsigned_Decides m n).1 (sym e)))

none_of : (b x y : Bool) → (not (b || x) && y) ≡ (not b && (not x && y))
none_of true x y = refl
none_of false x y = refl

pub distinct_push : (xs : List ℕ) (n : ℕ) → is_distinct nat_eq (xs ++ n ∷ []) ≡ (is_distinct nat_eq xs && not (list_any (nat_eq n) xs))
distinct_push [] n = refl
distinct_push (x ∷ xs) n =
    (λ j. not (list_any-append (nat_eq x) xs (n ∷ []) j) && distinct_push xs n j)
    ∙ shuffle (list_any (nat_eq x) xs) (nat_eq x n) (is_distinct nat_eq xs) (list_any (nat_eq n) xs)
    ∙ ap (λ b. (not (list_any (nat_eq x) xs) && is_distinct nat_eq xs) && not (b || list_any (nat_eq n) xs)) (flipped x n)
  where
    shuffle : (a b d c : Bool) → (not (a || (b || false)) && (d && not c)) ≡ ((not a && d) && not (b || c))
    shuffle true b d c = refl
    shuffle false true true true = refl
    shuffle false true true false = refl
    shuffle false true false c = refl
    shuffle false false true c = refl
    shuffle false false false c = refl

-- what fails among the first fails among all
pub distinct_front : (xs ys : List ℕ) → is_distinct nat_eq xs ≡ false → is_distinct nat_eq (xs ++ ys) ≡ false
distinct_front [] ys e = absurd (true≢false e)
distinct_front (x ∷ xs) ys e = by (list_any (nat_eq x) xs) (list_any (nat_eq x) ys) (is_distinct nat_eq xs) (list_any-append (nat_eq x) xs ys) (distinct_front xs ys) e
  where
    by : (a b d : Bool) → list_any (nat_eq x) (xs ++ ys) ≡ (a || b) → (d ≡ false → is_distinct nat_eq (xs ++ ys) ≡ false) → (not a && d) ≡ false
        → (not (list_any (nat_eq x) (xs ++ ys)) && is_distinct nat_eq (xs ++ ys)) ≡ false
    by true b d p rest h = ap (λ z. not z && is_distinct nat_eq (xs ++ ys)) p
    by false b d p rest h = ap (λ z. not (list_any (nat_eq x) (xs ++ ys)) && z) (rest h) ∙ and_false (not (list_any (nat_eq x) (xs ++ ys)))
      where
        and_false : (z : Bool) → (z && false) ≡ false
        and_false true = refl
        and_false false = refl

module _ {X : Type 0} (f : X → List ℕ) where
  flat_append : (xs ys : List X) → flat_map f (xs ++ ys) ≡ flat_map f xs ++ flat_map f ys
  flat_append [] ys = refl
  flat_append (x ∷ xs) ys = ap (λ zs. f x ++ zs) (flat_append xs ys) ∙ sym (append_assoc (f x) (flat_map f xs) (flat_map f ys))

  append_none : (xs : List ℕ) → xs ++ [] ≡ xs
  append_none [] = refl
  append_none (x ∷ xs) = ap (λ ys. x ∷ ys) (append_none xs)

  -- one case more
  pub numbers_next : (xs : List X) (i : ℕ) (x : X) → i < length xs → x ≡ get_or xs i x → flat_map f (take (i + 1) xs) ≡ flat_map f (take i xs) ++ f x
  numbers_next xs i x lt is =
      let at : slice_get xs i ≡ Some x = slice_get-get_or xs i x lt ∙ ap Some (sym is) in
      ap (flat_map f) (take_next xs i x at) ∙ flat_append (take i xs) (x ∷ []) ∙ ap (λ ys. flat_map f (take i xs) ++ ys) (append_none (f x))

  -- the numbers of the first cases stand before those of all
  pub numbers_front : (xs : List X) (i : ℕ) → flat_map f xs ≡ flat_map f (take i xs) ++ flat_map f (drop i xs)
  numbers_front xs i = ap (flat_map f) (sym (take-append-drop i xs)) ∙ flat_append (take i xs) (drop i xs)

-- ---- what is seen, and one case more

-- one number more is seen
seen_more : (ks : List ℕ) (n : ℕ) → list_any (nat_eq n) ks ≡ false → insert_key nat_eq ks n ≡ ks ++ n ∷ []
seen_more ks n e = ap (λ b. cond b ks (ks ++ n ∷ [])) e

not_true : (b : Bool) → true ≡ not b → b ≡ false
not_true true e = absurd (true≢false e)
not_true false e = refl

not_false : (b : Bool) → false ≡ not b → b ≡ true
not_false true e = refl
not_false false e = absurd (true≢false (sym e))

module _ {X : Type 0} (f : X → List ℕ) (xs : List X) (i : ℕ) (x : X) (lt : i < length xs) (is : x ≡ get_or xs i x)
    (ks : List ℕ) (keys : ks ≡ flat_map f (take i xs)) (distinct : is_distinct nat_eq (flat_map f (take i xs)) ≡ true) where
  pub number_kept : (more : List ℕ) (n : ℕ) → f x ≡ n ∷ [] → true ≡ not (list_any (nat_eq n) ks) → more ≡ insert_key nat_eq ks n → more ≡ flat_map f (take (i + 1) xs)
  number_kept more n one new e =
      e ∙ seen_more ks n (not_true (list_any (nat_eq n) ks) new) ∙ (λ j. keys j ++ sym one j) ∙ sym (numbers_next f xs i x lt is)

  pub number_apart : (n : ℕ) → f x ≡ n ∷ [] → true ≡ not (list_any (nat_eq n) ks) → is_distinct nat_eq (flat_map f (take (i + 1) xs)) ≡ true
  number_apart n one new =
      let front = flat_map f (take i xs) in
      ap (is_distinct nat_eq) (numbers_next f xs i x lt is ∙ ap (λ ys. front ++ ys) one)
      ∙ distinct_push front n
      ∙ (λ j. distinct j && sym (new ∙ ap (λ l. not (list_any (nat_eq n) l)) keys) j)

  pub number_again : (n : ℕ) → f x ≡ n ∷ [] → false ≡ not (list_any (nat_eq n) ks) → false ≡ is_distinct nat_eq (flat_map f xs)
  number_again n one old =
      let front = flat_map f (take i xs) in
      let fails : is_distinct nat_eq (flat_map f (take (i + 1) xs)) ≡ false =
      ap (is_distinct nat_eq) (numbers_next f xs i x lt is ∙ ap (λ ys. front ++ ys) one)
      ∙ distinct_push front n
      ∙ (λ j. distinct j && sym (old ∙ ap (λ l. not (list_any (nat_eq n) l)) keys) j) in
      sym (ap (is_distinct nat_eq) (numbers_front f xs (i + 1)) ∙ distinct_front (flat_map f (take (i + 1) xs)) (flat_map f (drop (i + 1) xs)) fails)

  pub none_kept : f x ≡ [] → ks ≡ flat_map f (take (i + 1) xs)
  none_kept none = keys ∙ sym (numbers_next f xs i x lt is ∙ ap (λ ys. flat_map f (take i xs) ++ ys) none ∙ append_none f (flat_map f (take i xs)))

  pub none_apart : f x ≡ [] → is_distinct nat_eq (flat_map f (take (i + 1) xs)) ≡ true
  none_apart none = ap (is_distinct nat_eq) (sym (sym keys ∙ none_kept none)) ∙ distinct
