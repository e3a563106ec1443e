-- One number more in an order.
use Rattle.std.specs.Prelude.{◌≡◌, refl, ℕ, zero, suc, ◌+◌, ◌<◌, ◌≤◌, Bool, true, false, ◌||◌, ◌⊎◌, List, [], ◌∷◌, ◌++◌, length, nat_eq, replicate}
use Rattle.std.specs.List.{IsDistinct}
use Rattle.std.specs.Cmp.{nat_eq_equiv}
use Rattle.std.proofs.Common.{ap, sym, subst, ◌∙◌, arith, inl, inr, get_or, set, length-append, length-set}
use Rattle.std.proofs.lemmas.Bool.{eqb-true, eqb-false, eq-eqb, or_left, or_cases}
use Rattle.std.proofs.lemmas.List.{get_or-set_same, get_or-set_other}
use Rattle.std.proofs.lemmas.List.Folds.{list_any-append}
use Rattle.std.proofs.lemmas.Map.Keys.{IsDistinct-push}
use Rattle.std.proofs.lemmas.Map.Steps.{length-le_from_distinct_below}
use Rattle.type_judge.specs.Order.Order.{mentioned, HasNumber, stands_in, AreSettled, HasUnsettled, StandBehind, HasLeft, IsSettling, Keeps, KeepsAll, IsOrder, mention_lists}
use Rattle.std.specs.Global.{Vec}

-- a number of a list stands at some index
pub index_of_number : (numbers : List ℕ) (number : ℕ) → HasNumber number numbers → (i : ℕ) × (i < length numbers) × (get_or numbers i 0 ≡ number)
index_of_number [] number h = absurd h
index_of_number (first ∷ more) number (inl e) = (0, omega arith, sym e)
index_of_number (first ∷ more) number (inr h) = let r = index_of_number more number h in (suc r.0, omega (arith, r.1), r.2)

pub number_at : (numbers : List ℕ) (i : ℕ) → i < length numbers → HasNumber (get_or numbers i 0) numbers
number_at [] i h = absurd (omega (arith, h))
number_at (first ∷ more) zero h = inl refl
number_at (first ∷ more) (suc i) h = inr (number_at more i (omega (arith, h)))

-- where each is marked, index by index, all are
pub all_settled : (settled : List Bool) (mentions : List ℕ) → ((k : ℕ) → k < length mentions → get_or settled (get_or mentions k 0) false ≡ true) → AreSettled settled mentions
all_settled settled mentions each number h = let r = index_of_number mentions number h in subst (λ n. get_or settled n false ≡ true) r.2 (each r.0 r.1)

-- what stands at the end
pub stands_more : (order : List ℕ) (number other : ℕ) → stands_in (order ++ number ∷ []) other ≡ (stands_in order other || nat_eq other number)
stands_more order number other = list_any-append (nat_eq other) order (number ∷ []) ∙ ap (λ b. stands_in order other || b) (or_false (nat_eq other number))
  where
    or_false : (b : Bool) → (b || false) ≡ b
    or_false true = refl
    or_false false = refl

-- one more that mentions only what stands there
snoc_behind : (lists : List (List ℕ)) (before order : List ℕ) (number : ℕ) → StandBehind lists before order
    → ((other : ℕ) → HasNumber other (mentioned lists number) → (stands_in before other ≡ true) ⊎ (stands_in order other ≡ true)) → StandBehind lists before (order ++ number ∷ [])
snoc_behind lists before [] number behind each = ((λ other h. only (each other h)), tt)
  where
    only : {b : Bool} → (b ≡ true) ⊎ (false ≡ true) → b ≡ true
    only (inl e) = e
    only (inr e) = absurd cc
snoc_behind lists before (first ∷ order) number behind each = (behind.0, snoc_behind lists (first ∷ before) order number behind.1 (λ other h. moved other (each other h)))
  where
    moved : (other : ℕ) → (stands_in before other ≡ true) ⊎ (stands_in (first ∷ order) other ≡ true) → (stands_in (first ∷ before) other ≡ true) ⊎ (stands_in order other ≡ true)
    moved other (inl e) = inl (last (nat_eq other first) (stands_in before other) e)
      where
        last : (a b : Bool) → b ≡ true → (a || b) ≡ true
        last true b e = refl
        last false b e = e
    moved other (inr e) = by (or_cases (nat_eq other first) (stands_in order other) e)
      where
        by : (nat_eq other first ≡ true) ⊎ (stands_in order other ≡ true) → (stands_in (first ∷ before) other ≡ true) ⊎ (stands_in order other ≡ true)
        by (inl q) = inl (or_left (nat_eq other first) (stands_in before other) q)
        by (inr q) = inr q

pub marks_more : (settled : List Bool) (order : List ℕ) (number other : ℕ) → number < length settled → get_or settled other false ≡ stands_in order other → get_or (set settled number true) other false ≡ stands_in (order ++ number ∷ []) other
marks_more settled order number other within same = by (nat_eq other number) refl
  where
    or_true : (b : Bool) → (b || true) ≡ true
    or_true true = refl
    or_true false = refl

    or_false : (b : Bool) → (b || false) ≡ b
    or_false true = refl
    or_false false = refl

    by : (b : Bool) → nat_eq other number ≡ b → get_or (set settled number true) other false ≡ stands_in (order ++ number ∷ []) other
    by true e =
        ap (λ n. get_or (set settled number true) n false) (eqb-true other number e) ∙ get_or-set_same settled number true false within
        ∙ sym (stands_more order number other ∙ ap (λ b. stands_in order other || b) e ∙ or_true (stands_in order other))
    by false e =
        get_or-set_other settled number other true false (eqb-false other number e) ∙ same
        ∙ sym (stands_more order number other ∙ ap (λ b. stands_in order other || b) e ∙ or_false (stands_in order other))

-- the order with one number more, that was not marked and all of whose mentions were
pub one_more : (lists : List (List ℕ)) (settled : List Bool) (order : List ℕ) (number : ℕ) → IsSettling lists settled order → number < length lists
    → get_or settled number false ≡ false → AreSettled settled (mentioned lists number) → IsSettling lists (set settled number true) (order ++ number ∷ [])
one_more lists settled order number was within new all =
    let inside : number < length settled = omega (arith, was.count, within) in
    record {
      count = length-set settled number true ∙ was.count;
      marks = λ other. marks_more settled order number other inside (was.marks other);
      behind = snoc_behind lists [] order number was.behind (λ other h. inr (sym (was.marks other) ∙ all other h));
      distinct = IsDistinct-push nat_eq_equiv order number was.distinct (sym (was.marks number) ∙ new);
    }

pub longer_by_one : (lists : List (List ℕ)) (order : List ℕ) (number : ℕ) → Keeps lists number order (order ++ number ∷ [])
longer_by_one lists order number =
    let more : length (order ++ number ∷ []) ≡ length order + 1 = length-append order (number ∷ []) in
    record { longer = omega (arith, more); same = λ e. absurd (omega (arith, more, e)); left = λ e h. absurd (omega (arith, more, e)) }

pub stands_already : (lists : List (List ℕ)) (settled : List Bool) (order : List ℕ) (number : ℕ) → IsSettling lists settled order → get_or settled number false ≡ true → Keeps lists number order order
stands_already lists settled order number was e = record {
  longer = omega arith;
  same = λ _. refl;
  left = λ _ h. let q = sym e ∙ was.marks number ∙ h in absurd cc;
}

pub can_not_yet : (lists : List (List ℕ)) (settled : List Bool) (order : List ℕ) (number : ℕ) → IsSettling lists settled order → HasUnsettled settled (mentioned lists number) → Keeps lists number order order
can_not_yet lists settled order number was h = record {
  longer = omega arith;
  same = λ _. refl;
  left = λ _ _. (h.0, h.1, sym (was.marks h.0) ∙ h.2);
}

-- there are no more numbers in the order than there are
pub is_short : (lists : List (List ℕ)) (settled : List Bool) (order : List ℕ) → IsSettling lists settled order → length order ≤ length lists
is_short lists settled order was = length-le_from_distinct_below order (length lists) was.distinct (λ q e. below settled q (was.marks q ∙ e) was.count)
  where
    below : (settled : List Bool) (q : ℕ) → get_or settled q false ≡ true → length settled ≡ length lists → q < length lists
    below settled q e c = let k = inside settled q e in omega (arith, k, c)
      where
        inside : (settled : List Bool) (q : ℕ) → get_or settled q false ≡ true → q < length settled
        inside [] q e = absurd cc
        inside (x ∷ xs) zero e = omega arith
        inside (x ∷ xs) (suc q) e = let k = inside xs q e in omega (arith, k)

-- no try yet
pub no_try : (lists : List (List ℕ)) (order : List ℕ) → KeepsAll lists 0 order order
no_try lists order = record { longer = omega arith; same = λ _. refl; left = λ _ k below. absurd (omega (arith, below)) }

-- one try more
pub next_try : (lists : List (List ℕ)) (count : ℕ) (old mid new : List ℕ) → KeepsAll lists count old mid → Keeps lists count mid new → KeepsAll lists (count + 1) old new
next_try lists count old mid new before last = record {
  longer = omega (arith, before.longer, last.longer);
  same = λ e. last.same (second e) ∙ before.same (first e);
  left = λ e k below out. by e k below out (nat_eq k count) refl;
}
  where
    first : length new ≡ length old → length mid ≡ length old
    first e = omega (arith, e, before.longer, last.longer)

    second : length new ≡ length old → length new ≡ length mid
    second e = omega (arith, e, before.longer, last.longer)

    by : length new ≡ length old → (k : ℕ) → k < count + 1 → stands_in old k ≡ false → (b : Bool) → nat_eq k count ≡ b → HasLeft lists old k
    by e k below out true q =
        let at = eqb-true k count q in
        let same = before.same (first e) in
        subst (λ n. HasLeft lists old n) (sym at)
        (subst (λ (os : List ℕ). HasLeft lists os count) same
        (last.left (second e) (ap (λ (os : List ℕ). stands_in os count) same ∙ (ap (stands_in old) (sym at) ∙ out))))
    by e k below out false q = let other = eqb-false k count q in before.left (first e) k (omega (arith, below, other)) out

-- a go over all numbers that settles none ends the work
pub ends : (lists : List (List ℕ)) (settled : List Bool) (old new : List ℕ) → IsSettling lists settled new → KeepsAll lists (length lists) old new → length new ≡ length old → IsOrder lists new
ends lists settled old new is kept e =
    let same = kept.same e in
    record {
      within = λ number h. below settled number (is.marks number ∙ h) is.count;
      behind = is.behind;
      distinct = is.distinct;
      left = λ number below out. subst (λ (os : List ℕ). HasLeft lists os number) (sym same) (kept.left e number below (ap (λ (os : List ℕ). stands_in os number) (sym same) ∙ out));
    }
  where
    below : (settled : List Bool) (q : ℕ) → get_or settled q false ≡ true → length settled ≡ length lists → q < length lists
    below settled q e c = let k = inside settled q e in omega (arith, k, c)
      where
        inside : (settled : List Bool) (q : ℕ) → get_or settled q false ≡ true → q < length settled
        inside [] q e = absurd cc
        inside (x ∷ xs) zero e = omega arith
        inside (x ∷ xs) (suc q) e = let k = inside xs q e in omega (arith, k)

-- what a number mentions is its list
pub mentioned_at : (lists : List (Vec ℕ)) (number : ℕ) (list : Vec ℕ) → number < length lists → list ≡ get_or lists number list → mentioned (mention_lists lists) number ≡ list.items
mentioned_at [] number list h e = absurd (omega (arith, h))
mentioned_at (first ∷ lists) zero list h e = ap (λ v. v.items) (sym e)
mentioned_at (first ∷ lists) (suc number) list h e = mentioned_at lists number list (omega (arith, h)) e

-- nothing is marked
pub nothing_settled : (lists : List (List ℕ)) (settled : List Bool) → length settled ≡ length lists → ((k : ℕ) → get_or settled k false ≡ false) → IsSettling lists settled []
unfolding IsDistinct
nothing_settled lists settled count none = record { count = count; marks = none; behind = tt; distinct = tt }

pub none_marked : (n k : ℕ) → get_or (replicate n false) k false ≡ false
none_marked zero k = refl
none_marked (suc n) zero = refl
none_marked (suc n) (suc k) = none_marked n k

pub stands_at : (order : List ℕ) (i : ℕ) → i < length order → stands_in order (get_or order i 0) ≡ true
stands_at [] i h = absurd (omega (arith, h))
stands_at (first ∷ order) zero h = or_left (nat_eq first first) (stands_in order first) (eq-eqb first first refl)
stands_at (first ∷ order) (suc i) h = or_last (nat_eq (get_or order i 0) first) (stands_in order (get_or order i 0)) (stands_at order i (omega (arith, h)))
  where
    or_last : (a b : Bool) → b ≡ true → (a || b) ≡ true
    or_last true b e = refl
    or_last false b e = e
