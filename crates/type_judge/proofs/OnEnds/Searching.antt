-- A search by a queue, number by number.
use Rattle.std.specs.Prelude.{◌≡◌, refl, ◌⊎◌, ℕ, zero, suc, ◌+◌, ◌<◌, ◌≤◌, Bool, true, false, ◌||◌, List, [], ◌∷◌, ◌++◌, length, nat_eq, All}
use Rattle.std.specs.List.{IsDistinct}
use Rattle.std.specs.Cmp.{nat_eq_equiv}
use Rattle.std.proofs.Common.{ap, sym, subst, ◌∙◌, arith, inl, inr, get_or, set, append_assoc}
use Rattle.std.proofs.Math.ListN.{get_or-append}
use Rattle.std.proofs.lemmas.Bool.{eqb-true, eq-eqb, or_cases}
use Rattle.std.proofs.lemmas.List.{append-nil}
use Rattle.std.proofs.lemmas.Map.Keys.{IsDistinct-push}
use Rattle.std.proofs.lemmas.Map.Steps.{length-le_from_distinct_below}
use Rattle.std.specs.Global.{Vec}
use Rattle.type_table.proofs.Flags.{set_within}
use Rattle.type_judge.specs.Order.Order.{mentioned, HasNumber, stands_in, AreWithin}
use Rattle.type_judge.proofs.OnOrder.Placed.{stands_more, marks_more, index_of_number}
use Rattle.type_judge.specs.Ends.Reach.{LeadsTo, AreMarks, HasGrown, IsSearched, AreReached}

-- nothing is marked
pub nothing_marked : (marks : List Bool) → ((number : ℕ) → get_or marks number false ≡ false) → AreMarks marks []
unfolding IsDistinct
nothing_marked marks none = record { each = none; distinct = tt }

-- one more is marked
pub one_marked : (marks : List Bool) (queue : List ℕ) (number : ℕ) → AreMarks marks queue → number < length marks → get_or marks number false ≡ false → AreMarks (set marks number true) (queue ++ number ∷ [])
one_marked marks queue number are within new = record {
  each = λ other. marks_more marks queue number other within (are.each other);
  distinct = IsDistinct-push nat_eq_equiv queue number are.distinct (sym (are.each number) ∙ new);
}

stands_first : (queue : List ℕ) (number other : ℕ) → stands_in queue other ≡ true → stands_in (queue ++ number ∷ []) other ≡ true
stands_first queue number other e = stands_more queue number other ∙ ap (λ b. b || nat_eq other number) e

stands_last : (queue : List ℕ) (number : ℕ) → stands_in (queue ++ number ∷ []) number ≡ true
stands_last queue number = stands_more queue number number ∙ ap (λ b. stands_in queue number || b) (eq-eqb number number refl) ∙ or_true (stands_in queue number)
  where
    or_true : (b : Bool) → (b || true) ≡ true
    or_true true = refl
    or_true false = refl

-- the queue with one number more
pub grown_by_one : (queue : List ℕ) (number : ℕ) → HasGrown (number ∷ []) queue (queue ++ number ∷ [])
grown_by_one queue number = record { extra = number ∷ []; longer = refl; there = there; from = from }
  where
    there : (other : ℕ) → HasNumber other (number ∷ []) → stands_in (queue ++ number ∷ []) other ≡ true
    there other (inl e) = subst (λ k. stands_in (queue ++ number ∷ []) k ≡ true) (sym e) (stands_last queue number)
    there other (inr h) = absurd h

    from : (other : ℕ) → stands_in (queue ++ number ∷ []) other ≡ true → (stands_in queue other ≡ true) ⊎ HasNumber other (number ∷ [])
    from other e = by (or_cases (stands_in queue other) (nat_eq other number) (sym (stands_more queue number other) ∙ e))
      where
        by : (stands_in queue other ≡ true) ⊎ (nat_eq other number ≡ true) → (stands_in queue other ≡ true) ⊎ HasNumber other (number ∷ [])
        by (inl h) = inl h
        by (inr h) = inr (inl (eqb-true other number h))

-- the number was there
pub there_already : (queue : List ℕ) (number : ℕ) → stands_in queue number ≡ true → HasGrown (number ∷ []) queue queue
there_already queue number e = record { extra = []; longer = sym (append-nil queue); there = there; from = λ other h. inl h }
  where
    there : (other : ℕ) → HasNumber other (number ∷ []) → stands_in queue other ≡ true
    there other (inl q) = subst (λ k. stands_in queue k ≡ true) (sym q) e
    there other (inr h) = absurd h

-- the queue has grown by the numbers at places below this one
pub record GrownTo (numbers : List ℕ) (place : ℕ) (old new : List ℕ) : Type 0 where
  pub extra : List ℕ
  pub longer : new ≡ old ++ extra
  pub there : (k : ℕ) → k < place → stands_in new (get_or numbers k 0) ≡ true
  pub from : (number : ℕ) → stands_in new number ≡ true → (stands_in old number ≡ true) ⊎ HasNumber number numbers

pub grown_none : (numbers queue : List ℕ) → GrownTo numbers 0 queue queue
grown_none numbers queue = record { extra = []; longer = sym (append-nil queue); there = λ k h. absurd (omega (arith, h)); from = λ number h. inl h }

stays : (old extra new : List ℕ) (number : ℕ) → new ≡ old ++ extra → stands_in old number ≡ true → stands_in new number ≡ true
stays old extra new number e h = subst (λ (q : List ℕ). stands_in q number ≡ true) (sym e) (front old h)
  where
    front : (xs : List ℕ) → stands_in xs number ≡ true → stands_in (xs ++ extra) number ≡ true
    front [] q = absurd cc
    front (x ∷ xs) q = by (nat_eq number x) q (λ k. front xs k)
      where
        by : (b : Bool) → (b || stands_in xs number) ≡ true → (stands_in xs number ≡ true → stands_in (xs ++ extra) number ≡ true) → (b || stands_in (xs ++ extra) number) ≡ true
        by true k again = refl
        by false k again = again k

-- one number more
pub grown_next : (numbers : List ℕ) (place : ℕ) (old mid new : List ℕ) (number : ℕ) → get_or numbers place 0 ≡ number → HasNumber number numbers → GrownTo numbers place old mid → HasGrown (number ∷ []) mid new → GrownTo numbers (place + 1) old new
grown_next numbers place old mid new number at is was now = record {
  extra = was.extra ++ now.extra;
  longer = now.longer ∙ ap (λ q. q ++ now.extra) was.longer ∙ append_assoc old was.extra now.extra;
  there = λ k h. there k h (nat_eq k place) refl;
  from = λ other h. by other (now.from other h);
}
  where
    here : stands_in new (get_or numbers place 0) ≡ true
    here = now.there (get_or numbers place 0) (inl at)

    there : (k : ℕ) → k < place + 1 → (b : Bool) → nat_eq k place ≡ b → stands_in new (get_or numbers k 0) ≡ true
    there k h true e = subst (λ m. stands_in new (get_or numbers m 0) ≡ true) (sym (eqb-true k place e)) here
    there k h false e = stays mid now.extra new (get_or numbers k 0) now.longer (was.there k (less k h e))
      where
        less : (k : ℕ) → k < place + 1 → nat_eq k place ≡ false → k < place
        less k h e = let no : (k ≡ place) → ⊥ = (λ q. let r = eq-eqb k place q in absurd cc) in omega (arith, h, no)

    by : (other : ℕ) → (stands_in mid other ≡ true) ⊎ HasNumber other (number ∷ []) → (stands_in old other ≡ true) ⊎ HasNumber other numbers
    by other (inl h) = was.from other h
    by other (inr (inl e)) = inr (subst (λ k. HasNumber k numbers) (sym e) is)
    by other (inr (inr h)) = absurd h

-- all of them
pub grown_all : (numbers : List ℕ) (place : ℕ) (old new : List ℕ) → length numbers ≤ place → GrownTo numbers place old new → HasGrown numbers old new
grown_all numbers place old new h was = record {
  extra = was.extra;
  longer = was.longer;
  there = λ number k. (let r = index_of_number numbers number k in subst (λ m. stands_in new m ≡ true) r.2 (was.there r.0 (omega (arith, r.1, h))));
  from = was.from;
}

-- behind the mentions of the first
pub searched_first : (lists : List (List ℕ)) (start : ℕ) (numbers new : List ℕ) → mentioned lists start ≡ numbers → HasGrown numbers [] new → IsSearched lists start 0 new
searched_first lists start numbers new e grown = record {
  sound = λ number h. by number (grown.from number h);
  first = λ number h. grown.there number (subst (λ ns. HasNumber number ns) e h);
  done = λ place less. absurd (omega (arith, less));
}
  where
    by : (number : ℕ) → (false ≡ true) ⊎ HasNumber number numbers → LeadsTo lists start number
    by number (inl q) = absurd cc
    by number (inr h) = (0, subst (λ ns. HasNumber number ns) (sym e) h)

-- no number is left at that place
pub searched_past : (lists : List (List ℕ)) (start next : ℕ) (queue : List ℕ) → length queue ≤ next → IsSearched lists start next queue → IsSearched lists start (next + 1) queue
searched_past lists start next queue past was = record { sound = was.sound; first = was.first; done = λ place h k. was.done place (omega (arith, k, past)) k }

-- the number at that place was visited
pub searched_next : (lists : List (List ℕ)) (start next : ℕ) (old new numbers : List ℕ) → next < length old → mentioned lists (get_or old next 0) ≡ numbers → IsSearched lists start next old → HasGrown numbers old new → IsSearched lists start (next + 1) new
searched_next lists start next old new numbers here e was grown = record {
  sound = λ number h. sound number (grown.from number h);
  first = λ number h. stays old grown.extra new number grown.longer (was.first number h);
  done = λ place h k. done place h (nat_eq place next) refl;
}
  where
    is_there : (queue : List ℕ) (i : ℕ) → i < length queue → stands_in queue (get_or queue i 0) ≡ true
    is_there [] i h = absurd (omega (arith, h))
    is_there (x ∷ queue) zero h = ap (λ b. b || stands_in queue x) (eq-eqb x x refl)
    is_there (x ∷ queue) (suc i) h = or_second (nat_eq (get_or queue i 0) x) (is_there queue i (omega (arith, h)))
      where
        or_second : (b : Bool) {c : Bool} → c ≡ true → (b || c) ≡ true
        or_second true q = refl
        or_second false q = q

    sound : (number : ℕ) → (stands_in old number ≡ true) ⊎ HasNumber number numbers → LeadsTo lists start number
    sound number (inl h) = was.sound number h
    sound number (inr h) =
        let r = was.sound (get_or old next 0) (is_there old next here) in
        (suc r.0, (get_or old next 0, r.1, subst (λ ns. HasNumber number ns) (sym e) h))

    same : (place : ℕ) → place < length old → get_or new place 0 ≡ get_or old place 0
    same place h = ap (λ q. get_or q place 0) grown.longer ∙ get_or-append old grown.extra 0 place h

    done : (place : ℕ) → place < next + 1 → (b : Bool) → nat_eq place next ≡ b → (number : ℕ) → HasNumber number (mentioned lists (get_or new place 0)) → stands_in new number ≡ true
    done place h true q number k =
        let at : place ≡ next = eqb-true place next q in
        let now = subst (λ m. HasNumber number (mentioned lists m)) (ap (λ i. get_or new i 0) at ∙ same next here) k in
        grown.there number (subst (λ ns. HasNumber number ns) e now)
    done place h false q number k =
        let no : (place ≡ next) → ⊥ = (λ w. let r = eq-eqb place next w in absurd cc) in
        let before : place < next = omega (arith, h, no) in
        let inside : place < length old = omega (arith, before, here) in
        stays old grown.extra new number grown.longer (was.done place before inside number (subst (λ m. HasNumber number (mentioned lists m)) (same place inside) k))

-- each number in the queue has a list
pub in_queue : (marks : List Bool) (queue : List ℕ) (place : ℕ) → AreMarks marks queue → place < length queue → get_or queue place 0 < length marks
in_queue marks queue place are h = set_within marks (get_or queue place 0) (are.each (get_or queue place 0) ∙ is_there queue place h)
  where
    is_there : (queue : List ℕ) (i : ℕ) → i < length queue → stands_in queue (get_or queue i 0) ≡ true
    is_there [] i h = absurd (omega (arith, h))
    is_there (x ∷ queue) zero h = ap (λ b. b || stands_in queue x) (eq-eqb x x refl)
    is_there (x ∷ queue) (suc i) h = or_second (nat_eq (get_or queue i 0) x) (is_there queue i (omega (arith, h)))
      where
        or_second : (b : Bool) {c : Bool} → c ≡ true → (b || c) ≡ true
        or_second true q = refl
        or_second false q = q

-- the search is at its end
pub all_reached : (lists : List (List ℕ)) (start next : ℕ) (marks : List Bool) (queue : List ℕ) → length marks ≤ next → AreMarks marks queue → IsSearched lists start next queue → AreReached lists start marks
all_reached lists start next marks queue past are was = record {
  sound = λ number h. was.sound number (sym (are.each number) ∙ h);
  first = λ number h. are.each number ∙ was.first number h;
  closed = λ last number h k. are.each number ∙ closed last number (sym (are.each last) ∙ h) k;
}
  where
    few : length queue ≤ length marks
    few = length-le_from_distinct_below queue (length marks) are.distinct (λ q e. set_within marks q (are.each q ∙ e))

    place_of : (queue : List ℕ) (number : ℕ) → stands_in queue number ≡ true → (i : ℕ) × (i < length queue) × (get_or queue i 0 ≡ number)
    place_of [] number e = absurd cc
    place_of (x ∷ queue) number e = by (nat_eq number x) refl e (λ k. place_of queue number k)
      where
        by : (b : Bool) → nat_eq number x ≡ b → (b || stands_in queue number) ≡ true → (stands_in queue number ≡ true → (i : ℕ) × (i < length queue) × (get_or queue i 0 ≡ number))
            → (i : ℕ) × (i < suc (length queue)) × (get_or (x ∷ queue) i 0 ≡ number)
        by true q k again = (0, omega arith, sym (eqb-true number x q))
        by false q k again = let r = again k in (suc r.0, omega (arith, r.1), r.2)

    closed : (last number : ℕ) → stands_in queue last ≡ true → HasNumber number (mentioned lists last) → stands_in queue number ≡ true
    closed last number h k =
        let r = place_of queue last h in
        was.done r.0 (omega (arith, r.1, few, past)) r.1 number (subst (λ m. HasNumber number (mentioned lists m)) (sym r.2) k)

-- what a number mentions has lists
pub within_at : (mentions : List (Vec ℕ)) (number : ℕ) (list : Vec ℕ) (numbers : List ℕ) (n : ℕ) → AreWithin mentions → number < length mentions → list ≡ get_or mentions number list → numbers ≡ list.items → n ≡ length mentions → All (λ k. k < n) numbers
within_at mentions number list numbers n within h e q c =
    subst (λ (m : ℕ). All (λ k. k < m) numbers) (sym c)
    (subst (λ (ns : List ℕ). All (λ k. k < length mentions) ns) (sym q)
    (subst (λ (v : Vec ℕ). All (λ k. k < length mentions) v.items) (sym e) (within number list h)))
