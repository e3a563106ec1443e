-- What holds of values that are read where no rule is broken: one fact for each layout.
use Rattle.std.proofs.Common.{◌≡◌, ◌<◌, ℕ, zero, suc, Bool, true, false, List, [], ◌∷◌, Option, Some, None, length, get_or, nat_lt, refl, ap, arith, ◌⊎◌, inl, inr}
use Rattle.std.specs.List.{AllByRecursion}
use Rattle.std.proofs.lemmas.Bool.{ltb-true}
use Rattle.module_arena.specs.Forms.{is_not_empty}
use Rattle.record_table.specs.Walk.{Walk, going, stopped, ask, break, stop, next, count_left, told}
use Rattle.record_table.specs.Layout.{Layout, number, nothing, many, is_positive, option_by, option, either_by, either, indexed, coded, found_or, judged}

-- no rule is broken, and it is known what stands next
abbrev pub IsFine : Walk → Type 0
IsFine (going rest None) = Unit {0}
IsFine (going rest (Some r)) = ⊥
IsFine (stopped broken) = ⊥

-- it is known what stands next, or a rule is broken
abbrev pub IsSound : Walk → Type 0
IsSound (going rest broken) = Unit {0}
IsSound (stopped None) = ⊥
IsSound (stopped (Some r)) = Unit {0}

-- Where the walk behind a reading is fine, that in front of it was, and what is read is so; behind a sound walk there is a sound one.
pub record IsRead {A : Type 0} (P : A → Type 0) (one : Walk → A × Walk) : Type 0 where
  pub back : (w : Walk) → IsFine (one w).1 → IsFine w × P (one w).0
  pub sound : (w : Walk) → IsSound w → IsSound (one w).1

-- any value, where the walk alone matters
abbrev pub Any : {A : Type 0} → A → Type 0
Any x = Unit {0}

-- ---- steps of a walk

pub next_back : (w : Walk) → IsFine (next w).1 → IsFine w
unfolding next
next_back (going [] None) h = absurd h
next_back (going [] (Some r)) h = absurd h
next_back (going (n ∷ rest) None) h = tt
next_back (going (n ∷ rest) (Some r)) h = absurd h
next_back (stopped broken) h = absurd h

pub next_sound : (w : Walk) → IsSound w → IsSound (next w).1
unfolding next
next_sound (going [] None) h = tt
next_sound (going [] (Some r)) h = tt
next_sound (going (n ∷ rest) broken) h = tt
next_sound (stopped None) h = absurd h
next_sound (stopped (Some r)) h = tt

pub never_broken : (rule : ℕ) (w : Walk) → IsFine (break rule w) → ⊥
never_broken rule (going rest None) h = h
never_broken rule (going rest (Some r)) h = h
never_broken rule (stopped broken) h = h

pub broken_sound : (rule : ℕ) (w : Walk) → IsSound w → IsSound (break rule w)
broken_sound rule (going rest broken) h = tt
broken_sound rule (stopped None) h = absurd h
broken_sound rule (stopped (Some r)) h = tt

pub asked_back : (rule : ℕ) (b : Bool) (w : Walk) → IsFine (ask rule b w) → IsFine w × (b ≡ true)
asked_back rule true w h = (h, refl)
asked_back rule false w h = absurd (never_broken rule w h)

pub asked_sound : (rule : ℕ) (b : Bool) (w : Walk) → IsSound w → IsSound (ask rule b w)
asked_sound rule true w h = h
asked_sound rule false w h = broken_sound rule w h

pub never_stopped : (rule : ℕ) (w : Walk) → IsFine (stop rule w) → ⊥
never_stopped rule (going rest broken) h = h
never_stopped rule (stopped broken) h = h

pub stopped_sound : (rule : ℕ) (w : Walk) → IsSound w → IsSound (stop rule w)
stopped_sound rule (going rest None) h = tt
stopped_sound rule (going rest (Some r)) h = tt
stopped_sound rule (stopped None) h = absurd h
stopped_sound rule (stopped (Some r)) h = tt

-- ---- readings made of others

pub number_read : IsRead Any number.read
number_read = record { back = λ w h. (next_back w h, tt); sound = λ w s. next_sound w s }

pub nothing_read : IsRead Any nothing.read
nothing_read = record { back = λ w h. (h, tt); sound = λ w s. s }

pub weaker_read : {A : Type 0} {P : A → Type 0} {one : Walk → A × Walk} → IsRead P one → (Q : A → Type 0) → ((x : A) → P x → Q x) → IsRead Q one
weaker_read {one = one} is Q keeps = record { back = λ w h. let r = is.back w h in (r.0, keeps (one w).0 r.1); sound = λ w s. is.sound w s }

pub mapped_read : {A B : Type 0} {P : A → Type 0} {one : Walk → A × Walk} → IsRead P one → (Q : B → Type 0) (to : A → B) → ((x : A) → P x → Q (to x)) → IsRead Q (λ w. let x = one w in (to x.0, x.1))
mapped_read {one = one} is Q to keeps = record { back = λ w h. let r = is.back w h in (r.0, keeps (one w).0 r.1); sound = λ w s. is.sound w s }

pub asking_read : {A : Type 0} {P : A → Type 0} {one : Walk → A × Walk} (rule : ℕ) (test : A → Bool) → IsRead P one → IsRead (λ x. P x × (test x ≡ true)) (λ w. let x = one w in (x.0, ask rule (test x.0) x.1))
asking_read {one = one} rule test is = record {
  back = λ w h. let a = asked_back rule (test (one w).0) (one w).1 h in let r = is.back w a.0 in (r.0, (r.1, a.1));
  sound = λ w s. asked_sound rule (test (one w).0) (one w).1 (is.sound w s);
}

pub both_read : {A B : Type 0} {P : A → Type 0} {Q : B → Type 0} {one : Walk → A × Walk} {two : Walk → B × Walk} → IsRead P one → IsRead Q two
    → IsRead (λ (x : A × B). P x.0 × Q x.1) (λ w. let x = one w in let y = two x.1 in ((x.0, y.0), y.1))
both_read {one = one} is other = record {
  back = λ w h. let second = other.back (one w).1 h in let first = is.back w second.0 in (first.0, (first.1, second.1));
  sound = λ w s. other.sound (one w).1 (is.sound w s);
}

pub behind_read : {A B : Type 0} {P : A → Type 0} {Q : A → B → Type 0} {one : Walk → A × Walk} {two : A → Walk → B × Walk} → IsRead P one → ((x : A) → IsRead (Q x) (two x))
    → IsRead (λ (x : A × B). P x.0 × Q x.0 x.1) (λ w. let x = one w in let y = two x.0 x.1 in ((x.0, y.0), y.1))
behind_read {one = one} is other = record {
  back = λ w h. let second = (other (one w).0).back (one w).1 h in let first = is.back w second.0 in (first.0, (first.1, second.1));
  sound = λ w s. (other (one w).0).sound (one w).1 (is.sound w s);
}

-- ---- lists

many_back : {A : Type 0} (P : A → Type 0) (one : Walk → A × Walk) → IsRead P one → (n : ℕ) (w : Walk) → IsFine (many one n w).1 → IsFine w × (AllByRecursion P (many one n w).0 × (length (many one n w).0 ≡ n))
unfolding many
many_back P one is zero w h = (h, (tt, refl))
many_back P one is (suc n) (stopped broken) h = absurd h
many_back P one is (suc n) (going rest broken) h =
    let later = many_back P one is n (one (going rest broken)).1 h in
    let here = is.back (going rest broken) later.0 in
    (here.0, ((here.1, later.1.0), ap suc later.1.1))

many_sound : {A : Type 0} (P : A → Type 0) (one : Walk → A × Walk) → IsRead P one → (n : ℕ) (w : Walk) → IsSound w → IsSound (many one n w).1
unfolding many
many_sound P one is zero w s = s
many_sound P one is (suc n) (stopped broken) s = s
many_sound P one is (suc n) (going rest broken) s = many_sound P one is n (one (going rest broken)).1 (is.sound (going rest broken) s)

-- so many
pub many_read : {A : Type 0} {P : A → Type 0} {one : Walk → A × Walk} → IsRead P one → (n : ℕ) → IsRead (λ xs. AllByRecursion P xs × (length xs ≡ n)) (many one n)
many_read {P = P} {one = one} is n = record { back = many_back P one is n; sound = many_sound P one is n }

-- a count and so many
pub counted_read : {A : Type 0} {P : A → Type 0} {one : Walk → A × Walk} → IsRead P one → IsRead (AllByRecursion P) (λ w. let n = next w in many one n.0 n.1)
counted_read {P = P} {one = one} is = record {
  back = λ w h. let r = many_back P one is (next w).0 (next w).1 h in (next_back w r.0, r.1.0);
  sound = λ w s. many_sound P one is (next w).0 (next w).1 (next_sound w s);
}

not_empty : {A : Type 0} (xs : List A) (n : ℕ) → length xs ≡ n → is_positive n ≡ true → is_not_empty xs ≡ true
not_empty [] zero e h = h
not_empty [] (suc n) e h = absurd (omega arith)
not_empty (x ∷ xs) n e h = refl

-- a count that is not 0, and so many
pub counted_some_read : {A : Type 0} {P : A → Type 0} {one : Walk → A × Walk} → IsRead P one
    → IsRead (λ xs. AllByRecursion P xs × (is_not_empty xs ≡ true)) (λ w. let n = next w in many one n.0 (ask 1 (is_positive n.0) n.1))
counted_some_read {P = P} {one = one} is = record {
  back = λ w h.
      let v = ask 1 (is_positive (next w).0) (next w).1 in
      let r = many_back P one is (next w).0 v h in
      let a = asked_back 1 (is_positive (next w).0) (next w).1 r.0 in
      (next_back w a.0, (r.1.0, not_empty (many one (next w).0 v).0 (next w).0 r.1.1 a.1));
  sound = λ w s. many_sound P one is (next w).0 (ask 1 (is_positive (next w).0) (next w).1) (asked_sound 1 (is_positive (next w).0) (next w).1 (next_sound w s));
}

-- as many as there are operands
pub to_end_read : {A : Type 0} {P : A → Type 0} {one : Walk → A × Walk} → IsRead P one → IsRead (AllByRecursion P) (λ w. many one (count_left w) w)
to_end_read {P = P} {one = one} is = record {
  back = λ w h. let r = many_back P one is (count_left w) w h in (r.0, r.1.0);
  sound = λ w s. many_sound P one is (count_left w) w s;
}

-- ---- options, one of two, and codes

-- what is there is so
abbrev pub OfSome : {A : Type 0} → (A → Type 0) → Option A → Type 0
OfSome P None = Unit {0}
OfSome P (Some x) = P x

module _ {A : Type 0} (P : A → Type 0) (l : Layout A) (is : IsRead P l.read) where
  option_back : (n : ℕ) (w : Walk) → IsFine (option_by l n w).1 → IsFine w × OfSome P (option_by l n w).0
  unfolding option_by
  option_back zero w h = (h, tt)
  option_back (suc zero) w h = is.back w h
  option_back (suc (suc n)) w h = absurd (never_stopped 3 w h)

  option_sound : (n : ℕ) (w : Walk) → IsSound w → IsSound (option_by l n w).1
  unfolding option_by
  option_sound zero w s = s
  option_sound (suc zero) w s = is.sound w s
  option_sound (suc (suc n)) w s = stopped_sound 3 w s

  pub option_read : IsRead (OfSome P) (option l).read
  option_read = record {
    back = λ w h. let r = option_back (next w).0 (next w).1 h in (next_back w r.0, r.1);
    sound = λ w s. option_sound (next w).0 (next w).1 (next_sound w s);
  }

-- the one of two that it is is so
abbrev pub OfEither : {A B : Type 0} → (A → Type 0) → (B → Type 0) → A ⊎ B → Type 0
OfEither P Q (inl x) = P x
OfEither P Q (inr y) = Q y

module _ {A B : Type 0} (P : A → Type 0) (Q : B → Type 0) (a : Layout A) (b : Layout B) (is : IsRead P a.read) (other : IsRead Q b.read) where
  either_back : (n : ℕ) (w : Walk) → IsFine (either_by a b n w).1 → IsFine w × OfEither P Q (either_by a b n w).0
  unfolding either_by
  either_back zero w h = is.back w h
  either_back (suc zero) w h = other.back w h
  either_back (suc (suc n)) w h = absurd (never_stopped 3 w (is.back (stop 3 w) h).0)

  either_sound : (n : ℕ) (w : Walk) → IsSound w → IsSound (either_by a b n w).1
  unfolding either_by
  either_sound zero w s = is.sound w s
  either_sound (suc zero) w s = other.sound w s
  either_sound (suc (suc n)) w s = is.sound (stop 3 w) (stopped_sound 3 w s)

  pub either_read : IsRead (OfEither P Q) (either a b).read
  either_read = record {
    back = λ w h. let r = either_back (next w).0 (next w).1 h in (next_back w r.0, r.1);
    sound = λ w s. either_sound (next w).0 (next w).1 (next_sound w s);
  }

-- what is at a place of a list is one of it
pub at_place : {A : Type 0} (P : A → Type 0) (xs : List A) (d : A) (i : ℕ) → AllByRecursion P xs → i < length xs → P (get_or xs i d)
at_place P [] d i h lt = absurd (omega arith)
at_place P (x ∷ xs) d zero h lt = h.0
at_place P (x ∷ xs) d (suc i) h lt = at_place P xs d i h.1 (omega arith)

pub indexed_read : {A : Type 0} (P : A → Type 0) (same : A → A → Bool) (all : List A) (other : A) → AllByRecursion P all → IsRead P (indexed same all other).read
indexed_read P same all other each = record {
  back = λ w h.
      let a = asked_back 2 (nat_lt (next w).0 (length all)) (next w).1 h in
      (next_back w a.0, at_place P all other (next w).0 each (ltb-true (next w).0 (length all) a.1));
  sound = λ w s. asked_sound 2 (nat_lt (next w).0 (length all)) (next w).1 (next_sound w s);
}

found_back : {A : Type 0} (P : A → Type 0) (other : A) (o : Option A) (w : Walk) → ((x : A) → o ≡ Some x → P x) → IsFine (found_or other o w).1 → IsFine w × P (found_or other o w).0
found_back P other None w fits h = absurd (never_broken 3 w h)
found_back P other (Some x) w fits h = (h, fits x refl)

found_sound : {A : Type 0} (other : A) (o : Option A) (w : Walk) → IsSound w → IsSound (found_or other o w).1
found_sound other None w s = broken_sound 3 w s
found_sound other (Some x) w s = s

pub coded_read : {A : Type 0} (P : A → Type 0) (code : A → ℕ) (of_code : ℕ → Option A) (other : A) → ((n : ℕ) (x : A) → of_code n ≡ Some x → P x) → IsRead P (coded code of_code other).read
coded_read P code of_code other fits = record {
  back = λ w h. let r = found_back P other (of_code (next w).0) (next w).1 (fits (next w).0) h in (next_back w r.0, r.1);
  sound = λ w s. found_sound other (of_code (next w).0) (next w).1 (next_sound w s);
}

-- ---- records

pub told_fine : (w : Walk) → IsSound w → told w ≡ None → IsFine w
told_fine (going [] None) s e = tt
told_fine (going [] (Some r)) s e = cc
told_fine (going (n ∷ rest) None) s e = cc
told_fine (going (n ∷ rest) (Some r)) s e = cc
told_fine (stopped None) s e = s
told_fine (stopped (Some r)) s e = cc

-- what a record stands for that breaks no rule
pub judged_read : {A : Type 0} (P : A → Type 0) (l : Layout A) → IsRead P l.read → (operands : List ℕ) → (judged l operands).1 ≡ None → P (judged l operands).0
judged_read P l is operands e = (is.back (going operands None) (told_fine (l.read (going operands None)).1 (is.sound (going operands None) tt) e)).1
