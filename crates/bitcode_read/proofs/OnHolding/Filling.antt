-- Functions that get their bodies one after the other.
use Rattle.std.proofs.Common.{◌≡◌, ◌<◌, ◌+◌, ℕ, zero, suc, Bool, true, false, List, [], ◌∷◌, ◌++◌, length, set, slice_get, get_or, drop, Option, Some, None, ◌⊎◌, inl, inr, refl, sym, ap, subst, ◌∙◌, arith, append_assoc, length-append, add-one}
use Rattle.std.specs.Option.{option_map_or}
use Rattle.module_arena.specs.declared.entry.Body.{Body}
use Rattle.module_arena.specs.declared.entry.Function.{Function}
use Rattle.module_arena.specs.Changes.{changed_at, with_body}
use Rattle.module_arena.specs.Lists.{Lists}
use Rattle.bitcode_read.specs.Holding.Holding.{AreUndefined, DefinesNext, NextSuits, Suits, defined_by}
use Rattle.bitcode_read.proofs.OnHolding.GivenInOrder.{at_each}

-- ---- lists

there : {A : Type 0} (xs : List A) (n : ℕ) → n < length xs → (x : A) × (slice_get xs n ≡ Some x)
there [] n lt = absurd (omega arith)
there (x ∷ xs) zero lt = (x, refl)
there (x ∷ xs) (suc n) lt = there xs n (omega arith)

drop_some : {A : Type 0} (xs : List A) (n : ℕ) (x : A) → slice_get xs n ≡ Some x → drop n xs ≡ x ∷ drop (suc n) xs
drop_some [] n x h = absurd (cc)
drop_some (y ∷ xs) zero x h = ap (λ z. z ∷ xs) (is h)
  where
    is : Some y ≡ Some x → y ≡ x
    is e = cc
drop_some (y ∷ xs) (suc n) x h = drop_some xs n x h

drop_none : {A : Type 0} (xs : List A) (n : ℕ) → slice_get xs n ≡ None → drop n xs ≡ []
drop_none [] zero h = refl
drop_none [] (suc n) h = refl
drop_none (x ∷ xs) zero h = absurd (cc)
drop_none (x ∷ xs) (suc n) h = drop_none xs n h

drop_none_next : {A : Type 0} (xs : List A) (n : ℕ) → slice_get xs n ≡ None → drop (suc n) xs ≡ []
drop_none_next [] n h = refl
drop_none_next (x ∷ xs) zero h = absurd (cc)
drop_none_next (x ∷ xs) (suc n) h = drop_none_next xs n h

drop_past : {A : Type 0} (xs : List A) (n : ℕ) → n ≡ length xs → drop n xs ≡ []
drop_past [] zero is = refl
drop_past [] (suc n) is = refl
drop_past (x ∷ xs) zero is = absurd (omega arith)
drop_past (x ∷ xs) (suc n) is = drop_past xs n (omega arith)

get_some : (xs : List Bool) (n : ℕ) (x : Bool) → slice_get xs n ≡ Some x → get_or xs n false ≡ x
get_some [] n x h = absurd (cc)
get_some (y ∷ xs) zero x h = is h
  where
    is : Some y ≡ Some x → y ≡ x
    is e = cc
get_some (y ∷ xs) (suc n) x h = get_some xs n x h

get_none : (xs : List Bool) (n : ℕ) → slice_get xs n ≡ None → get_or xs n false ≡ false
get_none [] n h = refl
get_none (x ∷ xs) zero h = absurd (cc)
get_none (x ∷ xs) (suc n) h = get_none xs n h

cons_changed : {A : Type 0} (x : A) (xs : List A) (k : ℕ) (change : A → A) → changed_at (x ∷ xs) (suc k) change ≡ x ∷ changed_at xs k change
cons_changed {A = A} x xs k change = go (slice_get xs k)
  where
    go : (o : Option A) → option_map_or (λ y. set (x ∷ xs) (suc k) (change y)) o (x ∷ xs) ≡ x ∷ option_map_or (λ y. set xs k (change y)) o xs
    go None = refl
    go (Some y) = refl

done_next : {A : Type 0} (done : List A) (before : A) (change : A → A) (rest : List A) → changed_at (done ++ before ∷ rest) (length done) change ≡ done ++ change before ∷ rest
done_next [] before change rest = refl
done_next (x ∷ done) before change rest = cons_changed x (done ++ before ∷ rest) (length done) change ∙ ap (λ l. x ∷ l) (done_next done before change rest)

found_next : {A : Type 0} (done : List A) (next : A) (rest : List A) → slice_get (done ++ next ∷ rest) (length done) ≡ Some next
found_next [] next rest = refl
found_next (x ∷ done) next rest = found_next done next rest

-- ---- so far

-- the first functions are done, and these bodies are left for those behind them
pub record IsFilling (a0 : Lists) (ds : List Bool) (bodies : List Body) (n : ℕ) (a : Lists) (left : List Body) : Type 0 where
  pub done : List Function
  pub many : length done ≡ n
  pub is : a ≡ record a0 { functions = done ++ drop n a0.functions }
  pub whole : defined_by a0.functions ds bodies ≡ done ++ defined_by (drop n a0.functions) (drop n ds) left
  pub suits : Suits (length a0.table.types) (length a0.constants) (drop n a0.functions) (drop n ds) left

pub fills_none : (a0 : Lists) (ds : List Bool) (bodies left : List Body) → left ≡ bodies → Suits (length a0.table.types) (length a0.constants) a0.functions ds bodies → IsFilling a0 ds bodies 0 a0 left
fills_none a0 ds bodies left is suits = subst (λ l. IsFilling a0 ds bodies 0 a0 l) (sym is) (record { done = []; many = refl; is = refl; whole = refl; suits = suits })

module _ (a0 : Lists) (ds : List Bool) (bodies : List Body) (n : ℕ) (a : Lists) (left : List Body) (h : IsFilling a0 ds bodies n a left) (lt : n < length a0.functions) where
  abbrev types : ℕ
  types = length a0.table.types

  abbrev constants : ℕ
  constants = length a0.constants

  next : Function
  next = (there a0.functions n lt).0

  at_next : slice_get a0.functions n ≡ Some next
  unfolding next
  at_next = (there a0.functions n lt).1

  later : drop n a0.functions ≡ next ∷ drop (suc n) a0.functions
  later = drop_some a0.functions n next at_next

  functions_are : a.functions ≡ h.done ++ next ∷ drop (suc n) a0.functions
  functions_are = ap (λ (x : Lists). x.functions) h.is ∙ ap (λ l. h.done ++ l) later

  pub is_known : n < length a.functions
  is_known =
      let many : length a.functions ≡ length h.done + suc (length (drop (suc n) a0.functions)) = ap (λ (l : List Function). length l) functions_are ∙ length-append h.done (next ∷ drop (suc n) a0.functions) in
      let done = h.many in
      omega arith

  found_is : (f : Function) → slice_get a.functions n ≡ Some f → f ≡ next
  found_is f is = some_is (sym is ∙ (λ j. slice_get (functions_are j) (sym h.many j)) ∙ found_next h.done next (drop (suc n) a0.functions))
    where
      some_is : Some f ≡ Some next → f ≡ next
      some_is e = cc

  pub is_undefined : AreUndefined a0 → (f : Function) → slice_get a.functions n ≡ Some f → f.body ≡ None
  is_undefined none f is = ap (λ (g : Function). g.body) (found_is f is) ∙ at_each (λ (g : Function). g.body ≡ None) a0.functions n next none at_next

  -- the functions behind, with this one
  suits_now : Suits types constants (next ∷ drop (suc n) a0.functions) (drop n ds) left
  suits_now = subst (λ l. Suits types constants l (drop n ds) left) later h.suits

  whole_now : defined_by a0.functions ds bodies ≡ h.done ++ defined_by (next ∷ drop (suc n) a0.functions) (drop n ds) left
  whole_now = h.whole ∙ ap (λ l. h.done ++ defined_by l (drop n ds) left) later

  one_more : (f : Function) → length (h.done ++ f ∷ []) ≡ suc n
  one_more f = let e = length-append h.done (f ∷ []) in let many = h.many in omega arith

  -- the flag of this one
  flag : (is : Bool) → is ≡ get_or ds n false → (drop n ds ≡ is ∷ drop (suc n) ds) ⊎ ((is ≡ false) × (drop n ds ≡ []) × (drop (suc n) ds ≡ []))
  flag is e = by (slice_get ds n) refl
    where
      by : (o : Option Bool) → slice_get ds n ≡ o → (drop n ds ≡ is ∷ drop (suc n) ds) ⊎ ((is ≡ false) × (drop n ds ≡ []) × (drop (suc n) ds ≡ []))
      by None at = inr (e ∙ get_none ds n at, drop_none ds n at, drop_none_next ds n at)
      by (Some d) at = inl (drop_some ds n d at ∙ ap (λ b. b ∷ drop (suc n) ds) (sym (e ∙ get_some ds n d at)))

  -- one that is not to be defined stays
  stays : (now : List Function) → now ≡ h.done ++ next ∷ [] → defined_by (next ∷ drop (suc n) a0.functions) (drop n ds) left ≡ next ∷ defined_by (drop (suc n) a0.functions) (drop (suc n) ds) left
      → Suits types constants (drop (suc n) a0.functions) (drop (suc n) ds) left → IsFilling a0 ds bodies (suc n) a left
  stays now is same suits = record {
    done = h.done ++ next ∷ [];
    many = one_more next;
    is = h.is ∙ ap (λ l. record a0 { functions = l }) (ap (λ l. h.done ++ l) later ∙ sym (append_assoc h.done (next ∷ []) (drop (suc n) a0.functions)));
    whole = whole_now ∙ (ap (λ l. h.done ++ l) same ∙ sym (append_assoc h.done (next ∷ []) (defined_by (drop (suc n) a0.functions) (drop (suc n) ds) left)));
    suits = suits;
  }

  pub passes_one : false ≡ get_or ds n false → IsFilling a0 ds bodies (n + 1) a left
  passes_one e = subst (λ k. IsFilling a0 ds bodies k a left) (sym (add-one n)) (by (flag false e))
    where
      by : (drop n ds ≡ false ∷ drop (suc n) ds) ⊎ ((false ≡ false) × (drop n ds ≡ []) × (drop (suc n) ds ≡ [])) → IsFilling a0 ds bodies (suc n) a left
      by (inl is) =
          stays (h.done ++ next ∷ []) refl (ap (λ l. defined_by (next ∷ drop (suc n) a0.functions) l left) is) (subst (λ l. Suits types constants (next ∷ drop (suc n) a0.functions) l left) is suits_now)
      by (inr is) =
          stays (h.done ++ next ∷ []) refl
          (ap (λ l. defined_by (next ∷ drop (suc n) a0.functions) l left) is.1 ∙ ap (λ l. next ∷ defined_by (drop (suc n) a0.functions) l left) (sym is.2))
          (subst (λ l. Suits types constants (drop (suc n) a0.functions) l left) (sym is.2) (subst (λ l. Suits types constants (next ∷ drop (suc n) a0.functions) l left) is.1 suits_now))

  -- where this one is to be defined
  flag_true : true ≡ get_or ds n false → drop n ds ≡ true ∷ drop (suc n) ds
  flag_true e = by (flag true e)
    where
      by : (drop n ds ≡ true ∷ drop (suc n) ds) ⊎ ((true ≡ false) × (drop n ds ≡ []) × (drop (suc n) ds ≡ [])) → drop n ds ≡ true ∷ drop (suc n) ds
      by (inl is) = is
      by (inr is) = absurd (never is.0)
        where
          never : true ≡ false → ⊥
          never e = cc

  suits_true : true ≡ get_or ds n false → Suits types constants (next ∷ drop (suc n) a0.functions) (true ∷ drop (suc n) ds) left
  suits_true e = subst (λ l. Suits types constants (next ∷ drop (suc n) a0.functions) l left) (flag_true e) suits_now

  pub next_suits : true ≡ get_or ds n false → (f : Function) → slice_get a.functions n ≡ Some f → NextSuits (length a.table.types) (length a.constants) (length f.parameters) left
  next_suits e f is =
      subst (λ (x : Lists). NextSuits (length x.table.types) (length x.constants) (length f.parameters) left) (sym h.is)
      (subst (λ (g : Function). NextSuits types constants (length g.parameters) left) (sym (found_is f is)) (by left (suits_true e)))
    where
      by : (left : List Body) → Suits types constants (next ∷ drop (suc n) a0.functions) (true ∷ drop (suc n) ds) left → NextSuits types constants (length next.parameters) left
      by [] s = tt
      by (b ∷ bs) s = s.0

  pub fills_one : (new : Lists) (now : List Body) → true ≡ get_or ds n false → DefinesNext a n left new now → IsFilling a0 ds bodies (n + 1) new now
  fills_one new now e d = subst (λ k. IsFilling a0 ds bodies k new now) (sym (add-one n)) (by left (suits_true e) (whole_now ∙ ap (λ l. h.done ++ defined_by (next ∷ drop (suc n) a0.functions) l left) (flag_true e)) d)
    where
      by : (left : List Body) → Suits types constants (next ∷ drop (suc n) a0.functions) (true ∷ drop (suc n) ds) left
          → defined_by a0.functions ds bodies ≡ h.done ++ defined_by (next ∷ drop (suc n) a0.functions) (true ∷ drop (suc n) ds) left → DefinesNext a n left new now → IsFilling a0 ds bodies (suc n) new now
      by [] s whole d = absurd s
      by (b ∷ bs) s whole d = record {
        done = h.done ++ record next { body = Some b } ∷ [];
        many = one_more (record next { body = Some b });
        is =
            d.0
            ∙ ((λ j. with_body (h.is j) n b)
            ∙ ap (λ l. record a0 { functions = l })
            (ap (λ l. changed_at (h.done ++ l) n (λ (f : Function). record f { body = Some b })) later
            ∙ (ap (λ k. changed_at (h.done ++ next ∷ drop (suc n) a0.functions) k (λ (f : Function). record f { body = Some b })) (sym h.many)
            ∙ (done_next h.done next (λ (f : Function). record f { body = Some b }) (drop (suc n) a0.functions) ∙ sym (append_assoc h.done (record next { body = Some b } ∷ []) (drop (suc n) a0.functions))))));
        whole = whole
            ∙ (sym (append_assoc h.done (record next { body = Some b } ∷ []) (defined_by (drop (suc n) a0.functions) (drop (suc n) ds) bs))
            ∙ ap (λ l. (h.done ++ record next { body = Some b } ∷ []) ++ defined_by (drop (suc n) a0.functions) (drop (suc n) ds) l) (sym d.1));
        suits = subst (λ l. Suits types constants (drop (suc n) a0.functions) (drop (suc n) ds) l) (sym d.1) s.1;
      }

-- what is known of an arena and of bodies is known of the same
pub filled : (a0 : Lists) (ds : List Bool) (bodies : List Body) (n : ℕ) (a b : Lists) (xs ys : List Body) → b ≡ a → ys ≡ xs → IsFilling a0 ds bodies n a xs → IsFilling a0 ds bodies n b ys
filled a0 ds bodies n a b xs ys same left h = subst (λ l. IsFilling a0 ds bodies n b l) (sym left) (subst (λ (x : Lists). IsFilling a0 ds bodies n x xs) (sym same) h)

-- no body is left
pub next_none : (old new : Lists) (number : ℕ) (xs ys : List Body) → length xs ≡ 0 → xs ≡ ys → new ≡ old → DefinesNext old number xs new ys
next_none old new number [] ys none same is = (is, sym same)
next_none old new number (b ∷ bs) ys none same is = absurd (omega arith)

-- all are done
pub fills_all : (a0 : Lists) (ds : List Bool) (bodies : List Body) (n : ℕ) (a : Lists) (left : List Body) → IsFilling a0 ds bodies n a left → n ≡ length a0.functions → a ≡ record a0 { functions = defined_by a0.functions ds bodies }
fills_all a0 ds bodies n a left h is =
    let none : drop n a0.functions ≡ [] = drop_past a0.functions n is in
    h.is ∙ ap (λ l. record a0 { functions = l }) (ap (λ l. h.done ++ l) (none ∙ sym (nothing (drop n ds))) ∙ (ap (λ l. h.done ++ defined_by l (drop n ds) left) (sym none) ∙ sym h.whole))
  where
    nothing : (d : List Bool) → defined_by [] d left ≡ []
    nothing [] = refl
    nothing (x ∷ d) = refl
