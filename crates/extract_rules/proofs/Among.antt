-- Names that are among others.
use Rattle.std.proofs.Common.{◌≡◌, ℕ, suc, Bool, true, false, ◌&&◌, ◌||◌, ◌⊎◌, inl, inr, List, [], ◌∷◌, ◌++◌, map, filter, flat_map, Some, refl, sym, ap, ◌∙◌, subst, bytes_eq, cond, slice_get}
use Rattle.std.specs.Cmp.Lexicographic.{same_text}
use Rattle.std.specs.List.{list_any}
use Rattle.std.proofs.lemmas.Bool.{or_left, or_right, or_cases}
use Rattle.std.proofs.lemmas.Cmp.{nat_list_eq_equiv}
use Rattle.std.proofs.lemmas.List.Folds.{list_any-append}
use Rattle.module_arena.specs.Module.{Bytes}
use Rattle.extract_rules.specs.Selected.{is_among}

pub name_self : (n : Bytes) → bytes_eq n n ≡ true
name_self n = nat_list_eq_equiv.refl n

pub name_exact : (m n : Bytes) → bytes_eq m n ≡ true → m ≡ n
name_exact m n h = same_text m n (sym h)

-- two tests that follow from one another are one
pub same_test : (a b : Bool) → (a ≡ true → b ≡ true) → (b ≡ true → a ≡ true) → a ≡ b
same_test true b f g = sym (f refl)
same_test false false f g = refl
same_test false true f g = g refl

pub turned_name : (m n : Bytes) → bytes_eq m n ≡ bytes_eq n m
turned_name m n = same_test (bytes_eq m n) (bytes_eq n m) (turn m n) (turn n m)
  where
    turn : (x y : Bytes) → bytes_eq x y ≡ true → bytes_eq y x ≡ true
    turn x y e = subst (λ z. bytes_eq y z ≡ true) (sym (name_exact x y e)) (name_self y)

-- ---- one of two lists

pub among_front : (xs ys : List Bytes) (n : Bytes) → is_among xs n ≡ true → is_among (xs ++ ys) n ≡ true
among_front xs ys n h = list_any-append (bytes_eq n) xs ys ∙ or_left _ _ h

pub among_back : (xs ys : List Bytes) (n : Bytes) → is_among ys n ≡ true → is_among (xs ++ ys) n ≡ true
among_back xs ys n h = list_any-append (bytes_eq n) xs ys ∙ or_right (is_among xs n) _ h

pub among_cases : (xs ys : List Bytes) (n : Bytes) → is_among (xs ++ ys) n ≡ true → (is_among xs n ≡ true) ⊎ (is_among ys n ≡ true)
among_cases xs ys n h = or_cases (is_among xs n) _ (sym (list_any-append (bytes_eq n) xs ys) ∙ h)

-- ---- one of what is gathered

pub any_key : {A B : Type 0} (key : A → B) (test : B → Bool) (xs : List A) → list_any test (map key xs) ≡ list_any (λ x. test (key x)) xs
any_key key test [] = refl
any_key key test (x ∷ xs) = ap (λ b. test (key x) || b) (any_key key test xs)

pub any_gathered : {A B : Type 0} (test : B → Bool) (g : A → List B) (xs : List A) → list_any test (flat_map g xs) ≡ list_any (λ x. list_any test (g x)) xs
any_gathered test g [] = refl
any_gathered test g (x ∷ xs) = list_any-append test (g x) (flat_map g xs) ∙ ap (λ b. list_any test (g x) || b) (any_gathered test g xs)

pub any_same : {A : Type 0} (p q : A → Bool) (xs : List A) → ((x : A) → p x ≡ q x) → list_any p xs ≡ list_any q xs
any_same p q [] f = refl
any_same p q (x ∷ xs) f = ap (λ b. b || list_any p xs) (f x) ∙ ap (λ b. q x || b) (any_same p q xs f)

pub any_follow : {A : Type 0} (p q : A → Bool) (xs : List A) → ((x : A) → p x ≡ true → q x ≡ true) → list_any p xs ≡ true → list_any q xs ≡ true
any_follow p q [] f h = h
any_follow p q (x ∷ xs) f h = go (or_cases (p x) _ h) (any_follow p q xs f)
  where
    go : (p x ≡ true) ⊎ (list_any p xs ≡ true) → (list_any p xs ≡ true → list_any q xs ≡ true) → list_any q (x ∷ xs) ≡ true
    go (inl e) more = or_left _ _ (f x e)
    go (inr e) more = or_right (q x) _ (more e)

-- the element that passes
pub any_where : {A : Type 0} (p : A → Bool) (xs : List A) → list_any p xs ≡ true → (x : A) × (k : ℕ) × (slice_get xs k ≡ Some x) × (p x ≡ true)
any_where p [] h = cc
any_where {A = A} p (x ∷ xs) h = go (or_cases (p x) _ h) (any_where p xs)
  where
    go : (p x ≡ true) ⊎ (list_any p xs ≡ true) → (list_any p xs ≡ true → (y : A) × (k : ℕ) × (slice_get xs k ≡ Some y) × (p y ≡ true)) → (y : A) × (k : ℕ) × (slice_get (x ∷ xs) k ≡ Some y) × (p y ≡ true)
    go (inl e) more = (x, 0, refl, e)
    go (inr e) more = let r = more e in (r.0, suc r.1, r.2, r.3)

-- one that passes a test, among those that do
pub among_filter : (test : Bytes → Bool) (xs : List Bytes) (n : Bytes) → is_among (filter test xs) n ≡ (test n && is_among xs n)
among_filter test [] n = by (test n)
  where
    by : (b : Bool) → false ≡ (b && false)
    by true = refl
    by false = refl
among_filter test (x ∷ xs) n = kept (test x) refl ∙ joined (among_filter test xs n)
  where
    kept : (b : Bool) → test x ≡ b → is_among (cond b (x ∷ filter test xs) (filter test xs)) n ≡ ((bytes_eq n x && b) || is_among (filter test xs) n)
    kept true e = ap (λ c. c || is_among (filter test xs) n) (right (bytes_eq n x))
      where
        right : (c : Bool) → c ≡ (c && true)
        right true = refl
        right false = refl
    kept false e = ap (λ c. c || is_among (filter test xs) n) (right (bytes_eq n x))
      where
        right : (c : Bool) → false ≡ (c && false)
        right true = refl
        right false = refl

    here : (b : Bool) → bytes_eq n x ≡ b → (b && test x) ≡ (test n && b)
    here true e = ap test (sym (name_exact n x e)) ∙ right (test n)
      where
        right : (c : Bool) → c ≡ (c && true)
        right true = refl
        right false = refl
    here false e = right (test n)
      where
        right : (c : Bool) → false ≡ (c && false)
        right true = refl
        right false = refl

    shared : (t a b : Bool) → ((t && a) || (t && b)) ≡ (t && (a || b))
    shared true a b = refl
    shared false a b = refl

    joined : is_among (filter test xs) n ≡ (test n && is_among xs n) → ((bytes_eq n x && test x) || is_among (filter test xs) n) ≡ (test n && (bytes_eq n x || is_among xs n))
    joined rest = ap (λ c. c || is_among (filter test xs) n) (here (bytes_eq n x) refl) ∙ ap (λ c. (test n && bytes_eq n x) || c) rest ∙ shared (test n) (bytes_eq n x) (is_among xs n)
