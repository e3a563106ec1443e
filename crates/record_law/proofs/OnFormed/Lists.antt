-- Names among names, and the functions of a module in the making.
use Rattle.std.proofs.Common.{◌≡◌, suc, Bool, true, false, not, ◌||◌, List, [], ◌∷◌, ◌++◌, length, map, Some, bytes_eq, refl, sym, ap, subst, ◌∙◌, append_assoc}
use Rattle.std.specs.List.{list_all, list_any, AllByRecursion}
use Rattle.std.proofs.lemmas.Bool.{and_parts, and_from, or_left, or_right}
use Rattle.std.proofs.lemmas.Slice.Eq.{bytes_eq-Decides}
use Rattle.module_arena.specs.Module.{Bytes, Function}
use Rattle.record_table.specs.Bodies.{Begun}
use Rattle.record_table.specs.Records.{first_due, give_body, with_body}

any_map : {A : Type 0} (f : A → Bytes) (n : Bytes) (xs : List A) → list_any (λ x. bytes_eq n (f x)) xs ≡ list_any (bytes_eq n) (map f xs)
any_map f n [] = refl
any_map f n (x ∷ xs) = ap (λ b. bytes_eq n (f x) || b) (any_map f n xs)

-- none of some things has that name
pub none_named : {A : Type 0} (f : A → Bytes) (n : Bytes) (xs : List A) → not (list_any (λ x. bytes_eq n (f x)) xs) ≡ true → list_any (bytes_eq n) (map f xs) ≡ false
none_named f n xs h = sym (any_map f n xs) ∙ by (list_any (λ x. bytes_eq n (f x)) xs) h
  where
    by : (b : Bool) → not b ≡ true → b ≡ false
    by true e = cc
    by false e = refl

pub none_both : (n : Bytes) (xs ys : List Bytes) → list_any (bytes_eq n) xs ≡ false → list_any (bytes_eq n) ys ≡ false → list_any (bytes_eq n) (xs ++ ys) ≡ false
none_both n [] ys h k = k
none_both n (x ∷ xs) ys h k = by (bytes_eq n x) (list_any (bytes_eq n) xs) h (none_both n xs ys) k
  where
    by : (b c : Bool) → (b || c) ≡ false → (c ≡ false → list_any (bytes_eq n) ys ≡ false → list_any (bytes_eq n) (xs ++ ys) ≡ false) → list_any (bytes_eq n) ys ≡ false → (b || list_any (bytes_eq n) (xs ++ ys)) ≡ false
    by true c e others k = e
    by false c e others k = others e k

any_front : (n : Bytes) (xs ys : List Bytes) → list_any (bytes_eq n) xs ≡ true → list_any (bytes_eq n) (xs ++ ys) ≡ true
any_front n [] ys h = cc
any_front n (x ∷ xs) ys h = by (bytes_eq n x) h (any_front n xs ys)
  where
    by : (b : Bool) → (b || list_any (bytes_eq n) xs) ≡ true → (list_any (bytes_eq n) xs ≡ true → list_any (bytes_eq n) (xs ++ ys) ≡ true) → (b || list_any (bytes_eq n) (xs ++ ys)) ≡ true
    by true e others = refl
    by false e others = others e

any_rest : (n : Bytes) (xs ys : List Bytes) → list_any (bytes_eq n) ys ≡ true → list_any (bytes_eq n) (xs ++ ys) ≡ true
any_rest n [] ys h = h
any_rest n (x ∷ xs) ys h = or_right (bytes_eq n x) (list_any (bytes_eq n) (xs ++ ys)) (any_rest n xs ys h)

-- each name in the middle of names is one of them
pub middle_named : (front xs back : List Bytes) → list_all (λ n. list_any (bytes_eq n) (front ++ (xs ++ back))) xs ≡ true
middle_named front [] back = refl
middle_named front (x ∷ xs) back =
    and_from (list_any (bytes_eq x) (front ++ (x ∷ (xs ++ back)))) _
    (any_rest x front (x ∷ (xs ++ back)) (or_left (bytes_eq x x) (list_any (bytes_eq x) (xs ++ back)) ((bytes_eq-Decides x x).1 refl)))
    (same xs (middle_named (front ++ x ∷ []) xs back))
  where
    same : (ns : List Bytes) → list_all (λ n. list_any (bytes_eq n) ((front ++ x ∷ []) ++ (xs ++ back))) ns ≡ true → list_all (λ n. list_any (bytes_eq n) (front ++ (x ∷ (xs ++ back)))) ns ≡ true
    same ns h = subst (λ (all : List Bytes). list_all (λ n. list_any (bytes_eq n) all) ns ≡ true) (append_assoc front (x ∷ []) (xs ++ back)) h

pub all_both : {A : Type 0} (p : A → Bool) (xs ys : List A) → list_all p xs ≡ true → list_all p ys ≡ true → list_all p (xs ++ ys) ≡ true
all_both p [] ys h k = k
all_both p (x ∷ xs) ys h k = let q = and_parts (p x) (list_all p xs) h in and_from (p x) (list_all p (xs ++ ys)) q.0 (all_both p xs ys q.1 k)

pub all_front : {A : Type 0} (p : A → Bool) (xs ys : List A) → list_all p (xs ++ ys) ≡ true → list_all p xs ≡ true
all_front p [] ys h = refl
all_front p (x ∷ xs) ys h = let k = and_parts (p x) (list_all p (xs ++ ys)) h in and_from (p x) (list_all p xs) k.0 (all_front p xs ys k.1)

-- ---- a body is given to the first function whose body is due

pub names_kept : (b : Begun) (fs : List (Bool × Function)) → map (λ (f : Bool × Function). f.1.name) (give_body b fs) ≡ map (λ (f : Bool × Function). f.1.name) fs
names_kept b [] = refl
names_kept b ((true, f) ∷ fs) = refl
names_kept b ((false, f) ∷ fs) = ap (λ (ns : List Bytes). f.name ∷ ns) (names_kept b fs)

pub many_kept : (b : Begun) (fs : List (Bool × Function)) → length (give_body b fs) ≡ length fs
many_kept b [] = refl
many_kept b ((true, f) ∷ fs) = refl
many_kept b ((false, f) ∷ fs) = ap suc (many_kept b fs)

pub each_given : (P : Bool × Function → Type 0) (b : Begun) (f : Function) (fs : List (Bool × Function)) → first_due fs ≡ Some f → AllByRecursion P fs → (P (true, f) → P (false, with_body b f)) → AllByRecursion P (give_body b fs)
each_given P b f [] e h gives = tt
each_given P b f ((true, g) ∷ fs) e h gives =
    let same : f ≡ g = cc in
    (subst (λ (x : Function). P (false, with_body b x)) same (gives (subst (λ (x : Function). P (true, x)) (sym same) h.0)), h.1)
each_given P b f ((false, g) ∷ fs) e h gives = (h.0, each_given P b f fs e h.1 gives)
