-- What a function gives for elements by their places, when elements are taken, joined and put.
use Rattle.std.proofs.Common.{◌≡◌, ℕ, zero, suc, ◌+◌, ◌-◌, ◌<◌, ◌≤◌, List, [], ◌∷◌, ◌++◌, length, take, drop, get_or, map, replicate, refl, sym, ap, ◌∙◌, arith, append_assoc}
use Rattle.std.specs.Prelude.{slice_range}
use Rattle.std.proofs.lemmas.List.{length-take-le, length-drop}
use Rattle.ir_memory.specs.Masked.Masked.{mapped_with_places, put}

pub length-placed : {X Y : Type 0} (f : ℕ → X → Y) (a : ℕ) (xs : List X) → length (mapped_with_places f a xs) ≡ length xs
length-placed f a [] = refl
length-placed f a (x ∷ xs) = omega (arith, length-placed f (a + 1) xs)

pub placed-append : {X Y : Type 0} (f : ℕ → X → Y) (a : ℕ) (xs ys : List X) → mapped_with_places f a (xs ++ ys) ≡ mapped_with_places f a xs ++ mapped_with_places f (a + length xs) ys
placed-append f a [] ys = let e : a ≡ a + 0 = omega arith in ap (λ n. mapped_with_places f n ys) e
placed-append f a (x ∷ xs) ys =
    let e : a + 1 + length xs ≡ a + length (x ∷ xs) = omega arith in
    ap (λ zs. f a x ∷ zs) (placed-append f (a + 1) xs ys ∙ ap (λ n. mapped_with_places f (a + 1) xs ++ mapped_with_places f n ys) e)

pub take-placed : {X Y : Type 0} (f : ℕ → X → Y) (n a : ℕ) (xs : List X) → take n (mapped_with_places f a xs) ≡ mapped_with_places f a (take n xs)
take-placed f zero a xs = refl
take-placed f (suc n) a [] = refl
take-placed f (suc n) a (x ∷ xs) = ap (λ zs. f a x ∷ zs) (take-placed f n (a + 1) xs)

pub drop-placed : {X Y : Type 0} (f : ℕ → X → Y) (n a : ℕ) (xs : List X) → drop n (mapped_with_places f a xs) ≡ mapped_with_places f (a + n) (drop n xs)
drop-placed f zero a xs = let e : a ≡ a + 0 = omega arith in ap (λ m. mapped_with_places f m xs) e
drop-placed f (suc n) a [] = refl
drop-placed f (suc n) a (x ∷ xs) =
    let e : a + 1 + n ≡ a + suc n = omega arith in
    drop-placed f n (a + 1) xs ∙ ap (λ m. mapped_with_places f m (drop n xs)) e

-- two functions that agree at each place give the same
pub placed-same : {X Y : Type 0} (f g : ℕ → X → Y) (a b : ℕ) (xs : List X) → ((k : ℕ) (x : X) → k < length xs → f (a + k) x ≡ g (b + k) x) → mapped_with_places f a xs ≡ mapped_with_places g b xs
placed-same f g a b [] same = refl
placed-same f g a b (x ∷ xs) same =
    let at : a ≡ a + 0 = omega arith in
    let from : b + 0 ≡ b = omega arith in
    let here = ap (λ n. f n x) at ∙ same 0 x (omega arith) ∙ ap (λ n. g n x) from in
    ap (λ y. y ∷ mapped_with_places f (a + 1) xs) here
    ∙ ap (λ ys. g b x ∷ ys) (placed-same f g (a + 1) (b + 1) xs (λ k y h.
    let one : a + 1 + k ≡ a + (k + 1) = omega arith in
    let other : b + (k + 1) ≡ b + 1 + k = omega arith in
    ap (λ n. f n y) one ∙ same (k + 1) y (omega (arith, h)) ∙ ap (λ n. g n y) other))

-- the place is not asked
pub placed-map : {X Y : Type 0} (f : X → Y) (a : ℕ) (xs : List X) → mapped_with_places (λ k x. f x) a xs ≡ map f xs
placed-map f a [] = refl
placed-map f a (x ∷ xs) = ap (λ ys. f x ∷ ys) (placed-map f (a + 1) xs)

pub map-const : {X Y : Type 0} (y : Y) (xs : List X) → map (λ x. y) xs ≡ replicate (length xs) y
map-const y [] = refl
map-const y (x ∷ xs) = ap (λ ys. y ∷ ys) (map-const y xs)

-- a range of what is given
pub range-placed : {X Y : Type 0} (f : ℕ → X → Y) (a from count : ℕ) (xs : List X) → slice_range (mapped_with_places f a xs) from (from + count) ≡ mapped_with_places f (a + from) (slice_range xs from (from + count))
range-placed f a from count xs =
    let n : from + count - from ≡ count = omega arith in
    ap (λ m. take m (drop from (mapped_with_places f a xs))) n
    ∙ ap (λ ys. take count ys) (drop-placed f from a xs)
    ∙ take-placed f count (a + from) (drop from xs)
    ∙ ap (λ m. mapped_with_places f (a + from) (take m (drop from xs))) (sym n)

-- elements are put, and elsewhere the functions agree
pub placed-put : {X Y : Type 0} (f g : ℕ → X → Y) (a at : ℕ) (new xs : List X) → at + length new ≤ length xs → ((k : ℕ) (x : X) → k < at → g (a + k) x ≡ f (a + k) x) → ((k : ℕ) (x : X) → at + length new ≤ k → k < length xs → g (a + k) x ≡ f (a + k) x) → mapped_with_places g a (put at new xs) ≡ put at (mapped_with_places g (a + at) new) (mapped_with_places f a xs)
placed-put f g a at new xs fits before after =
    ap (λ ys. mapped_with_places g a ys) (append_assoc (take at xs) new (drop (at + length new) xs))
    ∙ placed-append g a (take at xs) (new ++ drop (at + length new) xs)
    ∙ ap (λ ys. ys ++ mapped_with_places g (a + length (take at xs)) (new ++ drop (at + length new) xs)) front
    ∙ ap (λ n. take at (mapped_with_places f a xs) ++ mapped_with_places g (a + n) (new ++ drop (at + length new) xs)) long
    ∙ ap (λ ys. take at (mapped_with_places f a xs) ++ ys) (placed-append g (a + at) new (drop (at + length new) xs) ∙ ap (λ ys. mapped_with_places g (a + at) new ++ ys) back)
    ∙ sym (append_assoc (take at (mapped_with_places f a xs)) (mapped_with_places g (a + at) new) (drop (at + length (mapped_with_places g (a + at) new)) (mapped_with_places f a xs)))
  where
    long : length (take at xs) ≡ at
    long = length-take-le at xs (omega (arith, fits))

    front : mapped_with_places g a (take at xs) ≡ take at (mapped_with_places f a xs)
    front = placed-same g f a a (take at xs) (λ k x h. before k x (omega (arith, h, long))) ∙ sym (take-placed f at a xs)

    rest : mapped_with_places g (a + at + length new) (drop (at + length new) xs) ≡ mapped_with_places f (a + (at + length new)) (drop (at + length new) xs)
    rest =
        placed-same g f (a + at + length new) (a + (at + length new)) (drop (at + length new) xs) (λ k x h.
        let one : a + at + length new + k ≡ a + (at + length new + k) = omega arith in
        let other : a + (at + length new + k) ≡ a + (at + length new) + k = omega arith in
        ap (λ n. g n x) one ∙ after (at + length new + k) x (omega arith) (omega (arith, h, length-drop (at + length new) xs)) ∙ ap (λ n. f n x) other)

    back : mapped_with_places g (a + at + length new) (drop (at + length new) xs) ≡ drop (at + length (mapped_with_places g (a + at) new)) (mapped_with_places f a xs)
    back =
        rest
        ∙ sym (drop-placed f (at + length new) a xs)
        ∙ ap (λ n. drop (at + n) (mapped_with_places f a xs)) (sym (length-placed g (a + at) new))

pub get_or-placed : {X Y : Type 0} (f : ℕ → X → Y) (a : ℕ) (xs : List X) (k : ℕ) (d : Y) (e : X) → k < length xs → get_or (mapped_with_places f a xs) k d ≡ f (a + k) (get_or xs k e)
get_or-placed f a [] k d e h = absurd (omega (arith, h))
get_or-placed f a (x ∷ xs) zero d e h = let at : a ≡ a + 0 = omega arith in ap (λ n. f n x) at
get_or-placed f a (x ∷ xs) (suc k) d e h =
    let at : a + 1 + k ≡ a + suc k = omega arith in
    get_or-placed f (a + 1) xs k d e (omega (arith, h)) ∙ ap (λ n. f n (get_or xs k e)) at
