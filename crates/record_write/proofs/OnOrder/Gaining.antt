-- Texts that are added one behind the other.
use Rattle.std.proofs.Common.{◌≡◌, ℕ, ◌+◌, ◌<◌, ◌≤◌, List, [], ◌∷◌, ◌++◌, length, take, get_or, slice_get, flat_map, map, Some, Result, Ok, Err, OnOk, sym, ap, ◌∙◌, subst}
use Rattle.std.specs.List.{fold}
use Rattle.std.proofs.lemmas.List.{append-nil, map-append, take_more, take_all}
use Rattle.std.proofs.lemmas.List.Sums.{fold-append}
use Rattle.std.proofs.lemmas.List.Concat.{flat_map-append}
use Rattle.std.proofs.lemmas.Option.{get_or_from_slice_get, slice_get_within}
use Rattle.module_arena.specs.Module.{Bytes}
use Rattle.record_table.specs.StringTable.{with_text}
use Rattle.record_write.specs.Order.Table.{PlacedTexts, Holds, Gains}

pub gains_none : (table : PlacedTexts) → Gains table table []
gains_none table = record { holds = λ texts h. h }

pub gains_then : {a b c : PlacedTexts} {xs ys : List Bytes} → Gains a b xs → Gains b c ys → Gains a c (xs ++ ys)
gains_then {a} {b} {c} {xs} {ys} g h = record { holds = λ texts held. subst (λ (all : List Bytes). Holds c all) (sym (fold-append with_text texts xs ys)) (h.holds (fold with_text texts xs) (g.holds texts held)) }

pub gains_same : {a b : PlacedTexts} {xs ys : List Bytes} → xs ≡ ys → Gains a b xs → Gains a b ys
gains_same {a} {b} e g = subst (λ (all : List Bytes). Gains a b all) e g

pub flat_more : {X A : Type 0} (f : X → List A) (xs : List X) (i : ℕ) (x : X) → i < length xs → flat_map f (take (i + 1) xs) ≡ flat_map f (take i xs) ++ f (get_or xs i x)
flat_more f xs i x lt = ap (flat_map f) (take_more xs i x lt) ∙ flat_map-append f (take i xs) (get_or xs i x ∷ []) ∙ ap (λ ys. flat_map f (take i xs) ++ ys) (append-nil (f (get_or xs i x)))

-- the texts of one item more
pub gains_more : {X : Type 0} {a b c : PlacedTexts} (f : X → List Bytes) (xs : List X) (i : ℕ) (x : X) → i < length xs → x ≡ get_or xs i x → Gains a b (flat_map f (take i xs)) → Gains b c (f x) → Gains a c (flat_map f (take (i + 1) xs))
gains_more f xs i x lt is g h = gains_same (sym (flat_more f xs i x lt)) (gains_then g (gains_same (ap f is) h))

pub gains_at : {X : Type 0} {a b c : PlacedTexts} (f : X → List Bytes) (xs : List X) (i : ℕ) (x : X) → slice_get xs i ≡ Some x → Gains a b (flat_map f (take i xs)) → Gains b c (f x) → Gains a c (flat_map f (take (i + 1) xs))
gains_at f xs i x at g h = gains_more f xs i x (slice_get_within xs i x at) (sym (get_or_from_slice_get xs i x x at)) g h

-- all of them
pub gains_all : {X : Type 0} {a b : PlacedTexts} (f : X → List Bytes) (xs : List X) (i : ℕ) → length xs ≤ i → Gains a b (flat_map f (take i xs)) → Gains a b (flat_map f xs)
gains_all f xs i le g = gains_same (ap (flat_map f) (take_all i xs le)) g

-- one name more
pub gains_named : {X : Type 0} {a b c : PlacedTexts} (f : X → Bytes) (xs : List X) (i : ℕ) (x : X) (y : Bytes) → slice_get xs i ≡ Some x → y ≡ f x → Gains a b (map f (take i xs)) → Gains b c (y ∷ []) → Gains a c (map f (take (i + 1) xs))
gains_named f xs i x y at is g h =
    gains_same (sym (map-append f (take i xs) (x ∷ [])) ∙ ap (λ z. map f (take i xs ++ z ∷ [])) (sym (get_or_from_slice_get xs i x x at)) ∙ ap (map f) (sym (take_more xs i x (slice_get_within xs i x at))))
    (gains_then g (gains_same (ap (λ (z : Bytes). z ∷ []) is) h))

pub gains_named_all : {X : Type 0} {a b : PlacedTexts} (f : X → Bytes) (xs : List X) (i : ℕ) → length xs ≤ i → Gains a b (map f (take i xs)) → Gains a b (map f xs)
gains_named_all f xs i le g = gains_same (ap (map f) (take_all i xs le)) g

pub gains_name : {a b c : PlacedTexts} (xs : List Bytes) (i : ℕ) (x y : Bytes) → slice_get xs i ≡ Some x → y ≡ x → Gains a b (take i xs) → Gains b c (y ∷ []) → Gains a c (take (i + 1) xs)
gains_name xs i x y at is g h =
    gains_same (ap (λ (z : Bytes). take i xs ++ z ∷ []) (sym (get_or_from_slice_get xs i x x at)) ∙ sym (take_more xs i x (slice_get_within xs i x at)))
    (gains_then g (gains_same (ap (λ (z : Bytes). z ∷ []) is) h))

pub gains_names : {a b : PlacedTexts} (xs : List Bytes) (i : ℕ) → length xs ≤ i → Gains a b (take i xs) → Gains a b xs
gains_names xs i le g = gains_same (take_all i xs le) g

-- the last of several, which may fail
pub gains_end : {E : Type 0} {a b : PlacedTexts} {xs : List Bytes} (c : PlacedTexts) (ys zs : List Bytes) (r : Result (Unit {0}) E) → Gains a b xs → ys ≡ zs → OnOk r (Gains b c ys) → OnOk r (Gains a c (xs ++ zs))
gains_end c ys zs (Err e) g is h = tt
gains_end c ys zs (Ok u) g is h = gains_then g (gains_same is h)

pub gains_as : {E : Type 0} (a b : PlacedTexts) (xs ys : List Bytes) (r : Result (Unit {0}) E) → xs ≡ ys → OnOk r (Gains a b xs) → OnOk r (Gains a b ys)
gains_as a b xs ys (Err e) is h = tt
gains_as a b xs ys (Ok u) is h = gains_same is h
