-- Parameters and results that are placed one behind the other.
use Rattle.std.proofs.Common.{◌≡◌, ℕ, suc, ◌+◌, ◌<◌, List, [], ◌∷◌, ◌++◌, length, take, get_or, map, flat_map, append_assoc, append-nil, refl, sym, ap, ◌∙◌, subst, arith}
use Rattle.std.proofs.Math.Seq.{take-suc}
use Rattle.std.proofs.lemmas.Grind.{flat_map-append}
use Rattle.std.proofs.lemmas.List.{map-append}
use Rattle.type_table.specs.Layout.{leaves}
use Rattle.run_rules.specs.Scope.{Typed}
use Rattle.run_decode.specs.Scopes.Places.{AreAdded, begins_from, end_from}
use Rattle.run_decode.specs.Scopes.Scopes.{bounds_from}

begins_append : (place : ℕ) (xs ys : List Typed) → begins_from place (xs ++ ys) ≡ begins_from place xs ++ begins_from (end_from place xs) ys
begins_append place [] ys = refl
begins_append place (x ∷ xs) ys = ap (λ (l : List ℕ). place ∷ l) (begins_append (place + leaves x.1) xs ys)

pub end_append : (place : ℕ) (xs ys : List Typed) → end_from place (xs ++ ys) ≡ end_from (end_from place xs) ys
end_append place [] ys = refl
end_append place (x ∷ xs) ys = end_append (place + leaves x.1) xs ys

pub bounds_are : (place : ℕ) (xs : List Typed) → bounds_from place xs ≡ begins_from place xs ++ end_from place xs ∷ []
bounds_are place [] = refl
bounds_are place (x ∷ xs) = ap (λ (l : List ℕ). place ∷ l) (bounds_are (place + leaves x.1) xs)

pub added_none : (first : ℕ) (xs : List Typed) (old : List ℕ) → xs ≡ [] → AreAdded first xs old old first
added_none first xs old e = record { places = sym (append-nil old) ∙ ap (λ (l : List Typed). old ++ begins_from first l) (sym e); ends = ap (end_from first) (sym e) }

pub added_one : (first : ℕ) (xs : List Typed) (x : Typed) (old new : List ℕ) (end : ℕ) → xs ≡ x ∷ [] → new ≡ old ++ first ∷ [] → end ≡ first + leaves x.1 → AreAdded first xs old new end
added_one first xs x old new end e places ends = record {
  places = places ∙ ap (λ (l : List Typed). old ++ begins_from first l) (sym e);
  ends = ends ∙ ap (end_from first) (sym e);
}

pub added_more : (first next end : ℕ) (xs ys : List Typed) (old now new : List ℕ) → AreAdded first xs old now next → AreAdded next ys now new end → AreAdded first (xs ++ ys) old new end
added_more first next end xs ys old now new h k = record {
  places = k.places
      ∙ ap (λ (l : List ℕ). l ++ begins_from next ys) h.places
      ∙ append_assoc old (begins_from first xs) (begins_from next ys)
      ∙ ap (λ (n : ℕ). old ++ (begins_from first xs ++ begins_from n ys)) h.ends
      ∙ ap (λ (l : List ℕ). old ++ l) (sym (begins_append first xs ys));
  ends = k.ends ∙ ap (λ (n : ℕ). end_from n ys) h.ends ∙ sym (end_append first xs ys);
}

-- the same in other words
pub added_same : (first end : ℕ) (xs ys : List Typed) (old new : List ℕ) → xs ≡ ys → AreAdded first xs old new end → AreAdded first ys old new end
added_same first end xs ys old new e h = record { places = h.places ∙ ap (λ (l : List Typed). old ++ begins_from first l) e; ends = h.ends ∙ ap (end_from first) e }

-- of a list that is placed item by item, one item more
pub added_step : {A : Type 0} (one : A → List Typed) (each : List A → List Typed) → ((xs ys : List A) → each (xs ++ ys) ≡ each xs ++ each ys) → ((x : A) → each (x ∷ []) ≡ one x)
    → (items xs : List A) → items ≡ xs → (k : ℕ) (x d : A) (first next end : ℕ) (old now new : List ℕ) → k < length items → x ≡ get_or items k d
    → AreAdded first (each (take k xs)) old now next → AreAdded next (one x) now new end → AreAdded first (each (take (k + 1) xs)) old new end
added_step {A} one each join single items xs same k x d first next end old now new lt is h step =
    let count : k + 1 ≡ suc k = omega arith in
    let here : k < length xs = subst (λ (l : List A). k < length l) same lt in
    let read : x ≡ get_or xs k d = is ∙ ap (λ (l : List A). get_or l k d) same in
    let front : take (k + 1) xs ≡ take k xs ++ x ∷ [] = ap (λ (n : ℕ). take n xs) count ∙ take-suc xs k d here ∙ ap (λ (y : A). take k xs ++ y ∷ []) (sym read) in
    let split : each (take k xs) ++ one x ≡ each (take (k + 1) xs) = sym (ap each front ∙ join (take k xs) (x ∷ []) ∙ ap (λ (l : List Typed). each (take k xs) ++ l) (single x)) in
    added_same first end (each (take k xs) ++ one x) (each (take (k + 1) xs)) old new split (added_more first next end (each (take k xs)) (one x) old now new h step)

-- what is mapped and then joined is joined part by part
pub mapped_join : {A B : Type 0} (f : B → List Typed) (g : A → B) (xs ys : List A) → flat_map f (map g (xs ++ ys)) ≡ flat_map f (map g xs) ++ flat_map f (map g ys)
mapped_join f g xs ys = ap (flat_map f) (map-append g xs ys) ∙ flat_map-append f (map g xs) (map g ys)

-- parameters that are placed from the front of a frame, then results, and then the end of these
pub bounds_added : (xs ys : List Typed) (start now last all : List ℕ) (middle end : ℕ) → start ≡ [] → AreAdded 0 xs start now middle → AreAdded middle ys now last end → all ≡ last ++ end ∷ [] → all ≡ bounds_from 0 (xs ++ ys)
bounds_added xs ys start now last all middle end none h k e =
    let whole = added_more 0 middle end xs ys start now last h k in
    e
    ∙ (λ j. whole.places j ++ whole.ends j ∷ [])
    ∙ ap (λ (l : List ℕ). (l ++ begins_from 0 (xs ++ ys)) ++ end_from 0 (xs ++ ys) ∷ []) none
    ∙ sym (bounds_are 0 (xs ++ ys))
