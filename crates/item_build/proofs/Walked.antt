-- A list as far as it is walked, what one more item gives, and a change in the middle.
use Rattle.std.proofs.Common.{◌≡◌, ℕ, ◌+◌, ◌<◌, List, [], ◌∷◌, ◌++◌, map, length, get_or, take, drop, set, slice_get, Option, Some, None, All, refl, sym, ap, ◌∙◌, arith}
use Rattle.std.specs.Prelude.{filter_map, option_to_list}
use Rattle.std.specs.List.{cons_option}
use Rattle.std.specs.Option.{option_map_or}
use Rattle.std.proofs.lemmas.List.{map-append, map_more, take-append-drop, drop_more, append-nil, length-map, length-append}
use Rattle.std.proofs.lemmas.List.Elements.{filter_map-append}
use Rattle.std.proofs.lemmas.Option.{get_or_from_slice_get, slice_get_within}
use Rattle.module_arena.specs.Changes.{changed_at}
use Rattle.item_build.proofs.OnTypes.Staying.{at_item}

module _ {X Y : Type 0} (f : X → Y) (xs : List X) (i : ℕ) (x : X) (lt : i < length xs) (is : x ≡ get_or xs i x) where
  pub view_more : map f (take (i + 1) xs) ≡ map f (take i xs) ++ f x ∷ []
  view_more = map_more f xs i x lt ∙ ap (λ y. map f (take i xs) ++ f y ∷ []) (sym is)

  pub view_rest : map f (drop i xs) ≡ f x ∷ map f (drop (i + 1) xs)
  view_rest = ap (map f) (drop_more xs i x lt ∙ ap (λ y. y ∷ drop (i + 1) xs) (sym is))

  pub view_split : map f xs ≡ map f (take i xs) ++ f x ∷ map f (drop (i + 1) xs)
  view_split = ap (map f) (sym (take-append-drop i xs)) ∙ map-append f (take i xs) (drop i xs) ∙ ap (λ ys. map f (take i xs) ++ ys) view_rest

module _ {X Y : Type 0} (h : X → Option Y) where
  pub taken : (xs : List X) (x : X) → filter_map h (xs ++ x ∷ []) ≡ filter_map h xs ++ option_to_list (h x)
  taken xs x = filter_map-append h xs (x ∷ []) ∙ ap (λ ys. filter_map h xs ++ ys) (by (h x))
    where
      by : (o : Option Y) → cons_option o [] ≡ option_to_list o
      by None = refl
      by (Some y) = refl

  pub gives_one : (xs : List X) (x : X) (y : Y) → h x ≡ Some y → filter_map h (xs ++ x ∷ []) ≡ filter_map h xs ++ y ∷ []
  gives_one xs x y is = taken xs x ∙ ap (λ o. filter_map h xs ++ option_to_list o) is

  pub gives_none : (xs : List X) (x : X) → h x ≡ None → filter_map h (xs ++ x ∷ []) ≡ filter_map h xs
  gives_none xs x is = taken xs x ∙ ap (λ o. filter_map h xs ++ option_to_list o) is ∙ append-nil (filter_map h xs)

  pub parted : (xs : List X) (x : X) (ys : List X) → filter_map h (xs ++ x ∷ ys) ≡ filter_map h xs ++ cons_option (h x) (filter_map h ys)
  parted xs x ys = filter_map-append h xs (x ∷ ys)

  length_cons : (o : Option Y) (ys : List Y) → length (cons_option o ys) ≡ length (option_to_list o) + length ys
  length_cons None ys = omega arith
  length_cons (Some y) ys = omega arith

  pub length_parted : (xs : List X) (x : X) (ys : List X) → length (filter_map h (xs ++ x ∷ ys)) ≡ length (filter_map h xs) + (length (option_to_list (h x)) + length (filter_map h ys))
  length_parted xs x ys = ap length (parted xs x ys) ∙ length-append (filter_map h xs) (cons_option (h x) (filter_map h ys)) ∙ ap (λ n. length (filter_map h xs) + n) (length_cons (h x) (filter_map h ys))

  pub length_mixed : (f : Y → Y) (xs : List X) (x : X) (ys : List X) → length (filter_map h xs ++ map f (filter_map h (x ∷ ys))) ≡ length (filter_map h xs) + (length (option_to_list (h x)) + length (filter_map h ys))
  length_mixed f xs x ys = length-append (filter_map h xs) (map f (filter_map h (x ∷ ys))) ∙ ap (λ n. length (filter_map h xs) + n) (length-map (filter_map h (x ∷ ys)) f ∙ length_cons (h x) (filter_map h ys))

-- ---- an item between others

pub get_between : {A : Type 0} (xs : List A) (y : A) (zs : List A) → slice_get (xs ++ y ∷ zs) (length xs) ≡ Some y
get_between [] y zs = refl
get_between (x ∷ xs) y zs = get_between xs y zs

set_between : {A : Type 0} (xs : List A) (y : A) (zs : List A) (z : A) → set (xs ++ y ∷ zs) (length xs) z ≡ xs ++ z ∷ zs
set_between [] y zs z = refl
set_between (x ∷ xs) y zs z = ap (λ rest. x ∷ rest) (set_between xs y zs z)

pub changed_between : {A : Type 0} (xs : List A) (y : A) (zs : List A) (f : A → A) → changed_at (xs ++ y ∷ zs) (length xs) f ≡ xs ++ f y ∷ zs
changed_between xs y zs f = ap (λ o. option_map_or (λ x. set (xs ++ y ∷ zs) (length xs) (f x)) o (xs ++ y ∷ zs)) (get_between xs y zs) ∙ set_between xs y zs (f y)

-- what is so of all is so of what stands in between
pub all_between : {A : Type 0} (P : A → Type 0) (xs : List A) (y : A) (zs : List A) → All P (xs ++ y ∷ zs) → P y
all_between P xs y zs all =
    let here = get_between xs y zs in
    at_item P (xs ++ y ∷ zs) (length xs) y (slice_get_within (xs ++ y ∷ zs) (length xs) y here) (sym (get_or_from_slice_get (xs ++ y ∷ zs) (length xs) y y here)) all
