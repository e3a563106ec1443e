-- Types have one shape where their ids do, and function types are the same where the test says so.
use Rattle.std.proofs.Common.{All, arith, subst, ◌≡◌, ℕ, ◌+◌, ◌<◌, ◌≤◌, Bool, true, false, List, [], ◌∷◌, ◌++◌, length, get_or, map, take, Option, Some, refl, sym, ap, ◌∙◌, inl, inr}
use Rattle.std.specs.Prelude.{slice_get, unwrap_or}
use Rattle.std.specs.Bool.{beq}
use Rattle.std.specs.Option.{option_map}
use Rattle.std.proofs.lemmas.Bool.{and_from, cases_Bool}
use Rattle.std.proofs.lemmas.List.{length-map, map_more, take_all}
use Rattle.std.proofs.lemmas.Option.{same_Some, slice_get-get_or, slice_get-map}
use Rattle.linkage_rules.proofs.Shapes.{shape_self}
use Rattle.type_table.specs.Shape.{Shape, void_leaf}
use Rattle.type_table.specs.Limits.{IsWithin}
use Rattle.type_table.specs.Types.{Types, shape, IsGood}
use Rattle.module_arena.proofs.SameValues.{beq_self}
use Rattle.run_rules.specs.Action.{Signature}
use Rattle.run_rules.specs.Calls.{same_shape_list, same_signature}
use Rattle.run_names.specs.Shapes.Shapes.{shape_in}
use Rattle.run_names.proofs.OnShapes.Outlines.{shape_there}
use Rattle.typed_runs.proofs.Hosts.{signature_exact}

-- ---- types

module _ (t : Types) (good : IsGood t) (within : IsWithin t) where
  -- the shape of a type is what is there
  shape_is : (ty : ℕ) → ty < length t.types → shape t ty ≡ Some (shape_in t ty)
  shape_is ty lt =
      let there = shape_there t good within ty lt in
      there.1 ∙ ap Some (sym (ap (λ (o : Option Shape). unwrap_or o void_leaf) there.1))

  pub shape_from : (v w : ℕ) → v < length t.types → w < length t.types → shape_in t v ≡ shape_in t w → shape t v ≡ shape t w
  shape_from v w lt lt' e = shape_is v lt ∙ ap Some e ∙ sym (shape_is w lt')

pub shape_to : (t : Types) (v w : ℕ) → shape t v ≡ shape t w → shape_in t v ≡ shape_in t w
shape_to t v w e = ap (λ (o : Option Shape). unwrap_or o void_leaf) e

-- items at one place of lists that are equal by what they mean
pub mapped_at : {A B : Type 0} (f : A → B) (xs ys : List A) (k : ℕ) (x y : A) → map f xs ≡ map f ys → slice_get xs k ≡ Some x → slice_get ys k ≡ Some y → f x ≡ f y
mapped_at {A} {B} f xs ys k x y e here there =
    same_Some (f x) (f y)
    (sym (slice_get-map f xs k ∙ ap (option_map f) here)
    ∙ ap (λ (l : List B). slice_get l k) e
    ∙ slice_get-map f ys k ∙ ap (option_map f) there)

pub alike_at : {A B : Type 0} (f : A → B) (xs ys : List A) (k : ℕ) (d e : A) → map f xs ≡ map f ys → k < length xs → k < length ys → f (get_or xs k d) ≡ f (get_or ys k e)
alike_at f xs ys k d e same lt lt' = mapped_at f xs ys k (get_or xs k d) (get_or ys k e) same (slice_get-get_or xs k d lt) (slice_get-get_or ys k e lt')

pub alike_more : {A B : Type 0} (f : A → B) (xs ys : List A) (k : ℕ) (d e : A) → k < length xs → k < length ys → map f (take k xs) ≡ map f (take k ys) → f (get_or xs k d) ≡ f (get_or ys k e)
    → map f (take (k + 1) xs) ≡ map f (take (k + 1) ys)
alike_more f xs ys k d e lt lt' same here = map_more f xs k d lt ∙ (λ i. same i ++ here i ∷ []) ∙ sym (map_more f ys k e lt')

pub alike_all : {A B : Type 0} (f : A → B) (xs ys : List A) (k : ℕ) → map f (take k xs) ≡ map f (take k ys) → length xs ≤ k → length ys ≤ k → map f xs ≡ map f ys
alike_all f xs ys k same le le' = ap (map f) (sym (take_all k xs le)) ∙ same ∙ ap (map f) (take_all k ys le')

pub alike_long : {A B : Type 0} (f : A → B) (xs ys : List A) → map f xs ≡ map f ys → length xs ≡ length ys
alike_long f xs ys same = sym (length-map xs f) ∙ ap length same ∙ length-map ys f

-- types at one place have one shape
pub alike_here : (t : Types) → IsGood t → IsWithin t → (xs ys : List ℕ) (k v w : ℕ) → map (shape_in t) xs ≡ map (shape_in t) ys → k < length xs → length xs ≡ length ys
    → All (λ (ty : ℕ). ty < length t.types) xs → All (λ (ty : ℕ). ty < length t.types) ys → v ≡ get_or xs k v → w ≡ get_or ys k w → shape t v ≡ shape t w
alike_here t good within xs ys k v w same lt long known_xs known_ys here there =
    let lt' : k < length ys = omega (arith, lt, long) in
    let known_v : v < length t.types = subst (λ (ty : ℕ). ty < length t.types) (sym here) (known_xs k v lt) in
    let known_w : w < length t.types = subst (λ (ty : ℕ). ty < length t.types) (sym there) (known_ys k w lt') in
    shape_from t good within v w known_v known_w (ap (shape_in t) here ∙ alike_at (shape_in t) xs ys k v w same lt lt' ∙ ap (shape_in t) (sym there))

-- ---- function types

list_self : (ss : List Shape) → same_shape_list ss ss ≡ true
list_self [] = refl
list_self (s ∷ ss) = and_from _ _ (shape_self s) (list_self ss)

pub truth_from : (a b : Bool) → a ≡ b → beq a b ≡ true
truth_from a b e = sym (ap (beq a) e) ∙ beq_self a

pub signature_self : (s : Signature) → same_signature s s ≡ true
signature_self s = and_from _ _ (shape_self s.returns) (and_from _ _ (list_self s.parameters) (beq_self s.variadic))

-- the test by whether they are equal
pub same_if : (s t : Signature) → s ≡ t → true ≡ same_signature s t
same_if s t e = sym (signature_self s) ∙ ap (same_signature s) e

pub unlike_if : (s t : Signature) → (s ≡ t → ⊥) → false ≡ same_signature s t
unlike_if s t apart = elim (cases_Bool (same_signature s t)) [ inl same ↦ absurd (apart (signature_exact s t same)) | inr other ↦ sym other ]
