-- Function types have one number where they are the same.
use Rattle.std.proofs.Common.{◌≡◌, inl, inr, ◌↔◌, ℕ, ◌<◌, false, List, map, nat_eq, Option, Some, None, refl, sym, ap, ◌∙◌, true≢false}
use Rattle.std.specs.Prelude.{IsTrue, slice_get}
use Rattle.std.specs.Option.{option_map}
use Rattle.std.proofs.lemmas.Bool.{cases_eq, cases_order, eq-eqb, ne_eqb}
use Rattle.std.proofs.lemmas.Option.{get_or_from_slice_get, same_Some, slice_get-map, slice_get_within}
use Rattle.module_arena.specs.Lists.{Lists}
use Rattle.run_rules.specs.Action.{Signature}
use Rattle.run_rules.specs.Calls.{same_signature}
use Rattle.run_decode.specs.declared.signatures.written.WrittenSignature.{WrittenSignature}
use Rattle.run_decode.specs.Signatures.Met.{AreMet, FunctionType, Met, known, shaped, type_in}
use Rattle.run_decode.proofs.OnSignatures.Same.{same_if, unlike_if}

-- ---- an answer that something is not so

pub told_no : {P : Type 0} → (P → ⊥) → IsTrue false ↔ P
told_no never = (λ t. absurd (true≢false (sym t)), λ p. absurd (never p))

-- ---- items at two places

-- what an item of a list was made of
made_of : {A B : Type 0} (f : A → B) (xs : List A) (k : ℕ) (y : B) → slice_get (map f xs) k ≡ Some y → (x : A) × (slice_get xs k ≡ Some x) × (f x ≡ y)
made_of {A} {B} f xs k y e = go (slice_get xs k) refl (sym (slice_get-map f xs k) ∙ e)
  where
    go : (o : Option A) → slice_get xs k ≡ o → option_map f o ≡ Some y → (x : A) × (slice_get xs k ≡ Some x) × (f x ≡ y)
    go None here h = cc
    go (Some x) here h = (x, here, same_Some (f x) y h)

-- no two have one number
apart_types : (a : Lists) (ps : List ℕ) (ws : List WrittenSignature) (ts : List FunctionType) → map (type_in ps) ws ≡ ts → AreMet a ps ws → (j k : ℕ) (s t : Signature) → j < k
    → slice_get (map (shaped a) ts) j ≡ Some s → slice_get (map (shaped a) ts) k ≡ Some t → s ≡ t → ⊥
apart_types a ps ws ts is met j k s t lt at at' e =
    let v = made_of (shaped a) ts j s at in
    let w = made_of (shaped a) ts k t at' in
    let x = made_of (type_in ps) ws j v.0 (ap (λ (l : List FunctionType). slice_get l j) is ∙ v.1) in
    let y = made_of (type_in ps) ws k w.0 (ap (λ (l : List FunctionType). slice_get l k) is ∙ w.1) in
    met.distinct j k x.0 lt (slice_get_within ws k y.0 y.1)
    (ap (λ (u : WrittenSignature). shaped a (type_in ps u)) (get_or_from_slice_get ws j x.0 x.0 x.1) ∙ ap (shaped a) x.2 ∙ v.2 ∙ e
    ∙ sym (ap (λ (u : WrittenSignature). shaped a (type_in ps u)) (get_or_from_slice_get ws k y.0 x.0 y.1) ∙ ap (shaped a) y.2 ∙ w.2))

numbers_apart : (a : Lists) (ps : List ℕ) (ws : List WrittenSignature) (ts : List FunctionType) → map (type_in ps) ws ≡ ts → AreMet a ps ws → (j k : ℕ) (s t : Signature)
    → slice_get (map (shaped a) ts) j ≡ Some s → slice_get (map (shaped a) ts) k ≡ Some t → (j ≡ k → ⊥) → s ≡ t → ⊥
numbers_apart a ps ws ts is met j k s t at at' other e =
    elim (cases_order j k) [
      | inl same ↦ other same
      | inr (inl lt) ↦ apart_types a ps ws ts is met j k s t lt at at' e
      | inr (inr lt) ↦ apart_types a ps ws ts is met k j t s lt at' at (sym e)
    ]

-- the test by the numbers
pub same_numbers : (m : Met) (a : Lists) (ps : List ℕ) (ws : List WrittenSignature) → record { lists = a; types = map (type_in ps) ws } ≡ m → AreMet a ps ws → (j k : ℕ) (s t : Signature)
    → slice_get (known m) j ≡ Some s → slice_get (known m) k ≡ Some t → nat_eq j k ≡ same_signature s t
same_numbers m a ps ws is met j k s t at at' =
    let here : slice_get (map (shaped a) (map (type_in ps) ws)) j ≡ Some s = ap (λ (x : Met). slice_get (known x) j) is ∙ at in
    let there : slice_get (map (shaped a) (map (type_in ps) ws)) k ≡ Some t = ap (λ (x : Met). slice_get (known x) k) is ∙ at' in
    elim (cases_eq j k) [
      | inl e ↦ eq-eqb j k e ∙ same_if s t (same_Some s t (sym at ∙ ap (slice_get (known m)) e ∙ at'))
      | inr other ↦ ne_eqb j k other ∙ unlike_if s t (numbers_apart a ps ws (map (type_in ps) ws) refl met j k s t here there other)
    ]
