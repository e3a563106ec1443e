-- Lists of what entries become, made one after the other.
use Rattle.std.proofs.Common.{◌≡◌, ℕ, zero, suc, ◌+◌, List, [], ◌∷◌, ◌++◌, map, length, slice_get, take, Option, Some, None, refl, sym, ap, ap₂, ◌∙◌, append_assoc, append-nil, arith}
use Rattle.std.specs.Prelude.{option_to_list}
use Rattle.std.specs.List.{cons_option}
use Rattle.std.proofs.lemmas.List.{map-append}
use Rattle.std.proofs.lemmas.Option.{same_Some}
use Rattle.extract_rules.proofs.Adding.{take_whole}
use Rattle.extract_core.specs.declared.fates.fates.Fate.{Fate}
use Rattle.extract_core.specs.Fates.Fates.{made}

-- the first ones are one more
pub made_more : {A B : Type 0} (become : Fate → A → Option B) (fates : List Fate) (xs : List A) (k : ℕ) (f : Fate) (x : A) → slice_get fates k ≡ Some f → slice_get xs k ≡ Some x
    → made become (take (suc k) fates) (take (suc k) xs) ≡ made become (take k fates) (take k xs) ++ cons_option (become f x) []
made_more become [] xs k f x at is = cc
made_more become (g ∷ fates) [] k f x at is = cc
made_more become (g ∷ fates) (y ∷ xs) zero f x at is = λ i. cons_option (become (same_Some g f at i) (same_Some y x is i)) []
made_more {B = B} become (g ∷ fates) (y ∷ xs) (suc k) f x at is = go (become g y) (made_more become fates xs k f x at is)
  where
    go : (o : Option B) → made become (take (suc k) fates) (take (suc k) xs) ≡ made become (take k fates) (take k xs) ++ cons_option (become f x) []
        → cons_option o (made become (take (suc k) fates) (take (suc k) xs)) ≡ cons_option o (made become (take k fates) (take k xs)) ++ cons_option (become f x) []
    go None h = h
    go (Some z) h = ap (λ l. z ∷ l) h

pub one_listed : {B : Type 0} (o : Option B) → cons_option o [] ≡ option_to_list o
one_listed None = refl
one_listed (Some y) = refl

module _ {A B : Type 0} (become : Fate → A → Option B) (declared : B → B) (before : List B) (fates : List Fate) (xs : List A) (k : ℕ) where
  pub joined_more : (f : Fate) (x : A) → slice_get fates k ≡ Some f → slice_get xs k ≡ Some x
      → (before ++ map declared (made become (take k fates) (take k xs))) ++ map declared (option_to_list (become f x)) ≡ before ++ map declared (made become (take (k + 1) fates) (take (k + 1) xs))
  joined_more f x at is =
      let next : k + 1 ≡ suc k = omega arith in
      let whole : made become (take (k + 1) fates) (take (k + 1) xs) ≡ made become (take k fates) (take k xs) ++ option_to_list (become f x)
      = ap (λ n. made become (take n fates) (take n xs)) next ∙ made_more become fates xs k f x at is ∙ ap (λ l. made become (take k fates) (take k xs) ++ l) (one_listed (become f x)) in
      append_assoc before _ _ ∙ ap (λ l. before ++ l) (sym (map-append declared (made become (take k fates) (take k xs)) (option_to_list (become f x))) ∙ sym (ap (map declared) whole))

  pub joined_whole : k ≡ length fates → k ≡ length xs → before ++ map declared (made become (take k fates) (take k xs)) ≡ before ++ map declared (made become fates xs)
  joined_whole e f = ap (λ l. before ++ map declared l) (ap₂ (made become) (take_whole fates k e) (take_whole xs k f))

-- nothing is made of nothing
pub joined_none : {A B : Type 0} (become : Fate → A → Option B) (declared : B → B) (before : List B) (fates : List Fate) (xs : List A) → before ≡ before ++ map declared (made become (take 0 fates) (take 0 xs))
joined_none become declared before fates xs = sym (append-nil before)
