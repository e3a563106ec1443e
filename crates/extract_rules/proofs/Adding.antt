-- Names that are added one after another.
use Rattle.std.proofs.Common.{◌≡◌, ℕ, ◌+◌, ◌<◌, Bool, true, false, ◌||◌, ◌⊎◌, inl, inr, List, [], ◌∷◌, ◌++◌, map, flat_map, length, take, Some, refl, sym, ap, ◌∙◌, subst, bytes_eq, slice_get, get_or, append_assoc, append-nil, if◌then◌else◌}
use Rattle.std.proofs.lemmas.Option.{slice_get-get_or}
use Rattle.std.proofs.lemmas.List.Concat.{flat_map-append}
use Rattle.std.proofs.lemmas.List.Folds.{list_any-append}
use Rattle.type_table.proofs.Steps.{take_next}
use Rattle.module_arena.specs.Module.{Bytes}
use Rattle.extract_rules.specs.Calls.{Adds, AreNames}
use Rattle.extract_rules.specs.Selected.{is_among}
use Rattle.extract_rules.proofs.Among.{same_test, among_front, among_cases, name_exact}

pub or_nothing : (b : Bool) → b ≡ (b || false)
or_nothing true = refl
or_nothing false = refl

pub or_regroup : (a b c : Bool) → ((a || b) || c) ≡ (a || (b || c))
or_regroup true b c = refl
or_regroup false b c = refl

-- nothing is added
pub adds_none : (old : List Bytes) → Adds old [] old
adds_none old = record {
  grows = ([], sym (append-nil old));
  among = λ name. or_nothing (is_among old name);
}

-- a name that was there, or goes last
pub adds_one : (old : List Bytes) (x : Bytes) → Adds old (x ∷ []) (if is_among old x then old else old ++ x ∷ [])
adds_one old x = go (is_among old x) refl
  where
    go : (b : Bool) → is_among old x ≡ b → Adds old (x ∷ []) (if b then old else old ++ x ∷ [])
    go true e = record {
      grows = ([], sym (append-nil old));
      among = λ name. same_test (is_among old name) (is_among old name || is_among (x ∷ []) name)
          (λ h. sym (list_any-append (bytes_eq name) old (x ∷ [])) ∙ among_front old (x ∷ []) name h)
          (λ h. by name (among_cases old (x ∷ []) name (list_any-append (bytes_eq name) old (x ∷ []) ∙ h)));
    }
      where
        by : (name : Bytes) → (is_among old name ≡ true) ⊎ (is_among (x ∷ []) name ≡ true) → is_among old name ≡ true
        by name (inl h) = h
        by name (inr h) = subst (λ z. is_among old z ≡ true) (sym (name_exact name x (or_nothing (bytes_eq name x) ∙ h))) e
    go false e = record {
      grows = (x ∷ [], refl);
      among = λ name. list_any-append (bytes_eq name) old (x ∷ []);
    }

-- some, and then others
pub adds_both : (old xs mid ys new : List Bytes) → Adds old xs mid → Adds mid ys new → Adds old (xs ++ ys) new
adds_both old xs mid ys new a b = record {
  grows = (a.grows.0 ++ b.grows.0, b.grows.1 ∙ ap (λ l. l ++ b.grows.0) a.grows.1 ∙ append_assoc old a.grows.0 b.grows.0);
  among = λ name. b.among name ∙ ap (λ c. c || is_among ys name) (a.among name) ∙ or_regroup (is_among old name) (is_among xs name) (is_among ys name) ∙ ap (λ c. is_among old name || c) (sym (list_any-append (bytes_eq name) xs ys));
}

-- the same names, told otherwise
pub adds_as : (old xs ys new : List Bytes) → xs ≡ ys → Adds old xs new → Adds old ys new
adds_as old xs ys new e a = subst (λ zs. Adds old zs new) e a

-- ---- along a list

pub take_whole : {A : Type 0} (xs : List A) (k : ℕ) → k ≡ length xs → take k xs ≡ xs
take_whole {A = A} xs k e = ap (λ n. take n xs) e ∙ go xs
  where
    go : (ys : List A) → take (length ys) ys ≡ ys
    go [] = refl
    go (y ∷ ys) = ap (λ l. y ∷ l) (go ys)

pub gathered_more : {A B : Type 0} (g : A → List B) (xs : List A) (k : ℕ) (x : A) → slice_get xs k ≡ Some x → flat_map g (take (k + 1) xs) ≡ flat_map g (take k xs) ++ g x
gathered_more g xs k x h = ap (flat_map g) (take_next xs k x h) ∙ flat_map-append g (take k xs) (x ∷ []) ∙ ap (λ l. flat_map g (take k xs) ++ l) (append-nil (g x))

pub adds_more : {A : Type 0} (g : A → List Bytes) (xs : List A) (k : ℕ) (x : A) (old mid new : List Bytes) → slice_get xs k ≡ Some x → Adds old (flat_map g (take k xs)) mid → Adds mid (g x) new → Adds old (flat_map g (take (k + 1) xs)) new
adds_more g xs k x old mid new h a b = adds_as old _ _ new (sym (gathered_more g xs k x h)) (adds_both old (flat_map g (take k xs)) mid (g x) new a b)

pub adds_whole : {A : Type 0} (g : A → List Bytes) (xs : List A) (k : ℕ) (old new : List Bytes) → k ≡ length xs → Adds old (flat_map g (take k xs)) new → Adds old (flat_map g xs) new
adds_whole g xs k old new e a = adds_as old _ _ new (ap (flat_map g) (take_whole xs k e)) a

-- one name for each
pub singles : {A : Type 0} (f : A → Bytes) (xs : List A) → flat_map (λ x. f x ∷ []) xs ≡ map f xs
singles f [] = refl
singles f (x ∷ xs) = ap (λ l. f x ∷ l) (singles f xs)

pub singles_same : (xs : List Bytes) → flat_map (λ x. x ∷ []) xs ≡ xs
singles_same [] = refl
singles_same (x ∷ xs) = ap (λ l. x ∷ l) (singles_same xs)

-- the item of a loop
pub item_at : {A : Type 0} (xs : List A) (k : ℕ) (x : A) → k < length xs → x ≡ get_or xs k x → slice_get xs k ≡ Some x
item_at xs k x lt is = slice_get-get_or xs k x lt ∙ ap Some (sym is)

-- ---- what is selected

pub are_selected : (fs vs as_ one two three : List Bytes) (none : List Bytes) → none ≡ [] → Adds none fs one → Adds one vs two → Adds two as_ three → AreNames three (fs ++ vs ++ as_)
are_selected fs vs as_ one two three none e a b c name =
    let whole = adds_both none (fs ++ vs) two as_ three (adds_both none fs one vs two a b) c in
    whole.among name ∙ ap (λ l. is_among l name || is_among (fs ++ vs ++ as_) name) e
