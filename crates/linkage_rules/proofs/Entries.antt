-- Lists: filters, first ones, and what holds of all.
use Rattle.std.proofs.Common.{◌≡◌, Bool, true, false, not, cond, List, [], ◌∷◌, map, refl, ap, ◌∙◌, filter}
use Rattle.std.specs.List.{AllByRecursion}
use Rattle.linkage_rules.specs.Lists.{firsts}

pub map_filter : {A B : Type 0} (f : A → B) (p : B → Bool) (xs : List A) → map f (filter (λ x. p (f x)) xs) ≡ filter p (map f xs)
map_filter f p [] = refl
map_filter f p (x ∷ xs) = go (p (f x)) refl (map_filter f p xs)
  where
    go : (b : Bool) → p (f x) ≡ b → map f (filter (λ y. p (f y)) xs) ≡ filter p (map f xs) → map f (filter (λ y. p (f y)) (x ∷ xs)) ≡ filter p (map f (x ∷ xs))
    go true e rest = rw e (ap (λ l. f x ∷ l) rest)
    go false e rest = rw e rest

pub firsts_map : {A B : Type 0} (key : A → B) (same : B → B → Bool) (xs : List A) → map key (firsts (λ x y. same (key x) (key y)) xs) ≡ firsts same (map key xs)
firsts_map key same [] = refl
firsts_map key same (x ∷ xs) =
    ap (λ l. key x ∷ l) (map_filter key (λ y. not (same (key x) y)) (firsts (λ x y. same (key x) (key y)) xs) ∙ ap (filter (λ y. not (same (key x) y))) (firsts_map key same xs))

pub all_passing : {A : Type 0} (P : A → Type 0) (p : A → Bool) (es : List A) → AllByRecursion P es → AllByRecursion (λ e. P e × (p e ≡ true)) (filter p es)
all_passing P p [] a = tt
all_passing P p (e ∷ es) a = go (p e) refl (all_passing P p es a.1)
  where
    go : (b : Bool) → p e ≡ b → AllByRecursion (λ e. P e × (p e ≡ true)) (filter p es) → AllByRecursion (λ e. P e × (p e ≡ true)) (cond (p e) (e ∷ filter p es) (filter p es))
    go true h rest = rw h ((a.0, h), rest)
    go false h rest = rw h rest

pub all_follow : {A : Type 0} (P Q : A → Type 0) (xs : List A) → ((x : A) → P x → Q x) → AllByRecursion P xs → AllByRecursion Q xs
all_follow P Q [] f a = tt
all_follow P Q (x ∷ xs) f a = (f x a.0, all_follow P Q xs f a.1)
