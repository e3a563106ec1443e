-- Aliases without a target: one more, or the first of them gets one.
use Rattle.std.proofs.Common.{◌≡◌, ◌⊎◌, inl, inr, ℕ, zero, suc, ◌+◌, ◌≤◌, List, [], ◌∷◌, ◌++◌, length, set, slice_get, Option, Some, None, refl, sym, ap, ◌∙◌, arith}
use Rattle.std.specs.Option.{option_map_or}
use Rattle.module_arena.specs.declared.entry.Alias as the_alias
use Rattle.module_arena.specs.declared.entry.GlobalId.{GlobalId}
use Rattle.module_arena.specs.Changes.{changed_at, with_target}
use Rattle.module_arena.specs.Lists.{Lists}
use Rattle.module_arena.proofs.Found.{some-equal, slice_get-push, slice_get-here}
use Rattle.item_build.specs.Types.Declarations.{AreUntargeted}

pub untargeted_more : (a b : Lists) (x : the_alias.Alias) → x.target ≡ None → b.aliases ≡ a.aliases ++ x ∷ [] → AreUntargeted 0 a → AreUntargeted 0 b
untargeted_more a b x none pushed old = λ id y le is. at id y (ap (λ xs. slice_get xs id) (sym pushed) ∙ is) (slice_get-push a.aliases x id)
  where
    at : (id : ℕ) (y : the_alias.Alias) → slice_get (a.aliases ++ x ∷ []) id ≡ Some y → (id ≡ length a.aliases) ⊎ (slice_get (a.aliases ++ x ∷ []) id ≡ slice_get a.aliases id) → y.target ≡ None
    at id y is (inl here) = ap (λ (w : the_alias.Alias). w.target) (some-equal (sym is ∙ ap (slice_get (a.aliases ++ x ∷ [])) here ∙ slice_get-here a.aliases x)) ∙ none
    at id y is (inr before) = old id y (omega arith) (sym before ∙ is)

set_elsewhere : {X : Type 0} (xs : List X) (i k : ℕ) (x : X) → i + 1 ≤ k → slice_get (set xs i x) k ≡ slice_get xs k
set_elsewhere [] i k x le = refl
set_elsewhere (y ∷ ys) zero zero x le = absurd (omega (arith, le))
set_elsewhere (y ∷ ys) zero (suc k) x le = refl
set_elsewhere (y ∷ ys) (suc i) zero x le = absurd (omega (arith, le))
set_elsewhere (y ∷ ys) (suc i) (suc k) x le = set_elsewhere ys i k x (omega (arith, le))

changed_elsewhere : {X : Type 0} (xs : List X) (i k : ℕ) (f : X → X) → i + 1 ≤ k → slice_get (changed_at xs i f) k ≡ slice_get xs k
changed_elsewhere xs i k f le = by (slice_get xs i)
  where
    by : (o : Option _) → slice_get (option_map_or (λ x. set xs i (f x)) o xs) k ≡ slice_get xs k
    by None = refl
    by (Some x) = set_elsewhere xs i k (f x) le

pub untargeted_set : (a b : Lists) (first : ℕ) (g : GlobalId) → b ≡ with_target a first g → AreUntargeted first a → AreUntargeted (first + 1) b
untargeted_set a b first g set old = λ id x le is.
    old id x (omega (arith, le)) (sym (changed_elsewhere a.aliases first id (λ (y : the_alias.Alias). record y { target = Some g }) le) ∙ ap (λ (w : Lists). slice_get w.aliases id) (sym set) ∙ is)
