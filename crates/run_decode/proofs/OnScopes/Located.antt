-- Where the leaves of parameters and results stand, by their ids.
use Rattle.std.proofs.Common.{◌≡◌, ℕ, zero, suc, ◌+◌, ◌<◌, Bool, false, List, [], ◌∷◌, Some, cond, length, get_or, map, refl, sym, ap, ◌∙◌, arith}
use Rattle.std.specs.Prelude.{find}
use Rattle.std.specs.List.{IsDistinct}
use Rattle.std.proofs.lemmas.List.Elements.{All-from_recursion}
use Rattle.module_arena.specs.Module.{LocalName}
use Rattle.module_arena.specs.Same.{same_local}
use Rattle.module_arena.proofs.SameNames.{same_self}
use Rattle.type_table.specs.Layout.{leaves}
use Rattle.run_rules.specs.Scope.{Placed, Typed, placed_from}
use Rattle.run_decode.specs.Scopes.Scopes.{bounds_from}

-- their names
abbrev pub names_in : List Typed → List LocalName
names_in xs = map (λ (x : Typed). x.0) xs

first_bound : (place : ℕ) (xs : List Typed) → get_or (bounds_from place xs) 0 0 ≡ place
first_bound place [] = refl
first_bound place (x ∷ xs) = refl

-- what is found by the name of the one with that number: it has its leaves between two bounds
pub record IsLocated (place : ℕ) (xs : List Typed) (k : ℕ) (name : LocalName) : Type 0 where
  pub local : Placed
  pub found : find (λ l. same_local l.name name) (placed_from place xs) ≡ Some local
  pub begins : local.place ≡ get_or (bounds_from place xs) k 0
  pub ends : local.place + leaves local.shape ≡ get_or (bounds_from place xs) (suc k) 0

-- in front of others stands one of another name
behind : (place : ℕ) (x : Typed) (xs : List Typed) (k : ℕ) (name : LocalName) → same_local x.0 name ≡ false → IsLocated (place + leaves x.1) xs k name → IsLocated place (x ∷ xs) (suc k) name
behind place x xs k name other h = record {
  local = h.local;
  found = ap (λ (b : Bool). cond b (Some (record { name = x.0; shape = x.1; place = place })) (find (λ (l : Placed). same_local l.name name) (placed_from (place + leaves x.1) xs))) other ∙ h.found;
  begins = h.begins;
  ends = h.ends;
}

pub located : (place : ℕ) (xs : List Typed) (k : ℕ) (d : LocalName) → IsDistinct same_local (names_in xs) → k < length (names_in xs) → IsLocated place xs k (get_or (names_in xs) k d)
unfolding IsDistinct
located place [] k d apart lt = absurd (omega arith)
located place (x ∷ xs) zero d apart lt = record {
  local = record { name = x.0; shape = x.1; place = place };
  found = ap (λ (b : Bool). cond b (Some (record { name = x.0; shape = x.1; place = place })) (find (λ (l : Placed). same_local l.name x.0) (placed_from (place + leaves x.1) xs))) (same_self x.0);
  begins = refl;
  ends = sym (first_bound (place + leaves x.1) xs);
}
located place (x ∷ xs) (suc k) d apart lt =
    let here : k < length (names_in xs) = omega arith in
    behind place x xs k (get_or (names_in xs) k d) (All-from_recursion (λ (y : LocalName). same_local x.0 y ≡ false) (names_in xs) apart.0 k d here) (located (place + leaves x.1) xs k d apart.1 here)

-- there is a bound for each, and one more
pub bounds_count : (place : ℕ) (xs : List Typed) → length (bounds_from place xs) ≡ length (names_in xs) + 1
bounds_count place [] = refl
bounds_count place (x ∷ xs) = let rest = bounds_count (place + leaves x.1) xs in omega (arith, rest)
