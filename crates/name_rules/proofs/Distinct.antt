-- Where nothing that a text asks for fails, no two structs and no two globals have one name.
use Rattle.std.specs.Prelude.{◌≡◌, refl, ℕ, Bool, true, false, List, [], ◌∷◌, ◌++◌, map, bytes_eq, cond, Option, Some, None}
use Rattle.std.specs.List.{list_any}
use Rattle.std.proofs.Common.{ap, subst}
use Rattle.ir_base.specs.declared.place.Place.{Place}
use Rattle.ir_terminals.specs.declared.values.PlacedName.{PlacedName}
use Rattle.ir_tables.specs.Table.{is_distinct}
use Rattle.name_rules.specs.Demand.{place_of_name}

-- each name is none of those before it
abbrev pub AreNew : List PlacedName → List PlacedName → Type 0
AreNew before [] = Unit {0}
AreNew before (n ∷ more) = (place_of_name before n.name ≡ None) × AreNew (before ++ n ∷ []) more

abbrev pub names : List PlacedName → List (List ℕ)
names all = map (λ (n : PlacedName). n.name) all

if_none : (b : Bool) (p : Place) (o : Option Place) → cond b (Some p) o ≡ None → (b ≡ false) × (o ≡ None)
if_none true p o e = absurd cc
if_none false p o e = (refl, e)

-- a name that is among these is not new behind them
not_here : (before : List PlacedName) (n : PlacedName) (after : List PlacedName) (name : List ℕ) → place_of_name (before ++ n ∷ after) name ≡ None → bytes_eq n.name name ≡ false
not_here [] n after name e = (if_none (bytes_eq n.name name) n.place (place_of_name after name) e).0
not_here (b ∷ before) n after name e = not_here before n after name (if_none (bytes_eq b.name name) b.place (place_of_name (before ++ n ∷ after) name) e).1

append_once : (before : List PlacedName) (n : PlacedName) (after : List PlacedName) (x : PlacedName) → (before ++ n ∷ after) ++ x ∷ [] ≡ before ++ n ∷ (after ++ x ∷ [])
append_once [] n after x = refl
append_once (b ∷ before) n after x = ap (λ rest. b ∷ rest) (append_once before n after x)

none_like : (before : List PlacedName) (n : PlacedName) (after more : List PlacedName) → AreNew (before ++ n ∷ after) more → list_any (bytes_eq n.name) (names more) ≡ false
none_like before n after [] new = refl
none_like before n after (x ∷ more) new =
    let here = not_here before n after x.name new.0 in
    let rest = none_like before n (after ++ x ∷ []) more (subst (λ all. AreNew all more) (append_once before n after x) new.1) in
    rw here rest

pub new_distinct : (before more : List PlacedName) → AreNew before more → is_distinct bytes_eq (names more) ≡ true
new_distinct before [] new = refl
new_distinct before (n ∷ more) new =
    let here = none_like before n [] more new.1 in
    let rest = new_distinct (before ++ n ∷ []) more new.1 in
    rw here rest
