-- What the parameters, blocks and results of a function are called: names that are new and numbers in order.
use Rattle.std.proofs.Common.{◌≡◌, ℕ, suc, ◌+◌, ◌<◌, ◌==◌, ◌&&◌, ◌||◌, not, cond, List, [], ◌∷◌, ◌++◌, map, Bool, true, false, Option, Some, None, refl, sym, ap, ◌∙◌, bytes_eq, arith, add-one}
use Rattle.std.specs.List.{list_all, list_any}
use Rattle.std.proofs.lemmas.Bool.{and_from, or_from, or_left, or_right, eqb-true, eq-eqb, ne_eqb}
use Rattle.std.proofs.lemmas.Slice.Eq.{bytes_eq-Decides}
use Rattle.ir_base.specs.declared.place.Place.{Place}
use Rattle.ir_tables.specs.Table.{is_distinct}
use Rattle.ir_terminals.specs.declared.values.Local.{Local}
use Rattle.ir_terminals.specs.declared.values.Local.TheVariants as locals
use Rattle.ir_terminals.specs.declared.values.PlacedName.{PlacedName}
use Rattle.ir_phrases.specs.Constants.Forms.{AllAre}
use Rattle.ir_phrases.proofs.OnConstants.Gives.{IfThere}
use Rattle.module_arena.specs.Module.{LocalName, Named, Numbered}
use Rattle.module_arena.specs.Names.{is_local_name, is_numbered_from}
use Rattle.module_arena.specs.Same.{same_local, has_local}
use Rattle.name_rules.specs.declared.fault.ResolveFault.TheVariants as faults
use Rattle.name_rules.specs.Spelled.{decimal}
use Rattle.name_rules.specs.Locals.{Announced, Locals, local_in, called, next_behind, next_after, known_as, locals_from, is_alike, is_there}
use Rattle.name_rules.specs.Demand.{first_refusal, place_of_name}
use Rattle.name_rules.specs.FunctionDemands.{Called, names_with, called_with, called_after, call_demands}
use Rattle.name_rules.proofs.Judging.{held}
use Rattle.name_rules.proofs.NewNames.{none_there}
use Rattle.name_rules.proofs.OnReading.Spellings.{IsLocalWell}

-- what these are called, from the next number on
abbrev pub called_from : ℕ → List Announced → List LocalName
called_from next [] = []
called_from next (a ∷ more) = called next a.1 ∷ called_from (next_behind next a.1) more

-- the blocks among them, or the values
abbrev pub of_kind : Bool → ℕ → List Announced → List LocalName
of_kind block next [] = []
of_kind block next (a ∷ more) = cond (is_alike a.0 block) (called next a.1 ∷ of_kind block (next_behind next a.1) more) (of_kind block (next_behind next a.1) more)

pub called-append : (next : ℕ) (xs ys : List Announced) → called_from next (xs ++ ys) ≡ called_from next xs ++ called_from (next_after next xs) ys
called-append next [] ys = refl
called-append next (a ∷ xs) ys = ap (λ rest. called next a.1 ∷ rest) (called-append (next_behind next a.1) xs ys)

cond_append : (b : Bool) (name : LocalName) (xs ys : List LocalName) → cond b (name ∷ (xs ++ ys)) (xs ++ ys) ≡ cond b (name ∷ xs) xs ++ ys
cond_append true name xs ys = refl
cond_append false name xs ys = refl

pub of_kind-append : (block : Bool) (next : ℕ) (xs ys : List Announced) → of_kind block next (xs ++ ys) ≡ of_kind block next xs ++ of_kind block (next_after next xs) ys
of_kind-append block next [] ys = refl
of_kind-append block next (a ∷ xs) ys =
    let rest = of_kind-append block (next_behind next a.1) xs ys in
    ap (λ all. cond (is_alike a.0 block) (called next a.1 ∷ all) all) rest
    ∙ cond_append (is_alike a.0 block) (called next a.1) (of_kind block (next_behind next a.1) xs) (of_kind block (next_after (next_behind next a.1) xs) ys)

-- nothing fails that their names and numbers ask for
abbrev pub AreCalled : Called → List Announced → Type 0
AreCalled before [] = Unit {0}
AreCalled before (a ∷ more) = (first_refusal (call_demands before a.1) ≡ None) × AreCalled (called_with before a) more

pub both_called : (before : Called) (xs ys : List Announced) → AreCalled before xs → AreCalled (called_after before xs) ys → AreCalled before (xs ++ ys)
both_called before [] ys h g = g
both_called before (a ∷ xs) ys h g = (h.0, both_called (called_with before a) xs ys h.1 g)

-- ---- in order

pub numbered_in_order : (next : ℕ) (all : List Announced) → is_numbered_from next (called_from next all) ≡ true
numbered_in_order next [] = refl
numbered_in_order next (a ∷ more) = by a.1 (λ n. numbered_in_order n more)
  where
    numbered : ((n : ℕ) → is_numbered_from n (called_from n more) ≡ true) → ((next == next) && is_numbered_from (next + 1) (called_from (suc next) more)) ≡ true
    numbered rest = and_from (next == next) _ (eq-eqb next next refl) (rw add-one (rest (suc next)))

    by : (written : Option Local) → ((n : ℕ) → is_numbered_from n (called_from n more) ≡ true) → is_numbered_from next (called next written ∷ called_from (next_behind next written) more) ≡ true
    by None rest = numbered rest
    by (Some (locals.Named name)) rest = rest next
    by (Some (locals.Numbered number place)) rest = numbered rest

-- names are names
pub names_are_names : (next : ℕ) (all : List Announced) → AllAre (λ a. IfThere IsLocalWell a.1) all → list_all is_local_name (called_from next all) ≡ true
names_are_names next [] h = refl
names_are_names next (a ∷ more) h = and_from (is_local_name (called next a.1)) (list_all is_local_name (called_from (next_behind next a.1) more)) (by a.1 h.0) (names_are_names (next_behind next a.1) more h.1)
  where
    by : (written : Option Local) → IfThere IsLocalWell written → is_local_name (called next written) ≡ true
    by None g = refl
    by (Some (locals.Named name)) g = g
    by (Some (locals.Numbered number place)) g = refl

-- ---- distinct

place_first : (b : Bool) (p : Place) (o q : Option Place) → ((r : Place) → o ≡ Some r → q ≡ Some r) → (r : Place) → cond b (Some p) o ≡ Some r → cond b (Some p) q ≡ Some r
place_first true p o q h r e = e
place_first false p o q h r e = h r e

place_stays : (before : List PlacedName) (more : PlacedName) (name : List ℕ) (r : Place) → place_of_name before name ≡ Some r → place_of_name (before ++ more ∷ []) name ≡ Some r
place_stays [] more name r e = absurd cc
place_stays (b ∷ before) more name r e =
    place_first (bytes_eq b.name name) b.place (place_of_name before name) (place_of_name (before ++ more ∷ []) name) (λ q f. place_stays before more name q f) r e

-- a name that was added is there
place_added : (before : List PlacedName) (added : PlacedName) → (r : Place) × (place_of_name (before ++ added ∷ []) added.name ≡ Some r)
place_added [] added = (added.place, ap (λ b. cond b (Some added.place) None) ((bytes_eq-Decides added.name added.name).1 refl))
place_added (b ∷ before) added = by (bytes_eq b.name added.name) (place_added before added)
  where
    by : (t : Bool) → ((r : Place) × (place_of_name (before ++ added ∷ []) added.name ≡ Some r)) → (r : Place) × (cond t (Some b.place) (place_of_name (before ++ added ∷ []) added.name) ≡ Some r)
    by true rest = (b.place, refl)
    by false rest = rest

none_some : (o : Option Place) (r : Place) → o ≡ None → o ≡ Some r → ⊥
none_some o r e f = absurd cc

other_name : (before : List PlacedName) (name : List ℕ) (r : Place) (w : PlacedName) → place_of_name before name ≡ Some r → place_of_name before w.name ≡ None → bytes_eq name w.name ≡ false
other_name before name r w e f = by (bytes_eq name w.name) refl
  where
    by : (b : Bool) → bytes_eq name w.name ≡ b → b ≡ false
    by false q = refl
    by true q =
        let same = (bytes_eq-Decides name w.name).0 q in
        absurd (none_some (place_of_name before name) r (ap (place_of_name before) same ∙ f) e)

kept_name : (before : Called) (a : Announced) (name : List ℕ) (r : Place) → place_of_name before.names name ≡ Some r → place_of_name (called_with before a).names name ≡ Some r
kept_name before a name r e = by a.1
  where
    by : (written : Option Local) → place_of_name (names_with before.names written) name ≡ Some r
    by None = e
    by (Some (locals.Named w)) = place_stays before.names w name r e
    by (Some (locals.Numbered number place)) = e

none_named : (before : Called) (more : List Announced) (name : List ℕ) (r : Place) → place_of_name before.names name ≡ Some r → AreCalled before more → list_any (same_local (Named name)) (called_from before.next more) ≡ false
none_named before [] name r e h = refl
none_named before (a ∷ more) name r e h =
    or_from (same_local (Named name) (called before.next a.1)) _ (by a.1 h.0) (none_named (called_with before a) more name r (kept_name before a name r e) h.1)
  where
    by : (written : Option Local) → first_refusal (call_demands before written) ≡ None → same_local (Named name) (called before.next written) ≡ false
    by None g = refl
    by (Some (locals.Named w)) g = other_name before.names name r w e (none_there w.place (place_of_name before.names w.name) g)
    by (Some (locals.Numbered number place)) g = refl

lower : (k n : ℕ) → k < n → (k == n) ≡ false
lower k n h = ne_eqb k n (λ e. let f = e in omega (arith, h, f))

none_numbered : (next : ℕ) (more : List Announced) (k : ℕ) → k < next → list_any (same_local (Numbered k)) (called_from next more) ≡ false
none_numbered next [] k h = refl
none_numbered next (a ∷ more) k h = by a.1 (λ n g. none_numbered n more k g)
  where
    by : (written : Option Local) → ((n : ℕ) → k < n → list_any (same_local (Numbered k)) (called_from n more) ≡ false) → list_any (same_local (Numbered k)) (called next written ∷ called_from (next_behind next written) more) ≡ false
    by None rest = or_from (k == next) _ (lower k next h) (rest (suc next) (omega (arith, h)))
    by (Some (locals.Named w)) rest = rest next h
    by (Some (locals.Numbered number place)) rest = or_from (k == next) _ (lower k next h) (rest (suc next) (omega (arith, h)))

next_above : (n : ℕ) → n < suc n
next_above n = omega arith

pub called_distinct : (before : Called) (all : List Announced) → AreCalled before all → is_distinct same_local (called_from before.next all) ≡ true
called_distinct before [] h = refl
called_distinct before (a ∷ more) h =
    let rest = called_distinct (called_with before a) more h.1 in
    and_from (not (list_any (same_local (called before.next a.1)) (called_from (next_behind before.next a.1) more))) _ (ap not (by a.1 h.1)) rest
  where
    by : (written : Option Local) → AreCalled (record { next = next_behind before.next written; names = names_with before.names written }) more → list_any (same_local (called before.next written)) (called_from (next_behind before.next written) more) ≡ false
    by None g = none_numbered (suc before.next) more before.next (next_above before.next)
    by (Some (locals.Named w)) g = let there = place_added before.names w in none_named (record { next = before.next; names = before.names ++ w ∷ [] }) more w.name there.0 there.1 g
    by (Some (locals.Numbered number place)) g = none_numbered (suc before.next) more before.next (next_above before.next)

-- ---- what is there

-- what is written is what it is called
written_called : (before : Called) (written : Local) → first_refusal (call_demands before (Some written)) ≡ None → local_in written ≡ called before.next (Some written)
written_called before (locals.Named w) e = refl
written_called before (locals.Numbered number place) e =
    ap Numbered (eqb-true number before.next (held (number == before.next) (faults.WrongNumber place before.next (decimal number)) [] e).0)

abbrev fits : Bool → LocalName → LocalName × Bool → Bool
fits block name local = same_local local.0 name && is_alike local.1 block

two_tests : (a b c : Bool) → (a && b || ((a && b) || c)) ≡ ((a && b) || c)
two_tests true true c = refl
two_tests true false c = refl
two_tests false b c = refl

one_there : (before : Called) (a : Announced) (block : Bool) (name : LocalName) (rest : Locals) → first_refusal (call_demands before a.1) ≡ None
    → list_any (fits block name) (map (λ n. (n, a.0)) (known_as before.next a.1) ++ rest) ≡ ((same_local (called before.next a.1) name && is_alike a.0 block) || list_any (fits block name) rest)
one_there before a block name rest h = by a.1 h
  where
    by : (written : Option Local) → first_refusal (call_demands before written) ≡ None
        → list_any (fits block name) (map (λ n. (n, a.0)) (known_as before.next written) ++ rest) ≡ ((same_local (called before.next written) name && is_alike a.0 block) || list_any (fits block name) rest)
    by None g = refl
    by (Some written) g =
        ap (λ l. (same_local (called before.next (Some written)) name && is_alike a.0 block) || ((same_local l name && is_alike a.0 block) || list_any (fits block name) rest)) (written_called before written g)
        ∙ two_tests (same_local (called before.next (Some written)) name) (is_alike a.0 block) (list_any (fits block name) rest)

pub kind_there : (before : Called) (all : List Announced) (block : Bool) (name : LocalName) → AreCalled before all → is_there (locals_from before.next all) block name ≡ true → has_local (of_kind block before.next all) name ≡ true
kind_there before [] block name h e = e
kind_there before (a ∷ more) block name h e =
    by (is_alike a.0 block) (same_local (called before.next a.1) name) refl (sym (one_there before a block name (locals_from (next_behind before.next a.1) more) h.0) ∙ e)
    (λ g. kind_there (called_with before a) more block name h.1 g)
  where
    inside : List LocalName
    inside = of_kind block (next_behind before.next a.1) more

    by : (k s : Bool) → same_local (called before.next a.1) name ≡ s
        → ((s && k) || list_any (fits block name) (locals_from (next_behind before.next a.1) more)) ≡ true
        → (list_any (fits block name) (locals_from (next_behind before.next a.1) more) ≡ true → has_local (of_kind block (next_behind before.next a.1) more) name ≡ true)
        → has_local (cond k (called before.next a.1 ∷ of_kind block (next_behind before.next a.1) more) (of_kind block (next_behind before.next a.1) more)) name ≡ true
    by true true q g rest = or_left (same_local (called before.next a.1) name) _ q
    by true false q g rest = or_right (same_local (called before.next a.1) name) _ (rest g)
    by false true q g rest = rest g
    by false false q g rest = rest g
