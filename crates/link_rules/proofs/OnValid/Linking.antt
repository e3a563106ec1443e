-- What is written in a part may be written in the linked module, under new names.
use Rattle.std.proofs.Common.{◌≡◌, ℕ, zero, suc, Bool, true, false, not, ◌||◌, ◌⊎◌, inl, inr, List, [], ◌∷◌, ◌++◌, map, Some, refl, sym, ap, ◌∙◌, subst, filter_map, option_map, bytes_eq}
use Rattle.std.specs.Prelude.{slice_get}
use Rattle.std.specs.List.{list_any, AllByRecursion}
use Rattle.std.proofs.lemmas.Bool.{and_parts, or_left, or_right, or_parts, or_from, or_cases, both_ways, not-true}
use Rattle.std.proofs.lemmas.Option.{same_Some, slice_get-map}
use Rattle.std.proofs.lemmas.List.Folds.{list_any-append}
use Rattle.ir_tables.specs.Table.{is_distinct}
use Rattle.module_arena.specs.Module.{Bytes, Variable, Alias, Function, Module}
use Rattle.module_arena.specs.Functions.{variable_names, alias_names, function_names}
use Rattle.module_arena.specs.WellFormed.{has_entry}
use Rattle.linkage_rules.specs.Globals.{Global, OfVariable, OfFunction, OfAlias, name_of, globals}
use Rattle.link_rules.proofs.Apart.{Apart, none_at}
use Rattle.linkage_rules.proofs.Lists.{other_way}
use Rattle.linkage_rules.specs.SymbolLaws.{name_self, name_exact}
use Rattle.link_rules.specs.Linked.{variable_if, function_if, alias_if}
use Rattle.link_rules.proofs.Merged.{Row}
use Rattle.link_rules.proofs.ByKind.{any_key}

-- NAMES WITHOUT REPEATS

abbrev pub Cross : List Bytes → List Bytes → Type 0
Cross xs ys = AllByRecursion (λ x. list_any (bytes_eq x) ys ≡ false) xs

pub distinct_apart : (xs : List Bytes) → is_distinct bytes_eq xs ≡ true → Apart bytes_eq xs
distinct_apart [] h = tt
distinct_apart (x ∷ xs) h =
    let both = and_parts (not (list_any (bytes_eq x) xs)) _ h in
    (not-true _ both.0, distinct_apart xs both.1)

pub apart_parts : (xs ys : List Bytes) → Apart bytes_eq (xs ++ ys) → Apart bytes_eq xs × (Apart bytes_eq ys × Cross xs ys)
apart_parts [] ys a = (tt, (a, tt))
apart_parts (x ∷ xs) ys a =
    let rest = apart_parts xs ys a.1 in
    let both = or_parts (list_any (bytes_eq x) xs) (list_any (bytes_eq x) ys) (sym (list_any-append (bytes_eq x) xs ys) ∙ a.0) in
    ((both.0, rest.0), (rest.1.0, (both.1, rest.1.1)))

pub apart_together : (xs ys : List Bytes) → Apart bytes_eq xs → Apart bytes_eq ys → Cross xs ys → Apart bytes_eq (xs ++ ys)
apart_together [] ys a b c = b
apart_together (x ∷ xs) ys a b c = (list_any-append (bytes_eq x) xs ys ∙ or_from _ _ a.0 c.0, apart_together xs ys a.1 b c.1)

cross_none : (xs : List Bytes) → Cross xs []
cross_none [] = tt
cross_none (x ∷ xs) = (refl, cross_none xs)

pub cross_back : (xs ys : List Bytes) → Cross xs ys → Cross ys xs
cross_back [] ys c = cross_none ys
cross_back (x ∷ xs) ys c = joined ys c.0 (cross_back xs ys c.1)
  where
    joined : (ys : List Bytes) → list_any (bytes_eq x) ys ≡ false → Cross ys xs → Cross ys (x ∷ xs)
    joined [] h c = tt
    joined (y ∷ ys) h c =
        let both = or_parts (bytes_eq x y) _ h in
        (or_from _ _ (other_way bytes_eq name_self name_exact x y both.0) c.0, joined ys both.1 c.1)

pub cross_parts : (xs ys zs : List Bytes) → Cross xs (ys ++ zs) → Cross xs ys × Cross xs zs
cross_parts [] ys zs c = (tt, tt)
cross_parts (x ∷ xs) ys zs c =
    let both = or_parts (list_any (bytes_eq x) ys) (list_any (bytes_eq x) zs) (sym (list_any-append (bytes_eq x) ys zs) ∙ c.0) in
    let rest = cross_parts xs ys zs c.1 in
    ((both.0, rest.0), (both.1, rest.1))

pub cross_front : (xs ys zs : List Bytes) → Cross xs zs → Cross ys zs → Cross (xs ++ ys) zs
cross_front [] ys zs a b = b
cross_front (x ∷ xs) ys zs a b = (a.0, cross_front xs ys zs a.1 b)

pub names_of : (vs : List Variable) (fs : List Function) (as_ : List Alias) → map name_of ((map OfVariable vs ++ map OfFunction fs) ++ map OfAlias as_) ≡ (map (λ (v : Variable). v.name) vs ++ map (λ (f : Function). f.name) fs) ++ map (λ (a : Alias). a.name) as_
names_of [] [] [] = refl
names_of [] [] (a ∷ as_) = ap (λ l. a.name ∷ l) (names_of [] [] as_)
names_of [] (f ∷ fs) as_ = ap (λ l. f.name ∷ l) (names_of [] fs as_)
names_of (v ∷ vs) fs as_ = ap (λ l. v.name ∷ l) (names_of vs fs as_)

-- an entry of that name, one way and the other
either_order : (a b c : Bool) → (a || (b || c)) ≡ ((a || c) || b)
either_order true b c = refl
either_order false true true = refl
either_order false true false = refl
either_order false false true = refl
either_order false false false = refl

pub entry_named : (m : Module) (name : Bytes) → has_entry m name ≡ list_any (λ g. bytes_eq name (name_of g)) (globals m)
entry_named m name =
    list_any-append (bytes_eq name) (variable_names m) (alias_names m ++ function_names m)
    ∙ ap (λ b. list_any (bytes_eq name) (variable_names m) || b) (list_any-append (bytes_eq name) (alias_names m) (function_names m))
    ∙ either_order (list_any (bytes_eq name) (variable_names m)) (list_any (bytes_eq name) (alias_names m)) (list_any (bytes_eq name) (function_names m))
    ∙ sym (ap (λ b. b || list_any (bytes_eq name) (alias_names m)) (list_any-append (bytes_eq name) (variable_names m) (function_names m)))
    ∙ sym (list_any-append (bytes_eq name) (variable_names m ++ function_names m) (alias_names m))
    ∙ ap (list_any (bytes_eq name)) (sym (names_of m.variables m.functions m.aliases))
    ∙ any_key name_of (bytes_eq name) (globals m)

-- LINKED ENTRIES BY KIND

pub variable_there : (gs : List Global) (k : ℕ) (v : Variable) → slice_get gs k ≡ Some (OfVariable v) → list_any (bytes_eq v.name) (map (λ (w : Variable). w.name) (filter_map variable_if gs)) ≡ true
variable_there [] k v at = cc
variable_there (g ∷ gs) zero v at = subst (λ h. list_any (bytes_eq v.name) (map (λ (w : Variable). w.name) (filter_map variable_if (h ∷ gs))) ≡ true) (sym (same_Some g (OfVariable v) at)) (or_left _ _ (name_self v.name))
variable_there (OfVariable w ∷ gs) (suc k) v at = or_right (bytes_eq v.name w.name) _ (variable_there gs k v at)
variable_there (OfFunction f ∷ gs) (suc k) v at = variable_there gs k v at
variable_there (OfAlias a ∷ gs) (suc k) v at = variable_there gs k v at

pub function_there : (gs : List Global) (k : ℕ) (f : Function) → slice_get gs k ≡ Some (OfFunction f) → list_any (bytes_eq f.name) (map (λ (h : Function). h.name) (filter_map function_if gs)) ≡ true
function_there [] k f at = cc
function_there (g ∷ gs) zero f at = subst (λ h. list_any (bytes_eq f.name) (map (λ (w : Function). w.name) (filter_map function_if (h ∷ gs))) ≡ true) (sym (same_Some g (OfFunction f) at)) (or_left _ _ (name_self f.name))
function_there (OfFunction h ∷ gs) (suc k) f at = or_right (bytes_eq f.name h.name) _ (function_there gs k f at)
function_there (OfVariable v ∷ gs) (suc k) f at = function_there gs k f at
function_there (OfAlias a ∷ gs) (suc k) f at = function_there gs k f at

pub alias_there : (gs : List Global) (k : ℕ) (a : Alias) → slice_get gs k ≡ Some (OfAlias a) → list_any (bytes_eq a.name) (map (λ (b : Alias). b.name) (filter_map alias_if gs)) ≡ true
alias_there [] k a at = cc
alias_there (g ∷ gs) zero a at = subst (λ h. list_any (bytes_eq a.name) (map (λ (w : Alias). w.name) (filter_map alias_if (h ∷ gs))) ≡ true) (sym (same_Some g (OfAlias a) at)) (or_left _ _ (name_self a.name))
alias_there (OfAlias b ∷ gs) (suc k) a at = or_right (bytes_eq a.name b.name) _ (alias_there gs k a at)
alias_there (OfVariable v ∷ gs) (suc k) a at = alias_there gs k a at
alias_there (OfFunction f ∷ gs) (suc k) a at = alias_there gs k a at

pub function_from : (name : Bytes) (gs : List Global) → list_any (bytes_eq name) (map (λ (h : Function). h.name) (filter_map function_if gs)) ≡ true → (k : ℕ) × (f : Function) × (slice_get gs k ≡ Some (OfFunction f)) × (name ≡ f.name)
function_from name [] h = cc
function_from name (OfVariable v ∷ gs) h = let r = function_from name gs h in (suc r.0, r.1, r.2, r.3)
function_from name (OfAlias a ∷ gs) h = let r = function_from name gs h in (suc r.0, r.1, r.2, r.3)
function_from name (OfFunction f ∷ gs) h = go (or_cases (bytes_eq name f.name) _ h) (function_from name gs)
  where
    go : (bytes_eq name f.name ≡ true) ⊎ (list_any (bytes_eq name) (map (λ (h : Function). h.name) (filter_map function_if gs)) ≡ true) → (list_any (bytes_eq name) (map (λ (h : Function). h.name) (filter_map function_if gs)) ≡ true → (k : ℕ) × (f : Function) × (slice_get gs k ≡ Some (OfFunction f)) × (name ≡ f.name)) → (k : ℕ) × (h : Function) × (slice_get (OfFunction f ∷ gs) k ≡ Some (OfFunction h)) × (name ≡ h.name)
    go (inl e) more = (0, f, refl, name_exact name f.name e)
    go (inr e) more = let r = more e in (suc r.0, r.1, r.2, r.3)

-- rows of one name are one row
pub one_row : (rows : List Row) (a b : ℕ) (q r : Row) → Apart bytes_eq (map (λ r. r.1) rows) → slice_get rows a ≡ Some q → slice_get rows b ≡ Some r → q.1 ≡ r.1 → q ≡ r
one_row [] a b q r apart x y e = cc
one_row (p ∷ rows) zero zero q r apart x y e = sym (same_Some p q x) ∙ same_Some p r y
one_row (p ∷ rows) zero (suc b) q r apart x y e =
    absurd (both_ways _ (none_at (bytes_eq p.1) (map (λ r. r.1) rows) b r.1 apart.0 (slice_get-map (λ r. r.1) rows b ∙ ap (option_map (λ r. r.1)) y))
    (subst (λ n. bytes_eq p.1 n ≡ true) (ap (λ r. r.1) (same_Some p q x) ∙ e) (name_self p.1)))
one_row (p ∷ rows) (suc a) zero q r apart x y e =
    absurd (both_ways _ (none_at (bytes_eq p.1) (map (λ r. r.1) rows) a q.1 apart.0 (slice_get-map (λ r. r.1) rows a ∙ ap (option_map (λ r. r.1)) x))
    (subst (λ n. bytes_eq p.1 n ≡ true) (ap (λ r. r.1) (same_Some p r y) ∙ sym e) (name_self p.1)))
one_row (p ∷ rows) (suc a) (suc b) q r apart x y e = one_row rows a b q r apart.1 x y e
