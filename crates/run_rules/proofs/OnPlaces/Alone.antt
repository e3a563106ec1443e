-- A valid module alone: its entries go together, and a run of it never gets stuck.
use Rattle.std.proofs.Common.{◌≡◌, ℕ, zero, suc, List, [], ◌∷◌, ◌++◌, map, refl, sym, ap, ◌∙◌, subst, Bool, true, false, not, ◌&&◌, ◌||◌, Some, is_some, true≢false, bytes_eq}
use Rattle.std.specs.Prelude.{slice_get, if◌then◌else◌}
use Rattle.std.specs.List.{AllByRecursion, list_any, list_all}
use Rattle.std.proofs.lemmas.Bool.{and_parts, or_right}
use Rattle.std.proofs.lemmas.Option.{same_Some}
use Rattle.ir_tables.specs.Table.{is_distinct}
use Rattle.ir_tables.specs.declared.linkage.Linkage.{Linkage}
use Rattle.ir_tables.specs.declared.linkage.Linkage.TheVariants.{Private, Internal, External, ExternWeak}
use Rattle.module_arena.specs.EntryRules.{linkage_suits}
use Rattle.module_arena.specs.Functions.{variable_names, alias_names, function_names}
use Rattle.module_arena.specs.Module.{Bytes, Variable, Alias, Function, Module}
use Rattle.module_arena.specs.Names.{is_name}
use Rattle.module_arena.specs.Valid.{IsValid}
use Rattle.module_arena.specs.WellFormed.{IsWellFormed, global_names}
use Rattle.module_arena.proofs.Parts.{valid_variable, valid_alias, valid_function}
use Rattle.linkage_rules.specs.declared.symbol.Symbol.TheVariants.{Shared, Local}
use Rattle.linkage_rules.specs.Entries.{Entry, same_symbol, symbol_of, entries}
use Rattle.linkage_rules.specs.Globals.{Global, OfVariable, OfFunction, OfAlias, globals, name_of, linkage_of, is_written, is_variable}
use Rattle.linkage_rules.specs.Linkages.{is_local, is_available_externally}
use Rattle.linkage_rules.specs.Winner.{is_definition}
use Rattle.linkage_rules.proofs.Entries.{all_follow}
use Rattle.run_rules.proofs.OnPlaces.Together.{all_append, AreOfKind, GoTogether}
use Rattle.linkage_rules.specs.SymbolLaws.{name_self, symbol_exact}
use Rattle.run_rules.specs.NeverStuck.{NeverStuck}
use Rattle.linkage_rules.specs.Entries.{symbol_name}
use Rattle.linkage_rules.proofs.Gathered.{all_mapped}
use Rattle.run_rules.proofs.OnPlaces.Options.{none_some}
use Rattle.run_rules.proofs.OnPlaces.Parts.{AreValid, all_from_places}
use Rattle.run_rules.proofs.OnPlaces.Valid as valid_parts

-- ---- lists without repeats

mapped_at : {X Y : Type 0} (g : X → Y) (xs : List X) (k : ℕ) (x : X) → slice_get xs k ≡ Some x → slice_get (map g xs) k ≡ Some (g x)
mapped_at g [] k x e = none_some x e
mapped_at g (y ∷ ys) zero x e = ap (λ z. Some (g z)) (same_Some y x e)
mapped_at g (y ∷ ys) (suc k) x e = mapped_at g ys k x e

behind_at : {X : Type 0} (xs ys : List X) (k : ℕ) (y : X) → slice_get ys k ≡ Some y → (j : ℕ) × (slice_get (xs ++ ys) j ≡ Some y)
behind_at [] ys k y e = (k, e)
behind_at (x ∷ xs) ys k y e = let r = behind_at xs ys k y e in (suc r.0, r.1)

named : (xs : List Bytes) (n : Bytes) (k : ℕ) (x : Bytes) → slice_get xs k ≡ Some x → n ≡ x → list_any (bytes_eq n) xs ≡ true
named [] n k x e q = none_some x e
named (y ∷ ys) n zero x e q = ap (λ t. t || list_any (bytes_eq n) ys) (ap (bytes_eq n) (same_Some y x e ∙ sym q) ∙ name_self n)
named (y ∷ ys) n (suc k) x e q = or_right (bytes_eq n y) (list_any (bytes_eq n) ys) (named ys n k x e q)

front_at : {X : Type 0} (xs ys : List X) (k : ℕ) (x : X) → slice_get xs k ≡ Some x → slice_get (xs ++ ys) k ≡ Some x
front_at [] ys k x e = none_some x e
front_at (y ∷ xs) ys zero x e = e
front_at (y ∷ xs) ys (suc k) x e = front_at xs ys k x e

rest_distinct : (xs ys : List Bytes) → is_distinct bytes_eq (xs ++ ys) ≡ true → is_distinct bytes_eq ys ≡ true
rest_distinct [] ys h = h
rest_distinct (x ∷ xs) ys h = rest_distinct xs ys (and_parts (not (list_any (bytes_eq x) (xs ++ ys))) (is_distinct bytes_eq (xs ++ ys)) h).1

twice : (b : Bool) → b ≡ true → not b ≡ true → ⊥
twice true e f = true≢false (sym f)
twice false e f = true≢false (sym e)

-- a name stands on one side alone
apart : (xs ys : List Bytes) (i j : ℕ) (x y : Bytes) → is_distinct bytes_eq (xs ++ ys) ≡ true → slice_get xs i ≡ Some x → slice_get ys j ≡ Some y → x ≡ y → ⊥
apart [] ys i j x y h e g q = none_some x e
apart (a ∷ xs) ys zero j x y h e g q =
    let p = and_parts (not (list_any (bytes_eq a) (xs ++ ys))) (is_distinct bytes_eq (xs ++ ys)) h in
    let r = behind_at xs ys j y g in
    twice (list_any (bytes_eq a) (xs ++ ys)) (named (xs ++ ys) a r.0 y r.1 (same_Some a x e ∙ q)) p.0
apart (a ∷ xs) ys (suc i) j x y h e g q = apart xs ys i j x y (and_parts (not (list_any (bytes_eq a) (xs ++ ys))) (is_distinct bytes_eq (xs ++ ys)) h).1 e g q

front_distinct : (xs ys : List Bytes) → is_distinct bytes_eq (xs ++ ys) ≡ true → (i j : ℕ) (x y : Bytes) → slice_get xs i ≡ Some x → slice_get xs j ≡ Some y → x ≡ y → i ≡ j
front_distinct [] ys h i j x y e g q = none_some x e
front_distinct (a ∷ xs) ys h zero zero x y e g q = refl
front_distinct (a ∷ xs) ys h zero (suc j) x y e g q =
    let p = and_parts (not (list_any (bytes_eq a) (xs ++ ys))) (is_distinct bytes_eq (xs ++ ys)) h in
    absurd (twice (list_any (bytes_eq a) (xs ++ ys)) (named (xs ++ ys) a j y (front_at xs ys j y g) (same_Some a x e ∙ q)) p.0)
front_distinct (a ∷ xs) ys h (suc i) zero x y e g q =
    let p = and_parts (not (list_any (bytes_eq a) (xs ++ ys))) (is_distinct bytes_eq (xs ++ ys)) h in
    absurd (twice (list_any (bytes_eq a) (xs ++ ys)) (named (xs ++ ys) a i x (front_at xs ys i x e) (same_Some a y g ∙ sym q)) p.0)
front_distinct (a ∷ xs) ys h (suc i) (suc j) x y e g q =
    ap suc (front_distinct xs ys (and_parts (not (list_any (bytes_eq a) (xs ++ ys))) (is_distinct bytes_eq (xs ++ ys)) h).1 i j x y e g q)

local_defined : (b : Bool) (l : Linkage) → linkage_suits b l ≡ true → is_local l ≡ true → (b && not (is_available_externally l)) ≡ true
local_defined true Private h k = refl
local_defined true Internal h k = refl
local_defined true _ h k = absurd (true≢false (sym k))
local_defined false External h k = absurd (true≢false (sym k))
local_defined false ExternWeak h k = absurd (true≢false (sym k))
local_defined false _ h k = absurd (true≢false (sym h))

name_of_entry : (e : Entry) → symbol_name (symbol_of e) ≡ name_of e.global
name_of_entry e = go (is_local (linkage_of e.global))
  where
    go : (b : Bool) → symbol_name (if b then Local e.part (name_of e.global) else Shared (name_of e.global)) ≡ name_of e.global
    go true = refl
    go false = refl

-- ---- the module

module _ (m : Module) (well_formed : IsWellFormed m) (valid : IsValid m) where
  abbrev parts : List Module
  parts = m ∷ []

  abbrev IsIn : Global → Type 0
  IsIn (OfVariable v) = (i : ℕ) × (slice_get m.variables i ≡ Some v)
  IsIn (OfFunction f) = (i : ℕ) × (slice_get m.functions i ≡ Some f)
  IsIn (OfAlias a) = (i : ℕ) × (slice_get m.aliases i ≡ Some a)

  all_in : AllByRecursion (λ (e : Entry). IsIn e.global) (entries parts)
  all_in =
      all_append (λ (e : Entry). IsIn e.global) (map (λ g. record { part = 0; global = g }) (globals m)) []
      (all_mapped (λ (e : Entry). IsIn e.global) (λ g. record { part = 0; global = g }) (globals m)
      (all_append IsIn (map OfVariable m.variables ++ map OfFunction m.functions) (map OfAlias m.aliases)
      (all_append IsIn (map OfVariable m.variables) (map OfFunction m.functions)
      (all_mapped IsIn OfVariable m.variables (all_from_places (λ v. (i : ℕ) × (slice_get m.variables i ≡ Some v)) m.variables (λ k x e. (k, e))))
      (all_mapped IsIn OfFunction m.functions (all_from_places (λ f. (i : ℕ) × (slice_get m.functions i ≡ Some f)) m.functions (λ k x e. (k, e)))))
      (all_mapped IsIn OfAlias m.aliases (all_from_places (λ a. (i : ℕ) × (slice_get m.aliases i ≡ Some a)) m.aliases (λ k x e. (k, e)))))) tt

  local_is_defined : (g : Global) → IsIn g → is_local (linkage_of g) ≡ true → (is_written g && not (is_available_externally (linkage_of g))) ≡ true
  local_is_defined (OfVariable v) is h = local_defined (is_some v.initialiser) v.linkage (valid_variable m is.0 v valid is.1).0 h
  local_is_defined (OfFunction f) is h = local_defined (is_some f.body) f.linkage (valid_function m is.0 f valid is.1).0 h
  local_is_defined (OfAlias a) is h = local_defined true a.linkage (valid_alias m is.0 a valid is.1).0 h

  distinct : is_distinct bytes_eq (variable_names m ++ (alias_names m ++ function_names m)) ≡ true
  distinct = (and_parts (list_all is_name (global_names m)) (is_distinct bytes_eq (global_names m)) well_formed.global_names).1

  distinct_rest : is_distinct bytes_eq (alias_names m ++ function_names m) ≡ true
  distinct_rest = rest_distinct (variable_names m) (alias_names m ++ function_names m) distinct

  variable_at : (i : ℕ) (v : Variable) → slice_get m.variables i ≡ Some v → slice_get (variable_names m) i ≡ Some v.name
  variable_at i v e = mapped_at (λ (v : Variable). v.name) m.variables i v e

  alias_at : (i : ℕ) (a : Alias) → slice_get m.aliases i ≡ Some a → slice_get (alias_names m) i ≡ Some a.name
  alias_at i a e = mapped_at (λ (a : Alias). a.name) m.aliases i a e

  function_at : (i : ℕ) (f : Function) → slice_get m.functions i ≡ Some f → (j : ℕ) × (slice_get (alias_names m ++ function_names m) j ≡ Some f.name)
  function_at i f e = behind_at (alias_names m) (function_names m) i f.name (mapped_at (λ (f : Function). f.name) m.functions i f e)

  no_variable_function : (v : Variable) (f : Function) → IsIn (OfVariable v) → IsIn (OfFunction f) → v.name ≡ f.name → ⊥
  no_variable_function v f is in_f q =
      let r = function_at in_f.0 f in_f.1 in
      apart (variable_names m) (alias_names m ++ function_names m) is.0 r.0 v.name f.name distinct (variable_at is.0 v is.1) r.1 q

  no_variable_alias : (v : Variable) (a : Alias) → IsIn (OfVariable v) → IsIn (OfAlias a) → v.name ≡ a.name → ⊥
  no_variable_alias v a is in_a q =
      apart (variable_names m) (alias_names m ++ function_names m) is.0 in_a.0 v.name a.name distinct (variable_at is.0 v is.1) (front_at (alias_names m) (function_names m) in_a.0 a.name (alias_at in_a.0 a in_a.1)) q

  no_alias_function : (a : Alias) (f : Function) → IsIn (OfAlias a) → IsIn (OfFunction f) → a.name ≡ f.name → ⊥
  no_alias_function a f is in_f q =
      apart (alias_names m) (function_names m) is.0 in_f.0 a.name f.name distinct_rest (alias_at is.0 a is.1) (mapped_at (λ (f : Function). f.name) m.functions in_f.0 f in_f.1) q

  same_alias : (a b : Alias) → IsIn (OfAlias a) → IsIn (OfAlias b) → a.name ≡ b.name → a ≡ b
  same_alias a b is in_b q =
      let i : is.0 ≡ in_b.0 = front_distinct (alias_names m) (function_names m) distinct_rest is.0 in_b.0 a.name b.name (alias_at is.0 a is.1) (alias_at in_b.0 b in_b.1) q in
      same_Some a b (sym is.1 ∙ ap (slice_get m.aliases) i ∙ in_b.1)

  same_kind : (g h : Global) → IsIn g → IsIn h → name_of g ≡ name_of h → is_variable h ≡ is_variable g
  same_kind (OfVariable v) (OfVariable w) is k q = refl
  same_kind (OfVariable v) (OfFunction f) is k q = absurd (no_variable_function v f is k q)
  same_kind (OfVariable v) (OfAlias a) is k q = absurd (no_variable_alias v a is k q)
  same_kind (OfFunction f) (OfVariable v) is k q = absurd (no_variable_function v f k is (sym q))
  same_kind (OfFunction f) (OfFunction g) is k q = refl
  same_kind (OfFunction f) (OfAlias a) is k q = absurd (no_alias_function a f k is (sym q))
  same_kind (OfAlias a) (OfVariable v) is k q = absurd (no_variable_alias v a k is (sym q))
  same_kind (OfAlias a) (OfFunction f) is k q = absurd (no_alias_function a f is k q)
  same_kind (OfAlias a) (OfAlias b) is k q = ap (λ (x : Alias). is_variable (OfAlias x)) (sym (same_alias a b is k q))

  pub goes_together : GoTogether parts
  goes_together =
      record {
        locals = all_follow (λ (e : Entry). IsIn e.global) (λ e. is_local (linkage_of e.global) ≡ true → is_definition e ≡ true) (entries parts) (λ e is h. local_is_defined e.global is h) all_in;
        kinds = all_follow (λ (e : Entry). IsIn e.global) (λ d. AreOfKind parts (is_variable d.global) (symbol_of d)) (entries parts)
            (λ d is. all_follow (λ (e : Entry). IsIn e.global) (λ e. same_symbol (symbol_of d) (symbol_of e) ≡ true → is_variable e.global ≡ is_variable d.global) (entries parts)
            (λ e k q. same_kind d.global e.global is k (sym (name_of_entry d) ∙ ap symbol_name (symbol_exact (symbol_of d) (symbol_of e) q) ∙ name_of_entry e)) all_in) all_in;
      }

  pub is_valid : AreValid parts
  is_valid zero x e = subst (λ (y : Module). IsWellFormed y × IsValid y) (same_Some m x e) (well_formed, valid)
  is_valid (suc i) x e = none_some x e

  -- no run of a well-formed, valid module gets stuck
  pub never_stuck : NeverStuck parts
  never_stuck = valid_parts.never_stuck parts is_valid goes_together
