-- Whether the name of an entry is new, and that an entry is declared where its record breaks no rule.
use Rattle.std.proofs.Common.{◌≡◌, ◌⊎◌, ◌↔◌, ◌<◌, ◌≤◌, ◌+◌, ℕ, suc, max, Bool, true, false, not, ◌&&◌, cond, List, [], ◌∷◌, ◌++◌, length, Option, Some, None, nat_lt, inl, inr, refl, sym, ap, subst, ◌∙◌, arith}
use Rattle.std.specs.Prelude.{bytes_eq}
use Rattle.std.specs.List.{list_any}
use Rattle.std.proofs.lemmas.Bool.{le-ltb}
use Rattle.std.proofs.lemmas.List.{length-append, length-map}
use Rattle.module_arena.specs.declared.entry.Alias as the_alias
use Rattle.module_arena.specs.declared.entry.Function as the_function
use Rattle.module_arena.specs.declared.entry.GlobalId.{GlobalId}
use Rattle.module_arena.specs.declared.entry.GlobalId.TheVariants as global
use Rattle.module_arena.specs.declared.entry.Variable as the_variable
use Rattle.module_arena.specs.declared.fault.CountKind.{CountKind}
use Rattle.module_arena.specs.declared.fault.CountKind.TheVariants as kind
use Rattle.module_arena.specs.Changes.{with_alias, with_function, with_variable}
use Rattle.module_arena.specs.Known.{Counts, IsGood, counted_aliases, counts, first_excess}
use Rattle.module_arena.specs.Lists.{Lists, global_name}
use Rattle.module_arena.specs.Module as m
use Rattle.module_arena.specs.Module.{Bytes}
use Rattle.record_table.specs.Records.{Sofar, is_new}
use Rattle.record_table.specs.Walk.{Walk}
use Rattle.record_read.specs.Reader.{is_broken}
use Rattle.type_read.specs.Fields.{is_good}
use Rattle.bitcode_read.specs.Ahead.Entries.{IsRefused}
use Rattle.bitcode_read.proofs.OnAhead.Told.{Follows}
use Rattle.bitcode_read.specs.Entry.Entries.{IsToldNew}
use Rattle.bitcode_read.specs.Sofar.{AreCalled}

pub follows : (a : Lists) (s : Sofar) → AreCalled a s → Follows a s
follows a s c = record { variables = c.variables; functions = c.functions; aliases = c.aliases }

-- ---- how many there are

pub variables_many : (a : Lists) (s : Sofar) → AreCalled a s → length a.variables ≡ length s.variables
variables_many a s c =
    sym (length-map a.variables (λ (v : the_variable.Variable). v.name)) ∙ (ap (λ (ns : List Bytes). length ns) c.variables ∙ length-map s.variables (λ (v : m.Variable). v.name))

pub functions_many : (a : Lists) (s : Sofar) → AreCalled a s → length a.functions ≡ length s.functions
functions_many a s c =
    sym (length-map a.functions (λ (f : the_function.Function). f.name)) ∙ (ap (λ (ns : List Bytes). length ns) c.functions ∙ length-map s.functions (λ (f : Bool × m.Function). f.1.name))

pub aliases_many : (a : Lists) (s : Sofar) → AreCalled a s → length a.aliases ≡ length s.aliases
aliases_many a s c =
    sym (length-map a.aliases (λ (x : the_alias.Alias). x.name)) ∙ (ap (λ (ns : List Bytes). length ns) c.aliases ∙ length-map s.aliases (λ (x : m.Alias). x.name))

-- ---- in front of the types

-- no name is there, and each is new
pub told_early : (a : Lists) (s : Sofar) (own : GlobalId) (name : Bytes) → a.variables ≡ [] → a.functions ≡ [] → a.aliases ≡ [] → s.variables ≡ [] → s.functions ≡ [] → s.aliases ≡ []
    → (is_good name ≡ false → is_new s name ≡ true) → IsToldNew a own s name
told_early a s own name av af ax sv sf sx other = record { told = λ good. ((λ new g is. absurd (none g is)), (λ all. new)); other = other }
  where
    new : is_new s name ≡ true
    new = λ j. not (list_any (λ (v : m.Variable). bytes_eq name v.name) (sv j)) && not (list_any (λ (f : Bool × m.Function). bytes_eq name f.1.name) (sf j)) && not (list_any (λ (x : m.Alias). bytes_eq name x.name) (sx j))

    never : None ≡ Some name → ⊥
    never e = cc

    none : (g : GlobalId) → global_name a g ≡ Some name → ⊥
    none (global.Variable id) is = never (sym (ap (λ (vs : List the_variable.Variable). global_name (record a { variables = vs }) (global.Variable id)) av) ∙ is)
    none (global.Function id) is = never (sym (ap (λ (fs : List the_function.Function). global_name (record a { functions = fs }) (global.Function id)) af) ∙ is)
    none (global.Alias id) is = never (sym (ap (λ (xs : List the_alias.Alias). global_name (record a { aliases = xs }) (global.Alias id)) ax) ∙ is)

-- ---- behind them

-- the same names are in the arena that was declared
pub told_on : (base a : Lists) (s : Sofar) (own here : GlobalId) (name : Bytes) → ((g : GlobalId) → global_name a g ≡ global_name base g) → own ≡ here
    → ((is_new s name ≡ true) ↔ ((g : GlobalId) → global_name base g ≡ Some name → g ≡ own)) → (is_good name ≡ false → is_new s name ≡ true) → IsToldNew a here s name
told_on base a s own here name same is told other = record {
  told = λ good. (
    (λ new g named. told.0 new g (sym (same g) ∙ named) ∙ is),
    (λ all. told.1 (λ g named. all g (same g ∙ named) ∙ sym is)),
  );
  other = other;
}

-- an entry is declared where nothing is against it
pub declared_on : (a after final : Lists) (name : Bytes) (w : Walk) (X : Type 0) → IsRefused a after final name w ⊎ X → is_broken w ≡ false → (final ≡ a → (g : GlobalId) → global_name a g ≡ Some name → ⊥)
    → (final ≡ a → first_excess (counts after) ≡ None) → X
declared_on a after final name w X (inr x) unbroken free fits = x
declared_on a after final name w X (inl r) unbroken free fits = absurd (by r.cause)
  where
    by : (is_broken w ≡ true) ⊎ (((g : GlobalId) × (global_name a g ≡ Some name)) ⊎ (first_excess (counts after) ≡ None → ⊥)) → ⊥
    by (inl broken) = cc
    by (inr (inl there)) = free r.stays there.0 there.1
    by (inr (inr many)) = many (fits r.stays)

-- a name that is new is that of no entry in front
pub new_is_free : (a base : Lists) (s : Sofar) (own : GlobalId) (name : Bytes) → ((is_new s name ≡ true) ↔ ((g : GlobalId) → global_name base g ≡ Some name → g ≡ own)) → is_new s name ≡ true → global_name a own ≡ None
    → base ≡ a → (g : GlobalId) → global_name a g ≡ Some name → ⊥
new_is_free a base s own name told new none same g is =
    let own_is : g ≡ own = told.0 new g (ap (λ (x : Lists). global_name x g) same ∙ is) in
    never (sym none ∙ subst (λ (h : GlobalId). global_name a h ≡ Some name) own_is is)
  where
    never : None ≡ Some name → ⊥
    never e = cc

-- ---- no count is too great

record IsFew (n : Counts) : Type 0 where
  variables : nat_lt 262144 n.variables ≡ false
  functions : nat_lt 262144 n.functions ≡ false
  aliases : nat_lt 262144 (counted_aliases n.aliases n.variables n.functions) ≡ false

few_of : (n : Counts) → first_excess n ≡ None → IsFew n
few_of n h = by (nat_lt 262144 n.variables) (nat_lt 262144 n.functions) (nat_lt 262144 (counted_aliases n.aliases n.variables n.functions)) refl refl refl h
  where
    by : (v f x : Bool) → nat_lt 262144 n.variables ≡ v → nat_lt 262144 n.functions ≡ f → nat_lt 262144 (counted_aliases n.aliases n.variables n.functions) ≡ x
        → cond {A = Option (CountKind × ℕ)} v (Some (kind.Variables, n.variables)) (cond {A = Option (CountKind × ℕ)} f (Some (kind.Functions, n.functions)) (cond {A = Option (CountKind × ℕ)} x (Some (kind.Aliases, counted_aliases n.aliases n.variables n.functions)) None)) ≡ None
        → IsFew n
    by true f x ev ef ex h = absurd (cc)
    by false true x ev ef ex h = absurd (cc)
    by false false true ev ef ex h = absurd (cc)
    by false false false ev ef ex h = record { variables = ev; functions = ef; aliases = ex }

few_is : (n : Counts) → IsFew n → first_excess n ≡ None
few_is n h =
    λ j. cond {A = Option (CountKind × ℕ)} (h.variables j) (Some (kind.Variables, n.variables))
    (cond {A = Option (CountKind × ℕ)} (h.functions j) (Some (kind.Functions, n.functions)) (cond {A = Option (CountKind × ℕ)} (h.aliases j) (Some (kind.Aliases, counted_aliases n.aliases n.variables n.functions)) None))

pub one_longer : {A : Type 0} (xs : List A) (x : A) → length (xs ++ x ∷ []) ≡ suc (length xs)
one_longer xs x = let e = length-append xs (x ∷ []) in omega arith

module _ (a base : Lists) (good : IsGood base) (same : base ≡ a) where
  few : IsFew (counts a)
  few = few_of (counts a) (subst (λ (x : Lists). first_excess (counts x) ≡ None) same good.few)

  none_counted : a.aliases ≡ [] → (v f : ℕ) → nat_lt 262144 (counted_aliases (length a.aliases) v f) ≡ false
  none_counted none v f = ap (λ (xs : List the_alias.Alias). nat_lt 262144 (counted_aliases (length xs) v f)) none

  pub fits_variable : (v : the_variable.Variable) → a.aliases ≡ [] → length a.variables < 262144 → first_excess (counts (with_variable a v)) ≡ None
  fits_variable v none less =
      let many = one_longer a.variables v in
      few_is (counts (with_variable a v)) (record { variables = le-ltb 262144 (length (a.variables ++ v ∷ [])) (omega (arith, many, less)); functions = few.functions; aliases = none_counted none (length (a.variables ++ v ∷ [])) (length a.functions) })

  pub fits_function : (f : the_function.Function) → a.aliases ≡ [] → length a.functions < 262144 → first_excess (counts (with_function a f)) ≡ None
  fits_function f none less =
      let many = one_longer a.functions f in
      few_is (counts (with_function a f)) (record { variables = few.variables; functions = le-ltb 262144 (length (a.functions ++ f ∷ [])) (omega (arith, many, less)); aliases = none_counted none (length a.variables) (length (a.functions ++ f ∷ [])) })

  pub fits_alias : (x : the_alias.Alias) → suc (length a.aliases) + max (length a.variables) (length a.functions) ≤ 262144 → first_excess (counts (with_alias a x)) ≡ None
  fits_alias x fits =
      let counted : nat_lt 262144 (counted_aliases (length (a.aliases ++ x ∷ [])) (length a.variables) (length a.functions)) ≡ false =
      ap (λ n. nat_lt 262144 (counted_aliases n (length a.variables) (length a.functions))) (one_longer a.aliases x) ∙ le-ltb 262144 (suc (length a.aliases) + max (length a.variables) (length a.functions)) fits in
      few_is (counts (with_alias a x)) (record { variables = few.variables; functions = few.functions; aliases = counted })
