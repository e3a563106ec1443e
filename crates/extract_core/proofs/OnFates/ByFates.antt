-- The part by the fates of all entries is what is extracted.
use Rattle.std.proofs.Common.{◌≡◌, ℕ, zero, suc, ◌+◌, take, slice_get, arith, Bool, true, false, not, ◌&&◌, List, [], ◌∷◌, ◌++◌, map, filter, filter_map, length, Option, Some, None, refl, sym, ap, ap₂, ◌∙◌, cond, if◌then◌else◌}
use Rattle.std.specs.List.{cons_option}
use Rattle.std.proofs.lemmas.List.{length-map}
use Rattle.std.proofs.lemmas.Option.{same_Some}
use Rattle.module_arena.specs.Lists.{Lists}
use Rattle.module_arena.specs.Module.{Variable, Alias, Function, Module}
use Rattle.module_arena.specs.View.{module_of}
use Rattle.extract_rules.specs.declared.flags.EntryFlags.{EntryFlags}
use Rattle.extract_rules.specs.declared.selection.Selection.{Selection}
use Rattle.extract_rules.specs.Flags.{AreKept, AreNamed}
use Rattle.extract_rules.specs.Selected.{is_among, keeps_variable, keeps_function, keeps_alias}
use Rattle.extract_rules.specs.Extracted.{kept_names, kept_linkage, declared_variable, declared_function, extracted_variable, extracted_function, extracted_alias, alias_as_variable, alias_as_function, Extracted}
use Rattle.extract_rules.proofs.Keeping.{variables_length, functions_length, aliases_length}
use Rattle.extract_core.specs.declared.fates.fates.Fate.{Fate}
use Rattle.extract_core.specs.declared.fates.fates.Fate.TheVariants.{Kept, Declared, LeftOut}
use Rattle.extract_core.specs.declared.fates.fates.Fates.{Fates}
use Rattle.extract_core.specs.Fates.Fates.{AreSized}
use Rattle.extract_core.specs.Fates.Fates.{AreFates, fate_of, fates_of, variable_fate, function_fate, alias_fate, variable_as, function_as, alias_as, alias_variable_as, alias_function_as, made, part_by}

-- ---- from flags to fates

pub fates_mapped : {A : Type 0} (kept named : A → Bool) (xs : List A) → fates_of (map kept xs) (map named xs) ≡ map (λ x. fate_of (kept x) (named x)) xs
fates_mapped kept named [] = refl
fates_mapped kept named (x ∷ xs) = ap (λ fates. fate_of (kept x) (named x) ∷ fates) (fates_mapped kept named xs)

pub fates_from : (m : Module) (s : Selection) (kept named : EntryFlags) (fates : Fates) → AreKept m s kept → AreNamed m s named
    → fates.variables ≡ fates_of kept.variables named.variables → fates.functions ≡ fates_of kept.functions named.functions → fates.aliases ≡ fates_of kept.aliases named.aliases
    → AreFates m s fates
fates_from m s kept named fates k n v f a = record {
  variables = v ∙ ap₂ fates_of k.variables n.variables ∙ fates_mapped (keeps_variable m s) (λ (x : Variable). is_among (kept_names m s) x.name) m.variables;
  functions = f ∙ ap₂ fates_of k.functions n.functions ∙ fates_mapped (keeps_function m s) (λ (x : Function). is_among (kept_names m s) x.name) m.functions;
  aliases = a ∙ ap₂ fates_of k.aliases n.aliases ∙ fates_mapped (keeps_alias m s) (λ (x : Alias). is_among (kept_names m s) x.name) m.aliases;
}

-- both flags are there for each entry
pub as_many : (m : Module) (s : Selection) (kept named : EntryFlags) → AreKept m s kept → AreNamed m s named
    → (length kept.variables ≡ length named.variables) × (length kept.functions ≡ length named.functions) × (length kept.aliases ≡ length named.aliases)
as_many m s kept named k n = (
  ap length k.variables ∙ length-map m.variables (keeps_variable m s) ∙ sym (ap length n.variables ∙ length-map m.variables (λ (x : Variable). is_among (kept_names m s) x.name)),
  ap length k.functions ∙ length-map m.functions (keeps_function m s) ∙ sym (ap length n.functions ∙ length-map m.functions (λ (x : Function). is_among (kept_names m s) x.name)),
  ap length k.aliases ∙ length-map m.aliases (keeps_alias m s) ∙ sym (ap length n.aliases ∙ length-map m.aliases (λ (x : Alias). is_among (kept_names m s) x.name)),
)

-- a fate for each entry of the lists
pub fates_sized : (a : Lists) (s : Selection) (fates : Fates) → AreFates (module_of a) s fates → AreSized a fates
fates_sized a s fates are = record {
  variables = ap length are.variables ∙ length-map (module_of a).variables (variable_fate (module_of a) s) ∙ variables_length a;
  functions = ap length are.functions ∙ length-map (module_of a).functions (function_fate (module_of a) s) ∙ functions_length a;
  aliases = ap length are.aliases ∙ length-map (module_of a).aliases (alias_fate (module_of a) s) ∙ aliases_length a;
}

-- ---- one fate more

fates_more : (kept named : List Bool) (k : ℕ) (b c : Bool) → slice_get kept k ≡ Some b → slice_get named k ≡ Some c
    → fates_of (take (suc k) kept) (take (suc k) named) ≡ fates_of (take k kept) (take k named) ++ fate_of b c ∷ []
fates_more [] named k b c at is = cc
fates_more (x ∷ kept) [] k b c at is = cc
fates_more (x ∷ kept) (y ∷ named) zero b c at is = λ i. fate_of (same_Some x b at i) (same_Some y c is i) ∷ []
fates_more (x ∷ kept) (y ∷ named) (suc k) b c at is = ap (λ l. fate_of x y ∷ l) (fates_more kept named k b c at is)

pub fates_pushed : (kept named : List Bool) (k : ℕ) (b c : Bool) (old new : List Fate) (fate : Fate) → slice_get kept k ≡ Some b → slice_get named k ≡ Some c
    → old ≡ fates_of (take k kept) (take k named) → new ≡ old ++ fate ∷ [] → fate ≡ fate_of b c → new ≡ fates_of (take (k + 1) kept) (take (k + 1) named)
fates_pushed kept named k b c old new fate at is so_far pushed here =
    let e : k + 1 ≡ suc k = omega arith in
    pushed ∙ ap₂ (λ l f. l ++ f ∷ []) so_far here ∙ sym (ap (λ n. fates_of (take n kept) (take n named)) e ∙ fates_more kept named k b c at is)

-- ---- from fates to entries

-- what all become, each by its own fate
all_made : {A B : Type 0} (become : Fate → A → Option B) (fate : A → Fate) (f : A → Option B) → ((x : A) → become (fate x) x ≡ f x) → (xs : List A) → made become (map fate xs) xs ≡ filter_map f xs
all_made become fate f each [] = refl
all_made become fate f each (x ∷ xs) = ap₂ cons_option (each x) (all_made become fate f each xs)

-- where only those that are declared become something
only_declared : {A B : Type 0} (become : Fate → A → Option B) (kept named : A → Bool) (f : A → Option B)
    → ((x : A) → become Kept x ≡ None) → ((x : A) → become Declared x ≡ f x) → ((x : A) → become LeftOut x ≡ None)
    → (xs : List A) → made become (map (λ x. fate_of (kept x) (named x)) xs) xs ≡ filter_map f (filter (λ x. not (kept x) && named x) xs)
only_declared become kept named f k d l [] = refl
only_declared {A = A} {B = B} become kept named f k d l (x ∷ xs) = go (kept x) (named x) (only_declared become kept named f k d l xs)
  where
    rest : List B
    rest = made become (map (λ y. fate_of (kept y) (named y)) xs) xs

    others : List A
    others = filter (λ y. not (kept y) && named y) xs

    go : (b c : Bool) → rest ≡ filter_map f others → cons_option (become (fate_of b c) x) rest ≡ filter_map f (cond (not b && c) (x ∷ others) others)
    go true c h = ap (λ o. cons_option o rest) (k x) ∙ h
    go false true h = ap₂ cons_option (d x) h
    go false false h = ap (λ o. cons_option o rest) (l x) ∙ h

module _ (m : Module) (s : Selection) where
  variable_is : (v : Variable) → variable_as (variable_fate m s v) v ≡ extracted_variable m s v
  variable_is v = go (keeps_variable m s v) (is_among (kept_names m s) v.name)
    where
      go : (b c : Bool) → variable_as (fate_of b c) v ≡ (if b then Some (record v { linkage = kept_linkage v.linkage }) else (if c then Some (declared_variable v.linkage v) else None))
      go true c = refl
      go false true = refl
      go false false = refl

  function_is : (f : Function) → function_as (function_fate m s f) f ≡ extracted_function m s f
  function_is f = go (keeps_function m s f) (is_among (kept_names m s) f.name)
    where
      go : (b c : Bool) → function_as (fate_of b c) f ≡ (if b then Some (record f { linkage = kept_linkage f.linkage }) else (if c then Some (declared_function f) else None))
      go true c = refl
      go false true = refl
      go false false = refl

  alias_is : (a : Alias) → alias_as (alias_fate m s a) a ≡ extracted_alias m s a
  alias_is a = go (keeps_alias m s a) (is_among (kept_names m s) a.name)
    where
      go : (b c : Bool) → alias_as (fate_of b c) a ≡ (if b then Some (record a { linkage = kept_linkage a.linkage }) else None)
      go true c = refl
      go false true = refl
      go false false = refl

  pub part_is_extracted : (fates : Fates) → AreFates m s fates → part_by m fates ≡ Extracted m s
  part_is_extracted fates are =
      let named : Alias → Bool = λ a. is_among (kept_names m s) a.name in
      let vs = ap (λ l. made variable_as l m.variables) are.variables ∙ all_made variable_as (variable_fate m s) (extracted_variable m s) variable_is m.variables in
      let avs = ap (λ l. made (alias_variable_as m) l m.aliases) are.aliases
      ∙ only_declared (alias_variable_as m) (keeps_alias m s) named (λ a. alias_as_variable m a.name a.target a.ty) (λ a. refl) (λ a. refl) (λ a. refl) m.aliases in
      let fs = ap (λ l. made function_as l m.functions) are.functions ∙ all_made function_as (function_fate m s) (extracted_function m s) function_is m.functions in
      let afs = ap (λ l. made alias_function_as l m.aliases) are.aliases
      ∙ only_declared alias_function_as (keeps_alias m s) named (λ a. alias_as_function a.name a.ty) (λ a. refl) (λ a. refl) (λ a. refl) m.aliases in
      let as_ = ap (λ l. made alias_as l m.aliases) are.aliases ∙ all_made alias_as (alias_fate m s) (extracted_alias m s) alias_is m.aliases in
      λ i. record m { variables = vs i ++ avs i; aliases = as_ i; functions = fs i ++ afs i }
