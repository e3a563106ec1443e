-- The initialiser of a variable that is defined: as it is copied, or the list of all elements.
use Rattle.std.proofs.Common.{◌≡◌, ℕ, ◌<◌, true, false, List, [], length, Option, Some, None, All, slice_get, refl, sym, ap, subst}
use Rattle.std.specs.Option.{option_map}
use Rattle.std.specs.Prelude.{option_to_list, flat_map}
use Rattle.std.proofs.lemmas.Bool.{cond-true, cond-false}
use Rattle.std.proofs.lemmas.List.Elements.{All-head}
use Rattle.ir_tables.specs.declared.linkage.Linkage.{Linkage}
use Rattle.ir_tables.specs.declared.linkage.Linkage.TheVariants.{External, Private, Internal, Common, Appending, ExternWeak, AvailableExternally, Linkonce, LinkonceOdr, Weak, WeakOdr}
use Rattle.module_arena.specs.Changes.{initialised, variable_in}
use Rattle.module_arena.specs.Known.{IsGood, KnowsVariable}
use Rattle.module_arena.specs.Lists.{Lists}
use Rattle.module_arena.specs.Module.{Aggregate, Bytes, Constant, Module, Square, Variable}
use Rattle.module_arena.specs.View.{constant_at, constants_of}
use Rattle.module_arena.specs.declared.entry.GlobalId.TheVariants as global
use Rattle.module_arena.specs.declared.entry.Variable as the_variable
use Rattle.linkage_rules.specs.declared.entry.EntryId.{EntryId}
use Rattle.linkage_rules.specs.declared.symbol.SymbolKind.TheVariants as kind
use Rattle.linkage_rules.specs.Entries.{Entry}
use Rattle.linkage_rules.specs.Globals.{Global, OfVariable, initialiser_of, linkage_of}
use Rattle.linkage_rules.specs.Ids.{IsEntryId, modules, seen}
use Rattle.linkage_rules.specs.Linkages.{is_appending}
use Rattle.linkage_rules.proofs.Seen.{get_within, variable_seen}
use Rattle.linkage_rules.proofs.Steps.{all_get}
use Rattle.linkage_rules.specs.Contents.Contents.{elements_in}
use Rattle.link_rules.specs.Linked.{joined_alignment, joined_initialiser, joined_type, linked_constant, linked_definition, linked_pieces}
use Rattle.item_build.specs.Types.Stands.{IsConstant}
use Rattle.entry_copy.specs.Tables.{Tables, new_constant}
use Rattle.module_linker.specs.Stages.Copied.{AreCopied}
use Rattle.module_linker.specs.Stages.Filled.{defined_as, with_initialiser}
use Rattle.module_linker.specs.Stages.NewIds.{AllHaveNewIds}
use Rattle.module_linker.specs.Stages.Definitions.{definition_of, entries_defined}
use Rattle.entry_copy.specs.Initialisers.{IsInitialiser}
use Rattle.module_linker.proofs.OnFilling.Copied.{constant_copied}
use Rattle.module_linker.proofs.OnFilling.Within.{variable_within}

pub not_appending : (l : Linkage) → (l ≡ Appending → ⊥) → is_appending l ≡ false
not_appending Appending other = absurd (other refl)
not_appending External other = refl
not_appending Private other = refl
not_appending Internal other = refl
not_appending Common other = refl
not_appending ExternWeak other = refl
not_appending AvailableExternally other = refl
not_appending Linkonce other = refl
not_appending LinkonceOdr other = refl
not_appending Weak other = refl
not_appending WeakOdr other = refl

-- ---- of an appended variable

pub appended_is : (parts : List Module) (b : Lists) (e : Entry) (es : List Entry) (c : Option Constant) (id : ℕ) → is_appending (linkage_of e.global) ≡ true → IsConstant b id (Aggregate Square (linked_pieces parts (flat_map elements_in es)))
    → IsInitialiser b (joined_initialiser parts e es c) (Some id)
appended_is parts b e es c id is h = subst (λ o. IsInitialiser b o (Some id)) (sym (cond-true (is_appending (linkage_of e.global)) _ _ is)) h

-- ---- of any other

module _ (parts : List Lists) (b : Lists) (tables : List Tables) (copied : AreCopied parts b tables) (ids : AllHaveNewIds parts b tables) (home : EntryId) (a : Lists) (t : Tables) (there : slice_get parts home.part ≡ Some a)
    (by : slice_get tables home.part ≡ Some t) (is : home.kind ≡ kind.Variable) (v : the_variable.Variable) (at : slice_get a.variables home.number ≡ Some v) (good : IsGood a) where
  copied_is : IsInitialiser b (option_map (linked_constant (modules parts) home.part) (option_map (constant_at (constants_of a)) v.initialiser)) (option_map (new_constant t) v.initialiser)
  copied_is =
      let known = all_get (KnowsVariable (length a.table.types) (length a.constants)) a.variables home.number v good.variables at in
      go v.initialiser known.initialiser_known
    where
      go : (o : Option ℕ) → All (λ id. id < length a.constants) (option_to_list o)
          → IsInitialiser b (option_map (linked_constant (modules parts) home.part) (option_map (constant_at (constants_of a)) o)) (option_map (new_constant t) o)
      go None known = tt
      go (Some id) known = constant_copied parts b tables copied ids home.part a t there by id (All-head (λ k. k < length a.constants) id [] known)

  pub plain_is : (es : List Entry) (r : Option ℕ) → is_appending (linkage_of (seen (modules parts) home).global) ≡ false → r ≡ option_map (new_constant t) v.initialiser
      → IsInitialiser b (joined_initialiser (modules parts) (seen (modules parts) home) es (initialiser_of (seen (modules parts) home).global)) r
  plain_is es r plain e =
      subst (IsInitialiser b (joined_initialiser (modules parts) (seen (modules parts) home) es (initialiser_of (seen (modules parts) home).global))) (sym e)
      (subst (λ o. IsInitialiser b o (option_map (new_constant t) v.initialiser)) (sym (cond-false (is_appending (linkage_of (seen (modules parts) home).global)) _ _ plain))
      (subst (λ (x : Entry). IsInitialiser b (option_map (linked_constant (modules parts) x.part) (initialiser_of x.global)) (option_map (new_constant t) v.initialiser)) (sym (variable_seen parts home a there v is at)) copied_is))

-- ---- what is set is what is written

-- a variable that is defined there, as it is written in the linked module
abbrev pub variable_linked : List Module → Bytes → Entry → List Entry → Variable → Variable
variable_linked parts name e es v = record {
  name = name;
  linkage = v.linkage;
  constant = v.constant;
  ty = joined_type parts e es v.ty;
  alignment = joined_alignment parts e es;
  initialiser = joined_initialiser parts e es v.initialiser;
}

module _ (parts : List Lists) (home : EntryId) (known : IsEntryId parts home) (is : home.kind ≡ kind.Variable) where
  here : (v : the_variable.Variable) × (slice_get known.0.variables home.number ≡ Some v)
  here = get_within known.0.variables home.number (variable_within parts home known.0 known known.1 is)

  -- what its entry has
  pub variable_here : Variable
  variable_here = variable_in known.0 here.0

  global_is : (seen (modules parts) home).global ≡ OfVariable variable_here
  unfolding variable_here
  global_is = ap (λ (x : Entry). x.global) (variable_seen parts home known.0 known.1 here.0 is here.1)

  pub definition_is : (ids : List EntryId) (name : Bytes) → definition_of parts home ids name ≡ OfVariable (variable_linked (modules parts) name (seen (modules parts) home) (entries_defined parts ids) variable_here)
  definition_is ids name = ap (linked_definition (modules parts) name (seen (modules parts) home) (entries_defined parts ids)) global_is

  pub variable_written : (m : Module) (id : ℕ) (ids : List EntryId) (name : Bytes)
      → defined_as m (global.Variable id) (definition_of parts home ids name) ≡ with_initialiser m id (joined_initialiser (modules parts) (seen (modules parts) home) (entries_defined parts ids) (initialiser_of (seen (modules parts) home).global))
  variable_written m id ids name =
      let e = seen (modules parts) home in
      let es = entries_defined parts ids in
      subst (λ (x : Global). defined_as m (global.Variable id) (linked_definition (modules parts) name e es x) ≡ with_initialiser m id (joined_initialiser (modules parts) e es (initialiser_of x))) (sym global_is) refl

pub set_as : (b : Lists) (m : Module) (number : ℕ) (o : Option Constant) (id : ℕ) → IsInitialiser b o (Some id) → initialised m number (constant_at (constants_of b) id) ≡ with_initialiser m number o
set_as b m number None id h = absurd h
set_as b m number (Some c) id h = ap (initialised m number) h.constant

pub none_as : (b : Lists) (m : Module) (number : ℕ) (o : Option Constant) → IsInitialiser b o None → m ≡ with_initialiser m number o
none_as b m number None h = refl
none_as b m number (Some c) h = absurd h

pub initialiser_known : (b : Lists) (o : Option Constant) (id : ℕ) → IsInitialiser b o (Some id) → id < length b.constants
initialiser_known b None id h = absurd h
initialiser_known b (Some c) id h = h.known
