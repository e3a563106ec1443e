-- What an alias is of is in the linked module such a definition still.
use Rattle.std.proofs.Common.{◌≡◌, ℕ, zero, suc, Bool, true, false, not, ◌⊎◌, inl, inr, List, [], ◌∷◌, ◌++◌, map, filter_map, Option, Some, None, refl, sym, ap, ap₂, ◌∙◌, subst, option_map, is_some, bytes_eq}
use Rattle.std.specs.Prelude.{slice_get}
use Rattle.std.specs.List.{list_any, list_all}
use Rattle.std.proofs.lemmas.Bool.{and_from, and_parts, or_left, or_right, cases_Bool, both_ways, cond-true, cond-false}
use Rattle.std.proofs.lemmas.Option.{same_Some, slice_get-map}
use Rattle.ir_tables.specs.declared.linkage.Linkage.{Linkage}
use Rattle.ir_tables.specs.declared.linkage.Linkage.TheVariants.{External, Private, Internal, Common, Appending, ExternWeak, AvailableExternally, Linkonce, LinkonceOdr, Weak, WeakOdr}
use Rattle.module_arena.specs.Module.{Bytes, AliasType, PlainType, FunctionType, Alias, Module}
use Rattle.module_arena.specs.Renamed.{renamed_alias_type}
use Rattle.module_arena.specs.EntryRules.{is_lasting, is_lasting_variable, is_lasting_function, target_suits}
use Rattle.module_arena.specs.WellFormed.{is_good_type, has_entry, types_of_alias, is_good_alias}
use Rattle.linkage_rules.specs.Globals.{Global, OfVariable, OfFunction, OfAlias, name_of, linkage_of, is_written, globals}
use Rattle.linkage_rules.specs.Linkages.{is_local, is_available_externally, is_appending}
use Rattle.linkage_rules.specs.Lists.{has}
use Rattle.linkage_rules.specs.Entries.{Entry, entries, part_at, same_symbol, symbol_of, symbol_in}
use Rattle.linkage_rules.specs.declared.symbol.Symbol.TheVariants.{Shared, Local}
use Rattle.linkage_rules.specs.Winner.{definitions, home}
use Rattle.link_rules.proofs.Apart.{has_at, at_has}
use Rattle.linkage_rules.specs.SymbolLaws.{name_self, name_exact, symbol_self, symbol_exact}
use Rattle.link_rules.proofs.Symbols.{home_is, symbol_local}
use Rattle.link_rules.specs.Rename.{new_global}
use Rattle.link_rules.specs.Structs.{new_struct}
use Rattle.link_rules.specs.Linked.{linked_constant, linked_block, linked_definition, linked_by, linked, linked_globals, variable_if, function_if, link_result}
use Rattle.type_table.proofs.Rooms.{unmapped}
use Rattle.link_rules.proofs.Agreed.{any_left, any_right}
use Rattle.link_rules.proofs.ByKind.{any_key}
use Rattle.link_rules.proofs.OnValid.PartEntries.{HasAt, EntryHolds, entries_at}
use Rattle.link_rules.proofs.OnValid.Known.{test_at}
use Rattle.link_rules.specs.Valid.Laws.{AreLinkable}
use Rattle.link_rules.proofs.OnValid.Renaming.{good_at, entries_hold, row_of_name, linked_at}
use Rattle.link_rules.proofs.OnValid.Callees.{entry_where, local_symbol, shared_symbol}
use Rattle.link_rules.proofs.OnValid.Strong.{one_entry, lasting_home}
use Rattle.link_rules.proofs.OnValid.LinkedRows.{TargetsKept}

-- a definition of that name, variable or function, that is external, private or internal
abbrev lasts : Bool → Bytes → Global → Bool
lasts true name (OfVariable v) = is_lasting_variable name v
lasts false name (OfFunction f) = is_lasting_function name f
lasts _ name _ = false

variable_lasts : (m : Module) (name : Bytes) → list_any (is_lasting_variable name) m.variables ≡ true → list_any (lasts true name) (globals m) ≡ true
variable_lasts m name h =
    any_left (lasts true name) (map OfVariable m.variables ++ map OfFunction m.functions) (map OfAlias m.aliases)
    (any_left (lasts true name) (map OfVariable m.variables) (map OfFunction m.functions) (any_key OfVariable (lasts true name) m.variables ∙ h))

function_lasts : (m : Module) (name : Bytes) → list_any (is_lasting_function name) m.functions ≡ true → list_any (lasts false name) (globals m) ≡ true
function_lasts m name h =
    any_left (lasts false name) (map OfVariable m.variables ++ map OfFunction m.functions) (map OfAlias m.aliases)
    (any_right (lasts false name) (map OfVariable m.variables) (map OfFunction m.functions) (any_key OfFunction (lasts false name) m.functions ∙ h))

-- such a thing in the linked module
variable_lasts_there : (name : Bytes) (gs : List Global) (k : ℕ) (g : Global) → slice_get gs k ≡ Some g → lasts true name g ≡ true → list_any (is_lasting_variable name) (filter_map variable_if gs) ≡ true
variable_lasts_there name [] k g at h = cc
variable_lasts_there name (OfVariable v ∷ gs) zero g at h = or_left _ _ (subst (λ x. lasts true name x ≡ true) (sym (same_Some (OfVariable v) g at)) h)
variable_lasts_there name (OfFunction f ∷ gs) zero g at h = let bad : lasts true name (OfFunction f) ≡ true = subst (λ x. lasts true name x ≡ true) (sym (same_Some (OfFunction f) g at)) h in cc
variable_lasts_there name (OfAlias a ∷ gs) zero g at h = let bad : lasts true name (OfAlias a) ≡ true = subst (λ x. lasts true name x ≡ true) (sym (same_Some (OfAlias a) g at)) h in cc
variable_lasts_there name (OfVariable v ∷ gs) (suc k) g at h = or_right (is_lasting_variable name v) _ (variable_lasts_there name gs k g at h)
variable_lasts_there name (OfFunction f ∷ gs) (suc k) g at h = variable_lasts_there name gs k g at h
variable_lasts_there name (OfAlias a ∷ gs) (suc k) g at h = variable_lasts_there name gs k g at h

function_lasts_there : (name : Bytes) (gs : List Global) (k : ℕ) (g : Global) → slice_get gs k ≡ Some g → lasts false name g ≡ true → list_any (is_lasting_function name) (filter_map function_if gs) ≡ true
function_lasts_there name [] k g at h = cc
function_lasts_there name (OfFunction f ∷ gs) zero g at h = or_left _ _ (subst (λ x. lasts false name x ≡ true) (sym (same_Some (OfFunction f) g at)) h)
function_lasts_there name (OfVariable v ∷ gs) zero g at h = let bad : lasts false name (OfVariable v) ≡ true = subst (λ x. lasts false name x ≡ true) (sym (same_Some (OfVariable v) g at)) h in cc
function_lasts_there name (OfAlias a ∷ gs) zero g at h = let bad : lasts false name (OfAlias a) ≡ true = subst (λ x. lasts false name x ≡ true) (sym (same_Some (OfAlias a) g at)) h in cc
function_lasts_there name (OfFunction f ∷ gs) (suc k) g at h = or_right (is_lasting_function name f) _ (function_lasts_there name gs k g at h)
function_lasts_there name (OfVariable v ∷ gs) (suc k) g at h = function_lasts_there name gs k g at h
function_lasts_there name (OfAlias a ∷ gs) (suc k) g at h = function_lasts_there name gs k g at h

-- what is told of it
lasting_here : (l : Linkage) → is_lasting l ≡ true → (not (is_available_externally l) ≡ true) × (is_appending l ≡ false)
lasting_here External h = (refl, refl)
lasting_here Private h = (refl, refl)
lasting_here Internal h = (refl, refl)
lasting_here Appending h = cc
lasting_here Common h = cc
lasting_here ExternWeak h = cc
lasting_here AvailableExternally h = cc
lasting_here Linkonce h = cc
lasting_here LinkonceOdr h = cc
lasting_here Weak h = cc
lasting_here WeakOdr h = cc

pub record Lasts (name : Bytes) (g : Global) : Type 0 where
  pub named : name_of g ≡ name
  pub written : is_written g ≡ true
  pub lasting : is_lasting (linkage_of g) ≡ true

lasts_are : (b : Bool) (name : Bytes) (g : Global) → lasts b name g ≡ true → Lasts name g
lasts_are true name (OfVariable v) h =
    let one = and_parts (bytes_eq v.name name) _ h in
    let two = and_parts (is_some v.initialiser) _ one.1 in
    record { named = name_exact v.name name one.0; written = two.0; lasting = two.1 }
lasts_are false name (OfFunction f) h =
    let one = and_parts (bytes_eq f.name name) _ h in
    let two = and_parts (is_some f.body) _ one.1 in
    record { named = name_exact f.name name one.0; written = two.0; lasting = two.1 }
lasts_are true name (OfFunction f) h = cc
lasts_are true name (OfAlias a) h = cc
lasts_are false name (OfVariable v) h = cc
lasts_are false name (OfAlias a) h = cc

some_kept : {A B : Type 0} (f : A → B) (o : Option A) → is_some o ≡ true → is_some (option_map f o) ≡ true
some_kept f (Some x) h = refl
some_kept f None h = cc

-- and stays so in the linked module
linked_lasts : (parts : List Module) (b : Bool) (name new : Bytes) (d : Entry) (es : List Entry) (g : Global) → d.global ≡ g → lasts b name g ≡ true → lasts b new (linked_definition parts new d es g) ≡ true
linked_lasts parts true name new d es (OfVariable v) eq h =
    let facts = lasts_are true name (OfVariable v) h in
    let plain : is_appending (linkage_of d.global) ≡ false = ap (λ x. is_appending (linkage_of x)) eq ∙ (lasting_here v.linkage facts.lasting).1 in
    and_from _ _ (name_self new) (and_from _ _ (ap is_some (cond-false (is_appending (linkage_of d.global)) _ _ plain) ∙ some_kept (linked_constant parts d.part) v.initialiser facts.written) facts.lasting)
linked_lasts parts false name new d es (OfFunction f) eq h =
    let facts = lasts_are false name (OfFunction f) h in
    and_from _ _ (name_self new) (and_from _ _ (some_kept (map (linked_block parts d.part)) f.body facts.written) facts.lasting)
linked_lasts parts true name new d es (OfFunction f) eq h = cc
linked_lasts parts true name new d es (OfAlias a) eq h = cc
linked_lasts parts false name new d es (OfVariable v) eq h = cc
linked_lasts parts false name new d es (OfAlias a) eq h = cc

module _ (parts : List Module) (fine : AreLinkable parts) where
  -- what a name is of in a part is its entry's symbol
  pub own_symbol : (i k : ℕ) (name : Bytes) (d : Entry) → slice_get (entries parts) k ≡ Some d → d.part ≡ i → name_of d.global ≡ name → symbol_in parts i name ≡ symbol_of d
  own_symbol i k name d at part named = go (cases_Bool (is_local (linkage_of d.global)))
    where
      go : (is_local (linkage_of d.global) ≡ true) ⊎ (is_local (linkage_of d.global) ≡ false) → symbol_in parts i name ≡ symbol_of d
      go (inl t) =
          let own : symbol_of d ≡ Local i name = local_symbol d t ∙ ap₂ Local part named in
          cond-true (has same_symbol (map symbol_of (entries parts)) (Local i name)) _ _ (has_at same_symbol symbol_self symbol_exact (map symbol_of (entries parts)) k (Local i name) (slice_get-map symbol_of (entries parts) k ∙ ap (option_map symbol_of) at ∙ ap Some own))
          ∙ sym own
      go (inr f) = by_other (cases_Bool (has same_symbol (map symbol_of (entries parts)) (Local i name)))
        where
          own : symbol_of d ≡ Shared name
          own = shared_symbol d f ∙ ap Shared named

          by_other : (has same_symbol (map symbol_of (entries parts)) (Local i name) ≡ true) ⊎ (has same_symbol (map symbol_of (entries parts)) (Local i name) ≡ false) → symbol_in parts i name ≡ symbol_of d
          by_other (inr u) = cond-false (has same_symbol (map symbol_of (entries parts)) (Local i name)) _ _ u ∙ sym own
          by_other (inl t) =
              let found = at_has same_symbol symbol_self symbol_exact (map symbol_of (entries parts)) (Local i name) t in
              let x = unmapped symbol_of (slice_get (entries parts) found.0) (Local i name) (sym (slice_get-map symbol_of (entries parts) found.0) ∙ found.1) in
              let local = symbol_local i name x.0 (subst (λ s. same_symbol (Local i name) s ≡ true) (sym x.2) (symbol_self (Local i name))) in
              let same : Local x.0.part (name_of x.0.global) ≡ Local i name = sym (local_symbol x.0 local) ∙ x.2 in
              let x_part : x.0.part ≡ i = cc in
              let x_named : name_of x.0.global ≡ name = cc in
              let one = one_entry parts fine found.0 k x.0 d x.1 at (x_part ∙ sym part) (x_named ∙ sym named) in
              absurd (both_ways _ f (ap (λ e. is_local (linkage_of e.global)) (sym one) ∙ local))

  lasting_there : (b : Bool) (i : ℕ) (name : Bytes) → has_entry (part_at parts i) name ≡ true → list_any (lasts b name) (globals (part_at parts i)) ≡ true → (k : ℕ) × (g : Global) × (slice_get (linked_globals parts) k ≡ Some g) × (lasts b (new_global parts i name) g ≡ true)
  lasting_there b i name there h =
      let found = entry_where parts i (lasts b name) h in
      let d = found.1 in
      let facts = lasts_are b name d.global found.3.1 in
      let row = row_of_name parts fine i name there in
      let symbol = own_symbol i found.0 name d found.2 found.3.0 facts.named in
      let counts = lasting_home parts fine found.0 d found.2 (and_from _ _ facts.written (lasting_here (linkage_of d.global) facts.lasting).0) facts.lasting in
      let is : linked parts (symbol_in parts i name, row.new) ≡ linked_definition parts row.new d (definitions parts (symbol_in parts i name)) d.global = ap (linked_by parts (symbol_in parts i name) row.new) (ap (home parts) symbol ∙ counts) in (
        row.place,
        linked parts (symbol_in parts i name, row.new),
        linked_at parts fine i row.place (symbol_in parts i name) row.new row.at,
        ap₂ (lasts b) row.named is ∙ linked_lasts parts b name row.new d (definitions parts (symbol_in parts i name)) d.global refl found.3.1,
      )

  by_type : (i : ℕ) (t : AliasType) (name : Bytes) → has_entry (part_at parts i) name ≡ true → target_suits (part_at parts i) t name ≡ true → target_suits (link_result parts) (renamed_alias_type (new_struct parts i) t) (new_global parts i name) ≡ true
  by_type i (PlainType t) name there h =
      let r = lasting_there true i name there (variable_lasts (part_at parts i) name h) in
      variable_lasts_there (new_global parts i name) (linked_globals parts) r.0 r.1 r.2 r.3
  by_type i (FunctionType signature) name there h =
      let r = lasting_there false i name there (function_lasts (part_at parts i) name h) in
      function_lasts_there (new_global parts i name) (linked_globals parts) r.0 r.1 r.2 r.3

  alias_kept : (i : ℕ) (a : Alias) → HasAt (part_at parts i) (OfAlias a) → EntryHolds (part_at parts i) (OfAlias a) → target_suits (link_result parts) (renamed_alias_type (new_struct parts i) a.ty) (new_global parts i a.target) ≡ true
  alias_kept i a has holds =
      by_type i a.ty a.target
      (and_parts (list_all (is_good_type (part_at parts i).structs) (types_of_alias a.ty)) _ (test_at (is_good_alias (part_at parts i)) (part_at parts i).aliases has.0 a has.1 (good_at parts fine i).aliases)).1
      (and_parts (is_lasting a.linkage) _ holds.1.1.1.1.1.0).1

  pub targets_kept : TargetsKept parts
  targets_kept s e a h eq =
      let has = (home_is parts (λ d. HasAt (part_at parts d.part) d.global) s e (entries_at parts) h).0.0 in
      let holds = (home_is parts (λ d. EntryHolds (part_at parts d.part) d.global) s e (entries_hold parts fine) h).0.0 in
      alias_kept e.part a (subst (HasAt (part_at parts e.part)) eq has) (subst (EntryHolds (part_at parts e.part)) eq holds)
