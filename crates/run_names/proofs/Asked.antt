-- What is told of a valid module by numbers is what look-up defines.
use Rattle.std.proofs.Common.{◌≡◌, ◌⊎◌, inl, inr, ℕ, List, [], ◌∷◌, map, length, Bool, true, false, Option, Some, None, refl, sym, ap, ◌∙◌, subst, true≢false, bytes_eq}
use Rattle.std.specs.Prelude.{slice_get, option_to_list, if◌then◌else◌}
use Rattle.std.specs.List.{list_any, list_all}
use Rattle.std.specs.Option.{option_map, option_map_or}
use Rattle.std.proofs.lemmas.Bool.{and_parts, both_ways}
use Rattle.std.proofs.lemmas.Option.{same_Some, slice_get-map, get_or_from_slice_get}
use Rattle.ir_eval.specs.declared.value.Scalar.{Scalar}
use Rattle.ir_eval.specs.declared.value.Scalar.TheVariants.{Ptr}
use Rattle.ir_tables.specs.Table.{is_distinct}
use Rattle.module_arena.specs.declared.entry.Alias.{Alias}
use Rattle.module_arena.specs.declared.entry.Function.{Function}
use Rattle.module_arena.specs.declared.entry.GlobalId.{GlobalId}
use Rattle.module_arena.specs.declared.entry.GlobalId.TheVariants as global
use Rattle.module_arena.specs.declared.entry.Variable.{Variable}
use Rattle.module_arena.specs.declared.host.HostRow.{HostRow}
use Rattle.module_arena.specs.HostRows.{host_row}
use Rattle.module_arena.specs.Known.{IsGood, KnowsAlias, HasGlobal, counts}
use Rattle.module_arena.specs.Lists.{Lists, name_at}
use Rattle.module_arena.specs.Module.{Bytes, Module}
use Rattle.module_arena.specs.Names.{is_name}
use Rattle.module_arena.specs.Valid.{IsValid}
use Rattle.module_arena.specs.View.{module_of}
use Rattle.module_arena.specs.WellFormed.{IsWellFormed, global_names, has_entry, is_good_alias}
use Rattle.linkage_rules.specs.Entries.{Entry, entries}
use Rattle.linkage_rules.specs.Globals.{OfAlias, is_alias}
use Rattle.linkage_rules.specs.Linkages.{is_extern_weak}
use Rattle.linkage_rules.specs.Addresses.{function_address}
use Rattle.linkage_rules.proofs.Steps.{all_get}
use Rattle.linkage_rules.proofs.Seen.{get_within}
use Rattle.run_rules.specs.Calls as calls
use Rattle.run_rules.specs.Look.{address_in, callee_numbered, function_number, table}
use Rattle.run_names.specs.declared.standing.Standing.{Standing}
use Rattle.run_names.specs.declared.standing.Standing.TheVariants as standing
use Rattle.run_names.specs.Spots.{AreAddresses}
use Rattle.run_names.specs.Standings.{AreStandings, elsewhere, function_stands, has_code}
use Rattle.run_names.specs.Told.{callee_seen}
use Rattle.run_names.proofs.Listed.{all_at}
use Rattle.run_names.proofs.OneModule.{entry, alias_in, names_apart, one_named}
use Rattle.run_names.proofs.Meant.{target_is, alias_address}
use Rattle.run_names.proofs.Arena.{alias_seen, alias_there, callee_of, function_callee, function_leaf, leaf_by, no_callee}
use Rattle.run_names.proofs.Lies.{function_pointer}

-- a function that is code has a body that counts
pub code_counts : (f : Function) → function_stands f ≡ standing.Code → has_code f ≡ true
code_counts f h = go (has_code f) (is_extern_weak f.linkage) (host_row f.name) h
  where
    go : (b w : Bool) (o : Option HostRow) → (if b then standing.Code else elsewhere w o) ≡ standing.Code → b ≡ true
    go true w o h = refl
    go false w (Some row) h = cc
    go false true None h = cc
    go false false None h = cc

-- the element of a list that was made of another
pub record IsMade {A B : Type 0} (f : A → B) (xs : List A) (n : ℕ) (y : B) : Type 0 where
  pub one : A
  pub at : slice_get xs n ≡ Some one
  pub is : f one ≡ y

pub made_of : {A B : Type 0} (f : A → B) (xs : List A) (ys : List B) (n : ℕ) (y : B) → ys ≡ map f xs → slice_get ys n ≡ Some y → IsMade f xs n y
made_of f xs ys n y is at = go (slice_get xs n) refl (sym (slice_get-map f xs n) ∙ ap (λ l. slice_get l n) (sym is) ∙ at)
  where
    go : (o : Option _) → slice_get xs n ≡ o → option_map f o ≡ Some y → IsMade f xs n y
    go None e h = cc
    go (Some x) e h = record { one = x; at = e; is = same_Some (f x) y h }

-- no name is empty
none_empty : (names : List Bytes) → list_all is_name names ≡ true → list_any (bytes_eq []) names ≡ false
none_empty [] h = refl
none_empty ([] ∷ names) h = cc
none_empty ((b ∷ bs) ∷ names) h = none_empty names (and_parts (is_name (b ∷ bs)) (list_all is_name names) h).1

module _ (a : Lists) where
  pub variable_name : (n : ℕ) (v : Variable) → slice_get a.variables n ≡ Some v → name_at a (global.Variable n) ≡ v.name
  variable_name n v at = get_or_from_slice_get (map (λ (v : Variable). v.name) a.variables) n v.name [] (slice_get-map (λ (v : Variable). v.name) a.variables n ∙ ap (option_map (λ (v : Variable). v.name)) at)

  pub function_name : (n : ℕ) (f : Function) → slice_get a.functions n ≡ Some f → name_at a (global.Function n) ≡ f.name
  function_name n f at = get_or_from_slice_get (map (λ (f : Function). f.name) a.functions) n f.name [] (slice_get-map (λ (f : Function). f.name) a.functions n ∙ ap (option_map (λ (f : Function). f.name)) at)

  pub alias_name : (n : ℕ) (x : Alias) → slice_get a.aliases n ≡ Some x → name_at a (global.Alias n) ≡ x.name
  alias_name n x at = get_or_from_slice_get (map (λ (x : Alias). x.name) a.aliases) n x.name [] (slice_get-map (λ (x : Alias). x.name) a.aliases n ∙ ap (option_map (λ (x : Alias). x.name)) at)

module _ (a : Lists) (well_formed : IsWellFormed (module_of a)) (valid : IsValid (module_of a)) where
  abbrev m : Module
  m = module_of a

  abbrev parts : List Module
  parts = m ∷ []

  -- what is told of an address that is a function's
  pub called_as : (standings : List Standing) → AreStandings a standings → (address n : ℕ) (x : Standing) → Some n ≡ function_number address → slice_get standings n ≡ Some x
      → callee_seen parts (callee_of n x) ≡ table parts address
  called_as standings are address n x number at =
      let r = made_of function_stands a.functions standings n x are at in
      sym
      (ap (λ o. option_map_or (callee_numbered parts) o calls.Nothing) (sym number) ∙ function_callee a well_formed valid n r.one r.at ∙ ap (λ s. callee_seen parts (callee_of n s)) r.is)

  pub called_nothing : (address n : ℕ) → Some n ≡ function_number address → slice_get a.functions n ≡ None → calls.Nothing ≡ table parts address
  called_nothing address n number none = sym (ap (λ o. option_map_or (callee_numbered parts) o calls.Nothing) (sym number) ∙ no_callee a well_formed valid n none)

  pub called_nowhere : (standings : List Standing) → AreStandings a standings → (address n : ℕ) (x : Standing) → Some n ≡ function_number address → slice_get standings n ≡ Some x
      → (x ≡ standing.Null) ⊎ (x ≡ standing.Unresolved) → calls.Nothing ≡ table parts address
  called_nowhere standings are address n x number at (inl e) = sym (ap (λ s. callee_seen parts (callee_of n s)) e) ∙ called_as standings are address n x number at
  called_nowhere standings are address n x number at (inr e) = sym (ap (λ s. callee_seen parts (callee_of n s)) e) ∙ called_as standings are address n x number at

  -- the address of a function
  pub function_told : (standings : List Standing) → AreStandings a standings → (n : ℕ) (x : Standing) → slice_get standings n ≡ Some x
      → leaf_by (Ptr (record { block = None; address = function_address n })) x ≡ address_in parts 0 (name_at a (global.Function n))
  function_told standings are n x at =
      let r = made_of function_stands a.functions standings n x are at in
      sym
      (ap (address_in parts 0) (function_name a n r.one r.at) ∙ function_leaf a well_formed valid n r.one r.at
      ∙ ap (λ p. leaf_by (Ptr p) (function_stands r.one)) (function_pointer a well_formed valid n r.one r.at)
      ∙ ap (leaf_by (Ptr (record { block = None; address = function_address n }))) r.is)

  -- the address of a variable
  pub variable_told : (addresses : List Scalar) → AreAddresses a addresses → (n : ℕ) (x : Scalar) → slice_get addresses n ≡ Some x → x ≡ address_in parts 0 (name_at a (global.Variable n))
  variable_told addresses are n x at =
      let r = made_of (λ (v : Variable). address_in parts 0 v.name) a.variables addresses n x are at in
      sym r.is ∙ ap (address_in parts 0) (sym (variable_name a n r.one r.at))

  module _ (n : ℕ) (x : Alias) (at : slice_get a.aliases n ≡ Some x) where
    -- an alias has the address of its target
    pub alias_told : (g : GlobalId) (leaf : Scalar) → x.target ≡ Some g → leaf ≡ address_in parts 0 (name_at a g) → leaf ≡ address_in parts 0 (name_at a (global.Alias n))
    alias_told g leaf target is =
        is ∙ ap (λ o. address_in parts 0 (option_map_or (name_at a) o [])) (sym target)
        ∙ sym (alias_address m well_formed valid n (alias_seen a x) (alias_there a n x at)) ∙ ap (address_in parts 0) (sym (alias_name a n x at))

    -- which is there
    pub target_there : x.target ≡ None → ⊥
    target_there none =
        both_ways (has_entry m (option_map_or (name_at a) x.target []))
        (ap (λ o. has_entry m (option_map_or (name_at a) o [])) none ∙ none_empty (global_names m) (and_parts _ (is_distinct bytes_eq (global_names m)) well_formed.global_names).0)
        (and_parts _ _ (all_at (is_good_alias m) m.aliases n (alias_seen a x) well_formed.aliases (alias_there a n x at))).1

    -- and is no alias
    pub target_plain : (k : ℕ) (y : Alias) → slice_get a.aliases k ≡ Some y → x.target ≡ Some (global.Alias k) → ⊥
    target_plain k y here target =
        let t = target_is m well_formed valid n (alias_seen a x) (alias_there a n x at) in
        let there = alias_in m k (alias_seen a y) (alias_there a k y here) in
        let named = t.named ∙ ap (λ o. option_map_or (name_at a) o []) target ∙ alias_name a k y here in
        let is : t.one ≡ entry (OfAlias (alias_seen a y)) = one_named (entries parts) t.place there.0 t.one (entry (OfAlias (alias_seen a y))) (names_apart m well_formed) t.at there.1 named in
        true≢false (sym (ap (λ (e : Entry). is_alias e.global) is) ∙ t.plain)

    -- the target is an entry of the arena
    pub known_target : IsGood a → (g h : GlobalId) → x.target ≡ Some g → g ≡ h → HasGlobal (counts a) h
    known_target good g h target is =
        subst (HasGlobal (counts a)) is
        (all_get (HasGlobal (counts a)) (option_to_list x.target) 0 g (all_get (KnowsAlias (length a.table.types) (counts a)) a.aliases n x good.aliases at).target_known (ap (λ (o : Option GlobalId). slice_get (option_to_list o) 0) target))

    pub alias_never : IsGood a → (g : GlobalId) (k : ℕ) → x.target ≡ Some g → g ≡ global.Alias k → ⊥
    alias_never good g k target is =
        let y = get_within a.aliases k (known_target good g (global.Alias k) target is) in
        target_plain k y.0 y.1 (target ∙ ap (λ h. Some h) is)
