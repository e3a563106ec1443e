-- What the symbols of a valid module mean in a run of the module alone.
use Rattle.std.proofs.Common.{◌≡◌, ℕ, List, [], ◌∷◌, Bool, true, false, not, ◌&&◌, Some, None, is_some, refl, sym, ap, ap₂, ◌∙◌, true≢false, bytes_eq}
use Rattle.std.specs.Prelude.{slice_get, position, unwrap_or, if◌then◌else◌}
use Rattle.std.specs.List.{AllByRecursion, list_all, list_any}
use Rattle.std.specs.Map.{lookup}
use Rattle.std.specs.Option.{option_map_or}
use Rattle.std.proofs.lemmas.Bool.{and_parts, cond-true, cond-false, not-true}
use Rattle.ir_eval.specs.declared.value.Pointer.{Pointer}
use Rattle.ir_eval.specs.declared.value.Scalar.TheVariants.{Ptr}
use Rattle.ir_tables.specs.declared.linkage.Linkage.{Linkage}
use Rattle.ir_tables.specs.declared.linkage.Linkage.TheVariants.{Private, Internal, External, ExternWeak}
use Rattle.module_arena.specs.EntryRules as rules
use Rattle.module_arena.specs.HostRows.{host_row}
use Rattle.module_arena.specs.Module.{Bytes, Alias, AliasType, PlainType, FunctionType, Function, Module}
use Rattle.module_arena.specs.Valid.{IsValid}
use Rattle.module_arena.specs.WellFormed.{IsWellFormed}
use Rattle.module_arena.proofs.Parts.{valid_alias, valid_function}
use Rattle.linkage_rules.specs.Bind.{Bound, Definition, Appended, Host, Null, Unresolved, all_extern_weak, is_function_symbol, undefined, bound_to, target_of, behind_from, behind, own_meaning, meaning}
use Rattle.linkage_rules.specs.declared.symbol.Symbol.{Symbol}
use Rattle.linkage_rules.specs.declared.symbol.Symbol.TheVariants.{Shared, Local}
use Rattle.linkage_rules.specs.Entries.{Entry, entries, same_symbol, symbol_in, symbol_of}
use Rattle.linkage_rules.specs.Globals.{Global, OfVariable, OfFunction, OfAlias, name_of, linkage_of, is_alias, is_variable}
use Rattle.linkage_rules.specs.Linkages.{is_local, is_appending, is_available_externally, is_extern_weak}
use Rattle.linkage_rules.specs.Lists.{first}
use Rattle.linkage_rules.specs.Addresses.{place, rooms}
use Rattle.linkage_rules.specs.SymbolLaws.{name_exact}
use Rattle.linkage_rules.specs.Winner.{home, is_definition}
use Rattle.linkage_rules.proofs.ValidParts.{same_appending}
use Rattle.run_rules.specs.Look.{address_in, leaf_of, pointer_to}
use Rattle.run_names.proofs.Apart.{AreApart, own_entries, own_home}
use Rattle.run_names.proofs.Listed.{some_passes}
use Rattle.run_names.proofs.OneModule.{entry, module_apart, entries_have, variable_in, function_in, alias_in, lasting_counts, symbol_in_is}

-- ---- linkages

-- what is local is defined
local_defined : (b : Bool) (l : Linkage) → rules.linkage_suits b l ≡ true → is_local l ≡ true → (b && not (is_available_externally l)) ≡ true
local_defined true Private h k = refl
local_defined true Internal h k = refl
local_defined true _ h k = absurd (true≢false (sym k))
local_defined false External h k = absurd (true≢false (sym k))
local_defined false ExternWeak h k = absurd (true≢false (sym k))
local_defined false _ h k = absurd (true≢false (sym h))

-- the address of a symbol that is behind another
abbrev pub pointer_behind : List Module → Symbol → Pointer
pointer_behind parts b = record { block = position (λ row. same_symbol b row.0) (rooms parts); address = unwrap_or (lookup (same_symbol b) (place parts)) 0 }

-- ---- what no one defines

-- what an entry means that is no definition
abbrev pub undefined_here : Entry → Bound
undefined_here e =
    if is_local (linkage_of e.global) then Unresolved
    else (if not (is_variable e.global) && is_some (host_row (name_of e.global)) then Host (name_of e.global) else (if is_extern_weak (linkage_of e.global) then Null else Unresolved))

and_same : (b : Bool) → (b && true) ≡ b
and_same true = refl
and_same false = refl

module _ (parts : List Module) (apart : AreApart (entries parts)) (k : ℕ) (e : Entry) (at : slice_get (entries parts) k ≡ Some e) where
  undefined_means : undefined parts (symbol_of e) ≡ undefined_here e
  undefined_means = go (is_local (linkage_of e.global)) refl
    where
      n : Bytes
      n = name_of e.global

      go : (b : Bool) → is_local (linkage_of e.global) ≡ b → undefined parts (symbol_of e) ≡ undefined_here e
      go true local = ap (undefined parts) (cond-true (is_local (linkage_of e.global)) (Local e.part n) (Shared n) local) ∙ sym (cond-true (is_local (linkage_of e.global)) _ _ local)
      go false shared =
          let own : symbol_of e ≡ Shared n = cond-false (is_local (linkage_of e.global)) (Local e.part n) (Shared n) shared in
          let is_function : is_function_symbol parts (Shared n) ≡ not (is_variable e.global) =
          ap (is_function_symbol parts) (sym own) ∙ ap (λ es. option_map_or (λ (x : Entry). not (is_variable x.global)) (first es) false) (own_entries parts apart k e at) in
          let is_weak : all_extern_weak parts (Shared n) ≡ is_extern_weak (linkage_of e.global) =
          ap (all_extern_weak parts) (sym own) ∙ ap (list_all (λ (x : Entry). is_extern_weak (linkage_of x.global))) (own_entries parts apart k e at) ∙ and_same (is_extern_weak (linkage_of e.global)) in
          ap (undefined parts) own
          ∙ ap₂ (λ f w. if f && is_some (host_row n) then Host n else (if w then Null else Unresolved)) is_function is_weak
          ∙ sym (cond-false (is_local (linkage_of e.global)) Unresolved _ shared)

  target_plain : (s : Symbol) (i : ℕ) (g : Global) → is_alias g ≡ false → target_of parts s i g ≡ s
  target_plain s i (OfVariable v) h = refl
  target_plain s i (OfFunction f) h = refl
  target_plain s i (OfAlias a) h = absurd (true≢false h)

  -- what is no alias stands for itself
  pub behind_plain : is_alias e.global ≡ false → behind parts (symbol_of e) ≡ symbol_of e
  behind_plain plain = ap (behind_from parts (symbol_of e)) (own_home parts apart k e at) ∙ go (is_definition e)
    where
      go : (b : Bool) → behind_from parts (symbol_of e) (if b then Some e else None) ≡ symbol_of e
      go true = target_plain (symbol_of e) e.part e.global plain
      go false = refl

  -- what is no alias, by its entry
  pub plain_means : is_alias e.global ≡ false → meaning parts (symbol_of e) ≡ (if is_definition e then (if is_appending (linkage_of e.global) then Appended (symbol_of e) else Definition e) else undefined_here e)
  plain_means plain = ap (own_meaning parts) (behind_plain plain) ∙ ap (bound_to parts (symbol_of e)) (own_home parts apart k e at) ∙ go (is_definition e)
    where
      go : (b : Bool) → bound_to parts (symbol_of e) (if b then Some e else None) ≡ (if b then (if is_appending (linkage_of e.global) then Appended (symbol_of e) else Definition e) else undefined_here e)
      go true = refl
      go false = undefined_means

-- ---- a valid module

module _ (m : Module) (well_formed : IsWellFormed m) (valid : IsValid m) where
  abbrev parts : List Module
  parts = m ∷ []

  pub no_function_appends : (n : ℕ) (f : Function) → slice_get m.functions n ≡ Some f → is_appending f.linkage ≡ false
  no_function_appends n f e = same_appending f.linkage ∙ not-true (rules.is_appending f.linkage) (valid_function m n f valid e).1.1.0

  pub function_suits : (n : ℕ) (f : Function) → slice_get m.functions n ≡ Some f → is_local f.linkage ≡ true → (is_some f.body && not (is_available_externally f.linkage)) ≡ true
  function_suits n f e local = local_defined (is_some f.body) f.linkage (valid_function m n f valid e).0 local

  pub lasting_alias : (n : ℕ) (x : Alias) → slice_get m.aliases n ≡ Some x → is_available_externally x.linkage ≡ false
  lasting_alias n x e = lasting_counts x.linkage (and_parts (rules.is_lasting x.linkage) _ (valid_alias m n x valid e).1.1.1.1.1.0).0

  -- aliases are definitions
  pub aliases_defined : AllByRecursion (λ (e : Entry). is_alias e.global ≡ true → is_definition e ≡ true) (entries parts)
  aliases_defined =
      entries_have m (λ (e : Entry). is_alias e.global ≡ true → is_definition e ≡ true) (λ k v at h. absurd (true≢false (sym h))) (λ k f at h. absurd (true≢false (sym h)))
      (λ k x at h. ap not (lasting_alias k x at))

  -- ---- what an alias is of

  -- the entry of that name is a definition, and no alias
  pub record IsTarget (name : Bytes) : Type 0 where
    pub place : ℕ
    pub one : Entry
    pub at : slice_get (entries parts) place ≡ Some one
    pub part : one.part ≡ 0
    pub named : name_of one.global ≡ name
    pub plain : is_alias one.global ≡ false
    pub defined : is_definition one ≡ true

  lasting_defined : (b : Bool) (l : Linkage) → (b && rules.is_lasting l) ≡ true → (b && not (is_available_externally l)) ≡ true
  lasting_defined true l h = ap not (lasting_counts l h)
  lasting_defined false l h = h

  variable_target : (name : Bytes) → list_any (rules.is_lasting_variable name) m.variables ≡ true → IsTarget name
  variable_target name h =
      let r = some_passes (rules.is_lasting_variable name) m.variables h in
      let p = and_parts (bytes_eq r.one.name name) (is_some r.one.initialiser && rules.is_lasting r.one.linkage) r.passes in
      record { place = r.place; one = entry (OfVariable r.one); at = variable_in m r.place r.one r.at; part = refl; named = name_exact r.one.name name p.0; plain = refl; defined = lasting_defined (is_some r.one.initialiser) r.one.linkage p.1 }

  function_target : (name : Bytes) → list_any (rules.is_lasting_function name) m.functions ≡ true → IsTarget name
  function_target name h =
      let r = some_passes (rules.is_lasting_function name) m.functions h in
      let p = and_parts (bytes_eq r.one.name name) (is_some r.one.body && rules.is_lasting r.one.linkage) r.passes in
      let there = function_in m r.place r.one r.at in
      record { place = there.0; one = entry (OfFunction r.one); at = there.1; part = refl; named = name_exact r.one.name name p.0; plain = refl; defined = lasting_defined (is_some r.one.body) r.one.linkage p.1 }

  pub target_is : (n : ℕ) (x : Alias) → slice_get m.aliases n ≡ Some x → IsTarget x.target
  target_is n x e = go x.ty (and_parts (rules.is_lasting x.linkage) (rules.target_suits m x.ty x.target) (valid_alias m n x valid e).1.1.1.1.1.0).1
    where
      go : (t : AliasType) → rules.target_suits m t x.target ≡ true → IsTarget x.target
      go (PlainType ty) h = variable_target x.target h
      go (FunctionType signature) h = function_target x.target h

  -- the symbol of a target
  pub target_symbol : (name : Bytes) (t : IsTarget name) → symbol_in parts 0 name ≡ symbol_of t.one
  target_symbol name t = ap (symbol_in parts 0) (sym t.named) ∙ symbol_in_is m well_formed t.place t.one t.at t.part

  module _ (n : ℕ) (x : Alias) (at : slice_get m.aliases n ≡ Some x) where
    abbrev own : Entry
    own = entry (OfAlias x)

    pub alias_symbol : symbol_in parts 0 x.name ≡ symbol_of own
    alias_symbol = let r = alias_in m n x at in symbol_in_is m well_formed r.0 own r.1 refl

    alias_home : home parts (symbol_of own) ≡ Some own
    alias_home =
        let r = alias_in m n x at in
        own_home parts (module_apart m well_formed) r.0 own r.1 ∙ cond-true (is_definition own) (Some own) None (ap not (lasting_alias n x at))

    -- an alias stands for its target
    pub behind_alias : behind parts (symbol_of own) ≡ symbol_of (target_is n x at).one
    behind_alias = ap (behind_from parts (symbol_of own)) alias_home ∙ target_symbol x.target (target_is n x at)

    behind_target : behind parts (symbol_of (target_is n x at).one) ≡ symbol_of (target_is n x at).one
    behind_target = let t = target_is n x at in behind_plain parts (module_apart m well_formed) t.place t.one t.at t.plain

    -- and has its address
    pub alias_address : address_in parts 0 x.name ≡ address_in parts 0 x.target
    alias_address =
        let t = target_is n x at in
        ap (λ s. leaf_of parts s (meaning parts s)) alias_symbol
        ∙ same (symbol_of own) (symbol_of t.one) (behind_alias ∙ sym behind_target)
        ∙ ap (λ s. leaf_of parts s (meaning parts s)) (sym (target_symbol x.target t))
      where
        by : (s r : Symbol) → pointer_to parts s ≡ pointer_to parts r → (b : Bound) → leaf_of parts s b ≡ leaf_of parts r b
        by s r h (Definition e) = ap Ptr h
        by s r h (Appended symbol) = ap Ptr h
        by s r h (Host name) = ap Ptr h
        by s r h Null = refl
        by s r h Unresolved = refl

        same : (s r : Symbol) → behind parts s ≡ behind parts r → leaf_of parts s (meaning parts s) ≡ leaf_of parts r (meaning parts r)
        same s r h = ap (λ b. leaf_of parts s (own_meaning parts b)) h ∙ by s r (ap (pointer_behind parts) h) (meaning parts r)
