-- The entries of a sound arena, and what they mean in a run of its module alone.
use Rattle.std.proofs.Common.{◌≡◌, ℕ, List, [], ◌∷◌, map, Bool, true, false, not, ◌&&◌, Option, Some, None, is_some, refl, sym, ap, ap₂, ◌∙◌, true≢false}
use Rattle.std.specs.Prelude.{slice_get, option_and_then, if◌then◌else◌}
use Rattle.std.specs.Option.{option_map, option_map_or}
use Rattle.std.proofs.lemmas.Bool.{cond-true, cond-false}
use Rattle.std.proofs.lemmas.Option.{slice_get-map, same_Some}
use Rattle.ir_eval.specs.declared.value.Scalar.{Scalar}
use Rattle.ir_eval.specs.declared.value.Scalar.TheVariants.{Ptr, Poison}
use Rattle.ir_eval.specs.Cast.{pointer_at}
use Rattle.ir_tables.specs.declared.linkage.Linkage.{Linkage}
use Rattle.ir_tables.specs.declared.linkage.Linkage.TheVariants.{Private, Internal}
use Rattle.type_table.specs.Types.{trees, structs}
use Rattle.module_arena.specs.declared.entry.Alias as the_alias
use Rattle.module_arena.specs.declared.entry.Function as the_function
use Rattle.module_arena.specs.declared.entry.Variable as the_variable
use Rattle.module_arena.specs.declared.host.HostRow.{HostRow}
use Rattle.module_arena.specs.HostRows.{host_row}
use Rattle.module_arena.specs.declared.entry.GlobalId.TheVariants as global
use Rattle.module_arena.specs.Lists.{Lists, global_name, name_at}
use Rattle.module_arena.specs.Module.{Bytes, Variable, Alias, Function, Module}
use Rattle.module_arena.specs.Valid.{IsValid}
use Rattle.module_arena.specs.View.{module_of, variable_view, function_view, alias_view, constants_of}
use Rattle.module_arena.specs.WellFormed.{IsWellFormed}
use Rattle.linkage_rules.specs.Bind.{Bound, Definition, Appended, Host, Null, Unresolved, meaning, behind}
use Rattle.linkage_rules.specs.Entries.{Entry, entries, symbol_in, symbol_of}
use Rattle.linkage_rules.specs.Globals.{OfVariable, OfFunction}
use Rattle.linkage_rules.specs.Linkages.{is_local, is_appending, is_available_externally, is_extern_weak}
use Rattle.linkage_rules.specs.Symbols.{function_symbols}
use Rattle.linkage_rules.specs.Winner.{home, is_definition}
use Rattle.run_rules.specs.Calls as calls
use Rattle.run_rules.specs.Look.{address_in, leaf_of, pointer_to, callee_by, callee_numbered, code_of, defined, defined_by, function_at, host_of}
use Rattle.run_names.specs.declared.callee.CalleeRef.{CalleeRef}
use Rattle.run_names.specs.declared.callee.CalleeRef.TheVariants as told
use Rattle.run_names.specs.declared.standing.Standing.{Standing}
use Rattle.run_names.specs.declared.standing.Standing.TheVariants as standing
use Rattle.run_names.specs.Spots.{absent_leaf}
use Rattle.run_names.specs.Spots as spots
use Rattle.run_names.specs.Standings.{has_code, elsewhere, function_stands}
use Rattle.run_names.specs.Told.{callee_seen}
use Rattle.run_names.proofs.Apart.{own_home}
use Rattle.run_names.proofs.Listed.{mapped_at}
use Rattle.run_names.proofs.OneModule.{entry, module_apart, variable_in, function_in, symbol_in_is, function_entries, function_symbols_are}
use Rattle.run_names.proofs.Meant.{undefined_here, behind_plain, plain_means, no_function_appends, function_suits, aliases_defined}

mapped_some : {A B : Type 0} (f : A → B) (o : Option A) → is_some (option_map f o) ≡ is_some o
mapped_some f None = refl
mapped_some f (Some x) = refl

none_mapped : {A B : Type 0} (f : A → B) (xs : List A) (n : ℕ) → slice_get xs n ≡ None → slice_get (map f xs) n ≡ None
none_mapped f xs n h = slice_get-map f xs n ∙ ap (option_map f) h

module _ (a : Lists) where
  -- the entries as the module has them
  abbrev pub variable_seen : the_variable.Variable → Variable
  variable_seen v = variable_view (trees a.table) (constants_of a) v

  abbrev pub function_seen : the_function.Function → Function
  function_seen f = function_view (trees a.table) (constants_of a) f

  abbrev pub alias_seen : the_alias.Alias → Alias
  alias_seen x = alias_view (trees a.table) (name_at a) x

  pub variables_are : (module_of a).variables ≡ map variable_seen a.variables
  unfolding module_of
  variables_are = refl

  pub functions_are : (module_of a).functions ≡ map function_seen a.functions
  unfolding module_of
  functions_are = refl

  pub structs_are : (module_of a).structs ≡ structs a.table
  unfolding module_of
  structs_are = refl

  pub variable_there : (n : ℕ) (v : the_variable.Variable) → slice_get a.variables n ≡ Some v → slice_get (module_of a).variables n ≡ Some (variable_seen v)
  variable_there n v h = ap (λ l. slice_get l n) variables_are ∙ mapped_at variable_seen a.variables n v h

  pub function_there : (n : ℕ) (f : the_function.Function) → slice_get a.functions n ≡ Some f → slice_get (module_of a).functions n ≡ Some (function_seen f)
  function_there n f h = ap (λ l. slice_get l n) functions_are ∙ mapped_at function_seen a.functions n f h

  pub alias_there : (n : ℕ) (x : the_alias.Alias) → slice_get a.aliases n ≡ Some x → slice_get (module_of a).aliases n ≡ Some (alias_seen x)
  unfolding module_of
  alias_there n x h = mapped_at alias_seen a.aliases n x h

named_of : {A B : Type 0} (f : A → B) (g : A → Bytes) (h : B → Bytes) (o : Option A) (y : B) → ((x : A) → g x ≡ h (f x)) → option_map f o ≡ Some y → option_map g o ≡ Some (h y)
named_of f g h None y same e = cc
named_of f g h (Some x) y same e = ap (λ n. Some n) (same x ∙ ap h (same_Some (f x) y e))

module _ (a : Lists) where
  -- the names of the module's entries are those of the arena's
  pub variable_named : (n : ℕ) (v : Variable) → slice_get (module_of a).variables n ≡ Some v → global_name a (global.Variable n) ≡ Some v.name
  unfolding module_of
  variable_named n v at = named_of (variable_seen a) (λ (w : the_variable.Variable). w.name) (λ (w : Variable). w.name) (slice_get a.variables n) v (λ x. refl) (sym (slice_get-map (variable_seen a) a.variables n) ∙ at)

  pub function_named : (n : ℕ) (f : Function) → slice_get (module_of a).functions n ≡ Some f → global_name a (global.Function n) ≡ Some f.name
  unfolding module_of
  function_named n f at = named_of (function_seen a) (λ (w : the_function.Function). w.name) (λ (w : Function). w.name) (slice_get a.functions n) f (λ x. refl) (sym (slice_get-map (function_seen a) a.functions n) ∙ at)

  pub alias_named : (n : ℕ) (x : Alias) → slice_get (module_of a).aliases n ≡ Some x → global_name a (global.Alias n) ≡ Some x.name
  unfolding module_of
  alias_named n x at = named_of (alias_seen a) (λ (w : the_alias.Alias). w.name) (λ (w : Alias). w.name) (slice_get a.aliases n) x (λ x. refl) (sym (slice_get-map (alias_seen a) a.aliases n) ∙ at)

-- a definition in its module is one in the arena
pub variable_defined : (a : Lists) (v : the_variable.Variable) → is_definition (entry (OfVariable (variable_seen a v))) ≡ spots.is_defined v
variable_defined a v = ap (λ b. b && not (is_available_externally v.linkage)) (mapped_some _ v.initialiser)

pub function_defined : (a : Lists) (f : the_function.Function) → is_definition (entry (OfFunction (function_seen a f))) ≡ has_code f
function_defined a f = ap (λ b. b && not (is_available_externally f.linkage)) (mapped_some _ f.body)

-- a variable that no one defines
variable_absent : (parts : List Module) (e : Entry) (l : Linkage) → leaf_of parts (symbol_of e) (if is_local l then Unresolved else (if is_extern_weak l then Null else Unresolved)) ≡ absent_leaf l
variable_absent parts e Private = refl
variable_absent parts e Internal = refl
variable_absent parts e l = go (is_extern_weak l)
  where
    go : (b : Bool) → leaf_of parts (symbol_of e) (if b then Null else Unresolved) ≡ (if b then Ptr (pointer_at 0) else Poison)
    go true = refl
    go false = refl

-- the address of a function, by what it is
abbrev pub leaf_by : Scalar → Standing → Scalar
leaf_by there standing.Code = there
leaf_by there (standing.Host row) = there
leaf_by there standing.Null = Ptr (pointer_at 0)
leaf_by there standing.Unresolved = Poison

-- what is told of it as a callee
abbrev pub callee_of : ℕ → Standing → CalleeRef
callee_of n standing.Code = told.Code n
callee_of n (standing.Host row) = told.Host row
callee_of n standing.Null = told.Nothing
callee_of n standing.Unresolved = told.Nothing

module _ (a : Lists) (well_formed : IsWellFormed (module_of a)) (valid : IsValid (module_of a)) where
  abbrev m : Module
  m = module_of a

  abbrev parts : List Module
  parts = m ∷ []

  module _ (n : ℕ) (v : the_variable.Variable) (at : slice_get a.variables n ≡ Some v) where
    abbrev variable_entry : Entry
    variable_entry = entry (OfVariable (variable_seen a v))

    variable_place : slice_get (entries parts) n ≡ Some variable_entry
    variable_place = variable_in m n (variable_seen a v) (variable_there a n v at)

    pub variable_symbol : symbol_in parts 0 v.name ≡ symbol_of variable_entry
    variable_symbol = symbol_in_is m well_formed n variable_entry variable_place refl

    pub variable_home : home parts (symbol_of variable_entry) ≡ (if spots.is_defined v then Some variable_entry else None)
    variable_home =
        own_home parts (module_apart m well_formed) n variable_entry variable_place ∙ ap (λ b. if b then Some variable_entry else None) (variable_defined a v)

    pub variable_behind : behind parts (symbol_of variable_entry) ≡ symbol_of variable_entry
    variable_behind = behind_plain parts (module_apart m well_formed) n variable_entry variable_place refl

    -- the address of a variable
    pub variable_address : address_in parts 0 v.name ≡ (if spots.is_defined v then Ptr (pointer_to parts (symbol_of variable_entry)) else absent_leaf v.linkage)
    variable_address =
        ap (λ s. leaf_of parts s (meaning parts s)) variable_symbol
        ∙ ap (leaf_of parts (symbol_of variable_entry)) (plain_means parts (module_apart m well_formed) n variable_entry variable_place refl)
        ∙ go (is_definition variable_entry)
        ∙ ap (λ b. if b then Ptr (pointer_to parts (symbol_of variable_entry)) else absent_leaf v.linkage) (variable_defined a v)
      where
        array : (b : Bool) → leaf_of parts (symbol_of variable_entry) (if b then Appended (symbol_of variable_entry) else Definition variable_entry) ≡ Ptr (pointer_to parts (symbol_of variable_entry))
        array true = refl
        array false = refl

        go : (b : Bool) → leaf_of parts (symbol_of variable_entry) (if b then (if is_appending v.linkage then Appended (symbol_of variable_entry) else Definition variable_entry) else undefined_here variable_entry)
            ≡ (if b then Ptr (pointer_to parts (symbol_of variable_entry)) else absent_leaf v.linkage)
        go true = array (is_appending v.linkage)
        go false = variable_absent parts variable_entry v.linkage

  module _ (n : ℕ) (f : the_function.Function) (at : slice_get a.functions n ≡ Some f) where
    abbrev function_entry : Entry
    function_entry = entry (OfFunction (function_seen a f))

    function_place : (j : ℕ) × (slice_get (entries parts) j ≡ Some function_entry)
    function_place = function_in m n (function_seen a f) (function_there a n f at)

    pub function_symbol : symbol_in parts 0 f.name ≡ symbol_of function_entry
    function_symbol = symbol_in_is m well_formed function_place.0 function_entry function_place.1 refl

    pub function_home : home parts (symbol_of function_entry) ≡ (if has_code f then Some function_entry else None)
    function_home =
        own_home parts (module_apart m well_formed) function_place.0 function_entry function_place.1 ∙ ap (λ b. if b then Some function_entry else None) (function_defined a f)

    pub function_behind : behind parts (symbol_of function_entry) ≡ symbol_of function_entry
    function_behind = behind_plain parts (module_apart m well_formed) function_place.0 function_entry function_place.1 refl

    -- what a function that is no definition means
    abbrev pub elsewhere_means : Option HostRow → Bool → Bound
    elsewhere_means (Some row) weak = Host f.name
    elsewhere_means None true = Null
    elsewhere_means None false = Unresolved

    not_local : has_code f ≡ false → is_local f.linkage ≡ false
    not_local h = go (is_local f.linkage) refl
      where
        go : (b : Bool) → is_local f.linkage ≡ b → is_local f.linkage ≡ false
        go true e = absurd (true≢false (sym (function_suits m well_formed valid n (function_seen a f) (function_there a n f at) e) ∙ function_defined a f ∙ h))
        go false e = e

    undefined_function : has_code f ≡ false → undefined_here function_entry ≡ elsewhere_means (host_row f.name) (is_extern_weak f.linkage)
    undefined_function h = cond-false (is_local f.linkage) Unresolved _ (not_local h) ∙ go (host_row f.name) (is_extern_weak f.linkage)
      where
        go : (o : Option HostRow) (w : Bool) → (if true && is_some o then Host f.name else (if w then Null else Unresolved)) ≡ elsewhere_means o w
        go (Some row) w = refl
        go None true = refl
        go None false = refl

    pub function_means : meaning parts (symbol_of function_entry) ≡ (if has_code f then Definition function_entry else elsewhere_means (host_row f.name) (is_extern_weak f.linkage))
    function_means =
        plain_means parts (module_apart m well_formed) function_place.0 function_entry function_place.1 refl
        ∙ ap₂ (λ b p. if b then (if p then Appended (symbol_of function_entry) else Definition function_entry) else undefined_here function_entry) (function_defined a f)
        (no_function_appends m well_formed valid n (function_seen a f) (function_there a n f at))
        ∙ go (has_code f) refl
      where
        go : (b : Bool) → has_code f ≡ b → (if b then Definition function_entry else undefined_here function_entry) ≡ (if b then Definition function_entry else elsewhere_means (host_row f.name) (is_extern_weak f.linkage))
        go true h = refl
        go false h = undefined_function h

    -- the address of a function
    pub function_leaf : address_in parts 0 f.name ≡ leaf_by (Ptr (pointer_to parts (symbol_of function_entry))) (function_stands f)
    function_leaf =
        ap (λ s. leaf_of parts s (meaning parts s)) function_symbol ∙ ap (leaf_of parts (symbol_of function_entry)) function_means
        ∙ go (has_code f) (host_row f.name) (is_extern_weak f.linkage)
      where
        go : (b : Bool) (o : Option HostRow) (w : Bool) → leaf_of parts (symbol_of function_entry) (if b then Definition function_entry else elsewhere_means o w)
            ≡ leaf_by (Ptr (pointer_to parts (symbol_of function_entry))) (if b then standing.Code else elsewhere w o)
        go true o w = refl
        go false (Some row) w = refl
        go false None true = refl
        go false None false = refl

    -- ---- as a callee

    function_symbol_at : slice_get (function_symbols parts) n ≡ Some (symbol_of function_entry)
    function_symbol_at =
        ap (λ l. slice_get l n) (function_symbols_are m well_formed (aliases_defined m well_formed valid))
        ∙ mapped_at symbol_of (function_entries m) n function_entry
        (mapped_at entry (map OfFunction m.functions) n (OfFunction (function_seen a f)) (mapped_at OfFunction m.functions n (function_seen a f) (function_there a n f at)))

    pub function_at_is : has_code f ≡ true → function_at parts n ≡ Some (0, function_seen a f)
    function_at_is h =
        ap (option_and_then (defined parts)) function_symbol_at
        ∙ ap (λ s. option_and_then (λ (e : Entry). defined_by e e.global) (home parts s)) function_behind
        ∙ ap (option_and_then (λ (e : Entry). defined_by e e.global)) (function_home ∙ cond-true (has_code f) (Some function_entry) None h)

    pub function_callee : callee_numbered parts n ≡ callee_seen parts (callee_of n (function_stands f))
    function_callee =
        ap (λ o. option_map_or (λ s. callee_by parts n (meaning parts s)) o calls.Nothing) function_symbol_at
        ∙ ap (callee_by parts n) function_means ∙ go (has_code f) refl
      where
        other : (o : Option HostRow) (w : Bool) → host_row f.name ≡ o → callee_by parts n (elsewhere_means o w) ≡ callee_seen parts (callee_of n (elsewhere w o))
        other (Some row) w e = ap (λ o. option_map_or host_of o calls.Nothing) e
        other None true e = refl
        other None false e = refl

        go : (b : Bool) → has_code f ≡ b → callee_by parts n (if b then Definition function_entry else elsewhere_means (host_row f.name) (is_extern_weak f.linkage))
            ≡ callee_seen parts (callee_of n (if b then standing.Code else elsewhere (is_extern_weak f.linkage) (host_row f.name)))
        go true h = sym (ap (λ o. option_map_or (code_of parts n) o calls.Nothing) (function_at_is h))
        go false h = other (host_row f.name) (is_extern_weak f.linkage) refl

  -- no function has that number
  pub no_callee : (n : ℕ) → slice_get a.functions n ≡ None → callee_numbered parts n ≡ calls.Nothing
  no_callee n none =
      ap (λ o. option_map_or (λ s. callee_by parts n (meaning parts s)) o calls.Nothing)
      (ap (λ l. slice_get l n) (function_symbols_are m well_formed (aliases_defined m well_formed valid))
      ∙ none_mapped symbol_of (function_entries m) n
      (none_mapped entry (map OfFunction m.functions) n (none_mapped OfFunction m.functions n (ap (λ l. slice_get l n) (functions_are a) ∙ none_mapped (function_seen a) a.functions n none))))
