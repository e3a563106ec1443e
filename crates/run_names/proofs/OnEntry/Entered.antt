-- The function that a run of a valid module alone begins with.
use Rattle.std.proofs.Common.{◌≡◌, ℕ, ◌<◌, List, [], ◌∷◌, map, filter, length, Bool, true, false, not, ◌&&◌, nat_eq, Option, Some, None, refl, sym, ap, ap₂, ◌∙◌, subst, true≢false}
use Rattle.std.specs.Prelude.{slice_get, option_to_list, unwrap_or, option_and_then, if◌then◌else◌}
use Rattle.std.specs.Bool.{beq}
use Rattle.std.specs.List.{AllByRecursion}
use Rattle.std.specs.Option.{option_map, option_map_or}
use Rattle.std.proofs.lemmas.Bool.{cond-true, cond-false}
use Rattle.std.proofs.lemmas.Option.{same_Some}
use Rattle.ir_eval.specs.declared.value.Pointer.{Pointer}
use Rattle.type_table.specs.Shape.{Shape, Shapes, int_leaf, ptr_leaf, void_leaf, opaque_leaf, array_of, struct_of, all_expanded, body_shape, name_shape, shape}
use Rattle.type_table.specs.Tree.{Tree, Structs, TreeBody, opaque_body, fields, body_of, int, ptr, void, array, struct, named}
use Rattle.type_table.specs.Types.{tree, trees}
use Rattle.type_table.proofs.Rooms.{name_shape-suc}
use Rattle.module_arena.specs.declared.entry.Alias as the_alias
use Rattle.module_arena.specs.declared.entry.Function as the_function
use Rattle.module_arena.specs.declared.entry.GlobalId.{GlobalId}
use Rattle.module_arena.specs.declared.entry.GlobalId.TheVariants as global
use Rattle.module_arena.specs.declared.entry.Parameter.{Parameter}
use Rattle.module_arena.specs.declared.entry.Variable as the_variable
use Rattle.module_arena.specs.HostRows.{signature_of}
use Rattle.module_arena.specs.Lists.{Lists, global_name, name_at}
use Rattle.module_arena.specs.Known.{IsGood, KnowsAlias, HasGlobal, counts}
use Rattle.module_arena.specs.Module.{Bytes, Variable, Function, Alias, Module}
use Rattle.module_arena.specs.TypeTests.{is_integer_of, is_pointer}
use Rattle.module_arena.specs.Valid.{IsValid}
use Rattle.module_arena.specs.Module as modules
use Rattle.module_arena.specs.View.{module_of, parameter_view}
use Rattle.module_arena.specs.WellFormed.{IsWellFormed}
use Rattle.module_arena.proofs.ModuleSet.{map_map}
use Rattle.linkage_rules.specs.Bind.{behind, behind_from}
use Rattle.linkage_rules.specs.declared.symbol.Symbol.{Symbol}
use Rattle.linkage_rules.specs.declared.symbol.Symbol.TheVariants.{Shared, Local}
use Rattle.linkage_rules.specs.Entries.{Entry, entries, same_symbol, symbol_name, symbol_of}
use Rattle.linkage_rules.specs.Globals.{OfVariable, OfFunction, OfAlias, linkage_of, name_of}
use Rattle.linkage_rules.specs.Linkages.{is_local}
use Rattle.linkage_rules.specs.Addresses.{function_address}
use Rattle.linkage_rules.specs.SameShape.{same_shape}
use Rattle.linkage_rules.specs.SymbolLaws.{symbol_exact}
use Rattle.linkage_rules.specs.Winner.{best, home, is_definition}
use Rattle.linkage_rules.proofs.Steps.{all_get}
use Rattle.linkage_rules.proofs.Seen.{get_within}
use Rattle.run_rules.specs.Calls.{same_shape_list}
use Rattle.run_rules.specs.Constant.{Names, shape_of}
use Rattle.run_rules.specs.Look.{Defined, defined, defined_by, names_in, pointer_to}
use Rattle.run_rules.specs.Plan.{Main, main_of}
use Rattle.run_rules.specs.Resolve.{signature_in}
use Rattle.run_names.specs.Spots as spots
use Rattle.run_names.specs.Standings.{has_code}
use Rattle.run_names.specs.Entry.Mains.{function_among, main_by_number, shared_function, unless_local, words_in, words_of}
use Rattle.run_names.specs.Entry.Mains as Told
use Rattle.run_names.proofs.Apart.{none_passes}
use Rattle.run_names.proofs.Asked.{variable_name, function_name, target_there, target_plain}
use Rattle.run_names.proofs.Listed.{all_from_places, mapped_within}
use Rattle.run_names.proofs.OneModule.{entry, entries_have, names_apart, name_of_symbol, one_named, variable_in, function_in, alias_in}
use Rattle.run_names.proofs.Meant.{pointer_behind, IsTarget, target_is, behind_alias}
use Rattle.run_names.proofs.Arena.{variable_named, function_named, alias_named, variable_seen, function_seen, alias_seen, variable_there, function_there, alias_there, variable_home, variable_behind, function_home, function_behind}
use Rattle.run_names.proofs.Lies.{function_pointer}

-- ---- types

-- a test of types that only an integer or a pointer passes
abbrev scalar_kind : (ℕ → Bool) → Bool → Tree → Bool
scalar_kind i q (int w) = i w
scalar_kind i q ptr = q
scalar_kind i q void = false
scalar_kind i q (array n u) = false
scalar_kind i q (struct k ts) = false
scalar_kind i q (named name) = false

module _ (ss : Structs) where
  scalar_test : (p : Shape → Bool) → p void_leaf ≡ false → ((n : ℕ) (s : Shape) → p (array_of n s) ≡ false) → ((l : Option (List ℕ)) (k : Bool) (xs : Shapes) → p (struct_of l k xs) ≡ false)
      → ((l : Option (List ℕ)) → p (opaque_leaf l) ≡ false) → (t : Tree) → p (unwrap_or (shape ss t) void_leaf) ≡ scalar_kind (λ w. p (int_leaf w)) (p ptr_leaf) t
  scalar_test p none arrays structs opaque (int w) = refl
  scalar_test p none arrays structs opaque ptr = refl
  scalar_test p none arrays structs opaque void = none
  scalar_test p none arrays structs opaque (array n u) = go (shape ss u)
    where
      go : (o : Option Shape) → p (unwrap_or (option_map (array_of n) o) void_leaf) ≡ false
      go None = none
      go (Some s) = arrays n s
  scalar_test p none arrays structs opaque (struct k ts) = go (all_expanded (name_shape (λ _. None) (body_of ss) 64) ts)
    where
      go : (o : Option Shapes) → p (unwrap_or (option_map (struct_of None k) o) void_leaf) ≡ false
      go None = none
      go (Some xs) = structs None k xs
  scalar_test p none arrays structs opaque (named name) =
      ap (λ o. p (unwrap_or o void_leaf)) (name_shape-suc (λ _. None) (body_of ss) 63 name) ∙ by (body_of ss name)
    where
      go : (k : Bool) (o : Option Shapes) → p (unwrap_or (option_map (struct_of None k) o) void_leaf) ≡ false
      go k None = none
      go k (Some xs) = structs None k xs

      by : (b : TreeBody) → p (unwrap_or (body_shape (name_shape (λ _. None) (body_of ss) 63) None b) void_leaf) ≡ false
      by opaque_body = opaque None
      by (fields k ts) = go k (all_expanded (name_shape (λ _. None) (body_of ss) 63) ts)

  pub int_test : (width : ℕ) (t : Tree) → same_shape (unwrap_or (shape ss t) void_leaf) (int_leaf width) ≡ is_integer_of width t
  int_test width t = scalar_test (λ s. same_shape s (int_leaf width)) refl (λ n s. refl) (λ l k xs. refl) (λ l. refl) t ∙ go t
    where
      go : (t : Tree) → scalar_kind (λ w. nat_eq w width) false t ≡ is_integer_of width t
      go (int w) = refl
      go _ = refl

  pub pointer_test : (t : Tree) → same_shape (unwrap_or (shape ss t) void_leaf) ptr_leaf ≡ is_pointer t
  pointer_test t = scalar_test (λ s. same_shape s ptr_leaf) refl (λ n s. refl) (λ l k xs. refl) (λ l. refl) t ∙ go t
    where
      go : (t : Tree) → scalar_kind (λ w. false) true t ≡ is_pointer t
      go ptr = refl
      go _ = refl

-- ---- main by its type

-- main at an address, from whether its parameters are words and their array
abbrev main_at : ℕ → Option Bool → Option Main
main_at address o = option_map {U = Main} (λ takes. record { address = address; takes_arguments = takes }) o

pub made_of_some : {A : Type 0} (f : A → Bytes) (o : Option A) (name : Bytes) → option_map f o ≡ Some name → (x : A) × (o ≡ Some x) × (f x ≡ name)
made_of_some f None name h = cc
made_of_some f (Some x) name h = (x, refl, same_Some (f x) name h)

-- main that takes nothing, and main that takes the words
abbrev plain_at : ℕ → Option Main
plain_at address = Some (record { address = address; takes_arguments = false })

abbrev words_at : ℕ → Option Main
words_at address = Some (record { address = address; takes_arguments = true })

-- main by what is found of its type: its result, its parameters, and that these are all
abbrev by_tests : ℕ → Bool → Bool → Bool → Bool → Option Main
by_tests address returns plain words fixed = if returns && (plain && fixed) then plain_at address else (if returns && (words && fixed) then words_at address else None)

never_fits : (address : ℕ) (x y : Bool) → by_tests address true x y false ≡ None
never_fits address true true = refl
never_fits address true false = refl
never_fits address false true = refl
never_fits address false false = refl

two_fit : (address : ℕ) (x y : Bool) → by_tests address true false (x && (y && true)) true ≡ main_at address (if x && y then Some true else None)
two_fit address true true = refl
two_fit address true false = refl
two_fit address false y = refl

one_fits_not : (address : ℕ) (x : Bool) → by_tests address true false (x && false) true ≡ None
one_fits_not address true = refl
one_fits_not address false = refl

more_fit_not : (address : ℕ) (x y : Bool) → by_tests address true false (x && (y && false)) true ≡ None
more_fit_not address true true = refl
more_fit_not address true false = refl
more_fit_not address false y = refl

module _ (names : Names) (types : Lists) (address : ℕ) where
  -- the shapes of parameters
  abbrev shapes_of : List Parameter → List Shape
  shapes_of ps = map (shape_of names) (map (λ (p : Parameter). tree types.table p.ty) ps)

  by_parameters : (b v : Bool) (qs : List Parameter) → by_tests address b (same_shape_list (shapes_of qs) []) (same_shape_list (shapes_of qs) (int_leaf 32 ∷ ptr_leaf ∷ [])) (beq v false) ≡ main_at address (if not v && b then words_in types.table qs else None)
  by_parameters false true qs = refl
  by_parameters false false qs = refl
  by_parameters true true qs = never_fits address (same_shape_list (shapes_of qs) []) (same_shape_list (shapes_of qs) (int_leaf 32 ∷ ptr_leaf ∷ []))
  by_parameters true false [] = refl
  by_parameters true false (count ∷ []) = one_fits_not address (same_shape (shape_of names (tree types.table count.ty)) (int_leaf 32))
  by_parameters true false (count ∷ words ∷ []) =
      ap₂ (λ x y. by_tests address true false (x && (y && true)) true) (int_test names.structs 32 (tree types.table count.ty)) (pointer_test names.structs (tree types.table words.ty))
      ∙ two_fit address (is_integer_of 32 (tree types.table count.ty)) (is_pointer (tree types.table words.ty))
  by_parameters true false (count ∷ words ∷ third ∷ qs) = more_fit_not address (same_shape (shape_of names (tree types.table count.ty)) (int_leaf 32)) (same_shape (shape_of names (tree types.table words.ty)) ptr_leaf)

  -- main by the trees of its type
  typed_so : (result : Tree) (ps : List Parameter) (variadic : Bool)
      → main_of (record { returns = shape_of names result; parameters = shapes_of ps; variadic = variadic }) address
      ≡ main_at address (if not variadic && is_integer_of 32 result then words_in types.table ps else None)
  typed_so result ps variadic =
      ap (λ b. by_tests address b (same_shape_list (shapes_of ps) []) (same_shape_list (shapes_of ps) (int_leaf 32 ∷ ptr_leaf ∷ [])) (beq variadic false)) (int_test names.structs 32 result)
      ∙ by_parameters (is_integer_of 32 result) variadic ps

-- ---- the name main

module _ (a : Lists) (well_formed : IsWellFormed (module_of a)) (valid : IsValid (module_of a)) where
  abbrev m : Module
  m = module_of a

  abbrev parts : List Module
  parts = m ∷ []

  abbrev of_entry : Entry → Option Defined
  of_entry e = defined_by e e.global

  -- a symbol that no entry has is defined nowhere
  no_home : (s : Symbol) → AllByRecursion (λ e. same_symbol s (symbol_of e) ≡ false) (entries parts) → home parts s ≡ None
  no_home s h = ap (λ es. best parts (filter is_definition es)) (none_passes (λ e. same_symbol s (symbol_of e)) (entries parts) h)

  no_home_defined : (s : Symbol) → home parts s ≡ None → defined parts s ≡ None
  no_home_defined s h = ap (λ o. option_and_then of_entry (home parts (behind_from parts s o))) h ∙ ap (option_and_then of_entry) h

  -- an entry of a shared symbol has its name
  named_so : (name : Bytes) (e : Entry) → same_symbol (Shared name) (symbol_of e) ≡ true → name_of e.global ≡ name
  named_so name e h = sym (name_of_symbol e) ∙ ap symbol_name (sym (symbol_exact (Shared name) (symbol_of e) h))

  unlike_from : (name : Bytes) (e : Entry) → (name_of e.global ≡ name → same_symbol (Shared name) (symbol_of e) ≡ true → ⊥) → same_symbol (Shared name) (symbol_of e) ≡ false
  unlike_from name e never = go (same_symbol (Shared name) (symbol_of e)) refl
    where
      go : (b : Bool) → same_symbol (Shared name) (symbol_of e) ≡ b → same_symbol (Shared name) (symbol_of e) ≡ false
      go false q = q
      go true q = absurd (never (named_so name e q) q)

  -- no entry has that name
  pub none_named : (name : Bytes) → ((g : GlobalId) → ¬ (global_name a g ≡ Some name)) → defined parts (Shared name) ≡ None
  none_named name never =
      no_home_defined (Shared name)
      (no_home (Shared name)
      (entries_have m (λ e. same_symbol (Shared name) (symbol_of e) ≡ false) (λ k v at. by_variable k v at) (λ k f at. by_function k f at) (λ k x at. by_alias k x at)))
    where
      by_variable : (k : ℕ) (v : Variable) → slice_get m.variables k ≡ Some v → same_symbol (Shared name) (symbol_of (entry (OfVariable v))) ≡ false
      by_variable k v at = unlike_from name (entry (OfVariable v)) (λ q _. never (global.Variable k) (variable_named a k v at ∙ ap (λ n. Some n) q))

      by_function : (k : ℕ) (f : Function) → slice_get m.functions k ≡ Some f → same_symbol (Shared name) (symbol_of (entry (OfFunction f))) ≡ false
      by_function k f at = unlike_from name (entry (OfFunction f)) (λ q _. never (global.Function k) (function_named a k f at ∙ ap (λ n. Some n) q))

      by_alias : (k : ℕ) (x : Alias) → slice_get m.aliases k ≡ Some x → same_symbol (Shared name) (symbol_of (entry (OfAlias x))) ≡ false
      by_alias k x at = unlike_from name (entry (OfAlias x)) (λ q _. never (global.Alias k) (alias_named a k x at ∙ ap (λ n. Some n) q))

  -- the name of a local entry is shared with none
  local_alone : (name : Bytes) (j : ℕ) (e : Entry) → slice_get (entries parts) j ≡ Some e → name_of e.global ≡ name → is_local (linkage_of e.global) ≡ true → defined parts (Shared name) ≡ None
  local_alone name j e at called local =
      no_home_defined (Shared name)
      (no_home (Shared name)
      (all_from_places (λ d. same_symbol (Shared name) (symbol_of d) ≡ false) (entries parts)
      (λ i d at_d. unlike_from name d (λ q is. never i d at_d q is))))
    where
      shared_never : (d : Entry) → is_local (linkage_of d.global) ≡ true → same_symbol (Shared name) (symbol_of d) ≡ true → ⊥
      shared_never d l h = true≢false (sym h ∙ ap (same_symbol (Shared name)) (cond-true (is_local (linkage_of d.global)) (Local d.part (name_of d.global)) (Shared (name_of d.global)) l))

      never : (i : ℕ) (d : Entry) → slice_get (entries parts) i ≡ Some d → name_of d.global ≡ name → same_symbol (Shared name) (symbol_of d) ≡ true → ⊥
      never i d at_d q is =
          let same : d ≡ e = one_named (entries parts) i j d e (names_apart m well_formed) at_d at (q ∙ sym called) in
          shared_never d (subst (λ (x : Entry). is_local (linkage_of x.global) ≡ true) (sym same) local) is

  shared_symbol : (name : Bytes) (e : Entry) → name_of e.global ≡ name → is_local (linkage_of e.global) ≡ false → symbol_of e ≡ Shared name
  shared_symbol name e called shared = cond-false (is_local (linkage_of e.global)) (Local e.part (name_of e.global)) (Shared (name_of e.global)) shared ∙ ap Shared called

  -- ---- main

  -- main, from the symbol that is behind its name
  abbrev pub main_behind : Symbol → Option Main
  main_behind b = option_and_then {U = Main} (λ (d : Defined). main_of (signature_in (names_in parts d.0) (signature_of d.1)) (pointer_behind parts b).address) (option_and_then of_entry (home parts b))

  variable_main : (n : ℕ) (v : the_variable.Variable) → slice_get a.variables n ≡ Some v → main_behind (symbol_of (entry (OfVariable (variable_seen a v)))) ≡ None
  variable_main n v at =
      let s = symbol_of (entry (OfVariable (variable_seen a v))) in
      ap (λ o. option_and_then {U = Main} (λ (d : Defined). main_of (signature_in (names_in parts d.0) (signature_of d.1)) (pointer_behind parts s).address) (option_and_then of_entry o)) (variable_home a well_formed valid n v at)
      ∙ go (spots.is_defined v)
    where
      go : (b : Bool)
          → option_and_then {U = Main} (λ (d : Defined). main_of (signature_in (names_in parts d.0) (signature_of d.1)) (pointer_behind parts (symbol_of (entry (OfVariable (variable_seen a v))))).address)
          (option_and_then of_entry (if b then Some (entry (OfVariable (variable_seen a v))) else None)) ≡ None
      go true = refl
      go false = refl

  function_main : (n : ℕ) (f : the_function.Function) → slice_get a.functions n ≡ Some f → main_behind (symbol_of (entry (OfFunction (function_seen a f)))) ≡ main_by_number a n
  function_main n f at =
      let pointer = ap (pointer_behind parts) (sym (function_behind a well_formed valid n f at)) ∙ function_pointer a well_formed valid n f at in
      ap₂ (λ o (p : Pointer). option_and_then {U = Main} (λ (d : Defined). main_of (signature_in (names_in parts d.0) (signature_of d.1)) p.address) (option_and_then of_entry o)) (function_home a well_formed valid n f at) pointer
      ∙ go (has_code f)
      ∙ sym (ap (λ o. if option_map_or has_code o false then main_at (function_address n) (option_and_then (words_of a.table) o) else None) at)
    where
      typed : main_of (signature_in (names_in parts 0) (signature_of (function_seen a f))) (function_address n) ≡ main_at (function_address n) (words_of a.table f)
      typed =
          ap (λ l. main_of (record { returns = shape_of (names_in parts 0) (tree a.table f.result); parameters = map (shape_of (names_in parts 0)) l; variadic = f.variadic }) (function_address n))
          (map_map (λ (p : modules.Parameter). p.ty) (parameter_view (trees a.table)) f.parameters)
          ∙ typed_so (names_in parts 0) a (function_address n) (tree a.table f.result) f.parameters f.variadic

      go : (b : Bool)
          → option_and_then {U = Main} (λ (d : Defined). main_of (signature_in (names_in parts d.0) (signature_of d.1)) (function_address n)) (option_and_then of_entry (if b then Some (entry (OfFunction (function_seen a f))) else None))
          ≡ (if b then main_at (function_address n) (words_of a.table f) else None)
      go true = typed
      go false = refl

  -- an entry of a name that is shared with none
  local_main : (name : Bytes) (j : ℕ) (e : Entry) → slice_get (entries parts) j ≡ Some e → name_of e.global ≡ name → is_local (linkage_of e.global) ≡ true → main_behind (behind parts (Shared name)) ≡ None
  local_main name j e at called local =
      ap (option_and_then {U = Main} (λ (d : Defined). main_of (signature_in (names_in parts d.0) (signature_of d.1)) (pointer_to parts (Shared name)).address)) (local_alone name j e at called local)

  module _ (good : IsGood a) where
    target_main : (n : ℕ) (x : the_alias.Alias) (at : slice_get a.aliases n ≡ Some x)
        → main_behind (symbol_of (target_is m well_formed valid n (alias_seen a x) (alias_there a n x at)).one) ≡ option_and_then (main_by_number a) (function_among x.target)
    target_main n x at = go x.target refl
      where
        t : IsTarget m well_formed valid (alias_seen a x).target
        t = target_is m well_formed valid n (alias_seen a x) (alias_there a n x at)

        known : (g : GlobalId) → x.target ≡ Some g → HasGlobal (counts a) g
        known g e =
            all_get (HasGlobal (counts a)) (option_to_list x.target) 0 g (all_get (KnowsAlias (length a.table.types) (counts a)) a.aliases n x good.aliases at).target_known (ap (λ o. slice_get (option_to_list o) 0) e)

        called : (g : GlobalId) → x.target ≡ Some g → name_of t.one.global ≡ name_at a g
        called g e = t.named ∙ ap (λ o. option_map_or (name_at a) o []) e

        go : (o : Option GlobalId) → x.target ≡ o → main_behind (symbol_of t.one) ≡ option_and_then (main_by_number a) (function_among o)
        go None e = absurd (target_there a well_formed valid n x at e)
        go (Some (global.Variable k)) e =
            let v = get_within a.variables k (known (global.Variable k) e) in
            let place = variable_in m k (variable_seen a v.0) (variable_there a k v.0 v.1) in
            let is : t.one ≡ entry (OfVariable (variable_seen a v.0)) = one_named (entries parts) t.place k t.one (entry (OfVariable (variable_seen a v.0))) (names_apart m well_formed) t.at place (called (global.Variable k) e ∙ variable_name a k v.0 v.1) in
            ap (λ (e : Entry). main_behind (symbol_of e)) is ∙ variable_main k v.0 v.1
        go (Some (global.Function k)) e =
            let f = get_within a.functions k (known (global.Function k) e) in
            let place = function_in m k (function_seen a f.0) (function_there a k f.0 f.1) in
            let is : t.one ≡ entry (OfFunction (function_seen a f.0)) = one_named (entries parts) t.place place.0 t.one (entry (OfFunction (function_seen a f.0))) (names_apart m well_formed) t.at place.1 (called (global.Function k) e ∙ function_name a k f.0 f.1) in
            ap (λ (e : Entry). main_behind (symbol_of e)) is ∙ function_main k f.0 f.1
        go (Some (global.Alias k)) e =
            let y = get_within a.aliases k (known (global.Alias k) e) in
            absurd (target_plain a well_formed valid n x at k y.0 y.1 e)

    -- main of the entry with that name
    pub main_is : (name : Bytes) (g : GlobalId) → global_name a g ≡ Some name → main_behind (behind parts (Shared name)) ≡ option_and_then (main_by_number a) (shared_function a g)
    main_is name (global.Variable n) h = by (made_of_some (λ (v : the_variable.Variable). v.name) (slice_get a.variables n) name h)
      where
        by : (r : (v : the_variable.Variable) × (slice_get a.variables n ≡ Some v) × (v.name ≡ name)) → main_behind (behind parts (Shared name)) ≡ None
        by (v, at, called) = go (is_local v.linkage) refl
          where
            own : Entry
            own = entry (OfVariable (variable_seen a v))

            go : (b : Bool) → is_local v.linkage ≡ b → main_behind (behind parts (Shared name)) ≡ None
            go true e = local_main name n own (variable_in m n (variable_seen a v) (variable_there a n v at)) called e
            go false e = ap (λ s. main_behind (behind parts s)) (sym (shared_symbol name own called e)) ∙ ap main_behind (variable_behind a well_formed valid n v at) ∙ variable_main n v at
    main_is name (global.Function n) h = by (made_of_some (λ (f : the_function.Function). f.name) (slice_get a.functions n) name h)
      where
        by : (r : (f : the_function.Function) × (slice_get a.functions n ≡ Some f) × (f.name ≡ name)) → main_behind (behind parts (Shared name)) ≡ option_and_then (main_by_number a) (shared_function a (global.Function n))
        by (f, at, called) = go (is_local f.linkage) refl ∙ sym (ap (λ o. option_and_then (main_by_number a) (option_and_then (unless_local n) o)) at)
          where
            own : Entry
            own = entry (OfFunction (function_seen a f))

            go : (b : Bool) → is_local f.linkage ≡ b → main_behind (behind parts (Shared name)) ≡ option_and_then (main_by_number a) (if is_local f.linkage then None else Some n)
            go true e = let r = function_in m n (function_seen a f) (function_there a n f at) in local_main name r.0 own r.1 called e ∙ sym (ap (λ b. option_and_then (main_by_number a) (if b then None else Some n)) e)
            go false e =
                ap (λ s. main_behind (behind parts s)) (sym (shared_symbol name own called e)) ∙ ap main_behind (function_behind a well_formed valid n f at) ∙ function_main n f at
                ∙ sym (ap (λ b. option_and_then (main_by_number a) (if b then None else Some n)) e)
    main_is name (global.Alias n) h = by (made_of_some (λ (x : the_alias.Alias). x.name) (slice_get a.aliases n) name h)
      where
        by : (r : (x : the_alias.Alias) × (slice_get a.aliases n ≡ Some x) × (x.name ≡ name)) → main_behind (behind parts (Shared name)) ≡ option_and_then (main_by_number a) (shared_function a (global.Alias n))
        by (x, at, called) = go (is_local x.linkage) refl ∙ sym (ap (λ o. option_and_then (main_by_number a) (option_and_then Told.behind_alias o)) at)
          where
            own : Entry
            own = entry (OfAlias (alias_seen a x))

            go : (b : Bool) → is_local x.linkage ≡ b → main_behind (behind parts (Shared name)) ≡ option_and_then (main_by_number a) (if is_local x.linkage then None else function_among x.target)
            go true e = let r = alias_in m n (alias_seen a x) (alias_there a n x at) in local_main name r.0 own r.1 called e ∙ sym (ap (λ b. option_and_then (main_by_number a) (if b then None else function_among x.target)) e)
            go false e =
                ap (λ s. main_behind (behind parts s)) (sym (shared_symbol name own called e)) ∙ ap main_behind (behind_alias m well_formed valid n (alias_seen a x) (alias_there a n x at)) ∙ target_main n x at
                ∙ sym (ap (λ b. option_and_then (main_by_number a) (if b then None else function_among x.target)) e)

  -- no entry has that name
  pub no_main : (name : Bytes) → ((g : GlobalId) → ¬ (global_name a g ≡ Some name)) → main_behind (behind parts (Shared name)) ≡ None
  no_main name never =
      ap (option_and_then {U = Main} (λ (d : Defined). main_of (signature_in (names_in parts d.0) (signature_of d.1)) (pointer_to parts (Shared name)).address)) (none_named name never)

-- ---- what is found

has_named : (a : Lists) (g : GlobalId) (name : Bytes) → global_name a g ≡ Some name → HasGlobal (counts a) g
has_named a (global.Variable n) name h = mapped_within (λ (v : the_variable.Variable). v.name) a.variables n name h
has_named a (global.Function n) name h = mapped_within (λ (f : the_function.Function). f.name) a.functions n name h
has_named a (global.Alias n) name h = mapped_within (λ (x : the_alias.Alias). x.name) a.aliases n name h

module _ (a : Lists) where
  -- an entry that is found by its name is there
  pub found : (g : GlobalId) (name : Bytes) → global_name a g ≡ Some name → HasGlobal (counts a) g
  found g name h = has_named a g name h

  among : (o : Option GlobalId) (id : ℕ) → function_among o ≡ Some id → o ≡ Some (global.Function id)
  among None id h = cc
  among (Some (global.Variable k)) id h = cc
  among (Some (global.Function k)) id h = ap (λ n. Some (global.Function n)) (same_Some k id h)
  among (Some (global.Alias k)) id h = cc

  some_function : (b : Bool) (n id : ℕ) → (if b then None else Some n) ≡ Some id → n ≡ id
  some_function true n id h = cc
  some_function false n id h = same_Some n id h

  some_target : (b : Bool) (o : Option ℕ) (id : ℕ) → (if b then None else o) ≡ Some id → o ≡ Some id
  some_target true o id h = cc
  some_target false o id h = h

  -- so is the function that it is of
  pub shared_there : IsGood a → (g : GlobalId) (id : ℕ) → HasGlobal (counts a) g → shared_function a g ≡ Some id → id < length a.functions
  shared_there good (global.Variable n) id there h = cc
  shared_there good (global.Function n) id there h =
      let f = get_within a.functions n there in
      let same : n ≡ id = some_function (is_local f.0.linkage) n id (sym (ap (option_and_then (unless_local n)) f.1) ∙ h) in
      subst (λ k. k < length a.functions) same there
  shared_there good (global.Alias n) id there h =
      let x = get_within a.aliases n there in
      let target : function_among x.0.target ≡ Some id = some_target (is_local x.0.linkage) (function_among x.0.target) id (sym (ap (option_and_then Told.behind_alias) x.1) ∙ h) in
      all_get (HasGlobal (counts a)) (option_to_list x.0.target) 0 (global.Function id) (all_get (KnowsAlias (length a.table.types) (counts a)) a.aliases n x.0 good.aliases x.1).target_known
      (ap (λ o. slice_get (option_to_list o) 0) (among x.0.target id target))
