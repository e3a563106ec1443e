-- The list of constructors of a valid module: which variable it is, and that its elements are its pieces.
use Rattle.std.proofs.Common.{◌≡◌, ℕ, ◌<◌, option_to_list, arith, List, [], ◌∷◌, ◌++◌, map, filter, flat_map, length, Bool, true, false, not, ◌&&◌, ◌||◌, Option, Some, None, is_some, append-nil, refl, sym, ap, ◌∙◌, subst, true≢false}
use Rattle.std.specs.Prelude.{All, codes, slice_get, if◌then◌else◌}
use Rattle.std.specs.Option.{option_map, option_map_or}
use Rattle.std.proofs.lemmas.Bool.{and_parts, cond-true, cond-false}
use Rattle.std.proofs.lemmas.Option.{same_Some, slice_get_within}
use Rattle.module_arena.specs.declared.constant.Const.{Const}
use Rattle.module_arena.specs.declared.constant.Const.TheVariants as const
use Rattle.module_arena.specs.declared.constant.TypedConst.{TypedConst}
use Rattle.module_arena.specs.declared.entry.Alias as the_alias
use Rattle.module_arena.specs.declared.entry.Function as the_function
use Rattle.module_arena.specs.declared.entry.GlobalId.{GlobalId}
use Rattle.module_arena.specs.declared.entry.GlobalId.TheVariants as global
use Rattle.module_arena.specs.declared.entry.Variable as the_variable
use Rattle.ir_tables.specs.declared.linkage.Linkage.{Linkage}
use Rattle.ir_tables.specs.declared.linkage.Linkage.TheVariants.{Appending}
use Rattle.module_arena.specs.Changes.{constant_in}
use Rattle.module_arena.specs.EntryRules as rules
use Rattle.module_arena.specs.HostRows.{host_row, is_declared_as}
use Rattle.module_arena.specs.Known.{IsGood, KnowsVariable}
use Rattle.module_arena.specs.Lists.{Lists, global_name}
use Rattle.module_arena.specs.Module.{Bytes, Constant, Variable, Function, Alias, Module}
use Rattle.module_arena.specs.Valid.{IsValid}
use Rattle.module_arena.specs.View.{brackets_view, module_of}
use Rattle.module_arena.specs.WellFormed.{IsWellFormed}
use Rattle.module_arena.proofs.ConstantsTold.{const_known, constant_here}
use Rattle.module_arena.proofs.Parts.{valid_alias, valid_function, valid_variable}
use Rattle.linkage_rules.specs.declared.symbol.Symbol.TheVariants.{Shared, Local}
use Rattle.linkage_rules.specs.Entries.{Entry, entries, entries_of, same_symbol, symbol_name, symbol_of}
use Rattle.linkage_rules.specs.Globals.{OfVariable, OfFunction, OfAlias, name_of}
use Rattle.linkage_rules.specs.Linkages.{is_appending, is_available_externally, is_local}
use Rattle.linkage_rules.specs.SymbolLaws.{symbol_exact}
use Rattle.linkage_rules.specs.Winner.{best, definitions, home, is_definition}
use Rattle.linkage_rules.specs.Contents.Contents.{ContentPiece, elements_in, pieces, pieces_by, pieces_of_constants, whole}
use Rattle.linkage_rules.specs.Contents.Contents as contents
use Rattle.run_initial.proofs.OnConstants.Sounds.{all_parts, list_sound}
use Rattle.run_initial.specs.Constants.Sound.{IsSound, constant_of, constants_with_types}
use Rattle.run_names.proofs.Apart.{none_passes, own_entries}
use Rattle.run_names.proofs.Arena.{alias_named, alias_seen, alias_there, function_named, function_seen, function_there, variable_defined, variable_home, variable_named, variable_seen, variable_there}
use Rattle.run_names.proofs.Listed.{mapped_within}
use Rattle.run_names.proofs.OneModule.{entries_have, entry, module_apart, name_of_symbol, variable_in}
use Rattle.run_names.specs.Spots.{is_defined}
use Rattle.run_rules.specs.Plan.{constructors_symbol}
use Rattle.run_initial.proofs.OnContents.Holdings.{sound}
use Rattle.ir_run.specs.Constructors.{AreElements, elements_of, piece_of}
use Rattle.type_table.specs.Tree.{Tree}
use Rattle.type_table.specs.Types.{tree}
use Rattle.linkage_rules.proofs.Steps.{all_get}
use Rattle.linkage_rules.proofs.ValidParts.{same_appending}
use Rattle.run_names.proofs.OnEntry.Entered.{made_of_some}

-- the name of the list
abbrev pub list_name : Bytes
list_name = codes "llvm.global_ctors"

-- ---- what rules say of the name

first_so : (b c : Bool) → ((b && c) || false) ≡ true → b ≡ true
first_so true c h = refl
first_so false c h = absurd (true≢false (sym h))

appending_shared : (l : Linkage) → is_appending l ≡ true → is_local l ≡ false
appending_shared Appending h = refl
appending_shared _ h = absurd (true≢false (sym h))

appending_counts : (l : Linkage) → is_appending l ≡ true → is_available_externally l ≡ false
appending_counts Appending h = refl
appending_counts _ h = absurd (true≢false (sym h))

no_host : host_row list_name ≡ None
unfolding host_row
no_host = refl

-- a variable with the name appends
variable_appends : (m : Module) (v : Variable) → v.name ≡ list_name → rules.variable_name_suits m v ≡ true → rules.is_appending v.linkage ≡ true
variable_appends m v called h =
    first_so (rules.is_appending v.linkage) (rules.is_array_of rules.constructor_type v.ty && rules.lists_constructors m v.initialiser)
    (subst (λ (n : Bytes). rules.variable_name_suits m (record v { name = n }) ≡ true) called h)

-- a function and an alias may not have it
function_never : (f : Function) → f.name ≡ list_name → rules.function_name_suits f ≡ true → ⊥
function_never f called h =
    true≢false
    (sym (subst (λ (n : Bytes). (not (rules.is_llvm_name n) || option_map_or (λ row. is_declared_as row f) (host_row n) false) ≡ true) called h)
    ∙ ap (λ o. option_map_or (λ row. is_declared_as row f) o false) no_host)

alias_never : (m : Module) (x : Alias) → x.name ≡ list_name → rules.alias_names_suit m x ≡ true → ⊥
alias_never m x called h =
    let plain = (and_parts (not (rules.is_llvm_name x.name)) (not (rules.is_only_called m x.target)) h).0 in
    true≢false (sym (subst (λ (n : Bytes). not (rules.is_llvm_name n) ≡ true) called plain))

-- what is named is there, and so is its initialiser
pub variable_within : (a : Lists) (id : ℕ) (name : Bytes) → global_name a (global.Variable id) ≡ Some name → id < length a.variables
variable_within a id name h = mapped_within (λ (v : the_variable.Variable). v.name) a.variables id name h

pub initialiser_within : (a : Lists) (id number : ℕ) (v : the_variable.Variable) → IsGood a → slice_get a.variables id ≡ Some v → v.initialiser ≡ Some number → number < length a.constants
initialiser_within a id number v good at has =
    let known = all_get (KnowsVariable (length a.table.types) (length a.constants)) a.variables id v good.variables at in
    subst (λ (o : Option ℕ). All (λ (n : ℕ). n < length a.constants) (option_to_list o)) has known.initialiser_known 0 number (omega arith)

-- the pieces of a list in brackets
pieces_seen : (a : Lists) (es : List TypedConst) → map (piece_of a) es ≡ pieces_of_constants 0 (constants_with_types a es)
pieces_seen a [] = refl
pieces_seen a (c ∷ cs) = ap (λ (l : List ContentPiece). piece_of a c ∷ l) (pieces_seen a cs)

module _ (a : Lists) (well_formed : IsWellFormed (module_of a)) (valid : IsValid (module_of a)) where
  abbrev m : Module
  m = module_of a

  abbrev parts : List Module
  parts = m ∷ []

  -- what is held by the list, from its entries and where it is defined
  abbrev held_by : List Entry → Option Entry → List ContentPiece
  held_by es o = option_map_or (λ e. pieces_by e es) o []

  -- ---- no such list

  named_so : (e : Entry) → same_symbol (Shared list_name) (symbol_of e) ≡ true → name_of e.global ≡ list_name
  named_so e h = sym (name_of_symbol e) ∙ ap symbol_name (sym (symbol_exact (Shared list_name) (symbol_of e) h))

  unlike_from : (e : Entry) → (name_of e.global ≡ list_name → ⊥) → same_symbol (Shared list_name) (symbol_of e) ≡ false
  unlike_from e never = go (same_symbol (Shared list_name) (symbol_of e)) refl
    where
      go : (b : Bool) → same_symbol (Shared list_name) (symbol_of e) ≡ b → same_symbol (Shared list_name) (symbol_of e) ≡ false
      go false q = q
      go true q = absurd (never (named_so e q))

  none_listed : ((g : GlobalId) → ¬ (global_name a g ≡ Some list_name)) → AreElements a None
  none_listed never = ap (λ (es : List Entry). held_by (filter is_definition es) (best parts (filter is_definition es))) none
    where
      none : entries_of parts (Shared list_name) ≡ []
      none =
          none_passes (λ e. same_symbol (Shared list_name) (symbol_of e)) (entries parts)
          (entries_have m (λ e. same_symbol (Shared list_name) (symbol_of e) ≡ false)
          (λ k v at. unlike_from (entry (OfVariable v)) (λ q. never (global.Variable k) (variable_named a k v at ∙ ap (λ (n : Bytes). Some n) q)))
          (λ k f at. unlike_from (entry (OfFunction f)) (λ q. never (global.Function k) (function_named a k f at ∙ ap (λ (n : Bytes). Some n) q)))
          (λ k x at. unlike_from (entry (OfAlias x)) (λ q. never (global.Alias k) (alias_named a k x at ∙ ap (λ (n : Bytes). Some n) q))))

  no_function : (id : ℕ) → global_name a (global.Function id) ≡ Some list_name → ⊥
  no_function id h = by (made_of_some (λ (f : the_function.Function). f.name) (slice_get a.functions id) list_name h)
    where
      by : (r : (f : the_function.Function) × (slice_get a.functions id ≡ Some f) × (f.name ≡ list_name)) → ⊥
      by (f, at, called) = function_never (function_seen a f) called (valid_function m id (function_seen a f) valid (function_there a id f at)).1.1.1.0

  no_alias : (id : ℕ) → global_name a (global.Alias id) ≡ Some list_name → ⊥
  no_alias id h = by (made_of_some (λ (x : the_alias.Alias). x.name) (slice_get a.aliases id) list_name h)
    where
      by : (r : (x : the_alias.Alias) × (slice_get a.aliases id ≡ Some x) × (x.name ≡ list_name)) → ⊥
      by (x, at, called) = alias_never m (alias_seen a x) called (valid_alias m id (alias_seen a x) valid (alias_there a id x at)).1.1.1.0

  -- ---- the variable of that name

  module _ (id : ℕ) (v : the_variable.Variable) (at : slice_get a.variables id ≡ Some v) (called : v.name ≡ list_name) where
    abbrev own : Entry
    own = entry (OfVariable (variable_seen a v))

    appends : is_appending v.linkage ≡ true
    appends =
        same_appending v.linkage
        ∙ variable_appends m (variable_seen a v) called
        (and_parts (rules.variable_name_suits m (variable_seen a v)) _ (valid_variable m id (variable_seen a v) valid (variable_there a id v at)).1.1.1.0).0

    symbol : symbol_of own ≡ constructors_symbol
    symbol =
        cond-false (is_local v.linkage) (Local 0 v.name) (Shared v.name) (appending_shared v.linkage appends)
        ∙ ap (λ (n : Bytes). Shared n) called

    home_is : home parts constructors_symbol ≡ (if is_defined v then Some own else None)
    home_is = ap (home parts) (sym symbol) ∙ variable_home a well_formed valid id v at

    -- it is declared only
    pub not_written : v.initialiser ≡ None → AreElements a None
    not_written has =
        let declared : is_defined v ≡ false = ap (λ (o : Option ℕ). is_some o && not (is_available_externally v.linkage)) has in
        ap (held_by (definitions parts constructors_symbol)) (home_is ∙ cond-false (is_defined v) (Some own) None declared)

    module _ (number : ℕ) (has : v.initialiser ≡ Some number) where
      defined : is_defined v ≡ true
      defined = ap (λ (o : Option ℕ). is_some o && not (is_available_externally v.linkage)) has ∙ ap not (appending_counts v.linkage appends)

      definitions_are : definitions parts constructors_symbol ≡ own ∷ []
      definitions_are =
          ap (definitions parts) (sym symbol)
          ∙ ap (filter is_definition) (own_entries parts (module_apart m well_formed) id own (variable_in m id (variable_seen a v) (variable_there a id v at)))
          ∙ cond-true (is_definition own) (own ∷ []) [] (variable_defined a v ∙ defined)

      -- its pieces are the elements of its initialiser
      pieces_are : pieces parts constructors_symbol ≡ contents.elements_of 0 (constant_of a number)
      pieces_are =
          ap (held_by (definitions parts constructors_symbol)) (home_is ∙ cond-true (is_defined v) (Some own) None defined)
          ∙ ap (pieces_by own) definitions_are
          ∙ cond-true (is_appending v.linkage) (flat_map elements_in (own ∷ [])) (whole own) appends
          ∙ ap (λ (o : Option Constant). option_map_or (contents.elements_of 0) o [] ++ []) (ap (option_map (constant_of a)) has)
          ∙ append-nil (contents.elements_of 0 (constant_of a number))

      module _ (good : IsGood a) where
        told : (known : Const) → slice_get a.constants number ≡ Some known → pieces parts constructors_symbol ≡ contents.elements_of 0 (constant_in a known)
        told known there = pieces_are ∙ ap (contents.elements_of 0) (constant_here a good number known there)

        pub written : (known : Const) → slice_get a.constants number ≡ Some known → AreElements a (elements_of known)
        written (const.Aggregate round es) there =
            let t : Tree = tree a.table v.ty in
            let s : IsSound m t (constant_in a (const.Aggregate round es)) = subst (IsSound m t) (constant_here a good number (const.Aggregate round es) there) (sound a well_formed valid id v at defined number has) in
            let known = const_known a good number (const.Aggregate round es) there in (
              pieces_seen a es ∙ sym (told (const.Aggregate round es) there),
              all_parts a number es (slice_get_within a.constants number (const.Aggregate round es) there) known.typed_known (list_sound m t (brackets_view round) (constants_with_types a es) s),
            )
        written k there = told k there

  -- ---- by what is found of the name

  called_so : (id : ℕ) (v : the_variable.Variable) → global_name a (global.Variable id) ≡ Some list_name → slice_get a.variables id ≡ Some v → v.name ≡ list_name
  called_so id v named at = same_Some v.name list_name (sym (ap (option_map (λ (x : the_variable.Variable). x.name)) at) ∙ named)

  pub by_variable : IsGood a → (id number : ℕ) (v : the_variable.Variable) (known : Const) → global_name a (global.Variable id) ≡ Some list_name → slice_get a.variables id ≡ Some v → v.initialiser ≡ Some number → slice_get a.constants number ≡ Some known → AreElements a (elements_of known)
  by_variable good id number v known named at has there = written id v at (called_so id v named at) number has good known there

  pub by_declaration : (id : ℕ) (v : the_variable.Variable) → global_name a (global.Variable id) ≡ Some list_name → slice_get a.variables id ≡ Some v → v.initialiser ≡ None → AreElements a None
  by_declaration id v named at has = not_written id v at (called_so id v named at) has

  pub by_function : (id : ℕ) → global_name a (global.Function id) ≡ Some list_name → AreElements a None
  by_function id h = absurd (no_function id h)

  pub by_alias : (id : ℕ) → global_name a (global.Alias id) ≡ Some list_name → AreElements a None
  by_alias id h = absurd (no_alias id h)

  pub by_none : ((g : GlobalId) → ¬ (global_name a g ≡ Some list_name)) → AreElements a None
  by_none never = none_listed never
