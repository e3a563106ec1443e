-- At each place of a function stands the same action in the result, and each address has the same callee.
use Rattle.std.proofs.Common.{◌≡◌, ℕ, Bool, true, false, List, [], ◌∷◌, map, Option, Some, None, refl, ap, ap₂, ◌∙◌, option_map, unwrap_or, option_and_then, sum, flat_map, ◌++◌}
use Rattle.std.specs.Prelude.{slice_get, if◌then◌else◌}
use Rattle.std.specs.Option.{option_map_or}
use Rattle.std.proofs.lemmas.Option.{slice_get-map}
use Rattle.type_table.specs.Layout.{leaves}
use Rattle.module_arena.specs.HostRows.{signature_of}
use Rattle.module_arena.specs.Module.{Bytes, Parameter, Block, Module}
use Rattle.linkage_rules.specs.Bind.{Definition, Appended, Host, Null, Unresolved, bound_to, undefined, behind, meaning}
use Rattle.linkage_rules.specs.Entries.{Entry}
use Rattle.linkage_rules.specs.declared.symbol.Symbol.{Symbol}
use Rattle.linkage_rules.specs.declared.symbol.Symbol.TheVariants.{Shared, Local}
use Rattle.linkage_rules.specs.Globals.{Global, OfVariable, OfFunction, OfAlias, linkage_of}
use Rattle.linkage_rules.specs.Linkages.{is_appending}
use Rattle.linkage_rules.specs.Symbols.{function_symbols}
use Rattle.linkage_rules.specs.Winner.{definitions, home}
use Rattle.link_rules.proofs.Symbols.{home_is}
use Rattle.link_rules.specs.Linked.{linked_block, linked_parameter}
use Rattle.link_rules.specs.Rename.{new_global, new_name_of}
use Rattle.link_rules.specs.Structs.{new_struct, linked_type}
use Rattle.run_rules.specs.Action.{Action}
use Rattle.run_rules.specs.Calls.{Code, Nothing}
use Rattle.run_rules.specs.Constant.{Names, shape_of}
use Rattle.run_rules.specs.Look.{Defined, names_in, defined_by, defined, look_in, look, function_number, code_of, callee_by, callee_numbered, table}
use Rattle.run_rules.specs.Resolve.{signature_in}
use Rattle.run_rules.specs.Scope.{Typed, results_of, blocks_of, scope_of, leaf_count}
use Rattle.run_rules.proofs.OnLaws.SameLook.{ParametersIn, scope_in, same_locals, same_look}
use Rattle.link_rules.specs.Carried.{merged, IsSymbol, carry, moved}
use Rattle.link_rules.specs.Known.{KnownTree, KnownName}
use Rattle.linked_runs.proofs.Known.{IsKnown, Fit}
use Rattle.link_rules.specs.Merges.{Merges}
use Rattle.link_rules.proofs.Searches.{at_all}
use Rattle.link_rules.proofs.Merged.{definition_linkage}
use Rattle.linked_runs.proofs.Places.{behind_is, functions_are}
use Rattle.linked_runs.proofs.SameNames.{meaning_path, agree}

-- a function as it stands in the result
abbrev pub moved_function : List Module → Bytes → Defined → Defined
moved_function parts m d = (
  0,
  record {
    name = m;
    linkage = d.1.linkage;
    returns = linked_type parts d.0 d.1.returns;
    parameters = map (linked_parameter parts d.0) d.1.parameters;
    variadic = d.1.variadic;
    body = option_map (map (linked_block parts d.0)) d.1.body;
  },
)

-- its types and names are known
abbrev pub KnownFunction : List Module → Defined → Type 0
KnownFunction parts d = IsKnown parts d.0 (OfFunction d.1)

pub moved_blocks : (f : Block → Block) (o : Option (List Block)) → unwrap_or (option_map (map f) o) [] ≡ map f (unwrap_or o [])
moved_blocks f None = refl
moved_blocks f (Some bs) = refl

abbrev typed_locals : Names → List Parameter → List Block → List Typed
typed_locals names ps bs = map {B = Typed} (λ (p : Parameter). (p.name, shape_of names p.ty)) ps ++ flat_map (results_of names) bs

module _ (parts : List Module) (fit : Fit parts) (merges : Merges parts) where
  parameters_moved : (i : ℕ) (ps : List Parameter) → ParametersIn (KnownTree parts i) ps
      → map (shape_of (names_in (merged parts) 0)) (map (λ (p : Parameter). p.ty) (map (linked_parameter parts i) ps)) ≡ map (shape_of (names_in parts i)) (map (λ (p : Parameter). p.ty) ps)
  parameters_moved i [] k = refl
  parameters_moved i (p ∷ ps) k = ap₂ (λ x xs. x ∷ xs) ((agree parts fit merges i).same_shape p.ty k.0) (parameters_moved i ps k.1)

  module _ (m : Bytes) (d : Defined) (known : KnownFunction parts d) where
    abbrev new_blocks : List Block
    new_blocks = map (linked_block parts d.0) (blocks_of d.1)

    blocks_moved : blocks_of (moved_function parts m d).1 ≡ new_blocks
    blocks_moved = moved_blocks (linked_block parts d.0) d.1.body

    pub signature_moved : signature_in (names_in (merged parts) 0) (signature_of (moved_function parts m d).1) ≡ signature_in (names_in parts d.0) (signature_of d.1)
    signature_moved =
        λ k. record { returns = (agree parts fit merges d.0).same_shape d.1.returns known.0 k; parameters = parameters_moved d.0 d.1.parameters known.1 k; variadic = d.1.variadic }

    pub look_moved : (block position : ℕ) → look_in (scope_of (names_in (merged parts) 0) (moved_function parts m d).1) block position ≡ look_in (scope_of (names_in parts d.0) d.1) block position
    look_moved block position =
        (λ k. look_in (scope_in (names_in (merged parts) 0) (map (linked_parameter parts d.0) d.1.parameters) (blocks_moved k)) block position)
        ∙ same_look (names_in parts d.0) (names_in (merged parts) 0) (new_struct parts d.0) (new_global parts d.0) (KnownTree parts d.0) (KnownName parts d.0) (agree parts fit merges d.0) d.1.parameters (blocks_of d.1) known.1 known.2 block position

    count_moved : leaf_count (names_in (merged parts) 0) (moved_function parts m d).1 ≡ leaf_count (names_in parts d.0) d.1
    count_moved =
        (λ k. sum (map (λ x. leaves x.1) (typed_locals (names_in (merged parts) 0) (map (linked_parameter parts d.0) d.1.parameters) (blocks_moved k))))
        ∙ ap (λ xs. sum (map (λ x. leaves x.1) xs))
        (same_locals (names_in parts d.0) (names_in (merged parts) 0) (new_struct parts d.0) (new_global parts d.0) (KnownTree parts d.0) (KnownName parts d.0) (agree parts fit merges d.0) d.1.parameters (blocks_of d.1) known.1 known.2)

    pub code_moved : (n : ℕ) → code_of (merged parts) n (moved_function parts m d) ≡ code_of parts n d
    code_moved n = λ k. Code n (signature_moved k) (count_moved k)

  -- what is told of the function of an entry
  pub by_entry : {A : Type 0} (new old : Defined → A) (other : A) → ((m : Bytes) (d : Defined) → KnownFunction parts d → new (moved_function parts m d) ≡ old d)
      → (s : Symbol) (i : ℕ) (g : Global) → IsKnown parts i g
      → option_map_or new (defined_by (moved parts s (record { part = i; global = g })) (moved parts s (record { part = i; global = g })).global) other ≡ option_map_or old (defined_by (record { part = i; global = g }) g) other
  by_entry new old other same s i (OfVariable v) known = refl
  by_entry new old other same s i (OfFunction f) known = same (new_name_of parts s) (i, f) known
  by_entry new old other same s i (OfAlias a) known = refl

  -- and of a symbol
  pub by_symbol : {A : Type 0} (new old : Defined → A) (other : A) → ((m : Bytes) (d : Defined) → KnownFunction parts d → new (moved_function parts m d) ≡ old d)
      → (s : Symbol) → IsSymbol parts s → option_map_or new (defined (merged parts) (carry parts s)) other ≡ option_map_or old (defined parts s) other
  by_symbol new old other same s here =
      (λ k. option_map_or new (option_and_then (λ (e : Entry). defined_by e e.global) (home (merged parts) (merges.behinds s here k))) other)
      ∙ (λ k. option_map_or new (option_and_then (λ (e : Entry). defined_by e e.global) (merges.homes (behind parts s) (behind_is parts fit merges s here) k)) other)
      ∙ by_home (home parts (behind parts s)) refl
    where
      by_home : (o : Option Entry) → home parts (behind parts s) ≡ o
          → option_map_or new (option_and_then (λ (e : Entry). defined_by e e.global) (option_map (moved parts (behind parts s)) o)) other ≡ option_map_or old (option_and_then (λ (e : Entry). defined_by e e.global) o) other
      by_home None h = refl
      by_home (Some e) h = by_entry new old other same (behind parts s) e.part e.global (home_is parts (λ d. IsKnown parts d.part d.global) (behind parts s) e fit.known h).0.0

  -- the same actions
  pub same_actions : (function block position : ℕ) → look (merged parts) function block position ≡ look parts function block position
  same_actions function block position =
      (λ k. option_map_or (λ (d : Defined). look_in (scope_of (names_in (merged parts) d.0) d.1) block position) (option_and_then (defined (merged parts)) (slice_get (merges.functions k) function)) Action.Stuck)
      ∙ ap (λ o. option_map_or (λ (d : Defined). look_in (scope_of (names_in (merged parts) d.0) d.1) block position) (option_and_then (defined (merged parts)) o) Action.Stuck) (slice_get-map (carry parts) (function_symbols parts) function)
      ∙ go (slice_get (function_symbols parts) function) refl
    where
      go : (o : Option Symbol) → slice_get (function_symbols parts) function ≡ o
          → option_map_or (λ (d : Defined). look_in (scope_of (names_in (merged parts) d.0) d.1) block position) (option_and_then (defined (merged parts)) (option_map (carry parts) o)) Action.Stuck
          ≡ option_map_or (λ (d : Defined). look_in (scope_of (names_in parts d.0) d.1) block position) (option_and_then (defined parts) o) Action.Stuck
      go None h = refl
      go (Some s) h =
          by_symbol (λ d. look_in (scope_of (names_in (merged parts) d.0) d.1) block position) (λ d. look_in (scope_of (names_in parts d.0) d.1) block position) Action.Stuck
          (λ m d known. look_moved m d known block position) s (at_all (IsSymbol parts) (function_symbols parts) function s (functions_are parts) h)

  module _ (n : ℕ) where
    undefined_callee : (s : Symbol) → callee_by (merged parts) n (undefined parts s) ≡ callee_by parts n (undefined parts s)
    undefined_callee (Local i name) = refl
    undefined_callee (Shared name) = go name _ _
      where
        go : (name : Bytes) (b c : Bool) → callee_by (merged parts) n (if b then Host name else (if c then Null else Unresolved)) ≡ callee_by parts n (if b then Host name else (if c then Null else Unresolved))
        go name true c = refl
        go name false true = refl
        go name false false = refl

    callee_same : (s : Symbol) → IsSymbol parts s → callee_by (merged parts) n (meaning (merged parts) (carry parts s)) ≡ callee_by parts n (meaning parts s)
    callee_same s here = ap (callee_by (merged parts) n) (meaning_path parts fit merges s here) ∙ by_home (home parts (behind parts s)) refl
      where
        by_home : (o : Option Entry) → home parts (behind parts s) ≡ o
            → callee_by (merged parts) n (bound_to (merged parts) (carry parts (behind parts s)) (option_map (moved parts (behind parts s)) o)) ≡ callee_by parts n (bound_to parts (behind parts s) o)
        by_home None h = ap (callee_by (merged parts) n) (merges.undefined_same (behind parts s) (behind_is parts fit merges s here) h) ∙ undefined_callee (behind parts s)
        by_home (Some e) h =
            (λ k. callee_by (merged parts) n (if is_appending (definition_linkage parts (new_name_of parts (behind parts s)) e (definitions parts (behind parts s)) e.global k) then Appended (carry parts (behind parts s)) else Definition (moved parts (behind parts s) e)))
            ∙ go (is_appending (linkage_of e.global)) (home_is parts (λ d. IsKnown parts d.part d.global) (behind parts s) e fit.known h).0.0
          where
            go : (b : Bool) → IsKnown parts e.part e.global
                → callee_by (merged parts) n (if b then Appended (carry parts (behind parts s)) else Definition (moved parts (behind parts s) e)) ≡ callee_by parts n (if b then Appended (behind parts s) else Definition e)
            go true known = refl
            go false known = by_entry (code_of (merged parts) n) (code_of parts n) Nothing (λ m d k. code_moved m d k n) (behind parts s) e.part e.global known

    numbered_same : callee_numbered (merged parts) n ≡ callee_numbered parts n
    numbered_same =
        (λ k. option_map_or (λ s. callee_by (merged parts) n (meaning (merged parts) s)) (slice_get (merges.functions k) n) Nothing)
        ∙ ap (λ o. option_map_or (λ s. callee_by (merged parts) n (meaning (merged parts) s)) o Nothing) (slice_get-map (carry parts) (function_symbols parts) n)
        ∙ go (slice_get (function_symbols parts) n) refl
      where
        go : (o : Option Symbol) → slice_get (function_symbols parts) n ≡ o
            → option_map_or (λ s. callee_by (merged parts) n (meaning (merged parts) s)) (option_map (carry parts) o) Nothing ≡ option_map_or (λ s. callee_by parts n (meaning parts s)) o Nothing
        go None h = refl
        go (Some s) h = callee_same s (at_all (IsSymbol parts) (function_symbols parts) n s (functions_are parts) h)

  -- and the same callees
  pub same_callees : (address : ℕ) → table (merged parts) address ≡ table parts address
  same_callees address = go (function_number address)
    where
      go : (o : Option ℕ) → option_map_or (callee_numbered (merged parts)) o Nothing ≡ option_map_or (callee_numbered parts) o Nothing
      go None = refl
      go (Some n) = numbered_same n
