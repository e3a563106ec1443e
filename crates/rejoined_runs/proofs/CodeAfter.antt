-- Each function has the same actions, and each address the same callee, where the first parts are
-- one.
use Rattle.std.proofs.Common.{◌≡◌, ℕ, suc, ◌-◌, ◌<◌, ◌≤◌, Bool, true, false, List, [], ◌∷◌, ◌++◌, map, length, Option, Some, None, refl, sym, ap, ap₂, ◌∙◌, subst, option_map, option_and_then, sum, flat_map, nat_lt, arith}
use Rattle.std.specs.Prelude.{slice_get, if◌then◌else◌}
use Rattle.std.specs.Option.{option_map_or}
use Rattle.std.specs.List.{AllByRecursion}
use Rattle.std.proofs.lemmas.Option.{slice_get-map}
use Rattle.type_table.specs.Layout.{leaves}
use Rattle.module_arena.specs.HostRows.{signature_of}
use Rattle.module_arena.specs.Module.{Bytes, Parameter, Block, Module}
use Rattle.linkage_rules.specs.Addresses.{room}
use Rattle.linkage_rules.specs.Bind.{Definition, Appended, Host, Null, Unresolved, bound_to, undefined, behind, meaning}
use Rattle.linkage_rules.specs.Entries.{Entry, entries}
use Rattle.linkage_rules.specs.Globals.{Global, OfVariable, OfFunction, OfAlias, linkage_of}
use Rattle.linkage_rules.specs.Linkages.{is_appending}
use Rattle.linkage_rules.specs.declared.symbol.Symbol.{Symbol}
use Rattle.linkage_rules.specs.declared.symbol.Symbol.TheVariants.{Shared, Local}
use Rattle.linkage_rules.specs.Symbols.{variable_symbols, function_symbols}
use Rattle.linkage_rules.specs.Winner.{definitions, home}
use Rattle.linkage_rules.proofs.Entries.{all_follow}
use Rattle.linkage_rules.proofs.Gathered.{all_joined}
use Rattle.link_rules.specs.Carried.{IsSymbol, moved}
use Rattle.link_rules.specs.Known.{KnownName, KnownTree}
use Rattle.link_rules.specs.Linked.{linked_block, linked_parameter}
use Rattle.link_rules.specs.Rename.{new_name_of, new_global}
use Rattle.link_rules.specs.Structs.{new_struct}
use Rattle.link_rules.proofs.Merged.{definition_linkage}
use Rattle.link_rules.proofs.Searches.{at_all}
use Rattle.link_rules.proofs.Symbols.{home_is}
use Rattle.linked_runs.proofs.Known.{IsKnown}
use Rattle.linked_runs.proofs.Places.{functions_are, behind_is}
use Rattle.linked_runs.proofs.SameCode.{moved_function, KnownFunction, moved_blocks}
use Rattle.run_rules.specs.Action.{Action}
use Rattle.run_rules.specs.Calls.{Code, Nothing}
use Rattle.run_rules.specs.Constant.{Names, shape_of}
use Rattle.run_rules.specs.Look.{Defined, names_in, defined_by, defined, look_in, look, function_number, code_of, callee_by, callee_numbered, table}
use Rattle.run_rules.specs.Resolve.{signature_in}
use Rattle.run_rules.specs.Scope.{Typed, results_of, blocks_of, scope_of, leaf_count}
use Rattle.run_rules.proofs.OnLaws.SameConstants.{Agree}
use Rattle.run_rules.proofs.OnLaws.SameLook.{ParametersIn, scope_in, same_locals, same_look}
use Rattle.rejoined_runs.specs.Regrouped.{symbol_after, entry_after}
use Rattle.rejoined_runs.proofs.Homes.{Ready, old, new, later, entries_old, later_all, below, not_below}
use Rattle.rejoined_runs.proofs.PlacesAfter.{Both, meaning_path, first_agree, later_same}

abbrev typed_locals : Names → List Parameter → List Block → List Typed
typed_locals names ps bs =
    map {B = Typed} (λ (p : Parameter). (p.name, shape_of names p.ty)) ps ++ flat_map
    (results_of names) bs

-- A FUNCTION OF A FIRST PART

module _ (a : List Module) (m : Bytes) (d : Defined) (known : KnownFunction a d)
    (before after : Names)
    (agree : Agree before after (new_struct a d.0) (new_global a d.0) (KnownTree a d.0)
    (KnownName a d.0)) where
  parameters_moved : (ps : List Parameter) → ParametersIn (KnownTree a d.0) ps
      → map (shape_of after) (map (λ (p : Parameter). p.ty) (map (linked_parameter a d.0) ps))
      ≡ map (shape_of before) (map (λ (p : Parameter). p.ty) ps)
  parameters_moved [] k = refl
  parameters_moved (p ∷ ps) k =
      ap₂ (λ x xs. x ∷ xs) (agree.same_shape p.ty k.0) (parameters_moved ps k.1)

  abbrev new_blocks : List Block
  new_blocks = map (linked_block a d.0) (blocks_of d.1)

  blocks_moved : blocks_of (moved_function a m d).1 ≡ new_blocks
  blocks_moved = moved_blocks (linked_block a d.0) d.1.body

  pub signature_moved : signature_in after (signature_of (moved_function a m d).1)
      ≡ signature_in before (signature_of d.1)
  signature_moved =
      λ k. record {
        returns = agree.same_shape d.1.returns known.0 k;
        parameters =
            parameters_moved d.1.parameters known.1 k;
        variadic = d.1.variadic;
      }

  pub look_moved : (block position : ℕ)
      → look_in (scope_of after (moved_function a m d).1) block position
      ≡ look_in (scope_of before d.1) block position
  look_moved block position =
      (λ k. look_in
      (scope_in after (map (linked_parameter a d.0) d.1.parameters)
      (blocks_moved k)) block position)
      ∙ same_look before after (new_struct a d.0) (new_global a d.0) (KnownTree a d.0)
      (KnownName a d.0) agree d.1.parameters (blocks_of d.1) known.1 known.2 block position

  pub count_moved : leaf_count after (moved_function a m d).1 ≡ leaf_count before d.1
  count_moved =
      (λ k. sum
      (map (λ x. leaves x.1)
      (typed_locals after (map (linked_parameter a d.0) d.1.parameters) (blocks_moved k))))
      ∙ ap (λ xs. sum (map (λ x. leaves x.1) xs))
      (same_locals before after (new_struct a d.0) (new_global a d.0) (KnownTree a d.0)
      (KnownName a d.0) agree d.1.parameters (blocks_of d.1) known.1 known.2)

-- ALL FUNCTIONS

module _ (a b : List Module) (ready : Ready a) (both : Both a b)
    (rooms_kept : AllByRecursion (λ s. room (new a b) (symbol_after a s) ≡ room (old a b) s)
    (variable_symbols (old a b))) where
  -- what is known of an entry of a first part
  abbrev KnownFirst : Entry → Type 0
  KnownFirst e = e.part < length a → IsKnown a e.part e.global

  too_low : (i : ℕ) → length a ≤ i → i < length a → ⊥
  too_low i h k = omega arith

  pub known_first : AllByRecursion KnownFirst (entries (old a b))
  known_first =
      subst (AllByRecursion KnownFirst) (sym (entries_old a b))
      (all_joined KnownFirst (entries a) (later a b)
      (all_follow _ KnownFirst (entries a) (λ e k h. k) both.first.known)
      (all_follow _ KnownFirst (later a b) (λ e low h. absurd (too_low e.part low h))
      (later_all a b)))

  -- a fact of each function in its new part is the fact of it in its old one
  pub record AlikeOfEach {A : Type 0} (fact old_fact : Defined → A) : Type 0 where
    pub first : (m : Bytes) (d : Defined) → d.0 < length a → KnownFunction a d
        → fact (moved_function a m d) ≡ old_fact d
    pub behind : (d : Defined) → length a ≤ d.0 → fact (suc (d.0 - length a), d.1) ≡ old_fact d

  by_entry : {A : Type 0} (fact old_fact : Defined → A) (other : A) → AlikeOfEach fact old_fact
      → (s : Symbol) (i : ℕ) (g : Global) → (i < length a → IsKnown a i g)
      → option_map_or fact
      (defined_by (entry_after a s (record { part = i; global = g }))
      (entry_after a s (record { part = i; global = g })).global) other
      ≡ option_map_or old_fact (defined_by (record { part = i; global = g }) g) other
  by_entry fact old_fact other same s i g known = go (nat_lt i (length a)) refl
    where
      first_entry : (g : Global) → i < length a → IsKnown a i g
          → option_map_or fact
          (defined_by (moved a s (record { part = i; global = g }))
          (moved a s (record { part = i; global = g })).global) other
          ≡ option_map_or old_fact (defined_by (record { part = i; global = g }) g) other
      first_entry (OfVariable v) h k = refl
      first_entry (OfFunction f) h k = same.first (new_name_of a s) (i, f) h k
      first_entry (OfAlias x) h k = refl

      later_entry : (g : Global) → length a ≤ i
          → option_map_or fact
          (defined_by (record { part = suc (i - length a); global = g }) g) other
          ≡ option_map_or old_fact (defined_by (record { part = i; global = g }) g) other
      later_entry (OfVariable v) h = refl
      later_entry (OfFunction f) h = same.behind (i, f) h
      later_entry (OfAlias x) h = refl

      go : (c : Bool) → nat_lt i (length a) ≡ c
          → option_map_or fact
          (defined_by
          (if c then moved a s (record { part = i; global = g }) else record {
            part =
                suc (i - length a);
            global = g;
          })
          (if c then moved a s
          (record { part = i; global = g }) else record {
            part =
                suc (i - length a);
            global = g;
          }).global) other
          ≡ option_map_or old_fact (defined_by (record { part = i; global = g }) g) other
      go true t = let low = below i (length a) t in first_entry g low (known low)
      go false t = later_entry g (not_below i (length a) t)

  pub by_symbol : {A : Type 0} (fact old_fact : Defined → A) (other : A) → AlikeOfEach fact old_fact
      → (s : Symbol) → IsSymbol (old a b) s
      → option_map_or fact (defined (new a b) (symbol_after a s)) other
      ≡ option_map_or old_fact (defined (old a b) s) other
  by_symbol fact old_fact other same s here =
      (λ k. option_map_or fact
      (option_and_then (λ (e : Entry). defined_by e e.global)
      (home (new a b) (both.regroups.behinds s here k))) other)
      ∙ (λ k. option_map_or fact
      (option_and_then (λ (e : Entry). defined_by e e.global)
      (both.regroups.homes (behind (old a b) s)
      (behind_is (old a b) both.fit both.merges s here) k)) other)
      ∙ by_home (home (old a b) (behind (old a b) s)) refl
    where
      by_home : (o : Option Entry) → home (old a b) (behind (old a b) s) ≡ o
          → option_map_or fact
          (option_and_then (λ (e : Entry). defined_by e e.global)
          (option_map (entry_after a (behind (old a b) s)) o)) other
          ≡ option_map_or old_fact
          (option_and_then (λ (e : Entry). defined_by e e.global) o) other
      by_home None h = refl
      by_home (Some e) h =
          by_entry fact old_fact other same (behind (old a b) s) e.part e.global
          (home_is (old a b) KnownFirst (behind (old a b) s) e known_first h).0.0

  pub same_linkage : (s : Symbol) (e : Entry)
      → linkage_of (entry_after a s e).global ≡ linkage_of e.global
  same_linkage s e = go (nat_lt e.part (length a))
    where
      go : (c : Bool)
          → linkage_of
          (if c then moved a s e else record {
            part = suc (e.part - length a);
            global =
                e.global;
          }).global ≡ linkage_of e.global
      go true = definition_linkage a (new_name_of a s) e (definitions a s) e.global
      go false = refl

  look_alike : (block position : ℕ)
      → AlikeOfEach (λ d. look_in (scope_of (names_in (new a b) d.0) d.1) block position)
      (λ d. look_in (scope_of (names_in (old a b) d.0) d.1) block position)
  look_alike block position = record {
    first = λ m d h known. look_moved a m d known (names_in (old a b) d.0) (names_in (new a b) 0)
        (first_agree a b both rooms_kept d.0 h) block position;
    behind = λ d h k. look_in
        (scope_of (later_same a b both rooms_kept ready d.0 h k) d.1) block position;
  }

  -- the same actions
  pub same_actions : (function block position : ℕ)
      → look (new a b) function block position ≡ look (old a b) function block position
  same_actions function block position =
      (λ k. option_map_or
      (λ (d : Defined). look_in (scope_of (names_in (new a b) d.0) d.1) block position)
      (option_and_then (defined (new a b))
      (slice_get (both.regroups.functions k) function)) Action.Stuck)
      ∙ ap (λ o. option_map_or
      (λ (d : Defined). look_in (scope_of (names_in (new a b) d.0) d.1) block position)
      (option_and_then (defined (new a b)) o) Action.Stuck)
      (slice_get-map (symbol_after a) (function_symbols (old a b)) function)
      ∙ go (slice_get (function_symbols (old a b)) function) refl
    where
      go : (o : Option Symbol) → slice_get (function_symbols (old a b)) function ≡ o
          → option_map_or
          (λ (d : Defined). look_in (scope_of (names_in (new a b) d.0) d.1) block position)
          (option_and_then (defined (new a b)) (option_map (symbol_after a) o)) Action.Stuck
          ≡ option_map_or
          (λ (d : Defined). look_in (scope_of (names_in (old a b) d.0) d.1) block position)
          (option_and_then (defined (old a b)) o) Action.Stuck
      go None h = refl
      go (Some s) h =
          by_symbol (λ d. look_in (scope_of (names_in (new a b) d.0) d.1) block position)
          (λ d. look_in (scope_of (names_in (old a b) d.0) d.1) block position) Action.Stuck
          (look_alike block position) s
          (at_all (IsSymbol (old a b)) (function_symbols (old a b)) function s
          (functions_are (old a b)) h)

  module _ (n : ℕ) where
    code_alike : AlikeOfEach (code_of (new a b) n) (code_of (old a b) n)
    code_alike = record {
      first = λ m d h known k. Code n
          (signature_moved a m d known (names_in (old a b) d.0) (names_in (new a b) 0)
          (first_agree a b both rooms_kept d.0 h) k)
          (count_moved a m d known (names_in (old a b) d.0) (names_in (new a b) 0)
          (first_agree a b both rooms_kept d.0 h) k);
      behind = λ d h k. Code n
          (signature_in (later_same a b both rooms_kept ready d.0 h k) (signature_of d.1))
          (leaf_count (later_same a b both rooms_kept ready d.0 h k) d.1);
    }

    undefined_callee : (s : Symbol)
        → callee_by (new a b) n (undefined (old a b) s)
        ≡ callee_by (old a b) n (undefined (old a b) s)
    undefined_callee (Local i name) = refl
    undefined_callee (Shared name) = go name _ _
      where
        go : (name : Bytes) (b' c : Bool)
            → callee_by (new a b) n (if b' then Host name else (if c then Null else Unresolved))
            ≡ callee_by (old a b) n (if b' then Host name else (if c then Null else Unresolved))
        go name true c = refl
        go name false true = refl
        go name false false = refl

    callee_same : (s : Symbol) → IsSymbol (old a b) s
        → callee_by (new a b) n (meaning (new a b) (symbol_after a s))
        ≡ callee_by (old a b) n (meaning (old a b) s)
    callee_same s here = ap (callee_by (new a b) n) (meaning_path a b both rooms_kept s here)
        ∙ by_home (home (old a b) (behind (old a b) s)) refl
      where
        by_home : (o : Option Entry) → home (old a b) (behind (old a b) s) ≡ o
            → callee_by (new a b) n
            (bound_to (new a b) (symbol_after a (behind (old a b) s))
            (option_map (entry_after a (behind (old a b) s)) o))
            ≡ callee_by (old a b) n (bound_to (old a b) (behind (old a b) s) o)
        by_home None h =
            ap (callee_by (new a b) n)
            (both.regroups.undefined_same (behind (old a b) s)
            (behind_is (old a b) both.fit both.merges s here) h)
            ∙ undefined_callee (behind (old a b) s)
        by_home (Some e) h =
            (λ k. callee_by (new a b) n
            (if is_appending (same_linkage (behind (old a b) s) e k) then Appended
            (symbol_after a (behind (old a b) s)) else Definition
            (entry_after a (behind (old a b) s) e)))
            ∙ go (is_appending (linkage_of e.global))
            (home_is (old a b) KnownFirst (behind (old a b) s) e known_first h).0.0
          where
            go : (c : Bool) → KnownFirst e
                → callee_by (new a b) n
                (if c then Appended (symbol_after a (behind (old a b) s)) else Definition
                (entry_after a (behind (old a b) s) e))
                ≡ callee_by (old a b) n
                (if c then Appended (behind (old a b) s) else Definition e)
            go true known = refl
            go false known =
                by_entry (code_of (new a b) n) (code_of (old a b) n) Nothing code_alike
                (behind (old a b) s) e.part e.global known

    numbered_same : callee_numbered (new a b) n ≡ callee_numbered (old a b) n
    numbered_same =
        (λ k. option_map_or (λ s. callee_by (new a b) n (meaning (new a b) s))
        (slice_get (both.regroups.functions k) n) Nothing)
        ∙ ap (λ o. option_map_or (λ s. callee_by (new a b) n (meaning (new a b) s)) o Nothing)
        (slice_get-map (symbol_after a) (function_symbols (old a b)) n)
        ∙ go (slice_get (function_symbols (old a b)) n) refl
      where
        go : (o : Option Symbol) → slice_get (function_symbols (old a b)) n ≡ o
            → option_map_or (λ s. callee_by (new a b) n (meaning (new a b) s))
            (option_map (symbol_after a) o) Nothing
            ≡ option_map_or (λ s. callee_by (old a b) n (meaning (old a b) s)) o Nothing
        go None h = refl
        go (Some s) h =
            callee_same s
            (at_all (IsSymbol (old a b)) (function_symbols (old a b)) n s
            (functions_are (old a b)) h)

  -- and the same callees
  pub same_callees : (address : ℕ) → table (new a b) address ≡ table (old a b) address
  same_callees address = go (function_number address)
    where
      go : (o : Option ℕ)
          → option_map_or (callee_numbered (new a b)) o Nothing
          ≡ option_map_or (callee_numbered (old a b)) o Nothing
      go None = refl
      go (Some n) = numbered_same n
