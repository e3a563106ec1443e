-- What look-up gives for an address is a typed callee.
use Rattle.std.proofs.Common.{◌≡◌, ℕ, List, [], ◌∷◌, ◌++◌, length, map, flat_map, refl, sym, ap, ◌∙◌, subst, Bool, true, false, not, ◌&&◌, ◌||◌, Option, Some, None, is_some, is_none, true≢false, append_assoc}
use Rattle.std.specs.Prelude.{slice_get, option_and_then, if◌then◌else◌}
use Rattle.std.specs.List.{list_all}
use Rattle.std.specs.Option.{option_map_or}
use Rattle.std.proofs.lemmas.Bool.{and_parts}
use Rattle.std.proofs.lemmas.Option.{same_Some}
use Rattle.run_rules.proofs.OnPlaces.Options.{none_some}
use Rattle.ir_memory.specs.declared.leaf.Leaf.{Leaf}
use Rattle.module_arena.specs.EntryRules.{return_suits}
use Rattle.module_arena.specs.declared.host.HostRow.{HostRow}
use Rattle.module_arena.specs.Module.{Bytes, Parameter, Function, Module}
use Rattle.module_arena.specs.TypeTests.{is_passable}
use Rattle.module_arena.specs.Valid.{IsValid}
use Rattle.module_arena.proofs.Parts.{valid_function}
use Rattle.module_arena.specs.HostRows.{host_row}
use Rattle.linkage_rules.specs.Bind.{meaning, behind, bound_to, undefined, is_function_symbol, all_extern_weak}
use Rattle.linkage_rules.specs.Bind as bound
use Rattle.linkage_rules.specs.declared.symbol.Symbol.{Symbol}
use Rattle.linkage_rules.specs.declared.symbol.Symbol.TheVariants.{Shared, Local}
use Rattle.linkage_rules.specs.Entries.{Entry}
use Rattle.linkage_rules.specs.Globals.{Global, OfVariable, OfFunction, OfAlias, linkage_of, is_written}
use Rattle.linkage_rules.specs.Linkages.{is_appending, is_available_externally}
use Rattle.linkage_rules.specs.Symbols.{function_symbols}
use Rattle.linkage_rules.specs.Winner.{home, is_definition}
use Rattle.run_rules.proofs.OnPlaces.Together.{home_is}
use Rattle.run_rules.specs.Calls.{Callee, Nothing}
use Rattle.run_rules.specs.Constant.{Names, shape_of}
use Rattle.run_rules.specs.Look.{Defined, names_in, function_at, defined_by, defined, look, table, code_of, host_of, callee_by, callee_numbered, function_number}
use Rattle.run_rules.specs.Scope.{Typed, results_of, blocks_of, locals_of}
use Rattle.typed_runs.specs.Kinds.{kinds_of, kinds_of_all}
use Rattle.typed_runs.specs.States.{IsTypedCallee}
use Rattle.typed_runs.specs.Look.Typings.{frame_kinds, typing_of}
use Rattle.run_rules.proofs.OnPlaces.Mains.{OnFunction, functions_all}
use Rattle.run_rules.proofs.OnPlaces.Parts.{AreValid, code_begins}
use Rattle.typed_runs.proofs.OnLook.Rows.{row_is}
use Rattle.typed_runs.proofs.OnLook.Widths.{all_kinds_length}

-- a function with a body is not variadic
not_variadic : (v : Bool) (o : Bool) → (not v || not o) ≡ true → o ≡ true → v ≡ false
not_variadic false o h k = refl
not_variadic true true h k = sym h
not_variadic true false h k = absurd (true≢false (sym k))

is_none_some : {X : Type 0} (o : Option X) → is_none o ≡ not (is_some o)
is_none_some None = refl
is_none_some (Some x) = refl

pub no_variadic_body : (m : Module) (n : ℕ) (f : Function) → IsValid m → slice_get m.functions n ≡ Some f → is_some f.body ≡ true → f.variadic ≡ false
no_variadic_body m n f v e d =
    let suits = (valid_function m n f v e).1.1.1.1.0 in
    let p = and_parts (list_all (λ (p : Parameter). is_passable m.structs p.ty) f.parameters) (return_suits m.structs f.returns && (not f.variadic || is_none f.body)) suits in
    let q = and_parts (return_suits m.structs f.returns) (not f.variadic || is_none f.body) p.1 in
    not_variadic f.variadic (is_some f.body) (ap (λ t. not f.variadic || t) (sym (is_none_some f.body)) ∙ q.1) d

-- the parameters stand in front
parameters_in_front : (names : Names) (ps : List Parameter) (others : List Typed)
    → kinds_of_all (map (λ (x : Typed). x.1) (map (λ (p : Parameter). (p.name, shape_of names p.ty)) ps ++ others)) ≡ kinds_of_all (map (shape_of names) (map (λ (p : Parameter). p.ty) ps)) ++ kinds_of_all (map (λ (x : Typed). x.1) others)
parameters_in_front names [] others = refl
parameters_in_front names (p ∷ ps) others =
    ap (λ (ks : List Leaf). kinds_of (shape_of names p.ty) ++ ks) (parameters_in_front names ps others)
    ∙ sym (append_assoc (kinds_of (shape_of names p.ty)) (kinds_of_all (map (shape_of names) (map (λ (p : Parameter). p.ty) ps))) (kinds_of_all (map (λ (x : Typed). x.1) others)))

module _ (parts : List Module) (valid : AreValid parts) where
  -- a function that is defined, and not variadic
  pub code_typed : (n : ℕ) (d : Defined) → function_at parts n ≡ Some d → d.1.variadic ≡ false → IsTypedCallee (typing_of parts) (look parts) (table parts) (code_of parts n d)
  code_typed n d e fixed =
      let names = names_in parts d.0 in
      let kinds : (typing_of parts).kinds n ≡ frame_kinds names d.1 = ap (λ (o : Option Defined). option_map_or (λ d. frame_kinds (names_in parts d.0) d.1) o []) e in (
        fixed,
        ap length kinds ∙ all_kinds_length (λ (x : Typed). x.1) (locals_of names d.1),
        ap (λ (o : Option Defined). option_map_or (λ d. kinds_of (shape_of (names_in parts d.0) d.1.returns)) o []) e,
        (
          kinds_of_all (map (λ (x : Typed). x.1) (flat_map (results_of names) (blocks_of d.1))),
          kinds ∙ parameters_in_front names d.1.parameters (flat_map (results_of names) (blocks_of d.1)),
        ),
        code_begins parts valid n d e,
      )

  -- a body makes a function fixed
  fixed_body : (n : ℕ) (d : Defined) → function_at parts n ≡ Some d → d.1.variadic ≡ false
  fixed_body n d = symbol (slice_get (function_symbols parts) n)
    where
      by_global : (e : Entry) (g : Global) → e.global ≡ g → OnFunction (λ f. is_some f.body ≡ true → f.variadic ≡ false) g → is_definition e ≡ true → defined_by e g ≡ Some d → d.1.variadic ≡ false
      by_global e (OfVariable v) q h is k = none_some d k
      by_global e (OfFunction f) q h is k =
          let written = (and_parts (is_written e.global) (not (is_available_externally (linkage_of e.global))) is).0 in
          subst (λ (x : Defined). x.1.variadic ≡ false) (same_Some (e.part, f) d k) (h (ap is_written (sym q) ∙ written))
      by_global e (OfAlias a) q h is k = none_some d k

      entry : (s : Symbol) (o : Option Entry) → home parts s ≡ o → option_and_then (λ e. defined_by e e.global) o ≡ Some d → d.1.variadic ≡ false
      entry s None q k = none_some d k
      entry s (Some e) q k =
          let h = home_is parts (λ (x : Entry). OnFunction (λ f. is_some f.body ≡ true → f.variadic ≡ false) x.global) s e (functions_all (λ f. is_some f.body ≡ true → f.variadic ≡ false) no_variadic_body 0 parts valid) q in
          by_global e e.global refl h.0.0 h.1 k

      symbol : (o : Option Symbol) → option_and_then (defined parts) o ≡ Some d → d.1.variadic ≡ false
      symbol None k = none_some d k
      symbol (Some s) k = entry (behind parts s) (home parts (behind parts s)) refl k

  abbrev IsTyped : Callee → Type 0
  IsTyped callee = IsTypedCallee (typing_of parts) (look parts) (table parts) callee

  by_definition : (n : ℕ) (s : Symbol) (e : Entry) (g : Global) → slice_get (function_symbols parts) n ≡ Some s → home parts (behind parts s) ≡ Some e → e.global ≡ g → IsTyped (option_map_or (code_of parts n) (defined_by e g) Nothing)
  by_definition n s e (OfVariable v) at is q = tt
  by_definition n s e (OfAlias a) at is q = tt
  by_definition n s e (OfFunction f) at is q =
      let d : function_at parts n ≡ Some (e.part, f) = ap (option_and_then (defined parts)) at ∙ ap (option_and_then (λ (e : Entry). defined_by e e.global)) is ∙ ap (defined_by e) q in
      code_typed n (e.part, f) d (fixed_body n (e.part, f) d)

  host_is_typed : (name : Bytes) (o : Option HostRow) → host_row name ≡ o → IsTyped (option_map_or host_of o Nothing)
  host_is_typed name None e = tt
  host_is_typed name (Some row) e = (refl, row_is name row e)

  undefined_typed : (n : ℕ) (s : Symbol) → IsTyped (callee_by parts n (undefined parts s))
  undefined_typed n (Local i name) = tt
  undefined_typed n (Shared name) = host (is_function_symbol parts (Shared name) && is_some (host_row name))
    where
      null : (t : Bool) → IsTyped (callee_by parts n (if t then bound.Null else bound.Unresolved))
      null true = tt
      null false = tt

      host : (t : Bool) → IsTyped (callee_by parts n (if t then bound.Host name else (if all_extern_weak parts (Shared name) then bound.Null else bound.Unresolved)))
      host true = host_is_typed name (host_row name) refl
      host false = null (all_extern_weak parts (Shared name))

  by_symbol : (n : ℕ) (s : Symbol) → slice_get (function_symbols parts) n ≡ Some s → IsTyped (callee_by parts n (meaning parts s))
  by_symbol n s at = by_home (home parts (behind parts s)) refl
    where
      choice : (e : Entry) → home parts (behind parts s) ≡ Some e → (t : Bool) → IsTyped (callee_by parts n (if t then bound.Appended (behind parts s) else bound.Definition e))
      choice e is true = tt
      choice e is false = by_definition n s e e.global at is refl

      by_home : (o : Option Entry) → home parts (behind parts s) ≡ o → IsTyped (callee_by parts n (bound_to parts (behind parts s) o))
      by_home (Some e) is = choice e is (is_appending (linkage_of e.global))
      by_home None is = undefined_typed n (behind parts s)

  -- what each address has
  pub callees_typed : (address : ℕ) → IsTyped (table parts address)
  callees_typed address = numbered (function_number address)
    where
      at_symbol : (n : ℕ) (o : Option Symbol) → slice_get (function_symbols parts) n ≡ o → IsTyped (option_map_or (λ s. callee_by parts n (meaning parts s)) o Nothing)
      at_symbol n None e = tt
      at_symbol n (Some s) e = by_symbol n s e

      numbered : (o : Option ℕ) → IsTyped (option_map_or (callee_numbered parts) o Nothing)
      numbered None = tt
      numbered (Some n) = at_symbol n (slice_get (function_symbols parts) n) refl
