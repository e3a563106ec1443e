-- Look-up in valid parts connects places.
use Rattle.std.proofs.Common.{◌≡◌, ℕ, suc, List, [], ◌∷◌, ◌++◌, map, refl, sym, ap, ◌∙◌, subst, Bool, true, false, not, ◌&&◌, Option, Some, None, is_some, true≢false, unwrap_or}
use Rattle.std.specs.Prelude.{slice_get, ⊤, option_and_then, if◌then◌else◌}
use Rattle.std.specs.List.{AllByRecursion}
use Rattle.std.specs.Option.{option_map_or}
use Rattle.std.proofs.lemmas.Bool.{and_parts}
use Rattle.std.proofs.lemmas.Option.{same_Some}
use Rattle.module_arena.specs.Functions.{body}
use Rattle.module_arena.specs.declared.host.HostRow.{HostRow}
use Rattle.module_arena.specs.HostRows.{host_row}
use Rattle.module_arena.specs.Module.{Block, Module}
use Rattle.module_arena.specs.Valid.{IsValid}
use Rattle.module_arena.specs.WellFormed.{IsWellFormed}
use Rattle.linkage_rules.specs.Bind.{meaning, behind, bound_to, undefined, is_function_symbol, all_extern_weak}
use Rattle.linkage_rules.specs.Bind as bound
use Rattle.linkage_rules.specs.declared.symbol.Symbol.{Symbol}
use Rattle.linkage_rules.specs.declared.symbol.Symbol.TheVariants.{Shared, Local}
use Rattle.linkage_rules.specs.Entries.{Entry, entries_from}
use Rattle.linkage_rules.specs.Globals.{Global, OfVariable, OfFunction, OfAlias, globals, linkage_of, is_written}
use Rattle.linkage_rules.specs.Linkages.{is_appending, is_available_externally}
use Rattle.linkage_rules.specs.Symbols.{function_symbols}
use Rattle.linkage_rules.specs.Winner.{home, is_definition}
use Rattle.linkage_rules.proofs.Gathered.{all_mapped}
use Rattle.run_rules.proofs.OnPlaces.Together.{all_append, home_is}
use Rattle.run_rules.specs.Action.{Action}
use Rattle.run_rules.specs.Calls.{Nothing}
use Rattle.run_rules.specs.Look.{Defined, names_in, defined_by, defined, function_at, look_in, look, function_number, code_of, host_of, callee_by, callee_numbered, table}
use Rattle.run_rules.specs.NeverStuck.{is_stuck}
use Rattle.run_rules.specs.Scope.{scope_of, blocks_of}
use Rattle.run_rules.specs.Places.Places.{IsThere, GoesOnFrom, BeginsWell}
use Rattle.run_rules.proofs.OnPlaces.Bodies.{body_connected, body_begins}
use Rattle.run_rules.proofs.OnPlaces.Connected.{IsConnected}
use Rattle.run_rules.proofs.OnPlaces.Laid.{laid_out, IsLaidOut}
use Rattle.run_rules.proofs.OnPlaces.Options.{none_some}

-- each part is well formed and valid
abbrev pub AreValid : List Module → Type 0
AreValid parts = (i : ℕ) (m : Module) → slice_get parts i ≡ Some m → IsWellFormed m × IsValid m

-- ---- the functions of parts

-- a function that has a body is laid out well
abbrev IsGoodGlobal : Global → Type 0
IsGoodGlobal (OfVariable v) = ⊤
IsGoodGlobal (OfFunction f) = is_some f.body ≡ true → IsLaidOut (blocks_of f)
IsGoodGlobal (OfAlias a) = ⊤

pub all_from_places : {X : Type 0} (P : X → Type 0) (xs : List X) → ((k : ℕ) (x : X) → slice_get xs k ≡ Some x → P x) → AllByRecursion P xs
all_from_places P [] h = tt
all_from_places P (x ∷ xs) h = (h 0 x refl, all_from_places P xs (λ k y e. h (suc k) y e))

pub same_blocks : (o : Option (List Block)) → body o ≡ unwrap_or o []
same_blocks None = refl
same_blocks (Some bs) = refl

module_good : (m : Module) → IsWellFormed m → IsValid m → AllByRecursion IsGoodGlobal (globals m)
module_good m w v =
    all_append IsGoodGlobal (map OfVariable m.variables ++ map OfFunction m.functions) (map OfAlias m.aliases)
    (all_append IsGoodGlobal (map OfVariable m.variables) (map OfFunction m.functions)
    (all_mapped IsGoodGlobal OfVariable m.variables (all_from_places (λ x. ⊤) m.variables (λ k x e. tt)))
    (all_mapped IsGoodGlobal OfFunction m.functions (all_from_places (λ f. is_some f.body ≡ true → IsLaidOut (blocks_of f)) m.functions (λ k f e d. subst IsLaidOut (same_blocks f.body) (laid_out m w v k f e d)))))
    (all_mapped IsGoodGlobal OfAlias m.aliases (all_from_places (λ x. ⊤) m.aliases (λ k x e. tt)))

entries_good : (i : ℕ) (ms : List Module) → AreValid ms → AllByRecursion (λ (e : Entry). IsGoodGlobal e.global) (entries_from i ms)
entries_good i [] h = tt
entries_good i (m ∷ ms) h =
    all_append (λ (e : Entry). IsGoodGlobal e.global) (map (λ g. record { part = i; global = g }) (globals m)) (entries_from (suc i) ms)
    (all_mapped (λ (e : Entry). IsGoodGlobal e.global) (λ g. record { part = i; global = g }) (globals m) (module_good m (h 0 m refl).0 (h 0 m refl).1))
    (entries_good (suc i) ms (λ k x e. h (suc k) x e))

module _ (parts : List Module) (valid : AreValid parts) where
  defined_good : (e : Entry) (g : Global) (d : Defined) → e.global ≡ g → IsGoodGlobal g → is_definition e ≡ true → defined_by e g ≡ Some d → IsLaidOut (blocks_of d.1)
  defined_good e (OfVariable v) d q h is k = none_some d k
  defined_good e (OfFunction f) d q h is k =
      let written = (and_parts (is_written e.global) (not (is_available_externally (linkage_of e.global))) is).0 in
      subst (λ (x : Defined). IsLaidOut (blocks_of x.1)) (same_Some (e.part, f) d k) (h (ap is_written (sym q) ∙ written))
  defined_good e (OfAlias a) d q h is k = none_some d k

  -- of the symbol with that number
  pub function_laid : (n : ℕ) (d : Defined) → function_at parts n ≡ Some d → IsLaidOut (blocks_of d.1)
  function_laid n d = symbol (slice_get (function_symbols parts) n)
    where
      entry : (s : Symbol) (o : Option Entry) → home parts s ≡ o → option_and_then (λ e. defined_by e e.global) o ≡ Some d → IsLaidOut (blocks_of d.1)
      entry s None q k = none_some d k
      entry s (Some e) q k =
          let h = home_is parts (λ (e : Entry). IsGoodGlobal e.global) s e (entries_good 0 parts valid) q in
          defined_good e e.global d refl h.0.0 h.1 k

      symbol : (o : Option Symbol) → option_and_then (defined parts) o ≡ Some d → IsLaidOut (blocks_of d.1)
      symbol None k = none_some d k
      symbol (Some s) k = entry (behind parts s) (home parts (behind parts s)) refl k

  -- ---- actions

  abbrev here : Option Defined → ℕ → ℕ → Action
  here o k p = option_map_or (λ d. look_in (scope_of (names_in parts d.0) d.1) k p) o Action.Stuck

  here_connected : (o : Option Defined) → ((d : Defined) → o ≡ Some d → IsLaidOut (blocks_of d.1)) → (k p : ℕ) → IsThere (here o) k p → GoesOnFrom (here o) k p (here o k p)
  here_connected None h k p is = absurd (true≢false is)
  here_connected (Some d) h k p is = body_connected (scope_of (names_in parts d.0) d.1) (h d refl) k p is

  -- ---- callees

  pub code_begins : (n : ℕ) (d : Defined) → function_at parts n ≡ Some d → BeginsWell (look parts) (table parts) (code_of parts n d)
  code_begins n d e =
      subst (λ o. is_stuck (here o 0 0) ≡ false) (sym e) (body_begins (scope_of (names_in parts d.0) d.1) (function_laid n d e))

  by_definition : (n : ℕ) (s : Symbol) (e : Entry) (g : Global) → slice_get (function_symbols parts) n ≡ Some s → home parts (behind parts s) ≡ Some e → e.global ≡ g
      → BeginsWell (look parts) (table parts) (option_map_or (code_of parts n) (defined_by e g) Nothing)
  by_definition n s e (OfVariable v) at is q = tt
  by_definition n s e (OfAlias a) at is q = tt
  by_definition n s e (OfFunction f) at is q =
      code_begins n (e.part, f)
      (ap (option_and_then (defined parts)) at ∙ ap (option_and_then (λ (e : Entry). defined_by e e.global)) is ∙ ap (defined_by e) q)

  host_begins : (o : Option HostRow) → BeginsWell (look parts) (table parts) (option_map_or host_of o Nothing)
  host_begins None = tt
  host_begins (Some row) = refl

  undefined_begins : (n : ℕ) (s : Symbol) → BeginsWell (look parts) (table parts) (callee_by parts n (undefined parts s))
  undefined_begins n (Local i name) = tt
  undefined_begins n (Shared name) = host (is_function_symbol parts (Shared name) && is_some (host_row name))
    where
      null : (t : Bool) → BeginsWell (look parts) (table parts) (callee_by parts n (if t then bound.Null else bound.Unresolved))
      null true = tt
      null false = tt

      host : (t : Bool) → BeginsWell (look parts) (table parts) (callee_by parts n (if t then bound.Host name else (if all_extern_weak parts (Shared name) then bound.Null else bound.Unresolved)))
      host true = host_begins (host_row name)
      host false = null (all_extern_weak parts (Shared name))

  callee_begins : (n : ℕ) (s : Symbol) → slice_get (function_symbols parts) n ≡ Some s → BeginsWell (look parts) (table parts) (callee_by parts n (meaning parts s))
  callee_begins n s at = by_home (home parts (behind parts s)) refl
    where
      choice : (e : Entry) → home parts (behind parts s) ≡ Some e → (t : Bool) → BeginsWell (look parts) (table parts) (callee_by parts n (if t then bound.Appended (behind parts s) else bound.Definition e))
      choice e is true = tt
      choice e is false = by_definition n s e e.global at is refl

      by_home : (o : Option Entry) → home parts (behind parts s) ≡ o → BeginsWell (look parts) (table parts) (callee_by parts n (bound_to parts (behind parts s) o))
      by_home (Some e) is = choice e is (is_appending (linkage_of e.global))
      by_home None is = undefined_begins n (behind parts s)

  pub connected : IsConnected (look parts) (table parts)
  connected =
      record {
        actions = λ n k p is. here_connected (function_at parts n) (function_laid n) k p is;
        callees = λ a. numbered (function_number a);
      }
    where
      at_symbol : (n : ℕ) (o : Option Symbol) → slice_get (function_symbols parts) n ≡ o → BeginsWell (look parts) (table parts) (option_map_or (λ s. callee_by parts n (meaning parts s)) o Nothing)
      at_symbol n None e = tt
      at_symbol n (Some s) e = callee_begins n s e

      numbered : (o : Option ℕ) → BeginsWell (look parts) (table parts) (option_map_or (callee_numbered parts) o Nothing)
      numbered None = tt
      numbered (Some n) = at_symbol n (slice_get (function_symbols parts) n) refl
