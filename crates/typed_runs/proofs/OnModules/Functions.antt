-- The functions that are looked up in a module alone are its own.
use Rattle.std.proofs.Common.{◌≡◌, ℕ, List, [], ◌∷◌, refl, subst, Option, Some, None}
use Rattle.std.specs.Prelude.{slice_get, ⊤, option_and_then}
use Rattle.std.specs.List.{AllByRecursion}
use Rattle.std.proofs.lemmas.Option.{same_Some}
use Rattle.run_rules.proofs.OnPlaces.Options.{none_some}
use Rattle.module_arena.specs.Module.{Module}
use Rattle.linkage_rules.specs.Bind.{behind}
use Rattle.linkage_rules.specs.declared.symbol.Symbol.{Symbol}
use Rattle.linkage_rules.specs.Entries.{Entry, entries}
use Rattle.linkage_rules.specs.Globals.{Global, OfVariable, OfFunction, OfAlias}
use Rattle.linkage_rules.specs.Symbols.{function_symbols}
use Rattle.linkage_rules.specs.Winner.{home}
use Rattle.run_rules.proofs.OnPlaces.Together.{home_is}
use Rattle.run_rules.specs.Look.{Defined, defined_by, defined, function_at}
use Rattle.typed_runs.proofs.OnPlan.Entries.{entries_all}

module _ (m : Module) where
  abbrev parts : List Module
  parts = m ∷ []

  -- of the first part, and one of its functions
  abbrev IsOwn : Defined → Type 0
  IsOwn d = (d.0 ≡ 0) × ((k : ℕ) × (slice_get m.functions k ≡ Some d.1))

  abbrev IsHere : ℕ → Global → Type 0
  IsHere part (OfVariable v) = ⊤
  IsHere part (OfFunction f) = IsOwn (part, f)
  IsHere part (OfAlias a) = ⊤

  all_here : AllByRecursion (λ (e : Entry). IsHere e.part e.global) (entries parts)
  all_here = entries_all (λ (e : Entry). IsHere e.part e.global) m (λ k v e. tt) (λ k f e. (refl, (k, e))) (λ k a e. tt)

  defined_here : (e : Entry) (g : Global) (d : Defined) → IsHere e.part g → defined_by e g ≡ Some d → IsOwn d
  defined_here e (OfVariable v) d h k = none_some d k
  defined_here e (OfFunction f) d h k = subst IsOwn (same_Some (e.part, f) d k) h
  defined_here e (OfAlias a) d h k = none_some d k

  pub function_here : (n : ℕ) (d : Defined) → function_at parts n ≡ Some d → IsOwn d
  function_here n d = symbol (slice_get (function_symbols parts) n)
    where
      entry : (s : Symbol) (o : Option Entry) → home parts s ≡ o → option_and_then (λ e. defined_by e e.global) o ≡ Some d → IsOwn d
      entry s None q k = none_some d k
      entry s (Some e) q k = defined_here e e.global d (home_is parts (λ (e : Entry). IsHere e.part e.global) s e all_here q).0.0 k

      symbol : (o : Option Symbol) → option_and_then (defined parts) o ≡ Some d → IsOwn d
      symbol None k = none_some d k
      symbol (Some s) k = entry (behind parts s) (home parts (behind parts s)) refl k
