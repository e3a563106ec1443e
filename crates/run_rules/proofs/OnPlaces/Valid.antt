-- A run of valid parts that go together never gets stuck.
use Rattle.std.proofs.Common.{◌≡◌, ℕ, List, refl, sym, ap, ◌∙◌, subst, Bool, true, false, Option, Some, None, unwrap_or}
use Rattle.std.specs.Prelude.{option_and_then, if◌then◌else◌}
use Rattle.std.proofs.lemmas.Option.{same_Some}
use Rattle.module_arena.specs.HostRows.{signature_of}
use Rattle.module_arena.specs.Module.{Module}
use Rattle.linkage_rules.specs.Bind.{behind}
use Rattle.linkage_rules.specs.Entries.{Entry}
use Rattle.linkage_rules.specs.Globals.{Global, OfVariable, OfFunction, OfAlias}
use Rattle.linkage_rules.specs.Addresses.{function_address}
use Rattle.linkage_rules.specs.Winner.{home}
use Rattle.run_rules.proofs.OnPlaces.Together.{GoTogether}
use Rattle.run_rules.specs.Action.{Signature}
use Rattle.run_rules.specs.Calls.{same_signature}
use Rattle.run_rules.specs.Due.{plain_main, main_with_arguments}
use Rattle.run_rules.specs.Look.{names_in, pointer_to, defined_by, look, table, code_of}
use Rattle.run_rules.specs.NeverStuck.{NeverStuck}
use Rattle.run_rules.specs.Plan.{Main, main_of, main_symbol, main_by, main_in, plan}
use Rattle.run_rules.specs.Resolve.{signature_in}
use Rattle.run_rules.specs.Side.{begun}
use Rattle.run_rules.specs.Places.Places.{IsFunctionOf}
use Rattle.run_rules.proofs.OnPlaces.Begins.{IsCalled, begins_fine}
use Rattle.run_rules.proofs.OnPlaces.Options.{none_some}
use Rattle.run_rules.proofs.OnPlaces.Mains.{number, has_address, has_code}
use Rattle.run_rules.proofs.OnPlaces.Parts.{AreValid, connected}
use Rattle.run_rules.proofs.OnPlaces.Placed.{finds_a_place}

module _ (parts : List Module) (valid : AreValid parts) (together : GoTogether parts) where
  -- where main lies is a function of its type
  typed_main : (used : Signature) (address : ℕ) (taken : Bool) → IsCalled (look parts) (table parts) address taken → (x : Main) → record { address = address; takes_arguments = taken } ≡ x → IsCalled (look parts) (table parts) x.address x.takes_arguments
  typed_main used address taken h x e = subst (λ (y : Main). IsCalled (look parts) (table parts) y.address y.takes_arguments) e h

  by_type : (s : Signature) (address : ℕ) → ((used : Signature) → same_signature s used ≡ true → IsFunctionOf (look parts) (table parts) used (table parts address)) → (x : Main) → main_of s address ≡ Some x
      → IsCalled (look parts) (table parts) x.address x.takes_arguments
  by_type s address h x = go (same_signature s plain_main) refl (same_signature s main_with_arguments) refl
    where
      go : (a : Bool) → same_signature s plain_main ≡ a → (b : Bool) → same_signature s main_with_arguments ≡ b
          → (if a then Some (record { address = address; takes_arguments = false }) else (if b then Some (record { address = address; takes_arguments = true }) else None)) ≡ Some x
          → IsCalled (look parts) (table parts) x.address x.takes_arguments
      go true p b q e = typed_main plain_main address false (h plain_main p) x (same_Some (record { address = address; takes_arguments = false }) x e)
      go false p true q e = typed_main main_with_arguments address true (h main_with_arguments q) x (same_Some (record { address = address; takes_arguments = true }) x e)
      go false p false q e = none_some x e

  by_function : (e : Entry) (g : Global) → home parts (behind parts main_symbol) ≡ Some e → e.global ≡ g → (x : Main) → option_and_then (main_by parts) (defined_by e g) ≡ Some x
      → IsCalled (look parts) (table parts) x.address x.takes_arguments
  by_function e (OfVariable v) at is x k = none_some x k
  by_function e (OfAlias a) at is x k = none_some x k
  by_function e (OfFunction f) at is x k =
      let s = behind parts main_symbol in
      let address = (pointer_to parts main_symbol).address in
      let where_it_lies : address ≡ function_address (number parts valid together s e f at is) = ap (λ (o : Option ℕ). unwrap_or o 0) (has_address parts valid together s e f at is) in
      let code : table parts address ≡ code_of parts (number parts valid together s e f at is) (e.part, f) = ap (table parts) where_it_lies ∙ has_code parts valid together s e f at is in
      by_type (signature_in (names_in parts e.part) (signature_of f)) address (λ used same. subst (IsFunctionOf (look parts) (table parts) used) (sym code) same) x k

  main_called : (x : Main) → main_in parts ≡ Some x → IsCalled (look parts) (table parts) x.address x.takes_arguments
  main_called x = go (home parts (behind parts main_symbol)) refl
    where
      go : (o : Option Entry) → home parts (behind parts main_symbol) ≡ o → option_and_then (main_by parts) (option_and_then (λ e. defined_by e e.global) o) ≡ Some x → IsCalled (look parts) (table parts) x.address x.takes_arguments
      go None at k = none_some x k
      go (Some e) at k = by_function e e.global at refl x k

  pub never_stuck : NeverStuck parts
  never_stuck arguments input c n s t opens steps enters =
      finds_a_place (look parts) (table parts) (connected parts valid) n (begun c input) s t
      (begins_fine (look parts) (table parts) (plan parts) arguments main_called c opens) steps enters
