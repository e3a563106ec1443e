-- A name of a part, and what it is written as in the result, have the same address; and a type of a part the same shape.
use Rattle.std.proofs.Common.{◌≡◌, ℕ, Bool, true, false, List, Option, Some, None, refl, sym, ap, ◌∙◌, option_map, unwrap_or}
use Rattle.std.specs.Prelude.{if◌then◌else◌}
use Rattle.ir_eval.specs.declared.value.Scalar.TheVariants.{Ptr}
use Rattle.type_table.specs.Shape.{void_leaf}
use Rattle.module_arena.specs.Module.{Bytes, Module}
use Rattle.linkage_rules.specs.Bind.{Bound, Definition, Appended, Host, Null, Unresolved, bound_to, undefined, behind, own_meaning, meaning}
use Rattle.linkage_rules.specs.Entries.{Entry, symbol_in}
use Rattle.linkage_rules.specs.declared.symbol.Symbol.{Symbol}
use Rattle.linkage_rules.specs.Globals.{linkage_of}
use Rattle.linkage_rules.specs.Linkages.{is_appending}
use Rattle.linkage_rules.specs.Winner.{home}
use Rattle.link_rules.specs.Rename.{new_global}
use Rattle.link_rules.specs.Structs.{new_struct}
use Rattle.run_rules.specs.Look.{pointer_to, leaf_of, address_in, names_in}
use Rattle.run_rules.proofs.OnLaws.SameConstants.{Agree}
use Rattle.link_rules.specs.Carried.{merged, IsSymbol, carry, moved}
use Rattle.link_rules.specs.Known.{KnownTree, KnownName}
use Rattle.linked_runs.proofs.Known.{Fit}
use Rattle.link_rules.specs.Merges.{Merges}
use Rattle.linked_runs.proofs.Places.{behind_is, pointer_same, bounds_same}

pub defined_leaf : (parts : List Module) (s t : Symbol) (e : Entry) (b : Bool) → leaf_of parts s (if b then Appended t else Definition e) ≡ Ptr (pointer_to parts s)
defined_leaf parts s t e true = refl
defined_leaf parts s t e false = refl

module _ (parts : List Module) (fit : Fit parts) (merges : Merges parts) where
  -- what a symbol means is what it meant, but for where a definition stands
  pub meaning_path : (s : Symbol) (here : IsSymbol parts s) → meaning (merged parts) (carry parts s) ≡ bound_to (merged parts) (carry parts (behind parts s)) (option_map (moved parts (behind parts s)) (home parts (behind parts s)))
  meaning_path s here =
      ap (own_meaning (merged parts)) (merges.behinds s here)
      ∙ ap (bound_to (merged parts) (carry parts (behind parts s))) (merges.homes (behind parts s) (behind_is parts fit merges s here))

  pub leaf_same : (s : Symbol) → IsSymbol parts s → leaf_of (merged parts) (carry parts s) (meaning (merged parts) (carry parts s)) ≡ leaf_of parts s (meaning parts s)
  leaf_same s here = ap (leaf_of (merged parts) (carry parts s)) (meaning_path s here) ∙ by_home (home parts (behind parts s)) refl
    where
      pointers : Ptr (pointer_to (merged parts) (carry parts s)) ≡ Ptr (pointer_to parts s)
      pointers = ap Ptr (pointer_same parts fit merges s here)

      by_meaning : (x : Bound) → leaf_of (merged parts) (carry parts s) x ≡ leaf_of parts s x
      by_meaning (Definition e) = pointers
      by_meaning (Appended t) = pointers
      by_meaning (Host name) = pointers
      by_meaning Null = refl
      by_meaning Unresolved = refl

      by_home : (o : Option Entry) → home parts (behind parts s) ≡ o → leaf_of (merged parts) (carry parts s) (bound_to (merged parts) (carry parts (behind parts s)) (option_map (moved parts (behind parts s)) o)) ≡ leaf_of parts s (bound_to parts (behind parts s) o)
      by_home None h = ap (leaf_of (merged parts) (carry parts s)) (merges.undefined_same (behind parts s) (behind_is parts fit merges s here) h) ∙ by_meaning (undefined parts (behind parts s))
      by_home (Some e) h =
          defined_leaf (merged parts) (carry parts s) (carry parts (behind parts s)) (moved parts (behind parts s) e) (is_appending (linkage_of (moved parts (behind parts s) e).global))
          ∙ pointers ∙ sym (defined_leaf parts s (behind parts s) e (is_appending (linkage_of e.global)))

  pub address_in_same : (i : ℕ) (name : Bytes) → KnownName parts i name → address_in (merged parts) 0 (new_global parts i name) ≡ address_in parts i name
  address_in_same i name known =
      (λ k. leaf_of (merged parts) (merges.names i name known k) (meaning (merged parts) (merges.names i name known k))) ∙ leaf_same (symbol_in parts i name) known

  -- so what is written in part i is looked up to the same
  pub agree : (i : ℕ) → Agree (names_in parts i) (names_in (merged parts) 0) (new_struct parts i) (new_global parts i) (KnownTree parts i) (KnownName parts i)
  agree i = record {
    same_shape = λ t k. ap (λ o. unwrap_or o void_leaf) (merges.shapes i t k);
    same_address = address_in_same i;
    same_bounds = bounds_same parts fit merges;
  }
