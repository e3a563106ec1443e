-- Opening finds the same in the result.
use Rattle.std.proofs.Common.{◌≡◌, Bool, true, false, List, [], map, Option, Some, None, refl, sym, ap, ◌∙◌, option_map, option_and_then}
use Rattle.std.specs.Option.{option_map_or}
use Rattle.ir_eval.specs.declared.value.Pointer.{Pointer}
use Rattle.module_arena.specs.Module.{Bytes, Module}
use Rattle.module_arena.proofs.ModuleSet.{map_map}
use Rattle.linkage_rules.specs.Bind.{behind_from}
use Rattle.linkage_rules.specs.Contents.Contents.{pieces_by}
use Rattle.linkage_rules.specs.Entries.{Entry, same_symbol, symbol_name}
use Rattle.linkage_rules.specs.declared.symbol.Symbol.{Symbol}
use Rattle.linkage_rules.specs.Globals.{Global, OfVariable, OfFunction, OfAlias, is_constant}
use Rattle.linkage_rules.specs.Lists.{has}
use Rattle.linkage_rules.specs.Addresses.{Room, rooms}
use Rattle.linkage_rules.specs.Symbols.{symbols}
use Rattle.linkage_rules.specs.Winner.{definitions, home}
use Rattle.link_rules.specs.Linked.{linked_definition}
use Rattle.run_rules.specs.Look.{defined_by, defined, pointer_to}
use Rattle.run_rules.specs.Plan.{main_of, main_symbol, main_by, main_in, variable_of, Contents, contents_of, in_order, constructors_symbol, constructors, plan}
use Rattle.link_rules.specs.Carried.{merged, IsSymbol, carry, moved}
use Rattle.link_rules.specs.Rename.{new_name_of}
use Rattle.linked_runs.proofs.Known.{Fit}
use Rattle.link_rules.specs.Merges.{Merges}
use Rattle.linked_runs.proofs.Contents.{pieces_known, pieces_same, contents_same, constructors_in, constructors_moved}
use Rattle.link_rules.proofs.Searches.{map_all}
use Rattle.linked_runs.proofs.Missing.{first_missing_same}
use Rattle.linked_runs.proofs.Places.{under, rooms_are, rooms_same, pointer_same}
use Rattle.linked_runs.proofs.SameCode.{signature_moved, by_symbol}

pub and_then_or : {A B : Type 0} (f : A → Option B) (o : Option A) → option_and_then f o ≡ option_map_or f o None
and_then_or f None = refl
and_then_or f (Some x) = refl

pub constant_kept : (parts : List Module) (m : Bytes) (e : Entry) (es : List Entry) (g : Global) → is_constant (linked_definition parts m e es g) ≡ is_constant g
constant_kept parts m e es (OfVariable v) = refl
constant_kept parts m e es (OfFunction f) = refl
constant_kept parts m e es (OfAlias a) = refl

module _ (parts : List Module) (fit : Fit parts) (merges : Merges parts) where
  -- MAIN

  main_same : main_in (merged parts) ≡ main_in parts
  main_same = go (has same_symbol (symbols parts) main_symbol) refl
    where
      go : (b : Bool) → has same_symbol (symbols parts) main_symbol ≡ b → main_in (merged parts) ≡ main_in parts
      go true here =
          and_then_or (main_by (merged parts)) (defined (merged parts) main_symbol)
          ∙ by_symbol parts fit merges (main_by (merged parts)) (main_by parts) None
          (λ m d known k. main_of (signature_moved parts fit merges m d known k) (pointer_same parts fit merges main_symbol here k).address) main_symbol here
          ∙ sym (and_then_or (main_by parts) (defined parts main_symbol))
      go false gone =
          let none = merges.absent (symbol_name main_symbol) gone in
          (λ k. option_and_then (main_by (merged parts)) (option_and_then (λ (e : Entry). defined_by e e.global) (home (merged parts) (behind_from (merged parts) main_symbol (none.1 k)))))
          ∙ (λ k. option_and_then (main_by (merged parts)) (option_and_then (λ (e : Entry). defined_by e e.global) (none.1 k)))
          ∙ sym ((λ k. option_and_then (main_by parts) (option_and_then (λ (e : Entry). defined_by e e.global) (home parts (behind_from parts main_symbol (none.0 k)))))
          ∙ (λ k. option_and_then (main_by parts) (option_and_then (λ (e : Entry). defined_by e e.global) (none.0 k))))

  -- VARIABLES

  constant_same : (s : Symbol) → IsSymbol parts s → option_map_or (λ (e : Entry). is_constant e.global) (home (merged parts) (carry parts s)) false ≡ option_map_or (λ (e : Entry). is_constant e.global) (home parts s) false
  constant_same s here = ap (λ o. option_map_or (λ (e : Entry). is_constant e.global) o false) (merges.homes s here) ∙ go (home parts s)
    where
      go : (o : Option Entry) → option_map_or (λ (e : Entry). is_constant e.global) (option_map (moved parts s) o) false ≡ option_map_or (λ (e : Entry). is_constant e.global) o false
      go None = refl
      go (Some e) = constant_kept parts (new_name_of parts s) e (definitions parts s) e.global

  variables_same : map (variable_of (merged parts)) (rooms (merged parts)) ≡ map (variable_of parts) (rooms parts)
  variables_same =
      ap (map (variable_of (merged parts))) (rooms_same parts fit merges) ∙ map_map (variable_of (merged parts)) (under (carry parts)) (rooms parts)
      ∙ map_all (λ (row : Symbol × Room). variable_of (merged parts) (under (carry parts) row)) (variable_of parts) (λ (row : Symbol × Room). IsSymbol parts row.0) (rooms parts)
      (λ row here k. record { size = row.1.size; align = row.1.alignment; constant = constant_same row.0 here k }) (rooms_are parts)

  abbrev stored : List Module → Symbol × Room → Pointer × Contents
  stored ms row = (pointer_to ms row.0, contents_of ms row.0)

  stores_same : map (stored (merged parts)) (rooms (merged parts)) ≡ map (stored parts) (rooms parts)
  stores_same =
      ap (map (stored (merged parts))) (rooms_same parts fit merges) ∙ map_map (stored (merged parts)) (under (carry parts)) (rooms parts)
      ∙ map_all (λ (row : Symbol × Room). stored (merged parts) (under (carry parts) row)) (stored parts) (λ (row : Symbol × Room). IsSymbol parts row.0) (rooms parts)
      (λ row here k. (pointer_same parts fit merges row.0 here k, contents_same parts fit merges row.0 here k)) (rooms_are parts)

  -- CONSTRUCTORS

  constructors_same : constructors (merged parts) ≡ constructors parts
  constructors_same = go (has same_symbol (symbols parts) constructors_symbol) refl
    where
      go : (b : Bool) → has same_symbol (symbols parts) constructors_symbol ≡ b → constructors (merged parts) ≡ constructors parts
      go true here =
          (λ k. in_order (constructors_in (merged parts) (pieces_same parts fit merges constructors_symbol here k)))
          ∙ ap in_order (constructors_moved parts fit merges _ (pieces_known parts fit constructors_symbol))
      go false gone =
          let none = merges.absent (symbol_name constructors_symbol) gone in
          (λ k. in_order (constructors_in (merged parts) (option_map_or (λ e. pieces_by e (definitions (merged parts) constructors_symbol)) (none.1 k) [])))
          ∙ sym (λ k. in_order (constructors_in parts (option_map_or (λ e. pieces_by e (definitions parts constructors_symbol)) (none.0 k) [])))

  pub same_plan : plan (merged parts) ≡ plan parts
  same_plan = λ k. record {
    missing = first_missing_same parts fit merges k;
    main = main_same k;
    variables = variables_same k;
    stores = stores_same k;
    constructors = map (λ c. c.1) (constructors_same k);
  }
