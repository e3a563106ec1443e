-- Opening finds the same where the first parts are one.
use Rattle.std.proofs.Common.{◌≡◌, suc, ◌-◌, Bool, true, false, List, [], map, length, Option, Some, None, refl, sym, ap, ◌∙◌, option_map, option_and_then, nat_lt}
use Rattle.std.specs.Prelude.{if◌then◌else◌}
use Rattle.std.specs.Option.{option_map_or}
use Rattle.std.specs.List.{AllByRecursion}
use Rattle.ir_eval.specs.declared.value.Pointer.{Pointer}
use Rattle.module_arena.specs.HostRows.{signature_of}
use Rattle.module_arena.specs.Module.{Module}
use Rattle.module_arena.proofs.ModuleSet.{map_map}
use Rattle.linkage_rules.specs.Addresses.{Room, room, rooms}
use Rattle.linkage_rules.specs.Bind.{behind_from}
use Rattle.linkage_rules.specs.Contents.Contents.{pieces_by}
use Rattle.linkage_rules.specs.Entries.{Entry, same_symbol, symbol_name}
use Rattle.linkage_rules.specs.Globals.{is_constant}
use Rattle.linkage_rules.specs.Lists.{has}
use Rattle.linkage_rules.specs.Symbols.{variable_symbols, symbols}
use Rattle.linkage_rules.specs.Winner.{definitions, home}
use Rattle.linkage_rules.specs.declared.symbol.Symbol.{Symbol}
use Rattle.link_rules.specs.Carried.{IsSymbol, moved}
use Rattle.link_rules.specs.Rename.{new_name_of}
use Rattle.link_rules.proofs.Searches.{map_all}
use Rattle.linked_runs.proofs.Contents.{constructors_in}
use Rattle.linked_runs.proofs.Places.{under, rooms_are}
use Rattle.linked_runs.proofs.SamePlan.{and_then_or, constant_kept}
use Rattle.run_rules.specs.Look.{defined_by, defined, pointer_to, names_in}
use Rattle.run_rules.specs.Plan.{main_of, main_symbol, main_by, main_in, variable_of, Contents, contents_of, in_order, constructors_symbol, constructors, plan}
use Rattle.run_rules.specs.Resolve.{signature_in}
use Rattle.rejoined_runs.specs.Regrouped.{symbol_after, entry_after}
use Rattle.rejoined_runs.proofs.CodeAfter.{AlikeOfEach, by_symbol, signature_moved}
use Rattle.rejoined_runs.proofs.ContentsAfter.{pieces_known, pieces_same, contents_same, constructors_moved}
use Rattle.rejoined_runs.proofs.Homes.{Ready, old, new}
use Rattle.rejoined_runs.proofs.MissingAfter.{first_missing_same}
use Rattle.rejoined_runs.proofs.PlacesAfter.{Both, rooms_same, pointer_same, first_agree, later_same}

module _ (a b : List Module) (ready : Ready a) (both : Both a b)
    (rooms_kept : AllByRecursion (λ s. room (new a b) (symbol_after a s) ≡ room (old a b) s)
    (variable_symbols (old a b))) where
  -- MAIN

  main_alike : IsSymbol (old a b) main_symbol
      → AlikeOfEach a b ready both rooms_kept (main_by (new a b)) (main_by (old a b))
  main_alike here = record {
    first = λ m d h known k. main_of
        (signature_moved a m d known (names_in (old a b) d.0) (names_in (new a b) 0)
        (first_agree a b both rooms_kept d.0 h) k)
        (pointer_same a b both rooms_kept main_symbol here k).address;
    behind = λ d h k. main_of
        (signature_in (later_same a b both rooms_kept ready d.0 h k) (signature_of d.1))
        (pointer_same a b both rooms_kept main_symbol here k).address;
  }

  main_same : main_in (new a b) ≡ main_in (old a b)
  main_same = go (has same_symbol (symbols (old a b)) main_symbol) refl
    where
      go : (c : Bool) → has same_symbol (symbols (old a b)) main_symbol ≡ c
          → main_in (new a b) ≡ main_in (old a b)
      go true here =
          and_then_or (main_by (new a b)) (defined (new a b) main_symbol)
          ∙ by_symbol a b ready both rooms_kept (main_by (new a b)) (main_by (old a b)) None
          (main_alike here) main_symbol here
          ∙ sym (and_then_or (main_by (old a b)) (defined (old a b) main_symbol))
      go false gone =
          let none = both.regroups.absent (symbol_name main_symbol) gone in
          (λ k. option_and_then (main_by (new a b))
          (option_and_then (λ (e : Entry). defined_by e e.global)
          (home (new a b) (behind_from (new a b) main_symbol (none.1 k)))))
          ∙ (λ k. option_and_then (main_by (new a b))
          (option_and_then (λ (e : Entry). defined_by e e.global) (none.1 k)))
          ∙ sym ((λ k. option_and_then (main_by (old a b))
          (option_and_then (λ (e : Entry). defined_by e e.global)
          (home (old a b) (behind_from (old a b) main_symbol (none.0 k)))))
          ∙ (λ k. option_and_then (main_by (old a b))
          (option_and_then (λ (e : Entry). defined_by e e.global) (none.0 k))))

  -- VARIABLES

  constant_same : (s : Symbol) → IsSymbol (old a b) s
      → option_map_or (λ (e : Entry). is_constant e.global)
      (home (new a b) (symbol_after a s)) false
      ≡ option_map_or (λ (e : Entry). is_constant e.global) (home (old a b) s) false
  constant_same s here =
      ap (λ o. option_map_or (λ (e : Entry). is_constant e.global) o false)
      (both.regroups.homes s here) ∙ go (home (old a b) s)
    where
      by_part : (e : Entry) (c : Bool)
          → is_constant
          (if c then moved a s e else record {
            part = suc (e.part - length a);
            global =
                e.global;
          }).global ≡ is_constant e.global
      by_part e true = constant_kept a (new_name_of a s) e (definitions a s) e.global
      by_part e false = refl

      go : (o : Option Entry)
          → option_map_or (λ (e : Entry). is_constant e.global)
          (option_map (entry_after a s) o) false
          ≡ option_map_or (λ (e : Entry). is_constant e.global) o false
      go None = refl
      go (Some e) = by_part e (nat_lt e.part (length a))

  variables_same : map (variable_of (new a b)) (rooms (new a b))
      ≡ map (variable_of (old a b)) (rooms (old a b))
  variables_same =
      ap (map (variable_of (new a b))) (rooms_same a b both rooms_kept)
      ∙ map_map (variable_of (new a b)) (under (symbol_after a)) (rooms (old a b))
      ∙ map_all (λ (row : Symbol × Room). variable_of (new a b) (under (symbol_after a) row))
      (variable_of (old a b)) (λ (row : Symbol × Room). IsSymbol (old a b) row.0)
      (rooms (old a b))
      (λ row here k. record {
        size = row.1.size;
        align = row.1.alignment;
        constant =
            constant_same row.0 here k;
      }) (rooms_are (old a b))

  abbrev stored : List Module → Symbol × Room → Pointer × Contents
  stored ms row = (pointer_to ms row.0, contents_of ms row.0)

  stores_same : map (stored (new a b)) (rooms (new a b)) ≡ map (stored (old a b)) (rooms (old a b))
  stores_same =
      ap (map (stored (new a b))) (rooms_same a b both rooms_kept)
      ∙ map_map (stored (new a b)) (under (symbol_after a)) (rooms (old a b))
      ∙ map_all (λ (row : Symbol × Room). stored (new a b) (under (symbol_after a) row))
      (stored (old a b)) (λ (row : Symbol × Room). IsSymbol (old a b) row.0) (rooms (old a b))
      (λ row here k.
      (pointer_same a b both rooms_kept row.0 here k, contents_same a b ready both rooms_kept row.0 here k)) (rooms_are (old a b))

  -- CONSTRUCTORS

  constructors_same : constructors (new a b) ≡ constructors (old a b)
  constructors_same = go (has same_symbol (symbols (old a b)) constructors_symbol) refl
    where
      go : (c : Bool) → has same_symbol (symbols (old a b)) constructors_symbol ≡ c
          → constructors (new a b) ≡ constructors (old a b)
      go true here =
          (λ k. in_order
          (constructors_in (new a b)
          (pieces_same a b ready both rooms_kept constructors_symbol here k)))
          ∙ ap in_order
          (constructors_moved a b ready both rooms_kept _
          (pieces_known a b ready both rooms_kept constructors_symbol))
      go false gone =
          let none = both.regroups.absent (symbol_name constructors_symbol) gone in
          (λ k. in_order
          (constructors_in (new a b)
          (option_map_or (λ e. pieces_by e (definitions (new a b) constructors_symbol))
          (none.1 k) [])))
          ∙ sym (λ k. in_order
          (constructors_in (old a b)
          (option_map_or (λ e. pieces_by e (definitions (old a b) constructors_symbol))
          (none.0 k) [])))

  pub same_plan : plan (new a b) ≡ plan (old a b)
  same_plan = λ k. record {
    missing = first_missing_same a b ready both rooms_kept k;
    main = main_same k;
    variables = variables_same k;
    stores = stores_same k;
    constructors = map (λ c. c.1) (constructors_same k);
  }
