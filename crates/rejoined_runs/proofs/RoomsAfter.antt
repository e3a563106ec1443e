-- The variable of a symbol has the same size and alignment where the first parts are one.
use Rattle.std.proofs.Common.{◌≡◌, suc, ◌-◌, ◌*◌, ◌≤◌, Bool, true, false, List, length, Option, Some, None, refl, sym, ap, ap₂, ◌∙◌, subst, option_map, unwrap_or, nat_lt}
use Rattle.std.specs.Prelude.{if◌then◌else◌}
use Rattle.std.specs.Option.{option_map_or}
use Rattle.std.specs.List.{AllByRecursion}
use Rattle.std.proofs.lemmas.Bool.{both_ways, false_from_ne_true}
use Rattle.type_table.specs.Layout.{size, align}
use Rattle.module_arena.specs.Module.{Module}
use Rattle.linkage_rules.specs.Addresses.{Room, joined_length, align_in, alignment_in, greatest_stated, greatest_common, size_by, alignment_by, room}
use Rattle.linkage_rules.specs.Entries.{Entry, entries, same_symbol, symbol_of}
use Rattle.linkage_rules.specs.Globals.{linkage_of, is_variable, type_of, element_of, length_of, stated}
use Rattle.linkage_rules.specs.Linkages.{is_common, is_appending}
use Rattle.linkage_rules.specs.Symbols.{is_alias_symbol, variable_symbols}
use Rattle.linkage_rules.specs.Winner.{definitions, is_definition, home, shape_in, size_in}
use Rattle.linkage_rules.specs.declared.symbol.Symbol.{Symbol}
use Rattle.linkage_rules.specs.SymbolLaws.{symbol_exact}
use Rattle.linkage_rules.proofs.Entries.{all_follow, all_passing}
use Rattle.link_rules.specs.Carried.{merged, IsSymbol, carry, moved}
use Rattle.link_rules.specs.Rename.{new_name_of}
use Rattle.link_rules.specs.Structs.{linked_type}
use Rattle.link_rules.proofs.Merged.{definition_linkage}
use Rattle.link_rules.proofs.Searches.{all_front, all_both}
use Rattle.link_rules.proofs.Symbols.{AreOfKind, home_is, all_filter, variables_plain, variable_kinds}
use Rattle.linked_runs.proofs.Known.{AppendAlike}
use Rattle.linked_runs.proofs.Places.{variables_are}
use Rattle.linked_runs.proofs.Rooms.{none_pass, align_element, known_element}
use Rattle.linked_runs.proofs.Rooms as merged_rooms
use Rattle.rejoined_runs.specs.Regrouped.{symbol_after, entry_after}
use Rattle.rejoined_runs.specs.Regroups.{Regroups}
use Rattle.rejoined_runs.proofs.Homes.{Ready, old, new, later, later_definitions, definitions_old, entries_old, alias_stays, below, not_below}
use Rattle.rejoined_runs.proofs.PlacesAfter.{Both}
use Rattle.rejoined_runs.proofs.DefinitionsAfter.{first_shape, joined_is, was_array, stated_plain, later_shape, FirstHome, first_home, from_first, has_home, length_same, stated_same, common_alignment}

module _ (a b : List Module) (ready : Ready a) (both : Both a b) where
  abbrev r : Regroups a b
  r = both.regroups

  module _ (s : Symbol) (here : IsSymbol (old a b) s) where
    -- ROOMS

    module _ (e : Entry) (is_home : home (old a b) s ≡ Some e) where
      abbrev e_after : Entry
      e_after = entry_after a s e

      linkage_after : linkage_of e_after.global ≡ linkage_of e.global
      linkage_after = go (nat_lt e.part (length a))
        where
          go : (c : Bool)
              → linkage_of
              (if c then moved a s e else record {
                part = suc (e.part - length a);
                global =
                    e.global;
              }).global ≡ linkage_of e.global
          go true = definition_linkage a (new_name_of a s) e (definitions a s) e.global
          go false = refl

      -- what holds of the entry in its new part
      by_part : (P : Entry → Type 0)
          → (FirstHome a b ready both s here e → home a s ≡ Some e → P (moved a s e))
          → (length a ≤ e.part → P (record { part = suc (e.part - length a); global = e.global }))
          → P e_after
      by_part P first behind_too = go (nat_lt e.part (length a)) refl
        where
          go : (c : Bool) → nat_lt e.part (length a) ≡ c
              → P (if c then moved a s e else record {
                part = suc (e.part - length a);
                global =
                    e.global;
              })
          go true t = let own =
              from_first a b ready both s here e is_home (below e.part (length a) t) in first
              (first_home a b ready both s here e own) own
          go false t = behind_too (not_below e.part (length a) t)

      plain_shape : is_appending (linkage_of e.global) ≡ false
          → shape_in (new a b) e_after.part (type_of e_after.global)
          ≡ shape_in (old a b) e.part (type_of e.global)
      plain_shape plain =
          by_part (λ d. shape_in (new a b) d.part (type_of d.global)
          ≡ shape_in (old a b) e.part (type_of e.global))
          (λ is own. first_shape a b ready both s e.part is.low e.global is.types plain)
          (λ h. later_shape a b ready both e.part (type_of e.global) h)

      element_shape : is_appending (linkage_of e.global) ≡ true
          → shape_in (new a b) e_after.part (element_of (type_of e_after.global))
          ≡ shape_in (old a b) e.part (element_of (type_of e.global))
      element_shape appends =
          by_part (λ d. shape_in (new a b) d.part (element_of (type_of d.global))
          ≡ shape_in (old a b) e.part (element_of (type_of e.global)))
          (λ is own. ap (λ t. shape_in (new a b) 0 (element_of t))
          (joined_is a b ready both s e.part e.global is.lists appends)
          ∙ r.first_shapes e.part (element_of (type_of e.global)) is.low
          (known_element a e.part (type_of e.global) is.types))
          (λ h. later_shape a b ready both e.part (element_of (type_of e.global)) h)

      array_align : is_appending (linkage_of e.global) ≡ true
          → align_in (new a b) e_after.part (type_of e_after.global)
          ≡ align_in (old a b) e.part (type_of e.global)
      array_align appends =
          by_part (λ d. align_in (new a b) d.part (type_of d.global)
          ≡ align_in (old a b) e.part (type_of e.global))
          (λ is own.
          ap (align_in (new a b) 0) (joined_is a b ready both s e.part e.global is.lists appends)
          ∙ align_element (joined_length (definitions a s))
          (shape_in (new a b) 0 (linked_type a e.part (element_of (type_of e.global))))
          ∙ ap (λ o. option_map_or align o 1)
          (r.first_shapes e.part (element_of (type_of e.global)) is.low
          (known_element a e.part (type_of e.global) is.types))
          ∙ sym (align_element (length_of (type_of e.global))
          (shape_in (old a b) e.part (element_of (type_of e.global))))
          ∙ ap (align_in (old a b) e.part)
          (was_array a b ready both e.part e.global is.lists appends))
          (λ h. ap (λ o. option_map_or align o 1)
          (later_shape a b ready both e.part (type_of e.global) h))

      plain_alignment : is_appending (linkage_of e.global) ≡ false
          → is_common (linkage_of e.global) ≡ false
          → alignment_in (new a b) e_after ≡ alignment_in (old a b) e
      plain_alignment plain other =
          by_part (λ d. alignment_in (new a b) d ≡ alignment_in (old a b) e)
          (λ is own. ap₂ (λ n o. unwrap_or n (option_map_or align o 1))
          (stated_plain a b ready both s e.part e.global plain other)
          (first_shape a b ready both s e.part is.low e.global is.types plain))
          (λ h. ap (λ o. unwrap_or (stated e.global) (option_map_or align o 1))
          (later_shape a b ready both e.part (type_of e.global) h))

      module _ (appended : is_appending (linkage_of e.global) ≡ true
          → AllByRecursion (λ d. is_appending (linkage_of d.global) ≡ true) (definitions a s))
          (first_room : (w : Entry) → home a s ≡ Some w
          → room (merged a) (carry a s) ≡ room a s) where
        size_after : size_by (new a b) e_after (definitions (new a b) (symbol_after a s))
            ≡ size_by (old a b) e (definitions (old a b) s)
        size_after =
            ap (λ c. if c then joined_length (definitions (new a b) (symbol_after a s)) * size_in
            (new a b) e_after.part (element_of (type_of e_after.global)) else size_in
            (new a b) e_after.part (type_of e_after.global)) (ap is_appending linkage_after)
            ∙ go (is_appending (linkage_of e.global)) refl
          where
            go : (c : Bool) → is_appending (linkage_of e.global) ≡ c
                → (if c then joined_length (definitions (new a b) (symbol_after a s)) * size_in
                (new a b) e_after.part (element_of (type_of e_after.global)) else size_in
                (new a b) e_after.part (type_of e_after.global))
                ≡ (if c then joined_length (definitions (old a b) s) * size_in (old a b) e.part
                (element_of (type_of e.global)) else size_in (old a b) e.part
                (type_of e.global))
            go true t =
                ap₂ (λ n k. n * k) (length_same a b ready both s here (appended t))
                (ap (λ o. option_map_or size o 0) (element_shape t))
            go false t = ap (λ o. option_map_or size o 0) (plain_shape t)

        alignment_after : alignment_by (new a b) e_after (definitions (new a b) (symbol_after a s))
            ≡ alignment_by (old a b) e (definitions (old a b) s)
        alignment_after =
            ap₂ (λ c d. if c then unwrap_or
            (greatest_stated (definitions (new a b) (symbol_after a s)))
            (align_in (new a b) e_after.part (type_of e_after.global))
            else (if d then unwrap_or
            (greatest_common (new a b) (definitions (new a b) (symbol_after a s)))
            (alignment_in (new a b) e_after) else alignment_in (new a b) e_after))
            (ap is_appending linkage_after) (ap is_common linkage_after)
            ∙ go (is_appending (linkage_of e.global)) (is_common (linkage_of e.global)) refl refl
          where
            go : (c d : Bool) → is_appending (linkage_of e.global) ≡ c
                → is_common (linkage_of e.global) ≡ d
                → (if c then unwrap_or (greatest_stated (definitions (new a b) (symbol_after a s)))
                (align_in (new a b) e_after.part (type_of e_after.global))
                else (if d then unwrap_or
                (greatest_common (new a b) (definitions (new a b) (symbol_after a s)))
                (alignment_in (new a b) e_after) else alignment_in (new a b) e_after))
                ≡ (if c then unwrap_or (greatest_stated (definitions (old a b) s))
                (align_in (old a b) e.part (type_of e.global))
                else (if d then unwrap_or (greatest_common (old a b) (definitions (old a b) s))
                (alignment_in (old a b) e) else alignment_in (old a b) e))
            go true d t u =
                ap₂ unwrap_or (stated_same a b ready both s here (appended t)) (array_align t)
            go false true t u =
                common_alignment a b ready both s here e is_home u first_room e_after
            go false false t u = plain_alignment t u

        room_after : ◌≡◌ {A = Room}
            (record {
              size =
                  size_by (new a b) e_after (definitions (new a b) (symbol_after a s));
              alignment =
                  alignment_by (new a b) e_after (definitions (new a b) (symbol_after a s));
            })
            (record {
              size = size_by (old a b) e (definitions (old a b) s);
              alignment =
                  alignment_by (old a b) e (definitions (old a b) s);
            })
        room_after = λ k. record { size = size_after k; alignment = alignment_after k }

  -- all definitions of an appended symbol are appended
  first_appended : (s : Symbol) (e : Entry) → home (old a b) s ≡ Some e
      → is_appending (linkage_of e.global) ≡ true
      → AllByRecursion (λ d. is_appending (linkage_of d.global) ≡ true) (definitions a s)
  first_appended s e h appends =
      let is = home_is (old a b) (AppendAlike (old a b)) s e both.fit.alike h in
      all_front _ (definitions a s) (later_definitions a b s)
      (subst (AllByRecursion (λ d. is_appending (linkage_of d.global) ≡ true))
      (definitions_old a b s)
      (all_filter _ is_definition _
      (all_follow _ _ _
      (λ d k. k.0
      (subst (λ u. same_symbol u (symbol_of d) ≡ true)
      (symbol_exact s (symbol_of e) is.0.1) k.1) ∙ appends)
      (all_passing _ (λ d. same_symbol s (symbol_of d)) (entries (old a b)) is.0.0))))

  room_same : (s : Symbol) → IsSymbol (old a b) s → AreOfKind (old a b) true s
      → is_alias_symbol (old a b) s ≡ false → room (new a b) (symbol_after a s) ≡ room (old a b) s
  room_same s here kind plain =
      ap (option_map
      (λ e. record {
        size =
            size_by (new a b) e (definitions (new a b) (symbol_after a s));
        alignment =
            alignment_by (new a b) e (definitions (new a b) (symbol_after a s));
      }))
      (r.homes s here)
      ∙ go (home (old a b) s) refl
    where
      kind_first : AreOfKind a true s
      kind_first =
          all_front _ (entries a) (later a b)
          (subst (AllByRecursion (λ e. same_symbol s (symbol_of e) ≡ true
          → is_variable e.global ≡ true)) (entries_old a b) kind)

      plain_first : is_alias_symbol a s ≡ false
      plain_first = false_from_ne_true _ (λ t. both_ways _ plain (alias_stays a b ready s t))

      go : (o : Option Entry) → home (old a b) s ≡ o
          → option_map {U = Room}
          (λ e. record {
            size =
                size_by (new a b) e (definitions (new a b) (symbol_after a s));
            alignment =
                alignment_by (new a b) e (definitions (new a b) (symbol_after a s));
          })
          (option_map (entry_after a s) o)
          ≡ option_map
          (λ e. record {
            size = size_by (old a b) e (definitions (old a b) s);
            alignment =
                alignment_by (old a b) e (definitions (old a b) s);
          }) o
      go None h = refl
      go (Some e) h =
          ap Some (room_after s here e h (first_appended s e h)
          (λ w k. merged_rooms.room_same a both.first both.first_merges s
          (has_home a b ready both s here w k) kind_first plain_first))

  pub rooms_kept : AllByRecursion (λ s. room (new a b) (symbol_after a s) ≡ room (old a b) s)
      (variable_symbols (old a b))
  rooms_kept =
      all_follow _ _ (variable_symbols (old a b)) (λ s h. room_same s h.0 h.1.0 h.1.1)
      (all_both _ _ (variable_symbols (old a b)) (variables_are (old a b))
      (all_both _ _ (variable_symbols (old a b)) (variable_kinds (old a b) both.fit.together)
      (variables_plain (old a b))))
