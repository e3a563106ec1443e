-- The alignment of each variable is a power of two.
use Rattle.std.proofs.Common.{◌≡◌, ℕ, List, [], ◌∷◌, map, filter_map, refl, Bool, true, false, Option, Some, None, unwrap_or}
use Rattle.std.specs.Prelude.{if◌then◌else◌}
use Rattle.std.specs.List.{AllByRecursion, cons_option}
use Rattle.std.specs.Option.{option_map, option_map_or}
use Rattle.ir_memory.specs.Given.{IsAlignment}
use Rattle.type_table.specs.Layout.{align}
use Rattle.type_table.specs.Shape.{Shape}
use Rattle.type_table.specs.Tree.{Tree}
use Rattle.module_arena.specs.EntryRules.{alignment_suits}
use Rattle.module_arena.specs.Module.{Module}
use Rattle.module_arena.specs.Valid.{IsValid}
use Rattle.module_arena.proofs.Parts.{valid_variable}
use Rattle.linkage_rules.specs.declared.symbol.Symbol.{Symbol}
use Rattle.linkage_rules.specs.Entries.{Entry, entries, same_symbol, symbol_of, entries_of}
use Rattle.linkage_rules.specs.Globals.{linkage_of, type_of, stated}
use Rattle.linkage_rules.specs.Linkages.{is_common, is_appending}
use Rattle.linkage_rules.specs.Lists.{greatest_from, greatest}
use Rattle.linkage_rules.specs.Addresses.{align_in, alignment_in, greatest_stated, commons, greatest_common, alignment_by, size_by, Room, room, rooms}
use Rattle.linkage_rules.specs.Symbols.{variable_symbols}
use Rattle.linkage_rules.specs.Winner.{shape_in, is_definition, definitions, home}
use Rattle.run_rules.proofs.OnPlaces.Together.{all_filter, home_is}
use Rattle.typed_runs.proofs.OnTypes.Aligned.{one, shape_aligned, stated_aligned, greater_aligned}
use Rattle.typed_runs.proofs.OnPlan.Entries.{entries_all}

-- the greatest of alignments, or another
greatest_aligned : (n : ℕ) (ns : List ℕ) → IsAlignment n → AllByRecursion IsAlignment ns → IsAlignment (greatest_from n ns)
greatest_aligned n [] h k = h
greatest_aligned n (j ∷ ns) h k = greater_aligned j (greatest_from n ns) k.0 (greatest_aligned n ns h k.1)

greatest_or : (ns : List ℕ) (d : ℕ) → AllByRecursion IsAlignment ns → IsAlignment d → IsAlignment (unwrap_or (greatest ns) d)
greatest_or [] d h k = k
greatest_or (n ∷ ns) d h k = greatest_aligned n ns h.0 h.1

-- an entry states an alignment, or none
abbrev IsStated : Entry → Type 0
IsStated e = alignment_suits (stated e.global) ≡ true

module _ (m : Module) (valid : IsValid m) where
  abbrev parts : List Module
  parts = m ∷ []

  all_stated : AllByRecursion IsStated (entries parts)
  all_stated = entries_all IsStated m (λ k v e. (valid_variable m k v valid e).1.1.1.1.1.0) (λ k f e. refl) (λ k a e. refl)

  type_aligned : (i : ℕ) (t : Tree) → IsAlignment (align_in parts i t)
  type_aligned i t = go (shape_in parts i t)
    where
      go : (o : Option Shape) → IsAlignment (option_map_or align o 1)
      go None = one
      go (Some s) = shape_aligned s

  stated_or : (o : Option ℕ) (d : ℕ) → alignment_suits o ≡ true → IsAlignment d → IsAlignment (unwrap_or o d)
  stated_or None d h k = k
  stated_or (Some n) d h k = stated_aligned n h

  entry_aligned : (e : Entry) → IsStated e → IsAlignment (alignment_in parts e)
  entry_aligned e h = stated_or (stated e.global) (align_in parts e.part (type_of e.global)) h (type_aligned e.part (type_of e.global))

  stated_ones : (es : List Entry) → AllByRecursion IsStated es → AllByRecursion IsAlignment (filter_map (λ e. stated e.global) es)
  stated_ones [] h = tt
  stated_ones (e ∷ es) h = go (stated e.global) h.0 (stated_ones es h.1)
    where
      go : (o : Option ℕ) → alignment_suits o ≡ true → AllByRecursion IsAlignment (filter_map (λ (e : Entry). stated e.global) es) → AllByRecursion IsAlignment (cons_option o (filter_map (λ (e : Entry). stated e.global) es))
      go None k more = more
      go (Some n) k more = (stated_aligned n k, more)

  aligned_ones : (es : List Entry) → AllByRecursion IsStated es → AllByRecursion IsAlignment (map (alignment_in parts) es)
  aligned_ones [] h = tt
  aligned_ones (e ∷ es) h = (entry_aligned e h.0, aligned_ones es h.1)

  -- a symbol that is defined
  defined_aligned : (e : Entry) (es : List Entry) → IsStated e → AllByRecursion IsStated es → IsAlignment (alignment_by parts e es)
  defined_aligned e es h k = go (is_appending (linkage_of e.global)) (is_common (linkage_of e.global))
    where
      go : (a c : Bool) → IsAlignment (if a then unwrap_or (greatest_stated es) (align_in parts e.part (type_of e.global)) else (if c then unwrap_or (greatest_common parts es) (alignment_in parts e) else alignment_in parts e))
      go true c = greatest_or (filter_map (λ (e : Entry). stated e.global) es) (align_in parts e.part (type_of e.global)) (stated_ones es k) (type_aligned e.part (type_of e.global))
      go false true =
          greatest_or (map (alignment_in parts) (commons es)) (alignment_in parts e) (aligned_ones (commons es) (all_filter IsStated (λ (e : Entry). is_common (linkage_of e.global)) es k)) (entry_aligned e h)
      go false false = entry_aligned e h

  definitions_stated : (s : Symbol) → AllByRecursion IsStated (definitions parts s)
  definitions_stated s = all_filter IsStated is_definition (entries_of parts s) (all_filter IsStated (λ d. same_symbol s (symbol_of d)) (entries parts) all_stated)

  abbrev IsAligned : Symbol × Room → Type 0
  IsAligned row = IsAlignment row.1.alignment

  rows_aligned : (ss : List Symbol) → AllByRecursion IsAligned (filter_map (λ s. option_map {U = Symbol × Room} (λ r. (s, r)) (room parts s)) ss)
  rows_aligned [] = tt
  rows_aligned (s ∷ ss) = go (home parts s) refl (rows_aligned ss)
    where
      rows : List (Symbol × Room)
      rows = filter_map (λ s. option_map {U = Symbol × Room} (λ r. (s, r)) (room parts s)) ss

      go : (o : Option Entry) → home parts s ≡ o → AllByRecursion IsAligned rows
          → AllByRecursion IsAligned (cons_option (option_map {U = Symbol × Room} (λ r. (s, r)) (option_map {U = Room} (λ e. record { size = size_by parts e (definitions parts s); alignment = alignment_by parts e (definitions parts s) }) o)) rows)
      go None q more = more
      go (Some e) q more = (defined_aligned e (definitions parts s) (home_is parts IsStated s e all_stated q).0.0 (definitions_stated s), more)

  pub rooms_aligned : AllByRecursion IsAligned (rooms parts)
  rooms_aligned = rows_aligned (variable_symbols parts)
