-- The room of a symbol, from where it is defined.
use Rattle.std.proofs.Common.{◌≡◌, List, map, filter, Option, Some, None, sym, ap, ◌∙◌}
use Rattle.std.specs.Option.{option_map}
use Rattle.module_arena.specs.Lists.{Lists}
use Rattle.linkage_rules.specs.declared.entry.EntryId.{EntryId}
use Rattle.linkage_rules.specs.declared.symbol.Symbol.{Symbol}
use Rattle.linkage_rules.specs.Entries.{Entry}
use Rattle.linkage_rules.specs.Grouped.{Rows, group_in, home_in, AreGroups, AreHomes}
use Rattle.linkage_rules.specs.Ids.{modules, seen}
use Rattle.linkage_rules.specs.Addresses.{Room, room, size_by, alignment_by}
use Rattle.linkage_rules.specs.Winner.{home, definitions, is_definition}
use Rattle.linkage_rules.proofs.Standing.{home_at}
use Rattle.linkage_rules.specs.declared.resolving.room.Room as the_room
use Rattle.linkage_rules.specs.Resolving.Places.{clamped, room_told}

module _ (parts : List Lists) (rows : Rows) (homes : List (Option EntryId)) (groups : AreGroups parts rows) (are : AreHomes parts (map (λ r. r.0) rows) homes) (s : Symbol) where
  home_from : (o : Option EntryId) → o ≡ home_in rows homes s → home (modules parts) s ≡ option_map (seen (modules parts)) o
  home_from o is = sym (home_at parts rows homes are groups s) ∙ ap (option_map (seen (modules parts))) (sym is)

  room_from : (o : Option Entry) → home (modules parts) s ≡ o → room (modules parts) s ≡ option_map {U = Room} (λ e. record { size = size_by (modules parts) e (definitions (modules parts) s); alignment = alignment_by (modules parts) e (definitions (modules parts) s) }) o
  room_from o is = ap (option_map {U = Room} (λ e. record { size = size_by (modules parts) e (definitions (modules parts) s); alignment = alignment_by (modules parts) e (definitions (modules parts) s) })) is

  pub no_room : None ≡ home_in rows homes s → None ≡ option_map room_told (room (modules parts) s)
  no_room is = sym (ap (option_map room_told) (room_from None (home_from None is)))

  pub room_is : (id : EntryId) (ids : List EntryId) (r : the_room.Room) → Some id ≡ home_in rows homes s → ids ≡ group_in rows s
      → r.size ≡ clamped (size_by (modules parts) (seen (modules parts) id) (filter is_definition (map (seen (modules parts)) ids)))
      → r.alignment ≡ alignment_by (modules parts) (seen (modules parts) id) (filter is_definition (map (seen (modules parts)) ids)) → Some r ≡ option_map room_told (room (modules parts) s)
  room_is id ids r is group size alignment = ap Some same ∙ sym (ap (option_map room_told) (room_from (Some (seen (modules parts) id)) (home_from (Some id) is)))
    where
      listed : filter is_definition (map (seen (modules parts)) ids) ≡ definitions (modules parts) s
      listed = ap (filter is_definition) (ap (map (seen (modules parts))) group ∙ groups.groups s)

      sizes : r.size ≡ clamped (size_by (modules parts) (seen (modules parts) id) (definitions (modules parts) s))
      sizes = size ∙ ap (λ es. clamped (size_by (modules parts) (seen (modules parts) id) es)) listed

      alignments : r.alignment ≡ alignment_by (modules parts) (seen (modules parts) id) (definitions (modules parts) s)
      alignments = alignment ∙ ap (alignment_by (modules parts) (seen (modules parts) id)) listed

      same : r ≡ room_told (record { size = size_by (modules parts) (seen (modules parts) id) (definitions (modules parts) s); alignment = alignment_by (modules parts) (seen (modules parts) id) (definitions (modules parts) s) })
      same = λ j. record { size = sizes j; alignment = alignments j }
