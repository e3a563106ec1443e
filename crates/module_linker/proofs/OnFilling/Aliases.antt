-- The target of an alias that is defined, by its new id.
use Rattle.std.proofs.Common.{◌≡◌, ℕ, List, [], slice_get, Option, Some, IsSome, refl, sym, subst, ap, ◌∙◌}
use Rattle.std.specs.Option.{option_map_or}
use Rattle.module_arena.specs.Changes.{alias_in, targeted}
use Rattle.module_arena.specs.Known.{HasGlobal, IsGood, counts}
use Rattle.module_arena.specs.Lists.{Lists, name_at}
use Rattle.module_arena.specs.Module.{Bytes, Module}
use Rattle.module_arena.specs.declared.entry.Alias as the_alias
use Rattle.module_arena.specs.declared.entry.GlobalId.{GlobalId}
use Rattle.module_arena.specs.declared.entry.GlobalId.TheVariants as global
use Rattle.linkage_rules.specs.declared.entry.EntryId.{EntryId}
use Rattle.linkage_rules.specs.declared.symbol.SymbolKind.TheVariants as kind
use Rattle.linkage_rules.specs.Entries.{Entry}
use Rattle.linkage_rules.specs.Globals.{OfAlias}
use Rattle.linkage_rules.specs.Ids.{modules}
use Rattle.linkage_rules.proofs.Seen.{alias_seen}
use Rattle.link_rules.specs.Linked.{linked_alias, linked_definition}
use Rattle.link_rules.specs.Rename as rename
use Rattle.entry_copy.specs.Tables.{Tables, new_global}
use Rattle.entry_copy.proofs.ConstantsCopied.{name_is}
use Rattle.linkage_rules.proofs.OnResolving.Targets.{known_target}
use Rattle.module_linker.specs.Stages.Copied.{AreCopied}
use Rattle.module_linker.specs.Stages.Filled.{defined_as}
use Rattle.module_linker.specs.Stages.NewIds.{AllHaveNewIds}
use Rattle.module_linker.specs.Stages.Definitions.{definition_of, entries_defined}
use Rattle.module_linker.proofs.OnFilling.Copied.{part_copied}

module _ (parts : List Lists) (home : EntryId) (a : Lists) (there : slice_get parts home.part ≡ Some a) (is : home.kind ≡ kind.Alias) (x : the_alias.Alias) (at : slice_get a.aliases home.number ≡ Some x) where
  -- what is written of it
  pub alias_written : (ids : List EntryId) (name : Bytes) → definition_of parts home ids name ≡ OfAlias (linked_alias (modules parts) name home.part (alias_in a x))
  alias_written ids name =
      let es = entries_defined parts ids in
      ap (λ (e : Entry). linked_definition (modules parts) name e es e.global) (alias_seen parts home a there x is at)

  module _ (good : IsGood a) (g : GlobalId) (given : x.target ≡ Some g) where
    target_known : HasGlobal (counts a) g
    target_known = known_target a good home.number x g at given

    module _ (b : Lists) (tables : List Tables) (t : Tables) (copied : AreCopied parts b tables) (ids : AllHaveNewIds parts b tables) (by : slice_get tables home.part ≡ Some t) where
      pub new_there : IsSome (new_global t g)
      new_there = let new = (ids home.part a t there by).each g (name_at a g) (name_is a g target_known) in subst IsSome (sym new.is) refl

      module _ (new : GlobalId) (e : new_global t g ≡ Some new) where
        pub new_known : HasGlobal (counts b) new
        new_known = ((part_copied parts b tables copied ids home.part a t there by).constants.entries g new target_known e).0

        pub target_written : (m : Module) (id : ℕ) (entries : List EntryId) (name : Bytes) → targeted m id (name_at b new) ≡ defined_as m (global.Alias id) (definition_of parts home entries name)
        target_written m id entries name =
            ap (targeted m id) (((part_copied parts b tables copied ids home.part a t there by).constants.entries g new target_known e).1)
            ∙ sym (ap (λ (o : Option GlobalId). targeted m id (rename.new_global (modules parts) home.part (option_map_or (name_at a) o []))) given)
            ∙ sym (ap (defined_as m (global.Alias id)) (alias_written entries name))
