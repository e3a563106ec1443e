-- The symbol at a place is defined, or has no definition.
use Rattle.std.proofs.Common.{◌≡◌, ℕ, ◌+◌, ◌<◌, List, length, take, slice_get, Some, None, OnOk, Result, Ok, Err, refl, sym, subst, ap, ◌∙◌, arith}
use Rattle.std.proofs.lemmas.Option.{slice_get_within}
use Rattle.linkage_rules.specs.declared.entry.EntryId.{EntryId}
use Rattle.linkage_rules.specs.declared.symbol.Symbol.{Symbol}
use Rattle.linkage_rules.specs.Globals.{Global}
use Rattle.linkage_rules.specs.Grouped.{group_in, home_in}
use Rattle.linkage_rules.specs.Ids.{IsEntryId, modules}
use Rattle.linkage_rules.specs.Resolved.{Resolved}
use Rattle.module_arena.specs.Lists.{Lists}
use Rattle.module_arena.specs.Module.{Bytes}
use Rattle.module_arena.specs.View.{module_of}
use Rattle.module_arena.specs.declared.entry.GlobalId.{GlobalId}
use Rattle.module_arena.specs.declared.entry.GlobalId.TheVariants as global
use Rattle.link_rules.specs.Linked.{linked_globals}
use Rattle.item_build.specs.Types.Declarations.{AreUntargeted}
use Rattle.entry_copy.specs.Tables.{Tables}
use Rattle.module_linker.specs.Stages.Declared.{ids_of}
use Rattle.module_linker.specs.Stages.Filled.{defined_as}
use Rattle.module_linker.specs.Stages.Parts.{IsResolved}
use Rattle.module_linker.specs.Stages.Definitions.{definition_of}
use Rattle.module_linker.specs.Filling.Filling.{IsBare, IsBareEntry, IsFilling, KeepsCopied, aliases_among}
use Rattle.module_linker.proofs.OnFilling.Homes.{IsOfKind, definition_here, global_here, home_is_entry, kind_same, linked_there, name_here, nothing_to_define}
use Rattle.module_linker.proofs.OnFilling.Keeping.{keeps_itself, untargeted_still}
use Rattle.module_linker.proofs.OnFilling.Steps.{aliases_no_fewer, bare_there, filled_more, id_is, next_alias, one_alias_more}

pub three_ok : {A E P Q R S : Type 0} (r : Result A E) → (P → Q → R → S) → OnOk r P → OnOk r Q → OnOk r R → OnOk r S
three_ok (Ok x) f p q s = f p q s
three_ok (Err e) f p q s = tt

module _ (parts : List Lists) (r : Resolved) (resolved : IsResolved parts r) (k : ℕ) (s : Symbol) (at : slice_get r.symbols k ≡ Some s) (b : Lists) (tables : List Tables) (h : IsFilling parts k b tables) (id : GlobalId)
    (is : slice_get (ids_of (modules parts)) k ≡ Some id) where
  -- no part defines it
  pub left_declared : home_in r.groups r.homes s ≡ None → IsFilling parts (k + 1) b tables
  left_declared none =
      let g = global_here parts r resolved k s at in
      let there = linked_there parts r resolved k s at in
      filled_more parts k b tables h g id there is b (nothing_to_define parts r resolved k s at none (module_of b) id) (keeps_itself b)
      (untargeted_still b b (aliases_among k (modules parts)) (aliases_among (k + 1) (modules parts)) (aliases_no_fewer parts k b tables h g id there is) refl h.untargeted)

  module _ (home : EntryId) (found : home_in r.groups r.homes s ≡ Some home) where
    -- its name
    abbrev pub name_of_it : Bytes
    name_of_it = name_here parts r resolved k s at

    -- what is written of it
    abbrev written : Global
    written = definition_of parts home (group_in r.groups s) name_of_it

    same : global_here parts r resolved k s at ≡ written
    same = definition_here parts r resolved k s at home found

    there : slice_get (linked_globals (modules parts)) k ≡ Some written
    there = linked_there parts r resolved k s at ∙ ap Some same

    pub home_known : IsEntryId parts home
    home_known = home_is_entry parts r resolved k s at home found

    -- it is declared, and is of its home's kind
    pub bare_definition : IsBare b id (definition_of parts home (group_in r.groups s) name_of_it)
    bare_definition = bare_there parts k b tables h written id there is

    pub kind_here : IsOfKind id home.kind
    kind_here =
        subst (λ i. IsOfKind i home.kind) (sym (id_is parts k b tables h written id there is))
        (kind_same parts home home_known (group_in r.groups s) name_of_it (take k (linked_globals (modules parts))))

    -- its home is in one of the parts, each of which has a table
    pub home_within : home.part < length parts
    home_within = slice_get_within parts home.part home_known.0 home_known.1

    pub table_within : home.part < length tables
    table_within = let within = home_within in let count = h.copied.count in omega (arith, within, count)

    -- of what is declared all is known that its definition takes
    pub bare_of_part : (a : Lists) (t : Tables) → slice_get parts home.part ≡ Some a → slice_get tables home.part ≡ Some t → IsBareEntry parts tables home (group_in r.groups s) name_of_it a b t id
    bare_of_part a t at_home by_table = record {
      there = at_home;
      copied_by = by_table;
      copied = h.copied;
      new_ids = h.new_ids;
      is_bare = bare_definition;
    }

    module _ (c : Lists) (made : module_of c ≡ defined_as (module_of b) id (definition_of parts home (group_in r.groups s) name_of_it)) (keeps : KeepsCopied b c) where
      -- a variable or a function
      pub plain_defined : c.aliases ≡ b.aliases → IsFilling parts (k + 1) c tables
      plain_defined aliases = filled_more parts k b tables h written id there is c made keeps (untargeted_still b c (aliases_among k (modules parts)) (aliases_among (k + 1) (modules parts)) (aliases_no_fewer parts k b tables h written id there is) aliases h.untargeted)

      -- an alias
      pub alias_defined : (n : ℕ) → id ≡ global.Alias n → AreUntargeted (n + 1) c → IsFilling parts (k + 1) c tables
      alias_defined n e behind = filled_more parts k b tables h written id there is c made keeps (subst (λ m. AreUntargeted m c) (one_alias_more parts k b tables h written id there is n e) behind)

    pub alias_untargeted : (n : ℕ) → id ≡ global.Alias n → AreUntargeted n b
    alias_untargeted n e = subst (λ m. AreUntargeted m b) (sym (next_alias parts k b tables h written id there is n e)) h.untargeted
