-- What a symbol means and what is behind it, from where it is defined.
use Rattle.std.proofs.Common.{◌≡◌, ◌⊎◌, inl, inr, true, false, List, map, Option, Some, None, refl, sym, ap, ◌∙◌, subst}
use Rattle.std.specs.Option.{option_map}
use Rattle.std.proofs.lemmas.Bool.{cond-true, cond-false}
use Rattle.module_arena.specs.Known.{counts, HasGlobal}
use Rattle.module_arena.specs.Lists.{Lists}
use Rattle.linkage_rules.specs.declared.resolving.bound.Bound.TheVariants as told
use Rattle.linkage_rules.specs.Resolving.Meanings.{bound_view}
use Rattle.linkage_rules.specs.declared.entry.EntryId.{EntryId}
use Rattle.linkage_rules.specs.declared.symbol.SymbolKind.TheVariants as kind
use Rattle.linkage_rules.specs.Bind.{Definition, Appended, bound_to, undefined, target_of, behind_from, behind, own_meaning}
use Rattle.linkage_rules.specs.declared.symbol.Symbol.{Symbol}
use Rattle.linkage_rules.specs.Entries.{Entry, symbol_in}
use Rattle.linkage_rules.specs.Globals.{linkage_of, target_name}
use Rattle.linkage_rules.specs.Grouped.{Rows, home_in, AreGroups, AreHomes}
use Rattle.linkage_rules.specs.Ids.{IsEntryId, modules, seen, global_id, global_of}
use Rattle.linkage_rules.specs.Linkages.{is_appending}
use Rattle.linkage_rules.specs.Winner.{home}
use Rattle.linkage_rules.proofs.Seen.{get_within, variable_seen, function_seen, alias_seen, entry_seen}
use Rattle.linkage_rules.proofs.Standing.{home_at}

module _ (parts : List Lists) (s : Symbol) (id : EntryId) (known : IsEntryId parts id) where
  -- the target of an alias
  pub alias_target : id.kind ≡ kind.Alias → target_of (modules parts) s (seen (modules parts) id).part (seen (modules parts) id).global ≡ symbol_in (modules parts) id.part (target_name (seen (modules parts) id).global)
  alias_target is =
      let x = get_within known.0.aliases id.number (subst (λ k. HasGlobal (counts known.0) (global_of k id.number)) is known.2) in
      let e = alias_seen parts id known.0 known.1 x.0 is x.1 in
      subst (λ (z : Entry). target_of (modules parts) s z.part z.global ≡ symbol_in (modules parts) id.part (target_name z.global)) (sym e) refl

  -- a variable or function is behind itself
  pub variable_target : id.kind ≡ kind.Variable → target_of (modules parts) s (seen (modules parts) id).part (seen (modules parts) id).global ≡ s
  variable_target is =
      let x = get_within known.0.variables id.number (subst (λ k. HasGlobal (counts known.0) (global_of k id.number)) is known.2) in
      ap (λ (z : Entry). target_of (modules parts) s z.part z.global) (variable_seen parts id known.0 known.1 x.0 is x.1)

  pub function_target : id.kind ≡ kind.Function → target_of (modules parts) s (seen (modules parts) id).part (seen (modules parts) id).global ≡ s
  function_target is =
      let x = get_within known.0.functions id.number (subst (λ k. HasGlobal (counts known.0) (global_of k id.number)) is known.2) in
      ap (λ (z : Entry). target_of (modules parts) s z.part z.global) (function_seen parts id known.0 known.1 x.0 is x.1)

  pub plain_target : (id.kind ≡ kind.Variable) ⊎ (id.kind ≡ kind.Function) → target_of (modules parts) s (seen (modules parts) id).part (seen (modules parts) id).global ≡ s
  plain_target (inl is) = variable_target is
  plain_target (inr is) = function_target is

  -- what is told of a definition is that entry
  pub definition_told : bound_view (modules parts) (told.Definition id.part (global_id id)) ≡ Some (Definition (seen (modules parts) id))
  definition_told = ap (option_map Definition) (entry_seen parts id known)

module _ (parts : List Lists) (rows : Rows) (homes : List (Option EntryId)) (groups : AreGroups parts rows) (are : AreHomes parts (map (λ r. r.0) rows) homes) (s : Symbol) where
  home_from : (o : Option EntryId) → o ≡ home_in rows homes s → home (modules parts) s ≡ option_map (seen (modules parts)) o
  home_from o is = sym (home_at parts rows homes are groups s) ∙ ap (option_map (seen (modules parts))) (sym is)

  module _ (id : EntryId) (is : Some id ≡ home_in rows homes s) where
    pub behind_some : behind (modules parts) s ≡ target_of (modules parts) s (seen (modules parts) id).part (seen (modules parts) id).global
    behind_some = ap (behind_from (modules parts) s) (home_from (Some id) is)

    pub appended : is_appending (linkage_of (seen (modules parts) id).global) ≡ true → own_meaning (modules parts) s ≡ Appended s
    appended t = ap (bound_to (modules parts) s) (home_from (Some id) is) ∙ cond-true (is_appending (linkage_of (seen (modules parts) id).global)) _ _ t

    pub defined : is_appending (linkage_of (seen (modules parts) id).global) ≡ false → own_meaning (modules parts) s ≡ Definition (seen (modules parts) id)
    defined t = ap (bound_to (modules parts) s) (home_from (Some id) is) ∙ cond-false (is_appending (linkage_of (seen (modules parts) id).global)) _ _ t

  pub behind_none : None ≡ home_in rows homes s → behind (modules parts) s ≡ s
  behind_none is = ap (behind_from (modules parts) s) (home_from None is)

  pub not_defined : None ≡ home_in rows homes s → own_meaning (modules parts) s ≡ undefined (modules parts) s
  not_defined is = ap (bound_to (modules parts) s) (home_from None is)
