-- The number of an entry is that of its kind in its part.
use Rattle.std.proofs.Common.{◌≡◌, ◌<◌, List, length, slice_get, Some, ap, subst}
use Rattle.module_arena.specs.Known.{HasGlobal, counts}
use Rattle.module_arena.specs.Lists.{Lists}
use Rattle.linkage_rules.specs.declared.entry.EntryId.{EntryId}
use Rattle.linkage_rules.specs.declared.symbol.SymbolKind.TheVariants as kind
use Rattle.linkage_rules.specs.Ids.{IsEntryId, global_of}
use Rattle.linkage_rules.proofs.Seen.{known_global}

module _ (parts : List Lists) (id : EntryId) (a : Lists) (known : IsEntryId parts id) (there : slice_get parts id.part ≡ Some a) where
  pub variable_within : id.kind ≡ kind.Variable → id.number < length a.variables
  variable_within is = subst (HasGlobal (counts a)) (ap (λ k. global_of k id.number) is) (known_global parts id a known there)

  pub function_within : id.kind ≡ kind.Function → id.number < length a.functions
  function_within is = subst (HasGlobal (counts a)) (ap (λ k. global_of k id.number) is) (known_global parts id a known there)

  pub alias_within : id.kind ≡ kind.Alias → id.number < length a.aliases
  alias_within is = subst (HasGlobal (counts a)) (ap (λ k. global_of k id.number) is) (known_global parts id a known there)
