-- What is kept of the symbols while they are defined.
use Rattle.std.proofs.Common.{◌≡◌, ℕ, List, map, slice_get, Option, Some, None, refl, sym, ap, ◌∙◌}
use Rattle.std.specs.Option.{option_map}
use Rattle.std.proofs.lemmas.Option.{same_Some, slice_get-map}
use Rattle.linkage_rules.specs.Grouped.{group_in, home_in}
use Rattle.linkage_rules.specs.Resolved.{Resolved}
use Rattle.linkage_rules.specs.declared.entry.EntryId.{EntryId}
use Rattle.linkage_rules.specs.declared.symbol.Symbol.{Symbol}
use Rattle.linkage_rules.specs.declared.symbol.SymbolKind.TheVariants as kind
use Rattle.module_arena.specs.Lists.{Lists}
use Rattle.module_linker.specs.Stages.Parts.{IsResolved}
use Rattle.module_linker.specs.Filling.Origins.{IsOrigin, entries_kept, entries_of_kind, origin_in}
use Rattle.module_linker.specs.declared.filling.origins.SymbolOrigin.{SymbolOrigin}

origin_by : (parts : List Lists) (r : Resolved) (k : ℕ) (x : SymbolOrigin) (o : Option Symbol) → IsResolved parts r → slice_get r.symbols k ≡ o → option_map (origin_in r) o ≡ Some x → IsOrigin parts k x
origin_by parts r k x None resolved at is = absurd (cc)
origin_by parts r k x (Some s) resolved at is = record {
  resolved_as = r;
  symbol = s;
  resolved = resolved;
  at = at;
  is = sym (same_Some (origin_in r s) x is);
}

-- what is kept at a place is kept of the symbol there
pub origin_there : (parts : List Lists) (r : Resolved) (xs : List SymbolOrigin) (k : ℕ) (x : SymbolOrigin) → IsResolved parts r → xs ≡ map (origin_in r) r.symbols → slice_get xs k ≡ Some x → IsOrigin parts k x
origin_there parts r xs k x resolved are at =
    origin_by parts r k x (slice_get r.symbols k) resolved refl (sym (slice_get-map (origin_in r) r.symbols k) ∙ ap (λ l. slice_get l k) (sym are) ∙ at)

-- the home that is kept is the symbol's
pub home_kept : (parts : List Lists) (k : ℕ) (x : SymbolOrigin) (o : IsOrigin parts k x) (home : Option EntryId) → x.home ≡ home → home_in o.resolved_as.groups o.resolved_as.homes o.symbol ≡ home
home_kept parts k x o home is = sym (ap (λ (y : SymbolOrigin). y.home) o.is) ∙ is

-- the entries of a variable are kept
pub variable_kept : (parts : List Lists) (k : ℕ) (x : SymbolOrigin) (o : IsOrigin parts k x) (home : EntryId) → x.home ≡ Some home → home.kind ≡ kind.Variable → x.entries ≡ group_in o.resolved_as.groups o.symbol
variable_kept parts k x o home is of_kind =
    let es = group_in o.resolved_as.groups o.symbol in
    ap (λ (y : SymbolOrigin). y.entries) o.is ∙ ap (λ h. entries_kept h es) (home_kept parts k x o (Some home) is) ∙ ap (λ n. entries_of_kind n es) of_kind
