-- Of some entries one more is counted as a common definition, or not.
use Rattle.std.proofs.Common.{◌≡◌, ℕ, ◌+◌, Bool, true, false, ◌&&◌, List, [], ◌∷◌, ◌++◌, cond, length, slice_get, take, Some, refl, sym, ap, ◌∙◌, append-nil}
use Rattle.std.proofs.lemmas.Bool.{and_parts}
use Rattle.std.proofs.lemmas.List.{length_push}
use Rattle.module_arena.specs.Lists.{Lists}
use Rattle.linkage_rules.specs.declared.entry.EntryId.{EntryId}
use Rattle.linkage_rules.specs.Entries.{Entry}
use Rattle.linkage_rules.specs.Globals.{linkage_of}
use Rattle.linkage_rules.specs.Ids.{modules, seen}
use Rattle.linkage_rules.specs.Linkages as linkages
use Rattle.linkage_rules.specs.Addresses.{commons}
use Rattle.linkage_rules.specs.Winner.{is_definition}
use Rattle.linkage_rules.proofs.Steps.{filter_more}
use Rattle.linkage_rules.proofs.OnResolving.Joined.{kept, skipped}
use Rattle.module_linker.specs.Entries.Definitions.{entries_defined}

-- a common definition
abbrev is_common : Entry → Bool
is_common e = is_definition e && linkages.is_common (linkage_of e.global)

module _ (parts : List Lists) (ids : List EntryId) (k : ℕ) (x : EntryId) (at : slice_get ids k ≡ Some x) where
  abbrev e : Entry
  e = seen (modules parts) x

  abbrev before : List Entry
  before = entries_defined parts (take k ids)

  defined : is_definition e ≡ true → length (commons (entries_defined parts (take (k + 1) ids))) ≡ length (commons before ++ cond (linkages.is_common (linkage_of e.global)) (e ∷ []) [])
  defined t = ap (λ es. length (commons es)) (kept (modules parts) ids k x at t) ∙ ap length (filter_more (λ (y : Entry). linkages.is_common (linkage_of y.global)) before e)

  pub common_more : is_common e ≡ true → length (commons (entries_defined parts (take (k + 1) ids))) ≡ length (commons before) + 1
  common_more t =
      let both = and_parts (is_definition e) (linkages.is_common (linkage_of e.global)) t in
      defined both.0 ∙ ap (λ b. length (commons before ++ cond b (e ∷ []) [])) both.1 ∙ length_push (commons before) e

  pub common_same : is_common e ≡ false → length (commons (entries_defined parts (take (k + 1) ids))) ≡ length (commons before)
  common_same f = go (is_definition e) refl
    where
      go : (d : Bool) → is_definition e ≡ d → length (commons (entries_defined parts (take (k + 1) ids))) ≡ length (commons before)
      go true t = defined t ∙ ap (λ b. length (commons before ++ cond b (e ∷ []) [])) (sym (ap (λ d. d && linkages.is_common (linkage_of e.global)) t) ∙ f) ∙ ap length (append-nil (commons before))
      go false t = ap (λ es. length (commons es)) (skipped (modules parts) ids k x at t)
