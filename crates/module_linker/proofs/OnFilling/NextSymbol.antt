-- The next symbol that is defined, which is defined in a part that stands.
use Rattle.std.proofs.Common.{◌≡◌, ◌⊎◌, inl, inr, ℕ, ◌+◌, ◌<◌, ◌≤◌, List, length, slice_get, Some, refl, sym, ap, ◌∙◌, subst, arith}
use Rattle.std.proofs.lemmas.Bool.{cases_lt}
use Rattle.std.proofs.lemmas.Option.{same_Some, slice_get_within}
use Rattle.linkage_rules.specs.declared.entry.EntryId.{EntryId}
use Rattle.linkage_rules.specs.Grouped.{group_in, home_in}
use Rattle.linkage_rules.specs.Ids.{IsEntryId}
use Rattle.module_arena.specs.Lists.{Lists}
use Rattle.module_arena.specs.Module.{Bytes}
use Rattle.module_arena.specs.View.{module_of}
use Rattle.module_arena.specs.declared.entry.GlobalId.{GlobalId}
use Rattle.module_arena.specs.declared.entry.GlobalId.TheVariants as global
use Rattle.item_build.specs.Types.Declarations.{AreUntargeted}
use Rattle.entry_copy.specs.Tables.{Tables}
use Rattle.module_linker.specs.Stages.Filled.{defined_as}
use Rattle.module_linker.specs.Stages.Definitions.{definition_of}
use Rattle.module_linker.specs.Filling.Filling.{IsBareEntry, IsFilling, KeepsCopied}
use Rattle.module_linker.specs.Filling.Standing.{ArePlainFrom, IsNext, IsPlainId}
use Rattle.module_linker.proofs.OnFilling.Defining.{alias_defined, alias_untargeted, bare_of_part, home_known, kind_here, name_of_it, plain_defined}
use Rattle.module_linker.proofs.OnFilling.Homes.{IsOfKind}
use Rattle.module_linker.proofs.OnFilling.Kept.{home_kept}

module _ (parts : List Lists) (tables : List Tables) (number : ℕ) (home : EntryId) (id : GlobalId) (a b : Lists) (t : Tables) (h : IsNext parts tables number home id a b t) where
  pub found : home_in h.kept.resolved_as.groups h.kept.resolved_as.homes h.kept.symbol ≡ Some home
  found = home_kept parts number h.origin h.kept (Some home) h.at_home

  -- its entries, and its name
  abbrev pub next_group : List EntryId
  next_group = group_in h.kept.resolved_as.groups h.kept.symbol

  abbrev pub next_name : Bytes
  next_name = name_of_it parts h.kept.resolved_as h.kept.resolved number h.kept.symbol h.kept.at b tables h.filling id h.is home found

  pub next_known : IsEntryId parts home
  next_known = home_known parts h.kept.resolved_as h.kept.resolved number h.kept.symbol h.kept.at b tables h.filling id h.is home found

  pub next_kind : IsOfKind id home.kind
  next_kind = kind_here parts h.kept.resolved_as h.kept.resolved number h.kept.symbol h.kept.at b tables h.filling id h.is home found

  pub next_bare : IsBareEntry parts tables home next_group next_name a b t id
  next_bare = bare_of_part parts h.kept.resolved_as h.kept.resolved number h.kept.symbol h.kept.at b tables h.filling id h.is home found a t h.there h.copied_by

  pub next_untargeted : (n : ℕ) → id ≡ global.Alias n → AreUntargeted n b
  next_untargeted n e = alias_untargeted parts h.kept.resolved_as h.kept.resolved number h.kept.symbol h.kept.at b tables h.filling id h.is home found n e

  -- it is defined
  module _ (c : Lists) (new : GlobalId) (is : id ≡ new) (made : module_of c ≡ defined_as (module_of b) new (definition_of parts home next_group next_name)) (keeps : KeepsCopied b c) where
    all_made : module_of c ≡ defined_as (module_of b) id (definition_of parts home next_group next_name)
    all_made = made ∙ ap (λ i. defined_as (module_of b) i (definition_of parts home next_group next_name)) (sym is)

    pub function_done : c.aliases ≡ b.aliases → IsFilling parts (number + 1) c tables
    function_done aliases = plain_defined parts h.kept.resolved_as h.kept.resolved number h.kept.symbol h.kept.at b tables h.filling id h.is home found c all_made keeps aliases

    pub alias_done : (n : ℕ) → id ≡ global.Alias n → AreUntargeted (n + 1) c → IsFilling parts (number + 1) c tables
    alias_done n e behind = alias_defined parts h.kept.resolved_as h.kept.resolved number h.kept.symbol h.kept.at b tables h.filling id h.is home found c all_made keeps n e behind

-- ---- ids of no variable

pub plain_id : (id : GlobalId) → ((n : ℕ) → id ≡ global.Variable n → ⊥) → IsPlainId id
plain_id (global.Variable n) none = absurd (none n refl)
plain_id (global.Function n) none = refl
plain_id (global.Alias n) none = refl

-- behind the last id there is none
pub plain_at_end : (ids : List GlobalId) → ArePlainFrom (length ids) ids
plain_at_end ids k id le at = let lt = slice_get_within ids k id at in absurd (omega (arith, le, lt))

-- one more
pub plain_more : (ids : List GlobalId) (first : ℕ) (id : GlobalId) → ArePlainFrom (first + 1) ids → slice_get ids first ≡ Some id → IsPlainId id → ArePlainFrom first ids
plain_more ids first id behind at is k other le there = by (cases_lt first k)
  where
    by : (first < k) ⊎ (k ≤ first) → IsPlainId other
    by (inl lt) = behind k other (omega (arith, lt)) there
    by (inr back) = let here : first ≡ k = omega (arith, le, back) in subst IsPlainId (same_Some id other (sym at ∙ ap (slice_get ids) here ∙ there)) is
