-- One entry more of the linked module is defined.
use Rattle.std.proofs.Common.{◌≡◌, ℕ, ◌+◌, ◌≤◌, List, [], ◌∷◌, ◌++◌, length, map, take, drop, filter_map, slice_get, Some, refl, sym, ap, ◌∙◌, append_assoc, append-nil, arith}
use Rattle.std.specs.Prelude.{option_to_list}
use Rattle.std.proofs.lemmas.List.{length-append}
use Rattle.linkage_rules.specs.Globals.{Global, OfAlias, OfFunction, OfVariable}
use Rattle.linkage_rules.specs.Ids.{global_at, modules}
use Rattle.linkage_rules.proofs.Steps.{drop_more, drop_whole, take_more, take_whole}
use Rattle.module_arena.specs.Lists.{Lists}
use Rattle.module_arena.specs.Module.{Module}
use Rattle.module_arena.specs.View.{module_of}
use Rattle.module_arena.specs.declared.entry.GlobalId.{GlobalId}
use Rattle.module_arena.specs.declared.entry.GlobalId.TheVariants as global
use Rattle.link_rules.specs.Linked.{alias_if, link_result, linked_globals}
use Rattle.item_build.specs.Types.Declarations.{AreUntargeted}
use Rattle.item_build.proofs.Walked.{taken}
use Rattle.entry_copy.specs.Tables.{Tables}
use Rattle.module_linker.specs.Stages.Declared.{bare, ids_of, with_globals}
use Rattle.module_linker.specs.Stages.Filled.{defined_as, filled_to}
use Rattle.module_linker.specs.Stages.Ground.{ground}
use Rattle.module_linker.specs.Filling.Filling.{IsBare, IsFilling, KeepsCopied, aliases_among}
use Rattle.module_linker.proofs.OnFilling.Filled.{entry_found, entry_set, id_found, id_of}

-- behind the last entry all are defined
pub all_filled : (parts : List Module) (k : ℕ) → k ≡ length (linked_globals parts) → filled_to k parts ≡ link_result parts
all_filled parts k e =
    let L = linked_globals parts in
    ap (λ n. filled_to n parts) e
    ∙ ap (λ l. with_globals (ground parts) (l ++ map bare (drop (length L) L))) (take_whole L)
    ∙ ap (λ l. with_globals (ground parts) (L ++ map bare l)) (drop_whole L)
    ∙ ap (with_globals (ground parts)) (append-nil L)

module _ (parts : List Lists) (k : ℕ) (b : Lists) (tables : List Tables) (h : IsFilling parts k b tables) (g : Global) (id : GlobalId) (here : slice_get (linked_globals (modules parts)) k ≡ Some g)
    (at : slice_get (ids_of (modules parts)) k ≡ Some id) where
  abbrev L : List Global
  L = linked_globals (modules parts)

  abbrev before : List Global
  before = take k L

  abbrev behind : List Global
  behind = map bare (drop (k + 1) L)

  split : module_of b ≡ with_globals (ground (modules parts)) (before ++ bare g ∷ behind)
  split = h.made ∙ ap (λ l. with_globals (ground (modules parts)) (before ++ map bare l)) (drop_more L k g here)

  joined : with_globals (ground (modules parts)) (before ++ g ∷ behind) ≡ filled_to (k + 1) (modules parts)
  joined =
      ap (with_globals (ground (modules parts))) (sym (append_assoc before (g ∷ []) behind))
      ∙ ap (λ l. with_globals (ground (modules parts)) (l ++ behind)) (sym (take_more L k g here))

  pub id_is : id ≡ id_of before g
  id_is = id_found L k g id here at

  -- the entry is declared there
  pub bare_there : IsBare b id g
  bare_there = ap (λ m. global_at m id) split ∙ ap (global_at (with_globals (ground (modules parts)) (before ++ bare g ∷ behind))) id_is ∙ entry_found (modules parts) before behind g

  -- how many aliases there are then
  aliases_more : aliases_among (k + 1) (modules parts) ≡ aliases_among k (modules parts) + length (option_to_list (alias_if g))
  aliases_more = ap (λ l. length (filter_map alias_if l)) (take_more L k g here) ∙ ap length (taken alias_if before g) ∙ length-append (filter_map alias_if before) (option_to_list (alias_if g))

  pub aliases_no_fewer : aliases_among k (modules parts) ≤ aliases_among (k + 1) (modules parts)
  aliases_no_fewer = let e = aliases_more in omega (arith, e)

  pub next_alias : (n : ℕ) → id ≡ global.Alias n → n ≡ aliases_among k (modules parts)
  next_alias n e = by g (sym e ∙ id_is)
    where
      by : (x : Global) → global.Alias n ≡ id_of before x → n ≡ length (filter_map alias_if before)
      by (OfVariable v) same = cc
      by (OfFunction f) same = cc
      by (OfAlias a) same = cc

  pub one_alias_more : (n : ℕ) → id ≡ global.Alias n → n + 1 ≡ aliases_among (k + 1) (modules parts)
  one_alias_more n e = let place = next_alias n e in let more = aliases_more in let one = by g (sym e ∙ id_is) in omega (arith, place, more, one)
    where
      by : (x : Global) → global.Alias n ≡ id_of before x → length (option_to_list (alias_if x)) ≡ 1
      by (OfVariable v) same = cc
      by (OfFunction f) same = cc
      by (OfAlias a) same = refl

  -- one more is defined
  pub filled_more : (c : Lists) → module_of c ≡ defined_as (module_of b) id g → KeepsCopied b c → AreUntargeted (aliases_among (k + 1) (modules parts)) c → IsFilling parts (k + 1) c tables
  filled_more c made keeps untargeted = record {
    made = made ∙ ap (λ m. defined_as m id g) split ∙ ap (λ i. defined_as (with_globals (ground (modules parts)) (before ++ bare g ∷ behind)) i g) id_is ∙ entry_set (modules parts) before behind g ∙ joined;
    untargeted = untargeted;
    copied = record { count = h.copied.count; each = λ i a t there by. keeps.copies _ _ a t (h.copied.each i a t there by) };
    new_ids = λ i a t there by.
        let old = h.new_ids i a t there by in
        record {
          variables = old.variables;
          functions = old.functions;
          aliases = old.aliases;
          each = λ x name e. let new = old.each x name e in record { id = new.id; is = new.is; called = keeps.names new.id _ new.called };
        };
  }
