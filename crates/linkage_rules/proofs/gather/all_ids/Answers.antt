use Rattle.std.proofs.Common.{◌≡◌, ◌+◌, ◌++◌, length, take, drop, sym, ap, ◌∙◌, subst, append-nil, append_assoc, arith, All}
use Rattle.std.proofs.lemmas.List.Elements.{All-push}
use Rattle.module_arena.specs.Sound.{IsSound}
use Rattle.linkage_rules.specs.Grouped.{AreIds, ids_of, ids_from}
use Rattle.linkage_rules.proofs.Gathered.{are_ids}
use Rattle.linkage_rules.proofs.Steps.{take_more, drop_more, take_whole, drop_whole}
use Rattle.linkage_rules.proofs.gather.all_ids.Goals as goal

pub loop-part-preserved : goal.loop-part-preserved
loop-part-preserved c =
    let parts = c.args.parts.now in
    let k = c.loop-part.part in
    let a = c.arena_of.result.now in
    record {
      rest =
          ap (λ l. l ++ ids_from (k + 1) (drop (k + 1) parts)) c.in_ok-push_part.ensures
          ∙ append_assoc c.loop-part.ids.items (ids_of k a) (ids_from (k + 1) (drop (k + 1) parts))
          ∙ sym (ap (λ l. c.loop-part.ids.items ++ ids_from k l) (drop_more parts k a c.arena_of.ensures.arena))
          ∙ c.loop-part.invariant.rest;
      sound =
          subst (All IsSound) (sym (take_more parts k a c.arena_of.ensures.arena))
          (All-push IsSound (take k parts) a c.loop-part.invariant.sound (record { well_formed = c.arena_of.ensures.well_formed; valid = c.arena_of.ensures.valid }));
    }

pub returns-clause-ids : goal.returns-clause-ids
returns-clause-ids c =
    let parts = c.args.parts.now in
    let items = c.loop-part.ids.items in
    let end : c.loop-part.part ≡ length parts = omega (arith, c.loop-part-test.false, c.loop-part.auto.part-end) in
    subst (AreIds parts)
    (sym (sym (append-nil items) ∙ ap (λ l. items ++ ids_from c.loop-part.part l) (sym (ap (λ n. drop n parts) end ∙ drop_whole parts)) ∙ c.loop-part.invariant.rest))
    (are_ids parts)

pub returns-clause-sound : goal.returns-clause-sound
returns-clause-sound c =
    let parts = c.args.parts.now in
    let end : c.loop-part.part ≡ length parts = omega (arith, c.loop-part-test.false, c.loop-part.auto.part-end) in
    subst (All IsSound) (ap (λ n. take n parts) end ∙ take_whole parts) c.loop-part.invariant.sound
