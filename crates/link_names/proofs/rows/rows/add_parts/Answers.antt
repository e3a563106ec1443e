use Rattle.std.proofs.Common.{◌≡◌, ◌+◌, ℕ, List, length, sym, subst, arith}
use Rattle.link_names.proofs.OnRows.Adding.{AreAdded, added_more}
use Rattle.link_names.proofs.OnRows.Ending.{added_none, all_sound, names_are, numbers_are}
use Rattle.link_names.proofs.rows.rows.add_parts.Goals as goal

pub parts-init : goal.parts-init
parts-init c = added_none c.args.parts.now c.args.rows.now c.new-numbers.result c.new-numbers.ensures c.requires

pub add_part-requires : goal.add_part-requires
add_part-requires c = record { part = c.parts-test.true; rows = c.parts.invariant.rows }

pub parts-preserved : goal.parts-preserved
parts-preserved c =
    let ps = c.args.parts.now in
    subst (λ (l : List (List ℕ)). AreAdded ps (c.parts.part + 1) c.add_part.new.self l) (sym c.in_ok-push.ensures.ok)
    (added_more ps c.parts.part c.arena_of-arena.result.now c.parts.rows c.add_part.new.self c.parts.numbers c.in_ok-list.list c.arena_of-arena.ensures.arena
    (record { well_formed = c.arena_of-arena.ensures.well_formed; valid = c.arena_of-arena.ensures.valid }) c.parts.invariant c.in_ok-list.ensures)

pub returns-clause-names : goal.returns-clause-names
returns-clause-names c =
    let end : c.parts.part ≡ length c.args.parts.now = omega (arith, c.parts-test.false, c.parts.auto.part-end) in
    names_are c.args.parts.now c.parts.part c.parts.rows c.parts.numbers end c.parts.invariant

pub returns-clause-numbers : goal.returns-clause-numbers
returns-clause-numbers c =
    let end : c.parts.part ≡ length c.args.parts.now = omega (arith, c.parts-test.false, c.parts.auto.part-end) in
    numbers_are c.args.parts.now c.parts.part c.parts.rows c.parts.numbers end c.parts.invariant

pub returns-clause-sound : goal.returns-clause-sound
returns-clause-sound c =
    let end : c.parts.part ≡ length c.args.parts.now = omega (arith, c.parts-test.false, c.parts.auto.part-end) in
    all_sound c.args.parts.now c.parts.part c.parts.rows c.parts.numbers end c.parts.invariant
