use Rattle.std.proofs.Common.{◌≡◌, ◌+◌, length, None, Some, slice_get, sym, subst, ap, ◌∙◌, arith}
use Rattle.std.specs.Option.{option_map}
use Rattle.std.proofs.lemmas.Option.{slice_get-map}
use Rattle.module_arena.specs.Lists.{Lists}
use Rattle.module_linker.specs.Filling.Filling.{IsFilling}
use Rattle.module_linker.specs.Filling.Standing.{AreStanding, IsNext}
use Rattle.module_linker.specs.declared.filling.standing.StandingParts.{StandingParts}
use Rattle.module_linker.proofs.OnFilling.Defining.{home_known, left_declared, table_within}
use Rattle.module_linker.proofs.OnFilling.Kept.{home_kept}
use Rattle.module_linker.proofs.OnFilling.Stands.{part_stands, same_part, standing_on}
use Rattle.module_linker.proofs.filling.filling.define_rest.Goals as goal
use Rattle.module_linker.proofs.filling.filling.define_rest.Goals.{in-Some+in_ok-define_in-in-Some, in-None}

pub numbers-init : goal.numbers-init
numbers-init c = record {
  filling = c.requires.filling;
  standing = standing_on 0 c.args.parts.items c.args.origins.now c.in_ok-standing.standing c.in_ok-standing.ensures c.args.first (omega arith);
}

pub origin_at-origin-requires : goal.origin_at-origin-requires
origin_at-origin-requires c = omega (arith, c.requires.many, c.numbers-test.true)

pub arena-arena-requires : goal.arena-arena-requires
arena-arena-requires c =
    let parts = c.args.parts.items in
    let n = c.numbers.number in
    let id = c.id_at-id.result in
    let x = c.origin_at-origin.result.now in
    let o = c.requires.origins n x c.origin_at-origin.ensures in
    let is = subst (λ l. slice_get l n ≡ Some id) c.requires.ids c.id_at-id.ensures in
    let home = c.in-Some.home in
    let known = home_known parts o.resolved_as o.resolved n o.symbol o.at c.numbers.into.arena c.args.copiers.now c.numbers.invariant.filling id is home (home_kept parts n x o (Some home) c.in-Some.is) in
    (known.0, part_stands n parts c.args.origins.now c.numbers.standing c.numbers.invariant.standing x home known.0 c.origin_at-origin.ensures c.in-Some.is (slice_get-map Some parts home.part ∙ ap (option_map Some) known.1))

pub copier_of-copier-requires : goal.copier_of-copier-requires
copier_of-copier-requires c =
    let parts = c.args.parts.items in
    let n = c.numbers.number in
    let id = c.id_at-id.result in
    let x = c.origin_at-origin.result.now in
    let o = c.requires.origins n x c.origin_at-origin.ensures in
    let is = subst (λ l. slice_get l n ≡ Some id) c.requires.ids c.id_at-id.ensures in
    table_within parts o.resolved_as o.resolved n o.symbol o.at c.numbers.into.arena c.args.copiers.now c.numbers.invariant.filling id is c.in-Some.home (home_kept parts n x o (Some c.in-Some.home) c.in-Some.is)

pub define_in-requires-clause-plain : goal.define_in-requires-clause-plain
define_in-requires-clause-plain c = c.requires.plain c.numbers.number c.id_at-id.result c.numbers.auto.number c.id_at-id.ensures

pub define_in-requires-clause-next : goal.define_in-requires-clause-next
define_in-requires-clause-next c =
    let parts = c.args.parts.items in
    let n = c.numbers.number in
    let id = c.id_at-id.result in
    let x = c.origin_at-origin.result.now in
    let o = c.requires.origins n x c.origin_at-origin.ensures in
    let is = subst (λ l. slice_get l n ≡ Some id) c.requires.ids c.id_at-id.ensures in
    let home = c.in-Some.home in
    let known = home_known parts o.resolved_as o.resolved n o.symbol o.at c.numbers.into.arena c.args.copiers.now c.numbers.invariant.filling id is home (home_kept parts n x o (Some home) c.in-Some.is) in
    let stands = part_stands n parts c.args.origins.now c.numbers.standing c.numbers.invariant.standing x home known.0 c.origin_at-origin.ensures c.in-Some.is (slice_get-map Some parts home.part ∙ ap (option_map Some) known.1) in (
      parts,
      c.args.copiers.now,
      n,
      record {
        origin = x;
        kept = o;
        at_home = c.in-Some.is;
        is = is;
        filling = c.numbers.invariant.filling;
        there = same_part c.numbers.standing.parts.items parts home.part known.0 c.arena-arena.result.now stands c.arena-arena.ensures.arena known.1;
        copied_by = c.copier_of-copier.ensures;
      },
    )

pub numbers-preserved : goal.numbers-preserved
numbers-preserved c =
    let parts = c.args.parts.items in
    let n = c.numbers.number in
    let id = c.id_at-id.result in
    let x = c.origin_at-origin.result.now in
    let o = c.requires.origins n x c.origin_at-origin.ensures in
    let is = subst (λ l. slice_get l n ≡ Some id) c.requires.ids c.id_at-id.ensures in
    elim c.match-origin.branch [
      | in-Some+in_ok-define_in-in-Some w ↦
          let home = w.in-Some.home in
          let known = home_known parts o.resolved_as o.resolved n o.symbol o.at c.numbers.into.arena c.args.copiers.now c.numbers.invariant.filling id is home (home_kept parts n x o (Some home) w.in-Some.is) in
          let stands = part_stands n parts c.args.origins.now c.numbers.standing c.numbers.invariant.standing x home known.0 c.origin_at-origin.ensures w.in-Some.is (slice_get-map Some parts home.part ∙ ap (option_map Some) known.1) in
          let next : IsNext parts c.args.copiers.now n home id w.arena-arena.result.now c.numbers.into.arena w.copier_of-copier.result.now = record {
            origin = x;
            kept = o;
            at_home = w.in-Some.is;
            is = is;
            filling = c.numbers.invariant.filling;
            there = same_part c.numbers.standing.parts.items parts home.part known.0 w.arena-arena.result.now stands w.arena-arena.ensures.arena known.1;
            copied_by = w.copier_of-copier.ensures;
          } in
          let made : c.match-origin.into.arena ≡ w.define_in.new.into.arena = cc in
          let left : c.match-origin.standing ≡ w.let_go_behind.new.self = cc in
          record {
            filling = subst (λ (b : Lists). IsFilling parts (n + 1) b c.args.copiers.now) (sym made) (w.in_ok-define_in-in-Some.ensures parts c.args.copiers.now n next);
            standing = subst (λ (s : StandingParts). AreStanding (n + 1) parts c.args.origins.now s) (sym left) (w.let_go_behind.ensures parts c.args.origins.now c.numbers.invariant.standing);
          }
      | in-None w ↦
          let made : c.match-origin.into.arena ≡ c.numbers.into.arena = cc in
          let left : c.match-origin.standing ≡ c.numbers.standing = cc in
          record {
            filling = subst (λ (b : Lists). IsFilling parts (n + 1) b c.args.copiers.now) (sym made)
                (left_declared parts o.resolved_as o.resolved n o.symbol o.at c.numbers.into.arena c.args.copiers.now c.numbers.invariant.filling id is (home_kept parts n x o None w.in-None.is));
            standing = subst (λ (s : StandingParts). AreStanding (n + 1) parts c.args.origins.now s) (sym left) (standing_on n parts c.args.origins.now c.numbers.standing c.numbers.invariant.standing (n + 1) (omega arith));
          }
    ]

pub returns : goal.returns
returns c =
    let end : c.numbers.number ≡ length c.args.new.now = omega (arith, c.numbers-test.false, c.numbers.auto.number-end c.requires.upto) in
    subst (λ n. IsFilling c.args.parts.items n c.numbers.into.arena c.args.copiers.now) end c.numbers.invariant.filling
