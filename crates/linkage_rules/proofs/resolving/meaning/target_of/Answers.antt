use Rattle.std.proofs.Common.{◌≡◌, Some, slice_get, subst}
use Rattle.linkage_rules.proofs.OnResolving.Targets.{some_target, known_target, target_named}
use Rattle.linkage_rules.proofs.resolving.meaning.target_of.Goals as goal

pub unwrap-target-requires : goal.unwrap-target-requires
unwrap-target-requires c =
    let a = c.arena_of-arena.result.now in
    let x = c.alias.result.now in
    some_target a c.arena_of-arena.ensures.well_formed c.args.id.number x (subst (λ n. slice_get a.aliases n ≡ Some x) c.new.ensures c.alias.ensures)

pub name-requires : goal.name-requires
name-requires c =
    let a = c.arena_of-arena.result.now in
    let x = c.alias.result.now in
    known_target a c.variable_count-count.ensures.good c.args.id.number x c.unwrap-target.result (subst (λ n. slice_get a.aliases n ≡ Some x) c.new.ensures c.alias.ensures) c.unwrap-target.ensures

pub returns : goal.returns
returns c =
    let a = c.arena_of-arena.result.now in
    let x = c.alias.result.now in
    target_named c.args.parts.now c.args.id a x c.unwrap-target.result c.name.result.now c.arena_of-arena.ensures.arena c.requires.alias (subst (λ n. slice_get a.aliases n ≡ Some x) c.new.ensures c.alias.ensures)
    c.unwrap-target.ensures c.name.ensures
