use Rattle.std.proofs.Common.{◌≡◌, List, Option, None, length, take, slice_get, sym, ap, subst, ◌∙◌, arith}
use Rattle.module_arena.specs.declared.entry.Alias.{Alias}
use Rattle.module_arena.specs.declared.entry.GlobalId.{GlobalId}
use Rattle.module_arena.specs.declared.entry.GlobalId.TheVariants as global
use Rattle.module_arena.specs.Known.{HasGlobal, counts}
use Rattle.module_arena.specs.Changes.{with_target}
use Rattle.module_arena.specs.Lists.{Lists}
use Rattle.bitcode_read.specs.Holding.Holding.{targeted_by}
use Rattle.bitcode_read.proofs.OnHolding.GivenInOrder.{length-each, each_later, given_next, none_next, all_given, at_each, at_given}
use Rattle.bitcode_read.proofs.holding.setting.set_targets.Goals as goal
use Rattle.bitcode_read.proofs.holding.setting.set_targets.Goals.{in-Some, in-None}

-- entries stay where targets are set
has_still : (a : Lists) (xs : List Alias) (g : GlobalId) → length xs ≡ length a.aliases → HasGlobal (counts a) g → HasGlobal (counts (record a { aliases = xs })) g
has_still a xs (global.Variable id) many h = h
has_still a xs (global.Function id) many h = h
has_still a xs (global.Alias id) many h = omega arith

-- what an alias is of
abbrev put : Alias → Option GlobalId → Alias
put v o = record v { target = o }

pub set_target-requires-clause-known : goal.set_target-requires-clause-known
set_target-requires-clause-known c =
    let many : length c.aliases.arena.aliases ≡ length c.args.arena.now.aliases = ap (λ (a : Lists). length a.aliases) c.aliases.invariant ∙ length-each put c.args.arena.now.aliases (take c.aliases.number c.args.targets.now) in
    omega (arith, many, c.alias_count-count.ensures, c.new.ensures)

pub set_target-requires-clause-untargeted : goal.set_target-requires-clause-untargeted
set_target-requires-clause-untargeted c = λ v is.
    at_each (λ (x : Alias). x.target ≡ None) c.args.arena.now.aliases c.aliases.number v c.requires.untargeted
    (sym (each_later put c.args.arena.now.aliases c.args.targets.now c.aliases.number)
    ∙ (sym (ap (λ (a : Lists). slice_get a.aliases c.aliases.number) c.aliases.invariant) ∙ (ap (λ n. slice_get c.aliases.arena.aliases n) (sym c.new.ensures) ∙ is)))

pub set_target-requires-clause-target : goal.set_target-requires-clause-target
set_target-requires-clause-target c =
    let here : HasGlobal (counts c.args.arena.now) c.in-Some.target = at_given (HasGlobal (counts c.args.arena.now)) c.args.targets.now c.aliases.number c.in-Some.target c.requires.known (sym c.in-Some.ensures) in
    subst (λ (a : Lists). HasGlobal (counts a) c.in-Some.target) (sym c.aliases.invariant)
    (has_still c.args.arena.now (targeted_by c.args.arena.now.aliases (take c.aliases.number c.args.targets.now)) c.in-Some.target (length-each put c.args.arena.now.aliases (take c.aliases.number c.args.targets.now)) here)

pub aliases-preserved : goal.aliases-preserved
aliases-preserved c =
    let vs = c.args.arena.now.aliases in
    let os = c.args.targets.now in
    let n = c.aliases.number in
    elim c.match-target_at.branch [
      | in-Some w ↦
          w.arena-is
          ∙ (w.set_target.ensures.set
          ∙ ((λ j. with_target (c.aliases.invariant j) (w.new.ensures j) w.in-Some.target) ∙ ap (λ l. record c.args.arena.now { aliases = l }) (sym (given_next put vs os n w.in-Some.target (sym w.in-Some.ensures)))))
      | in-None w ↦
          w.arena-is
          ∙ (c.aliases.invariant
          ∙ ap (λ l. record c.args.arena.now { aliases = l })
          (sym (none_next put vs os n (λ i x is. λ j. record x { target = sym (at_each (λ (v : Alias). v.target ≡ None) vs i x c.requires.untargeted is) j }) (sym w.in-None.ensures))))
    ]

pub returns : goal.returns
returns c =
    let all : c.aliases.number ≡ length c.args.arena.now.aliases = omega (arith, c.alias_count-count.ensures, c.aliases.auto.number-end, c.aliases-test.false) in
    c.aliases.invariant ∙ ap (λ l. record c.args.arena.now { aliases = l }) (all_given put c.args.arena.now.aliases c.args.targets.now c.aliases.number all)
