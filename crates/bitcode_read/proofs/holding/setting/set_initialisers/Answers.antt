use Rattle.std.proofs.Common.{◌≡◌, ◌<◌, ℕ, Option, None, length, take, slice_get, sym, ap, subst, ◌∙◌, arith}
use Rattle.module_arena.specs.declared.entry.Variable.{Variable}
use Rattle.module_arena.specs.Changes.{with_initialiser}
use Rattle.module_arena.specs.Lists.{Lists}
use Rattle.bitcode_read.proofs.OnHolding.GivenInOrder.{length-each, each_later, given_next, none_next, all_given, at_each, at_given}
use Rattle.bitcode_read.proofs.holding.setting.set_initialisers.Goals as goal
use Rattle.bitcode_read.proofs.holding.setting.set_initialisers.Goals.{in-Some, in-None}

-- what a variable is set to
abbrev put : Variable → Option ℕ → Variable
put v o = record v { initialiser = o }

pub set_initialiser-requires-clause-known : goal.set_initialiser-requires-clause-known
set_initialiser-requires-clause-known c =
    let many : length c.variables.arena.variables ≡ length c.args.arena.now.variables = ap (λ (a : Lists). length a.variables) c.variables.invariant ∙ length-each put c.args.arena.now.variables (take c.variables.number c.args.initialisers.now) in
    omega (arith, many, c.variable_count-count.ensures.count, c.new.ensures)

pub set_initialiser-requires-clause-undefined : goal.set_initialiser-requires-clause-undefined
set_initialiser-requires-clause-undefined c = λ v is.
    at_each (λ (x : Variable). x.initialiser ≡ None) c.args.arena.now.variables c.variables.number v c.requires.unset
    (sym (each_later put c.args.arena.now.variables c.args.initialisers.now c.variables.number)
    ∙ (sym (ap (λ (a : Lists). slice_get a.variables c.variables.number) c.variables.invariant) ∙ (ap (λ n. slice_get c.variables.arena.variables n) (sym c.new.ensures) ∙ is)))

pub set_initialiser-requires-clause-constant : goal.set_initialiser-requires-clause-constant
set_initialiser-requires-clause-constant c =
    let lt : c.in-Some.constant < length c.args.arena.now.constants = at_given (λ id. id < length c.args.arena.now.constants) c.args.initialisers.now c.variables.number c.in-Some.constant c.requires.known (sym c.in-Some.ensures) in
    subst (λ (a : Lists). c.in-Some.constant < length a.constants) (sym c.variables.invariant) lt

pub variables-preserved : goal.variables-preserved
variables-preserved c =
    let vs = c.args.arena.now.variables in
    let os = c.args.initialisers.now in
    let n = c.variables.number in
    elim c.match-initialiser_at.branch [
      | in-Some w ↦
          w.arena-is
          ∙ (w.set_initialiser.ensures.set
          ∙ ((λ j. with_initialiser (c.variables.invariant j) (w.new.ensures j) w.in-Some.constant) ∙ ap (λ l. record c.args.arena.now { variables = l }) (sym (given_next put vs os n w.in-Some.constant (sym w.in-Some.ensures)))))
      | in-None w ↦
          w.arena-is
          ∙ (c.variables.invariant
          ∙ ap (λ l. record c.args.arena.now { variables = l })
          (sym (none_next put vs os n (λ i x is. λ j. record x { initialiser = sym (at_each (λ (v : Variable). v.initialiser ≡ None) vs i x c.requires.unset is) j }) (sym w.in-None.ensures))))
    ]

pub returns : goal.returns
returns c =
    let all : c.variables.number ≡ length c.args.arena.now.variables = omega (arith, c.variable_count-count.ensures.count, c.variables.auto.number-end, c.variables-test.false) in
    c.variables.invariant ∙ ap (λ l. record c.args.arena.now { variables = l }) (all_given put c.args.arena.now.variables c.args.initialisers.now c.variables.number all)
