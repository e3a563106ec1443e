use Rattle.std.proofs.Common.{slice_get, length, refl, sym, ap, subst, ◌∙◌}
use Rattle.std.specs.Vec.Iter.{into_iter_items}
use Rattle.module_arena.specs.Changes.{with_body}
use Rattle.bitcode_read.specs.Holding.Holding.{DefinesNext, NextSuits}
use Rattle.bitcode_read.proofs.OnHolding.Filling.{next_none}
use Rattle.bitcode_read.proofs.holding.bodies.define_next.Goals as goal

pub define-requires-clause-undefined : goal.define-requires-clause-undefined
define-requires-clause-undefined c = λ f is. c.requires.undefined f (ap (λ n. slice_get c.args.arena.now.functions n) (sym c.new.ensures) ∙ is)

pub define-requires-clause-body : goal.define-requires-clause-body
define-requires-clause-body c = λ f is.
    subst (NextSuits (length c.args.arena.now.table.types) (length c.args.arena.now.constants) (length f.parameters)) c.in-Some.ensures.items
    (c.requires.suits f (ap (λ n. slice_get c.args.arena.now.functions n) (sym c.new.ensures) ∙ is))

pub returns-in-Some : goal.returns-in-Some
returns-in-Some c =
    subst (λ xs. DefinesNext c.args.arena.now c.args.number xs c.define.new.self (into_iter_items c.next.new.self)) (sym c.in-Some.ensures.items)
    (c.define.ensures.set ∙ ap (λ n. with_body c.args.arena.now n c.in-Some.body) c.new.ensures, refl)

pub returns-in-None : goal.returns-in-None
returns-in-None c =
    next_none c.args.arena.now c.args.arena.now c.args.number (into_iter_items c.args.rest.now) (into_iter_items c.next.new.self) (sym c.args.rest.now.rest.ok.0 ∙ c.in-None.ensures.cases.0) c.in-None.ensures.items refl
