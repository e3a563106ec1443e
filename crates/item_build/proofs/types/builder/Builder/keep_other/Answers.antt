use Rattle.std.proofs.Common.{sym, subst}
use Rattle.module_arena.specs.Changes.{with_constant, constant_in}
use Rattle.item_build.specs.Types.Stands.{IsConstant, Grows}
use Rattle.item_build.proofs.OnTypes.Growing.{grows_by_constant, constant_here, constant_found}
use Rattle.item_build.proofs.types.builder.Builder.keep_other.Goals as goal

pub returns-in-Some-clause-is : goal.returns-in-Some-clause-is
returns-in-Some-clause-is c = constant_found c.args.self.now.arena c.variable_count-good.ensures.good c.in-Some.id c.args.constant c.in-Some.ensures

pub returns-clause-grows : goal.returns-clause-grows
returns-clause-grows c =
    let a = c.args.self.now.arena in
    subst (λ b. Grows a b) (sym c.in-Ok.ensures.ok) (grows_by_constant a c.args.constant c.variable_count-good.ensures.good)

pub returns-clause-is : goal.returns-clause-is
returns-clause-is c =
    let a = c.args.self.now.arena in
    subst (λ b. IsConstant b c.in-Ok.id (constant_in a c.args.constant)) (sym c.in-Ok.ensures.ok)
    (subst (λ id. IsConstant (with_constant a c.args.constant) id (constant_in a c.args.constant)) (sym c.in-Ok.ensures.id) (constant_here a c.args.constant c.variable_count-good.ensures.good))
