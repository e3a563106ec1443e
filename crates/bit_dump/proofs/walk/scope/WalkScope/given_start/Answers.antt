use Rattle.std.proofs.Common.{ℕ, Some, sym, ap, ◌∙◌}
use Rattle.bit_dump.specs.Walk.Starts.{StartFrame}
use Rattle.bit_dump.proofs.OnWalk.Scopes.{given_there}
use Rattle.bit_dump.proofs.walk.scope.WalkScope.given_start.Goals as goal

pub returns-in-Some : goal.returns-in-Some
returns-in-Some c =
    let here = ap (λ (f : StartFrame). f.id) (sym c.block.view_is) ∙ (c.in-Some.is ∙ ap (λ (n : ℕ). Some n) (sym c.from.ensures)) in
    rw c.get.ensures (given_there c.args.self.now _ c.self.inside.block c.self.inside.around.items c.self.inside.given c.from.result c.args.index c.self.view_is here)
