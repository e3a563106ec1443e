use Rattle.std.proofs.Common.{◌≡◌, ℕ, ◌-◌, List, drop, length, map, take, Option, sym, ap, ◌∙◌}
use Rattle.std.proofs.lemmas.List.{drop-map, take_rest}
use Rattle.ir_memory.specs.declared.leaf.Leaf.{Leaf}
use Rattle.run_names.specs.Shapes.Shapes.{shape_in}
use Rattle.run_names.specs.Types.Wanted.{leaf_of}
use Rattle.run_actions.proofs.hosts.kinds.ArgumentKinds.behind.Goals as goal

-- what is told of those behind
behind_is : (f : ℕ → Option Leaf) (shapes : List ℕ) (n : ℕ) (seen : List (Option Leaf)) → map f shapes ≡ seen → map f (take (length shapes - n) (drop n shapes)) ≡ drop n seen
behind_is f shapes n seen e = ap (map f) (take_rest shapes n) ∙ sym (drop-map f n shapes) ∙ ap (drop n) e

pub returns : goal.returns
returns c = behind_is (λ ty. leaf_of (shape_in c.self.inside.types.now ty)) c.self.inside.shapes.now c.args.count c.args.self.now c.self.view_is
