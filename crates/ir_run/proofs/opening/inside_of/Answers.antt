use Rattle.std.proofs.Common.{[]}
use Rattle.ir_run.proofs.Begun.{begun_so, on_its_way}
use Rattle.ir_run.proofs.opening.inside_of.Goals as goal

pub invariant_of-result : goal.invariant_of-result
invariant_of-result c = λ e. on_its_way c.args.program c.args.opened c.new-stack.result _ c.in_ok-output.output c.requires c.new-stack.ensures c.in_ok-output.ensures

pub returns : goal.returns
returns c = begun_so c.args.program c.args.opened c.new-stack.result c.in_ok-input.input [] c.in_ok-output.output c.new-stack.ensures c.in_ok-input.ensures c.in_ok-output.ensures
