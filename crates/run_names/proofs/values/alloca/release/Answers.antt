use Rattle.std.proofs.Common.{◌∙◌, refl, arith}
use Rattle.std.proofs.lemmas.Option.{slice_get-get_or}
use Rattle.run_names.proofs.OnValues.Ends.{one_released, all_released}
use Rattle.run_names.proofs.values.alloca.release.Goals as goal

pub allocas-init : goal.allocas-init
allocas-init c = record { part = refl; kept = (refl, refl) }

pub allocas-preserved : goal.allocas-preserved
allocas-preserved c = record {
  part =
      one_released c.args.allocas.now c.args.memory.now c.allocas.pointer-index c.allocas.memory c.end_alloca.new.memory _ c.allocas.invariant.part
      (slice_get-get_or c.args.allocas.now c.allocas.pointer-index _ c.allocas-test.true) c.end_alloca.ensures.value;
  kept = (c.end_alloca.ensures.kept.0 ∙ c.allocas.invariant.kept.0, c.end_alloca.ensures.kept.1 ∙ c.allocas.invariant.kept.1);
}

pub returns-clause-value : goal.returns-clause-value
returns-clause-value c = all_released c.args.allocas.now c.args.memory.now c.allocas.pointer-index c.allocas.memory c.allocas.invariant.part (omega arith)
