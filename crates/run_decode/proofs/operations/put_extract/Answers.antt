use Rattle.run_decode.proofs.Meant.{extract_meant}
use Rattle.run_decode.proofs.operations.put_extract.Goals as goal

pub returns-clause-action : goal.returns-clause-action
returns-clause-action c = extract_meant c.args.scope.now c.put_extracted.new.pools c.args.to c.to.result c.args.aggregate c.args.indices.now c.in_ok-value.value c.to.ensures c.in_ok-value.ensures.leaves
