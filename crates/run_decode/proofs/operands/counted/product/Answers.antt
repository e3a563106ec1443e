use Rattle.std.proofs.Common.{arith}
use Rattle.std.proofs.lemmas.Nat.{mul-le}
use Rattle.type_table.specs.declared.measure.TheConstants.{SIZE_LIMIT}
use Rattle.run_decode.specs.declared.operands.counted.TheConstants.{NO_SIGN_BELOW}
use Rattle.run_decode.proofs.operands.counted.product.Goals as goal

pub overflow_mul-result : goal.overflow_mul-result
overflow_mul-result c = let most = mul-le c.args.count c.args.size NO_SIGN_BELOW SIZE_LIMIT (omega arith) c.requires.size in omega (arith, most)

pub returns-clause-near : goal.returns-clause-near
returns-clause-near c = let most = mul-le c.args.count c.args.size NO_SIGN_BELOW SIZE_LIMIT (omega arith) c.requires.size in omega (arith, most)
