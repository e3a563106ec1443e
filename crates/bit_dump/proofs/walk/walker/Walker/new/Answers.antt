use Rattle.std.proofs.Common.{[], refl}
use Rattle.bit_dump.proofs.OnWalk.Operands.{over}
use Rattle.bit_dump.proofs.OnWalk.Walked.{starts, whole_left, read_list}
use Rattle.bit_dump.proofs.walk.walker.Walker.new.Goals as goal

pub invariant_of-result : goal.invariant_of-result
invariant_of-result c = record {
  place = λ _. starts c.args.bytes.now c.new-scope.result c.at_bit-cursor.result c.nothing-kept.result.start c.nothing-kept.result.abbreviation c.requires.judged c.new-scope.ensures c.at_bit-cursor.ensures c.nothing-kept.ensures;
  read = λ _. ([], over c.nothing-kept.result.abbreviation c.new.result);
}

pub returns-clause-whole : goal.returns-clause-whole
returns-clause-whole c = λ tree stream. whole_left c.args.bytes.now c.new-scope.result c.at_bit-cursor.result tree stream c.new-scope.ensures c.at_bit-cursor.ensures

pub returns-clause-bare : goal.returns-clause-bare
returns-clause-bare c = (read_list _ [] (over c.nothing-kept.result.abbreviation c.new.result), refl, refl)
