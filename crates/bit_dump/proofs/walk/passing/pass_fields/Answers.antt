use Rattle.std.proofs.Common.{List, None, ap, ◌∙◌}
use Rattle.bit_stream.specs.declared.abbreviation.ValueSpelling.{ValueSpelling}
use Rattle.bit_dump.specs.Walk.Passing.{pass_each}
use Rattle.bit_dump.proofs.OnWalk.Literals.{same_passed}
use Rattle.bit_dump.proofs.walk.passing.pass_fields.Goals as goal

pub returns : goal.returns
returns c = c.pass_each.ensures ∙ (ap (λ (ss : List ValueSpelling). pass_each c.args.names_block ss None c.args.cursor.now) c.read.ensures ∙ same_passed c.args.names_block c.args.spelling.now.operands c.args.cursor.now)
