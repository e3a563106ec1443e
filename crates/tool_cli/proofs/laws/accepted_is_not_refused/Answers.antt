use Rattle.tool_cli.proofs.Headline.{unrefused, unrefused_bitcode, unrefused_text}
use Rattle.tool_cli.proofs.laws.accepted_is_not_refused.Goals as goal

pub returns : goal.returns
returns c = record {
  texts = λ name text m ended is refused. unrefused_text name text m ended is.sized is.valid is.reads refused;
  bitcode = λ name bytes m ended is refused. unrefused_bitcode name bytes m ended is.sized is.valid is.spelled refused;
  parts = unrefused;
}
