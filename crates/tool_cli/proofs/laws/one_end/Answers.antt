use Rattle.tool_cli.proofs.OneEnd.{one_end}
use Rattle.tool_cli.proofs.Reported.{result_told}
use Rattle.tool_cli.proofs.Unreported.{memory_untold}
use Rattle.tool_cli.proofs.laws.one_end.Goals as goal

pub returns : goal.returns
returns c = record { one = one_end; memory = memory_untold; result = result_told }
