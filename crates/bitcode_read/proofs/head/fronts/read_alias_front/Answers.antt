use Rattle.bitcode_read.proofs.OnHead.FrontsRead.{alias_reads}
use Rattle.bitcode_read.proofs.head.fronts.read_alias_front.Goals as goal

pub returns : goal.returns
returns c = alias_reads _ c.args.types _ _ _ _ _ c.in_ok-name.ensures c.read_linkage-linkage.ensures _ _ c.in_ok-ty.ensures
