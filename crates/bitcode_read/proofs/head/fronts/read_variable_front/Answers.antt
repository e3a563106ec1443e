use Rattle.bitcode_read.proofs.OnHead.FrontsRead.{variable_reads}
use Rattle.bitcode_read.proofs.head.fronts.read_variable_front.Goals as goal

pub returns : goal.returns
returns c =
    variable_reads _ c.args.types _ _ _ _ _ c.in_ok-name.ensures c.read_linkage-linkage.ensures _ _ _ _ _ _ c.read_flag-constant.ensures c.read_type-ty.ensures c.read_alignment-alignment.ensures
