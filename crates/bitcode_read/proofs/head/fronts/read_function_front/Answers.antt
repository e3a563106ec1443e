use Rattle.bitcode_read.proofs.OnHead.FrontsRead.{function_reads}
use Rattle.bitcode_read.proofs.head.fronts.read_function_front.Goals as goal

pub returns : goal.returns
returns c =
    function_reads _ c.args.types _ _ _ _ _ c.in_ok-name.ensures c.read_linkage-linkage.ensures _ _ _ _ _ _ _ _ c.read_flag-defined.ensures c.read_type-returns.ensures c.read_flag-variadic.ensures c.in_ok-parameters.ensures
