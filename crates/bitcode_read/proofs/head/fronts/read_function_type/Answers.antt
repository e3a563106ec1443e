use Rattle.std.proofs.Common.{sym, subst}
use Rattle.record_read.specs.Reader.{ReadsAs}
use Rattle.bitcode_read.specs.Head.Fronts.{IsListedFunction, function_type}
use Rattle.bitcode_read.proofs.OnHead.FrontsRead.{function_type_reads}
use Rattle.bitcode_read.proofs.head.fronts.read_function_type.Goals as goal

pub returns : goal.returns
returns c =
    subst (ReadsAs (IsListedFunction c.args.types) (function_type c.args.types) c.args.reader.now c.read_types.new.reader) (sym c.function_type.ensures)
    (function_type_reads c.args.types _ _ _ _ _ _ _ c.read_type-returns.ensures c.read_flag-variadic.ensures c.in_ok-parameters.ensures)
