use Rattle.std.proofs.Common.{arith, sym, subst}
use Rattle.record_read.specs.Reader.{ReadsAs}
use Rattle.bitcode_read.specs.Head.Fronts.{IsListedType, alias_type_front}
use Rattle.bitcode_read.proofs.OnHead.FrontsRead.{plain_reads, other_reads, none_reads}
use Rattle.bitcode_read.proofs.head.fronts.read_alias_type.Goals as goal

pub returns-in-0 : goal.returns-in-0
returns-in-0 c =
    subst (ReadsAs (IsListedType c.args.types) (alias_type_front c.args.types) c.args.reader.now c.read_type-ty.new.reader) (sym c.plain_type.ensures)
    (plain_reads c.args.types _ _ _ _ _ c.number.ensures c.in-0.is c.read_type-ty.ensures)

pub returns-in_ok-kept-in-1 : goal.returns-in_ok-kept-in-1
returns-in_ok-kept-in-1 c = other_reads c.args.types _ _ _ _ _ c.number.ensures c.in-1.is c.in_ok-kept-in-1.ensures

pub returns-in_default : goal.returns-in_default
returns-in_default c = none_reads c.args.types _ _ _ _ c.number.ensures (omega arith) c.stop.ensures c.stops_where_broken.ensures
