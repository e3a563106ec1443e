use Rattle.std.proofs.Common.{Some, None, subst}
use Rattle.record_table.specs.TypeRecords.{earlier}
use Rattle.record_read.specs.Reader.{ReadsAs}
use Rattle.record_read.specs.Fields.{IsBelow}
use Rattle.type_read.proofs.ByKind.{named_some, named_none}
use Rattle.type_read.proofs.records.read_named.Goals as goal

pub returns-in-Some : goal.returns-in-Some
returns-in-Some c =
    let read = subst (λ n. ReadsAs (IsBelow n) (earlier n) c.args.reader.now c.read_place.new.reader (Some c.in-Some.place)) c.from.ensures c.in-Some.ensures in
    named_some c.args.count c.args.structs c.args.reader.now c.read_place.new.reader c.in-Some.place c.new.result read c.new.ensures

pub returns-in-None : goal.returns-in-None
returns-in-None c =
    let read = subst (λ n. ReadsAs (IsBelow n) (earlier n) c.args.reader.now c.read_place.new.reader None) c.from.ensures c.in-None.ensures in
    named_none c.args.count c.args.structs c.args.reader.now c.read_place.new.reader read
