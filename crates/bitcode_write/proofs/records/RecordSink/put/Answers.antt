use Rattle.std.proofs.Common.{◌≡◌, ◌∙◌, ap}
use Rattle.bit_stream.specs.Writer.{put_record}
use Rattle.bitcode_write.proofs.Lined.{lines_one, wrote_ok}
use Rattle.bitcode_write.proofs.records.RecordSink.put.Goals as goal

pub returns-clause-put : goal.returns-clause-put
returns-clause-put c =
    let w = c.args.self.now.writer in
    let is : c.put_record.new.self ≡ put_record w c.args.code c.deref.result.now = wrote_ok _ w.spent w _ _ c.put_record.new.self c.requires.unspent c.in_ok-put_record.ensures in
    lines_one w c.args.code c.args.self.now.operands.items c.put_record.new.self c.requires (is ∙ ap (put_record w c.args.code) c.deref.ensures.value)
