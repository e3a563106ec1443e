use Rattle.std.proofs.lemmas.Result.{err_from_is_err_and}
use Rattle.record_table.specs.Faults.{records}
use Rattle.bitcode_read.proofs.Opened.{entered, opens, opens_nothing, producer_refused, rest_is_whole, texts_refused}
use Rattle.bitcode_read.proofs.opening.open_stream.Goals as goal

pub read_producer-requires-clause-unspent : goal.read_producer-requires-clause-unspent
read_producer-requires-clause-unspent c = c.new-reader.ensures.unspent

pub read_producer-requires-clause-whole : goal.read_producer-requires-clause-whole
read_producer-requires-clause-whole c =
    let i = c.requires.judged in
    record { all = records i.tree; before = c.new-reader.ensures.whole i.tree i.stream }

pub read_producer-requires-clause-first : goal.read_producer-requires-clause-first
read_producer-requires-clause-first c = c.new-reader.ensures.none

pub read_texts-requires-clause-unspent : goal.read_texts-requires-clause-unspent
read_texts-requires-clause-unspent c = c.in_ok-read_producer.ensures.unspent

pub read_texts-requires-clause-whole : goal.read_texts-requires-clause-whole
read_texts-requires-clause-whole c =
    let i = c.requires.judged in
    rest_is_whole (records i.tree) c.read_producer.new.reader (c.in_ok-read_producer.ensures.answers (records i.tree) (c.new-reader.ensures.whole i.tree i.stream))

pub returns-in_err-read_producer-clause-opens : goal.returns-in_err-read_producer-clause-opens
returns-in_err-read_producer-clause-opens c = λ tree stream.
    let p = err_from_is_err_and c.from_residual.result c.from_residual.ensures.1 in
    rw (p.1, p.2) (producer_refused (records tree) c.read_producer.new.reader _ (c.in_err-read_producer.ensures.answers (records tree) (c.new-reader.ensures.whole tree stream)))

pub returns-in_err-texts-clause-opens : goal.returns-in_err-texts-clause-opens
returns-in_err-texts-clause-opens c = λ tree stream.
    let p = err_from_is_err_and c.from_residual-in_err-texts.result c.from_residual-in_err-texts.ensures.1 in
    rw (p.1, p.2) (texts_refused (records tree) c.read_producer.new.reader c.read_texts.new.reader _ (c.in_ok-read_producer.ensures.answers (records tree) (c.new-reader.ensures.whole tree stream)) c.in_err-texts.ensures.answers)

pub returns-in_err-known-clause-opens : goal.returns-in_err-known-clause-opens
returns-in_err-known-clause-opens c = λ tree stream.
    let p = err_from_is_err_and c.from_residual-in_err-known.result c.from_residual-in_err-known.ensures.1 in
    rw p.1 (opens_nothing tree p.0 p.2)

pub returns-clause-unspent : goal.returns-clause-unspent
returns-clause-unspent c = c.in_ok-texts.ensures.unspent

pub returns-clause-held : goal.returns-clause-held
returns-clause-held c = c.are_bytes_held.ensures

pub returns-clause-opens : goal.returns-clause-opens
returns-clause-opens c = λ tree stream.
    let e = entered tree c.in_ok-texts.texts c.read_producer.new.reader c.read_texts.new.reader (c.in_ok-read_producer.ensures.answers (records tree) (c.new-reader.ensures.whole tree stream)) c.in_ok-texts.ensures.answers in
    opens tree c.in_ok-texts.texts c.read_texts.new.reader e c.in_ok-known.known (c.in_ok-known.ensures tree stream)
