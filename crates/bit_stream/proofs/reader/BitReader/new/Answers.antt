use Rattle.std.proofs.Common.{refl, sym}
use Rattle.std.proofs.lemmas.Bool.{ne_eqb}
use Rattle.bit_stream.proofs.Opening.{no_word, word_there, begins_is}
use Rattle.bit_stream.proofs.reader.BitReader.new.Goals as goal

pub returns-in_default : goal.returns-in_default
returns-in_default c =
    let read = rw c.new-cursor.ensures at (sym c.in_default.ensures.read) in
    rw (no_word c.args.bytes.now _ read) refl

pub returns-then-number-ne-MAGIC : goal.returns-then-number-ne-MAGIC
returns-then-number-ne-MAGIC c =
    let read = rw c.new-cursor.ensures at (sym c.in-Ok.ensures.read) in
    rw (begins_is c.args.bytes.now _ _ read, ne_eqb _ _ c.if-number-ne-MAGIC.true) refl

pub returns : goal.returns
returns c =
    let read = rw c.new-cursor.ensures at (sym c.in-Ok.ensures.read) in
    let magic = c.if-number-ne-MAGIC.false in
    rw (begins_is c.args.bytes.now _ _ read, magic, (word_there c.args.bytes.now _ _ read).1, c.new.ensures, c.new-2.ensures.items, c.nothing.ensures, c.new-3.ensures) refl
