use Rattle.std.proofs.Common.{◌∙◌, sym, arith}
use Rattle.ir_lexer.specs.Quoted.{decode}
use Rattle.ir_lexer.specs.declared.quoted.Escape.TheVariants.{Plain}
use Rattle.ir_lexer.proofs.Walks.{front_more, front_more_byte, front_all, front_never}
use Rattle.ir_lexer.proofs.quoted.decoded_of.Goals.{in-More, in-Byte+in_ok-push-in-Byte, in-Bad}
use Rattle.ir_lexer.proofs.quoted.decoded_of.Goals as goal

pub loop-byte-preserved : goal.loop-byte-preserved
loop-byte-preserved c =
    let s = c.args.inside.now in
    let i = c.loop-byte.byte-index in
    let l = c.loop-byte in
    elim c.match-unescape.branch [
      | in-More w ↦ record {
        fits = rw w.state-is w.in-More.ensures.fits;
        read = rw (w.state-is, w.bytes-is) (l.invariant.read ∙ front_more l.bytes.items l.state w.in-More.next s i (omega arith) (sym w.in-More.ensures.value));
      }
      | in-Byte+in_ok-push-in-Byte w ↦ record {
        fits = rw w.state-is tt;
        read = rw (w.state-is, w.bytes-is, w.in_ok-push-in-Byte.ensures.items) (l.invariant.read ∙ front_more_byte l.bytes.items l.state w.in-Byte.byte s i (omega arith) (sym w.in-Byte.ensures.value));
      }
      | in-Bad w ↦ absurd (front_never l.bytes.items l.state s i (decode Plain s) (omega arith) c.requires l.invariant.read (sym w.in-Bad.ensures.value))
    ]

pub returns : goal.returns
returns c = front_all c.loop-byte.bytes.items c.loop-byte.state c.args.inside.now c.loop-byte.byte-index (decode Plain c.args.inside.now) c.loop-byte-test.false c.requires c.loop-byte.invariant.read
