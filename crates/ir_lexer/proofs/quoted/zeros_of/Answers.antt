use Rattle.std.proofs.Common.{◌≡◌, get_or, arith, sym, ◌∙◌}
use Rattle.ir_lexer.specs.declared.quoted.Unescaped.TheVariants.{Bad}
use Rattle.ir_lexer.specs.Quoted.{unescaped}
use Rattle.ir_lexer.proofs.Walks.{zeros_more, zeros_byte, zeros_bad, zeros_plain, zeros_cut}
use Rattle.ir_lexer.proofs.quoted.zeros_of.Goals.{in-More, in-Byte}
use Rattle.ir_lexer.proofs.quoted.zeros_of.Goals as goal

pub returns-in-Bad : goal.returns-in-Bad
returns-in-Bad c =
    let e : unescaped c.loop-byte.state (get_or c.args.inside.now c.loop-byte.byte-index 0) ≡ Bad = let v = c.unescape.ensures.value in let w = c.in-Bad.is in cc in
    sym (c.loop-byte.invariant.read ∙ zeros_bad c.loop-byte.zero c.loop-byte.state c.args.inside.now c.loop-byte.byte-index (omega arith) e)

pub loop-byte-preserved : goal.loop-byte-preserved
loop-byte-preserved c =
    let s = c.args.inside.now in
    let i = c.loop-byte.byte-index in
    elim c.match-unescape.branch [
      | in-More w ↦ record {
        fits = rw w.state-is w.in-More.ensures.fits;
        read = rw (w.state-is, w.zero-is) (c.loop-byte.invariant.read ∙ zeros_more c.loop-byte.zero c.loop-byte.state w.in-More.next s i (omega arith) (sym w.in-More.ensures.value));
      }
      | in-Byte w ↦ record {
        fits = rw w.state-is tt;
        read = rw (w.state-is, w.zero-is) (c.loop-byte.invariant.read ∙ zeros_byte c.loop-byte.zero c.loop-byte.state w.in-Byte.byte s i (omega arith) (sym w.in-Byte.ensures.value));
      }
    ]

pub returns-in-Plain : goal.returns-in-Plain
returns-in-Plain c = zeros_plain c.loop-byte.zero c.loop-byte.state c.args.inside.now c.loop-byte.byte-index c.loop-byte-test.false c.in-Plain.is ∙ sym c.loop-byte.invariant.read

pub returns-in_default : goal.returns-in_default
returns-in_default c = zeros_cut c.loop-byte.zero c.loop-byte.state c.args.inside.now c.loop-byte.byte-index c.loop-byte-test.false c.in_default.not-Plain ∙ sym c.loop-byte.invariant.read
