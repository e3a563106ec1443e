use Rattle.std.proofs.Common.{refl, arith, length-set, sym}
use Rattle.std.specs.Fmt.{decimal}
use Rattle.std.proofs.lemmas.List.{append-nil}
use Rattle.std.proofs.lemmas.Fmt.{decimal_nonempty, length-decimal-le}
use Rattle.tool_output.proofs.OnEnds.Numerals.{one_less, digit_more, digit_last}
use Rattle.tool_output.proofs.ends.digits.Digits.of.Goals as goal

pub writing-init : goal.writing-init
writing-init c = record {
  room = refl;
  start = omega arith;
  fits = length-decimal-le 20 c.args.number (omega arith) (omega arith) (omega arith);
  stand = sym (append-nil (decimal c.args.number));
}

pub overflow_sub-start : goal.overflow_sub-start
overflow_sub-start c = let some = decimal_nonempty c.writing.rest (omega arith) in omega arith

pub overflow_sub-start-2 : goal.overflow_sub-start-2
overflow_sub-start-2 c = let some = decimal_nonempty c.writing.rest (omega arith) in omega arith

pub writing-preserved : goal.writing-preserved
writing-preserved c =
    let some = decimal_nonempty c.writing.rest (omega arith) in
    record {
      room = omega (arith, length-set c.writing.room);
      start = omega arith;
      fits = one_less c.writing.rest c.writing.start (omega arith) (omega arith) c.writing.invariant.fits;
      stand = digit_more c.args.number c.writing.rest c.writing.start c.writing.room (omega arith) (omega arith) (omega arith) (omega arith) c.writing.invariant.stand;
    }

pub returns : goal.returns
returns c =
    let some = decimal_nonempty c.writing.rest (omega arith) in
    digit_last c.args.number c.writing.rest c.writing.start c.writing.room (omega arith) (omega arith) (omega arith) c.writing.invariant.stand
