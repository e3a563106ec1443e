use Rattle.std.proofs.Common.{◌≡◌, ◌+◌, ◌≤◌, length, take, drop, get_or, true, false, refl, sym, ◌∙◌, arith, length-drop, inl, inr}
use Rattle.std.proofs.lemmas.Bool.Decides.{nat_tests}
use Rattle.ir_base.proofs.Pieces.{rest_whole}
use Rattle.ir_lexer.specs.Class.{byte_class, in_line, is_blank}
use Rattle.ir_lexer.specs.Form.{each, run}
use Rattle.ir_lexer.specs.Gap.{gap_length, in_gap}
use Rattle.ir_lexer.specs.Place.{next_place, place_after}
use Rattle.ir_lexer.specs.declared.class.Class.TheVariants as class
use Rattle.ir_lexer.proofs.ClassTable.{space_is_blank}
use Rattle.ir_lexer.proofs.Lines.{front_in_line, one_in_line}
use Rattle.ir_lexer.proofs.Placing.{behind_more, one_on}
use Rattle.ir_lexer.proofs.Runs.{bool_cases, run_each, run_le}
use Rattle.ir_lexer.proofs.Walks.{gap_blank, gap_comment, gap_none, gap_off, gap_at_end, not_in_gap, run_on}
use Rattle.ir_lexer.proofs.gap.gap_of.Goals as goal

pub gap-init : goal.gap-init
unfolding place_after
gap-init c = record { within = omega arith; count = omega arith; line_in = omega arith; column_in = omega arith; first = c.requires.first; place = refl }

pub gap-preserved-then-bytes-n-eq32 : goal.gap-preserved-then-bytes-n-eq32
gap-preserved-then-bytes-n-eq32 c =
    let l = c.gap in
    let s = c.args.bytes.now in
    let i = l.invariant in
    let next = c.place_in_line-here.result in
    let byte : get_or s l.n 0 ≡ 32 = grind (arith, nat_tests) in
    let is : byte_class (get_or s l.n 0) ≡ class.Blank = rw byte space_is_blank in
    let blank : is_blank (byte_class (get_or s l.n 0)) ≡ true = rw is refl in
    let goes_on : in_line (byte_class (get_or s l.n 0)) ≡ true = rw is refl in
    let fits : 1 ≤ length (drop l.n s) = omega (arith, c.gap-test.true, length-drop l.n s) in
    let there = front_in_line l.here next (drop l.n s) 1 fits (one_in_line s l.n c.gap-test.true goes_on) c.place_in_line-here.ensures in
    let k = behind_more c.args.place l.here next s l.n 1 c.requires.first (omega (arith, c.gap-test.true)) i.place there in
    record {
      within = omega (arith, c.gap-test.true);
      count = omega (arith, i.count, gap_blank s l.n c.gap-test.true blank);
      line_in = k.line_in;
      column_in = k.column_in;
      first = k.first;
      place = k.place;
    }

pub gap-preserved-in-Blank : goal.gap-preserved-in-Blank
gap-preserved-in-Blank c =
    let l = c.gap in
    let s = c.args.bytes.now in
    let i = l.invariant in
    let next = c.place_in_line-here-in-Blank.result in
    let is : byte_class (get_or s l.n 0) ≡ class.Blank = sym c.class_of.ensures ∙ c.in-Blank.is in
    let blank : is_blank (byte_class (get_or s l.n 0)) ≡ true = rw is refl in
    let goes_on : in_line (byte_class (get_or s l.n 0)) ≡ true = rw is refl in
    let fits : 1 ≤ length (drop l.n s) = omega (arith, c.gap-test.true, length-drop l.n s) in
    let there = front_in_line l.here next (drop l.n s) 1 fits (one_in_line s l.n c.gap-test.true goes_on) c.place_in_line-here-in-Blank.ensures in
    let k = behind_more c.args.place l.here next s l.n 1 c.requires.first (omega (arith, c.gap-test.true)) i.place there in
    record {
      within = omega (arith, c.gap-test.true);
      count = omega (arith, i.count, gap_blank s l.n c.gap-test.true blank);
      line_in = k.line_in;
      column_in = k.column_in;
      first = k.first;
      place = k.place;
    }

pub gap-preserved-in-LineFeed : goal.gap-preserved-in-LineFeed
gap-preserved-in-LineFeed c =
    let l = c.gap in
    let s = c.args.bytes.now in
    let i = l.invariant in
    let next = c.next_place-here.result in
    let is : byte_class (get_or s l.n 0) ≡ class.LineFeed = sym c.class_of.ensures ∙ c.in-LineFeed.is in
    let blank : is_blank (byte_class (get_or s l.n 0)) ≡ true = rw is refl in
    let step : next ≡ next_place l.here (get_or s l.n 0) = cc in
    let there = step ∙ sym (one_on l.here s l.n c.gap-test.true) in
    let k = behind_more c.args.place l.here next s l.n 1 c.requires.first (omega (arith, c.gap-test.true)) i.place there in
    record {
      within = omega (arith, c.gap-test.true);
      count = omega (arith, i.count, gap_blank s l.n c.gap-test.true blank);
      line_in = k.line_in;
      column_in = k.column_in;
      first = k.first;
      place = k.place;
    }

pub gap-smaller : goal.gap-smaller
gap-smaller c =
    let l = c.gap in
    let s = c.args.bytes.now in
    let is : byte_class (get_or s l.n 0) ≡ class.Semicolon = sym c.class_of.ensures ∙ c.in-Semicolon.is in
    let goes_on : in_line (byte_class (get_or s l.n 0)) ≡ true = rw is refl in
    let count : c.run_of-comment.result ≡ run in_line (drop l.n s) = rw (rest_whole l.n s) at c.run_of-comment.ensures.count in
    omega (arith, c.gap-test.true, count, run_on in_line s l.n c.gap-test.true goes_on)

pub gap-preserved : goal.gap-preserved
gap-preserved c =
    let l = c.gap in
    let s = c.args.bytes.now in
    let i = l.invariant in
    let n = c.run_of-comment.result in
    let next = c.place_in_line-here-in-Semicolon.result in
    let is : byte_class (get_or s l.n 0) ≡ class.Semicolon = sym c.class_of.ensures ∙ c.in-Semicolon.is in
    let count : n ≡ run in_line (drop l.n s) = rw (rest_whole l.n s) at c.run_of-comment.ensures.count in
    let goes_on : each in_line (take n (drop l.n s)) ≡ true = rw count (run_each in_line (drop l.n s)) in
    let fits : n ≤ length (drop l.n s) = omega (arith, count, run_le in_line (drop l.n s)) in
    let there = front_in_line l.here next (drop l.n s) n fits goes_on c.place_in_line-here-in-Semicolon.ensures in
    let within : l.n + n ≤ length s = omega (arith, fits, length-drop l.n s, c.gap-test.true) in
    let k = behind_more c.args.place l.here next s l.n n c.requires.first within i.place there in
    let comment : gap_length false (drop l.n s) ≡ n + gap_length false (drop (l.n + n) s) = rw count (gap_comment s l.n c.gap-test.true is) in
    record {
      within = within;
      count = omega (arith, i.count, comment);
      line_in = k.line_in;
      column_in = k.column_in;
      first = k.first;
      place = k.place;
    }

pub returns-in_default : goal.returns-in_default
returns-in_default c =
    let l = c.gap in
    let s = c.args.bytes.now in
    let not_one = not_in_gap c.class_of.result c.in_default.not-Semicolon c.in_default.not-LineFeed c.in_default.not-Blank in
    let off = gap_off s l.n c.gap-test.true (rw c.class_of.ensures at not_one.0) (rw c.class_of.ensures at not_one.1) in
    record { length = omega (arith, l.invariant.count, off); in_bytes = l.invariant.within; place = l.invariant.place }

pub returns-clause-length : goal.returns-clause-length
returns-clause-length c = omega (arith, c.gap.invariant.count, gap_at_end c.args.bytes.now c.gap.n c.gap-test.false)

pub returns-then-not-may_begin_gap-clause-length : goal.returns-then-not-may_begin_gap-clause-length
returns-then-not-may_begin_gap-clause-length c =
    let l = c.gap in
    let s = c.args.bytes.now in
    let none : in_gap (get_or s l.n 0) ≡ false = elim (bool_cases (in_gap (get_or s l.n 0))) [
      | inl e ↦ absurd (let k = c.may_begin_gap.ensures e in let j = c.if-not-may_begin_gap.true in cc)
      | inr e ↦ e
    ] in
    omega (arith, l.invariant.count, gap_none s l.n c.gap-test.true none)
