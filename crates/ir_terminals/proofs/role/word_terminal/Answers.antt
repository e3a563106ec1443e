use Rattle.std.proofs.Common.{◌≡◌, ◌==◌, false, get_or, length, sym, ◌∙◌, arith}
use Rattle.std.proofs.lemmas.Bool.Decides.{nat_tests}
use Rattle.ir_terminals.specs.Words.{word_terminal}
use Rattle.ir_terminals.proofs.WordLists.{by_width, by_list, empty_word, no_bytes, no_width, wide_word}
use Rattle.ir_terminals.proofs.role.word_terminal.Goals.{then-first-eq105+in_default-integer_type, else-first-eq105}
use Rattle.ir_terminals.proofs.role.word_terminal.Goals as goal

pub returns-in_default : goal.returns-in_default
returns-in_default c =
    let none : length c.args.word.now ≡ 0 = omega arith in
    rw (no_bytes c.args.word.now none) (sym empty_word)

pub returns-in-Some : goal.returns-in-Some
unfolding word_terminal
returns-in-Some c =
    let s = c.args.word.now in
    let is : get_or s 0 0 ≡ 105 = grind (arith, nat_tests) in
    by_width _ _ _ (wide_word s _ (omega arith) is c.in-Some.ensures)

pub returns : goal.returns
unfolding word_terminal
returns c =
    let s = c.args.word.now in
    elim c.if-first-eq105.branch [
      | then-first-eq105+in_default-integer_type w ↦
          (let is : get_or s 0 0 ≡ 105 = grind (arith, nat_tests, w.if-first-eq105.true) in
          c.listed_terminal.ensures ∙ sym (by_list _ _ (wide_word s _ (omega arith) is w.in_default-integer_type.ensures)))
      | else-first-eq105 w ↦
          (let other : (get_or s 0 0 == 105) ≡ false = grind (arith, nat_tests, w.if-first-eq105.false) in
          c.listed_terminal.ensures ∙ sym (by_list _ _ (no_width s (omega arith) other)))
    ]
