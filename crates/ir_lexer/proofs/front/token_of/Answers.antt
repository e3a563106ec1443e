use Rattle.std.proofs.Common.{◌≡◌, ◌<◌, length, true, refl, sym, ◌∙◌, arith, inl, inr}
use Rattle.std.proofs.lemmas.Bool.Decides.{nat_tests}
use Rattle.ir_lexer.specs.Class.{in_word}
use Rattle.ir_lexer.specs.declared.class.Class.TheVariants as class
use Rattle.ir_lexer.proofs.KnownRuns.{word_behind}
use Rattle.ir_lexer.proofs.Lexes.{next_by}
use Rattle.ir_lexer.proofs.front.token_of.Goals as goal

pub after_c-requires-clause-word : goal.after_c-requires-clause-word
after_c-requires-clause-word c =
    let some : 0 < length c.args.text.now = grind (arith, nat_tests) in
    word_behind c.args.word c.args.text.now c.class_of.result some c.class_of.ensures (rw c.in-LetterC.is refl) c.requires.word

pub after_letter-requires-clause-word : goal.after_letter-requires-clause-word
after_letter-requires-clause-word c =
    let some : 0 < length c.args.text.now = grind (arith, nat_tests) in
    let of_word : in_word c.class_of.result ≡ true = elim c.in-Letter.is [ inl e ↦ rw e refl | inr e ↦ rw e refl ] in
    word_behind c.args.word c.args.text.now c.class_of.result some c.class_of.ensures of_word c.requires.word

pub returns-in-Quote : goal.returns-in-Quote
returns-in-Quote c =
    let some : 0 < length c.args.text.now = grind (arith, nat_tests) in
    record { token = next_by c.args.text.now class.Quote _ some (sym c.in-Quote.is ∙ c.class_of.ensures) c.after_quote.ensures }

pub returns-in-At : goal.returns-in-At
returns-in-At c =
    let some : 0 < length c.args.text.now = grind (arith, nat_tests) in
    record { token = next_by c.args.text.now class.At _ some (sym c.in-At.is ∙ c.class_of.ensures) c.after_at.ensures }

pub returns-in-Percent : goal.returns-in-Percent
returns-in-Percent c =
    let some : 0 < length c.args.text.now = grind (arith, nat_tests) in
    record { token = next_by c.args.text.now class.Percent _ some (sym c.in-Percent.is ∙ c.class_of.ensures) c.after_percent.ensures }
