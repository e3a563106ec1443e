use Rattle.std.proofs.Common.{◌≡◌, drop, false, sym, ◌∙◌}
use Rattle.ir_base.proofs.Pieces.{rest_whole}
use Rattle.ir_lexer.specs.Class.{in_name, starts_with}
use Rattle.ir_lexer.proofs.KnownRuns.{no_word}
use Rattle.ir_lexer.proofs.lexer.Lexer.survey.Goals as goal

pub returns-then-not-begins-clause-word : goal.returns-then-not-begins-clause-word
returns-then-not-begins-clause-word c =
    let r = c.self.inside in
    let s = r.text.now in
    let none : starts_with in_name (drop r.at s) ≡ false = rw (rest_whole r.at s) at (sym c.begins.ensures ∙ c.if-not-begins.true) in
    rw (← c.self.view_is) (no_word (drop r.at s) none)
