use Rattle.std.proofs.Common.{sym, ◌∙◌, inl}
use Rattle.ir_syntax.proofs.Refusals.{bad_byte_in, text_end_in, token_told}
use Rattle.ir_syntax.proofs.read.refusal.Goals as goal

pub returns-then-is_bad : goal.returns-then-is_bad
returns-then-is_bad c =
    inl (bad_byte_in c.args.cursor.now c.args.text.now c.requires.text c.place-place.result c.requires.first_bad (sym c.is_bad.ensures ∙ c.if-is_bad.true) c.place-place.ensures)

pub returns-in-None : goal.returns-in-None
returns-in-None c =
    inl (text_end_in c.args.cursor.now c.args.text.now c.requires.text c.place-place.result c.requires.first_bad (sym c.is_bad.ensures ∙ c.if-is_bad.false) (sym c.in-None.ensures) c.place-place.ensures)

pub token_refusal-requires-clause-token : goal.token_refusal-requires-clause-token
token_refusal-requires-clause-token c = token_told c.args.cursor.now c.args.text.now c.in-Some.field-0 c.requires.text c.in-Some.ensures
