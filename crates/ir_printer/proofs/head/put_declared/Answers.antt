use Rattle.std.proofs.Common.{ℕ, ◌+◌, ◌-◌, length, ap, arith}
use Rattle.ir_lexer.specs.declared.token.TokenKind.TheVariants as kind
use Rattle.ir_printer.proofs.OnPhrases.Printing.{prints_none}
use Rattle.ir_printer.proofs.Lists.{declared_more, declared_end}
use Rattle.ir_printer.proofs.head.put_declared.Goals as goal

pub parts-preserved : goal.parts-preserved
parts-preserved g c = λ now h.
    let t = c.args.types.now in
    let ps = c.args.parameters.now in
    c.parts.invariant now (declared_more t c.args.variadic ps c.parts.place _ c.index-parameters-place.result c.parts-test.true (ap (λ (n : ℕ). length ps - 1 - c.parts.place + n) c.from-dots.ensures)
    c.put_type.ensures c.put_comma.ensures h)

pub returns-then-variadic : goal.returns-then-variadic
returns-then-variadic g c = c.parts.invariant _ (declared_end c.args.types.now c.args.variadic c.args.parameters.now c.parts.place (omega arith) (rw c.if-variadic.true (c.put_token.ensures kind.Punctuation)))

pub returns-else-variadic : goal.returns-else-variadic
returns-else-variadic g c = c.parts.invariant _ (declared_end c.args.types.now c.args.variadic c.args.parameters.now c.parts.place (omega arith) (rw c.if-variadic.false (prints_none _)))
