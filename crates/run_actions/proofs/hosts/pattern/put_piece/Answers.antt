use Rattle.std.proofs.Common.{◌≡◌, Ok}
use Rattle.ir_printf.specs.declared.pattern.PatternPiece.TheVariants as piece
use Rattle.ir_printf.specs.Pattern.{piece_at}
use Rattle.run_names.proofs.OnValues.Refusals.{if_fault}
use Rattle.run_actions.proofs.OnHosts.Walked.{conversion_refused}
use Rattle.run_actions.proofs.hosts.pattern.put_piece.Goals as goal

pub returns-in_err-taken-in-Ok-Convert-clause-why : goal.returns-in_err-taken-in-Ok-Convert-clause-why
returns-in_err-taken-in-Ok-Convert-clause-why c =
    let f = c.args.format.now in
    let at : piece_at f.pattern.now c.args.place.at ≡ Ok (piece.Convert c.in-Ok-Convert.conversion c.in-Ok-Convert.to) = cc (c.in-Ok-Convert.ensures.piece, c.in-Ok-Convert.field-0-is) in
    if_fault c.from_residual-in_err-taken-in-Ok-Convert.result _ _ c.from_residual-in_err-taken-in-Ok-Convert.ensures.0 c.from_residual-in_err-taken-in-Ok-Convert.ensures.1
    (λ rest.
    conversion_refused c.args.memory.now f.pattern.now f.kinds.now f.arguments.now rest c.args.place c.in-Ok-Convert.conversion c.in-Ok-Convert.to c.in_err-taken-in-Ok-Convert.field-0.0 at
    c.behind-kinds.result c.behind-kinds.ensures c.in_err-taken-in-Ok-Convert.ensures.why)
