use Rattle.std.proofs.Common.{◌≡◌, ℕ, ◌<◌, ◌^◌, arith, List, Result, Ok, Err, IfOk, ◌∙◌}
use Rattle.std.specs.Fmt.{decimal as written}
use Rattle.ir_terminals.specs.Digits.{IsWritten}
use Rattle.ir_terminals.proofs.Written.{number_written}
use Rattle.ir_terminals.proofs.number.digits_of.Goals as goal

as_written : {E : Type 0} (r : Result (List ℕ) E) (bytes : List ℕ) (n : ℕ) → IfOk r (λ text. text ≡ bytes) → IsWritten n bytes → IfOk r (λ text. IsWritten n text)
as_written (Ok text) bytes n e h = rw e h
as_written (Err fault) bytes n e h = tt

pub returns : goal.returns
returns c =
    let n = c.args.number in
    let bytes : c.as_bytes.result.now ≡ written n = c.as_bytes.ensures.value ∙ c.in_ok-text.ensures.ok in
    let fits : n < 2 ^ 64 = omega arith in
    as_written c.from_slice.result _ n c.from_slice.ensures (rw bytes (number_written n fits))
