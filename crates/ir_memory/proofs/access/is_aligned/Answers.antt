use Rattle.std.proofs.Common.{◌≡◌, ◌-◌, ◌%◌, ◌^◌, ap, sym, ◌∙◌, arith, bit_and}
use Rattle.std.specs.Prelude.{nat_eq}
use Rattle.std.proofs.lemmas.Nat.{and_mask, pow_pos}
use Rattle.ir_memory.proofs.access.is_aligned.Goals as goal

pub overflow_sub-result : goal.overflow_sub-result
overflow_sub-result c = omega (arith, c.from.ensures, c.requires.2, pow_pos c.requires.0)

pub returns : goal.returns
returns c =
    let e : c.from.result ≡ 2 ^ c.requires.0 = c.from.ensures ∙ c.requires.2 in
    ap (λ n. nat_eq n 0) (ap (λ m. bit_and c.args.address (m - 1)) e ∙ and_mask c.args.address c.requires.0 ∙ ap (λ m. c.args.address % m) (sym c.requires.2))
