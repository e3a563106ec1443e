use Rattle.std.proofs.Common.{ap, ◌∙◌, ◌%◌, ◌^◌}
use Rattle.std.specs.Int.{w128, cast_unsigned}
use Rattle.std.proofs.lemmas.Int.{to_z-of_z}
use Rattle.ir_eval.proofs.Words.{low_bits_of_word, cast_is_reduced}
use Rattle.ir_eval.proofs.width.reduced.Goals as goal

pub returns : goal.returns
returns c =
    let number = to_z-of_z w128 c.args.number c.ranges.number in
    let word = c.cast_unsigned.ensures ∙ ap (cast_unsigned w128) number ∙ cast_is_reduced c.args.number c.ranges.number in
    c.low_bits.ensures ∙ ap (λ x. x % 2 ^ c.args.width) word ∙ low_bits_of_word c.args.width c.args.number c.requires
