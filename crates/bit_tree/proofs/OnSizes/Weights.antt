-- Each record takes a bit, and each of its operands one.
use Rattle.std.proofs.Common.{◌+◌, ◌≤◌, arith}
use Rattle.bit_stream.specs.Writer.{Writer, enter, end_block, define, put_record, abbreviated}
use Rattle.bit_tree.specs.Written.{Written, no_more, a_block, a_definition, a_record, a_short_record, written}
use Rattle.bit_tree.specs.Sizes.Plain.{weight}
use Rattle.bit_tree.proofs.OnSizes.Grows.{size, around_kept, enter_grows, end_grows, define_grows, put_grows, abbreviated_grows}

pub heavier : (all : Written) (w : Writer) → size w + weight all ≤ size (written w all)
unfolding written weight
heavier no_more w = omega arith
heavier (a_block id width inside behind) w =
    let x = written (enter w id width) inside in
    let a = enter_grows w id width in
    let b = heavier inside (enter w id width) in
    let c = (end_grows w id width x (around_kept inside (enter w id width))).0 in
    let d = heavier behind (end_block x) in
    omega (arith, a, b, c, d)
heavier (a_definition ops behind) w = let a = define_grows w ops in let b = heavier behind (define w ops) in omega (arith, a, b)
heavier (a_record code ns behind) w = let a = put_grows w code ns in let b = heavier behind (put_record w code ns) in omega (arith, a, b)
heavier (a_short_record id code ns behind) w = let a = abbreviated_grows w id code ns in let b = heavier behind (abbreviated w id code ns) in omega (arith, a, b)
