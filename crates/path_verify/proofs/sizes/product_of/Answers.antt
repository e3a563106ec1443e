use Rattle.std.proofs.Common.{◌*◌, ◌^◌, ◌<◌, sym, ◌∙◌, arith}
use Rattle.path_verify.proofs.Sized.{product_is, few_values, few_blocks}
use Rattle.path_verify.proofs.Counted.{small_product}
use Rattle.path_verify.proofs.sizes.product_of.Goals as goal

pub value_count-requires : goal.value_count-requires
value_count-requires c = few_values c.args.arena.now c.args.function.now _ c.in-Some.is c.requires

pub overflow_mul-result : goal.overflow_mul-result
overflow_mul-result c =
    let blocks : c.block_count.result < 2 ^ 32 = omega (arith, few_blocks c.args.arena.now c.args.function.now _ c.in-Some.is c.requires, c.block_count.ensures) in
    let values : c.value_count.result < 2 ^ 32 = omega (arith, few_values c.args.arena.now c.args.function.now _ c.in-Some.is c.requires, c.value_count.ensures) in
    let fits = small_product c.block_count.result c.value_count.result blocks values in
    omega (arith, fits)

pub returns-in-Some : goal.returns-in-Some
returns-in-Some c = (λ j. c.block_count.ensures j * c.value_count.ensures j) ∙ sym (product_is c.args.arena.now c.args.function.now c.requires)
