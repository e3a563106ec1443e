use Rattle.std.proofs.Common.{◌≡◌, true, false, Some, sym, ap, ◌∙◌, arith}
use Rattle.std.specs.Option.{option_map}
use Rattle.std.proofs.lemmas.Bool.{lt-ltb, le-ltb}
use Rattle.module_arena.specs.Changes.{function_in}
use Rattle.module_arena.specs.Functions.{is_too_large}
use Rattle.module_arena.specs.View.{module_of}
use Rattle.entry_verify.proofs.OnEntries.EntriesFound.{function_at, function_known}
use Rattle.path_verify.specs.Verified.{told_of}
use Rattle.path_verify.proofs.Counted.{find_past, find_here, find_end, so_many_functions}
use Rattle.path_verify.proofs.sizes.judge_sizes.Goals as goal

pub product_of-product-requires : goal.product_of-product-requires
product_of-product-requires c = function_known c.args.arena.now c.variable_count-count.ensures.good c.new.result c.function-function.result.now c.function-function.ensures

pub functions-preserved : goal.functions-preserved
functions-preserved c =
    let a = c.args.arena.now in
    let m = module_of a in
    let f = c.function-function.result.now in
    let at = function_at a c.functions.number f (rw c.new.ensures at c.function-function.ensures) in
    let small : is_too_large (function_in a f) ≡ false = le-ltb _ _ (omega (arith, c.if-product-gt-LARGEST_PRODUCT.false, c.product_of-product.ensures)) in
    c.functions.invariant ∙ find_past is_too_large m.functions c.functions.number (function_in a f) at small

pub returns-then-product-gt-LARGEST_PRODUCT : goal.returns-then-product-gt-LARGEST_PRODUCT
returns-then-product-gt-LARGEST_PRODUCT c =
    let a = c.args.arena.now in
    let m = module_of a in
    let f = c.function-function.result.now in
    let at = function_at a c.functions.number f (rw c.new.ensures at c.function-function.ensures) in
    let large : is_too_large (function_in a f) ≡ true = lt-ltb _ _ (omega (arith, c.if-product-gt-LARGEST_PRODUCT.true, c.product_of-product.ensures)) in
    ap (option_map told_of) (c.functions.invariant ∙ find_here is_too_large m.functions c.functions.number (function_in a f) at large)
    ∙ (λ j. Some (sym c.in_ok-name.ensures j, sym c.product_of-product.ensures j))

pub returns : goal.returns
returns c =
    let a = c.args.arena.now in
    c.functions.invariant ∙ find_end is_too_large (module_of a).functions c.functions.number (omega (arith, c.functions-test.false, c.function_count-number-end.ensures, so_many_functions a))
