use Rattle.std.proofs.Common.{List, map, length, refl, sym, arith}
use Rattle.std.proofs.lemmas.Option.{get_or_from_slice_get}
use Rattle.ir_lexer.specs.Pieces.{Line}
use Rattle.module_arena.specs.declared.entry.Function as the_function
use Rattle.canonical.specs.Canonical.{function_phrase}
use Rattle.ir_printer.specs.Functions.{function_of}
use Rattle.module_arena.specs.Known.{KnowsFunction}
use Rattle.ir_printer.proofs.Followed.{one_of}
use Rattle.ir_printer.proofs.Lined.{line_more, lines_end}
use Rattle.ir_printer.proofs.entries.put_functions.Goals as goal

pub parts-preserved : goal.parts-preserved
parts-preserved g c = λ s now h.
    let a = c.args.arena.now in
    let x = c.function-function.result.now in
    let at = rw c.new.ensures at c.function-function.ensures in
    c.parts.invariant s now (line_more Line (λ (x : the_function.Function). function_phrase (function_of a x)) (λ (xs : List the_function.Function). map function_phrase (map (function_of a) xs)) refl (λ x xs. refl) a.functions c.parts.place x s (omega (arith, c.parts-test.true, c.function_count-place-end.ensures)) (sym (get_or_from_slice_get a.functions c.parts.place x x at)) c.put_function.ensures h)

pub returns : goal.returns
returns g c = λ s.
    let a = c.args.arena.now in
    c.parts.invariant s _ (lines_end Line (λ (x : the_function.Function). function_phrase (function_of a x)) (λ (xs : List the_function.Function). map function_phrase (map (function_of a) xs)) refl (λ x xs. refl) a.functions c.parts.place s _ (omega (arith, c.parts-test.false, c.function_count-place-end.ensures)))

pub put_function-requires : goal.put_function-requires
put_function-requires g c =
    let a = c.args.arena.now in
    let at = rw c.new.ensures at c.function-function.ensures in
    one_of (KnowsFunction (length a.table.types) (length a.constants)) a.functions c.variable_count-count.ensures.good.functions c.parts.place c.function-function.result.now at
