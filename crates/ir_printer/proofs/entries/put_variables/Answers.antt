use Rattle.std.proofs.Common.{List, map, length, refl, sym, arith}
use Rattle.std.proofs.lemmas.Option.{get_or_from_slice_get}
use Rattle.ir_lexer.specs.Pieces.{Line}
use Rattle.module_arena.specs.declared.entry.Variable as the_variable
use Rattle.type_table.specs.Types.{trees}
use Rattle.module_arena.specs.View.{constants_of, variable_view}
use Rattle.canonical.specs.Canonical.{variable_phrase}
use Rattle.module_arena.specs.Known.{KnowsVariable}
use Rattle.ir_printer.proofs.Followed.{one_of}
use Rattle.ir_printer.proofs.Lined.{line_more, lines_end}
use Rattle.ir_printer.proofs.entries.put_variables.Goals as goal

pub parts-preserved : goal.parts-preserved
parts-preserved g c = λ s now h.
    let a = c.args.arena.now in
    let x = c.variable-variable.result.now in
    let at = rw c.new.ensures at c.variable-variable.ensures in
    c.parts.invariant s now (line_more Line (λ (x : the_variable.Variable). variable_phrase (variable_view (trees a.table) (constants_of a) x)) (λ (xs : List the_variable.Variable). map variable_phrase (map (variable_view (trees a.table) (constants_of a)) xs)) refl (λ x xs. refl) a.variables c.parts.place x s (omega (arith, c.parts-test.true, c.variable_count-place-end.ensures.count)) (sym (get_or_from_slice_get a.variables c.parts.place x x at)) c.put_variable.ensures h)

pub returns : goal.returns
returns g c = λ s.
    let a = c.args.arena.now in
    c.parts.invariant s _ (lines_end Line (λ (x : the_variable.Variable). variable_phrase (variable_view (trees a.table) (constants_of a) x)) (λ (xs : List the_variable.Variable). map variable_phrase (map (variable_view (trees a.table) (constants_of a)) xs)) refl (λ x xs. refl) a.variables c.parts.place s _ (omega (arith, c.parts-test.false, c.variable_count-place-end.ensures.count)))

pub put_variable-requires : goal.put_variable-requires
put_variable-requires g c =
    let a = c.args.arena.now in
    let at = rw c.new.ensures at c.variable-variable.ensures in
    one_of (KnowsVariable (length a.table.types) (length a.constants)) a.variables c.variable_count-place-end.ensures.good.variables c.parts.place c.variable-variable.result.now at
