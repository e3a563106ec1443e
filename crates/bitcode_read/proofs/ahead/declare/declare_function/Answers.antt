use Rattle.std.proofs.Common.{map, length, drop, sym, ap, ◌∙◌}
use Rattle.std.proofs.lemmas.List.{length-map}
use Rattle.type_table.specs.Types.{Types}
use Rattle.record_read.specs.Reader.{Reader}
use Rattle.bitcode_read.specs.Ahead.Bodies.{names_given}
use Rattle.bitcode_read.specs.Ahead.Entries.{names_for, used_with}
use Rattle.bitcode_read.proofs.OnAhead.FrontsDeclared.{few_where, function_added, function_known, function_refused, function_undefined}
use Rattle.bitcode_read.proofs.OnAhead.Whole.{function_none}
use Rattle.bitcode_read.proofs.ahead.declare.declare_function.Goals as goal

pub returns-then-is_broken-clause-spent : goal.returns-then-is_broken-clause-spent
returns-then-is_broken-clause-spent c = ap (λ (r : Reader). r.spent) c.in_ok-front.ensures.reader

pub returns-then-is_broken-clause-left : goal.returns-then-is_broken-clause-left
returns-then-is_broken-clause-left c = ap (λ (r : Reader). r.left) c.in_ok-front.ensures.reader

pub returns-then-is_broken-clause-declares : goal.returns-then-is_broken-clause-declares
returns-then-is_broken-clause-declares c = λ operands at.
    function_refused _ _ _ _ c.in_ok-front.front c.args.arena.now (map names_given c.args.bodies.now) c.args.used (c.type_count-types.ensures.count ∙ ap (λ (t : Types). length t.types) c.types.ensures) c.in_ok-front.ensures operands at (sym c.is_broken-is_broken.ensures ∙ c.if-is_broken.true)

pub add_function-requires-clause-known : goal.add_function-requires-clause-known
add_function-requires-clause-known c =
    function_known _ _ _ _ c.in_ok-front.front c.args.arena.now (names_for c.in_ok-front.front.defined (drop c.args.used (map names_given c.args.bodies.now))) (c.type_count-types.ensures.count ∙ ap (λ (t : Types). length t.types) c.types.ensures) c.in_ok-front.ensures
    (sym c.is_broken-is_broken.ensures ∙ c.if-is_broken.false) c.in-Some.function (sym c.in-Some.is ∙ c.in_ok-made.ensures)

pub add_function-requires-clause-undefined : goal.add_function-requires-clause-undefined
add_function-requires-clause-undefined c =
    function_undefined _ _ _ _ c.in_ok-front.front c.args.arena.now (names_for c.in_ok-front.front.defined (drop c.args.used (map names_given c.args.bodies.now))) (c.type_count-types.ensures.count ∙ ap (λ (t : Types). length t.types) c.types.ensures) c.in_ok-front.ensures
    (sym c.is_broken-is_broken.ensures ∙ c.if-is_broken.false) c.in-Some.function (sym c.in-Some.is ∙ c.in_ok-made.ensures)

pub returns-in_ok-done-in-Some-clause-spent : goal.returns-in_ok-done-in-Some-clause-spent
returns-in_ok-done-in-Some-clause-spent c = ap (λ (r : Reader). r.spent) c.in_ok-front.ensures.reader

pub returns-in_ok-done-in-Some-clause-left : goal.returns-in_ok-done-in-Some-clause-left
returns-in_ok-done-in-Some-clause-left c = ap (λ (r : Reader). r.left) c.in_ok-front.ensures.reader

pub returns-in_ok-done-in-Some-clause-few : goal.returns-in_ok-done-in-Some-clause-few
returns-in_ok-done-in-Some-clause-few c =
    few_where c.in_ok-done-in-Some.done c.used_behind-now.result (length c.args.bodies.now) c.used_where.result c.used_where.ensures c.used_behind-now.ensures.few

pub returns-in_ok-done-in-Some-clause-declares : goal.returns-in_ok-done-in-Some-clause-declares
returns-in_ok-done-in-Some-clause-declares c = λ operands at.
    function_added _ _ _ _ c.in_ok-front.front c.args.arena.now (map names_given c.args.bodies.now) c.args.used (c.type_count-types.ensures.count ∙ ap (λ (t : Types). length t.types) c.types.ensures) c.in_ok-front.ensures operands at
    (sym c.is_broken-is_broken.ensures ∙ c.if-is_broken.false) c.in-Some.function (sym c.in-Some.is ∙ c.in_ok-made.ensures) c.add_function.new.arena c.used_behind-now.result c.in_ok-done-in-Some.done c.used_where.result
    (c.used_behind-now.ensures.is ∙ ap (λ n. used_with c.in_ok-front.front.defined c.args.used n) (sym (length-map c.args.bodies.now names_given))) c.used_where.ensures c.in_ok-done-in-Some.ensures

pub returns-in-None-clause-spent : goal.returns-in-None-clause-spent
returns-in-None-clause-spent c = ap (λ (r : Reader). r.spent) c.in_ok-front.ensures.reader

pub returns-in-None-clause-left : goal.returns-in-None-clause-left
returns-in-None-clause-left c = ap (λ (r : Reader). r.left) c.in_ok-front.ensures.reader

pub returns-in-None-clause-declares : goal.returns-in-None-clause-declares
returns-in-None-clause-declares c = λ operands at.
    absurd (function_none _ _ _ _ c.in_ok-front.front (names_for c.in_ok-front.front.defined (drop c.args.used (map names_given c.args.bodies.now))) c.in_ok-front.ensures (sym c.is_broken-is_broken.ensures ∙ c.if-is_broken.false) (sym c.in_ok-made.ensures ∙ c.in-None.is))
