use Rattle.std.proofs.Common.{map, drop, sym, ap, ◌∙◌}
use Rattle.bitcode_read.specs.Ahead.Bodies.{names_given}
use Rattle.bitcode_read.specs.Ahead.Entries.{names_for, whole_function}
use Rattle.bitcode_read.proofs.OnAhead.FrontsDeclared.{names_there}
use Rattle.bitcode_read.proofs.ahead.declare.function_with.Goals as goal

pub returns-then-is_defined : goal.returns-then-is_defined
returns-then-is_defined c =
    c.in_ok-function.ensures
    ∙ ap (λ l. whole_function l c.args.front.name c.args.front.linkage c.args.front.returns c.args.front.variadic c.args.front.parameters)
    (c.names_at-names.ensures ∙ (names_there c.args.bodies.now c.args.used ∙ ap (λ b. names_for b (drop c.args.used (map names_given c.args.bodies.now))) (sym c.if-is_defined.true)))

pub returns : goal.returns
returns c =
    c.in_ok-declaration.ensures
    ∙ ap (λ l. whole_function l c.args.front.name c.args.front.linkage c.args.front.returns c.args.front.variadic c.args.front.parameters)
    (ap (λ b. names_for b (drop c.args.used (map names_given c.args.bodies.now))) (sym c.if-is_defined.false))
