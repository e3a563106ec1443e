use Rattle.std.proofs.Common.{map, length}
use Rattle.record_read.specs.Fields.{texts_of}
use Rattle.bitcode_read.specs.Ahead.Bodies.{names_given}
use Rattle.bitcode_read.proofs.OnAhead.FrontsDeclared.{few_where, record_alias, record_function, record_other, record_variable}
use Rattle.bitcode_read.proofs.ahead.declare.declare_record.Goals as goal

pub returns-then-code-eq-VARIABLE-clause-declares : goal.returns-then-code-eq-VARIABLE-clause-declares
returns-then-code-eq-VARIABLE-clause-declares c = λ operands at.
    record_variable (texts_of c.args.texts.now) (map names_given c.args.bodies.now) c.args.used c.args.code operands c.args.arena.now c.declare_variable.new.arena c.in_ok-done.done c.used_where.result c.if-code-eq-VARIABLE.true c.used_where.ensures (c.in_ok-done.ensures.declares operands at)

pub returns-then-code-eq-FUNCTION-clause-declares : goal.returns-then-code-eq-FUNCTION-clause-declares
returns-then-code-eq-FUNCTION-clause-declares c = λ operands at.
    record_function (texts_of c.args.texts.now) (map names_given c.args.bodies.now) c.args.used c.args.code operands c.args.arena.now c.declare_function.new.arena c.in_ok-now.now c.if-code-eq-FUNCTION.true (c.in_ok-now.ensures.declares operands at)

pub returns-then-code-eq-ALIAS-clause-declares : goal.returns-then-code-eq-ALIAS-clause-declares
returns-then-code-eq-ALIAS-clause-declares c = λ operands at.
    record_alias (texts_of c.args.texts.now) (map names_given c.args.bodies.now) c.args.used c.args.code operands c.args.arena.now c.declare_alias.new.arena c.in_ok-done-2.done c.used_where-then-code-eq-ALIAS.result c.if-code-eq-ALIAS.true c.used_where-then-code-eq-ALIAS.ensures (c.in_ok-done-2.ensures.declares operands at)

pub returns-clause-declares : goal.returns-clause-declares
returns-clause-declares c = λ operands at.
    record_other (texts_of c.args.texts.now) (map names_given c.args.bodies.now) c.args.used c.args.code operands c.args.arena.now c.if-code-eq-VARIABLE.false c.if-code-eq-FUNCTION.false c.if-code-eq-ALIAS.false

pub returns-then-code-eq-VARIABLE-clause-few : goal.returns-then-code-eq-VARIABLE-clause-few
returns-then-code-eq-VARIABLE-clause-few c = few_where c.in_ok-done.done c.args.used (length c.args.bodies.now) c.used_where.result c.used_where.ensures c.requires

pub returns-then-code-eq-ALIAS-clause-few : goal.returns-then-code-eq-ALIAS-clause-few
returns-then-code-eq-ALIAS-clause-few c = few_where c.in_ok-done-2.done c.args.used (length c.args.bodies.now) c.used_where-then-code-eq-ALIAS.result c.used_where-then-code-eq-ALIAS.ensures c.requires
