use Rattle.std.proofs.Common.{length, sym, ap, ◌∙◌}
use Rattle.type_table.specs.Types.{Types}
use Rattle.record_read.specs.Reader.{Reader}
use Rattle.bitcode_read.proofs.OnAhead.FrontsDeclared.{variable_added, variable_known, variable_refused, variable_undefined}
use Rattle.bitcode_read.proofs.OnAhead.Whole.{variable_none}
use Rattle.bitcode_read.proofs.ahead.declare.declare_variable.Goals as goal

pub returns-then-is_broken-clause-spent : goal.returns-then-is_broken-clause-spent
returns-then-is_broken-clause-spent c = ap (λ (r : Reader). r.spent) c.in_ok-front.ensures.reader

pub returns-then-is_broken-clause-left : goal.returns-then-is_broken-clause-left
returns-then-is_broken-clause-left c = ap (λ (r : Reader). r.left) c.in_ok-front.ensures.reader

pub returns-then-is_broken-clause-declares : goal.returns-then-is_broken-clause-declares
returns-then-is_broken-clause-declares c = λ operands at.
    variable_refused _ _ _ _ c.in_ok-front.front c.args.arena.now (c.type_count-types.ensures.count ∙ ap (λ (t : Types). length t.types) c.types.ensures) c.in_ok-front.ensures operands at (sym c.is_broken-is_broken.ensures ∙ c.if-is_broken.true)

pub add_variable-requires-clause-known : goal.add_variable-requires-clause-known
add_variable-requires-clause-known c =
    variable_known _ _ _ _ c.in_ok-front.front c.args.arena.now (c.type_count-types.ensures.count ∙ ap (λ (t : Types). length t.types) c.types.ensures) c.in_ok-front.ensures (sym c.is_broken-is_broken.ensures ∙ c.if-is_broken.false) c.in-Some.variable c.in-Some.ensures

pub add_variable-requires-clause-undefined : goal.add_variable-requires-clause-undefined
add_variable-requires-clause-undefined c =
    variable_undefined _ _ _ _ c.in_ok-front.front c.args.arena.now (c.type_count-types.ensures.count ∙ ap (λ (t : Types). length t.types) c.types.ensures) c.in_ok-front.ensures (sym c.is_broken-is_broken.ensures ∙ c.if-is_broken.false) c.in-Some.variable c.in-Some.ensures

pub returns-in_ok-done-in-Some-clause-spent : goal.returns-in_ok-done-in-Some-clause-spent
returns-in_ok-done-in-Some-clause-spent c = ap (λ (r : Reader). r.spent) c.in_ok-front.ensures.reader

pub returns-in_ok-done-in-Some-clause-left : goal.returns-in_ok-done-in-Some-clause-left
returns-in_ok-done-in-Some-clause-left c = ap (λ (r : Reader). r.left) c.in_ok-front.ensures.reader

pub returns-in_ok-done-in-Some-clause-declares : goal.returns-in_ok-done-in-Some-clause-declares
returns-in_ok-done-in-Some-clause-declares c = λ operands at.
    variable_added _ _ _ _ c.in_ok-front.front c.args.arena.now (c.type_count-types.ensures.count ∙ ap (λ (t : Types). length t.types) c.types.ensures) c.in_ok-front.ensures (sym c.is_broken-is_broken.ensures ∙ c.if-is_broken.false) c.in-Some.variable c.in-Some.ensures operands at c.add_variable.new.arena c.in_ok-done-in-Some.done c.in_ok-done-in-Some.ensures

pub returns-in-None-clause-spent : goal.returns-in-None-clause-spent
returns-in-None-clause-spent c = ap (λ (r : Reader). r.spent) c.in_ok-front.ensures.reader

pub returns-in-None-clause-left : goal.returns-in-None-clause-left
returns-in-None-clause-left c = ap (λ (r : Reader). r.left) c.in_ok-front.ensures.reader

pub returns-in-None-clause-declares : goal.returns-in-None-clause-declares
returns-in-None-clause-declares c = λ operands at. absurd (variable_none _ _ _ _ c.in_ok-front.front c.in_ok-front.ensures (sym c.is_broken-is_broken.ensures ∙ c.if-is_broken.false) (sym c.in-None.ensures))
