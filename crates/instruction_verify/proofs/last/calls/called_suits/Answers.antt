use Rattle.std.proofs.Common.{ℕ, ◌<◌, ◌&&◌, ◌||◌, not, List, [], All, map, length, subst, sym, ap, ◌∙◌}
use Rattle.std.proofs.lemmas.List.Elements.{All-head, All-tail, All-weaker}
use Rattle.type_table.specs.Types.{Types, tree, trees}
use Rattle.module_arena.specs.declared.instruction.Operand.{Operand}
use Rattle.module_arena.specs.Known.{HasOperand, HasValue}
use Rattle.module_arena.specs.TypeTests.{is_void}
use Rattle.module_arena.specs.ValueRules.{arguments_suit}
use Rattle.module_arena.specs.View.{constants_of, operand_view, type_at, value_name}
use Rattle.entry_verify.proofs.OnEntries.EntriesFound.{none-map}
use Rattle.instruction_verify.proofs.OnLast.CallsTold.{turned}
use Rattle.instruction_verify.proofs.last.calls.called_suits.Goals as goal

pub is_pointer_value-points-requires-clause-value : goal.is_pointer_value-points-requires-clause-value
is_pointer_value-points-requires-clause-value c =
    All-head (HasValue (length c.args.judge.now.constants) (length c.args.value_types.now)) c.args.call.now.callee [] c.requires.known.values_known

pub arguments_suit-passed-requires-clause-parameters : goal.arguments_suit-passed-requires-clause-parameters
arguments_suit-passed-requires-clause-parameters c =
    let s = c.args.call.now.signature in
    let known = subst (λ (t : Types). All (λ (ty : ℕ). ty < length t.types) s.parameters) (sym c.types-types.ensures)
    (All-tail (λ (ty : ℕ). ty < length c.args.judge.now.table.types) s.returns s.parameters c.requires.known.types_known) in
    subst (λ (ps : List ℕ). All (λ (ty : ℕ). ty < length c.types-types.result.now.types) ps) (sym c.as_slice.ensures) known

pub arguments_suit-passed-requires-clause-arguments : goal.arguments_suit-passed-requires-clause-arguments
arguments_suit-passed-requires-clause-arguments c =
    let a = c.args.judge.now in
    let arguments = c.args.call.now.arguments in
    let known = subst (λ (t : Types). All (λ (o : Operand). o.ty < length t.types) arguments) (sym c.types-types.ensures)
    (All-weaker (HasOperand (length a.table.types) (length a.constants) (length c.args.value_types.now)) (λ (o : Operand). o.ty < length a.table.types) (λ o h. h.0) arguments c.requires.known.operands_known) in
    subst (λ (os : List Operand). All (λ (o : Operand). o.ty < length c.types-types.result.now.types) os) (sym c.as_slice-2.ensures) known

pub is_void-requires : goal.is_void-requires
is_void-requires c =
    let s = c.args.call.now.signature in
    subst (λ (t : Types). s.returns < length t.types) (sym c.types-types.ensures)
    (All-head (λ (ty : ℕ). ty < length c.args.judge.now.table.types) s.returns s.parameters c.requires.known.types_known)

pub returns : goal.returns
returns c f vs bs told =
    let a = c.args.judge.now in
    let call = c.args.call.now in
    let s = call.signature in
    let cs = constants_of a in
    let points = c.is_pointer_value-points.ensures f vs bs told in
    let passed =
    c.arguments_suit-passed.ensures cs vs bs
    ∙ (λ j. arguments_suit s.variadic (map (type_at (trees c.types-types.result.now)) (c.as_slice.ensures j)) (map (operand_view (trees c.types-types.result.now) cs vs bs) (c.as_slice-2.ensures j)))
    ∙ ap (λ (t : Types). arguments_suit s.variadic (map (type_at (trees t)) s.parameters) (map (operand_view (trees t) cs vs bs) call.arguments)) c.types-types.ensures in
    let void = c.is_void.ensures ∙ ap (λ (t : Types). is_void (tree t s.returns)) c.types-types.ensures in
    let kept = turned _ c.is_none.result c.is_none.ensures ∙ none-map (value_name (trees a.table) cs vs bs) call.result in
    λ j. points j && (passed j && (not (void j) || kept j))
