use Rattle.std.proofs.Common.{◌&&◌, Option, All, length, sym, ap, ◌∙◌, subst}
use Rattle.std.proofs.lemmas.Bool.{and_parts}
use Rattle.std.specs.Option.{option_map, option_to_list}
use Rattle.type_table.specs.Types.{structs, trees}
use Rattle.module_arena.specs.Operations as operations
use Rattle.module_arena.specs.ValueRules as rules
use Rattle.module_arena.specs.View.{constants_of, inst_view, value_view}
use Rattle.module_arena.specs.declared.instruction.Value as the_value
use Rattle.entry_verify.proofs.OnConstants.ConstantsKnown.{own_structs}
use Rattle.path_rows.proofs.Viewed.{callee_viewed}
use Rattle.instruction_verify.specs.Last.ValuesById.{HasConstant}
use Rattle.instruction_verify.proofs.OnLast.Listed.{callee_known, inst_within}
use Rattle.instruction_verify.proofs.last.passing.operation_passes.Goals as goal

pub instruction_passes-passes-requires : goal.instruction_passes-passes-requires
instruction_passes-passes-requires c = inst_within c.args.judge.now (length c.args.value_types.now) c.args.instruction.now c.requires.known

pub callee_fits-direct-requires : goal.callee_fits-direct-requires
callee_fits-direct-requires c =
    let a = c.args.judge.now in
    subst (λ (o : Option the_value.Value). All (HasConstant (length a.constants)) (option_to_list o)) (sym c.callee_of.ensures)
    (callee_known a (length c.args.value_types.now) c.args.instruction.now c.requires.known)

pub returns-clause-first : goal.returns-clause-first
returns-clause-first c values blocks function number e = c.instruction_passes-passes.ensures.first values blocks function number (and_parts _ _ e).0

pub returns-clause-types : goal.returns-clause-types
returns-clause-types c values blocks function number e = c.instruction_passes-passes.ensures.types values blocks function number (and_parts _ _ e).0

pub returns-clause-calls : goal.returns-clause-calls
returns-clause-calls c f values blocks number told e =
    let a = c.args.judge.now in
    let i = inst_view (trees a.table) (constants_of a) values blocks c.args.instruction.now in
    let passes = (and_parts _ _ e).0 in
    let back = and_parts _ _ (and_parts _ _ e).1 in
    let suits = c.call_suits-suits.ensures f values blocks told ∙ ap (λ s. rules.call_suits s f i.result i.operation) (sym (own_structs a)) in
    let direct =
    c.callee_fits-direct.ensures values blocks
    ∙ ap (λ (o : Option the_value.Value). rules.callee_fits (structs a.table) (option_map (value_view (trees a.table) (constants_of a) values blocks) o)) c.callee_of.ensures
    ∙ ap (rules.callee_fits (structs a.table)) (callee_viewed (trees a.table) (constants_of a) values blocks c.args.instruction.now)
    ∙ ap (λ s. rules.callee_fits s (operations.callee i.operation)) (sym (own_structs a)) in
    let fits = c.instruction_passes-passes.ensures.fits values blocks passes in
    let called = sym direct ∙ back.1 in
    (sym suits ∙ back.0, ((λ j. fits j && called j), tt))
