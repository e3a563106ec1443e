use Rattle.std.proofs.Common.{List, All, length, map, refl, sym, ap, ◌∙◌, subst}
use Rattle.std.proofs.lemmas.Bool.{and_parts}
use Rattle.type_table.specs.Types.{trees}
use Rattle.module_arena.specs.Changes.{function_in}
use Rattle.module_arena.specs.Known.{HasOperand}
use Rattle.module_arena.specs.ValueRules as rules
use Rattle.module_arena.specs.View.{constants_of, module_of, operand_view}
use Rattle.module_arena.specs.declared.instruction.Operand.{Operand}
use Rattle.entry_verify.proofs.OnConstants.ConstantsKnown.{own_structs}
use Rattle.path_rows.proofs.Viewed.{end_operands_viewed}
use Rattle.instruction_verify.proofs.OnLast.Listed.{end_within}
use Rattle.instruction_verify.proofs.last.passing.ending_types_pass.Goals as goal

pub ending_passes-passes-requires-clause-known : goal.ending_passes-passes-requires-clause-known
ending_passes-passes-requires-clause-known c =
    let a = c.args.judge.now in
    let values = length c.args.value_types.now in
    end_within a values c.args.ending.now (subst (λ (os : List Operand). All (HasOperand (length a.table.types) (length a.constants) values) os) c.requires.gathered c.requires.known)

pub returns-clause-first : goal.returns-clause-first
returns-clause-first c values blocks number e = c.ending_passes-passes.ensures.first values blocks number (and_parts _ _ e).0

pub returns-clause-last : goal.returns-clause-last
returns-clause-last c values blocks number told e =
    let a = c.args.judge.now in
    let m = module_of a in
    let f = function_in a c.args.function.now in
    let seen = operand_view (trees a.table) (constants_of a) values blocks in
    let listed = ap (λ (os : List Operand). map seen os) c.requires.gathered ∙ end_operands_viewed (trees a.table) (constants_of a) values blocks c.args.ending.now in
    let typed =
    c.have_types_written-typed.ensures f values blocks told
    ∙ ap (λ s. rules.have_types_written s f (map seen c.args.operands.now)) (sym (own_structs a))
    ∙ ap (rules.have_types_written m.structs f) listed in
    (sym typed ∙ (and_parts _ _ e).1, c.ending_passes-passes.ensures.types f values blocks number refl (and_parts _ _ e).0)
