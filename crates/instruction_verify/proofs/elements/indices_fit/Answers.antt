use Rattle.std.proofs.Common.{◌<◌, All, length, sym, ap, ◌∙◌, subst, arith}
use Rattle.std.specs.List.{list_all}
use Rattle.std.proofs.lemmas.List.Elements.{All-weaker}
use Rattle.type_table.specs.Types.{Types, structs, tree}
use Rattle.module_arena.specs.TypeTests.{is_integer}
use Rattle.module_arena.specs.declared.instruction.Operand.{Operand}
use Rattle.instruction_verify.specs.ArenaOperands.{HasOperand, index_in}
use Rattle.instruction_verify.proofs.ElementsTold.{indices_told}
use Rattle.instruction_verify.proofs.elements.indices_fit.Goals as goal

pub are_integers-all-requires : goal.are_integers-all-requires
are_integers-all-requires c =
    let a = c.args.judge.now in
    subst (λ (u : Types). All (λ (o : Operand). o.ty < length u.types) c.args.indices.now) (sym c.types.ensures)
    (All-weaker (HasOperand a) (λ (o : Operand). o.ty < length a.table.types) (λ o h. h.0) c.args.indices.now c.requires.known)

pub returns-in-len1-up : goal.returns-in-len1-up
returns-in-len1-up c values blocks =
    let a = c.args.judge.now in
    indices_told (structs a.table) (tree a.table c.args.source) (index_in a values blocks) _ c.args.indices.now c.are_integers-all.result c.leads_to_part-leads.result c.in-len1-up.len_at_least (omega arith)
    (c.are_integers-all.ensures ∙ ap (λ (u : Types). list_all (λ (o : Operand). is_integer (tree u o.ty)) c.args.indices.now) c.types.ensures)
    (c.leads_to_part-leads.ensures values blocks)
