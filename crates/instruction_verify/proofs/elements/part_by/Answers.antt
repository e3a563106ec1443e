use Rattle.std.proofs.Common.{◌<◌, length, sym, ap, ◌∙◌, subst}
use Rattle.std.specs.Prelude.{IfSome}
use Rattle.std.specs.Option.{option_map}
use Rattle.type_table.specs.Types.{Types, structs, tree}
use Rattle.module_arena.specs.Constants.{indexed}
use Rattle.module_arena.specs.TypeTests.{opened}
use Rattle.instruction_verify.proofs.elements.part_by.Goals as goal

pub returns-clause-part : goal.returns-clause-part
returns-clause-part c values blocks =
    let a = c.args.judge.now in
    let same = c.types.ensures in
    (λ j. indexed (opened (structs (sym same j)) (tree (sym same j) c.args.ty)) (record { ty = tree (sym same j) c.args.index.ty; number = sym (c.number_in-number.ensures values blocks) j }))
    ∙ sym c.indexed.ensures.part
    ∙ ap (λ (u : Types). option_map (tree u) c.indexed.result) same

pub returns-clause-known : goal.returns-clause-known
returns-clause-known c = subst (λ (u : Types). IfSome c.indexed.result (λ part. part < length u.types)) c.types.ensures c.indexed.ensures.known
