use Rattle.std.proofs.Common.{sym, ap, ◌∙◌}
use Rattle.type_table.specs.Types.{Types, tree, structs}
use Rattle.std.specs.Prelude.{is_some}
use Rattle.module_arena.specs.Same.{same_type}
use Rattle.module_arena.specs.TypeTests.{is_type, part_at}
use Rattle.module_arena.specs.ValueRules as rules
use Rattle.module_arena.specs.declared.instruction.Insertion.{Insertion}
use Rattle.entry_verify.proofs.OnEntries.EntriesFound.{some-map}
use Rattle.instruction_verify.specs.ArenaOperands.{instruction_in}
use Rattle.instruction_verify.proofs.NothingAsked.{no_part}
use Rattle.instruction_verify.proofs.rules.part_suits.Goals as goal

pub returns-in-ExtractValue : goal.returns-in-ExtractValue
returns-in-ExtractValue c a values blocks same =
    c.is_some.ensures
    ∙ some-map (tree c.args.types.now) c.part_at.result
    ∙ ap is_some c.part_at.ensures.part
    ∙ ap (λ ks. is_some (part_at (structs c.args.types.now) (tree c.args.types.now c.in-ExtractValue.aggregate.ty) ks)) c.as_slice.ensures
    ∙ ap (λ (u : Types). is_some (part_at (structs c.args.types.now) (tree u c.in-ExtractValue.aggregate.ty) c.in-ExtractValue.indices)) same
    ∙ ap (λ i. rules.part_suits (structs c.args.types.now) (instruction_in a values blocks i).operation) (sym c.in-ExtractValue.is)

pub returns-in-InsertValue : goal.returns-in-InsertValue
returns-in-InsertValue c a values blocks same =
    c.has_part_of.ensures
    ∙ ap (λ ks. is_type (same_type (tree c.args.types.now c.get-insertion.result.now.part.ty)) (part_at (structs c.args.types.now) (tree c.args.types.now c.get-insertion.result.now.aggregate.ty) ks)) c.as_slice-indices.ensures
    ∙ ap (λ (k : Insertion). is_type (same_type (tree c.args.types.now k.part.ty)) (part_at (structs c.args.types.now) (tree c.args.types.now k.aggregate.ty) k.indices)) c.get-insertion.ensures
    ∙ ap (λ (u : Types). is_type (same_type (tree u c.in-InsertValue.insertion.part.ty)) (part_at (structs c.args.types.now) (tree u c.in-InsertValue.insertion.aggregate.ty) c.in-InsertValue.insertion.indices)) same
    ∙ ap (λ i. rules.part_suits (structs c.args.types.now) (instruction_in a values blocks i).operation) (sym c.in-InsertValue.is)

pub returns-in_default : goal.returns-in_default
returns-in_default c a values blocks same = no_part a values blocks (structs c.args.types.now) c.args.instruction.now c.in_default.not-ExtractValue c.in_default.not-InsertValue
