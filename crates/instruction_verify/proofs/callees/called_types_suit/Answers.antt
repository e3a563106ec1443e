use Rattle.std.proofs.Common.{Some, sym, ap, ◌∙◌}
use Rattle.type_table.specs.Tree.{ptr}
use Rattle.entry_verify.proofs.OnConstants.ConstantsKnown.{own_structs}
use Rattle.module_arena.specs.EntryRules.{constant_types_suit}
use Rattle.module_arena.specs.InstructionRules.{callee_types_suit}
use Rattle.module_arena.specs.View.{constant_at, constants_of, module_of}
use Rattle.instruction_verify.specs.ArenaOperands.{value_in}
use Rattle.instruction_verify.proofs.callees.called_types_suit.Goals as goal

pub returns-in-Known : goal.returns-in-Known
returns-in-Known c values blocks =
    let a = c.args.judge.now in
    c.types_suit.ensures ptr
    ∙ ap (λ s. constant_types_suit s ptr (constant_at (constants_of a) c.in-Known.id)) (sym (own_structs a))
    ∙ ap (λ v. callee_types_suit (module_of a).structs (Some (value_in a values blocks v))) (sym c.in-Known.is)

pub returns-in-Local : goal.returns-in-Local
returns-in-Local c values blocks =
    let a = c.args.judge.now in
    ap (λ v. callee_types_suit (module_of a).structs (Some (value_in a values blocks v))) (sym c.in-Local.is)
