use Rattle.std.proofs.Common.{◌∙◌, ap}
use Rattle.type_table.specs.Types.{structs}
use Rattle.module_arena.specs.EntryRules.{constant_types_suit}
use Rattle.module_arena.specs.Lists.{Lists}
use Rattle.module_arena.specs.View.{constant_at, constants_of, module_of}
use Rattle.entry_verify.specs.declared.constants.constants.ConstFact.{ConstFact}
use Rattle.entry_verify.proofs.OnConstants.ConstantsKnown.{any_written, fact_here, own_structs}
use Rattle.entry_verify.proofs.constants.judge.Judge.types_suit.Goals as goal

pub returns : goal.returns
returns c t =
    let a = c.self.inside.arena.now in
    let x = constant_at (constants_of a) c.args.id in
    ap (λ (f : ConstFact). f.types_suit) (fact_here (module_of a) (constants_of a) _ _ c.args.id _ c.fact_at.ensures c.deref.ensures.value c.self.invariant.told)
    ∙ any_written (module_of a).structs t x
    ∙ ap (λ s. constant_types_suit s t x) (own_structs a)
    ∙ ap (λ (b : Lists). constant_types_suit (structs b.table) t (constant_at (constants_of b) c.args.id)) c.self.view_is
