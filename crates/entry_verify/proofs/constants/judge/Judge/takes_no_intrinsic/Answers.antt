use Rattle.std.proofs.Common.{◌∙◌, ap}
use Rattle.module_arena.specs.EntryRules.{takes_no_intrinsic}
use Rattle.module_arena.specs.Lists.{Lists}
use Rattle.module_arena.specs.View.{constant_at, constants_of, module_of}
use Rattle.entry_verify.specs.declared.constants.constants.ConstFact.{ConstFact}
use Rattle.entry_verify.proofs.OnConstants.ConstantsKnown.{any_type, fact_here}
use Rattle.entry_verify.proofs.constants.judge.Judge.takes_no_intrinsic.Goals as goal

pub returns : goal.returns
returns c t =
    let a = c.self.inside.arena.now in
    ap (λ (f : ConstFact). f.takes_no_intrinsic) (fact_here (module_of a) (constants_of a) _ _ c.args.id _ c.fact_at.ensures c.deref.ensures.value c.self.invariant.told)
    ∙ any_type (module_of a) t (constant_at (constants_of a) c.args.id)
    ∙ ap (λ (b : Lists). takes_no_intrinsic (module_of b) t (constant_at (constants_of b) c.args.id)) c.self.view_is
