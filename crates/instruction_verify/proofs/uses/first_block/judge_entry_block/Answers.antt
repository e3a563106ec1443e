use Rattle.std.proofs.Common.{◌≡◌, not, List, [], ◌∷◌, slice_get, Some, ap, ◌∙◌, subst}
use Rattle.module_arena.specs.Lists.{function_blocks}
use Rattle.module_arena.specs.Valid.{BlockOf, Demand, ask}
use Rattle.module_arena.specs.View.{local_view}
use Rattle.entry_verify.specs.Types.Judged.{Judged}
use Rattle.instruction_verify.proofs.OnUses.Entered.{first_asked, named_at, unled}
use Rattle.instruction_verify.proofs.OnUses.Named.{names_apart}
use Rattle.instruction_verify.proofs.uses.first_block.judge_entry_block.Goals as goal

pub returns : goal.returns
returns c a r =
    let f = c.args.function.now in
    let first = c.block-first.result.now in
    let at : slice_get (function_blocks f) 0 ≡ Some first = subst (λ n. slice_get (function_blocks f) n ≡ Some first) c.new.ensures c.block-first.ensures in
    subst (λ (ds : List Demand). Judged ds c.judge_block.result)
    (ap (λ b. ask (BlockOf (local_view first.name) f.name) 8 b ∷ [])
    (ap not c.is_first_entered-entered.ensures ∙ unled a f 0 (local_view first.name) (names_apart a f _ r) (named_at a f 0 first at) c.requires)
    ∙ first_asked a f first at)
    c.judge_block.ensures
