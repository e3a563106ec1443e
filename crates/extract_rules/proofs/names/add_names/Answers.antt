use Rattle.std.proofs.Common.{◌≡◌, ◌∷◌, [], length, arith}
use Rattle.module_arena.specs.Module.{Bytes}
use Rattle.extract_rules.proofs.Adding.{adds_as, adds_more, adds_whole, item_at, singles_same}
use Rattle.extract_rules.proofs.names.add_names.Goals as goal

pub loop-name-preserved : goal.loop-name-preserved
loop-name-preserved c =
    adds_more (λ (x : Bytes). x ∷ []) c.args.more.now c.loop-name.name-index _ _ _ _ (item_at c.args.more.now c.loop-name.name-index c.name-item.result c.loop-name-test.true c.name-item.is) c.loop-name.invariant c.in_ok-add_name.ensures

pub returns : goal.returns
returns c =
    let end : c.loop-name.name-index ≡ length c.args.more.now = omega (arith, c.loop-name-test.false, c.loop-name.auto.name-index-end) in
    adds_as _ _ _ _ (singles_same c.args.more.now) (adds_whole (λ (x : Bytes). x ∷ []) c.args.more.now c.loop-name.name-index _ _ end c.loop-name.invariant)
