use Rattle.std.proofs.Common.{◌≡◌, ◌∷◌, [], length, arith, subst}
use Rattle.module_arena.specs.Module.{Bytes}
use Rattle.module_arena.specs.View.{module_of}
use Rattle.extract_rules.specs.Calls.{Adds}
use Rattle.extract_rules.specs.Selected.{behind}
use Rattle.extract_rules.proofs.Adding.{adds_as, adds_more, adds_whole, item_at, singles}
use Rattle.extract_rules.proofs.chosen.add_targets.Goals as goal

pub loop-alias-preserved : goal.loop-alias-preserved
loop-alias-preserved c =
    let m = module_of c.args.arena.now in
    adds_more (λ (x : Bytes). behind m x ∷ []) c.args.aliases.now c.loop-alias.alias-index _ _ _ _ (item_at c.args.aliases.now c.loop-alias.alias-index c.alias-item.result c.loop-alias-test.true c.alias-item.is) c.loop-alias.invariant
    (subst (λ (n : Bytes). Adds c.loop-alias.names.keys (n ∷ []) c.add_name.new.names.keys) c.name_behind.ensures c.in_ok-add_name.ensures)

pub returns : goal.returns
returns c =
    let m = module_of c.args.arena.now in
    let end : c.loop-alias.alias-index ≡ length c.args.aliases.now = omega (arith, c.loop-alias-test.false, c.loop-alias.auto.alias-index-end) in
    adds_as _ _ _ _ (singles (behind m) c.args.aliases.now) (adds_whole (λ (x : Bytes). behind m x ∷ []) c.args.aliases.now c.loop-alias.alias-index _ _ end c.loop-alias.invariant)
