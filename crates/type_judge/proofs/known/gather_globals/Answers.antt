use Rattle.std.proofs.Common.{ap, subst, sym, ◌∙◌, arith, take, List, ℕ, [], ◌∷◌}
use Rattle.ir_syntax.specs.View.{item_view, items_view}
use Rattle.type_judge.proofs.OnOrder.Gathered.{items_more}
use Rattle.type_judge.specs.Gathered.{AreGlobals, global_names}
use Rattle.type_judge.proofs.NamesGathered.{globals-append}
use Rattle.type_judge.proofs.known.gather_globals.Goals as goal

pub items-preserved : goal.items-preserved
items-preserved c =
    let front = items_view (take c.items.item-index c.as_slice-item-items.result.now) in
    let one = item_view c.item-item.result ∷ [] in
    let more = ap global_names (items_more c.as_slice-item-items.result.now c.items.item-index c.item-item.result (omega arith) c.item-item.is) ∙ globals-append front one in
    subst (λ (names : List (List ℕ)). AreGlobals c.add_global.new.globals names) (sym more) (c.in_ok-add_global.ensures (global_names front) c.items.invariant)
