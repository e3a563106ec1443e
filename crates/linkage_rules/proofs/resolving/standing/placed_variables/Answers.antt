use Rattle.std.proofs.Common.{◌≡◌, ◌∷◌, [], ◌++◌, ◌+◌, List, ℕ, Some, sym, ap, ◌∙◌, subst, take}
use Rattle.std.specs.Prelude.{slice_get}
use Rattle.std.proofs.lemmas.Option.{slice_get-get_or}
use Rattle.linkage_rules.specs.declared.symbol.Symbol.{Symbol}
use Rattle.linkage_rules.specs.Ids.{modules}
use Rattle.linkage_rules.specs.Addresses.{Room}
use Rattle.linkage_rules.specs.declared.resolving.standing.PlacedVariable.{PlacedVariable}
use Rattle.linkage_rules.specs.Resolving.Places.{rows_among}
use Rattle.linkage_rules.proofs.OnResolving.Placing.{ArePut, none_more, some_more}
use Rattle.linkage_rules.proofs.resolving.standing.placed_variables.Goals as goal
use Rattle.linkage_rules.proofs.resolving.standing.placed_variables.Goals.{in-Some+in_ok-symbol+in_ok-push, in_default}

unmoved : (rows : List (Symbol × Room)) (vs ws : List PlacedVariable) (n m : ℕ) → ws ≡ vs → m ≡ n → ArePut rows vs n → ArePut rows ws m
unmoved rows vs ws n m p q put = subst (λ l. ArePut rows l m) (sym p) (subst (ArePut rows vs) (sym q) put)

pub loop-symbol-preserved : goal.loop-symbol-preserved
loop-symbol-preserved c =
    let parts = modules c.args.parts.now in
    let ss = c.args.symbols.now in
    let k = c.loop-symbol.symbol-index in
    let s = c.symbol-item.result in
    let at : slice_get ss k ≡ Some s = slice_get-get_or ss k s c.loop-symbol-test.true ∙ ap Some (sym c.symbol-item.is) in
    elim c.match-variable_room.branch [
      | in-Some+in_ok-symbol+in_ok-push w ↦
          some_more parts ss k s at c.loop-symbol.variables c.match-variable_room.variables c.loop-symbol.next w.rounded-address.result c.match-variable_room.next w.in-Some.room (sym w.in-Some.is ∙ c.variable_room.ensures) c.loop-symbol.invariant
          w.rounded-address.ensures (w.next-is ∙ w.next_behind-next.ensures)
          (w.variables-is ∙ w.in_ok-push.ensures.ok ∙ ap (λ (x : Symbol). c.loop-symbol.variables ++ record { symbol = x; room = w.in-Some.room; address = w.rounded-address.result } ∷ []) w.in_ok-symbol.ensures)
      | in_default w ↦
          unmoved (rows_among parts (take (k + 1) ss)) c.loop-symbol.variables c.match-variable_room.variables c.loop-symbol.next c.match-variable_room.next w.variables-is w.next-is
          (none_more parts ss k s at c.loop-symbol.variables c.loop-symbol.next (sym w.in_default.is ∙ c.variable_room.ensures) c.loop-symbol.invariant)
    ]
