use Rattle.std.proofs.Common.{◌≡◌, ℕ, ◌+◌, [], ◌∷◌, ◌++◌}
use Rattle.module_arena.specs.declared.entry.Function.{Function}
use Rattle.run_initial.specs.Constants.Sound.{names_of}
use Rattle.run_rules.specs.Scope.{result_of}
use Rattle.run_decode.specs.Scopes.Places.{AreAdded}
use Rattle.run_decode.specs.Scopes.Scopes.{instruction_of}
use Rattle.run_decode.proofs.OnScopes.Answered.{if_both}
use Rattle.run_decode.proofs.OnScopes.Shaped.{result_added}
use Rattle.run_decode.proofs.scopes.places.place_result.Goals as goal

pub returns-in-Some : goal.returns-in-Some
returns-in-Some c =
    let a = c.args.arena.now in
    let i = c.args.instruction.now in
    let old = c.args.places.now.items in
    let new = c.place.new.places.items in
    if_both c.place.result (λ (end : ℕ). end ≡ c.args.next + c.leaves_given.result) (λ (end : ℕ). (f : Function) → AreAdded c.args.next (result_of (names_of a) (instruction_of a f i)) old new end) (new ≡ old ++ c.args.next ∷ [])
    c.place.ensures.end c.place.ensures.places
    (λ end ends places. λ f. result_added a f i c.in-Some.field-0 c.args.next end c.leaves_given.result old new c.in-Some.ensures (c.leaves_given.ensures f) places ends)
