use Rattle.std.proofs.Common.{ℕ, List, [], Option, flat_map, map, sym, ap, ◌∙◌, subst, All}
use Rattle.std.specs.Option.{option_map_or}
use Rattle.module_arena.specs.declared.entry.Block.{Block}
use Rattle.module_arena.specs.declared.entry.Body.{Body}
use Rattle.module_arena.specs.declared.entry.Function.{Function}
use Rattle.module_arena.specs.Lists.{function_blocks}
use Rattle.run_initial.specs.Constants.Sound.{names_of}
use Rattle.run_rules.specs.Scope.{results_of}
use Rattle.run_decode.specs.Scopes.Places.{AreAdded, GivesValue}
use Rattle.run_decode.specs.Scopes.Scopes.{block_of}
use Rattle.run_decode.proofs.OnScopes.Added.{added_none, added_same}
use Rattle.run_decode.proofs.OnScopes.Answered.{if_also}
use Rattle.run_decode.proofs.OnScopes.Viewed.{blocks_are}
use Rattle.run_decode.proofs.scopes.places.place_body.Goals as goal

pub place_blocks-requires : goal.place_blocks-requires
place_blocks-requires c =
    let a = c.args.arena.now in
    let f = c.args.function.now in
    subst (All (λ (b : Block). All (GivesValue a) b.instructions)) (blocks_are a f c.in-Some.body c.in-Some.is ∙ sym c.as_slice.ensures) c.requires

pub returns-in-Some : goal.returns-in-Some
returns-in-Some c =
    let a = c.args.arena.now in
    let f = c.args.function.now in
    let old = c.args.places.now.items in
    let new = c.place_blocks.new.places.items in
    let same = c.as_slice.ensures ∙ sym (blocks_are a f c.in-Some.body c.in-Some.is) in
    if_also c.place_blocks.result (λ (end : ℕ). (f : Function) → AreAdded c.args.first (flat_map (results_of (names_of a)) (map (block_of a f) c.as_slice.result.now)) old new end)
    (AreAdded c.args.first (flat_map (results_of (names_of a)) (map (block_of a f) (function_blocks f))) old new)
    c.place_blocks.ensures
    (λ end h. added_same c.args.first end _ _ old new (ap (λ (bs : List Block). flat_map (results_of (names_of a)) (map (block_of a f) bs)) same) (h f))

pub returns-in-None : goal.returns-in-None
returns-in-None c =
    let a = c.args.arena.now in
    let f = c.args.function.now in
    added_none c.args.first _ c.args.places.now.items (ap (λ (o : Option Body). flat_map (results_of (names_of a)) (map (block_of a f) (option_map_or (λ (b : Body). b.blocks) o []))) c.in-None.is)
