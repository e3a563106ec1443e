use Rattle.std.proofs.Common.{◌≡◌, ℕ, List, [], All, flat_map, map, sym, ap, ◌∙◌, subst, Option}
use Rattle.std.specs.Option.{option_map_or}
use Rattle.module_arena.specs.declared.entry.Block.{Block}
use Rattle.module_arena.specs.declared.entry.Body.{Body}
use Rattle.module_arena.specs.declared.entry.Function.{Function}
use Rattle.module_arena.specs.declared.entry.Parameter.{Parameter}
use Rattle.module_arena.specs.Lists.{function_blocks}
use Rattle.run_initial.specs.Constants.Sound.{names_of}
use Rattle.run_rules.specs.Scope.{leaf_count, results_of}
use Rattle.run_decode.specs.Scopes.Places.{GivesValue, end_from}
use Rattle.run_decode.specs.Scopes.Scopes.{block_of, function_of, typed_of, typed_parameter}
use Rattle.run_decode.proofs.OnScopes.Viewed.{blocks_are, typed_is}
use Rattle.run_decode.proofs.OnScopes.Answered.{if_also}
use Rattle.run_acts.proofs.OnProgram.Counted.{counted_both}
use Rattle.run_acts.proofs.program.leaves.leaf_count.Goals as goal

pub with_blocks-requires : goal.with_blocks-requires
with_blocks-requires c =
    let a = c.args.arena.now in
    let f = c.args.function.now in
    subst (All (λ (b : Block). All (GivesValue a) b.instructions)) (blocks_are a f c.in-Some.body c.in-Some.is ∙ sym c.as_slice-in-Some.ensures) c.requires.results

pub returns-in-Some : goal.returns-in-Some
returns-in-Some c =
    let a = c.args.arena.now in
    let f = c.args.function.now in
    let results : List Block → List _ = λ (bs : List Block). flat_map (results_of (names_of a)) (map (block_of a f) bs) in
    let first = c.in_ok-parameters.ensures ∙ ap (λ (ps : List Parameter). end_from 0 (map (typed_parameter a) ps)) c.as_slice.ensures in
    let same = c.as_slice-in-Some.ensures ∙ sym (blocks_are a f c.in-Some.body c.in-Some.is) in
    if_also c.with_blocks.result (λ (end : ℕ). (f : Function) → end ≡ end_from c.in_ok-parameters.parameters (flat_map (results_of (names_of a)) (map (block_of a f) c.as_slice-in-Some.result.now)))
    (λ (count : ℕ). count ≡ leaf_count (names_of a) (function_of a f)) c.with_blocks.ensures
    (λ end is. counted_both (map (typed_parameter a) f.parameters) (results (function_blocks f)) (typed_of a f) c.in_ok-parameters.parameters end first
    (is f ∙ ap (λ (bs : List Block). end_from c.in_ok-parameters.parameters (results bs)) same) (sym (typed_is a f)))

pub returns-in-None : goal.returns-in-None
returns-in-None c =
    let a = c.args.arena.now in
    let f = c.args.function.now in
    let results : List Block → List _ = λ (bs : List Block). flat_map (results_of (names_of a)) (map (block_of a f) bs) in
    let first = c.in_ok-parameters.ensures ∙ ap (λ (ps : List Parameter). end_from 0 (map (typed_parameter a) ps)) c.as_slice.ensures in
    let none = ap (λ (o : Option Body). end_from c.in_ok-parameters.parameters (results (option_map_or (λ (b : Body). b.blocks) o []))) (sym c.in-None.is) in
    counted_both (map (typed_parameter a) f.parameters) (results (function_blocks f)) (typed_of a f) c.in_ok-parameters.parameters c.in_ok-parameters.parameters first none (sym (typed_is a f))
