use Rattle.std.proofs.Common.{◌≡◌, ◌<◌, ◌&&◌, ℕ, List, [], length, map, get_or, ap, ◌∙◌, arith}
use Rattle.std.specs.Vec.{with_items}
use Rattle.std.proofs.lemmas.List.{get_or_default, with_items_is}
use Rattle.std.proofs.lemmas.List.Elements.{All-map}
use Rattle.module_arena.specs.declared.instruction.Incoming.{Incoming}
use Rattle.instruction_verify.specs.Uses.Edges.{same_numbers, source_of}
use Rattle.instruction_verify.proofs.OnUses.Scratched.{scratch_used}
use Rattle.instruction_verify.proofs.OnUses.Mapped.{All-moved}
use Rattle.instruction_verify.proofs.uses.phis.PhiJudge.entries_suit.Goals as goal

pub are_same_numbers-met-requires-clause-left : goal.are_same_numbers-met-requires-clause-left
are_same_numbers-met-requires-clause-left c =
    let own = c.args.self.now in
    let block = λ (i : Incoming). i.block in
    All-moved (length own) (length c.deref_mut.result.now) (map block c.args.incoming.now) c.deref.result.now
    (ap length c.deref_mut.ensures.value ∙ c.self.invariant.entries_many ∙ ap length c.self.view_is)
    (c.deref.ensures.value ∙ c.in_ok-blocks.ensures)
    (All-map (λ (x : ℕ). x < length own) block c.args.incoming.now c.requires.blocks)

pub invariant_of-self : goal.invariant_of-self
invariant_of-self c =
    let s = c.self.inside in
    let counted = c.are_same_numbers-met.new in
    let last = c.do_entries_agree-agree.new.last in
    let entries_long : length counted.here ≡ length s.entries.items = c.are_same_numbers-met.ensures.here_len ∙ ap length c.deref_mut.ensures.value in
    let edges_long : length counted.there ≡ length s.edges.items = c.are_same_numbers-met.ensures.there_len ∙ ap length c.deref_mut-2.ensures.value in
    let last_long : length last ≡ length s.last.items = c.do_entries_agree-agree.ensures.len ∙ ap length c.deref_mut-3.ensures.value in
    let entries : (with_items s.entries counted.here).items ≡ counted.here = with_items_is s.entries counted.here (omega (arith, entries_long, s.entries.ok.0)) in
    let edges : (with_items s.edges counted.there).items ≡ counted.there = with_items_is s.edges counted.there (omega (arith, edges_long, s.edges.ok.0)) in
    let lasts : (with_items s.last last).items ≡ last = with_items_is s.last last (omega (arith, last_long, s.last.ok.0)) in
    scratch_used s.sources.items s.entries.items s.edges.items s.last.items
    (with_items s.entries counted.here).items (with_items s.edges counted.there).items (with_items s.last last).items
    c.self.invariant (ap length entries ∙ entries_long) (ap length edges ∙ edges_long) (ap length lasts ∙ last_long)
    (λ n. ap (λ (xs : List ℕ). get_or xs n 0) entries ∙ c.are_same_numbers-met.ensures.here n)
    (λ n. ap (λ (xs : List ℕ). get_or xs n 0) edges ∙ c.are_same_numbers-met.ensures.there n)

pub returns-clause-suits : goal.returns-clause-suits
returns-clause-suits c =
    let items = c.self.inside.sources.items in
    let n = c.number.result in
    let lt : n < length items = omega (arith, c.number.ensures, c.requires.block, ap length c.self.view_is) in
    let left : c.deref.result.now ≡ map (λ (i : Incoming). i.block) c.args.incoming.now = c.deref.ensures.value ∙ c.in_ok-blocks.ensures in
    let right : c.blocks-2.result.now ≡ source_of c.args.self.now c.args.block =
    c.blocks-2.ensures
    ∙ c.index.ensures
    ∙ get_or_default items n c.index.result.now [] lt
    ∙ ap (λ (k : ℕ). source_of items k) c.number.ensures
    ∙ ap (λ (xs : List (List ℕ)). source_of xs c.args.block) c.self.view_is in
    λ j. (c.are_same_numbers-met.ensures.same ∙ (λ k. same_numbers (left k) (right k))) j && c.do_entries_agree-agree.ensures.agree j
