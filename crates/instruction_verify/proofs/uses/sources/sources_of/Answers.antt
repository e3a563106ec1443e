use Rattle.std.proofs.Common.{◌≡◌, ◌<◌, ℕ, All, List, ◌++◌, length, get_or, Some, slice_get, sym, ap, ◌∙◌, subst, arith}
use Rattle.std.specs.Vec.{with_items}
use Rattle.std.proofs.lemmas.Option.{slice_get-get_or}
use Rattle.std.proofs.lemmas.List.{with_items_is}
use Rattle.module_arena.specs.declared.entry.Block.{Block}
use Rattle.module_arena.specs.Mentions.{targets_of}
use Rattle.instruction_verify.specs.Uses.Edges.{edges_to, source_of}
use Rattle.instruction_verify.proofs.OnUses.Edged.{one_block_more}
use Rattle.instruction_verify.proofs.uses.sources.sources_of.Goals as goal

pub add_edges-requires : goal.add_edges-requires
add_edges-requires c =
    let bs = c.args.blocks.now in
    let d = c.index-blocks-number.result in
    let b : Block = get_or bs c.edges.number d in
    let lt : c.edges.number < length bs = omega arith in
    let here = c.requires.known c.edges.number d lt in
    subst (λ (k : ℕ). All (λ (t : ℕ). t < k) (targets_of b.end)) (sym (ap length c.deref_mut.ensures.value ∙ c.edges.invariant.0)) here

pub edges-preserved : goal.edges-preserved
edges-preserved c =
    let bs = c.args.blocks.now in
    let i = c.edges.number in
    let s = c.edges.sources in
    let new = c.add_edges.new.sources in
    let d = c.index-blocks-number.result in
    let b : Block = get_or bs i d in
    let lt : i < length bs = omega arith in
    let at : slice_get bs i ≡ Some b = slice_get-get_or bs i d lt in
    let long : length new ≡ length s.items = c.add_edges.ensures.len ∙ ap length c.deref_mut.ensures.value in
    let items : (with_items s new).items ≡ new = with_items_is s new (omega (arith, long, s.ok.0)) in (
      ap length items ∙ long ∙ c.edges.invariant.0,
      λ k l.
          ap (λ (xs : List (List ℕ)). source_of xs k) items
          ∙ c.in_ok-add_edges.ensures.edges k (omega (arith, l, ap length c.deref_mut.ensures.value, c.edges.invariant.0))
          ∙ ap (λ (xs : List (List ℕ)). source_of xs k ++ edges_to i (targets_of b.end) k) c.deref_mut.ensures.value
          ∙ ap (λ (xs : List ℕ). xs ++ edges_to i (targets_of b.end) k) (c.edges.invariant.1 k l)
          ∙ one_block_more k bs i b at,
    )
