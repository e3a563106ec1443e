use Rattle.std.proofs.Common.{◌≡◌, ◌+◌, suc, take, Some, slice_get, bytes_eq, sym, ap, ◌∙◌, arith}
use Rattle.std.specs.Option.{option_map}
use Rattle.std.specs.Map.Iter.{deref_pair}
use Rattle.indexmap.specs.IndexMap.{insert_entry}
use Rattle.module_arena.proofs.NamesCopied.{insert_next}
use Rattle.module_arena.proofs.names.copied_names.Goals as goal

pub loop-index-preserved : goal.loop-index-preserved
loop-index-preserved c =
    let at : slice_get c.args.names.now.entries c.loop-index.index ≡ Some (c.unwrap.result.0.now, c.unwrap.result.1.now) =
    sym c.get_index.ensures.entry ∙ ap (option_map deref_pair) c.unwrap.ensures in
    let one_more : suc c.loop-index.index ≡ c.loop-index.index + 1 = omega arith in
    c.in_ok-insert.ensures.entries
    ∙ (λ j. insert_entry bytes_eq (c.loop-index.invariant j) (c.in_ok-own.ensures j) c.unwrap.result.1.now)
    ∙ insert_next c.args.names.now.entries c.loop-index.index _ _ c.len-index-end.ensures.unique at
    ∙ ap (λ n. take n c.args.names.now.entries) one_more
