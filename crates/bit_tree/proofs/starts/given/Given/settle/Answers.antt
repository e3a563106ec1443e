use Rattle.std.proofs.Common.{◌≡◌, List, ◌++◌, length, length-append, ap, ◌∙◌, arith}
use Rattle.std.proofs.lemmas.List.{with_items_is}
use Rattle.bit_tree.specs.declared.starts.row.GivenDefinition.{GivenDefinition}
use Rattle.bit_tree.proofs.OnStarts.Views.{settled_is}
use Rattle.bit_tree.proofs.starts.given.Given.settle.Goals as goal

pub returns : goal.returns
returns c =
    let sorted = c.self.inside.sorted.items in
    let grown = c.in_ok-extend_from_slice.ensures in
    let all = c.as_mut_slice.ensures.value ∙ grown.items in
    let long = ap (λ (l : List GivenDefinition). length l) all in
    let parts = length-append sorted c.as_slice.result.now in
    let count : c.len-count.result ≡ length sorted = omega (arith, long, parts, c.as_mut_slice.ensures.len, grown.len, c.len-count.ensures) in
    settled_is c.args.self.now sorted c.self.inside.recent.items c.as_mut_slice.result.now c.as_slice-2.result.now c.merge.new.rows _ c.clear.new.self.items c.len-count.result c.self.view_is
    (all ∙ ap (λ (l : List GivenDefinition). sorted ++ l) c.as_slice.ensures.value) count c.as_slice-2.ensures.value c.merge.ensures.starts
    (with_items_is c.extend_from_slice.new.self c.merge.new.rows (c.merge.ensures.long ∙ c.as_mut_slice.ensures.len)) c.clear.ensures.items
