use Rattle.std.proofs.Common.{◌+◌, ◌*◌, ◌-◌}
use Rattle.record_table.specs.Constants.{read_nested}
use Rattle.body_read.proofs.OnConstants.Listing.{IsListing}
use Rattle.body_read.proofs.OnConstants.Indexing.{IsIndexing}
use Rattle.body_read.proofs.constants.constants.+constants.Given as goal

abbrev pub decreases-read_constant : goal.decreases-read_constant
decreases-read_constant l = 6 * l.depth + 3

abbrev pub decreases-read_coded : goal.decreases-read_coded
decreases-read_coded l = 6 * l.depth + 2

abbrev pub decreases-read_nested : goal.decreases-read_nested
decreases-read_nested l = 6 * l.depth + 1

abbrev pub decreases-read_list : goal.decreases-read_list
decreases-read_list l = 6 * l.depth + 5

abbrev pub decreases-read_element : goal.decreases-read_element
decreases-read_element l = 6 * l.depth + 5

abbrev pub decreases-read_converted : goal.decreases-read_converted
decreases-read_converted l = 6 * l.depth + 5

abbrev pub decreases-read_computed : goal.decreases-read_computed
decreases-read_computed l = 6 * l.depth + 5

abbrev pub decreases-read_indices : goal.decreases-read_indices
decreases-read_indices l = 6 * l.depth + 4

abbrev pub invariant-read_list-parts : goal.invariant-read_list-parts
invariant-read_list-parts l = IsListing (λ k. read_nested k l.depth) l.initial.m l.m l.ty l.count l.place l.parts.items

abbrev pub decreases-read_list-parts : goal.decreases-read_list-parts
decreases-read_list-parts l = l.count - l.place

abbrev pub invariant-read_indices-indices : goal.invariant-read_indices-indices
invariant-read_indices-indices l = IsIndexing (λ k. read_nested k l.depth) l.initial.m l.m l.fn.base l.count l.place l.operands.items

abbrev pub decreases-read_indices-indices : goal.decreases-read_indices-indices
decreases-read_indices-indices l = l.count - l.place
