use Rattle.std.proofs.Common.{◌<◌, ◌/◌, ◌%◌, length, ap, sym, ◌∙◌, arith}
use Rattle.ir_memory.specs.Seen.{ended_block}
use Rattle.ir_memory.specs.Numbered.{kept_in, numbered, row}
use Rattle.ir_memory.proofs.Numbers.{length-numbered, read-kept}
use Rattle.ir_memory.proofs.Paged.{page_read, page_there, row_past, row_read}
use Rattle.ir_memory.proofs.table.BlockTable.row.Goals as goal

pub index-page-requires : goal.index-page-requires
index-page-requires c =
    let u = c.self.inside in
    let lt : c.args.index < length (numbered u.count (kept_in u.pages.items)) = rw (← c.self.view_is) at c.requires in
    let there = page_there u.pages.items u.count c.args.index c.self.invariant.1 (omega (arith, lt, length-numbered u.count (kept_in u.pages.items))) in
    omega (arith, there, u.pages.ok.0)

pub returns-then-place-len : goal.returns-then-place-len
returns-then-place-len c =
    let u = c.self.inside in
    let i = c.args.index in
    let lt : i < length (numbered u.count (kept_in u.pages.items)) = rw (← c.self.view_is) at c.requires in
    let there = page_there u.pages.items u.count i c.self.invariant.1 (omega (arith, lt, length-numbered u.count (kept_in u.pages.items))) in
    let rows = c.index-page.result.now in
    let is = page_read u.pages.items (i / 64) rows there c.index-page.ensures in
    let b = c.at.result.now in
    let short : i % 64 < length rows = omega arith in
    rw (← c.self.view_is)
    (read-kept u.count (kept_in u.pages.items) i b b lt (row_read rows (i % 64) b short c.at.ensures ∙ ap (λ x. row x (i % 64)) is))

pub returns : goal.returns
returns c =
    let u = c.self.inside in
    let i = c.args.index in
    let lt : i < length (numbered u.count (kept_in u.pages.items)) = rw (← c.self.view_is) at c.requires in
    let there = page_there u.pages.items u.count i c.self.invariant.1 (omega (arith, lt, length-numbered u.count (kept_in u.pages.items))) in
    let rows = c.index-page.result.now in
    let is = page_read u.pages.items (i / 64) rows there c.index-page.ensures in
    rw (← c.self.view_is)
    (sym (read-kept u.count (kept_in u.pages.items) i ended_block ended_block lt (sym (row_past rows (i % 64) (omega arith)) ∙ ap (λ x. row x (i % 64)) is)))
