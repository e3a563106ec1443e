use Rattle.std.proofs.Common.{◌<◌, ◌/◌, ◌%◌, length, set, refl, ap, ◌∙◌, arith}
use Rattle.std.proofs.lemmas.List.{length-set, get_or-set_same, get_or-set_other}
use Rattle.ir_memory.specs.Seen.{ended_block}
use Rattle.ir_memory.specs.Numbered.{kept_in, numbered, row}
use Rattle.ir_memory.proofs.Numbers.{length-numbered, numbered-set, read-kept}
use Rattle.ir_memory.proofs.Paged.{kept_here, kept_others, live_row, page_read, page_there, paged_set, row_read}
use Rattle.ir_memory.proofs.table.BlockTable.get_mut.Goals as goal

pub index_mut-page-requires : goal.index_mut-page-requires
index_mut-page-requires c =
    let u = c.self.inside in
    let lt : c.args.index < length (numbered u.count (kept_in u.pages.items)) = rw (← c.self.view_is) at c.requires.index in
    let there = page_there u.pages.items u.count c.args.index c.self.invariant.1 (omega (arith, lt, length-numbered u.count (kept_in u.pages.items))) in
    omega (arith, there, u.pages.ok.0)

pub at_mut-requires : goal.at_mut-requires
at_mut-requires c =
    let u = c.self.inside in
    let i = c.args.index in
    let lt : i < length (numbered u.count (kept_in u.pages.items)) = rw (← c.self.view_is) at c.requires.index in
    let live = rw (← c.self.view_is) at (c.requires.live u.ended) in
    let there = page_there u.pages.items u.count i c.self.invariant.1 (omega (arith, lt, length-numbered u.count (kept_in u.pages.items))) in
    let is = page_read u.pages.items (i / 64) c.index_mut-page.result.now there c.index_mut-page.ensures.value in
    let short = live_row u.count u.pages.items i u.ended lt live in
    omega (arith, short, ap length is)

pub invariant_of-self-lent : goal.invariant_of-self-lent
invariant_of-self-lent c = λ w.
    let u = c.self.inside in
    let i = c.args.index in
    let lt : i < length (numbered u.count (kept_in u.pages.items)) = rw (← c.self.view_is) at c.requires.index in
    let there = page_there u.pages.items u.count i c.self.invariant.1 (omega (arith, lt, length-numbered u.count (kept_in u.pages.items))) in
    let rows = c.index_mut-page.result.now in
    let is = page_read u.pages.items (i / 64) rows there c.index_mut-page.ensures.value in
    (c.self.invariant.0, paged_set u.pages.items u.count (i / 64) (set rows (i % 64) w) c.self.invariant.1 there (λ e. length-set rows (i % 64) w ∙ ap length is))

pub returns : goal.returns
returns c =
    let u = c.self.inside in
    let i = c.args.index in
    let lt : i < length (numbered u.count (kept_in u.pages.items)) = rw (← c.self.view_is) at c.requires.index in
    let live = rw (← c.self.view_is) at (c.requires.live u.ended) in
    let there = page_there u.pages.items u.count i c.self.invariant.1 (omega (arith, lt, length-numbered u.count (kept_in u.pages.items))) in
    let rows = c.index_mut-page.result.now in
    let is = page_read u.pages.items (i / 64) rows there c.index_mut-page.ensures.value in
    let short : i % 64 < length rows = omega (arith, live_row u.count u.pages.items i u.ended lt live, ap length is) in
    let b = c.at_mut.result.now in (
      (
        refl,
        λ w.
            rw (← c.self.view_is)
            (numbered-set u.count (kept_in u.pages.items) _ i w
            (kept_here u.pages.items i (set rows (i % 64) w) there ∙ get_or-set_same rows (i % 64) w ended_block short)
            (kept_others u.pages.items i (set rows (i % 64) w) there (λ j n. get_or-set_other rows (i % 64) j w ended_block n ∙ ap (λ x. row x j) is))),
      ),
      record { writes_back = tt; value = rw (← c.self.view_is) (read-kept u.count (kept_in u.pages.items) i b b lt (row_read rows (i % 64) b short c.at_mut.ensures.value ∙ ap (λ x. row x (i % 64)) is)) },
    )
