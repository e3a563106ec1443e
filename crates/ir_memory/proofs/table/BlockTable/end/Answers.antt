use Rattle.std.proofs.Common.{◌<◌, ◌/◌, length, ap, ◌∙◌, arith}
use Rattle.ir_memory.specs.Numbered.{kept_in, numbered, page, row}
use Rattle.ir_memory.proofs.Numbers.{length-numbered, numbered-set}
use Rattle.ir_memory.proofs.Paged.{kept_here, kept_others, page_read, page_there, paged_set}
use Rattle.ir_memory.proofs.table.BlockTable.end.Goals as goal

pub index_mut-requires : goal.index_mut-requires
index_mut-requires c =
    let u = c.self.inside in
    let lt : c.args.index < length (numbered u.count (kept_in u.pages.items)) = rw (← c.self.view_is) at c.requires in
    let there = page_there u.pages.items u.count c.args.index c.self.invariant.1 (omega (arith, lt, length-numbered u.count (kept_in u.pages.items))) in
    omega (arith, there, u.pages.ok.0)

pub invariant_of-self : goal.invariant_of-self
invariant_of-self c =
    let u = c.self.inside in
    let i = c.args.index in
    let lt : i < length (numbered u.count (kept_in u.pages.items)) = rw (← c.self.view_is) at c.requires in
    let there = page_there u.pages.items u.count i c.self.invariant.1 (omega (arith, lt, length-numbered u.count (kept_in u.pages.items))) in
    let is = page_read u.pages.items (i / 64) c.index_mut.result.now there c.index_mut.ensures.value in (
      c.self.invariant.0,
      paged_set u.pages.items u.count (i / 64) c.end.new.self c.self.invariant.1 there
          (λ e. c.end.ensures.long (omega (arith, e, ap length is, c.self.invariant.1.last, ap (λ q. length (page u.pages.items q)) e)) ∙ ap length is),
    )

pub returns : goal.returns
returns c =
    let u = c.self.inside in
    let i = c.args.index in
    let lt : i < length (numbered u.count (kept_in u.pages.items)) = rw (← c.self.view_is) at c.requires in
    let there = page_there u.pages.items u.count i c.self.invariant.1 (omega (arith, lt, length-numbered u.count (kept_in u.pages.items))) in
    let is = page_read u.pages.items (i / 64) c.index_mut.result.now there c.index_mut.ensures.value in
    rw (← c.self.view_is)
    (numbered-set u.count (kept_in u.pages.items) _ i _
    (kept_here u.pages.items i c.end.new.self there ∙ c.end.ensures.here)
    (kept_others u.pages.items i c.end.new.self there (λ j n. c.end.ensures.others j n ∙ ap (λ x. row x j) is)))
