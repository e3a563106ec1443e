use Rattle.std.proofs.Common.{◌∙◌, ◌+◌, ◌<◌, ◌≤◌, ℕ, None, take, set, length, get_or, ap, arith}
use Rattle.std.proofs.lemmas.List.{length-set}
use Rattle.std.proofs.lemmas.List.Edits.{fill_by_more}
use Rattle.ir_memory.specs.declared.cell.Cell.TheVariants as cell
use Rattle.ir_memory.specs.Cell.{read, size}
use Rattle.ir_memory.specs.Seen.{at, over}
use Rattle.ir_memory.proofs.Writes.{gathered}
use Rattle.ir_memory.proofs.read.read_pieces.Goals as goal

pub loop-k-preserved : goal.loop-k-preserved
loop-k-preserved c =
    let within : c.loop-k.k < length c.loop-k.cells = omega (arith, c.size-count.ensures.most, c.loop-k.invariant.long) in
    let f = λ (i : ℕ). over (at c.args.pieces.now (c.args.block.now.start + (c.args.offset + i))) (get_or c.args.block.now.bytes (c.args.offset + i) None) in record {
      long = length-set c.loop-k.cells c.loop-k.k _ ∙ c.loop-k.invariant.long;
      each = λ j h.
          ap (λ v. get_or (set c.loop-k.cells c.loop-k.k v) j cell.Poison) c.cell_at.ensures
          ∙ fill_by_more f c.loop-k.cells c.loop-k.k cell.Poison within c.loop-k.invariant.each j h;
    }

pub returns : goal.returns
returns c =
    let enough : size c.args.leaf ≤ length c.loop-k.cells = omega (arith, c.size-count.ensures.most, c.size-count.ensures.value, c.loop-k.invariant.long) in
    c.read.ensures
    ∙ ap (read c.args.leaf)
    (ap (λ n. take n c.loop-k.cells) c.size-count.ensures.value
    ∙ gathered (at c.args.pieces.now) c.args.block.now c.args.offset (size c.args.leaf) c.loop-k.cells enough c.requires.within (λ j h. c.loop-k.invariant.each j (omega (arith, h, c.size-count.ensures.value, c.loop-k-test.false))))
