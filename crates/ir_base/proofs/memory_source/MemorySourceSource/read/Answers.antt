use Rattle.std.proofs.Common.{◌≡◌, length, ap, arith, Some, sym, ◌∙◌}
use Rattle.std.proofs.lemmas.List.{length-take}
use Rattle.ir_base.specs.MemorySource.{SourceState}
use Rattle.ir_base.proofs.Pieces.{front_then_rest, rest_whole}
use Rattle.ir_base.proofs.memory_source.MemorySourceSource.read.Goals as goal

pub returns-clause-lost : goal.returns-clause-lost
returns-clause-lost c =
    let s = c.self.inside in
    let n = c.min-n.result in
    let whole : length c.copy_from_slice.new.self ≡ n = omega (arith, length-take n c.args.into.now) in
    let copied = rw (c.bytes.ensures, rest_whole s.at s.bytes) at c.copy_from_slice.ensures.after in
    ap (λ (state : SourceState). Some state.left) (sym c.self.view_is) ∙ ap (λ l. Some l) (front_then_rest s.at n s.bytes _ _ copied whole)
