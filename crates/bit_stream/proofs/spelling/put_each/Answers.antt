use Rattle.std.proofs.Common.{◌<◌, List, Bool, ◌++◌, length, drop, sym, ap, ◌∙◌, arith, append_assoc}
use Rattle.std.proofs.lemmas.List.{drop_all, append-nil}
use Rattle.bit_stream.proofs.Spelled.{each_long, fits_at, bits_at, no_bits}
use Rattle.bit_stream.proofs.spelling.put_each.Goals as goal

pub bounds-numbers-index : goal.bounds-numbers-index
bounds-numbers-index c = omega (arith, each_long c.args.scalars.now c.args.numbers.now c.requires)

pub put_value-requires : goal.put_value-requires
put_value-requires c =
    let fit = fits_at c.args.scalars.now c.args.numbers.now c.loop-index.index c.index-scalars-index.result (omega arith) (omega (arith, each_long c.args.scalars.now c.args.numbers.now c.requires)) c.loop-index.invariant.fit in
    rw (← c.index-scalars-index.is) at fit.0

pub loop-index-preserved : goal.loop-index-preserved
loop-index-preserved c =
    let ss = c.args.scalars.now in
    let ns = c.args.numbers.now in
    let k : c.loop-index.index < length ns = omega (arith, each_long ss ns c.requires) in
    let fit = fits_at ss ns c.loop-index.index c.index-scalars-index.result (omega arith) k c.loop-index.invariant.fit in
    let bits = rw (← c.index-scalars-index.is) at (bits_at ss ns c.loop-index.index c.index-scalars-index.result (omega arith) k) in
    record {
      written = rw (c.in_ok-put_value.ensures, append_assoc, ← bits) c.loop-index.invariant.written;
      fit = fit.1;
    }

pub returns : goal.returns
returns c =
    let none = no_bits (drop c.loop-index.index c.args.scalars.now) (drop c.loop-index.index c.args.numbers.now) (drop_all c.loop-index.index c.args.scalars.now (omega arith)) in
    sym (append-nil c.loop-index.sink) ∙ ap (λ (l : List Bool). c.loop-index.sink ++ l) (sym none) ∙ c.loop-index.invariant.written
