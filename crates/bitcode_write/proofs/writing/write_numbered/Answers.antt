use Rattle.std.proofs.Common.{List, get_or, refl, subst, ℕ, ◌<◌}
use Rattle.bitcode_write.proofs.Whole.{spelled}
use Rattle.module_arena.specs.View.{module_of}
use Rattle.bitcode_write.proofs.writing.write_numbered.Goals as goal

pub put_stream-requires-clause-outside : goal.put_stream-requires-clause-outside
put_stream-requires-clause-outside c =
    rw c.in_ok-out.ensures.writer (record { unspent = refl; outside = refl; none_given = refl })

pub returns : goal.returns
returns c =
    let text = c.finish-text.result in
    let small : (i : ℕ) → get_or text i 0 < 256 =
    λ i. subst (λ (ns : List ℕ). get_or ns i 0 < 256) c.bytes.ensures (c.bytes_fit.ensures i) in
    spelled (module_of c.args.numbering.now) c.in_ok-out.out.writer _ text
    c.in_ok-out.ensures.writer c.in_ok-put_stream.ensures.put c.finish-text.ensures small
