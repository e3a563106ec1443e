use Rattle.std.proofs.lemmas.Bool.{iff_false}
use Rattle.run_decode.proofs.OnSignatures.Once.{told_no}
use Rattle.run_decode.proofs.OnSignatures.Same.{alike_here}
use Rattle.run_decode.proofs.signatures.alike.are_alike.Goals as goal

pub returns-then-not-shape_eq : goal.returns-then-not-shape_eq
returns-then-not-shape_eq c = told_no (λ same. iff_false c.shape_eq.ensures c.if-not-shape_eq.true
    (alike_here c.args.types.now c.type_count-count.ensures.good c.type_count-count.ensures.within c.args.first.now c.args.second.now c.types.place c.index-first-place.result c.index-second-place.result
    same c.types-test.true c.if-first-second.false c.requires.first c.requires.second c.index-first-place.is c.index-second-place.is))
