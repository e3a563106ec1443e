use Rattle.std.proofs.Common.{ℕ, map, get_or, refl, ap, arith}
use Rattle.std.proofs.lemmas.List.{get_or_default}
use Rattle.canonical.specs.Names.{natural}
use Rattle.ir_printer.specs.Phrases.Printing.{separator_of}
use Rattle.ir_printer.proofs.OnPhrases.Printing.{prints_same}
use Rattle.ir_printer.proofs.OnInstructions.Listing.{part_put, parts_put}
use Rattle.ir_printer.proofs.instructions.indices.put_indices.Goals as goal

pub parts-preserved : goal.parts-preserved
parts-preserved g c = λ now h.
    let index = get_or c.args.indices.now c.parts.place 0 in
    c.parts.invariant now (part_put natural (map natural) refl (λ x xs. refl) c.args.indices.now c.parts.place index (separator_of c.before-in-parts.result) (separator_of c.args.behind) c.parts-test.true
    (get_or_default c.args.indices.now c.parts.place 0 index c.parts-test.true) c.before-in-parts.ensures
    (prints_same (ap (λ (n : ℕ). natural n (separator_of c.before-in-parts.result)) c.from.ensures) c.put_natural.ensures) c.put_comma.ensures h)

pub returns : goal.returns
returns g c = c.parts.invariant _ (parts_put natural (map natural) refl (λ x xs. refl) c.args.indices.now c.parts.place (separator_of c.args.behind) _ (omega arith))
