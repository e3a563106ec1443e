use Rattle.std.proofs.Common.{Some, ap, ◌∙◌, arith}
use Rattle.ir_printer.proofs.OnPhrases.TypeParts.{tree_here, knows_here}
use Rattle.ir_printer.proofs.phrases.integers.put_integer.Goals as goal

pub put_integer_of-requires-clause-wide : goal.put_integer_of-requires-clause-wide
put_integer_of-requires-clause-wide g c =
    let known = knows_here c.args.types.now c.type_count-count.ensures.good c.args.ty _ (c.get.ensures ∙ ap Some c.in-Int.is) in
    omega (arith, known)

pub put_integer_of-requires-clause-narrow : goal.put_integer_of-requires-clause-narrow
put_integer_of-requires-clause-narrow g c =
    let known = knows_here c.args.types.now c.type_count-count.ensures.good c.args.ty _ (c.get.ensures ∙ ap Some c.in-Int.is) in
    omega (arith, known)

pub returns-in-Int : goal.returns-in-Int
returns-in-Int g c =
    rw (tree_here c.args.types.now c.type_count-count.ensures.good c.args.ty _ (c.get.ensures ∙ ap Some c.in-Int.is)) c.put_integer_of.ensures

pub returns-in-Ptr : goal.returns-in-Ptr
returns-in-Ptr g c =
    rw (tree_here c.args.types.now c.type_count-count.ensures.good c.args.ty _ (c.get.ensures ∙ ap Some c.in-Ptr.is)) c.put_signed.ensures

pub returns-in-Void : goal.returns-in-Void
returns-in-Void g c =
    rw (tree_here c.args.types.now c.type_count-count.ensures.good c.args.ty _ (c.get.ensures ∙ ap Some c.in-Void.is)) c.put_signed-in-Void.ensures

pub returns-in-Array : goal.returns-in-Array
returns-in-Array g c =
    rw (tree_here c.args.types.now c.type_count-count.ensures.good c.args.ty _ (c.get.ensures ∙ ap Some c.in-Array.is)) c.put_signed-in-Array.ensures

pub returns-in-Struct : goal.returns-in-Struct
returns-in-Struct g c =
    rw (tree_here c.args.types.now c.type_count-count.ensures.good c.args.ty _ (c.get.ensures ∙ ap Some c.in-Struct.is)) c.put_signed-in-Struct.ensures

pub returns-in-Named : goal.returns-in-Named
returns-in-Named g c =
    rw (tree_here c.args.types.now c.type_count-count.ensures.good c.args.ty _ (c.get.ensures ∙ ap Some c.in-Named.is)) c.put_signed-in-Named.ensures
