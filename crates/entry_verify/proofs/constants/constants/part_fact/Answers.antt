use Rattle.std.proofs.Common.{ap, sym, ◌∙◌, length, take, arith}
use Rattle.std.proofs.lemmas.List.{get_or-take}
use Rattle.type_table.specs.Types.{structs, tree}
use Rattle.module_arena.specs.Known.{counts}
use Rattle.module_arena.specs.Module.Constant.{Null}
use Rattle.module_arena.specs.View.{constants_of, module_of}
use Rattle.entry_verify.specs.Constants.ConstantParts.{const_fact, fits_outside}
use Rattle.module_arena.proofs.ConstantsTold.{const_known, const_weaker, constant_here}
use Rattle.entry_verify.proofs.OnConstants.ConstantsKnown.{fact_here}
use Rattle.entry_verify.proofs.OnConstants.WholeTold.{part_whole}
use Rattle.entry_verify.proofs.constants.constants.part_fact.Goals as goal

pub constant-requires : goal.constant-requires
constant-requires c = omega (arith, c.requires.value, c.requires.few)

pub fits_outside-fits-requires-clause-known : goal.fits_outside-fits-requires-clause-known
fits_outside-fits-requires-clause-known c =
    let a = c.args.arena.now in
    const_weaker (length a.table.types) (counts a) c.args.part.value (length a.constants) c.constant.result.now (omega (arith, c.requires.value, c.requires.few))
    (const_known a c.variable_count-count.ensures.good c.args.part.value c.constant.result.now c.constant.ensures)

pub returns : goal.returns
returns c =
    let a = c.args.arena.now in
    let id = c.args.part.value in
    let seen = fact_here (module_of a) (take (length c.args.facts.now) (constants_of a)) c.args.facts.now c.args.facts.now id c.fact_at-fact.result c.fact_at-fact.ensures (λ j. c.args.facts.now) c.requires.facts in
    let same = get_or-take (length c.args.facts.now) (constants_of a) id Null c.requires.value in
    let here = constant_here a c.variable_count-count.ensures.good id c.constant.result.now c.constant.ensures in
    part_whole a c.args.part c.fact_at-fact.result c.fits_outside-fits.result
    (seen ∙ ap (const_fact (module_of a)) same)
    (c.fits_outside-fits.ensures ∙ ap (fits_outside (structs a.table) (tree a.table c.args.part.ty)) (sym here))
