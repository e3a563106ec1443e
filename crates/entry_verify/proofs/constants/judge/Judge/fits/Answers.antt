use Rattle.std.proofs.Common.{sym, ap, ◌∙◌, arith, length}
use Rattle.std.proofs.lemmas.Option.{slice_get_within}
use Rattle.type_table.specs.Types.{tree, structs}
use Rattle.module_arena.specs.Constants.{fits}
use Rattle.module_arena.specs.Known.{counts}
use Rattle.module_arena.specs.Lists.{Lists}
use Rattle.module_arena.specs.View.{constant_at, constants_of, module_of}
use Rattle.entry_verify.specs.Constants.ConstantParts.{fits_outside}
use Rattle.module_arena.proofs.ConstantsTold.{const_known, const_weaker, constant_here}
use Rattle.entry_verify.proofs.OnConstants.ConstantsKnown.{fact_here}
use Rattle.entry_verify.proofs.OnConstants.WholeTold.{fits_whole}
use Rattle.entry_verify.proofs.constants.judge.Judge.fits.Goals as goal

pub fits_outside-outside-requires-clause-known : goal.fits_outside-outside-requires-clause-known
fits_outside-outside-requires-clause-known c =
    let a = c.self.inside.arena.now in
    let k = c.constant.result.now in
    let within = slice_get_within a.constants c.args.id k c.constant.ensures in
    const_weaker (length a.table.types) (counts a) c.args.id (length a.constants) k (omega (arith, within)) (const_known a c.self.invariant.good c.args.id k c.constant.ensures)

pub returns : goal.returns
returns c =
    let a = c.self.inside.arena.now in
    let fact = fact_here (module_of a) (constants_of a) _ _ c.args.id _ c.fact_at-fact.ensures c.deref.ensures.value c.self.invariant.told in
    let here = constant_here a c.self.invariant.good c.args.id c.constant.result.now c.constant.ensures in
    fits_whole a c.args.ty c.args.id c.fact_at-fact.result c.fits_outside-outside.result fact
    (c.fits_outside-outside.ensures ∙ ap (fits_outside (structs a.table) (tree a.table c.args.ty)) (sym here))
    ∙ ap (λ (b : Lists). fits (structs b.table) (tree b.table c.args.ty) (constant_at (constants_of b) c.args.id)) c.self.view_is
