use Rattle.std.proofs.Common.{◌≡◌, ◌∙◌, subst, arith, length, slice_get, Some}
use Rattle.std.proofs.lemmas.Option.{slice_get_within}
use Rattle.module_arena.specs.Known.{counts, IsGood}
use Rattle.module_arena.specs.Lists.{Lists}
use Rattle.module_arena.proofs.ConstantsTold.{const_known, const_weaker}
use Rattle.instruction_verify.proofs.OnLast.CalleesTold.{pointer_told}
use Rattle.instruction_verify.proofs.last.callees.constant_fits.Goals as goal

pub fits_as_pointer-requires-clause-known : goal.fits_as_pointer-requires-clause-known
fits_as_pointer-requires-clause-known c =
    let a = c.args.judge.now in
    let k = c.constant.result.now in
    let within = slice_get_within a.constants c.args.id k (subst (λ (b : Lists). slice_get b.constants c.args.id ≡ Some c.constant.result.now) c.arena-arena.ensures c.constant.ensures) in
    const_weaker (length a.table.types) (counts a) c.args.id (length a.constants) k (omega (arith, within)) (const_known a (subst IsGood c.arena-arena.ensures c.variable_count-count.ensures.good) c.args.id k (subst (λ (b : Lists). slice_get b.constants c.args.id ≡ Some c.constant.result.now) c.arena-arena.ensures c.constant.ensures))

pub returns : goal.returns
returns c =
    let a = c.args.judge.now in
    c.fits_as_pointer.ensures ∙ pointer_told a (subst IsGood c.arena-arena.ensures c.variable_count-count.ensures.good) c.args.id c.constant.result.now (subst (λ (b : Lists). slice_get b.constants c.args.id ≡ Some c.constant.result.now) c.arena-arena.ensures c.constant.ensures)
