use Rattle.std.proofs.Common.{sym, subst}
use Rattle.std.specs.Prelude.{IfOk}
use Rattle.std.proofs.lemmas.Result.{IfOk-weaker}
use Rattle.module_arena.specs.Lists.{Lists}
use Rattle.module_arena.specs.Valid.{IsValid}
use Rattle.module_arena.specs.View.{module_of}
use Rattle.module_arena.specs.WellFormed.{IsWellFormed}
use Rattle.run_initial.specs.Missing.Used.{AreUsed}
use Rattle.run_initial.proofs.OnMissing.Selecting.{definitions_kept, others, used_told}
use Rattle.run_initial.proofs.missing.defined.used_entries.Goals as goal

pub returns : goal.returns
returns c =
    let a = c.arena-arena.result.now in
    let same = c.arena-arena.ensures.arena in
    let well_formed : IsWellFormed (module_of a) = subst (λ (b : Lists). IsWellFormed (module_of b)) (sym same) c.arena-arena.ensures.well_formed in
    let valid : IsValid (module_of a) = subst (λ (b : Lists). IsValid (module_of b)) (sym same) c.arena-arena.ensures.valid in
    subst (λ (b : Lists). IfOk c.named_by_kept.result (AreUsed (module_of b))) same
    (IfOk-weaker c.named_by_kept.result _ (AreUsed (module_of a))
    (λ flags h. used_told (module_of a) well_formed valid flags (h (others (module_of a) well_formed valid) (definitions_kept a well_formed valid c.in_ok-kept.kept c.in_ok-kept.ensures.defined))) c.named_by_kept.ensures)
