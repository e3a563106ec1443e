use Rattle.std.proofs.Common.{sym, subst, ap, ◌∙◌}
use Rattle.module_arena.specs.Lists.{Lists}
use Rattle.module_arena.specs.Valid.{IsValid}
use Rattle.module_arena.specs.View.{module_of}
use Rattle.module_arena.specs.WellFormed.{IsWellFormed}
use Rattle.extract_rules.specs.Extracted.{Extracted}
use Rattle.extract_rules.specs.Flags.{AreKept}
use Rattle.extract_core.proofs.extracting.extract.Goals as goal

pub kept_part-requires-clause-kept : goal.kept_part-requires-clause-kept
kept_part-requires-clause-kept c = subst (λ (l : Lists). AreKept (module_of l) c.args.selection.now c.in_ok-kept.kept) (sym c.arena.ensures.arena) c.in_ok-kept.ensures.kept

pub kept_part-requires-clause-well_formed : goal.kept_part-requires-clause-well_formed
kept_part-requires-clause-well_formed c = subst (λ (l : Lists). IsWellFormed (module_of l)) (sym c.arena.ensures.arena) c.arena.ensures.well_formed

pub kept_part-requires-clause-valid : goal.kept_part-requires-clause-valid
kept_part-requires-clause-valid c = subst (λ (l : Lists). IsValid (module_of l)) (sym c.arena.ensures.arena) c.arena.ensures.valid

-- what is extracted is well formed and valid, since the module is
pub seal-requires-clause-well_formed : goal.seal-requires-clause-well_formed
seal-requires-clause-well_formed c =
    let m = module_of c.args.checked.now in
    let s = c.args.selection.now in
    subst IsWellFormed (sym (c.in_ok-part.ensures ∙ ap (λ (l : Lists). Extracted (module_of l) s) c.arena.ensures.arena)) (c.extraction_keeps_modules.ensures.well_formed m s c.arena.ensures.well_formed c.arena.ensures.valid)

pub seal-requires-clause-valid : goal.seal-requires-clause-valid
seal-requires-clause-valid c =
    let m = module_of c.args.checked.now in
    let s = c.args.selection.now in
    subst IsValid (sym (c.in_ok-part.ensures ∙ ap (λ (l : Lists). Extracted (module_of l) s) c.arena.ensures.arena)) (c.extraction_keeps_modules.ensures.valid m s c.arena.ensures.well_formed c.arena.ensures.valid)

pub returns-clause-part : goal.returns-clause-part
returns-clause-part c = ap module_of c.seal.ensures ∙ c.in_ok-part.ensures ∙ ap (λ (l : Lists). Extracted (module_of l) c.args.selection.now) c.arena.ensures.arena
