use Rattle.std.proofs.Common.{IfOk, List, subst, sym, ℕ, ◌∙◌, ◌≡◌}
use Rattle.bitcode_write.proofs.Sound.{are_entries}
use Rattle.bitcode_write.specs.Entries.{AreEntries}
use Rattle.module_arena.specs.Lists.{Lists}
use Rattle.module_arena.specs.Valid.{IsValid}
use Rattle.module_arena.specs.View.{module_of}
use Rattle.module_arena.specs.WellFormed.{IsWellFormed}
use Rattle.record_table.specs.Spelling.{spelling}
use Rattle.bitcode_write.proofs.writing.write.Goals as goal

pub write_numbered-requires-clause-well_formed : goal.write_numbered-requires-clause-well_formed
write_numbered-requires-clause-well_formed c =
    let same = c.in_ok-numbering.ensures ∙ c.arena-arena.ensures.arena in
    let well = λ (a : Lists). IsWellFormed (module_of a) in
    subst well (sym same) c.arena-arena.ensures.well_formed

pub write_numbered-requires-clause-entries : goal.write_numbered-requires-clause-entries
write_numbered-requires-clause-entries c =
    let back = sym c.arena-arena.ensures.arena in
    let well = λ (a : Lists). IsWellFormed (module_of a) in
    subst (λ (a : Lists). AreEntries a) (sym c.in_ok-numbering.ensures)
    (are_entries c.arena-arena.result.now c.variable_count-count.ensures.good
    (subst well back c.arena-arena.ensures.well_formed)
    (subst (λ (a : Lists). IsValid (module_of a)) back c.arena-arena.ensures.valid))

pub returns : goal.returns
returns c =
    let same = c.in_ok-numbering.ensures ∙ c.arena-arena.ensures.arena in
    let spells = λ (a : Lists) (text : List ℕ). text ≡ spelling (module_of a) in
    subst (λ (a : Lists). IfOk c.write_numbered.result (spells a)) same c.write_numbered.ensures
