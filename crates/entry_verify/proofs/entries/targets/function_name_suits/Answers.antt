use Rattle.std.proofs.Common.{Some, None, sym, ◌∙◌}
use Rattle.entry_verify.proofs.OnEntries.EntriesFound.{own_name}
use Rattle.entry_verify.proofs.OnEntries.NamesSuit.{other_name, name_of_row}
use Rattle.entry_verify.proofs.entries.targets.function_name_suits.Goals as goal

pub returns-then-not-is_llvm_name : goal.returns-then-not-is_llvm_name
returns-then-not-is_llvm_name c f at =
    other_name f c.bytes-name.result.now (c.bytes-name.ensures ∙ c.text.ensures.bytes ∙ own_name c.args.arena.now c.args.id c.function.result.now f c.function.ensures at)
    (sym c.is_llvm_name.ensures ∙ c.if-not-is_llvm_name.true)

pub returns-in-Some : goal.returns-in-Some
returns-in-Some c f at =
    c.host_row_fits.ensures f at
    ∙ name_of_row f c.bytes-name.result.now (Some c.in-Some.row) (c.bytes-name.ensures ∙ c.text.ensures.bytes ∙ own_name c.args.arena.now c.args.id c.function.result.now f c.function.ensures at)
    (sym c.is_llvm_name.ensures ∙ c.if-not-is_llvm_name.false) (sym c.in-Some.ensures)

pub returns-in-None : goal.returns-in-None
returns-in-None c f at =
    name_of_row f c.bytes-name.result.now None (c.bytes-name.ensures ∙ c.text.ensures.bytes ∙ own_name c.args.arena.now c.args.id c.function.result.now f c.function.ensures at)
    (sym c.is_llvm_name.ensures ∙ c.if-not-is_llvm_name.false) (sym c.in-None.ensures)
