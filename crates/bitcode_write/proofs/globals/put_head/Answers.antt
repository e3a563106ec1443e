use Rattle.std.proofs.Common.{[], OnOk, Option, ap, refl, subst, ◌++◌, ◌∙◌, ◌∷◌}
use Rattle.bitcode_write.proofs.Chain.{from_empty}
use Rattle.bitcode_write.proofs.Lined.{lines_as, lines_same, lines_then, then_put}
use Rattle.module_arena.specs.Lists.{Lists}
use Rattle.module_arena.specs.Module.{Bytes}
use Rattle.module_arena.specs.View.{module_of}
use Rattle.bitcode_write.specs.Put.{PutsLines}
use Rattle.record_write.specs.Operands.Numbered.{texts}
use Rattle.record_table.specs.Spelling.{Line, text_line}
use Rattle.bitcode_write.proofs.globals.put_head.Goals as goal

pub returns-clause-put : goal.returns-clause-put
unfolding module_of
returns-clause-put c =
    let a = c.args.numbering.now in
    let t = texts a in
    let first : Line = (1, 2 ∷ []) in
    let source = text_line t 2 a.source in
    let layout = text_line t 3 a.layout in
    let triple = text_line t 4 a.triple in
    let last = λ (x : Option Bytes). PutsLines c.put_text_line-2.new.out.writer (text_line t 4 x)
    c.put_text_line-3.new.out.writer in
    then_put _ _ _ _ ((first ∷ source) ++ layout) triple
    (lines_then (first ∷ source) layout
    (lines_then (first ∷ []) source (lines_as _ 1 _ _ c.in_ok-put.ensures.put refl (from_empty _ _ _ c.requires.empty c.in_ok-put_number.ensures))
    (lines_same (ap (text_line t 2) (c.source.ensures ∙ ap (λ (x : Lists). x.source) c.arena-arena.ensures)) c.in_ok-put_text_line.ensures.put))
    (lines_same (ap (text_line t 3) (c.data_layout.ensures ∙ ap (λ (x : Lists). x.layout) c.arena-arena.ensures)) c.in_ok-put_text_line-2.ensures.put))
    (subst (λ (x : Option Bytes). OnOk c.put_text_line-3.result (last x))
    (c.triple.ensures ∙ ap (λ (x : Lists). x.triple) c.arena-arena.ensures)
    c.put_text_line-3.ensures.put)
