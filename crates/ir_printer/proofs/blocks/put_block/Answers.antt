use Rattle.std.proofs.Common.{◌++◌, List, ap}
use Rattle.ir_lexer.specs.Pieces.{Indented}
use Rattle.module_arena.specs.declared.instruction.Inst.{Inst}
use Rattle.module_arena.specs.View.{local_view}
use Rattle.canonical.specs.Instructions.{ending_phrase}
use Rattle.canonical.specs.Names.{label}
use Rattle.canonical.specs.Phrase.{each}
use Rattle.ir_printer.specs.Phrases.Printing.{separator_of}
use Rattle.ir_printer.proofs.OnPhrases.Printing.{prints_same, prints_then}
use Rattle.ir_printer.specs.Instructions.Lines.{ending_of}
use Rattle.ir_printer.proofs.Lines.{lines}
use Rattle.ir_printer.proofs.blocks.put_block.Goals as goal

pub returns : goal.returns
returns g c =
    let a = c.args.arena.now in
    let f = c.args.function.now in
    let behind = separator_of c.args.behind in
    let inside = each Indented (lines a f c.args.block.now.instructions) behind in
    let end = ending_phrase (ending_of a f c.args.block.now.end) behind in
    prints_then (label (local_view c.args.block.now.name) Indented) (inside ++ end) c.put_label.ensures
    (prints_then inside end (prints_same (ap (λ (is : List Inst). each Indented (lines a f is) behind) c.as_slice.ensures) (c.put_lines.ensures behind)) c.put_ending.ensures)
