use Rattle.type_table.specs.Types.{tree}
use Rattle.canonical.specs.Canonical.{linkage_phrase}
use Rattle.canonical.specs.Names.{global}
use Rattle.canonical.specs.Phrase.{Phrase, ◌␣◌}
use Rattle.canonical.specs.Types.{type_phrase}
use Rattle.ir_printer.specs.Phrases.Printing.{separator_of}
use Rattle.ir_printer.proofs.OnInstructions.Chained.{spaced}
use Rattle.ir_printer.proofs.head.put_head.Goals as goal

pub returns : goal.returns
returns g c =
    let behind = separator_of c.args.behind in
    let f = c.args.function.now in
    let returned : Phrase = type_phrase (tree c.args.types.now f.result) in
    spaced (linkage_phrase f.linkage) (returned ␣ global f.name) behind c.put_linkage.ensures
    (spaced returned (global f.name) behind c.put_type.ensures c.put_global.ensures)
