use Rattle.module_arena.specs.View.{module_of}
use Rattle.tool_cli.proofs.Extracting.{found_extracted, found_unextracted}
use Rattle.tool_cli.proofs.extraction.extracted.Goals as goal

pub returns-clause-made : goal.returns-clause-made
returns-clause-made c =
    found_extracted c.args.bytes c.args.selection.now (module_of c.in_ok-whole.whole) c.part_of-part.result c.in_ok-whole.ensures.part c.part_of-part.ensures.there c.part_of-part.ensures.part

pub returns-clause-work : goal.returns-clause-work
returns-clause-work c =
    found_unextracted c.args.name.now c.args.bytes c.args.selection.now (module_of c.in_ok-whole.whole) c.part_of-part.result c.in_ok-whole.ensures.part c.part_of-part.ensures.missing
