use Rattle.type_table.specs.Types.{tree}
use Rattle.module_arena.specs.View.{local_view}
use Rattle.canonical.specs.Names.{local}
use Rattle.canonical.specs.Types.{type_phrase}
use Rattle.ir_printer.specs.Phrases.Printing.{separator_of}
use Rattle.ir_printer.proofs.OnInstructions.Chained.{spaced}
use Rattle.ir_printer.proofs.head.put_parameter.Goals as goal

pub returns : goal.returns
returns g c =
    let p = c.args.parameter.now in
    spaced (type_phrase (tree c.args.types.now p.ty)) (local (local_view p.name)) (separator_of c.args.behind) c.put_type.ensures c.put_local.ensures
