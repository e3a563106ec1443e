use Rattle.ir_printer.specs.Phrases.Printing.{separator_of}
use Rattle.ir_printer.proofs.OnPhrases.TypeParts.{fields_put}
use Rattle.ir_printer.proofs.phrases.types.put_fields.Goals as goal

pub returns : goal.returns
returns g c = fields_put c.args.types.now c.args.packed c.args.parts.now (separator_of c.args.behind) c.put_opening.ensures c.put_types.ensures c.put_closing.ensures
