use Rattle.type_read.proofs.Names.{defined_reader, defined_is}
use Rattle.type_read.proofs.definition.read_definition.Goals as goal

pub returns-clause-reader : goal.returns-clause-reader
returns-clause-reader c = defined_reader _ c.args.count _ _ _ (record { body = c.in_ok-body.body; name = c.in_ok-name.name }) c.in_ok-body.ensures c.in_ok-name.ensures

pub returns-clause-definition : goal.returns-clause-definition
returns-clause-definition c = defined_is _ c.args.count _ _ _ (record { body = c.in_ok-body.body; name = c.in_ok-name.name }) c.in_ok-body.ensures c.in_ok-name.ensures
