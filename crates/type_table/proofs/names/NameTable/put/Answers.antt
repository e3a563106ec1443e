use Rattle.std.proofs.Common.{ap, ◌∙◌, Some, bytes_eq, cond}
use Rattle.type_table.specs.Names.Entries.{value_of, entries_in}
use Rattle.type_table.proofs.OnNames.Found.{given}
use Rattle.type_table.proofs.names.NameTable.put.Goals as goal

pub returns-clause-put : goal.returns-clause-put
returns-clause-put g c other =
    ap (λ entries. value_of (entries_in entries) other) c.in_ok-insert.ensures.entries
    ∙ given c.self.inside.values.entries c.args.name c.args.value other
    ∙ ap (λ entries. cond (bytes_eq other c.args.name.now) (Some c.args.value) (value_of entries other)) c.self.view_is
