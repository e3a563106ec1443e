use Rattle.std.proofs.Common.{ap, ◌∙◌}
use Rattle.type_table.specs.Names.Entries.{value_of}
use Rattle.type_table.proofs.OnNames.Found.{found}
use Rattle.type_table.proofs.names.NameTable.get.Goals as goal

pub returns : goal.returns
returns g c = c.copied.ensures ∙ c.get.ensures.value ∙ found c.self.inside.values.entries c.args.name.now ∙ ap (λ entries. value_of entries c.args.name.now) c.self.view_is
