use Rattle.std.proofs.Common.{◌∙◌}
use Rattle.module_linker.proofs.making.declare_entries.Goals as goal

pub new_names-requires : goal.new_names-requires
new_names-requires c = c.as_slice.ensures ∙ c.symbols.ensures ∙ c.requires.resolved.symbols
