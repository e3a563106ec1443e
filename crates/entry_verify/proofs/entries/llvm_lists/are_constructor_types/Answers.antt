use Rattle.std.proofs.Common.{arith}
use Rattle.type_table.specs.Types.{trees}
use Rattle.entry_verify.proofs.OnEntries.ConstructorsTold.{many_types}
use Rattle.entry_verify.proofs.entries.llvm_lists.are_constructor_types.Goals as goal

pub returns-in_default-2 : goal.returns-in_default-2
returns-in_default-2 c = many_types (trees c.args.types.now) c.args.fields.now (omega (arith, c.in_default.len_at_least))
