use Rattle.std.proofs.Common.{arith}
use Rattle.ir_resolve.proofs.OnReadsNarrow.Items.{are_narrow}
use Rattle.module_table.proofs.Bytes.{all_bytes}
use Rattle.module_table.proofs.reading.read_module.Goals as goal

pub resolve-requires-clause-narrow : goal.resolve-requires-clause-narrow
resolve-requires-clause-narrow c = are_narrow c.args.text.now _ c.in-Ok.ensures.items

pub returns-in-Ok-resolve : goal.returns-in-Ok-resolve
returns-in-Ok-resolve c =
    c.in-Ok-resolve.ensures.well_formed c.args.text.now (all_bytes c.args.text.now (λ i. omega (arith, c.type_inv.text i))) c.in-Ok.ensures.items
