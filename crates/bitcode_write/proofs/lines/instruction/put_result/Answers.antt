use Rattle.std.proofs.Common.{ap}
use Rattle.module_arena.specs.Lists.{value_names}
use Rattle.module_arena.specs.Module.{LocalName, Numbered}
use Rattle.module_arena.specs.View.{local_view}
use Rattle.record_table.specs.Fields.{label}
use Rattle.record_write.specs.Operands.Numbered.{texts}
use Rattle.record_write.proofs.OnOperands.Chain.{reworded}
use Rattle.record_write.proofs.OnOperands.Places.{mapped_at}
use Rattle.bitcode_write.proofs.lines.instruction.put_result.Goals as goal

pub returns : goal.returns
returns c = reworded _ _ _ _ _ c.put_label.ensures (ap (λ (n : LocalName). (label (texts c.args.numbering.now) 0).spell n) (mapped_at local_view (value_names c.args.function.now) c.args.id c.value_name.result.now (Numbered 0) c.value_name.ensures))
