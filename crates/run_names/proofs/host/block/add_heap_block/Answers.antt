use Rattle.std.proofs.Common.{lit≤, refl}
use Rattle.run_names.proofs.OnHost.Heaps.{allocated}
use Rattle.run_names.proofs.host.block.add_heap_block.Goals as goal

pub add_block-requires-clause-align : goal.add_block-requires-clause-align
add_block-requires-clause-align c = (4, lit≤ tt, refl)

pub returns-in-Ok-clause-answer : goal.returns-in-Ok-clause-answer
returns-in-Ok-clause-answer c =
    allocated c.args.size c.args.memory.now c.add_block.new.self c.in-Ok.pointer c.one_leaf.result c.requires.room c.in-Ok.ensures.pointer c.in-Ok.ensures.added c.one_leaf.ensures

pub returns-in-Ok-clause-refused : goal.returns-in-Ok-clause-refused
returns-in-Ok-clause-refused c = λ ends. absurd ends
