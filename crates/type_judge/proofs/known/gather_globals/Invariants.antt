use Rattle.std.proofs.Common.{take}
use Rattle.ir_syntax.specs.View.{items_view}
use Rattle.type_judge.specs.Gathered.{AreGlobals, global_names}
use Rattle.type_judge.proofs.known.gather_globals.Given as goal

abbrev pub invariant-items : goal.invariant-items
invariant-items l = AreGlobals l.globals (global_names (items_view (take l.item-index l.item-items)))
