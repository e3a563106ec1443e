use Rattle.std.proofs.Common.{◌≡◌, ◌+◌, ◌*◌, drop, true}
use Rattle.ir_memory.specs.Answer.{Keeps}
use Rattle.type_table.specs.Layout.{end_after, have_layouts}
use Rattle.run_initial.proofs.OnConstants.Within.{top}
use Rattle.run_initial.specs.Constants.Sound.{constants_with_types, names_of}
use Rattle.run_initial.specs.Initial.Constants.{parts_at, shapes_with}
use Rattle.run_initial.specs.Initial.Fresh.{put}
use Rattle.run_initial.proofs.initial.constants.+constants.Given as goal

-- a constant has earlier ones in it
abbrev pub decreases-put_constant : goal.decreases-put_constant
decreases-put_constant l = 2 * l.constant.value + 1

abbrev pub decreases-put_constants : goal.decreases-put_constants
decreases-put_constants l = 2 * top l.parts.now

-- the other parts complete all, which end where they end
abbrev pub invariant-put_constants-parts : goal.invariant-put_constants-parts
invariant-put_constants-parts l = record {
  put :
      put l.target.block (parts_at (names_of l.names) l.packed l.target.offset l.end (constants_with_types l.names (drop l.part-index l.parts))) l.memory
      ≡ put l.target.block (parts_at (names_of l.names) l.packed l.target.offset 0 (constants_with_types l.names l.parts)) l.fn.memory;
  end : end_after l.packed l.end (shapes_with (names_of l.names) (constants_with_types l.names (drop l.part-index l.parts))) ≡ end_after l.packed 0 (shapes_with (names_of l.names) (constants_with_types l.names l.parts));
  laid : have_layouts (shapes_with (names_of l.names) (constants_with_types l.names (drop l.part-index l.parts))) ≡ true;
  kept : Keeps l.fn.memory l.memory;
}
