use Rattle.std.proofs.Common.{All, take}
use Rattle.std.specs.List.{AllZip}
use Rattle.module_arena.specs.Lists.{function_blocks}
use Rattle.run_decode.specs.Flat.Flat.{IsWithin}
use Rattle.run_decode.specs.Signatures.Numbers.{AreNumbered, Numbers}
use Rattle.run_decode.specs.Rows.{IsRow}
use Rattle.run_decode.proofs.bodies.put_blocks.Given as goal

-- the rows of the blocks so far are there
abbrev pub invariant-placed : goal.invariant-placed
invariant-placed l = record {
  numbers : Numbers l.fn.signatures l.signatures;
  numbered : AreNumbered l.signatures l.scope.lists l.pools;
  rows : AllZip (IsRow l.scope l.pools l.actions) l.rows (take l.number (function_blocks l.scope.function));
  within : All (IsWithin l.pools) l.actions;
}
