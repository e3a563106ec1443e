use Rattle.std.proofs.Common.{◌≡◌, ◌++◌, map, take}
use Rattle.run_decode.specs.Flat.Grown.{Adds}
use Rattle.run_decode.proofs.calls.put_types.Given as goal

-- the types so far are there
abbrev pub invariant-operands : goal.invariant-operands
invariant-operands l = record {
  grows : Adds l.fn.pools l.pools;
  gained : l.pools.types ≡ l.fn.pools.types ++ map (λ o. o.ty) (take l.operand-index l.operands);
}
