use Rattle.std.proofs.Common.{◌≡◌, drop}
use Rattle.run_decode.specs.Scopes.Ways.{entry_from}
use Rattle.run_decode.proofs.scopes.ways.entry_from.Given as goal

-- none of the entries so far is for the block
abbrev pub invariant-entries : goal.invariant-entries
invariant-entries l = entry_from (drop l.entry-index l.incoming) l.from ≡ entry_from l.incoming l.from
