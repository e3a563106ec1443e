use Rattle.std.specs.Prelude.{◌∷◌, ◌++◌, [], drop, flat_map}
use Rattle.ir_printer.specs.Gathered.Told.{GatherState, state, Tells}
use Rattle.canonical.specs.Names.{quoted}
use Rattle.name_rules.specs.Spelled.{quoted_byte}
use Rattle.ir_printer.proofs.phrases.names.put_quoted.Given as goal

-- who puts the rest of the bytes and the quote from here on has put the whole
abbrev pub invariant-bytes : goal.invariant-bytes
invariant-bytes g l =
    let at_first = state l.fn.out (g.S.Sink.taken l.fn.sink) (g.S.Sink.faults l.fn.sink) in
    let here = state l.out (g.S.Sink.taken l.sink) (g.S.Sink.faults l.sink) in
    (now : GatherState) → Tells here now (flat_map quoted_byte (drop l.byte-index l.fn.bytes) ++ 34 ∷ []) → Tells at_first now (quoted l.fn.bytes)
