use Rattle.std.proofs.Common.{◌≡◌, drop}
use Rattle.ir_lexer.specs.Quoted.{zeros, zero_in, decode, HighFits}
use Rattle.ir_lexer.proofs.quoted.zeros_of.Given as goal

abbrev pub invariant-loop-byte : goal.invariant-loop-byte
invariant-loop-byte l = record {
  fits : HighFits l.state;
  read : zeros l.inside ≡ zero_in l.zero (decode l.state (drop l.byte-index l.inside));
}
