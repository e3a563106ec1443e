use Rattle.std.proofs.Common.{◌≡◌, drop}
use Rattle.ir_lexer.specs.declared.quoted.Escape.TheVariants.{Plain}
use Rattle.ir_lexer.specs.Quoted.{decode}
use Rattle.ir_lexer.specs.Quoted.{HighFits}
use Rattle.ir_lexer.proofs.Walks.{with_front}
use Rattle.ir_lexer.proofs.quoted.decoded_of.Given as goal

abbrev pub invariant-loop-byte : goal.invariant-loop-byte
invariant-loop-byte l = record {
  fits : HighFits l.state;
  read : decode Plain l.inside ≡ with_front l.bytes.items (decode l.state (drop l.byte-index l.inside));
}
