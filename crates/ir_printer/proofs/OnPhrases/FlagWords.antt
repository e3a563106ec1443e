-- Flags, put one behind the other.
use Rattle.std.proofs.Common.{ℕ, List, [], ◌∷◌}
use Rattle.ir_printer.specs.Gathered.Told.{GatherState}
use Rattle.ir_lexer.specs.Pieces.{Space}
use Rattle.ir_tables.specs.declared.flag.Flag.{Flag}
use Rattle.canonical.specs.Phrase.{each}
use Rattle.canonical.specs.Constants.{flag_words}
use Rattle.ir_printer.specs.Phrases.Printing.{Prints}
use Rattle.ir_printer.proofs.OnPhrases.Printing.{prints_then, prints_none}
use Rattle.ir_printer.specs.Phrases.Parts.{flag_pieces}

module _ (set : ℕ) where
  -- a flag, and those behind it
  pub flag_then : (f : Flag) (fs : List Flag) {a b c : GatherState} → Prints a b (flag_pieces set f) → Prints b c (each Space (flag_words set fs) Space) → Prints a c (each Space (flag_words set (f ∷ fs)) Space)
  flag_then f fs h k = prints_then (flag_pieces set f) (each Space (flag_words set fs) Space) h k

  -- no flag
  pub no_flag : (a : GatherState) → Prints a a (each Space (flag_words set []) Space)
  no_flag a = prints_none a
