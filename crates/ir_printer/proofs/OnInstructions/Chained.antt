-- Phrases put one behind the other.
use Rattle.std.proofs.Common.{◌≡◌, ◌∙◌, ℕ, List, [], length, map, append-nil, ap, Option, Some, None}
use Rattle.ir_printer.specs.Gathered.Told.{GatherState}
use Rattle.type_table.specs.Tree.{Tree}
use Rattle.module_arena.specs.declared.entry.Function.{Function}
use Rattle.module_arena.specs.declared.instruction.Incoming as the_incoming
use Rattle.module_arena.specs.Lists.{Lists}
use Rattle.ir_lexer.specs.Pieces.{Separator, Nothing, Space}
use Rattle.canonical.specs.Phrase.{Phrase, ◌␣◌, ◌⌢◌, with_more, listed}
use Rattle.canonical.specs.Operations.{aligned, incoming_phrase}
use Rattle.ir_printer.specs.Phrases.Printing.{Prints, separator_before, comma_before}
use Rattle.ir_printer.proofs.OnPhrases.Printing.{prints_then, prints_same, prints_part}
use Rattle.ir_printer.specs.Instructions.Named.{before, alignment_pieces}
use Rattle.ir_printer.specs.Instructions.Parts.{incoming_of}

-- one space apart
pub spaced : (p q : Phrase) (behind : Separator) {a b c : GatherState} → Prints a b (p Space) → Prints b c (q behind) → Prints a c ((p ␣ q) behind)
spaced p q behind h k = prints_then (p Space) (q behind) h k

-- with no space between them
pub touching : (p q : Phrase) (behind : Separator) {a b c : GatherState} → Prints a b (p Nothing) → Prints b c (q behind) → Prints a c ((p ⌢ q) behind)
touching p q behind h k = prints_then (p Nothing) (q behind) h k

-- an alignment behind a phrase
pub aligned_put : (p : Phrase) (alignment : Option ℕ) (behind : Separator) {a b c : GatherState} → Prints a b (p (before alignment behind)) → Prints b c (alignment_pieces alignment behind) → Prints a c (aligned p alignment behind)
aligned_put p None behind h k = prints_same (append-nil (p behind)) (prints_then (p behind) [] h k)
aligned_put p (Some n) behind h k = prints_then (p Nothing) (alignment_pieces (Some n) behind) h k

-- a phrase, and others behind commas
pub more_put : (p : Phrase) (ps : List Phrase) (count : ℕ) (here behind : Separator) → count ≡ length ps → here ≡ separator_before count behind
    → {a b c d : GatherState} → Prints a b (p here) → Prints b c (comma_before count) → Prints c d (listed ps behind) → Prints a d (with_more p ps behind)
more_put p ps count here behind many is h j k =
    prints_part p ps behind (prints_same (ap p (is ∙ ap (λ n. separator_before n behind) many)) h) (prints_same (ap comma_before many) j) k

-- the values of a phi of that type
abbrev pub incoming_phrases : Lists → Function → Tree → List the_incoming.Incoming → List Phrase
incoming_phrases a f ty parts = map (incoming_phrase ty) (map (incoming_of a f) parts)
