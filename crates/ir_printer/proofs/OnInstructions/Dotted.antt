-- Types with a comma behind each, and three dots.
use Rattle.std.proofs.Common.{ℕ, ◌+◌, ◌<◌, ◌≤◌, List, [], ◌∷◌, ◌++◌, codes, map, length, drop, get_or, sym}
use Rattle.std.proofs.lemmas.List.{at_drop_more, at_drop_all}
use Rattle.ir_printer.specs.Gathered.Told.{GatherState}
use Rattle.ir_lexer.specs.Pieces.{Nothing, Space}
use Rattle.type_table.specs.Types.{Types, trees, tree}
use Rattle.module_arena.specs.View.{type_at}
use Rattle.canonical.specs.Phrase.{Phrase, mark, comma, listed}
use Rattle.canonical.specs.Types.{type_phrase}
use Rattle.ir_printer.specs.Phrases.Printing.{Prints}
use Rattle.ir_printer.proofs.OnPhrases.Printing.{prints_same, prints_part}
use Rattle.ir_printer.specs.Instructions.Parts.{dotted_types}

-- a phrase before at least one other
before_others : (p : Phrase) (ps : List Phrase) (last : Phrase) {a b c d : GatherState} → Prints a b (p Nothing) → Prints b c (comma Space) → Prints c d (listed (ps ++ last ∷ []) Nothing) → Prints a d (listed (p ∷ ps ++ last ∷ []) Nothing)
before_others p [] last h j k = prints_part p (last ∷ []) Nothing h j k
before_others p (q ∷ qs) last h j k = prints_part p (q ∷ qs ++ last ∷ []) Nothing h j k

-- one type more is put
pub dotted_more : (t : Types) (parts : List ℕ) (place d : ℕ) {w x y z : GatherState} → place < length parts → Prints w x (type_phrase (tree t (get_or parts place d)) Nothing) → Prints x y (comma Space)
    → Prints y z (dotted_types t (drop (place + 1) parts)) → Prints w z (dotted_types t (drop place parts))
dotted_more t parts place d lt h j k =
    prints_same (sym (at_drop_more (dotted_types t) parts place d lt))
    (before_others (type_phrase (tree t (get_or parts place d))) (map type_phrase (map (type_at (trees t)) (drop (place + 1) parts))) (mark (codes "...")) h j k)

-- at the end the dots are left
pub dotted_end : (t : Types) (parts : List ℕ) (place : ℕ) {y z : GatherState} → length parts ≤ place → Prints y z (mark (codes "...") Nothing) → Prints y z (dotted_types t (drop place parts))
dotted_end t parts place le h = prints_same (sym (at_drop_all (dotted_types t) parts place le)) h
