-- The lines of a module, one behind the other.
use Rattle.std.proofs.Common.{◌≡◌, ℕ, List, [], ◌∷◌, ◌++◌, All, Some, slice_get, subst, append_assoc, refl, sym, ap, ◌∙◌}
use Rattle.std.proofs.lemmas.Option.{get_or_from_slice_get, slice_get_within}
use Rattle.ir_printer.specs.Gathered.Told.{GatherState}
use Rattle.ir_lexer.specs.Pieces.{TextPiece, Separator, Line}
use Rattle.canonical.specs.Phrase.{Phrase, each}
use Rattle.ir_printer.specs.Phrases.Printing.{Prints}
use Rattle.ir_printer.proofs.OnPhrases.Printing.{prints_same, prints_then}

-- lines behind other lines
each_then : (xs ys : List Phrase) (s : Separator) → each Line (xs ++ ys) s ≡ each Line xs s ++ each Line ys s
each_then [] ys s = refl
each_then (x ∷ xs) ys s = ap (λ (ps : List TextPiece). x Line ++ ps) (each_then xs ys s) ∙ sym (append_assoc (x Line) (each Line xs s) (each Line ys s))

pub lines_then : (xs ys : List Phrase) (s : Separator) {u v w : GatherState} → Prints u v (each Line xs s) → Prints v w (each Line ys s) → Prints u w (each Line (xs ++ ys) s)
lines_then xs ys s h k = prints_same (sym (each_then xs ys s)) (prints_then (each Line xs s) (each Line ys s) h k)

-- three lists, and others behind them
pub three_before : (xs ys zs rest : List Phrase) → (xs ++ (ys ++ zs)) ++ rest ≡ xs ++ (ys ++ (zs ++ rest))
three_before xs ys zs rest = append_assoc xs (ys ++ zs) rest ∙ ap (λ (ps : List Phrase). xs ++ ps) (append_assoc ys zs rest)

-- what holds of all holds of one
pub one_of : {A : Type 0} (P : A → Type 0) (xs : List A) → All P xs → (k : ℕ) (x : A) → slice_get xs k ≡ Some x → P x
one_of P xs all k x at = subst P (get_or_from_slice_get xs k x x at) (all k x (slice_get_within xs k x at))
