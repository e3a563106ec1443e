-- Phrases with one separator behind each, put one behind the other.
use Rattle.std.proofs.Common.{◌≡◌, ℕ, ◌+◌, ◌<◌, ◌≤◌, List, [], ◌∷◌, length, drop, get_or, sym, ap, ◌∙◌}
use Rattle.std.proofs.lemmas.List.{at_drop_more, at_drop_all}
use Rattle.ir_printer.specs.Gathered.Told.{GatherState}
use Rattle.ir_lexer.specs.Pieces.{Separator}
use Rattle.canonical.specs.Phrase.{Phrase, each}
use Rattle.ir_printer.specs.Phrases.Printing.{Prints}
use Rattle.ir_printer.proofs.OnPhrases.Printing.{prints_then, prints_same, prints_none}

module _ {A : Type 0} (sep : Separator) (phrase : A → Phrase) (all : List A → List Phrase) (none : all [] ≡ []) (more : (x : A) (xs : List A) → all (x ∷ xs) ≡ phrase x ∷ all xs) where
  -- one more is put
  pub line_more : (xs : List A) (place : ℕ) (x : A) (s : Separator) {u v w : GatherState} → place < length xs → x ≡ get_or xs place x → Prints u v (phrase x sep) → Prints v w (each sep (all (drop (place + 1) xs)) s) → Prints u w (each sep (all (drop place xs)) s)
  line_more xs place x s lt read h k =
      let rest = drop (place + 1) xs in
      prints_same (ap (λ (ps : List Phrase). each sep ps s) (sym (more x rest)) ∙ ap (λ (y : A). each sep (all (y ∷ rest)) s) read ∙ sym (at_drop_more (λ (ys : List A). each sep (all ys) s) xs place x lt))
      (prints_then (phrase x sep) (each sep (all rest) s) h k)

  -- at the end none is left
  pub lines_end : (xs : List A) (place : ℕ) (s : Separator) (now : GatherState) → length xs ≤ place → Prints now now (each sep (all (drop place xs)) s)
  lines_end xs place s now le =
      prints_same (ap (λ (ps : List Phrase). each sep ps s) (sym none) ∙ sym (at_drop_all (λ (ys : List A). each sep (all ys) s) xs place le)) (prints_none now)
