-- Phrases with commas between them, put one behind the other.
use Rattle.std.proofs.Common.{◌≡◌, ℕ, suc, ◌+◌, ◌-◌, ◌<◌, ◌≤◌, List, [], ◌∷◌, length, drop, get_or, sym, ap, ◌∙◌, arith}
use Rattle.std.proofs.lemmas.List.{at_drop_more, at_drop_all, length-drop}
use Rattle.ir_printer.specs.Gathered.Told.{GatherState}
use Rattle.ir_lexer.specs.Pieces.{Separator}
use Rattle.canonical.specs.Phrase.{Phrase, listed}
use Rattle.ir_printer.specs.Phrases.Printing.{Prints, separator_before, comma_before}
use Rattle.ir_printer.proofs.OnPhrases.Printing.{prints_same, prints_part, prints_none}

module _ {A : Type 0} (phrase : A → Phrase) (all : List A → List Phrase) (none : all [] ≡ []) (more : (x : A) (xs : List A) → all (x ∷ xs) ≡ phrase x ∷ all xs) where
  many : (xs : List A) → length (all xs) ≡ length xs
  many [] = ap length none
  many (x ∷ xs) = ap length (more x xs) ∙ ap suc (many xs)

  -- one part more is put
  pub part_put : (parts : List A) (place : ℕ) (part : A) (before behind : Separator) {w x y z : GatherState} → place < length parts → part ≡ get_or parts place part
      → before ≡ separator_before (length parts - 1 - place) behind
      → Prints w x (phrase part before)
      → Prints x y (comma_before (length parts - 1 - place))
      → Prints y z (listed (all (drop (place + 1) parts)) behind)
      → Prints w z (listed (all (drop place parts)) behind)
  part_put parts place part before behind lt read is h j k =
      let rest = drop (place + 1) parts in
      let count : length parts - 1 - place ≡ length (all rest) = omega (arith, lt, length-drop (place + 1) parts, many rest) in
      prints_same (ap (λ (ps : List Phrase). listed ps behind) (sym (more part rest)) ∙ ap (λ (x : A). listed (all (x ∷ rest)) behind) read ∙ sym (at_drop_more (λ (ps : List A). listed (all ps) behind) parts place part lt))
      (prints_part (phrase part) (all rest) behind
      (prints_same (ap (phrase part) (is ∙ ap (λ n. separator_before n behind) count)) h)
      (prints_same (ap comma_before count) j)
      k)

  -- at the end no part is left
  pub parts_put : (parts : List A) (place : ℕ) (behind : Separator) (now : GatherState) → length parts ≤ place → Prints now now (listed (all (drop place parts)) behind)
  parts_put parts place behind now le =
      prints_same (ap (λ (ps : List Phrase). listed ps behind) (sym none) ∙ sym (at_drop_all (λ (ps : List A). listed (all ps) behind) parts place le)) (prints_none now)
