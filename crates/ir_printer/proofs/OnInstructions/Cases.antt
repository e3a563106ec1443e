-- The cases of a switch, put one behind the other.
use Rattle.std.proofs.Common.{◌≡◌, ℕ, ◌+◌, ◌<◌, ◌≤◌, All, List, ◌∷◌, map, length, drop, get_or, subst, sym, ap, ◌∙◌, arith}
use Rattle.std.proofs.lemmas.List.{at_drop_more, at_drop_all, length-map, get_or-map}
use Rattle.ir_printer.specs.Gathered.Told.{GatherState}
use Rattle.ir_lexer.specs.Pieces.{TextPiece, Space}
use Rattle.module_arena.specs.declared.entry.Function.{Function}
use Rattle.module_arena.specs.declared.instruction.Case.{Case}
use Rattle.module_arena.specs.declared.instruction.Operand.{Operand}
use Rattle.module_arena.specs.declared.instruction.Value.TheVariants as value
use Rattle.module_arena.specs.Lists.{Lists, function_blocks}
use Rattle.canonical.specs.Instructions.{case_phrase}
use Rattle.canonical.specs.Phrase.{each}
use Rattle.ir_printer.specs.Phrases.Printing.{Prints}
use Rattle.ir_printer.proofs.OnPhrases.Printing.{prints_then, prints_same, prints_none}
use Rattle.ir_printer.specs.Instructions.Parts.{HasThis}
use Rattle.ir_printer.specs.Instructions.Lines.{HasCase, case_of}

module _ (a : Lists) (f : Function) where
  -- the pieces of these cases
  abbrev pub all_cases : List Case → List TextPiece
  all_cases cases = each Space (map case_phrase (map (case_of a f) cases)) Space

  -- one case more is put
  pub cases_more : (cases : List Case) (place : ℕ) (case : Case) {x y z : GatherState} → place < length cases → case ≡ get_or cases place case → Prints x y (case_phrase (case_of a f case) Space) → Prints y z (all_cases (drop (place + 1) cases)) → Prints x z (all_cases (drop place cases))
  cases_more cases place case lt read h k =
      let rest = drop (place + 1) cases in
      prints_same (ap (λ (x : Case). all_cases (x ∷ rest)) read ∙ sym (at_drop_more all_cases cases place case lt))
      (prints_then (case_phrase (case_of a f case) Space) (all_cases rest) h k)

  -- at the end no case is left
  pub cases_end : (cases : List Case) (place : ℕ) (now : GatherState) → length cases ≤ place → Prints now now (all_cases (drop place cases))
  cases_end cases place now le = prints_same (sym (at_drop_all all_cases cases place le)) (prints_none now)

  -- a case as an operand
  abbrev pub as_operand : Case → Operand
  as_operand c = record { ty = c.ty; value = value.Known c.value }

  -- what is known of their operands and targets is known of the cases
  pub cases_known : (cases : List Case) → All (HasThis a f) (map as_operand cases) → All (λ id. id < length (function_blocks f)) (map (λ (c : Case). c.target) cases) → All (HasCase a f) cases
  cases_known cases operands targets k d lt =
      let many = length-map cases as_operand in
      let many_targets = length-map cases (λ (c : Case). c.target) in (
        subst (HasThis a f) (get_or-map as_operand cases k d (as_operand d) lt) (operands k (as_operand d) (omega (arith, lt, many))),
        subst (λ (id : ℕ). id < length (function_blocks f)) (get_or-map (λ (c : Case). c.target) cases k d d.target lt) (targets k d.target (omega (arith, lt, many_targets))),
      )
