use Rattle.std.proofs.Common.{◌≡◌, [], ◌∷◌, length, map}
use Rattle.ir_terminals.specs.PhraseRows.Row.{labelled}
use Rattle.ir_terminals.specs.Position.{tokens_left}
use Rattle.ir_phrases.specs.Instructions.Tails.{listed_row, part_shape}
use Rattle.ir_phrases.proofs.OnInstructions.Lists.{listed_on}
use Rattle.ir_phrases.proofs.instructions.listed.more_parts.Given as goal

abbrev pub invariant-parts : goal.invariant-parts
invariant-parts g l =
    let part = labelled (part_shape g.P.Part.classes) (g.P.Part.core l.fn.cursor.limits) in
    record {
      so_far : listed_on part (map g.P.Part.view l.parts.items) (tokens_left l.cursor) ≡ (listed_row part (g.P.Part.view l.fn.first ∷ [])).run (tokens_left l.fn.cursor);
      limits : l.cursor.limits ≡ l.fn.cursor.limits;
      text : l.cursor.text ≡ l.fn.cursor.text;
    }

abbrev pub decreases-parts : goal.decreases-parts
decreases-parts g l = length (tokens_left l.cursor)
