-- The rows of what stands behind commas are read.
use Rattle.std.proofs.Common.{◌≡◌, ℕ, List, [], ◌∷◌, refl, true, false, None}
use Rattle.ir_lexer.specs.Ahead.{Located}
use Rattle.ir_terminals.specs.PhraseRows.Row.{Row, apart, keep_second, labelled}
use Rattle.ir_terminals.specs.PhraseRows.Reads.{Reads}
use Rattle.ir_terminals.proofs.OnPhraseRows.Plain.{reads_nothing, reads_mapped, reads_labelled, reads_wider}
use Rattle.ir_terminals.proofs.OnPhraseRows.Chain.{reads_second, reads_before, reads_pair}
use Rattle.ir_terminals.proofs.OnPhraseRows.Alt.{reads_alt}
use Rattle.ir_terminals.proofs.OnPhraseRows.Loop.{reads_loop}
use Rattle.ir_terminals.specs.declared.limits.Limits.{Limits}
use Rattle.ir_terminals.specs.declared.terminal.Terminal.TheVariants as terminal
use Rattle.ir_terminals.specs.Role.{class}
use Rattle.ir_terminals.specs.Terminal.{code}
use Rattle.ir_terminals.specs.Tokens.{word}
use Rattle.ir_terminals.proofs.RowsRead.{reads_word, reads_integer}
use Rattle.ir_phrases.proofs.OnConstants.Grammar.{reads_typed_value}
use Rattle.ir_phrases.specs.Instructions.Dropped.{comma_shape, commas_shape}
use Rattle.ir_phrases.specs.Instructions.Tails.{alignment_behind_row, alignment_core, alignment_row, count_behind_row, count_core, count_row, ListedParts, listed_step, listed_core, listed_row, part_shape, part_begins_row}
use Rattle.ir_phrases.proofs.OnInstructions.DroppedGrammar.{reads_attachment, reads_attachments}

reads_alignment_behind : Reads class alignment_behind_row alignment_behind_row.shape
reads_alignment_behind =
    reads_alt class
    (reads_before class (reads_mapped class _ (reads_second class (reads_word terminal.Align) reads_integer refl)) reads_attachments refl)
    (reads_mapped class _ (reads_second class reads_attachment reads_attachments refl)) refl refl

reads_alignment_core : Reads class alignment_core commas_shape
unfolding alignment_core
reads_alignment_core =
    reads_wider class commas_shape
    (reads_alt class (reads_second class (reads_word terminal.Comma) reads_alignment_behind refl) (reads_nothing class None) refl refl) refl refl (λ e. e)

pub reads_alignment : Reads class alignment_row commas_shape
reads_alignment = reads_labelled reads_alignment_core

reads_count_behind : (limits : Limits) → Reads class (count_behind_row limits) (count_behind_row limits).shape
reads_count_behind limits =
    reads_alt class
    (reads_pair class (reads_mapped class _ (reads_typed_value limits)) reads_alignment refl)
    (reads_mapped class _ reads_alignment_behind) refl refl

reads_count_core : (limits : Limits) → Reads class (count_core limits) commas_shape
unfolding count_core
reads_count_core limits =
    reads_wider class commas_shape
    (reads_alt class (reads_second class (reads_word terminal.Comma) (reads_count_behind limits) refl) (reads_nothing class (None, None)) refl refl) refl refl (λ e. e)

pub reads_count : (limits : Limits) → Reads class (count_row limits) commas_shape
reads_count limits = reads_labelled (reads_count_core limits)

reads_part_begins : Reads class part_begins_row part_begins_row.shape
reads_part_begins =
    reads_alt class (reads_mapped class _ (reads_second class reads_attachment reads_attachments refl)) (reads_nothing class true) refl refl

-- a comma, and whether a part stands behind it
pub reads_comma_part : Reads class (keep_second (word terminal.Comma) part_begins_row) (keep_second (word terminal.Comma) part_begins_row).shape
reads_comma_part = reads_second class (reads_word terminal.Comma) reads_part_begins refl

module _ {A : Type 0} (first : List ℕ) (r : Row Located A) (h : Reads class (labelled (part_shape first) r) (part_shape first)) (ok : apart (code terminal.MetaName ∷ []) first ≡ true) where
  reads_listed_step_at : (s : ListedParts A) → Reads class (listed_step (labelled (part_shape first) r) s) comma_shape
  reads_listed_step_at (parts, true) = reads_second class (reads_word terminal.Comma) (reads_mapped class _ reads_attachment) refl
  reads_listed_step_at (parts, false) =
      reads_second class (reads_word terminal.Comma) (reads_alt class (reads_mapped class _ reads_attachment) (reads_mapped class _ h) ok refl) refl

pub reads_listed_step : {A : Type 0} (first : List ℕ) (r : Row Located A) → Reads class (labelled (part_shape first) r) (part_shape first) → apart (code terminal.MetaName ∷ []) first ≡ true → (s : ListedParts A) → Reads class (listed_step (labelled (part_shape first) r) s) comma_shape
reads_listed_step first r h ok s = reads_listed_step_at first r h ok s

reads_listed_core : {A : Type 0} (first : List ℕ) (r : Row Located A) → Reads class (labelled (part_shape first) r) (part_shape first) → apart (code terminal.MetaName ∷ []) first ≡ true → (parts : List A) → Reads class (listed_core (labelled (part_shape first) r) parts) commas_shape
unfolding listed_core
reads_listed_core first r h ok parts = reads_mapped class _ (reads_loop class (reads_listed_step_at first r h ok) refl refl (parts, false))

pub reads_listed : {A : Type 0} (first : List ℕ) (r : Row Located A) → Reads class (labelled (part_shape first) r) (part_shape first) → apart (code terminal.MetaName ∷ []) first ≡ true → (parts : List A) → Reads class (listed_row (labelled (part_shape first) r) parts) commas_shape
reads_listed first r h ok parts = reads_labelled (reads_listed_core first r h ok parts)
