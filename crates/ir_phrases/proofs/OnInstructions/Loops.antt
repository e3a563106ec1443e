-- One more step of each loop over what is dropped.
use Rattle.std.proofs.Common.{◌≡◌, ◌<◌, List, length, refl, true}
use Rattle.ir_base.specs.declared.place.Place.{Place}
use Rattle.ir_lexer.specs.Ahead.{Located}
use Rattle.ir_terminals.specs.PhraseRows.Row.{Done, begins}
use Rattle.ir_terminals.proofs.OnPhraseRows.Loop.{loop_next}
use Rattle.ir_terminals.proofs.OnPhraseRows.Values.{read_less}
use Rattle.ir_terminals.specs.declared.terminal.Terminal.TheVariants as terminal
use Rattle.ir_terminals.specs.Role.{class}
use Rattle.ir_terminals.specs.Tokens.{word}
use Rattle.ir_phrases.specs.Instructions.Dropped.{attachment_row, attachments_core, attachments_row, comma_shape, parameter_attribute_shape, parameter_attribute_row, parameter_attributes_core, parameter_attributes_row, function_attribute_shape, function_attribute_row, function_attributes_core, function_attributes_row}
use Rattle.ir_phrases.proofs.OnInstructions.DroppedGrammar.{reads_comma_attachment, reads_parameter_attribute, reads_function_attribute}

pub attachments_next : (place : Place) (ts mid rest : List Located) → begins class comma_shape.first ts ≡ true → (word terminal.Comma).run ts ≡ Done place mid → attachment_row.run mid ≡ Done tt rest → attachments_row.run ts ≡ attachments_row.run rest
unfolding attachments_core
attachments_next place ts mid rest b e f = loop_next class (λ u. reads_comma_attachment) refl refl tt tt ts rest b (rw e f)

pub attachments_less : (place : Place) (ts mid rest : List Located) → (word terminal.Comma).run ts ≡ Done place mid → attachment_row.run mid ≡ Done tt rest → length rest < length ts
attachments_less place ts mid rest e f = read_less reads_comma_attachment refl ts rest tt (rw e f)

pub parameter_attributes_next : (ts rest : List Located) → begins class parameter_attribute_shape.first ts ≡ true → parameter_attribute_row.run ts ≡ Done tt rest → parameter_attributes_row.run ts ≡ parameter_attributes_row.run rest
unfolding parameter_attributes_core
parameter_attributes_next ts rest b e = loop_next class (λ u. reads_parameter_attribute) refl refl tt tt ts rest b e

pub parameter_attributes_less : (ts rest : List Located) → parameter_attribute_row.run ts ≡ Done tt rest → length rest < length ts
parameter_attributes_less ts rest e = read_less reads_parameter_attribute refl ts rest tt e

pub function_attributes_next : (ts rest : List Located) → begins class function_attribute_shape.first ts ≡ true → function_attribute_row.run ts ≡ Done tt rest → function_attributes_row.run ts ≡ function_attributes_row.run rest
unfolding function_attributes_core
function_attributes_next ts rest b e = loop_next class (λ u. reads_function_attribute) refl refl tt tt ts rest b e

pub function_attributes_less : (ts rest : List Located) → function_attribute_row.run ts ≡ Done tt rest → length rest < length ts
function_attributes_less ts rest e = read_less reads_function_attribute refl ts rest tt e
