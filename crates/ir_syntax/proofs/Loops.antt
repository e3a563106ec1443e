-- One more step of each loop over a row.
use Rattle.std.proofs.Common.{◌≡◌, ◌<◌, List, [], ◌∷◌, ◌++◌, length, Bool, refl, true, Option}
use Rattle.ir_base.specs.declared.place.Place.{Place}
use Rattle.ir_lexer.specs.Ahead.{Located}
use Rattle.ir_terminals.specs.PhraseRows.Row.{Done, begins, labelled, loop}
use Rattle.ir_terminals.proofs.OnPhraseRows.Repeated.{with_front, many_next}
use Rattle.ir_terminals.proofs.OnPhraseRows.Loop.{loop_next}
use Rattle.ir_terminals.proofs.OnPhraseRows.Values.{read_less}
use Rattle.ir_terminals.specs.declared.limits.Limits.{Limits}
use Rattle.ir_terminals.specs.declared.terminal.Terminal.TheVariants as terminal
use Rattle.ir_terminals.specs.declared.values.Integer.{Integer}
use Rattle.ir_terminals.specs.Role.{class}
use Rattle.ir_terminals.specs.Tokens.{word}
use Rattle.ir_phrases.specs.Instructions.Dropped.{comma_shape, attachment_row}
use Rattle.ir_phrases.proofs.OnInstructions.Grammar.{reads_attachment}
use Rattle.ir_syntax.specs.Tree.{ItemTree}
use Rattle.ir_syntax.specs.Heads.{global_word_shape, global_word_row, global_words_row}
use Rattle.ir_syntax.specs.Variables.{tail_row, tail_shape, tail_step}
use Rattle.ir_syntax.specs.Functions.{ParametersTree, parameter_step, more_parameters_row, attachment_shape, metadata_row}
use Rattle.ir_syntax.specs.Items.{item_shape, item_row, items_row}
use Rattle.ir_syntax.proofs.Grammar.{reads_global_word, reads_tail_step, reads_parameter_step, reads_item}

pub global_words_next : (ts rest : List Located) → begins class global_word_shape.first ts ≡ true → global_word_row.run ts ≡ Done tt rest → global_words_row.run ts ≡ global_words_row.run rest
global_words_next ts rest b e = loop_next class (λ u. reads_global_word) refl refl tt tt ts rest b e

pub global_words_less : (ts rest : List Located) → global_word_row.run ts ≡ Done tt rest → length rest < length ts
global_words_less ts rest e = read_less reads_global_word refl ts rest tt e

pub metadata_next : (ts rest : List Located) → begins class attachment_shape.first ts ≡ true → attachment_row.run ts ≡ Done tt rest → metadata_row.run ts ≡ metadata_row.run rest
metadata_next ts rest b e = loop_next class (λ u. reads_attachment) refl refl tt tt ts rest b e

pub metadata_less : (ts rest : List Located) → attachment_row.run ts ≡ Done tt rest → length rest < length ts
metadata_less ts rest e = read_less reads_attachment refl ts rest tt e

pub tails_next : (a m : Option Integer) (place : Place) (ts mid rest : List Located) → begins class comma_shape.first ts ≡ true → (word terminal.Comma).run ts ≡ Done place mid → (labelled tail_shape (tail_row a)).run mid ≡ Done m rest → (loop class comma_shape tail_step a).run ts ≡ (loop class comma_shape tail_step m).run rest
tails_next a m place ts mid rest b e f = loop_next class reads_tail_step refl refl a m ts rest b (rw e f)

pub tails_less : (a m : Option Integer) (place : Place) (ts mid rest : List Located) → (word terminal.Comma).run ts ≡ Done place mid → (labelled tail_shape (tail_row a)).run mid ≡ Done m rest → length rest < length ts
tails_less a m place ts mid rest e f = read_less (reads_tail_step a) refl ts rest m (rw e f)

pub parameters_next : (dots : Bool) (limits : Limits) (s m : ParametersTree) (ts rest : List Located) → begins class comma_shape.first ts ≡ true → (parameter_step dots limits s).run ts ≡ Done m rest → (more_parameters_row dots limits s).run ts ≡ (more_parameters_row dots limits m).run rest
parameters_next dots limits s m ts rest b e = loop_next class (reads_parameter_step dots limits) refl refl s m ts rest b e

pub parameters_less : (dots : Bool) (limits : Limits) (s m : ParametersTree) (ts rest : List Located) → (parameter_step dots limits s).run ts ≡ Done m rest → length rest < length ts
parameters_less dots limits s m ts rest e = read_less (reads_parameter_step dots limits s) refl ts rest m e

pub items_next : (limits : Limits) (xs : List ItemTree) (x : ItemTree) (ts rest : List Located) → begins class item_shape.first ts ≡ true → (item_row limits).run ts ≡ Done x rest → with_front xs ((items_row limits).run ts) ≡ with_front (xs ++ (x ∷ [])) ((items_row limits).run rest)
items_next limits xs x ts rest b e = many_next class (reads_item limits) refl refl xs x ts rest b e

pub items_less : (limits : Limits) (x : ItemTree) (ts rest : List Located) → (item_row limits).run ts ≡ Done x rest → length rest < length ts
items_less limits x ts rest e = read_less (reads_item limits) refl ts rest x e
