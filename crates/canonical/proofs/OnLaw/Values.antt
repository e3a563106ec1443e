-- Values, operands and alignments are printed.
use Rattle.std.proofs.Common.{◌≡◌, ℕ, List, [], ◌∷◌, map, Option, Some, None, option_map, codes, refl, ◌^◌, ◌<◌}
use Rattle.ir_lexer.specs.Pieces.{Separator}
use Rattle.ir_terminals.specs.PhraseRows.Row.{keep_second, mapped, nothing}
use Rattle.ir_terminals.specs.Tokens.{word, local_row, integer_row}
use Rattle.ir_terminals.specs.declared.terminal.Terminal.TheVariants as terminals
use Rattle.ir_terminals.specs.declared.limits.Limits.{Limits}
use Rattle.ir_terminals.specs.declared.values.Integer.{Integer}
use Rattle.ir_phrases.specs.Constants.Tree.{ValueTree, LocalValue, ConstantValue, TypedValueTree}
use Rattle.ir_phrases.specs.Constants.Types.{type_shape}
use Rattle.ir_phrases.specs.Constants.Constants.{constant_row}
use Rattle.ir_phrases.specs.Constants.Values.{value_core, value_row, value_shape, typed_value_core, typed_value_row}
use Rattle.ir_phrases.specs.Instructions.Dropped.{comma_shape, commas_shape, attachment_row, attachments_row}
use Rattle.ir_phrases.specs.Instructions.Operations.{next_value_core, next_value_row, next_typed_value_core, next_typed_value_row, operands_core, operands_row, operands_shape, address_core, address_row, tail_shape}
use Rattle.ir_phrases.specs.Instructions.Tails.{alignment_behind_row, alignment_core, alignment_row}
use Rattle.type_table.specs.Tree.{Tree}
use Rattle.module_arena.specs.Module.{Value, Local, Known, Operand}
use Rattle.canonical.specs.Phrase as phrase
use Rattle.canonical.specs.Phrase.{Phrase, none, comma, ◌␣◌, ◌⌢◌}
use Rattle.canonical.specs.Names as names
use Rattle.canonical.specs.Constants.{value_phrase, operand}
use Rattle.canonical.specs.Operations.{aligned}
use Rattle.canonical.specs.Items.Unplaced.{unplaced_value, unplaced_operand, unplaced_integer}
use Rattle.canonical.specs.Items.Parts.{natural, value_tree, operand_tree}
use Rattle.canonical.proofs.OnLaw.Printed.{IsPrinted, Joins}
use Rattle.canonical.specs.Law.Written.{IsValueText, IsOperandText, AreOperandTexts, IsAlignmentText, AreSmall}
use Rattle.canonical.proofs.OnLaw.Joined.{spaced, tight, right_none}
use Rattle.canonical.proofs.OnLaw.Rows.{printed_like, printed_labelled, printed_mapped, printed_pair, printed_second, printed_before, printed_left, printed_right, printed_nothing}
use Rattle.canonical.proofs.OnLaw.Lists.{EachPrinted}
use Rattle.canonical.proofs.OnLaw.Loops.{no_attachments}
use Rattle.canonical.proofs.OnLaw.Words.{printed_comma, printed_align}
use Rattle.canonical.proofs.OnLaw.Tokens.{printed_natural, printed_local}
use Rattle.canonical.proofs.OnLaw.Types.{printed_type}
use Rattle.canonical.proofs.OnLaw.Constants.{printed_constant, starts_comma}

-- a value at a type
pub printed_value : (limits : Limits) (ty : Tree) (v : Value) → IsValueText limits.nesting ty v → IsPrinted (value_row limits) unplaced_value (value_tree ty v) (value_phrase ty v)
unfolding value_core
printed_value limits ty (Local name) h =
    printed_labelled value_shape (printed_left (mapped ConstantValue (constant_row limits)) (printed_mapped LocalValue unplaced_value LocalValue (λ v. refl) (printed_local name h)))
printed_value limits ty (Known c) h =
    printed_labelled value_shape (printed_right (mapped LocalValue local_row) (printed_mapped ConstantValue unplaced_value ConstantValue (λ v. refl) (printed_constant limits ty c limits.nesting h)))

-- a value with its type
pub printed_operand : (limits : Limits) (o : Operand) → IsOperandText limits.nesting o → IsPrinted (typed_value_row limits) unplaced_operand (operand_tree o) (operand o)
unfolding typed_value_core
printed_operand limits o h =
    printed_labelled type_shape (printed_pair spaced (printed_type limits o.ty limits.nesting h.0) (printed_value limits o.ty o.value h.1))

pub printed_operand_list : (limits : Limits) (os : List Operand) → AreOperandTexts limits.nesting os → EachPrinted (typed_value_row limits) unplaced_operand (map operand_tree os) (map operand os)
printed_operand_list limits [] h = tt
printed_operand_list limits (o ∷ os) h = (printed_operand limits o h.0, printed_operand_list limits os h.1)

pub printed_indices : (ns : List ℕ) → AreSmall ns → EachPrinted integer_row unplaced_integer (map natural ns) (map names.natural ns)
printed_indices [] h = tt
printed_indices (n ∷ ns) h = (printed_natural n h.0, printed_indices ns h.1)

-- , VALUE
pub next_value : (limits : Limits) (ty : Tree) (v : Value) → IsValueText limits.nesting ty v → IsPrinted (next_value_row limits) unplaced_value (value_tree ty v) (comma ␣ value_phrase ty v)
unfolding next_value_core
next_value limits ty v h = printed_labelled comma_shape (printed_second spaced printed_comma (printed_value limits ty v h))

-- , TYPE VALUE
pub next_operand : (limits : Limits) (o : Operand) → IsOperandText limits.nesting o → IsPrinted (next_typed_value_row limits) unplaced_operand (operand_tree o) (comma ␣ operand o)
unfolding next_typed_value_core
next_operand limits o h = printed_labelled comma_shape (printed_second spaced printed_comma (printed_operand limits o h))

-- TYPE VALUE, VALUE
pub printed_operands : (limits : Limits) (o : Operand) (ty : Tree) (v : Value) → IsOperandText limits.nesting o → IsValueText limits.nesting ty v → IsPrinted {X = TypedValueTree × ValueTree} (operands_row limits) (λ w. (unplaced_operand w.0, unplaced_value w.1)) (operand_tree o, value_tree ty v) (operand o ⌢ comma ␣ value_phrase ty v)
unfolding operands_core
printed_operands limits o ty v h k =
    printed_labelled operands_shape (printed_pair (tight (starts_comma (value_phrase ty v))) (printed_operand limits o h) (printed_before right_none (next_value limits ty v k) no_attachments))

-- align INT
pub printed_alignment_behind : (n : ℕ) → n < 10 ^ 64 → IsPrinted alignment_behind_row (option_map unplaced_integer) (Some (natural n)) (phrase.word (codes "align") ␣ names.natural n)
printed_alignment_behind n h =
    printed_left (mapped (λ u. None) (keep_second attachment_row attachments_row))
    (printed_before right_none (printed_mapped Some (option_map unplaced_integer) Some (λ v. refl) (printed_second spaced printed_align (printed_natural n h))) no_attachments)

-- what goes on with an alignment, or does not
pub printed_alignment : (n : Option ℕ) → IsAlignmentText n → (p : Phrase) → (behind : Phrase) × Joins p behind (aligned p n) × IsPrinted alignment_row (option_map unplaced_integer) (option_map natural n) behind
unfolding alignment_core
printed_alignment None h p = (none, right_none, printed_labelled commas_shape (printed_right (keep_second (word terminals.Comma) alignment_behind_row) (printed_nothing (option_map unplaced_integer) None)))
printed_alignment (Some n) h p = (
  comma ␣ phrase.word (codes "align") ␣ names.natural n,
  tight (starts_comma (phrase.word (codes "align") ␣ names.natural n)),
  printed_labelled commas_shape (printed_left (nothing None) (printed_second spaced printed_comma (printed_alignment_behind n h))),
)

-- , TYPE VALUE, and an alignment
pub printed_address : (limits : Limits) (o : Operand) (n : Option ℕ) → IsOperandText limits.nesting o → IsAlignmentText n → IsPrinted {X = TypedValueTree × Option Integer} (address_row limits) (λ w. (unplaced_operand w.0, option_map unplaced_integer w.1)) (operand_tree o, option_map natural n) (comma ␣ aligned (operand o) n)
unfolding address_core
printed_address limits o n h k =
    let w = printed_alignment n k (comma ␣ operand o) in
    printed_labelled tail_shape (printed_like (comma ␣ aligned (operand o) n) (λ b. same n b) (printed_pair w.1 (next_operand limits o h) w.2))
  where
    same : (n : Option ℕ) (b : Separator) → aligned (comma ␣ operand o) n b ≡ (comma ␣ aligned (operand o) n) b
    same None b = refl
    same (Some n) b = refl
