-- Blocks and their instructions are no more than the tokens.
use Rattle.std.proofs.Common.{◌≡◌, ◌+◌, ◌≤◌, List, [], ◌∷◌, length, refl, false, arith, ℕ}
use Rattle.std.specs.List.{sum_by}
use Rattle.std.proofs.lemmas.List.Sums.{sum_by-cons}
use Rattle.ir_lexer.specs.Ahead.{Located}
use Rattle.ir_terminals.specs.PhraseRows.Row.{Row, PhraseShape, optional}
use Rattle.ir_terminals.specs.PhraseRows.Reads.{Reads}
use Rattle.ir_terminals.proofs.OnPhraseRows.Sizes.{IsSized, sized_none, sized_mapped, sized_both, sized_second, sized_before, sized_pair, sized_many, sized_labelled}
use Rattle.ir_terminals.specs.declared.limits.Limits.{Limits}
use Rattle.ir_terminals.specs.declared.terminal.Terminal.TheVariants as terminal
use Rattle.ir_terminals.specs.Role.{class}
use Rattle.ir_terminals.specs.Tokens.{word, label_row}
use Rattle.ir_phrases.specs.Instructions.Instructions.{instruction_shape, instruction_row, instructions_row}
use Rattle.ir_phrases.specs.Instructions.Endings.{ending_shape, ending_row}
use Rattle.ir_phrases.specs.Instructions.Blocks.{block_shape, block_core, block_row, block_list_row, blocks_row}
use Rattle.ir_phrases.specs.Instructions.Counts.{block_count}
use Rattle.ir_phrases.specs.Instructions.Tree.{BlockTree}
use Rattle.ir_phrases.proofs.OnInstructions.Grammar.{reads_instruction, reads_ending}

-- the blocks and their instructions, or the instructions of all blocks and their ends
abbrev pub blocks_count : List BlockTree → ℕ
blocks_count blocks = sum_by block_count blocks

-- a phrase that is never of no token has at least one
sized_some : {A : Type 0} (r : Row Located A) (s : PhraseShape) → Reads class r s → s.empty ≡ false → IsSized r (λ a. 1)
sized_some {A} r s h some = record { size = size }
  where
    size : (us : List Located) (a : A) → r.whole us a → 1 ≤ length us
    size [] a w = absurd (let k = h.empty a w in cc)
    size (t ∷ us) a w = omega arith

ones : {A : Type 0} (xs : List A) → sum_by (λ x. 1) xs ≡ length xs
ones [] = refl
ones (x ∷ xs) = omega (arith, ones xs, sum_by-cons (λ x. 1) x xs)

pub instructions_sized : (limits : Limits) → IsSized (instructions_row limits) length
instructions_sized limits =
    record { size = λ us xs w. (let k = (sized_many class (sized_some (instruction_row limits) instruction_shape (reads_instruction limits) refl)).size us xs w in omega (arith, k, ones xs)) }

block_core_sized : (limits : Limits) → IsSized (block_core limits) block_count
unfolding block_core
block_core_sized limits =
    sized_mapped _ block_count
    (sized_pair (λ v. length v.1.0 + 1) (sized_none (optional class label_row))
    (sized_pair (λ v. length v.0 + 1) (instructions_sized limits) (sized_some (ending_row limits) ending_shape (reads_ending limits) refl) (λ xs e. omega arith))
    (λ l v. omega arith)) (λ v. omega arith)

block_sized : (limits : Limits) → IsSized (block_row limits) block_count
block_sized limits = sized_labelled block_shape (block_core_sized limits)

block_list_sized : (limits : Limits) → IsSized (block_list_row limits) blocks_count
block_list_sized limits =
    sized_both _ blocks_count (block_sized limits) (sized_many class (block_sized limits)) (λ b bs. omega (arith, sum_by-cons block_count b bs))

pub blocks_sized : (limits : Limits) → IsSized (blocks_row limits) blocks_count
blocks_sized limits =
    sized_second blocks_count (sized_none (word terminal.OpenBrace))
    (sized_before blocks_count (block_list_sized limits) (sized_none (word terminal.CloseBrace)) (λ bs p. omega arith))
    (λ p bs. omega arith)
