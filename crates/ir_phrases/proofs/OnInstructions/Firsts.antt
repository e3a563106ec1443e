-- What begins an instruction, and a block.
use Rattle.std.proofs.Common.{◌≡◌, ℕ, ◌==◌, true, false, cond, Some, List, [], ◌∷◌, ◌++◌, refl, ◌∙◌, ap, inl, inr}
use Rattle.std.proofs.lemmas.Option.{same_Some}
use Rattle.std.proofs.lemmas.Bool.{cases_Bool}
use Rattle.ir_lexer.specs.Ahead.{Located}
use Rattle.ir_terminals.specs.PhraseRows.Row.{among, begins}
use Rattle.ir_tables.specs.declared.opcode.Opcode.{Opcode}
use Rattle.ir_terminals.specs.declared.terminal.Terminal.{Terminal}
use Rattle.ir_terminals.specs.declared.terminal.Terminal.TheVariants as terminal
use Rattle.ir_terminals.specs.Position.{first_terminal}
use Rattle.ir_terminals.specs.Role.{class}
use Rattle.ir_terminals.specs.Role as terminal_of
use Rattle.ir_terminals.specs.Terminal.{code}
use Rattle.ir_phrases.specs.Instructions.Instructions.{operation_classes, instruction_shape}
use Rattle.ir_phrases.specs.Instructions.Endings.{ending_shape}
use Rattle.ir_phrases.specs.Instructions.Blocks.{block_shape}

among_either : (k : ℕ) (xs ys : List ℕ) → among k (xs ++ ys) ≡ cond (among k xs) true (among k ys)
among_either k [] ys = refl
among_either k (x ∷ xs) ys = elim (cases_Bool (k == x)) [ inl e ↦ rw e refl | inr e ↦ rw e (among_either k xs ys) ]

begins_either : (xs ys : List ℕ) (ts : List Located) → begins class (xs ++ ys) ts ≡ cond (begins class xs ts) true (begins class ys ts)
begins_either xs ys [] = refl
begins_either xs ys (t ∷ ts) = among_either (class t) xs ys

-- what the next terminal tells
pub begun : (classes : List ℕ) (x : Terminal) (ts : List Located) → Some x ≡ first_terminal ts → among (code x) classes ≡ begins class classes ts
begun classes x [] e = absurd cc
begun classes x (t ∷ ts) e = ap (λ (y : Terminal). among (code y) classes) (same_Some x (terminal_of.terminal t.token) e)

-- what is no opcode
pub no_operation : (x : Terminal) → ((opcode : Opcode) → x ≡ terminal.Opcode opcode → ⊥) → among (code x) operation_classes ≡ false
no_operation (terminal.Opcode opcode) h = absurd (h opcode refl)
no_operation _ h = refl

-- a name, a mark of a call, or an opcode
pub instruction_begins : (ts : List Located) → begins class instruction_shape.first ts ≡ cond (begins class (code terminal.Local ∷ []) ts) true (cond (begins class (code terminal.TailMark ∷ []) ts) true (begins class operation_classes ts))
instruction_begins ts =
    begins_either (code terminal.Local ∷ []) (code terminal.TailMark ∷ operation_classes) ts
    ∙ ap (λ b. cond (begins class (code terminal.Local ∷ []) ts) true b) (begins_either (code terminal.TailMark ∷ []) operation_classes ts)

-- a label, an instruction or an end
pub block_begins : (ts : List Located) → begins class block_shape.first ts ≡ cond (begins class (code terminal.Label ∷ []) ts) true (cond (begins class instruction_shape.first ts) true (begins class ending_shape.first ts))
block_begins ts =
    begins_either (code terminal.Label ∷ []) (instruction_shape.first ++ ending_shape.first) ts
    ∙ ap (λ b. cond (begins class (code terminal.Label ∷ []) ts) true b) (begins_either instruction_shape.first ending_shape.first ts)
