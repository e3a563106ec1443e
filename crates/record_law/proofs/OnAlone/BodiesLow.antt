-- The records of a body that fits have operands of 64 bits.
use Rattle.std.proofs.Common.{◌≡◌, ℕ, ◌+◌, ◌^◌, ◌<◌, true, List, [], ◌∷◌, map, flat_map, arith}
use Rattle.std.specs.List.{list_all, AllByRecursion}
use Rattle.ir_tables.specs.declared.opcode.Opcode.{Opcode}
use Rattle.ir_tables.specs.declared.opcode.Opcode.TheVariants as op
use Rattle.ir_tables.specs.Opcode.{opcode_code}
use Rattle.module_arena.specs.Module.{Bytes, LocalName, Instruction, Block, Function, Module}
use Rattle.module_arena.specs.Names.{parameter_names}
use Rattle.module_arena.specs.Operations.{ending_operands}
use Rattle.module_arena.specs.WellFormed.{is_good_constant, known_of_operands, known_of_operation, known_of_block}
use Rattle.record_table.specs.Fields.{Texts, Numbering, label, after}
use Rattle.record_table.specs.Listed.{IsLabel}
use Rattle.record_table.specs.Lays.{Lays}
use Rattle.record_table.specs.Lines.{operation_opcode, ending_opcode}
use Rattle.record_table.specs.Bodies.{after_all, with_names, results}
use Rattle.record_table.specs.Spelling.{Line, instruction_line, ending_line, block_lines, body_lines, within}
use Rattle.record_law.specs.Bodies.FittingBodies.{own_behind_block, taken_behind_block, AreLabels, InstructionsFit, BlockFits, BlocksFit, BodyFits}
use Rattle.record_law.proofs.OnTypes.Tests.{all_front, all_rest, both_of}
use Rattle.record_law.proofs.OnAlone.Numbers.{IsSmall, flat, AreFew}
use Rattle.record_law.proofs.OnAlone.LinesLow.{LowLabels, operation_low, ending_low}

-- a record whose code and operands are small
pub record IsLowLine (line : Line) : Type 0 where
  pub code : line.0 < 2 ^ 32
  pub operands : IsSmall line.1

code_low : (o : Opcode) → 10 + opcode_code o < 2 ^ 32
code_low op.Add = omega arith
code_low _ = omega arith

module _ (m : Module) (texts : Texts) (lays_label : (own : ℕ) → Lays (IsLabel texts own) (label texts own)) (low : LowLabels texts) where
  labels_low : (own : ℕ) (names : List LocalName) → AreLabels texts own names → AllByRecursion (λ name. IsSmall ((label texts 0).spell name)) names
  labels_low own [] fit = tt
  labels_low own (name ∷ names) fit = (low own name fit.0, labels_low (after own name) names fit.1)

  module _ (k : Numbering) (few : AreFew k) where
    lines_low : (is : List Instruction) (own : ℕ) (taken : List Bytes) → InstructionsFit texts k own taken is → list_all (is_good_constant m) (flat_map (λ i. known_of_operation i.operation) is) ≡ true → AllByRecursion IsLowLine (map (instruction_line texts k) is)
    lines_low [] own taken fit good = tt
    lines_low (i ∷ is) own taken fit good =
        let others = flat_map (λ (i : Instruction). known_of_operation i.operation) is in
        let here = all_front (is_good_constant m) (known_of_operation i.operation) others good in (
          record { code = code_low (operation_opcode i.operation); operands = operation_low m k few texts lays_label low own i.operation i.result fit.0.0 fit.0.1 here },
          lines_low is (after_all own (results i.result)) (with_names taken (results i.result)) fit.2 (all_rest (is_good_constant m) (known_of_operation i.operation) others good),
        )

    block_low : (b : Block) (own : ℕ) (taken : List Bytes) → BlockFits texts k own taken b → list_all (is_good_constant m) (known_of_block b) ≡ true → AllByRecursion IsLowLine (block_lines texts k b)
    block_low b own taken fit good =
        let inner = flat_map (λ (i : Instruction). known_of_operation i.operation) b.instructions in
        let outer = known_of_operands (ending_operands b.ending) in
        let last = ending_low m k few b.ending fit.3 (all_rest (is_good_constant m) inner outer good) in
        let lines = lines_low b.instructions (after own b.name) (with_names taken (b.name ∷ [])) fit.2 (all_front (is_good_constant m) inner outer good) in (
          record { code = omega arith; operands = low own b.name fit.0 },
          both_of IsLowLine (map (instruction_line texts k) b.instructions) (ending_line k b.ending ∷ []) lines (record { code = code_low (ending_opcode b.ending); operands = last }, tt),
        )

    blocks_low : (bs : List Block) (own : ℕ) (taken : List Bytes) → BlocksFit texts k own taken bs → list_all (is_good_constant m) (flat_map known_of_block bs) ≡ true → AllByRecursion IsLowLine (flat_map (block_lines texts k) bs)
    blocks_low [] own taken fit good = tt
    blocks_low (b ∷ bs) own taken fit good =
        both_of IsLowLine (block_lines texts k b) (flat_map (block_lines texts k) bs) (block_low b own taken fit.0 (all_front (is_good_constant m) (known_of_block b) (flat_map known_of_block bs) good))
        (blocks_low bs (own_behind_block own b) (taken_behind_block taken b) fit.1 (all_rest (is_good_constant m) (known_of_block b) (flat_map known_of_block bs) good))

  pub body_low : (k : Numbering) (f : Function) (bs : List Block) → BodyFits texts k f bs → AreFew (within k f bs) → list_all (is_good_constant m) (flat_map known_of_block bs) ≡ true → AllByRecursion IsLowLine (body_lines texts k f bs)
  body_low k f [] fit few good = elim fit [ ]
  body_low k f (b ∷ bs) fit few good = (
    record { code = omega arith; operands = flat (label texts 0).spell (parameter_names f) (labels_low 0 (parameter_names f) fit.0) },
    blocks_low (within k f (b ∷ bs)) few (b ∷ bs) (after_all 0 (parameter_names f)) (with_names [] (parameter_names f)) fit.2 good,
  )
