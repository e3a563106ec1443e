-- A body that is put is read back, line by line.
use Rattle.std.proofs.Common.{◌≡◌, ℕ, suc, ◌+◌, true, false, List, [], ◌∷◌, ◌++◌, Some, None, Ok, refl, sym, ap, ◌∙◌, append-nil}
use Rattle.std.specs.Prelude.{if◌then◌else◌}
use Rattle.ir_tables.specs.declared.opcode.Opcode.{Opcode}
use Rattle.ir_tables.specs.declared.opcode.Opcode.TheVariants as op
use Rattle.ir_tables.specs.Opcode.{opcode_code, opcode_of_code}
use Rattle.module_arena.specs.Module.{Instruction, Operation, BinaryOperation, Compare, Convert, Select, Freeze, Phi, Load, Store, Alloca, GetElementPtr, Call, ExtractValue, InsertValue, Ending, ReturnVoid, Return, Jump, Branch, Switch, Unreachable}
use Rattle.record_table.specs.Walk.{going, told}
use Rattle.record_table.specs.Layout.{Layout, judged}
use Rattle.record_table.specs.Fields.{Texts, Numbering, label}
use Rattle.record_table.specs.Lines.{instruction, ending, operation_opcode, ending_opcode, is_end}
use Rattle.record_table.specs.Bodies.{Line, NextBlock, after_all, with_names, Begun, with_record, with_opcode, with_instruction, with_end, results, are_new}
use Rattle.record_table.specs.Listed.{IsLabel}
use Rattle.record_table.specs.FittingLines.{OperationFits, InstructionFits, EndingFits}
use Rattle.std.proofs.lemmas.Bool.{false≢true}
use Rattle.module_arena.specs.Forms.{is_binary, is_cast}
use Rattle.record_table.specs.Lays.{Lays}
use Rattle.record_table.proofs.EndingsBack as ends
use Rattle.record_table.proofs.EveryLine.{line_back}

-- what is read behind an instruction, and behind an end
abbrev after_instruction : Begun → Instruction → Begun
after_instruction s i = record s { at = suc s.at; own = after_all s.own (results i.result); taken = with_names s.taken (results i.result); instructions = s.instructions ++ i ∷ [] }

abbrev after_end : Begun → Ending → Begun
after_end s e = record s { at = suc s.at; due = NextBlock; blocks = s.blocks ++ record { name = s.name; instructions = s.instructions; ending = e } ∷ [] }

module _ (texts : Texts) (k : Numbering) (lays_label : (own : ℕ) → Lays (IsLabel texts own) (label texts own)) (count : ℕ) where
  -- a record is read by its opcode
  pub by_opcode : (o : Opcode) (s : Begun) (operands : List ℕ) → with_record texts k count s (10 + opcode_code o) operands ≡ with_opcode texts k count s (10 + opcode_code o) operands (Some o)
  unfolding opcode_of_code
  by_opcode op.Add s operands = refl
  by_opcode op.Sub s operands = refl
  by_opcode op.Mul s operands = refl
  by_opcode op.UDiv s operands = refl
  by_opcode op.SDiv s operands = refl
  by_opcode op.URem s operands = refl
  by_opcode op.SRem s operands = refl
  by_opcode op.Shl s operands = refl
  by_opcode op.LShr s operands = refl
  by_opcode op.AShr s operands = refl
  by_opcode op.And s operands = refl
  by_opcode op.Or s operands = refl
  by_opcode op.Xor s operands = refl
  by_opcode op.ICmp s operands = refl
  by_opcode op.Trunc s operands = refl
  by_opcode op.ZExt s operands = refl
  by_opcode op.SExt s operands = refl
  by_opcode op.PtrToInt s operands = refl
  by_opcode op.IntToPtr s operands = refl
  by_opcode op.Select s operands = refl
  by_opcode op.Freeze s operands = refl
  by_opcode op.Phi s operands = refl
  by_opcode op.Load s operands = refl
  by_opcode op.Store s operands = refl
  by_opcode op.Alloca s operands = refl
  by_opcode op.GetElementPtr s operands = refl
  by_opcode op.Call s operands = refl
  by_opcode op.ExtractValue s operands = refl
  by_opcode op.InsertValue s operands = refl
  by_opcode op.Ret s operands = refl
  by_opcode op.Br s operands = refl
  by_opcode op.Switch s operands = refl
  by_opcode op.Unreachable s operands = refl

  computes : (o : Opcode) → is_binary o ≡ true → is_end o ≡ false
  computes op.Add is = refl
  computes op.Sub is = refl
  computes op.Mul is = refl
  computes op.UDiv is = refl
  computes op.SDiv is = refl
  computes op.URem is = refl
  computes op.SRem is = refl
  computes op.Shl is = refl
  computes op.LShr is = refl
  computes op.AShr is = refl
  computes op.And is = refl
  computes op.Or is = refl
  computes op.Xor is = refl
  computes _ is = absurd (false≢true is)

  converts : (o : Opcode) → is_cast o ≡ true → is_end o ≡ false
  converts op.Trunc is = refl
  converts op.ZExt is = refl
  converts op.SExt is = refl
  converts op.PtrToInt is = refl
  converts op.IntToPtr is = refl
  converts _ is = absurd (false≢true is)

  goes_on : (operation : Operation) → OperationFits k operation → is_end (operation_opcode operation) ≡ false
  goes_on (BinaryOperation o f a b) fit = computes o fit.0
  goes_on (Compare f p a b) fit = refl
  goes_on (Convert o f a t) fit = converts o fit.0
  goes_on (Select c a b) fit = refl
  goes_on (Freeze a) fit = refl
  goes_on (Phi t all) fit = refl
  goes_on (Load f t a align) fit = refl
  goes_on (Store f v a align) fit = refl
  goes_on (Alloca t c align) fit = refl
  goes_on (GetElementPtr f t a indices) fit = refl
  goes_on (Call s callee xs) fit = refl
  goes_on (ExtractValue a indices) fit = refl
  goes_on (InsertValue a part indices) fit = refl

  ends_here : (e : Ending) → is_end (ending_opcode e) ≡ true
  ends_here ReturnVoid = refl
  ends_here (Return v) = refl
  ends_here (Jump b) = refl
  ends_here (Branch c a b) = refl
  ends_here (Switch v b cases) = refl
  ends_here Unreachable = refl

  pub judged_from : {A : Type 0} (l : Layout A) (x : A) (operands : List ℕ) → l.read (going (operands ++ []) None) ≡ (x, going [] None) → judged l operands ≡ (x, None)
  judged_from l x operands back = ap (λ p. (p.0, told p.1)) (ap (λ ns. l.read (going ns None)) (sym (append-nil operands)) ∙ back)

  -- an instruction in a block: its names are new
  placed : (s : Begun) (i : Instruction) → s.due ≡ Line → are_new s.taken (results i.result) ≡ true → with_instruction s (i, None) ≡ Ok (after_instruction s i)
  placed s i due new = rw (due, new) refl

  pub instruction_step : (s : Begun) (i : Instruction) → InstructionFits texts k s.own i → s.due ≡ Line → are_new s.taken (results i.result) ≡ true
      → with_record texts k count s (10 + opcode_code (operation_opcode i.operation)) ((instruction texts k s.own (operation_opcode i.operation)).spell i) ≡ Ok (after_instruction s i)
  instruction_step s i fit due new =
      let o = operation_opcode i.operation in
      let operands = (instruction texts k s.own o).spell i in
      by_opcode o s operands
      ∙ ap (λ is. if is then with_end s (judged (ending k o) operands) else with_instruction s (judged (instruction texts k s.own o) operands)) (goes_on i.operation fit.0)
      ∙ ap (with_instruction s) (judged_from (instruction texts k s.own o) i operands (line_back texts k lays_label s.own i.result i.operation fit []))
      ∙ placed s i due new

  -- its end
  ended : (s : Begun) (e : Ending) → s.due ≡ Line → with_end s (e, None) ≡ Ok (after_end s e)
  ended s e due = rw due refl

  pub end_step : (s : Begun) (e : Ending) → EndingFits k e → s.due ≡ Line → with_record texts k count s (10 + opcode_code (ending_opcode e)) ((ending k (ending_opcode e)).spell e) ≡ Ok (after_end s e)
  end_step s e fit due =
      let o = ending_opcode e in
      let operands = (ending k o).spell e in
      by_opcode o s operands
      ∙ ap (λ is. if is then with_end s (judged (ending k o) operands) else with_instruction s (judged (instruction texts k s.own o) operands)) (ends_here e)
      ∙ ap (with_end s) (judged_from (ending k o) e operands (ends.ending_back texts k lays_label e fit []))
      ∙ ended s e due
