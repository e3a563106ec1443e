-- What any instruction spells is read back.
use Rattle.std.proofs.Common.{◌≡◌, ℕ, Bool, true, false, List, [], ◌++◌, Option, Some, None}
use Rattle.type_table.specs.Tree.{Tree}
use Rattle.module_arena.specs.Module.{LocalName, Instruction, Operation, BinaryOperation, Compare, Convert, Select, Freeze, Phi, Load, Store, Alloca, GetElementPtr, Call, ExtractValue, InsertValue, Ending}
use Rattle.module_arena.specs.TypeTests.{is_void}
use Rattle.record_table.specs.Walk.{going}
use Rattle.record_table.specs.Fields.{Texts, Numbering, label}
use Rattle.record_table.specs.Listed.{IsLabel}
use Rattle.record_table.specs.Lays.{Lays}
use Rattle.record_table.proofs.TextsBack as empty
use Rattle.record_table.specs.Constants.{constant, value}
use Rattle.record_table.specs.Lines.{instruction, ending, operation_opcode, ending_opcode}
use Rattle.record_table.specs.FittingConstants.{Fits, ValueFits}
use Rattle.record_table.specs.FittingLines.{IsCallResult, IsResult, InstructionFits, EndingFits}
use Rattle.record_table.proofs.InstructionsBack as lines
use Rattle.record_table.proofs.EndingsBack as ends
use Rattle.record_table.specs.StringTable.{version_2}

module _ (texts : Texts) (k : Numbering) (lays_label : (own : ℕ) → Lays (IsLabel texts own) (label texts own)) where
  -- the result of a call that is there is a name
  call_named : (own : ℕ) (is : Bool) (name : LocalName) → IsCallResult texts own is (Some name) → IsLabel texts own name
  call_named own true name fit = elim fit [ ]
  call_named own false name fit = fit

  -- a result that is there is a name
  pub named : (own : ℕ) (operation : Operation) (name : LocalName) → IsResult texts k own operation (Some name) → IsLabel texts own name
  named own (Store f v a align) name is = elim is [ ]
  named own (Call s callee xs) name is = call_named own (is_void s.returns) name is
  named own (BinaryOperation o f a b) name is = is
  named own (Compare f p a b) name is = is
  named own (Convert o f a t) name is = is
  named own (Select c a b) name is = is
  named own (Freeze a) name is = is
  named own (Phi t all) name is = is
  named own (Load f t a align) name is = is
  named own (Alloca t c align) name is = is
  named own (GetElementPtr f t a indices) name is = is
  named own (ExtractValue a indices) name is = is
  named own (InsertValue a part indices) name is = is

  -- an instruction with or without a result
  pub line_back : (own : ℕ) (result : Option LocalName) (operation : Operation) → InstructionFits texts k own (record { result = result; operation = operation })
      → lines.IsBack texts k lays_label own (operation_opcode operation) (record { result = result; operation = operation })
  line_back own None operation fit = lines.bare_back texts k lays_label own operation fit.0 fit.1
  line_back own (Some name) operation fit = lines.named_back texts k lays_label own name operation (named own operation name fit.1) fit.0 fit.1

pub instructions_back : (texts : Texts) (k : Numbering) → ((own : ℕ) → Lays (IsLabel texts own) (label texts own)) → (own : ℕ) (i : Instruction) → InstructionFits texts k own i → (rest : List ℕ)
    → (instruction texts k own (operation_opcode i.operation)).read (going ((instruction texts k own (operation_opcode i.operation)).spell i ++ rest) None) ≡ (i, going rest None)
instructions_back texts k lays_label own i fit rest = line_back texts k lays_label own i.result i.operation fit rest

-- where no text is written, any labels serve
pub constants_back : (k : Numbering) (t : Tree) → Lays (λ c. Fits k c 64 t) (constant k t)
constants_back k t = ends.lays_constant (version_2 [] (λ text. 0)) k (empty.lays_label [] (λ text. 0)) t

pub values_back : (k : Numbering) (t : Tree) → Lays (ValueFits k t) (value k t)
values_back k t = lines.lays_value (version_2 [] (λ text. 0)) k (empty.lays_label [] (λ text. 0)) t

pub endings_back : (k : Numbering) (e : Ending) → EndingFits k e → (rest : List ℕ)
    → (ending k (ending_opcode e)).read (going ((ending k (ending_opcode e)).spell e ++ rest) None) ≡ (e, going rest None)
endings_back k e fit rest = ends.ending_back (version_2 [] (λ text. 0)) k (empty.lays_label [] (λ text. 0)) e fit rest
