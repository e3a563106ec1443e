-- What refuses a record, or a block, refuses the whole body; and a record by its code.
use Rattle.std.proofs.Common.{◌≡◌, ◌-◌, ℕ, Bool, true, false, cond, List, Option, Some, sym, subst}
use Rattle.std.specs.Prelude.{MatchResult, Result, Ok, Err, nat_eq}
use Rattle.ir_tables.specs.declared.opcode.Opcode.{Opcode}
use Rattle.ir_tables.specs.Opcode.{opcode_of_code}
use Rattle.record_table.specs.Bodies as bodies
use Rattle.record_table.specs.Faults.{Answer, ◌>>=◌, BadRecord, RecordFault, UnknownRecord, is_block_id, misplaced}
use Rattle.record_table.specs.Fields.{Numbering, Texts, label}
use Rattle.record_table.specs.Layout.{judged}
use Rattle.record_table.specs.Lines.{ending, instruction, is_end}
use Rattle.record_read.specs.declared.fault.BitcodeFault.{BitcodeFault}
use Rattle.record_read.specs.declared.fault.BitcodeFault.TheVariants as fault
use Rattle.record_read.specs.Faults.{Answers, IsFault, IsMisplaced, of_records}
use Rattle.body_read.specs.Whole.{IsRefused}

-- a refusal is the one that is told
pub told_so : (f : RecordFault) (g : BitcodeFault) → g ≡ of_records f → IsFault g f
told_so f (fault.Bit b) e = e
told_so f fault.ForeignProducer e = e
told_so f (fault.BadVersion v) e = e
told_so f (fault.UnknownRecord i c) e = e
told_so f (fault.BadRecord i n k) e = e
told_so f fault.Memory e = tt

-- records are refused so whatever is meant by what they stand for
pub refused_so : {B : Type 0} (M : B → bodies.Begun → Type 0) (whole : Answer bodies.Begun) (given : BitcodeFault) → IsRefused whole given → Answers M whole (Err given)
refused_so M (Ok s) given h = h
refused_so M (Err told) given h = h

-- want of memory refuses any records
pub memory_refused : (whole : Answer bodies.Begun) (given : BitcodeFault) → given ≡ fault.Memory → IsRefused whole given
memory_refused (Ok s) given e = e
memory_refused (Err told) given e = subst (λ (g : BitcodeFault). IsFault g told) (sym e) tt

-- a refusal of one record is that of the whole
pub step_refused : {E : Type 0} (N : E → bodies.Begun → Type 0) (whole one : Answer bodies.Begun) (f : bodies.Begun → Answer bodies.Begun) (given : BitcodeFault) → whole ≡ (one >>= f) → Answers N one (Err given)
    → IsRefused whole given
step_refused N whole (Ok u) f given is h = memory_refused whole given h
step_refused N whole (Err told) f given is h = subst (λ (w : Answer bodies.Begun). IsRefused w given) (sym is) h

-- a block where none of its kind may stand is refused so
pub misplaced_so : (id at : ℕ) (given : BitcodeFault) → IsMisplaced id at given → IsRefused (misplaced id at) given
misplaced_so id at given h = by (is_block_id id) h
  where
    by : (b : Bool) → MatchResult (cond {A = Answer (Unit {0})} b (Err (BadRecord id at 5)) (Err (UnknownRecord id 0))) (λ done. ⊥) (λ told. given ≡ of_records told)
        → IsRefused (cond {A = Answer bodies.Begun} b (Err (BadRecord id at 5)) (Err (UnknownRecord id 0))) given
    by true is = told_so (BadRecord id at 5) given is
    by false is = told_so (UnknownRecord id 0) given is

-- ---- a record by its code

module _ {B : Type 0} (M : B → bodies.Begun → Type 0) (texts : Texts) (k : Numbering) (count : ℕ) (s : bodies.Begun) (code : ℕ) (operands : List ℕ) (result : Result B BitcodeFault) where
  pub as_parameters : code ≡ 1 → Answers M (bodies.with_parameters s (judged (bodies.parameters texts count) operands)) result → Answers M (bodies.with_record texts k count s code operands) result
  as_parameters is h = subst (λ c. Answers M (bodies.with_record texts k count s c operands) result) (sym is) h

  pub as_block : code ≡ 2 → Answers M (bodies.with_label s (judged (label texts s.own) operands)) result → Answers M (bodies.with_record texts k count s code operands) result
  as_block is h = subst (λ c. Answers M (bodies.with_record texts k count s c operands) result) (sym is) h

  pub as_opcode : (o : Option Opcode) → nat_eq code 1 ≡ false → nat_eq code 2 ≡ false → opcode_of_code (code - 10) ≡ o → Answers M (bodies.with_opcode texts k count s code operands o) result
      → Answers M (bodies.with_record texts k count s code operands) result
  as_opcode o one two is h = subst (λ a. Answers M a result) (sym same) h
    where
      same : bodies.with_record texts k count s code operands ≡ bodies.with_opcode texts k count s code operands o
      same = λ j.
          cond (one j) (bodies.with_parameters s (judged (bodies.parameters texts count) operands))
          (cond (two j) (bodies.with_label s (judged (label texts s.own) operands)) (bodies.with_opcode texts k count s code operands (is j)))

  -- a line by its opcode
  pub as_end : (o : Opcode) → is_end o ≡ true → Answers M (bodies.with_end s (judged (ending k o) operands)) result → Answers M (bodies.with_opcode texts k count s code operands (Some o)) result
  as_end o end h = subst (λ b. Answers M (cond b (bodies.with_end s (judged (ending k o) operands)) (bodies.with_instruction s (judged (instruction texts k s.own o) operands))) result) (sym end) h

  pub as_instruction : (o : Opcode) → is_end o ≡ false → Answers M (bodies.with_instruction s (judged (instruction texts k s.own o) operands)) result → Answers M (bodies.with_opcode texts k count s code operands (Some o)) result
  as_instruction o line h = subst (λ b. Answers M (cond b (bodies.with_end s (judged (ending k o) operands)) (bodies.with_instruction s (judged (instruction texts k s.own o) operands))) result) (sym line) h
