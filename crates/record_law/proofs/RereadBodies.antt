-- What is read of a body in a table does not depend on where texts are written.
use Rattle.std.proofs.Common.{◌≡◌, ℕ, zero, suc, ◌-◌, List, [], ◌∷◌, Option, Some, None, Ok, Err, refl, ap, ◌∙◌}
use Rattle.std.specs.Prelude.{nat_eq, if◌then◌else◌}
use Rattle.ir_tables.specs.declared.opcode.Opcode.{Opcode}
use Rattle.ir_tables.specs.declared.opcode.Opcode.TheVariants as op
use Rattle.ir_tables.specs.Opcode.{opcode_of_code}
use Rattle.module_arena.specs.Module.{Bytes, LocalName, Instruction}
use Rattle.record_table.specs.Walk.{Walk, going, stopped, told}
use Rattle.record_table.specs.Layout.{judged}
use Rattle.record_table.specs.Fields.{Texts, Numbering, label, after}
use Rattle.record_table.specs.StringTable.{version_2, read_only}
use Rattle.record_table.specs.Lines.{ending, is_end}
use Rattle.record_table.specs.Faults.{Answer, ◌>>=◌, Records, no_more, a_block, a_record}
use Rattle.record_table.specs.Bodies.{labels_by, parameters, known_or, numbers_from, first_parameters, Labels, with_block, with_line, label_in, labels_from, labels, after_all, Begun, at_first, with_parameters, with_label, with_instruction, with_end, with_opcode, with_record, body_from, body}
use Rattle.record_law.proofs.Rereads.{instruction_read}

-- what goes on alike
pub same_behind : {A B : Type 0} (answer : Answer A) (one other : A → Answer B) → ((x : A) → one x ≡ other x) → (answer >>= one) ≡ (answer >>= other)
same_behind (Ok x) one other same = same x
same_behind (Err fault) one other same = refl

module _ (table : Bytes) (offset_of : Bytes → ℕ) where
  abbrev pub written : Texts
  written = version_2 table offset_of

  abbrev pub reading : Texts
  reading = read_only table

  names_by : (n own : ℕ) (w : Walk) → labels_by written own n w ≡ labels_by reading own n w
  unfolding labels_by
  names_by zero own w = refl
  names_by (suc n) own (stopped broken) = refl
  names_by (suc n) own (going rest broken) =
      let x = (label reading own).read (going rest broken) in
      ap (λ (xs : List LocalName × Walk). (x.0 ∷ xs.0, xs.1)) (names_by n (after own x.0) x.1)

  names_judged : (count : ℕ) (operands : List ℕ) → judged (parameters written count) operands ≡ judged (parameters reading count) operands
  names_judged count operands = ap (λ (x : List LocalName × Walk). (x.0, told x.1)) (names_by count 0 (going operands None))

  first_names : (count : ℕ) (inside : Records) → first_parameters written count inside ≡ first_parameters reading count inside
  first_names count no_more = refl
  first_names count (a_block id inside behind) = first_names count behind
  first_names count (a_record code operands behind) =
      ap (λ (x : List LocalName × Option ℕ). if nat_eq code 1 then known_or count x.0 else numbers_from 0 count) (names_judged count operands)

  module _ (k : Numbering) where
    line_declares : (s : Labels) (operands : List ℕ) (o : Option Opcode) → with_line written k s operands o ≡ with_line reading k s operands o
    line_declares s operands None = refl
    line_declares s operands (Some op.Store) = refl
    line_declares s operands (Some op.Ret) = refl
    line_declares s operands (Some op.Br) = refl
    line_declares s operands (Some op.Switch) = refl
    line_declares s operands (Some op.Unreachable) = refl
    line_declares s [] (Some op.Call) = refl
    line_declares s (t ∷ operands) (Some op.Call) = refl
    line_declares s operands (Some _) = refl

    found_from : (s : Labels) (inside : Records) → labels_from written k s inside ≡ labels_from reading k s inside
    found_from s no_more = refl
    found_from s (a_block id inside behind) = found_from s behind
    found_from s (a_record code operands behind) =
        let next = λ (x : Labels). if nat_eq code 2 then with_block s (label_in reading k s.own operands) else x in
        ap (λ x. labels_from written k (next x) behind) (line_declares s operands (opcode_of_code (code - 10)))
        ∙ found_from (next (with_line reading k s operands (opcode_of_code (code - 10)))) behind

    all_found : (count : ℕ) (inside : Records) → labels written k count inside ≡ labels reading k count inside
    all_found count inside =
        ap (λ names. labels_from written k (record { own = after_all 0 names; values = names; blocks = [] }) inside) (first_names count inside)
        ∙ found_from (record { own = after_all 0 (first_parameters reading count inside); values = first_parameters reading count inside; blocks = [] }) inside

    module _ (count : ℕ) where
      by_opcode : (s : Begun) (code : ℕ) (operands : List ℕ) (o : Option Opcode) → with_opcode written k count s code operands o ≡ with_opcode reading k count s code operands o
      by_opcode s code operands None = refl
      by_opcode s code operands (Some o) =
          ap (λ (read : Walk → Instruction × Walk). if is_end o then with_end s (judged (ending k o) operands) else with_instruction s (let x = read (going operands None) in (x.0, told x.1)))
          (instruction_read table offset_of k s.own o)

      by_code : (s : Begun) (code : ℕ) (operands : List ℕ) → with_record written k count s code operands ≡ with_record reading k count s code operands
      by_code s code operands =
          ap (λ (names : List LocalName × Option ℕ). if nat_eq code 1 then with_parameters s names
          else (if nat_eq code 2 then with_label s (judged (label written s.own) operands) else with_opcode written k count s code operands (opcode_of_code (code - 10))))
          (names_judged count operands)
          ∙ ap (λ line. if nat_eq code 1 then with_parameters s (judged (parameters reading count) operands)
          else (if nat_eq code 2 then with_label s (judged (label reading s.own) operands) else line))
          (by_opcode s code operands (opcode_of_code (code - 10)))

      from_same : (s : Begun) (inside : Records) → body_from written k count s inside ≡ body_from reading k count s inside
      from_same s no_more = refl
      from_same s (a_block id inside behind) = refl
      from_same s (a_record code operands behind) =
          ap (λ (answer : Answer Begun). answer >>= λ t. body_from written k count t behind) (by_code s code operands)
          ∙ same_behind (with_record reading k count s code operands) (λ t. body_from written k count t behind) (λ t. body_from reading k count t behind) (λ t. from_same t behind)

  pub body_read : (k : Numbering) (count at : ℕ) (inside : Records) → body written k count at inside ≡ body reading k count at inside
  body_read k count at inside =
      ap (λ (all : Labels). body_from written (record k { values = all.values; blocks = all.blocks }) count (at_first at) inside) (all_found k count inside)
      ∙ from_same (record k { values = (labels reading k count inside).values; blocks = (labels reading k count inside).blocks }) count (at_first at) inside
