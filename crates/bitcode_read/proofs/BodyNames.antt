-- What the parameters of a body that is read are called: as its first record says.
use Rattle.std.proofs.Common.{◌≡◌, ◌-◌, ℕ, suc, Bool, true, false, cond, List, [], ◌∷◌, ◌++◌, length, map, zip, Option, Some, None, nat_eq, refl, sym, ap, ◌∙◌, arith, append_assoc, length-append}
use Rattle.std.specs.Prelude.{Ok, slice_index_or}
use Rattle.std.proofs.lemmas.Bool.{false≢true}
use Rattle.ir_tables.specs.declared.opcode.Opcode.{Opcode}
use Rattle.ir_tables.specs.Opcode.{opcode_of_code}
use Rattle.module_arena.specs.declared.entry.LocalName as the_local
use Rattle.module_arena.specs.declared.entry.LocalName.TheVariants as local
use Rattle.module_arena.specs.declared.entry.Parameter as the_parameter
use Rattle.module_arena.specs.Module.{Block, LocalName, Parameter}
use Rattle.record_table.specs.Bodies.{Begun, BodyDue, FirstBlock, Line, NextBlock, Parameters, after_all, at_first, body, body_from, closed_at, is_block, is_line, is_parameters, labels, parameters, results, with_end, with_instruction, with_label, with_names, with_opcode, with_parameters, with_record}
use Rattle.record_table.specs.Faults.{Answer, Records, a_block, a_record, is_block_id, no_more}
use Rattle.record_table.specs.Fields.{Numbering, Texts, after, label}
use Rattle.record_table.specs.Layout.{judged}
use Rattle.record_table.specs.Lines.{ending, instruction, is_end}
use Rattle.record_table.specs.Records.{parameters_of}
use Rattle.record_law.proofs.OnLabels.Kept.{declared}
use Rattle.body_read.specs.Ahead.Ahead.{first_names}
use Rattle.bitcode_read.specs.Ahead.Entries.{name_or_number, parameters_called}
use Rattle.record_law.proofs.OnFormed.Records.{never_misplaced, then_ok}
use Rattle.bitcode_read.proofs.Opened.{same_ok}

-- ---- behind the first record

-- the parameters were read, and stay
record Stays (s t : Begun) : Type 0 where
  same : t.parameters ≡ s.parameters
  later : is_parameters t.due ≡ false

line_later : (d : BodyDue) → is_line d ≡ true → is_parameters d ≡ false
line_later Parameters h = absurd (false≢true h)
line_later FirstBlock h = refl
line_later Line h = refl
line_later NextBlock h = refl

-- the first record names these, and breaks no rule
pub record IsNamed (read : List LocalName × Option ℕ) (names : List LocalName) : Type 0 where
  pub names_are : read.0 ≡ names
  pub unbroken : read.1 ≡ None

module _ (texts : Texts) (k : Numbering) (count : ℕ) where
  stays_label : (s t : Begun) (operands : List ℕ) → with_label s (judged (label texts s.own) operands) ≡ Ok t → Stays s t × (is_block s.due ≡ true)
  stays_label s t operands e =
      let x = judged (label texts s.own) operands in
      let made : Begun = record s { at = suc s.at; due = Line; own = after s.own x.0; taken = with_names s.taken (x.0 ∷ []); name = x.0; instructions = [] } in
      let d = declared s (x.0 ∷ []) (is_block s.due) x.1 made t e in
      (record { same = sym (ap (λ (u : Begun). u.parameters) d.same); later = sym (ap (λ (u : Begun). is_parameters u.due) d.same) }, d.may)

  stays_end : (s t : Begun) (operands : List ℕ) (o : Opcode) → with_end s (judged (ending k o) operands) ≡ Ok t → Stays s t × (is_line s.due ≡ true)
  stays_end s t operands o e =
      let x = judged (ending k o) operands in
      let b : Block = record { name = s.name; instructions = s.instructions; ending = x.0 } in
      let made : Begun = record s { at = suc s.at; due = NextBlock; blocks = s.blocks ++ b ∷ [] } in
      let d = declared s [] (is_line s.due) x.1 made t e in
      (record { same = sym (ap (λ (u : Begun). u.parameters) d.same); later = sym (ap (λ (u : Begun). is_parameters u.due) d.same) }, d.may)

  stays_line : (s t : Begun) (operands : List ℕ) (o : Opcode) → with_instruction s (judged (instruction texts k s.own o) operands) ≡ Ok t → Stays s t × (is_line s.due ≡ true)
  stays_line s t operands o e =
      let x = judged (instruction texts k s.own o) operands in
      let names = results x.0.result in
      let made : Begun = record s { at = suc s.at; own = after_all s.own names; taken = with_names s.taken names; instructions = s.instructions ++ x.0 ∷ [] } in
      let d = declared s names (is_line s.due) x.1 made t e in
      (record { same = sym (ap (λ (u : Begun). u.parameters) d.same); later = sym (ap (λ (u : Begun). is_parameters u.due) d.same) ∙ line_later s.due d.may }, d.may)

  stays_opcode : (s t : Begun) (code : ℕ) (operands : List ℕ) (o : Option Opcode) → with_opcode texts k count s code operands o ≡ Ok t → Stays s t × (is_line s.due ≡ true)
  stays_opcode s t code operands None e = absurd (cc)
  stays_opcode s t code operands (Some o) e = by (is_end o) e
    where
      by : (b : Bool) → cond {A = Answer Begun} b (with_end s (judged (ending k o) operands)) (with_instruction s (judged (instruction texts k s.own o) operands)) ≡ Ok t → Stays s t × (is_line s.due ≡ true)
      by true e = stays_end s t operands o e
      by false e = stays_line s t operands o e

  no_parameters : (s t : Begun) (operands : List ℕ) → is_parameters s.due ≡ false → with_parameters s (judged (parameters texts count) operands) ≡ Ok t → ⊥
  no_parameters s t operands later e =
      let x = judged (parameters texts count) operands in
      let made : Begun = record s { at = suc s.at; due = FirstBlock; own = after_all s.own x.0; taken = with_names s.taken x.0; parameters = x.0 } in
      let d = declared s x.0 (is_parameters s.due) x.1 made t e in
      false≢true (sym later ∙ d.may)

  stays_record : (s t : Begun) (code : ℕ) (operands : List ℕ) → is_parameters s.due ≡ false → with_record texts k count s code operands ≡ Ok t → Stays s t
  stays_record s t code operands later e = by (nat_eq code 1) (nat_eq code 2) e
    where
      by : (a b : Bool) → cond {A = Answer Begun} a (with_parameters s (judged (parameters texts count) operands)) (cond {A = Answer Begun} b (with_label s (judged (label texts s.own) operands)) (with_opcode texts k count s code operands (opcode_of_code (code - 10)))) ≡ Ok t → Stays s t
      by true b e = absurd (no_parameters s t operands later e)
      by false true e = (stays_label s t operands e).0
      by false false e = (stays_opcode s t code operands (opcode_of_code (code - 10)) e).0

  closed_same : (s t : Begun) (d : BodyDue) → closed_at s d ≡ Ok t → t.parameters ≡ s.parameters
  closed_same s t Parameters e = absurd (cc)
  closed_same s t FirstBlock e = absurd (cc)
  closed_same s t Line e = absurd (cc)
  closed_same s t NextBlock e = ap (λ (u : Begun). u.parameters) (sym (same_ok s t (Ok s) refl e))

  stays_all : (s t : Begun) (rest : Records) → is_parameters s.due ≡ false → body_from texts k count s rest ≡ Ok t → t.parameters ≡ s.parameters
  stays_all s t no_more later e = closed_same s t s.due e
  stays_all s t (a_block id inside behind) later e = absurd (never_misplaced id s.at (is_block_id id) t e)
  stays_all s t (a_record code operands behind) later e = by (λ u later e. stays_all u t behind later e)
    where
      by : ((u : Begun) → is_parameters u.due ≡ false → body_from texts k count u behind ≡ Ok t → t.parameters ≡ u.parameters) → t.parameters ≡ s.parameters
      by on =
          let x = then_ok (with_record texts k count s code operands) (λ u. body_from texts k count u behind) t e in
          let st = stays_record s x.0 code operands later x.1.0 in
          on x.0 st.later x.1.1 ∙ st.same

  -- no other record comes first
  only_first : (at : ℕ) (u : Begun) (code : ℕ) (operands : List ℕ) → with_record texts k count (at_first at) code operands ≡ Ok u → nat_eq code 1 ≡ true
  only_first at u code operands e = by (nat_eq code 1) (nat_eq code 2) e
    where
      by : (a b : Bool) → cond {A = Answer Begun} a (with_parameters (at_first at) (judged (parameters texts count) operands)) (cond {A = Answer Begun} b (with_label (at_first at) (judged (label texts 0) operands)) (with_opcode texts k count (at_first at) code operands (opcode_of_code (code - 10)))) ≡ Ok u → a ≡ true
      by true b e = refl
      by false true e = absurd (false≢true (stays_label (at_first at) u operands e).1)
      by false false e = absurd (false≢true (stays_opcode (at_first at) u code operands (opcode_of_code (code - 10)) e).1)

  named_first : (at : ℕ) (t u : Begun) (operands : List ℕ) (behind : Records) → with_parameters (at_first at) (judged (parameters texts count) operands) ≡ Ok u → body_from texts k count u behind ≡ Ok t → IsNamed (judged (parameters texts count) operands) t.parameters
  named_first at t u operands behind one rest =
      let s : Begun = at_first at in
      let x = judged (parameters texts count) operands in
      let made : Begun = record s { at = suc s.at; due = FirstBlock; own = after_all s.own x.0; taken = with_names s.taken x.0; parameters = x.0 } in
      let d = declared s x.0 true x.1 made u one in
      let later : is_parameters u.due ≡ false = sym (ap (λ (v : Begun). is_parameters v.due) d.same) in
      record { names_are = ap (λ (v : Begun). v.parameters) d.same ∙ sym (stays_all u t behind later rest); unbroken = d.unbroken }

  named_record : (at : ℕ) (t u : Begun) (code : ℕ) (operands : List ℕ) (behind : Records) → with_record texts k count (at_first at) code operands ≡ Ok u → body_from texts k count u behind ≡ Ok t → IsNamed (first_names texts count (a_record code operands behind)) t.parameters
  named_record at t u code operands behind one rest = by (nat_eq code 1) (only_first at u code operands one) one
    where
      by : (b : Bool) → b ≡ true
          → cond {A = Answer Begun} b (with_parameters (at_first at) (judged (parameters texts count) operands)) (cond {A = Answer Begun} (nat_eq code 2) (with_label (at_first at) (judged (label texts 0) operands)) (with_opcode texts k count (at_first at) code operands (opcode_of_code (code - 10)))) ≡ Ok u
          → IsNamed (cond {A = List LocalName × Option ℕ} b (judged (parameters texts count) operands) ([], Some 5)) t.parameters
      by true is one = named_first at t u operands behind one rest
      by false is one = absurd (false≢true is)

  -- the first record is that of the parameters
  named_from : (at : ℕ) (t : Begun) (inside : Records) → body_from texts k count (at_first at) inside ≡ Ok t → IsNamed (first_names texts count inside) t.parameters
  named_from at t no_more e = absurd (cc)
  named_from at t (a_block id inside behind) e = absurd (never_misplaced id at (is_block_id id) t e)
  named_from at t (a_record code operands behind) e =
      let x = then_ok (with_record texts k count (at_first at) code operands) (λ u. body_from texts k count u behind) t e in
      named_record at t x.0 code operands behind x.1.0 x.1.1

pub parameters_named : (texts : Texts) (k : Numbering) (count at : ℕ) (inside : Records) (t : Begun) → body texts k count at inside ≡ Ok t → IsNamed (first_names texts count inside) t.parameters
parameters_named texts k count at inside t e = let all = labels texts k count inside in named_from texts (record k { values = all.values; blocks = all.blocks }) count at t inside e

-- ---- the parameters that are declared

behind_front : (front names : List the_local.LocalName) (n : the_local.LocalName) → slice_index_or (front ++ n ∷ names) (length front) (local.Numbered (length front)) ≡ n
behind_front front names n = by front (local.Numbered (length front))
  where
    by : (front : List the_local.LocalName) (d : the_local.LocalName) → slice_index_or (front ++ n ∷ names) (length front) d ≡ n
    by [] d = refl
    by (f ∷ front) d = by front d

called_from : (front names : List the_local.LocalName) (types : List ℕ) (place : ℕ) → place ≡ length front → length types ≡ length names → map (λ (p : the_parameter.Parameter). p.name) (parameters_called (front ++ names) place types) ≡ names
called_from front [] [] place at long = refl
called_from front (n ∷ names) [] place at long = absurd (omega arith)
called_from front [] (t ∷ types) place at long = absurd (omega arith)
called_from front (n ∷ names) (t ∷ types) place at long =
    let here : name_or_number (front ++ n ∷ names) place ≡ n = ap (λ i. name_or_number (front ++ n ∷ names) i) at ∙ behind_front front names n in
    let one : suc place ≡ length (front ++ n ∷ []) = let l = length-append front (n ∷ []) in omega (arith, l) in
    let on = called_from (front ++ n ∷ []) names types (suc place) one (omega arith) in
    let same : front ++ n ∷ names ≡ (front ++ n ∷ []) ++ names = sym (append_assoc front (n ∷ []) names) in
    λ j. here j ∷ (ap (λ (l : List the_local.LocalName). map (λ (p : the_parameter.Parameter). p.name) (parameters_called l (suc place) types)) same ∙ on) j

pub called_names : (names : List the_local.LocalName) (types : List ℕ) → length types ≡ length names → map (λ (p : the_parameter.Parameter). p.name) (parameters_called names 0 types) ≡ names
called_names names types long = called_from [] names types 0 refl long

pub called_long : (names : List the_local.LocalName) (types : List ℕ) (place : ℕ) → length (parameters_called names place types) ≡ length types
called_long names [] place = refl
called_long names (t ∷ types) place = ap suc (called_long names types (suc place))

-- parameters are their types and their names
pub parameters_again : (ps : List Parameter) → ps ≡ parameters_of (zip (map (λ (p : Parameter). p.ty) ps) (map (λ (p : Parameter). p.name) ps))
parameters_again [] = refl
parameters_again (p ∷ ps) = ap (λ (l : List Parameter). p ∷ l) (parameters_again ps)
