-- How many values and blocks the labels of a body are.
use Rattle.std.proofs.Common.{◌≡◌, ◌+◌, ◌-◌, ℕ, zero, suc, Bool, true, false, not, cond, List, [], ◌∷◌, Option, Some, None, length, map, get_or, slice_get, refl, sym, ap, ◌∙◌, arith, add-zero, zero-add}
use Rattle.std.specs.Prelude.{nat_eq}
use Rattle.std.specs.Option.{option_map_or}
use Rattle.std.proofs.lemmas.Bool.{eqb-true}
use Rattle.std.proofs.lemmas.List.{length_push}
use Rattle.ir_tables.specs.declared.opcode.Opcode.{Opcode}
use Rattle.ir_tables.specs.declared.opcode.Opcode.TheVariants as op
use Rattle.ir_tables.specs.Opcode.{opcode_of_code}
use Rattle.type_table.specs.Tree.{Tree, void}
use Rattle.module_arena.specs.Module.{LocalName}
use Rattle.module_arena.specs.TypeTests.{is_void}
use Rattle.record_table.specs.Bodies.{Labels, after_all, first_parameters, known_or, label_in, labels, labels_from, numbers_from, parameters, with_block, with_line, with_value}
use Rattle.record_table.specs.Faults.{Records, no_more, a_block, a_record}
use Rattle.record_table.specs.Fields.{Numbering, Texts}
use Rattle.record_table.specs.Layout.{judged}
use Rattle.body_read.specs.Ahead.Ahead.{AreVoids, blocks_of, gives_of, gives_value, gives_where, one_where, values_of}

-- how many values and blocks these records declare
abbrev pub values_in : List Bool → Records → ℕ
values_in voids no_more = 0
values_in voids (a_block id inside behind) = values_in voids behind
values_in voids (a_record code operands behind) = values_of voids code operands + values_in voids behind

abbrev pub blocks_in : Records → ℕ
blocks_in no_more = 0
blocks_in (a_block id inside behind) = blocks_in behind
blocks_in (a_record code operands behind) = blocks_of code + blocks_in behind

void_at : (ts : List Tree) (i : ℕ) → option_map_or not (slice_get (map is_void ts) i) false ≡ not (is_void (get_or ts i void))
void_at [] i = refl
void_at (t ∷ ts) zero = refl
void_at (t ∷ ts) (suc i) = void_at ts i

module _ (texts : Texts) (k : Numbering) (voids : List Bool) (are : AreVoids voids k) where
  given_at : (t : ℕ) → gives_where voids t ≡ not (is_void (get_or k.types t void))
  given_at t = ap (λ (vs : List Bool). option_map_or not (slice_get vs t) false) (sym are) ∙ void_at k.types t

  call_many : (s : Labels) (operands : List ℕ) → length (with_line texts k s operands (Some op.Call)).values ≡ length s.values + one_where (gives_value voids operands)
  call_many s [] = omega arith
  call_many s (t ∷ operands) = by (is_void (get_or k.types t void)) ∙ ap (λ b. length s.values + one_where b) (sym (given_at t))
    where
      by : (v : Bool) → length (cond v s (with_value s (label_in texts k s.own operands))).values ≡ length s.values + one_where (not v)
      by true = omega arith
      by false = length_push s.values (label_in texts k s.own operands)

  line_many : (s : Labels) (operands : List ℕ) (o : Option Opcode) → length (with_line texts k s operands o).values ≡ length s.values + one_where (gives_of voids operands o)
  line_many s operands None = omega arith
  line_many s operands (Some op.Store) = omega arith
  line_many s operands (Some op.Ret) = omega arith
  line_many s operands (Some op.Br) = omega arith
  line_many s operands (Some op.Switch) = omega arith
  line_many s operands (Some op.Unreachable) = omega arith
  line_many s operands (Some op.Call) = call_many s operands
  line_many s operands (Some _) = length_push s.values (label_in texts k s.own operands)

  line_blocks : (s : Labels) (operands : List ℕ) (o : Option Opcode) → (with_line texts k s operands o).blocks ≡ s.blocks
  line_blocks s operands None = refl
  line_blocks s operands (Some op.Store) = refl
  line_blocks s operands (Some op.Ret) = refl
  line_blocks s operands (Some op.Br) = refl
  line_blocks s operands (Some op.Switch) = refl
  line_blocks s operands (Some op.Unreachable) = refl
  line_blocks s [] (Some op.Call) = refl
  line_blocks s (t ∷ operands) (Some op.Call) = by (is_void (get_or k.types t void))
    where
      by : (v : Bool) → (cond v s (with_value s (label_in texts k s.own operands))).blocks ≡ s.blocks
      by true = refl
      by false = refl
  line_blocks s operands (Some _) = refl

  one_many : (s : Labels) (operands : List ℕ) (b : Bool) (o : Option Opcode)
      → length (cond b (with_block s (label_in texts k s.own operands)) (with_line texts k s operands o)).values ≡ length s.values + cond b 0 (one_where (gives_of voids operands o))
  one_many s operands true o = omega arith
  one_many s operands false o = line_many s operands o

  one_blocks : (s : Labels) (operands : List ℕ) (b : Bool) (o : Option Opcode)
      → length (cond b (with_block s (label_in texts k s.own operands)) (with_line texts k s operands o)).blocks ≡ length s.blocks + one_where b
  one_blocks s operands true o = length_push s.blocks (label_in texts k s.own operands)
  one_blocks s operands false o = ap length (line_blocks s operands o) ∙ sym (add-zero (length s.blocks))

  -- behind these labels so many values and blocks are to come
  values_from : (s : Labels) (rest : Records) → length (labels_from texts k s rest).values ≡ length s.values + values_in voids rest
  values_from s no_more = omega arith
  values_from s (a_block id inside behind) = values_from s behind
  values_from s (a_record code operands behind) =
      let one = one_many s operands (nat_eq code 2) (opcode_of_code (code - 10)) in
      let rest = values_from (cond (nat_eq code 2) (with_block s (label_in texts k s.own operands)) (with_line texts k s operands (opcode_of_code (code - 10)))) behind in
      rest ∙ (ap (λ n. n + values_in voids behind) one ∙ sum (length s.values) (values_of voids code operands) (values_in voids behind))
    where
      sum : (a b c : ℕ) → (a + b) + c ≡ a + (b + c)
      sum a b c = omega arith

  blocks_from : (s : Labels) (rest : Records) → length (labels_from texts k s rest).blocks ≡ length s.blocks + blocks_in rest
  blocks_from s no_more = omega arith
  blocks_from s (a_block id inside behind) = blocks_from s behind
  blocks_from s (a_record code operands behind) =
      let one = one_blocks s operands (nat_eq code 2) (opcode_of_code (code - 10)) in
      let rest = blocks_from (cond (nat_eq code 2) (with_block s (label_in texts k s.own operands)) (with_line texts k s operands (opcode_of_code (code - 10)))) behind in
      rest ∙ (ap (λ n. n + blocks_in behind) one ∙ sum (length s.blocks) (blocks_of code) (blocks_in behind))
    where
      sum : (a b c : ℕ) → (a + b) + c ≡ a + (b + c)
      sum a b c = omega arith

numbers_many : (own count : ℕ) → length (numbers_from own count) ≡ count
unfolding numbers_from
numbers_many own zero = refl
numbers_many own (suc count) = ap suc (numbers_many (suc own) count)

known_many : (count : ℕ) (names : List LocalName) → length (known_or count names) ≡ count
known_many count names = by (nat_eq (length names) count) refl
  where
    by : (b : Bool) → nat_eq (length names) count ≡ b → length (cond b names (numbers_from 0 count)) ≡ count
    by true e = eqb-true (length names) count e
    by false e = numbers_many 0 count

first_many : (texts : Texts) (count : ℕ) (inside : Records) → length (first_parameters texts count inside) ≡ count
first_many texts count no_more = numbers_many 0 count
first_many texts count (a_block id inside behind) = first_many texts count behind
first_many texts count (a_record code operands behind) = by (nat_eq code 1)
  where
    by : (b : Bool) → length (cond b (known_or count (judged (parameters texts count) operands).0) (numbers_from 0 count)) ≡ count
    by true = known_many count (judged (parameters texts count) operands).0
    by false = numbers_many 0 count

-- so many values and blocks has a body
pub values_all : (texts : Texts) (k : Numbering) (voids : List Bool) (count : ℕ) (inside : Records) → AreVoids voids k → length (labels texts k count inside).values ≡ count + values_in voids inside
values_all texts k voids count inside are =
    let names = first_parameters texts count inside in
    values_from texts k voids are (record { own = after_all 0 names; values = names; blocks = [] }) inside ∙ ap (λ n. n + values_in voids inside) (first_many texts count inside)

pub blocks_all : (texts : Texts) (k : Numbering) (voids : List Bool) (count : ℕ) (inside : Records) → AreVoids voids k → length (labels texts k count inside).blocks ≡ blocks_in inside
blocks_all texts k voids count inside are =
    let names = first_parameters texts count inside in
    blocks_from texts k voids are (record { own = after_all 0 names; values = names; blocks = [] }) inside ∙ zero-add (blocks_in inside)
