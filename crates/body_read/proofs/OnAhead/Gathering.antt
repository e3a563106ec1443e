-- A body as it is gone through ahead: what was gathered so far, and what is to come.
use Rattle.std.proofs.Common.{◌≡◌, ◌+◌, ◌-◌, ◌≤◌, ◌<◌, ℕ, Bool, true, false, cond, List, [], ◌∷◌, Option, Some, None, refl, sym, ap, subst, ◌∙◌, arith, add-zero, lit<}
use Rattle.std.specs.Prelude.{nat_eq, find}
use Rattle.std.proofs.lemmas.Bool.{eqb-true, false_from_ne_true, false≢true}
use Rattle.bit_tree.specs.Pieces.{Piece, ended}
use Rattle.ir_tables.specs.declared.opcode.Opcode.{Opcode}
use Rattle.ir_tables.specs.declared.opcode.Opcode.TheVariants as op
use Rattle.ir_tables.specs.Opcode.{opcode_code, opcode_of_code, opcodes}
use Rattle.module_arena.specs.declared.entry.LocalName as the_local
use Rattle.record_table.specs.Bodies.{parameters}
use Rattle.record_table.specs.Faults.{Records, no_more, a_block, a_record}
use Rattle.record_table.specs.Fields.{Numbering, Texts}
use Rattle.record_table.specs.Layout.{judged}
use Rattle.record_table.specs.Walk.{going}
use Rattle.record_read.specs.Entries.{IsBefore, IsNearer, Gives}
use Rattle.record_read.specs.declared.entry.NextEntry.{NextEntry}
use Rattle.record_read.specs.declared.entry.NextEntry.TheVariants.{Block, Record, End}
use Rattle.record_read.specs.Reader.{Reader}
use Rattle.body_read.specs.declared.ahead.ahead.BodyAhead.{BodyAhead}
use Rattle.body_read.specs.Ahead.Ahead.{AreNamesOf, AreVoids, GathersRecord, IsAhead, NamesBehind, NamesFrom, blocks_of, first_names, gives_of, one_where, values_of}
use Rattle.body_read.proofs.OnAhead.Counted.{blocks_all, blocks_in, values_all, values_in}

-- ---- one record

-- the record of the parameters declares no value
pub parameters_none : (voids : List Bool) (code : ℕ) (operands : List ℕ) → code ≡ 1 → values_of voids code operands ≡ 0
unfolding opcode_of_code
parameters_none voids code operands is = ap (λ c. values_of voids c operands) is

-- the names where this is not the first record, or is not that of the parameters
pub names_stay : (texts : Texts) (count : ℕ) (is_first : Bool) (code : ℕ) (operands : List ℕ) (names : Option (List the_local.LocalName)) → (is_first ≡ true → nat_eq code 1 ≡ true → ⊥) → NamesBehind texts count is_first code operands names names
names_stay texts count false code operands names not = refl
names_stay texts count true code operands names not = by (nat_eq code 1) refl
  where
    by : (b : Bool) → nat_eq code 1 ≡ b → NamesFrom b (judged (parameters texts count) operands) names names
    by true e = absurd (not refl e)
    by false e = refl

-- ---- so far

-- the names: none yet, or those of the first record
abbrev pub NamesSoFar : Texts → ℕ → Records → Records → Bool → Option (List the_local.LocalName) → Type 0
NamesSoFar texts count inside rest true names = (first_names texts count inside ≡ first_names texts count rest) × (names ≡ None)
NamesSoFar texts count inside rest false names = AreNamesOf names (first_names texts count inside)

-- these were gathered, and `rest` is to come
pub record IsGathering (texts : Texts) (count : ℕ) (voids : List Bool) (inside : Records) (others : List Piece) (ahead : BodyAhead) (is_first : Bool) (r : Reader) : Type 0 where
  pub rest : Records
  pub before : IsBefore r.left rest (ended ∷ others)
  pub values : count + values_in voids inside ≡ ahead.counts.values + values_in voids rest
  pub blocks : blocks_in inside ≡ ahead.counts.blocks + blocks_in rest
  pub names : NamesSoFar texts count inside rest is_first ahead.names

-- an entry was given, with what is left
abbrev pub Gone : Reader → NextEntry → Reader → Type 0
Gone old entry new = (new.spent ≡ false) × IsNearer entry old.left new.left × ((all : Records) (others : List Piece) → IsBefore old.left all others → Gives all old entry new others)

pub gone : (old new : Reader) (given entry : NextEntry) → Gone old given new → given ≡ entry → Gone old entry new
gone old new given entry h is = subst (λ x. Gone old x new) is h

pub gathers_none : (texts : Texts) (count : ℕ) (voids : List Bool) (inside : Records) (others : List Piece) (ahead : BodyAhead) (r : Reader) → ahead.counts.values ≡ count → ahead.counts.blocks ≡ 0 → ahead.names ≡ None
    → IsBefore r.left inside (ended ∷ others) → IsGathering texts count voids inside others ahead true r
gathers_none texts count voids inside others ahead r values blocks names before = record {
  rest = inside;
  before = before;
  values = ap (λ n. n + values_in voids inside) (sym values);
  blocks = by (blocks_in inside) ∙ ap (λ n. n + blocks_in inside) (sym blocks);
  names = (refl, names);
}
  where
    by : (n : ℕ) → n ≡ 0 + n
    by n = omega arith

-- a block that was passed over
pub passed : (texts : Texts) (count : ℕ) (voids : List Bool) (inside : Records) (others : List Piece) (ahead : BodyAhead) (is_first : Bool) (r now after : Reader) (id : ℕ) → IsGathering texts count voids inside others ahead is_first r
    → ((all : Records) (rest : List Piece) → IsBefore r.left all rest → Gives all r (Block id) now rest) → ((held : Records) (rest : List Piece) → IsBefore now.left held (ended ∷ rest) → after.left ≡ rest)
    → IsGathering texts count voids inside others ahead is_first after
passed texts count voids inside others ahead is_first r now after id h gives passes = by_rest h.rest h.values h.blocks h.names (gives h.rest (ended ∷ others) h.before)
  where
    by_rest : (rest : Records) → count + values_in voids inside ≡ ahead.counts.values + values_in voids rest → blocks_in inside ≡ ahead.counts.blocks + blocks_in rest → NamesSoFar texts count inside rest is_first ahead.names
        → Gives rest r (Block id) now (ended ∷ others) → IsGathering texts count voids inside others ahead is_first after
    by_rest no_more values blocks names g = absurd g
    by_rest (a_record code operands behind) values blocks names g = absurd g
    by_rest (a_block other held behind) values blocks names g =
        let in_front = g.2 in
        let left : after.left ≡ in_front.pieces = passes held in_front.pieces in_front.inside in
        record { rest = behind; before = subst (λ l. IsBefore l behind (ended ∷ others)) (sym left) in_front.behind; values = values; blocks = blocks; names = names_on is_first names }
      where
        names_on : (first : Bool) → NamesSoFar texts count inside (a_block other held behind) first ahead.names → NamesSoFar texts count inside behind first ahead.names
        names_on true n = n
        names_on false n = n

-- a record that was gathered
pub gathered_one : (texts : Texts) (count : ℕ) (voids : List Bool) (inside : Records) (others : List Piece) (ahead made : BodyAhead) (is_first : Bool) (r now after : Reader) (code : ℕ) → IsGathering texts count voids inside others ahead is_first r
    → ((all : Records) (rest : List Piece) → IsBefore r.left all rest → Gives all r (Record code) now rest)
    → ((operands : List ℕ) → now.walk ≡ going operands None → GathersRecord texts count voids is_first code operands ahead made) → after.left ≡ now.left
    → IsGathering texts count voids inside others made false after
gathered_one texts count voids inside others ahead made is_first r now after code h gives gathers left = by_rest h.rest h.values h.blocks h.names (gives h.rest (ended ∷ others) h.before)
  where
    sum : (a b c : ℕ) → a + (b + c) ≡ (a + b) + c
    sum a b c = omega arith

    by_rest : (rest : Records) → count + values_in voids inside ≡ ahead.counts.values + values_in voids rest → blocks_in inside ≡ ahead.counts.blocks + blocks_in rest → NamesSoFar texts count inside rest is_first ahead.names
        → Gives rest r (Record code) now (ended ∷ others) → IsGathering texts count voids inside others made false after
    by_rest no_more values blocks names g = absurd g
    by_rest (a_block id held behind) values blocks names g = absurd g
    by_rest (a_record other operands behind) values blocks names g =
        let one = gathers operands g.2 in
        record {
          rest = behind;
          before = subst (λ l. IsBefore l behind (ended ∷ others)) (sym left) g.3;
          values = values
              ∙ (ap (λ c. ahead.counts.values + (values_of voids c operands + values_in voids behind)) (sym g.0)
              ∙ (sum ahead.counts.values (values_of voids code operands) (values_in voids behind) ∙ ap (λ n. n + values_in voids behind) (sym one.values)));
          blocks = blocks
              ∙ (ap (λ c. ahead.counts.blocks + (blocks_of c + blocks_in behind)) (sym g.0) ∙ (sum ahead.counts.blocks (blocks_of code) (blocks_in behind) ∙ ap (λ n. n + blocks_in behind) (sym one.blocks)));
          names = names_by is_first names one.names;
        }
      where
        by_code : (b : Bool) → first_names texts count inside ≡ cond b (judged (parameters texts count) operands) ([], Some 5) → ahead.names ≡ None → NamesFrom b (judged (parameters texts count) operands) ahead.names made.names
            → AreNamesOf made.names (first_names texts count inside)
        by_code true is none new = subst (AreNamesOf made.names) (sym is) new
        by_code false is none new = subst (AreNamesOf made.names) (sym is) (subst (λ (n : Option (List the_local.LocalName)). AreNamesOf n ([], Some 5)) (sym (new ∙ none)) (λ e. cc))

        names_by : (first : Bool) → NamesSoFar texts count inside (a_record other operands behind) first ahead.names → NamesBehind texts count first code operands ahead.names made.names → AreNamesOf made.names (first_names texts count inside)
        names_by true old new = by_code (nat_eq code 1) (old.0 ∙ ap (λ c. cond (nat_eq c 1) (judged (parameters texts count) operands) ([], Some 5)) (sym g.0)) old.1 new
        names_by false old new = subst (λ (n : Option (List the_local.LocalName)). AreNamesOf n (first_names texts count inside)) (sym new) old

-- the end of the block
pub gathers_all : (texts : Texts) (count : ℕ) (voids : List Bool) (inside : Records) (others : List Piece) (ahead : BodyAhead) (is_first : Bool) (r now : Reader) → IsGathering texts count voids inside others ahead is_first r
    → ((all : Records) (rest : List Piece) → IsBefore r.left all rest → Gives all r End now rest)
    → ((k : Numbering) → AreVoids voids k → IsAhead texts k count inside ahead) × (now.left ≡ others)
gathers_all texts count voids inside others ahead is_first r now h gives = by_rest h.rest h.values h.blocks h.names (gives h.rest (ended ∷ others) h.before)
  where
    none_left : (n : ℕ) → n + 0 ≡ n
    none_left n = omega arith

    names_by : (first : Bool) → NamesSoFar texts count inside no_more first ahead.names → AreNamesOf ahead.names (first_names texts count inside)
    names_by true names = subst (AreNamesOf ahead.names) (sym names.0) (subst (λ (n : Option (List the_local.LocalName)). AreNamesOf n ([], Some 5)) (sym names.1) (λ e. cc))
    names_by false names = names

    by_rest : (rest : Records) → count + values_in voids inside ≡ ahead.counts.values + values_in voids rest → blocks_in inside ≡ ahead.counts.blocks + blocks_in rest → NamesSoFar texts count inside rest is_first ahead.names
        → Gives rest r End now (ended ∷ others) → ((k : Numbering) → AreVoids voids k → IsAhead texts k count inside ahead) × (now.left ≡ others)
    by_rest no_more values blocks names g = (
      λ k are. record {
        counts = record { values = sym (values_all texts k voids count inside are ∙ (values ∙ none_left ahead.counts.values)); blocks = sym (blocks_all texts k voids count inside are ∙ (blocks ∙ none_left ahead.counts.blocks)) };
        names = names_by is_first names;
      },
      g.1,
    )
    by_rest (a_block id held behind) values blocks names g = absurd g
    by_rest (a_record code operands behind) values blocks names g = absurd g

-- ---- the records that add something

pub block_gathers : (texts : Texts) (count : ℕ) (voids : List Bool) (is_first : Bool) (code : ℕ) (operands : List ℕ) (old new : BodyAhead) → code ≡ 2 → new.counts.values ≡ old.counts.values → new.counts.blocks ≡ old.counts.blocks + 1 → new.names ≡ old.names
    → GathersRecord texts count voids is_first code operands old new
block_gathers texts count voids is_first code operands old new is values blocks names = record {
  values = values ∙ (sym (add-zero old.counts.values) ∙ ap (λ c. old.counts.values + values_of voids c operands) (sym is));
  blocks = blocks ∙ ap (λ c. old.counts.blocks + blocks_of c) (sym is);
  names = subst (NamesBehind texts count is_first code operands old.names) (sym names) (names_stay texts count is_first code operands old.names (λ first e. false≢true (ap (λ c. nat_eq c 1) (sym is) ∙ e)));
}

pub parameters_gather : (texts : Texts) (count : ℕ) (voids : List Bool) (is_first : Bool) (code : ℕ) (operands : List ℕ) (old new : BodyAhead) → code ≡ 1 → is_first ≡ true → new.counts.values ≡ old.counts.values → new.counts.blocks ≡ old.counts.blocks
    → AreNamesOf new.names (judged (parameters texts count) operands) → GathersRecord texts count voids is_first code operands old new
parameters_gather texts count voids is_first code operands old new is first values blocks names = record {
  values = values ∙ (sym (add-zero old.counts.values) ∙ ap (λ n. old.counts.values + n) (sym (parameters_none voids code operands is)));
  blocks = blocks ∙ (sym (add-zero old.counts.blocks) ∙ ap (λ c. old.counts.blocks + blocks_of c) (sym is));
  names = subst (λ f. NamesBehind texts count f code operands old.names new.names) (sym first) (subst (λ c. NamesFrom (nat_eq c 1) (judged (parameters texts count) operands) old.names new.names) (sym is) names);
}

pub line_gathers : (texts : Texts) (count : ℕ) (voids : List Bool) (is_first : Bool) (code : ℕ) (operands : List ℕ) (old new : BodyAhead) (gives : Bool) → (code ≡ 2 → ⊥) → (is_first ≡ true → code ≡ 1 → ⊥)
    → gives ≡ gives_of voids operands (opcode_of_code (code - 10)) → new.counts.values ≡ old.counts.values + one_where gives → new.counts.blocks ≡ old.counts.blocks → new.names ≡ old.names
    → GathersRecord texts count voids is_first code operands old new
line_gathers texts count voids is_first code operands old new gives not_block not_first is values blocks names = record {
  values = values ∙ (ap (λ b. old.counts.values + one_where b) is ∙ ap (λ b. old.counts.values + cond b 0 (one_where (gives_of voids operands (opcode_of_code (code - 10))))) (sym other));
  blocks = blocks ∙ (sym (add-zero old.counts.blocks) ∙ ap (λ b. old.counts.blocks + one_where b) (sym other));
  names = subst (NamesBehind texts count is_first code operands old.names) (sym names) (names_stay texts count is_first code operands old.names (λ first e. not_first first (eqb-true code 1 e)));
}
  where
    other : nat_eq code 2 ≡ false
    other = false_from_ne_true (nat_eq code 2) (λ e. not_block (eqb-true code 2 e))

-- ---- opcodes

codes_small : (o : Opcode) → opcode_code o < 100
codes_small op.Add = lit< tt
codes_small op.Sub = lit< tt
codes_small op.Mul = lit< tt
codes_small op.UDiv = lit< tt
codes_small op.SDiv = lit< tt
codes_small op.URem = lit< tt
codes_small op.SRem = lit< tt
codes_small op.Shl = lit< tt
codes_small op.LShr = lit< tt
codes_small op.AShr = lit< tt
codes_small op.And = lit< tt
codes_small op.Or = lit< tt
codes_small op.Xor = lit< tt
codes_small op.ICmp = lit< tt
codes_small op.Trunc = lit< tt
codes_small op.ZExt = lit< tt
codes_small op.SExt = lit< tt
codes_small op.PtrToInt = lit< tt
codes_small op.IntToPtr = lit< tt
codes_small op.Select = lit< tt
codes_small op.Freeze = lit< tt
codes_small op.Phi = lit< tt
codes_small op.Load = lit< tt
codes_small op.Store = lit< tt
codes_small op.Alloca = lit< tt
codes_small op.GetElementPtr = lit< tt
codes_small op.Call = lit< tt
codes_small op.ExtractValue = lit< tt
codes_small op.InsertValue = lit< tt
codes_small op.Ret = lit< tt
codes_small op.Br = lit< tt
codes_small op.Switch = lit< tt
codes_small op.Unreachable = lit< tt

none_in : (n : ℕ) (os : List Opcode) → 100 ≤ n → find (λ o. nat_eq (opcode_code o) n) os ≡ None
none_in n [] le = refl
none_in n (o ∷ os) le =
    ap (λ b. cond b (Some o) (find (λ p. nat_eq (opcode_code p) n) os)) (false_from_ne_true (nat_eq (opcode_code o) n) (λ e. other (opcode_code o) n (codes_small o) le (eqb-true (opcode_code o) n e))) ∙ none_in n os le
  where
    other : (a b : ℕ) → a < 100 → 100 ≤ b → a ≡ b → ⊥
    other a b small large e = omega arith

-- none has so large a code
pub none_large : (n : ℕ) → 65535 < n → opcode_of_code n ≡ None
unfolding opcode_of_code
none_large n lt = none_in n opcodes (omega arith)

-- nor one that is in front of the lines
pub none_small : (code : ℕ) → code < 10 → opcode_of_code (code - 10) ≡ None
unfolding opcode_of_code
none_small code lt = ap opcode_of_code (zero_of code lt)
  where
    zero_of : (n : ℕ) → n < 10 → n - 10 ≡ 0
    zero_of n lt = omega arith
