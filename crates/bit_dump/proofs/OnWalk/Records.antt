-- Where a record stands, its operands are read one by one.
use Rattle.std.proofs.Common.{◌≡◌, ℕ, ◌≤◌, Bool, true, false, length, Option, Some, None, Ok, Err, if◌then◌else◌, refl, ap, ◌∙◌, arith, inl, inr}
use Rattle.std.specs.Prelude.{◌⊎◌, ◌==◌, ◌^◌, ◌&&◌, ◌||◌, nat_le, nat_lt}
use Rattle.std.proofs.lemmas.Bool.{cases_Bool, eqb-false}
use Rattle.bit_stream.specs.Bits.Cursor.{Cursor, Found, ◌>>=◌}
use Rattle.bit_stream.specs.Bits.Reading.{fixed, vbr, align}
use Rattle.bit_stream.specs.declared.bits.fault.BitFault.{BitFault}
use Rattle.bit_stream.specs.declared.bits.fault.BitFaultKind.TheVariants.{BadAbbreviation, NestedTooDeep}
use Rattle.bit_stream.specs.declared.entry.Entry.{Entry}
use Rattle.bit_stream.specs.declared.entry.Entry.TheVariants.{Block, EndBlock, Record, End}
use Rattle.bit_stream.specs.Abbreviation.{AdmittedAbbreviation}
use Rattle.bit_stream.specs.Answers.{refuse}
use Rattle.bit_stream.specs.Definition.{defined_abbreviation}
use Rattle.bit_stream.specs.Scope.{Scope, abbreviation_of}
use Rattle.bit_stream.specs.Entry.{StreamItem, plain, is_top, is_blockinfo, entered, block_left, enter_sized, enter_wide, enter_named, enter_block, end_block, define_for, define, record_by, inside, item, id_at}
use Rattle.bit_dump.specs.Walk.Values.{operands_at, Leaves}
use Rattle.bit_dump.proofs.OnWalk.Operands.{bound, found_parts, record_left}

-- what stands behind a test that may refuse
past : {A : Type 0} (b : Bool) (fault : BitFault) (x : Found A) (y : A) (e : Cursor) → (if b then Err fault else x) ≡ Ok (y, e) → x ≡ Ok (y, e)
past true fault x y e h = absurd (cc)
past false fault x y e h = h

passed : {A : Type 0} (b : Bool) (fault : BitFault) (x : Found A) (y : A) (e : Cursor) → (if b then x else Err fault) ≡ Ok (y, e) → x ≡ Ok (y, e)
passed true fault x y e h = h
passed false fault x y e h = absurd (cc)

-- an entry of another kind is no record
abbrev is_record : Entry → Bool
is_record (Block id) = false
is_record EndBlock = false
is_record (Record code) = true
is_record End = false

never_record : (e : Entry) (code : ℕ) → Some e ≡ Some (Record code) → is_record e ≡ false → ⊥
never_record (Block id) code h none = absurd (cc)
never_record EndBlock code h none = absurd (cc)
never_record (Record other) code h none = absurd (cc)
never_record End code h none = absurd (cc)

never_some : (code : ℕ) → let one : Option Entry = None in one ≡ Some (Record code) → ⊥
never_some code h = absurd (cc)

sized_entry : (s : Scope) (id width : ℕ) (c d : Cursor) (i : StreamItem) (code : ℕ) → enter_sized s id width c ≡ Ok (i, d) → i.entry ≡ Some (Record code) → ⊥
sized_entry s id width c d i code h is =
    let place = bound (align c) (λ _ e. fixed 32 e >>= λ words f. Ok (plain (Some (Block id)) (entered s id width e.at words), f)) i d h in
    let words = bound (fixed 32 place.1) (λ words f. Ok (plain (Some (Block id)) (entered s id width place.1.at words), f)) i d place.3 in
    let last = found_parts (plain (Some (Block id)) (entered s id width place.1.at words.0)) i words.1 d words.3 in
    let entry : Some (Block id) ≡ i.entry = ap (λ (x : StreamItem). x.entry) last.0 in
    never_record (Block id) code (entry ∙ is) refl

wide_entry : (s : Scope) (id bit width : ℕ) (c d : Cursor) (i : StreamItem) (code : ℕ) → enter_wide s id bit width c ≡ Ok (i, d) → i.entry ≡ Some (Record code) → ⊥
wide_entry s id bit width c d i code h is = sized_entry s id width c d i code (past (nat_lt width 2 || nat_lt 32 width) (record { kind = BadAbbreviation; bit = bit }) (enter_sized s id width c) i d h) is

named_entry : (s : Scope) (bit id : ℕ) (c d : Cursor) (i : StreamItem) (code : ℕ) → enter_named s bit id c ≡ Ok (i, d) → i.entry ≡ Some (Record code) → ⊥
named_entry s bit id c d i code h is =
    let wide : Found StreamItem = vbr 4 c >>= λ width e. enter_wide s id c.at width e in
    let deep : Found StreamItem = if length s.around == 16 then Err (record { kind = NestedTooDeep; bit = bit }) else wide in
    let shallow = past (length s.around == 16) (record { kind = NestedTooDeep; bit = bit }) wide i d (past (nat_le (2 ^ 32) id) (record { kind = BadAbbreviation; bit = bit }) deep i d h) in
    let width = bound (vbr 4 c) (λ width e. enter_wide s id c.at width e) i d shallow in
    wide_entry s id c.at width.0 width.1 d i code width.3 is

entered_entry : (s : Scope) (c d : Cursor) (i : StreamItem) (code : ℕ) → enter_block s c ≡ Ok (i, d) → i.entry ≡ Some (Record code) → ⊥
unfolding enter_block
entered_entry s c d i code h is =
    let id = bound (vbr 8 c) (λ id e. enter_named s c.at id e) i d h in
    named_entry s c.at id.0 id.1 d i code id.3 is

ended_entry : (s : Scope) (c d : Cursor) (i : StreamItem) (code : ℕ) → end_block s c ≡ Ok (i, d) → i.entry ≡ Some (Record code) → ⊥
unfolding end_block
ended_entry s c d i code h is =
    let place = bound (align c) _ i d h in
    let last = found_parts (plain (Some EndBlock) (block_left s)) i place.1 d (passed _ _ (Ok (plain (Some EndBlock) (block_left s), place.1)) i d place.3) in
    let entry : Some EndBlock ≡ i.entry = ap (λ (x : StreamItem). x.entry) last.0 in
    never_record EndBlock code (entry ∙ is) refl

definition_entry : (c d : Cursor) (to : AdmittedAbbreviation → Scope) (i : StreamItem) (code : ℕ) → (defined_abbreviation c >>= λ t e. Ok (plain None (to t), e)) ≡ Ok (i, d) → i.entry ≡ Some (Record code) → ⊥
definition_entry c d to i code h is =
    let def = bound (defined_abbreviation c) (λ t e. Ok (plain None (to t), e)) i d h in
    let last = found_parts (plain None (to def.0)) i def.1 d def.3 in
    let entry : None ≡ i.entry = ap (λ (x : StreamItem). x.entry) last.0 in
    never_some code (entry ∙ is)

defined_for_entry : (id : Option ℕ) (bit : ℕ) (s : Scope) (c d : Cursor) (i : StreamItem) (code : ℕ) → define_for id bit s c ≡ Ok (i, d) → i.entry ≡ Some (Record code) → ⊥
unfolding define_for
defined_for_entry None bit s c d i code h is = absurd (cc)
defined_for_entry (Some id) bit s c d i code h is = definition_entry c d _ i code h is

defined_entry : (bit : ℕ) (s : Scope) (c d : Cursor) (i : StreamItem) (code : ℕ) → define bit s c ≡ Ok (i, d) → i.entry ≡ Some (Record code) → ⊥
unfolding define
defined_entry bit s c d i code h is = elim (cases_Bool (is_blockinfo s)) [
  | inl info ↦ defined_for_entry s.block.target bit s c d i code (rw info at h) is
  | inr other ↦ definition_entry c d _ i code (rw other at h) is
]

record_inside : (id bit : ℕ) (s : Scope) (c d : Cursor) (i : StreamItem) (code : ℕ) → inside id bit s c ≡ Ok (i, d) → i.entry ≡ Some (Record code) → (3 ≤ id) × (record_by id bit s c ≡ Ok (i, d))
unfolding inside
record_inside id bit s c d i code h is = elim (cases_Bool (id == 0)) [
  | inl zero ↦ absurd (ended_entry s c d i code (rw zero at h) is)
  | inr some ↦ elim (cases_Bool (id == 1)) [
    | inl one ↦ absurd (entered_entry s c d i code (past (is_blockinfo s) _ (enter_block s c) i d (rw (some, one) at h)) is)
    | inr more ↦ elim (cases_Bool (id == 2)) [
      | inl two ↦ absurd (defined_entry bit s c d i code (rw (some, more, two) at h) is)
      | inr rest ↦
          let far : 3 ≤ id = omega (arith, eqb-false id 0 some, eqb-false id 1 more, eqb-false id 2 rest) in
          (far, rw (some, more, rest) at h)
    ]
  ]
]

-- one of two readings was taken
taken : {A : Type 0} (b : Bool) (x y : Found A) (z : A) (e : Cursor) → (if b then x else y) ≡ Ok (z, e) → (x ≡ Ok (z, e)) ⊎ (y ≡ Ok (z, e))
taken true x y z e h = inl h
taken false x y z e h = inr h

-- what stands behind an abbreviation id
record Behind (s : Scope) (c d : Cursor) (i : StreamItem) : Type 0 where
  id : ℕ
  place : Cursor
  reads : fixed s.block.width c ≡ Ok (id, place)
  low : 3 ≤ id
  stands : record_by id c.at s place ≡ Ok (i, d)

behind_id : (s : Scope) (c d e : Cursor) (i : StreamItem) (code id : ℕ) → fixed s.block.width c ≡ Ok (id, e) → i.entry ≡ Some (Record code) → (if is_top s then (if id == 1 then enter_block s e else refuse c.at) else inside id c.at s e) ≡ Ok (i, d) → Behind s c d i
behind_id s c d e i code id read is h = elim (taken (is_top s) (if id == 1 then enter_block s e else refuse c.at) (inside id c.at s e) i d h) [
  | inl top ↦ absurd (entered_entry s e d i code (passed (id == 1) _ (enter_block s e) i d top) is)
  | inr within ↦ let there = record_inside id c.at s e d i code within is in record { id = id; place = e; reads = read; low = there.0; stands = there.1 }
]

record_behind : (s : Scope) (c d : Cursor) (i : StreamItem) (code : ℕ) → item s c ≡ Ok (i, d) → i.entry ≡ Some (Record code) → Behind s c d i
unfolding item
record_behind s c d i code h is =
    let behind = λ (id : ℕ) (e : Cursor). if is_top s then (if id == 1 then enter_block s e else refuse c.at) else inside id c.at s e in
    elim (taken (is_top s && (length c.rest == 0)) (Ok (plain (Some End) s, c)) (fixed s.block.width c >>= behind) i d h) [
      | inl end ↦
          let last = found_parts (plain (Some End) s) i c d end in
          let entry : Some End ≡ i.entry = ap (λ (x : StreamItem). x.entry) last.0 in
          absurd (never_record End code (entry ∙ is) refl)
      | inr more ↦
          let first = bound (fixed s.block.width c) behind i d more in
          behind_id s c d first.1 i code first.0 first.2 is first.3
    ]

-- by the abbreviation of its id, or without one
pub operands_left : (s : Scope) (c d : Cursor) (i : StreamItem) (code : ℕ) (t : AdmittedAbbreviation) → item s c ≡ Ok (i, d) → i.entry ≡ Some (Record code) → (4 ≤ id_at s c → abbreviation_of s (id_at s c) ≡ Some t) → Leaves (operands_at s.block.width t c) i.operands
unfolding operands_at id_at
operands_left s c d i code t h is by =
    let there = record_behind s c d i code h is in
    let of_id : 4 ≤ there.id → abbreviation_of s there.id ≡ Some t = rw there.reads at by in
    let left = record_left there.id c.at s t there.place d i there.low of_id there.stands in
    (left.0, rw there.reads left.1)
