-- A definition takes bits, so the definitions in front of an entry end.
use Rattle.std.proofs.Common.{◌≡◌, ℕ, ◌+◌, ◌<◌, ◌≤◌, Bool, true, false, length, Option, Some, None, Result, Ok, Err, IfOk, if◌then◌else◌, refl, arith}
use Rattle.bit_stream.specs.Bits.Cursor.{Cursor, Found, ◌>>=◌}
use Rattle.bit_stream.specs.Bits.Reading.{fixed, vbr, align}
use Rattle.bit_stream.specs.declared.bits.fault.BitFault.{BitFault}
use Rattle.bit_stream.specs.declared.bits.fault.BitFaultKind.TheVariants.{BadAbbreviation, NestedTooDeep}
use Rattle.std.specs.Prelude.{nat_le, ◌==◌, ◌&&◌}
use Rattle.bit_stream.specs.Answers.{refuse}
use Rattle.bit_stream.specs.declared.entry.Entry.{Entry}
use Rattle.bit_stream.specs.declared.entry.Entry.TheVariants.{Block, End}
use Rattle.bit_stream.specs.declared.item.TheConstants.{ID_LIMIT}
use Rattle.bit_stream.specs.Abbreviation.{AdmittedAbbreviation}
use Rattle.bit_stream.specs.Definition.{defined_abbreviation}
use Rattle.bit_stream.specs.Record.{ReadRecord, unabbreviated}
use Rattle.bit_stream.specs.Scope.{Scope, abbreviation_of}
use Rattle.bit_stream.specs.Entry.{StreamItem, plain, is_top, is_blockinfo, came, entered, enter_sized, enter_wide, enter_named, enter_block, end_block, define_for, define, by_abbreviation, record_by, inside, item}
use Rattle.bit_stream.proofs.Forward.{Forward, fixed_forward_any, abbreviation_forward}

-- what is found is an entry
record Shown (f : Found StreamItem) : Type 0 where
  is : IfOk f (λ x. x.0.entry ≡ None → ⊥)

-- where a definition is found, fewer bits are left
pub record Progress (c : Cursor) (f : Found StreamItem) : Type 0 where
  pub is : IfOk f (λ x. x.0.entry ≡ None → length x.1.rest < length c.rest)

shown_none : (e : BitFault) → Shown (Err e)
shown_none e = record { is = tt }

shown_entry : (e : Entry) (i : StreamItem) (d : Cursor) → i.entry ≡ Some e → Shown (Ok (i, d))
shown_entry e i d h = record { is = λ none. cc }

shown_if : (b : Bool) (x y : Found StreamItem) → Shown x → Shown y → Shown (if b then x else y)
shown_if true x y h k = h
shown_if false x y h k = k

shown_bind : {A : Type 0} (f : Found A) (g : A → Cursor → Found StreamItem) → ((x : A) (d : Cursor) → Shown (g x d)) → Shown (f >>= g)
shown_bind (Ok x) g h = h x.0 x.1
shown_bind (Err e) g h = shown_none e

enter_sized_shown : (s : Scope) (id width : ℕ) (c : Cursor) → Shown (enter_sized s id width c)
enter_sized_shown s id width c = shown_bind (align c) (λ _ d. fixed 32 d >>= λ words e. Ok (plain (Some (Block id)) (entered s id width d.at words), e)) (λ _ d.
    shown_bind (fixed 32 d) (λ words e. Ok (plain (Some (Block id)) (entered s id width d.at words), e)) (λ words e. shown_entry (Block id) (plain (Some (Block id)) (entered s id width d.at words)) e refl))

enter_wide_shown : (s : Scope) (id bit width : ℕ) (c : Cursor) → Shown (enter_wide s id bit width c)
enter_wide_shown s id bit width c = shown_if _ _ _ (shown_none _) (enter_sized_shown s id width c)

enter_named_shown : (s : Scope) (bit id : ℕ) (c : Cursor) → Shown (enter_named s bit id c)
enter_named_shown s bit id c =
    let deep : Found StreamItem = if length s.around == 16 then Err (record { kind = NestedTooDeep; bit = bit }) else (vbr 4 c >>= λ width d. enter_wide s id c.at width d) in
    let wide : Found StreamItem = refuse bit in
    shown_if (nat_le ID_LIMIT id) wide deep (shown_none (record { kind = BadAbbreviation; bit = bit }))
    (shown_if (length s.around == 16) (Err (record { kind = NestedTooDeep; bit = bit })) (vbr 4 c >>= λ width d. enter_wide s id c.at width d) (shown_none (record { kind = NestedTooDeep; bit = bit }))
    (shown_bind (vbr 4 c) (λ width d. enter_wide s id c.at width d) (λ width d. enter_wide_shown s id c.at width d)))

enter_block_shown : (s : Scope) (c : Cursor) → Shown (enter_block s c)
unfolding enter_block
enter_block_shown s c = shown_bind (vbr 8 c) (λ id d. enter_named s c.at id d) (λ id d. enter_named_shown s c.at id d)

end_block_shown : (s : Scope) (c : Cursor) → Shown (end_block s c)
unfolding end_block
end_block_shown s c = shown_bind (align c) _ (λ _ d. shown_if _ _ _ (shown_entry _ _ d refl) (shown_none _))

came_shown : (r : ReadRecord) (c : Cursor) (s : Result Scope BitFault) → Shown (came r c s)
came_shown r c (Ok s) = shown_entry _ _ c refl
came_shown r c (Err e) = shown_none e

record_by_shown : (id bit : ℕ) (s : Scope) (c : Cursor) → Shown (record_by id bit s c)
unfolding record_by
record_by_shown id bit s c = shown_if _ _ _ (shown_bind (unabbreviated (is_blockinfo s) c) _ (λ r d. came_shown r d _)) (shown_bind (by_abbreviation (abbreviation_of s id) bit (is_blockinfo s) c) _ (λ r d. came_shown r d _))

progress_shown : (c : Cursor) (f : Found StreamItem) → Shown f → Progress c f
progress_shown c (Ok x) h = record { is = λ none. absurd (h.is none) }
progress_shown c (Err e) h = record { is = tt }

progress_if : (c : Cursor) (b : Bool) (x y : Found StreamItem) → Progress c x → Progress c y → Progress c (if b then x else y)
progress_if c true x y h k = h
progress_if c false x y h k = k

-- a definition of at least one bit
taken : (c : Cursor) (f : Found AdmittedAbbreviation) (to : AdmittedAbbreviation → Scope) → Forward 1 c f → Progress c (f >>= λ t d. Ok (plain None (to t), d))
taken c (Ok x) to h = let fewer : length x.1.rest + 1 ≤ length c.rest = h.is in record { is = λ none. omega arith }
taken c (Err e) to h = record { is = tt }

define_for_progress : (id : Option ℕ) (bit : ℕ) (s : Scope) (c : Cursor) → Progress c (define_for id bit s c)
unfolding define_for
define_for_progress None bit s c = record { is = tt }
define_for_progress (Some id) bit s c = taken c (defined_abbreviation c) _ (abbreviation_forward c)

define_progress : (bit : ℕ) (s : Scope) (c : Cursor) → Progress c (define bit s c)
unfolding define
define_progress bit s c = progress_if c _ _ _ (define_for_progress _ bit s c) (taken c (defined_abbreviation c) _ (abbreviation_forward c))

inside_progress : (id bit : ℕ) (s : Scope) (c : Cursor) → Progress c (inside id bit s c)
unfolding inside
inside_progress id bit s c =
    progress_if c (id == 0) (end_block s c) _ (progress_shown c (end_block s c) (end_block_shown s c))
    (progress_if c (id == 1) (if is_blockinfo s then refuse bit else enter_block s c) _ (progress_shown c (if is_blockinfo s then refuse bit else enter_block s c) (shown_if (is_blockinfo s) (refuse bit) (enter_block s c) (shown_none (record { kind = BadAbbreviation; bit = bit })) (enter_block_shown s c)))
    (progress_if c (id == 2) (define bit s c) (record_by id bit s c) (define_progress bit s c) (progress_shown c (record_by id bit s c) (record_by_shown id bit s c))))

behind_field : (c : Cursor) (f : Found ℕ) (g : ℕ → Cursor → Found StreamItem) → Forward 0 c f → ((x : ℕ) (d : Cursor) → Progress d (g x d)) → Progress c (f >>= g)
behind_field c (Ok x) g h k = let ahead : length x.1.rest + 0 ≤ length c.rest = h.is in nearer c x.1 (g x.0 x.1) (omega arith) (k x.0 x.1) where
  nearer : (c d : Cursor) (f : Found StreamItem) → length d.rest ≤ length c.rest → Progress d f → Progress c f
  nearer c d (Ok y) le p = record { is = λ none. let less : length y.1.rest < length d.rest = p.is none in omega arith }
  nearer c d (Err e) le p = record { is = tt }
behind_field c (Err e) g h k = record { is = tt }

item_progress : (s : Scope) (c : Cursor) → Progress c (item s c)
unfolding item
item_progress s c =
    let behind = λ (id : ℕ) (d : Cursor). if is_top s then (if id == 1 then enter_block s d else refuse c.at) else inside id c.at s d in
    let first : Found StreamItem = Ok (plain (Some End) s, c) in
    progress_if c (is_top s && (length c.rest == 0)) first (fixed s.block.width c >>= behind) (progress_shown c first (shown_entry End (plain (Some End) s) c refl)) (behind_field c (fixed s.block.width c) behind (fixed_forward_any s.block.width c) (λ id d.
    progress_if d (is_top s) (if id == 1 then enter_block s d else refuse c.at) (inside id c.at s d) (progress_shown d (if id == 1 then enter_block s d else refuse c.at) (shown_if (id == 1) (enter_block s d) (refuse c.at) (enter_block_shown s d) (shown_none (record { kind = BadAbbreviation; bit = c.at })))) (inside_progress id c.at s d)))

pub fewer_left : (s : Scope) (c d : Cursor) (i : StreamItem) → item s c ≡ Ok (i, d) → i.entry ≡ None → length d.rest < length c.rest
fewer_left s c d i h none = let p = rw h at (item_progress s c) in p.is none
