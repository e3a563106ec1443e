-- What an item leaves: which blocks are unclosed behind it, and fewer bits.
use Rattle.std.proofs.Common.{◌≡◌, ℕ, zero, suc, ◌+◌, ◌-◌, ◌<◌, ◌≤◌, ◌==◌, ◌&&◌, ◌||◌, Bool, true, false, List, [], ◌∷◌, ◌++◌, length, Option, Some, None, Result, Ok, Err, IfOk, if◌then◌else◌, refl, arith, inl, inr, length-append}
use Rattle.std.specs.Prelude.{nat_lt, nat_le, slice_index_or, ◌^◌, ◌⊎◌}
use Rattle.std.specs.List.{AllByRecursion}
use Rattle.std.proofs.lemmas.Bool.{ltb-false, eqb-true, eqb-false, cases_Bool, and_parts}
use Rattle.std.proofs.lemmas.List.{length-take-le}
use Rattle.bit_stream.specs.Bits.Cursor.{Cursor, Found, ◌>>=◌}
use Rattle.bit_stream.specs.Bits.Reading.{fixed, vbr, align}
use Rattle.bit_stream.specs.declared.bits.fault.BitFault.{BitFault}
use Rattle.bit_stream.specs.declared.bits.fault.BitFaultKind.TheVariants.{BadBlockLength, NestedTooDeep}
use Rattle.bit_stream.specs.Answers.{refuse}
use Rattle.bit_stream.specs.declared.entry.Entry.{Entry}
use Rattle.bit_stream.specs.declared.entry.Entry.TheVariants.{Block, EndBlock, Record, End}
use Rattle.bit_stream.specs.Abbreviation.{AdmittedAbbreviation}
use Rattle.bit_stream.specs.Definition.{defined_abbreviation}
use Rattle.bit_stream.specs.Record.{ReadRecord, unabbreviated}
use Rattle.bit_stream.specs.Scope.{Scope, BlockFrame, top_level, abbreviation_of}
use Rattle.bit_stream.specs.Entry.{StreamItem, plain, is_top, is_blockinfo, came, entered, block_left, defined, given_for, enter_sized, enter_wide, enter_named, enter_block, words_since, end_block, define_for, define, with_target, recorded, by_abbreviation, record_by, inside, item, defined_at}
use Rattle.bit_stream.specs.Writer.{in_force}
use Rattle.bit_stream.proofs.ReadBack.{all_take}
use Rattle.bit_tree.proofs.Numbered.{in_force_given, in_force_defined}
use Rattle.bit_stream.proofs.Forward.{Forward, forward_none, fixed_forward_any, fixed_forward, vbr_forward, abbreviation_forward}
use Rattle.bit_tree.proofs.Ahead.{align_forward, unabbreviated_forward, abbreviated_forward}

-- an abbreviation id has at least one bit, in each unclosed block
pub record IsWide (s : Scope) : Type 0 where
  pub own : 1 ≤ s.block.width
  pub around : AllByRecursion (λ (f : BlockFrame). 1 ≤ f.width) s.around

pub top_wide : IsWide top_level
top_wide = record { own = omega arith; around = tt }

all_with : {X : Type 0} (P : X → Type 0) (xs : List X) (x : X) → AllByRecursion P xs → P x → AllByRecursion P (xs ++ x ∷ [])
all_with P [] x h p = (p, tt)
all_with P (y ∷ ys) x h p = (h.0, all_with P ys x h.1 p)

all_at : {X : Type 0} (P : X → Type 0) (xs : List X) (k : ℕ) (d : X) → AllByRecursion P xs → P d → P (slice_index_or xs k d)
all_at P [] k d h p = p
all_at P (x ∷ xs) zero d h p = h.0
all_at P (x ∷ xs) (suc k) d h p = all_at P xs k d h.1 p

-- how many blocks are unclosed behind an entry or a definition
abbrev pub depths : ℕ → Option Entry → ℕ → Type 0
depths k None m = m ≡ k
depths k (Some (Block id)) m = m ≡ suc k
depths k (Some EndBlock) m = k ≡ suc m
depths k (Some (Record code)) m = m ≡ k
depths k (Some End) m = ⊥

-- whether it holds operands
abbrev pub is_record : Option Entry → Bool
is_record None = false
is_record (Some (Block id)) = false
is_record (Some EndBlock) = false
is_record (Some (Record code)) = true
is_record (Some End) = false

-- what was found behind an abbreviation id, and, where it is a definition, its abbreviation
pub record Leaves (s : Scope) (c : Cursor) (defined : Found AdmittedAbbreviation) (i : StreamItem) (d : Cursor) : Type 0 where
  pub depth : depths (length s.around) i.entry (length i.scope.around)
  pub wide : IsWide i.scope
  pub ahead : length d.rest ≤ length c.rest
  pub abbreviation : i.entry ≡ None → (t : AdmittedAbbreviation) × (defined ≡ Ok (t, d))
  pub next : i.entry ≡ None → in_force i.scope ≡ in_force s + 1
  pub bare : is_record i.entry ≡ false → (i.operands ≡ []) × (i.blob ≡ [])

record Leads (s : Scope) (c : Cursor) (t : Found AdmittedAbbreviation) (f : Found StreamItem) : Type 0 where
  is : IfOk f (λ x. Leaves s c t x.0 x.1)

refused : (s : Scope) (c : Cursor) (t : Found AdmittedAbbreviation) (e : BitFault) → Leads s c t (Err e)
refused s c t e = record { is = tt }

on_test : (s : Scope) (c : Cursor) (t : Found AdmittedAbbreviation) (b : Bool) (x y : Found StreamItem) → (b ≡ true → Leads s c t x) → (b ≡ false → Leads s c t y) → Leads s c t (if b then x else y)
on_test s c t true x y h k = h refl
on_test s c t false x y h k = k refl

nearer : (s : Scope) (c d : Cursor) (t : Found AdmittedAbbreviation) (f : Found StreamItem) → length d.rest ≤ length c.rest → Leads s d t f → Leads s c t f
nearer s c d t (Ok x) le h = let all : Leaves s d t x.0 x.1 = h.is in record { is = record { depth = all.depth; wide = all.wide; ahead = omega (arith, all.ahead); abbreviation = all.abbreviation; next = all.next; bare = all.bare } }
nearer s c d t (Err e) le h = refused s c t e

behind : {A : Type 0} (s : Scope) (c : Cursor) (t : Found AdmittedAbbreviation) (f : Found A) (g : A → Cursor → Found StreamItem) → Forward 0 c f → ((x : A) (d : Cursor) → Leads s d t (g x d)) → Leads s c t (f >>= g)
behind s c t (Ok x) g h k = let ahead : length x.1.rest + 0 ≤ length c.rest = h.is in nearer s c x.1 t (g x.0 x.1) (omega arith) (k x.0 x.1)
behind s c t (Err e) g h k = refused s c t e

entered_leaves : (s : Scope) (c : Cursor) (t : Found AdmittedAbbreviation) (id width bit words : ℕ) → IsWide s → 1 ≤ width → Leaves s c t (plain (Some (Block id)) (entered s id width bit words)) c
entered_leaves s c t id width bit words wide low = record {
  depth = omega (arith, length-append s.around (s.block ∷ []));
  wide = record { own = low; around = all_with (λ (f : BlockFrame). 1 ≤ f.width) s.around s.block wide.around wide.own };
  ahead = omega arith;
  abbreviation = λ no. absurd (cc);
  next = λ no. absurd (cc);
  bare = λ _. (refl, refl);
}

enter_sized_leaves : (s : Scope) (t : Found AdmittedAbbreviation) (id width : ℕ) (c : Cursor) → IsWide s → 1 ≤ width → Leads s c t (enter_sized s id width c)
enter_sized_leaves s t id width c wide low = behind s c t (align c) (λ _ d. fixed 32 d >>= λ words e. Ok (plain (Some (Block id)) (entered s id width d.at words), e)) (align_forward c) (λ _ d.
    behind s d t (fixed 32 d) (λ words e. Ok (plain (Some (Block id)) (entered s id width d.at words), e)) (fixed_forward_any 32 d) (λ words e. record { is = entered_leaves s e t id width d.at words wide low }))

not_low : (width : ℕ) → nat_lt width 2 || nat_lt 32 width ≡ false → 1 ≤ width
not_low width h = elim (cases_Bool (nat_lt width 2)) [
  | inl low ↦ absurd (cc)
  | inr high ↦ omega (arith, ltb-false width 2 high)
]

enter_wide_leaves : (s : Scope) (t : Found AdmittedAbbreviation) (id bit width : ℕ) (c : Cursor) → IsWide s → Leads s c t (enter_wide s id bit width c)
enter_wide_leaves s t id bit width c wide = on_test s c t (nat_lt width 2 || nat_lt 32 width) (refuse bit) (enter_sized s id width c) (λ _. refused s c t _) (λ ok. enter_sized_leaves s t id width c wide (not_low width ok))

enter_named_leaves : (s : Scope) (t : Found AdmittedAbbreviation) (bit id : ℕ) (c : Cursor) → IsWide s → Leads s c t (enter_named s bit id c)
enter_named_leaves s t bit id c wide =
    let deep : Found StreamItem = if length s.around == 16 then Err (record { kind = NestedTooDeep; bit = bit }) else (vbr 4 c >>= λ width d. enter_wide s id c.at width d) in
    on_test s c t (nat_le (2 ^ 32) id) (refuse bit) deep (λ _. refused s c t _) (λ _.
    on_test s c t (length s.around == 16) (Err (record { kind = NestedTooDeep; bit = bit })) (vbr 4 c >>= λ width d. enter_wide s id c.at width d) (λ _. refused s c t _) (λ _.
    behind s c t (vbr 4 c) (λ width d. enter_wide s id c.at width d) (vbr_forward 4 c) (λ width d. enter_wide_leaves s t id c.at width d wide)))

enter_block_leaves : (s : Scope) (t : Found AdmittedAbbreviation) (c : Cursor) → IsWide s → Leads s c t (enter_block s c)
unfolding enter_block
enter_block_leaves s t c wide = behind s c t (vbr 8 c) (λ id d. enter_named s c.at id d) (vbr_forward 8 c) (λ id d. enter_named_leaves s t c.at id d wide)

left_leaves : (s : Scope) (c : Cursor) (t : Found AdmittedAbbreviation) → IsWide s → is_top s ≡ false → Leaves s c t (plain (Some EndBlock) (block_left s)) c
left_leaves s c t wide unclosed =
    let some : length s.around ≡ 0 → ⊥ = eqb-false (length s.around) 0 unclosed in
    let most : length s.around - 1 ≤ length s.around = omega arith in
    record {
      depth = omega (arith, length-take-le (length s.around - 1) s.around most);
      wide = record { own = all_at (λ (f : BlockFrame). 1 ≤ f.width) s.around (length s.around - 1) s.block wide.around wide.own; around = all_take (λ (f : BlockFrame). 1 ≤ f.width) (length s.around - 1) s.around wide.around };
      ahead = omega arith;
      abbreviation = λ no. absurd (cc);
      next = λ no. absurd (cc);
      bare = λ _. (refl, refl);
    }

end_block_leaves : (s : Scope) (t : Found AdmittedAbbreviation) (c : Cursor) → IsWide s → is_top s ≡ false → Leads s c t (end_block s c)
unfolding end_block
end_block_leaves s t c wide unclosed =
    let bad : BitFault = record { kind = BadBlockLength; bit = s.block.count_bit } in
    behind s c t (align c) (λ _ d. if words_since s.block.count_bit d.at == s.block.words then Ok (plain (Some EndBlock) (block_left s), d) else Err (record { kind = BadBlockLength; bit = s.block.count_bit })) (align_forward c) (λ _ d.
    on_test s d t (words_since s.block.count_bit d.at == s.block.words) (Ok (plain (Some EndBlock) (block_left s), d)) (Err (record { kind = BadBlockLength; bit = s.block.count_bit })) (λ _. record { is = left_leaves s d t wide unclosed }) (λ _. refused s d t bad))

-- a definition
definition_leaves : (s : Scope) (c : Cursor) (to : AdmittedAbbreviation → Scope) → ((x : AdmittedAbbreviation) → (length (to x).around ≡ length s.around) × IsWide (to x) × (in_force (to x) ≡ in_force s + 1)) → (f : Found AdmittedAbbreviation) → Forward 1 c f → Leads s c f (f >>= λ x d. Ok (plain None (to x), d))
definition_leaves s c to kept (Ok x) h = let ahead : length x.1.rest + 1 ≤ length c.rest = h.is in record { is = record { depth = (kept x.0).0; wide = (kept x.0).1; ahead = omega arith; abbreviation = λ _. (x.0, refl); next = λ _. (kept x.0).2; bare = λ _. (refl, refl) } }
definition_leaves s c to kept (Err e) h = refused s c (Err e) e

define_for_leaves : (id : Option ℕ) (bit : ℕ) (s : Scope) (c : Cursor) → IsWide s → is_blockinfo s ≡ true → s.block.target ≡ id → Leads s c (defined_abbreviation c) (define_for id bit s c)
unfolding define_for
define_for_leaves None bit s c wide info target = refused s c (defined_abbreviation c) _
define_for_leaves (Some id) bit s c wide info target = definition_leaves s c (λ t. given_for s id t) (λ t. (refl, record { own = wide.own; around = wide.around }, in_force_given s id t info target)) (defined_abbreviation c) (abbreviation_forward c)

define_leaves : (bit : ℕ) (s : Scope) (c : Cursor) → IsWide s → Leads s c (defined_abbreviation c) (define bit s c)
unfolding define
define_leaves bit s c wide = on_test s c (defined_abbreviation c) (is_blockinfo s) _ _ (λ info. define_for_leaves s.block.target bit s c wide info refl)
    (λ other. definition_leaves s c (λ t. defined s t) (λ t. (refl, record { own = wide.own; around = wide.around }, in_force_defined s t other)) (defined_abbreviation c) (abbreviation_forward c))

-- a record
abbrev Kept : Scope → Result Scope BitFault → Type 0
Kept s r = IfOk r (λ t. (length t.around ≡ length s.around) × IsWide t)

named_keeps : (bit : ℕ) (s : Scope) (operands : List ℕ) → IsWide s → Kept s (with_target bit s operands)
named_keeps bit s [] wide = tt
named_keeps bit s (id ∷ others) wide = (refl, record { own = wide.own; around = wide.around })

kept_if : (s : Scope) (b : Bool) (x y : Result Scope BitFault) → Kept s x → Kept s y → Kept s (if b then x else y)
kept_if s true x y h k = h
kept_if s false x y h k = k

recorded_keeps : (bit : ℕ) (s : Scope) (code : ℕ) (operands : List ℕ) → IsWide s → Kept s (recorded bit s code operands)
unfolding recorded
recorded_keeps bit s code operands wide = kept_if s _ (with_target bit s operands) (Ok s) (named_keeps bit s operands wide) (refl, wide)

came_leaves : (s : Scope) (r : ReadRecord) (c : Cursor) (t : Found AdmittedAbbreviation) (u : Result Scope BitFault) → Kept s u → Leads s c t (came r c u)
came_leaves s r c t (Ok u) kept = record { is = record { depth = kept.0; wide = kept.1; ahead = omega arith; abbreviation = λ no. absurd (cc); next = λ no. absurd (cc); bare = λ no. absurd (cc) } }
came_leaves s r c t (Err e) kept = refused s c t e

by_abbreviation_forward : (u : Option AdmittedAbbreviation) (bit : ℕ) (b : Bool) (c : Cursor) → Forward 0 c (by_abbreviation u bit b c)
unfolding by_abbreviation
by_abbreviation_forward None bit b c = forward_none 0 c _
by_abbreviation_forward (Some u) bit b c = abbreviated_forward b u c

record_by_leaves : (id bit : ℕ) (s : Scope) (t : Found AdmittedAbbreviation) (c : Cursor) → IsWide s → Leads s c t (record_by id bit s c)
unfolding record_by
record_by_leaves id bit s t c wide = on_test s c t (id == 3) _ _
    (λ _. behind s c t (unabbreviated (is_blockinfo s) c) (λ r d. came r d (recorded bit s r.code r.operands)) (unabbreviated_forward (is_blockinfo s) c) (λ r d. came_leaves s r d t _ (recorded_keeps bit s r.code r.operands wide)))
    (λ _. behind s c t (by_abbreviation (abbreviation_of s id) bit (is_blockinfo s) c) (λ r d. came r d (recorded bit s r.code r.operands)) (by_abbreviation_forward (abbreviation_of s id) bit (is_blockinfo s) c) (λ r d. came_leaves s r d t _ (recorded_keeps bit s r.code r.operands wide)))

inside_leaves : (id bit : ℕ) (s : Scope) (c : Cursor) → IsWide s → is_top s ≡ false → Leads s c (defined_abbreviation c) (inside id bit s c)
unfolding inside
inside_leaves id bit s c wide unclosed =
    on_test s c (defined_abbreviation c) (id == 0) (end_block s c) _ (λ _. end_block_leaves s (defined_abbreviation c) c wide unclosed) (λ _.
    on_test s c (defined_abbreviation c) (id == 1) (if is_blockinfo s then refuse bit else enter_block s c) _ (λ _. on_test s c (defined_abbreviation c) (is_blockinfo s) (refuse bit) (enter_block s c) (λ _. refused s c (defined_abbreviation c) _) (λ _. enter_block_leaves s (defined_abbreviation c) c wide)) (λ _.
    on_test s c (defined_abbreviation c) (id == 2) (define bit s c) (record_by id bit s c) (λ _. define_leaves bit s c wide) (λ _. record_by_leaves id bit s (defined_abbreviation c) c wide)))

-- the end of the stream
pub record IsEnd (s : Scope) (c : Cursor) (i : StreamItem) (d : Cursor) : Type 0 where
  pub top : is_top s ≡ true
  pub none : length c.rest ≡ 0
  pub entry : i.entry ≡ Some End

-- anything else
pub record Goes (s : Scope) (c : Cursor) (i : StreamItem) (d : Cursor) : Type 0 where
  pub depth : depths (length s.around) i.entry (length i.scope.around)
  pub wide : IsWide i.scope
  pub fewer : length d.rest < length c.rest
  pub abbreviation : i.entry ≡ None → (t : AdmittedAbbreviation) × (defined_at s c ≡ Ok (t, d))
  pub next : i.entry ≡ None → in_force i.scope ≡ in_force s + 1
  pub bare : is_record i.entry ≡ false → (i.operands ≡ []) × (i.blob ≡ [])

record Facts (s : Scope) (c : Cursor) (f : Found StreamItem) : Type 0 where
  is : IfOk f (λ x. IsEnd s c x.0 x.1 ⊎ Goes s c x.0 x.1)

goes_from : (s : Scope) (c d : Cursor) (f : Found StreamItem) → defined_at s c ≡ defined_abbreviation d → length d.rest < length c.rest → Leads s d (defined_abbreviation d) f → Facts s c f
goes_from s c d (Ok x) same less h = let all : Leaves s d (defined_abbreviation d) x.0 x.1 = h.is in
    record { is = inr (record { depth = all.depth; wide = all.wide; fewer = omega (arith, all.ahead); abbreviation = λ no. let t = all.abbreviation no in (t.0, rw same t.1); next = all.next; bare = all.bare }) }
goes_from s c d (Err e) same less h = record { is = tt }

behind_id : (s : Scope) (c : Cursor) (f : Found ℕ) (g : ℕ → Cursor → Found StreamItem) → fixed s.block.width c ≡ f → IsWide s → Forward s.block.width c f → ((id : ℕ) (d : Cursor) → Leads s d (defined_abbreviation d) (g id d)) → Facts s c (f >>= g)
unfolding defined_at
behind_id s c (Ok x) g is wide h k = let ahead : length x.1.rest + s.block.width ≤ length c.rest = h.is in goes_from s c x.1 (g x.0 x.1) (rw is refl) (omega (arith, wide.own)) (k x.0 x.1)
behind_id s c (Err e) g is wide h k = record { is = tt }

facts_if : (s : Scope) (c : Cursor) (b : Bool) (x y : Found StreamItem) → (b ≡ true → Facts s c x) → Facts s c y → Facts s c (if b then x else y)
facts_if s c true x y h k = h refl
facts_if s c false x y h k = k

item_facts : (s : Scope) (c : Cursor) → IsWide s → Facts s c (item s c)
unfolding item
item_facts s c wide =
    let more = λ (id : ℕ) (d : Cursor). if is_top s then (if id == 1 then enter_block s d else refuse c.at) else inside id c.at s d in
    let first : Found StreamItem = Ok (plain (Some End) s, c) in
    facts_if s c (is_top s && (length c.rest == 0)) first (fixed s.block.width c >>= more)
    (λ both. let parts = and_parts (is_top s) (length c.rest == 0) both in record { is = inl (record { top = parts.0; none = eqb-true (length c.rest) 0 parts.1; entry = refl }) })
    (behind_id s c (fixed s.block.width c) more refl wide (fixed_forward s.block.width c) (λ id d.
    on_test s d (defined_abbreviation d) (is_top s) (if id == 1 then enter_block s d else refuse c.at) (inside id c.at s d)
    (λ _. on_test s d (defined_abbreviation d) (id == 1) (enter_block s d) (refuse c.at) (λ _. enter_block_leaves s (defined_abbreviation d) d wide) (λ _. refused s d (defined_abbreviation d) _))
    (λ unclosed. inside_leaves id c.at s d wide unclosed)))

pub what_stands : (s : Scope) (c d : Cursor) (i : StreamItem) → IsWide s → item s c ≡ Ok (i, d) → IsEnd s c i d ⊎ Goes s c i d
what_stands s c d i wide h = let all = rw h at (item_facts s c wide) in all.is
