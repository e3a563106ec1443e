-- What is passed over is what stands there, without its operands.
use Rattle.std.proofs.Common.{◌≡◌, ℕ, zero, suc, Bool, true, false, List, [], ◌∷◌, length, Option, Some, None, Result, Ok, Err, if◌then◌else◌, refl, ap, ◌∙◌, arith}
use Rattle.std.specs.Prelude.{◌==◌, ◌^◌, ◌&&◌, ◌||◌, nat_le, nat_lt}
use Rattle.std.proofs.lemmas.Bool.{ne_eqb}
use Rattle.bit_stream.specs.Bits.Cursor.{Cursor, Found, ◌>>=◌}
use Rattle.bit_stream.specs.Bits.Reading.{fixed, vbr, align, blob}
use Rattle.bit_stream.specs.declared.bits.fault.BitFault.{BitFault}
use Rattle.bit_stream.specs.declared.bits.fault.BitFaultKind.TheVariants.{BadBlockLength, NestedTooDeep}
use Rattle.bit_stream.specs.declared.entry.Entry.TheVariants.{Block, EndBlock, End}
use Rattle.bit_stream.specs.declared.abbreviation.ValueSpelling.{ValueSpelling}
use Rattle.bit_stream.specs.declared.abbreviation.ValueSpelling.TheVariants.{Chunks}
use Rattle.bit_stream.specs.declared.abbreviation.Tail.{Tail}
use Rattle.bit_stream.specs.declared.abbreviation.Tail.TheVariants.{NoTail, Elements, Bytes}
use Rattle.bit_stream.specs.Abbreviation.{AdmittedAbbreviation}
use Rattle.bit_stream.specs.Answers.{refuse}
use Rattle.bit_stream.specs.Definition.{defined_abbreviation}
use Rattle.bit_stream.specs.Record.{ReadRecord, value_by, code_by, operand, elements, each, counted, tail_by, names_block, unabbreviated, abbreviated}
use Rattle.bit_stream.specs.Scope.{Scope, abbreviation_of}
use Rattle.bit_stream.specs.Entry.{StreamItem, plain, is_top, is_blockinfo, came, entered, block_left, defined, given_for, enter_sized, enter_wide, enter_named, enter_block, words_since, end_block, define_for, define, recorded, by_abbreviation, record_by, inside, item}
use Rattle.bit_dump.specs.Walk.Passing as passing
use Rattle.bit_dump.specs.Walk.Passing.{Passed, first_of, pass_operand, pass_elements, pass_each, pass_counted, pass_tail, pass_unabbreviated, pass_abbreviated, pass_by_abbreviation, pass_record, pass_inside, pass_item}

-- what is found, by what is kept of it
abbrev kept : {A B : Type 0} → (A → B) → Found A → Found B
kept f (Ok x) = Ok (f x.0, x.1)
kept f (Err e) = Err e

-- the same was found, and behind it the same
along : {A B C D : Type 0} (f : A → B) (k : C → D) (x : Found A) (y : Found B) (g : A → Cursor → Found C) (h : B → Cursor → Found D) → kept f x ≡ y → ((a : A) (d : Cursor) → kept k (g a d) ≡ h (f a) d) → kept k (x >>= g) ≡ (y >>= h)
along f k (Ok x) y g h same more = rw (← same) (more x.0 x.1)
along f k (Err e) y g h same more = rw (← same) refl

behind : {A C D : Type 0} (k : C → D) (x : Found A) (g : A → Cursor → Found C) (h : A → Cursor → Found D) → ((a : A) (d : Cursor) → kept k (g a d) ≡ h a d) → kept k (x >>= g) ≡ (x >>= h)
behind k (Ok x) g h more = more x.0 x.1
behind k (Err e) g h more = refl

either : {A B : Type 0} (k : A → B) (b : Bool) (x y : Found A) (u v : Found B) → kept k x ≡ u → kept k y ≡ v → kept k (if b then x else y) ≡ (if b then u else v)
either k true x y u v h e = h
either k false x y u v h e = e

-- the values of a record

operand_is : (b : Bool) (front : List ℕ) (s : ValueSpelling) (c : Cursor) → kept first_of (operand b front s c) ≡ pass_operand b (first_of front) s c
unfolding operand pass_operand
operand_is b [] s c = behind first_of (value_by s c) _ _ (λ n d. either first_of _ _ _ _ _ refl refl)
operand_is b (m ∷ ms) s c =
    let more : (length (m ∷ ms) == 0) ≡ false = ne_eqb (length (m ∷ ms)) 0 (λ e. omega arith) in
    behind first_of (value_by s c) _ _ (λ n d. rw more (either first_of _ _ _ _ _ refl refl))

elements_is : (b : Bool) (s : ValueSpelling) (n : ℕ) (front : List ℕ) (c : Cursor) → kept first_of (elements b s n front c) ≡ pass_elements b s n (first_of front) c
unfolding elements pass_elements
elements_is b s zero front c = refl
elements_is b s (suc n) front c = along first_of first_of (operand b front s c) _ _ _ (operand_is b front s c) (λ more d. elements_is b s n more d)

each_is : (b : Bool) (ss : List ValueSpelling) (front : List ℕ) (c : Cursor) → kept first_of (each b ss front c) ≡ pass_each b ss (first_of front) c
unfolding each pass_each
each_is b [] front c = refl
each_is b (s ∷ ss) front c = along first_of first_of (operand b front s c) _ _ _ (operand_is b front s c) (λ more d. each_is b ss more d)

counted_is : (b : Bool) (s : ValueSpelling) (front : List ℕ) (c : Cursor) → kept first_of (counted b s front c) ≡ pass_counted b s (first_of front) c
unfolding counted pass_counted
counted_is b s front c = behind first_of (vbr 6 c) _ _ (λ n d. elements_is b s n front d)

abbrev first_and : List ℕ × List ℕ → Option ℕ × List ℕ
first_and p = (first_of p.0, p.1)

tail_is : (b : Bool) (t : Tail) (front : List ℕ) (c : Cursor) → kept first_and (tail_by b t front c) ≡ pass_tail b t (first_of front) c
unfolding tail_by pass_tail
tail_is b NoTail front c = refl
tail_is b (Elements s) front c = along first_of first_and (counted b s front c) _ _ _ (counted_is b s front c) (λ all d. refl)
tail_is b Bytes front c = behind first_and (blob c) _ _ (λ all d. refl)

abbrev passed_of : ReadRecord → Passed
passed_of r = record { code = r.code; first = first_of r.operands; blob = r.blob }

unabbreviated_is : (b : Bool) (c : Cursor) → kept passed_of (unabbreviated b c) ≡ pass_unabbreviated b c
unfolding unabbreviated pass_unabbreviated
unabbreviated_is b c = behind passed_of (code_by (Chunks 6) c) _ _ (λ code d.
    along first_of passed_of (counted (names_block b code) (Chunks 6) [] d) _ _ _ (counted_is (names_block b code) (Chunks 6) [] d) (λ all e. refl))

abbreviated_is : (b : Bool) (t : AdmittedAbbreviation) (c : Cursor) → kept passed_of (abbreviated b t c) ≡ pass_abbreviated b t c
unfolding abbreviated pass_abbreviated
abbreviated_is b t c = behind passed_of (code_by t.code c) _ _ (λ code d.
    along first_of passed_of (each (names_block b code) t.operands [] d) _ _ _ (each_is (names_block b code) t.operands [] d) (λ front e.
    along first_and passed_of (tail_by (names_block b code) t.tail front e) _ _ _ (tail_is (names_block b code) t.tail front e) (λ all f. refl)))

by_abbreviation_is : (o : Option AdmittedAbbreviation) (bit : ℕ) (b : Bool) (c : Cursor) → kept passed_of (by_abbreviation o bit b c) ≡ pass_by_abbreviation o bit b c
unfolding by_abbreviation pass_by_abbreviation
by_abbreviation_is None bit b c = refl
by_abbreviation_is (Some t) bit b c = abbreviated_is b t c

-- what stands at a place

abbrev pub bare : StreamItem → StreamItem
bare i = record { entry = i.entry; scope = i.scope; operands = []; blob = i.blob }

recorded_is : (bit : ℕ) (s : Scope) (code : ℕ) (operands : List ℕ) → recorded bit s code operands ≡ passing.recorded bit s code (first_of operands)
unfolding recorded passing.recorded
recorded_is bit s code [] = refl
recorded_is bit s code (n ∷ ns) = refl

came_is : (r : ReadRecord) (c : Cursor) (t : Result Scope BitFault) → kept bare (came r c t) ≡ passing.came (passed_of r) c t
came_is r c (Ok t) = refl
came_is r c (Err e) = refl

came_by : (bit : ℕ) (s : Scope) (r : ReadRecord) (c : Cursor) → kept bare (came r c (recorded bit s r.code r.operands)) ≡ passing.came (passed_of r) c (passing.recorded bit s r.code (first_of r.operands))
came_by bit s r c = rw (recorded_is bit s r.code r.operands) (came_is r c (passing.recorded bit s r.code (first_of r.operands)))

record_is : (id bit : ℕ) (s : Scope) (c : Cursor) → kept bare (record_by id bit s c) ≡ pass_record id bit s c
unfolding record_by pass_record
record_is id bit s c = either bare (id == 3) _ _ _ _
    (along passed_of bare (unabbreviated (is_blockinfo s) c) _ _ _ (unabbreviated_is (is_blockinfo s) c) (λ r d. came_by bit s r d))
    (along passed_of bare (by_abbreviation (abbreviation_of s id) bit (is_blockinfo s) c) _ _ _ (by_abbreviation_is (abbreviation_of s id) bit (is_blockinfo s) c) (λ r d. came_by bit s r d))

enter_sized_is : (s : Scope) (id width : ℕ) (c : Cursor) → kept bare (enter_sized s id width c) ≡ enter_sized s id width c
enter_sized_is s id width c = behind bare (align c) (λ _ d. fixed 32 d >>= λ words e. Ok (plain (Some (Block id)) (entered s id width d.at words), e)) (λ _ d. fixed 32 d >>= λ words e. Ok (plain (Some (Block id)) (entered s id width d.at words), e)) (λ _ d.
    behind bare (fixed 32 d) (λ words e. Ok (plain (Some (Block id)) (entered s id width d.at words), e)) (λ words e. Ok (plain (Some (Block id)) (entered s id width d.at words), e)) (λ words e. refl))

enter_wide_is : (s : Scope) (id bit width : ℕ) (c : Cursor) → kept bare (enter_wide s id bit width c) ≡ enter_wide s id bit width c
enter_wide_is s id bit width c = either bare (nat_lt width 2 || nat_lt 32 width) (refuse bit) (enter_sized s id width c) (refuse bit) (enter_sized s id width c) refl (enter_sized_is s id width c)

enter_named_is : (s : Scope) (bit id : ℕ) (c : Cursor) → kept bare (enter_named s bit id c) ≡ enter_named s bit id c
enter_named_is s bit id c =
    let wide : Found StreamItem = vbr 4 c >>= λ width d. enter_wide s id c.at width d in
    let deep : Found StreamItem = if length s.around == 16 then Err (record { kind = NestedTooDeep; bit = bit }) else wide in
    either bare (nat_le (2 ^ 32) id) (refuse bit) deep (refuse bit) deep refl
    (either bare (length s.around == 16) (Err (record { kind = NestedTooDeep; bit = bit })) wide (Err (record { kind = NestedTooDeep; bit = bit })) wide refl
    (behind bare (vbr 4 c) (λ width d. enter_wide s id c.at width d) (λ width d. enter_wide s id c.at width d) (λ width d. enter_wide_is s id c.at width d)))

enter_block_is : (s : Scope) (c : Cursor) → kept bare (enter_block s c) ≡ enter_block s c
unfolding enter_block
enter_block_is s c = behind bare (vbr 8 c) (λ id d. enter_named s c.at id d) (λ id d. enter_named s c.at id d) (λ id d. enter_named_is s c.at id d)

end_block_is : (s : Scope) (c : Cursor) → kept bare (end_block s c) ≡ end_block s c
unfolding end_block
end_block_is s c =
    let ended = λ (d : Cursor). if words_since s.block.count_bit d.at == s.block.words then Ok (plain (Some EndBlock) (block_left s), d) else Err (record { kind = BadBlockLength; bit = s.block.count_bit }) in
    behind bare (align c) (λ _ d. ended d) (λ _ d. ended d) (λ _ d.
    either bare (words_since s.block.count_bit d.at == s.block.words) (Ok (plain (Some EndBlock) (block_left s), d)) (Err (record { kind = BadBlockLength; bit = s.block.count_bit })) (Ok (plain (Some EndBlock) (block_left s), d)) (Err (record { kind = BadBlockLength; bit = s.block.count_bit })) refl refl)

defined_is : (c : Cursor) (to : AdmittedAbbreviation → Scope) → kept bare (defined_abbreviation c >>= λ t d. Ok (plain None (to t), d)) ≡ (defined_abbreviation c >>= λ t d. Ok (plain None (to t), d))
defined_is c to = behind bare (defined_abbreviation c) (λ t d. Ok (plain None (to t), d)) (λ t d. Ok (plain None (to t), d)) (λ t d. refl)

define_for_is : (id : Option ℕ) (bit : ℕ) (s : Scope) (c : Cursor) → kept bare (define_for id bit s c) ≡ define_for id bit s c
unfolding define_for
define_for_is None bit s c = refl
define_for_is (Some id) bit s c = defined_is c (λ t. given_for s id t)

define_is : (bit : ℕ) (s : Scope) (c : Cursor) → kept bare (define bit s c) ≡ define bit s c
unfolding define
define_is bit s c = either bare (is_blockinfo s) _ _ _ _ (define_for_is s.block.target bit s c) (defined_is c (λ t. defined s t))

inside_is : (id bit : ℕ) (s : Scope) (c : Cursor) → kept bare (inside id bit s c) ≡ pass_inside id bit s c
unfolding inside pass_inside
inside_is id bit s c =
    either bare (id == 0) (end_block s c) _ (end_block s c) _ (end_block_is s c)
    (either bare (id == 1) (if is_blockinfo s then refuse bit else enter_block s c) _ (if is_blockinfo s then refuse bit else enter_block s c) _ (either bare (is_blockinfo s) (refuse bit) (enter_block s c) (refuse bit) (enter_block s c) refl (enter_block_is s c))
    (either bare (id == 2) (define bit s c) (record_by id bit s c) (define bit s c) (pass_record id bit s c) (define_is bit s c) (record_is id bit s c)))

item_is : (s : Scope) (c : Cursor) → kept bare (item s c) ≡ pass_item s c
unfolding item pass_item
item_is s c =
    let entering = λ (id : ℕ) (d : Cursor). if id == 1 then enter_block s d else refuse c.at in
    let first : Found StreamItem = Ok (plain (Some End) s, c) in
    either bare (is_top s && (length c.rest == 0)) first _ first _ refl
    (behind bare (fixed s.block.width c) (λ id d. if is_top s then entering id d else inside id c.at s d) (λ id d. if is_top s then entering id d else pass_inside id c.at s d) (λ id d.
    either bare (is_top s) (entering id d) (inside id c.at s d) (entering id d) (pass_inside id c.at s d) (either bare (id == 1) (enter_block s d) (refuse c.at) (enter_block s d) (refuse c.at) (enter_block_is s d) refl) (inside_is id c.at s d)))

-- what was passed stands there
pub passes : (s : Scope) (c d : Cursor) (j : StreamItem) → pass_item s c ≡ Ok (j, d) → (i : StreamItem) × (item s c ≡ Ok (i, d)) × (bare i ≡ j)
passes s c d j h = by_found (item s c) refl (item_is s c ∙ h) where
  by_found : (f : Found StreamItem) → item s c ≡ f → kept bare f ≡ Ok (j, d) → (i : StreamItem) × (item s c ≡ Ok (i, d)) × (bare i ≡ j)
  by_found (Ok x) is same =
      let one : StreamItem × Cursor = (bare x.0, x.1) in
      let other : StreamItem × Cursor = (j, d) in
      let both : one ≡ other = cc in
      let place : x.1 ≡ d = ap (λ (p : StreamItem × Cursor). p.1) both in
      (x.0, rw (← place) is, ap (λ (p : StreamItem × Cursor). p.0) both)
  by_found (Err e) is same = absurd (cc)

-- and what is refused in passing is refused
pub fails : (s : Scope) (c : Cursor) (e : BitFault) → pass_item s c ≡ Err e → item s c ≡ Err e
fails s c e h = by_found (item s c) refl (item_is s c ∙ h) where
  by_found : (f : Found StreamItem) → item s c ≡ f → kept bare f ≡ Err e → item s c ≡ Err e
  by_found (Ok x) is same = absurd (cc)
  by_found (Err x) is same = let one : x ≡ e = cc in rw (← one) is
