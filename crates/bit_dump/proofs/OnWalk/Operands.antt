-- The operands of a record that stands there, taken one by one.
use Rattle.std.proofs.Common.{◌≡◌, ℕ, zero, suc, ◌+◌, ◌-◌, ◌<◌, ◌≤◌, Bool, true, false, List, [], ◌∷◌, ◌++◌, length, drop, get_or, Option, Some, None, Result, Ok, Err, if◌then◌else◌, refl, sym, ap, ◌∙◌, arith, inl, inr, append_assoc}
use Rattle.std.specs.Prelude.{◌==◌}
use Rattle.std.proofs.lemmas.Bool.{cases_Bool, eqb-false, ne_eqb}
use Rattle.std.proofs.lemmas.List.{append-nil, drop_more, drop_all}
use Rattle.bit_stream.specs.Bits.Cursor.{Cursor, Found, ◌>>=◌}
use Rattle.bit_stream.specs.Bits.Reading.{fixed, vbr, blob}
use Rattle.bit_stream.specs.declared.bits.fault.BitFault.{BitFault}
use Rattle.bit_stream.specs.declared.abbreviation.ValueSpelling.{ValueSpelling}
use Rattle.bit_stream.specs.declared.abbreviation.ValueSpelling.TheVariants.{Chunks}
use Rattle.bit_stream.specs.declared.abbreviation.Tail.{Tail}
use Rattle.bit_stream.specs.declared.abbreviation.Tail.TheVariants.{NoTail, Elements, Bytes}
use Rattle.bit_stream.specs.Abbreviation.{AdmittedAbbreviation}
use Rattle.bit_stream.specs.Record.{ReadRecord, value_by, code_by, operand, elements, each, counted, tail_by, names_block, unabbreviated, abbreviated}
use Rattle.bit_stream.specs.Scope.{Scope, abbreviation_of}
use Rattle.bit_stream.specs.Entry.{StreamItem, is_blockinfo, came, by_abbreviation, record_by}
use Rattle.bit_dump.specs.declared.walk.values.OperandStage.TheVariants.{Fields, Repeats, Over}
use Rattle.bit_dump.specs.Walk.Values.{repeated, listed, left_by, operands_at, Leaves, IsRead, Gave}

-- where two readings in a row find something, the first does, and the second behind it
pub bound : {A B : Type 0} (f : Found A) (g : A → Cursor → Found B) (y : B) (e : Cursor) → (f >>= g) ≡ Ok (y, e) → (x : A) × (d : Cursor) × (f ≡ Ok (x, d)) × (g x d ≡ Ok (y, e))
bound (Ok x) g y e h = (x.0, x.1, refl, h)
bound (Err fault) g y e h = absurd (cc)

pub found_parts : {A : Type 0} (x y : A) (d e : Cursor) → let f : Found A = Ok (x, d) in f ≡ Ok (y, e) → (x ≡ y) × (d ≡ e)
found_parts {A} x y d e h =
    let one : A × Cursor = (x, d) in
    let other : A × Cursor = (y, e) in
    let both : one ≡ other = cc in
    (ap (λ (p : A × Cursor). p.0) both, ap (λ (p : A × Cursor). p.1) both)

-- what a test does not refuse
pub not_refused : {A : Type 0} (b : Bool) (fault : BitFault) (x y : A) (d e : Cursor) → let f : Found A = (if b then Err fault else Ok (x, d)) in f ≡ Ok (y, e) → (x ≡ y) × (d ≡ e)
not_refused true fault x y d e h = absurd (cc)
not_refused false fault x y d e h = found_parts x y d e h

-- one value, and those behind it
record Next (s : ValueSpelling) (c : Cursor) (ns : List ℕ) (later : Cursor → Found (List ℕ)) : Type 0 where
  number : ℕ
  place : Cursor
  others : List ℕ
  reads : value_by s c ≡ Ok (number, place)
  are : ns ≡ number ∷ others
  behind : Leaves (later place) others

next_of : (s : ValueSpelling) (c : Cursor) (ns : List ℕ) (later : Cursor → Found (List ℕ)) → Leaves (value_by s c >>= λ v d. later d >>= λ vs e. Ok (v ∷ vs, e)) ns → Next s c ns later
next_of s c ns later h =
    let first = bound (value_by s c) (λ v d. later d >>= λ vs e. Ok (v ∷ vs, e)) ns h.0 h.1 in
    let rest = bound (later first.1) (λ vs e. Ok (first.0 ∷ vs, e)) ns h.0 first.3 in
    let last = found_parts (first.0 ∷ rest.0) ns rest.1 h.0 rest.3 in
    record { number = first.0; place = first.1; others = rest.0; reads = first.2; are = sym last.0; behind = (rest.1, rest.2) }

-- a value that was read is the next, and the others are left
gives_next : (s : ValueSpelling) (c : Cursor) (ns : List ℕ) (later : Cursor → Found (List ℕ)) (v : ℕ) (d : Cursor) → Leaves (value_by s c >>= λ v d. later d >>= λ vs e. Ok (v ∷ vs, e)) ns → value_by s c ≡ Ok (v, d) → Gave ns (Some v) (later d)
gives_next s c ns later v d h read =
    let next = next_of s c ns later h in
    let same = found_parts next.number v next.place d (sym next.reads ∙ read) in
    (next.others, rw (← same.0) next.are, rw same.1 at next.behind)

-- so many values of one spelling

pub repeated_next : (s : ValueSpelling) (k : ℕ) (c : Cursor) → 0 < k → repeated s k c ≡ (value_by s c >>= λ v d. repeated s (k - 1) d >>= λ vs e. Ok (v ∷ vs, e))
unfolding repeated
repeated_next s zero c some = absurd (omega arith)
repeated_next s (suc k) c some = let less : suc k - 1 ≡ k = omega arith in rw less refl

pub repeated_value : (s : ValueSpelling) (k : ℕ) (c : Cursor) → 0 < k → IsRead (repeated s k c) → (n : ℕ) × (d : Cursor) × (value_by s c ≡ Ok (n, d))
repeated_value s k c some h =
    let next = next_of s c h.0 (λ d. repeated s (k - 1) d) (rw (repeated_next s k c some) at h.1) in
    (next.number, next.place, next.reads)

pub repeated_gives : (s : ValueSpelling) (k : ℕ) (c d : Cursor) (t : AdmittedAbbreviation) (v : ℕ) (ns : List ℕ) → 0 < k → value_by s c ≡ Ok (v, d) → Leaves (repeated s k c) ns → Gave ns (Some v) (left_by (Repeats s (k - 1)) t d)
unfolding left_by
repeated_gives s k c d t v ns some read h = gives_next s c ns (λ e. repeated s (k - 1) e) v d (rw (repeated_next s k c some) at h) read

-- a value that was read is the next, and one fewer is left
pub repeated_more : (s : ValueSpelling) (k : ℕ) (c d : Cursor) (v : ℕ) (ns : List ℕ) → 0 < k → value_by s c ≡ Ok (v, d) → Leaves (repeated s k c) ns → Gave ns (Some v) (repeated s (k - 1) d)
repeated_more s k c d v ns some read h = gives_next s c ns (λ e. repeated s (k - 1) e) v d (rw (repeated_next s k c some) at h) read

pub over : (t : AdmittedAbbreviation) (c : Cursor) → Leaves (left_by Over t c) []
unfolding left_by
over t c = (c, refl)

pub repeated_over : (s : ValueSpelling) (k : ℕ) (c : Cursor) (t : AdmittedAbbreviation) (ns : List ℕ) → k ≡ 0 → Leaves (repeated s k c) ns → Gave ns None (left_by Over t c)
unfolding repeated
repeated_over s k c t ns none h = let last = found_parts [] ns c h.0 (rw none at h.1) in (sym last.0, over t c)

-- what the end of an abbreviation gives

pub none_over : (c : Cursor) (t : AdmittedAbbreviation) (ns : List ℕ) → Leaves (listed [] NoTail c) ns → Gave ns None (left_by Over t c)
unfolding listed
none_over c t ns h = let last = found_parts [] ns c h.0 h.1 in (sym last.0, over t c)

pub bytes_over : (c : Cursor) (t : AdmittedAbbreviation) (ns : List ℕ) → Leaves (listed [] Bytes c) ns → Gave ns None (left_by Over t c)
unfolding listed
bytes_over c t ns h = let last = found_parts [] ns c h.0 h.1 in (sym last.0, over t c)

pub elements_count : (s : ValueSpelling) (c : Cursor) → IsRead (listed [] (Elements s) c) → (n : ℕ) × (d : Cursor) × (vbr 6 c ≡ Ok (n, d))
unfolding listed
elements_count s c h = let first = bound (vbr 6 c) (λ n d. repeated s n d) h.0 h.1.0 h.1.1 in (first.0, first.1, first.2)

pub elements_behind : (s : ValueSpelling) (c d : Cursor) (n : ℕ) (ns : List ℕ) → vbr 6 c ≡ Ok (n, d) → Leaves (listed [] (Elements s) c) ns → Leaves (repeated s n d) ns
unfolding listed
elements_behind s c d n ns count h = (h.0, rw count at h.1)

-- values of these spellings

got_more : (ss : List ValueSpelling) (k : ℕ) (s : ValueSpelling) → k < length ss → s ≡ get_or ss k s → drop k ss ≡ s ∷ drop (k + 1) ss
got_more ss k s near is = drop_more ss k s near ∙ ap (λ (y : ValueSpelling). y ∷ drop (k + 1) ss) (sym is)

listed_next : (ss : List ValueSpelling) (t : Tail) (k : ℕ) (s : ValueSpelling) (c : Cursor) → k < length ss → s ≡ get_or ss k s → listed (drop k ss) t c ≡ (value_by s c >>= λ v d. listed (drop (k + 1) ss) t d >>= λ vs e. Ok (v ∷ vs, e))
unfolding listed
listed_next ss t k s c near is = rw (got_more ss k s near is) refl

pub field_value : (t : AdmittedAbbreviation) (k : ℕ) (s : ValueSpelling) (c : Cursor) → k < length t.operands → s ≡ get_or t.operands k s → IsRead (left_by (Fields k) t c) → (n : ℕ) × (d : Cursor) × (value_by s c ≡ Ok (n, d))
unfolding left_by
field_value t k s c near is h =
    let next = next_of s c h.0 (λ d. listed (drop (k + 1) t.operands) t.tail d) (h.1.0, sym (listed_next t.operands t.tail k s c near is) ∙ h.1.1) in
    (next.number, next.place, next.reads)

pub field_gives : (t : AdmittedAbbreviation) (k : ℕ) (s : ValueSpelling) (c d : Cursor) (v : ℕ) (ns : List ℕ) → k < length t.operands → s ≡ get_or t.operands k s → value_by s c ≡ Ok (v, d) → Leaves (left_by (Fields k) t c) ns → Gave ns (Some v) (left_by (Fields (k + 1)) t d)
unfolding left_by
field_gives t k s c d v ns near is read h = gives_next s c ns (λ e. listed (drop (k + 1) t.operands) t.tail e) v d (h.0, sym (listed_next t.operands t.tail k s c near is) ∙ h.1) read

pub fields_over : (t : AdmittedAbbreviation) (k : ℕ) (c : Cursor) (ns : List ℕ) → length t.operands ≤ k → Leaves (left_by (Fields k) t c) ns → Leaves (listed [] t.tail c) ns
unfolding left_by
fields_over t k c ns far h = (h.0, ap (λ (l : List ValueSpelling). listed l t.tail c) (sym (drop_all k t.operands far)) ∙ h.1)

pub repeats_left : (s : ValueSpelling) (k : ℕ) (t : AdmittedAbbreviation) (c : Cursor) (ns : List ℕ) → Leaves (left_by (Repeats s k) t c) ns → Leaves (repeated s k c) ns
unfolding left_by
repeats_left s k t c ns h = h

pub over_gives : (t : AdmittedAbbreviation) (c : Cursor) (ns : List ℕ) → Leaves (left_by Over t c) ns → Gave ns None (left_by Over t c)
unfolding left_by
over_gives t c ns h = let last = found_parts [] ns c h.0 h.1 in (sym last.0, (c, refl))

-- the operands of a record that was read

behind_found : {A B : Type 0} (f : Found A) (g : A → Cursor → Found B) (x : A) (d : Cursor) (y : B) (e : Cursor) → f ≡ Ok (x, d) → g x d ≡ Ok (y, e) → (f >>= g) ≡ Ok (y, e)
behind_found f g x d y e h k = rw h k

cons_found : (f : Found ℕ) (later : Cursor → Found (List ℕ)) (v : ℕ) (vs : List ℕ) (d e : Cursor) → f ≡ Ok (v, d) → later d ≡ Ok (vs, e) → (f >>= λ v d. later d >>= λ vs e. Ok (v ∷ vs, e)) ≡ Ok (v ∷ vs, e)
cons_found f later v vs d e h k = rw (h, k) refl

pub same_list : (f : Found (List ℕ)) (ns ms : List ℕ) (d : Cursor) → f ≡ Ok (ns, d) → ns ≡ ms → f ≡ Ok (ms, d)
same_list f ns ms d h same = rw same at h

more_listed : (front more all : List ℕ) (v : ℕ) (vs : List ℕ) → more ≡ front ++ v ∷ [] → all ≡ more ++ vs → all ≡ front ++ (v ∷ vs)
more_listed front more all v vs h k = k ∙ (ap (λ (l : List ℕ). l ++ vs) h ∙ append_assoc front (v ∷ []) vs)

pub at_place : {A : Type 0} (f : Found A) (x : A) (d e : Cursor) → f ≡ Ok (x, d) → d ≡ e → f ≡ Ok (x, e)
at_place f x d e h same = rw same at h

operand_value : (b : Bool) (front more : List ℕ) (s : ValueSpelling) (c d : Cursor) → operand b front s c ≡ Ok (more, d) → (v : ℕ) × (value_by s c ≡ Ok (v, d)) × (more ≡ front ++ v ∷ [])
unfolding operand
operand_value b front more s c d h =
    let first = bound (value_by s c) _ more d h in
    let last = not_refused _ _ (front ++ first.0 ∷ []) more first.1 d first.3 in
    (first.0, at_place (value_by s c) first.0 first.1 d first.2 last.1, sym last.0)

pub elements_repeated : (b : Bool) (s : ValueSpelling) (n : ℕ) (front all : List ℕ) (c d : Cursor) → elements b s n front c ≡ Ok (all, d) → (ns : List ℕ) × (repeated s n c ≡ Ok (ns, d)) × (all ≡ front ++ ns)
unfolding elements repeated
elements_repeated b s zero front all c d h = let last = found_parts front all c d h in ([], rw last.1 refl, sym last.0 ∙ sym (append-nil front))
elements_repeated b s (suc n) front all c d h =
    let first = bound (operand b front s c) (λ more e. elements b s n more e) all d h in
    let one = operand_value b front first.0 s c first.1 first.2 in
    let rest = elements_repeated b s n first.0 all first.1 d first.3 in
    (one.0 ∷ rest.0, cons_found (value_by s c) (λ e. repeated s n e) one.0 rest.0 first.1 d one.1 rest.1, more_listed front first.0 all one.0 rest.0 one.2 rest.2)

counted_listed : (b : Bool) (s : ValueSpelling) (front all : List ℕ) (c d : Cursor) → counted b s front c ≡ Ok (all, d) → (ns : List ℕ) × Leaves (vbr 6 c >>= λ n e. repeated s n e) ns × (all ≡ front ++ ns)
unfolding counted
counted_listed b s front all c d h =
    let count = bound (vbr 6 c) (λ n e. elements b s n front e) all d h in
    let rest = elements_repeated b s count.0 front all count.1 d count.3 in
    (rest.0, (d, behind_found (vbr 6 c) (λ n e. repeated s n e) count.0 count.1 rest.0 d count.2 rest.1), rest.2)

tail_listed : (b : Bool) (t : Tail) (front : List ℕ) (all : List ℕ × List ℕ) (c d : Cursor) → tail_by b t front c ≡ Ok (all, d) → (ns : List ℕ) × Leaves (listed [] t c) ns × (all.0 ≡ front ++ ns)
unfolding tail_by listed
tail_listed b NoTail front all c d h =
    let last = found_parts (front, []) all c d h in
    ([], (c, refl), ap (λ (p : List ℕ × List ℕ). p.0) (sym last.0) ∙ sym (append-nil front))
tail_listed b (Elements s) front all c d h =
    let first = bound (counted b s front c) (λ more e. Ok ((more, []), e)) all d h in
    let last = found_parts (first.0, []) all first.1 d first.3 in
    let rest = counted_listed b s front first.0 c first.1 first.2 in
    (rest.0, rest.1, ap (λ (p : List ℕ × List ℕ). p.0) (sym last.0) ∙ rest.2)
tail_listed b Bytes front all c d h =
    let first = bound (blob c) (λ bytes e. Ok ((front, bytes), e)) all d h in
    let last = found_parts (front, first.0) all first.1 d first.3 in
    ([], (c, refl), ap (λ (p : List ℕ × List ℕ). p.0) (sym last.0) ∙ sym (append-nil front))

each_listed : (b : Bool) (ss : List ValueSpelling) (t : Tail) (front middle : List ℕ) (all : List ℕ × List ℕ) (c d e : Cursor) → each b ss front c ≡ Ok (middle, d) → tail_by b t middle d ≡ Ok (all, e) → (ns : List ℕ) × Leaves (listed ss t c) ns × (all.0 ≡ front ++ ns)
unfolding each listed
each_listed b [] t front middle all c d e h k =
    let same = found_parts front middle c d h in
    tail_listed b t front all c e (rw (← same.0, ← same.1) at k)
each_listed b (s ∷ ss) t front middle all c d e h k =
    let first = bound (operand b front s c) (λ more f. each b ss more f) middle d h in
    let one = operand_value b front first.0 s c first.1 first.2 in
    let rest = each_listed b ss t first.0 middle all first.1 d e first.3 k in
    (one.0 ∷ rest.0, (rest.1.0, cons_found (value_by s c) (λ f. listed ss t f) one.0 rest.0 first.1 rest.1.0 one.1 rest.1.1), more_listed front first.0 all.0 one.0 rest.0 one.2 rest.2)

-- behind its abbreviation id, a record by an abbreviation and one without
abbrev behind_id : ℕ → AdmittedAbbreviation → Cursor → Found (List ℕ)
behind_id id t d =
    if id == 3 then (code_by (Chunks 6) d >>= λ _ e. vbr 6 e >>= λ n f. repeated (Chunks 6) n f)
    else (code_by t.code d >>= λ _ e. listed t.operands t.tail e)

unabbreviated_left : (b : Bool) (c d : Cursor) (r : ReadRecord) → unabbreviated b c ≡ Ok (r, d) → Leaves (code_by (Chunks 6) c >>= λ _ e. vbr 6 e >>= λ n f. repeated (Chunks 6) n f) r.operands
unfolding unabbreviated counted
unabbreviated_left b c d r h =
    let code = bound (code_by (Chunks 6) c) _ r d h in
    let all = bound (counted (names_block b code.0) (Chunks 6) [] code.1) _ r d code.3 in
    let last = found_parts _ r all.1 d all.3 in
    let count = bound (vbr 6 code.1) _ all.0 all.1 all.2 in
    let rest = elements_repeated (names_block b code.0) (Chunks 6) count.0 [] all.0 count.1 all.1 count.3 in
    let same : rest.0 ≡ r.operands = sym rest.2 ∙ ap (λ (x : ReadRecord). x.operands) last.0 in
    let values = same_list (repeated (Chunks 6) count.0 count.1) rest.0 r.operands all.1 rest.1 same in
    (all.1, behind_found (code_by (Chunks 6) c) _ code.0 code.1 r.operands all.1 code.2 (behind_found (vbr 6 code.1) (λ n f. repeated (Chunks 6) n f) count.0 count.1 r.operands all.1 count.2 values))

abbreviated_left : (b : Bool) (t : AdmittedAbbreviation) (c d : Cursor) (r : ReadRecord) → abbreviated b t c ≡ Ok (r, d) → Leaves (code_by t.code c >>= λ _ e. listed t.operands t.tail e) r.operands
unfolding abbreviated
abbreviated_left b t c d r h =
    let code = bound (code_by t.code c) _ r d h in
    let front = bound (each (names_block b code.0) t.operands [] code.1) _ r d code.3 in
    let all = bound (tail_by (names_block b code.0) t.tail front.0 front.1) _ r d front.3 in
    let last = found_parts _ r all.1 d all.3 in
    let rest = each_listed (names_block b code.0) t.operands t.tail [] front.0 all.0 code.1 front.1 all.1 front.2 all.2 in
    let same : rest.0 ≡ r.operands = sym rest.2 ∙ ap (λ (x : ReadRecord). x.operands) last.0 in
    let values = same_list (listed t.operands t.tail code.1) rest.0 r.operands rest.1.0 rest.1.1 same in
    (rest.1.0, behind_found (code_by t.code c) (λ _ e. listed t.operands t.tail e) code.0 code.1 r.operands rest.1.0 code.2 values)

came_operands : (r : ReadRecord) (c d : Cursor) (u : Result Scope BitFault) (i : StreamItem) → came r c u ≡ Ok (i, d) → i.operands ≡ r.operands
came_operands r c d (Ok s) i h = let last = found_parts _ i c d h in ap (λ (x : StreamItem). x.operands) (sym last.0)
came_operands r c d (Err e) i h = absurd (cc)

by_abbreviation_left : (o : Option AdmittedAbbreviation) (bit : ℕ) (b : Bool) (t : AdmittedAbbreviation) (c d : Cursor) (r : ReadRecord) → o ≡ Some t → by_abbreviation o bit b c ≡ Ok (r, d) → Leaves (code_by t.code c >>= λ _ e. listed t.operands t.tail e) r.operands
unfolding by_abbreviation
by_abbreviation_left None bit b t c d r is h = absurd (cc)
by_abbreviation_left (Some u) bit b t c d r is h = let same : u ≡ t = cc in rw same at (abbreviated_left b u c d r h)

pub record_left : (id bit : ℕ) (s : Scope) (t : AdmittedAbbreviation) (c d : Cursor) (i : StreamItem) → 3 ≤ id → (4 ≤ id → abbreviation_of s id ≡ Some t) → record_by id bit s c ≡ Ok (i, d) → Leaves (behind_id id t c) i.operands
unfolding record_by
record_left id bit s t c d i low by h = elim (cases_Bool (id == 3)) [
  | inl is ↦
      let all = bound (unabbreviated (is_blockinfo s) c) _ i d (rw is at h) in
      let same = came_operands all.0 all.1 d _ i all.3 in
      rw (is, same) (unabbreviated_left (is_blockinfo s) c all.1 all.0 all.2)
  | inr differs ↦
      let other : 4 ≤ id = omega (arith, eqb-false id 3 differs) in
      let all = bound (by_abbreviation (abbreviation_of s id) bit (is_blockinfo s) c) _ i d (rw differs at h) in
      let same = came_operands all.0 all.1 d _ i all.3 in
      rw (differs, same) (by_abbreviation_left (abbreviation_of s id) bit (is_blockinfo s) t c all.1 all.0 (by other) all.2)
]

-- where its operands begin

pub starts_id : (w : ℕ) (t : AdmittedAbbreviation) (c : Cursor) → IsRead (operands_at w t c) → (n : ℕ) × (d : Cursor) × (fixed w c ≡ Ok (n, d))
unfolding operands_at
starts_id w t c h = let first = bound (fixed w c) _ h.0 h.1.0 h.1.1 in (first.0, first.1, first.2)

behind_start : (w id : ℕ) (t : AdmittedAbbreviation) (c d : Cursor) (ns : List ℕ) → fixed w c ≡ Ok (id, d) → Leaves (operands_at w t c) ns → Leaves (behind_id id t d) ns
unfolding operands_at
behind_start w id t c d ns read h = (h.0, rw read at h.1)

plain_start : (w id : ℕ) (t : AdmittedAbbreviation) (c d : Cursor) (ns : List ℕ) → fixed w c ≡ Ok (id, d) → id ≡ 3 → Leaves (operands_at w t c) ns → Leaves (code_by (Chunks 6) d >>= λ _ e. vbr 6 e >>= λ n f. repeated (Chunks 6) n f) ns
plain_start w id t c d ns read is h = rw is at (behind_start w id t c d ns read h)

other_start : (w id : ℕ) (t : AdmittedAbbreviation) (c d : Cursor) (ns : List ℕ) → fixed w c ≡ Ok (id, d) → (id ≡ 3 → ⊥) → Leaves (operands_at w t c) ns → Leaves (code_by t.code d >>= λ _ e. listed t.operands t.tail e) ns
other_start w id t c d ns read is h = let differs = ne_eqb id 3 is in rw differs at (behind_start w id t c d ns read h)

pub starts_plain : (w id : ℕ) (t : AdmittedAbbreviation) (c d : Cursor) → fixed w c ≡ Ok (id, d) → id ≡ 3 → IsRead (operands_at w t c) → (n : ℕ) × (e : Cursor) × (code_by (Chunks 6) d ≡ Ok (n, e))
starts_plain w id t c d read is h =
    let all = plain_start w id t c d h.0 read is h.1 in
    let code = bound (code_by (Chunks 6) d) _ h.0 all.0 all.1 in
    (code.0, code.1, code.2)

pub starts_count : (w id n : ℕ) (t : AdmittedAbbreviation) (c d e : Cursor) → fixed w c ≡ Ok (id, d) → id ≡ 3 → code_by (Chunks 6) d ≡ Ok (n, e) → IsRead (operands_at w t c) → (k : ℕ) × (f : Cursor) × (vbr 6 e ≡ Ok (k, f))
starts_count w id n t c d e read is code h =
    let all = plain_start w id t c d h.0 read is h.1 in
    let count = bound (vbr 6 e) (λ n f. repeated (Chunks 6) n f) h.0 all.0 (rw code at all.1) in
    (count.0, count.1, count.2)

pub plain_left : (w id n k : ℕ) (t : AdmittedAbbreviation) (c d e f : Cursor) (ns : List ℕ) → fixed w c ≡ Ok (id, d) → id ≡ 3 → code_by (Chunks 6) d ≡ Ok (n, e) → vbr 6 e ≡ Ok (k, f) → Leaves (operands_at w t c) ns → Leaves (left_by (Repeats (Chunks 6) k) t f) ns
unfolding left_by
plain_left w id n k t c d e f ns read is code count h = let all = plain_start w id t c d ns read is h in (all.0, rw (code, count) at all.1)

pub starts_code : (w id : ℕ) (t : AdmittedAbbreviation) (c d : Cursor) → fixed w c ≡ Ok (id, d) → (id ≡ 3 → ⊥) → IsRead (operands_at w t c) → (n : ℕ) × (e : Cursor) × (code_by t.code d ≡ Ok (n, e))
starts_code w id t c d read is h =
    let all = other_start w id t c d h.0 read is h.1 in
    let code = bound (code_by t.code d) _ h.0 all.0 all.1 in
    (code.0, code.1, code.2)

pub code_left : (w id n : ℕ) (t : AdmittedAbbreviation) (c d e : Cursor) (ns : List ℕ) → fixed w c ≡ Ok (id, d) → (id ≡ 3 → ⊥) → code_by t.code d ≡ Ok (n, e) → Leaves (operands_at w t c) ns → Leaves (left_by (Fields 0) t e) ns
unfolding left_by
code_left w id n t c d e ns read is code h = let all = other_start w id t c d ns read is h in (all.0, rw code at all.1)
