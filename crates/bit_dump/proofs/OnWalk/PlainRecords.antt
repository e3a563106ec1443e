-- A record without an abbreviation: where its head stands in a judged stream, the record does.
use Rattle.std.proofs.Common.{◌≡◌, ℕ, zero, suc, ◌-◌, ◌<◌, Bool, false, List, [], ◌∷◌, ◌++◌, Option, Some, None, Ok, Err, refl, sym, ap, ◌∙◌, inl, inr}
use Rattle.std.specs.Prelude.{◌==◌}
use Rattle.std.proofs.lemmas.Bool.{cases_Bool, eqb-true}
use Rattle.std.proofs.lemmas.Option.{same_Some}
use Rattle.bit_stream.specs.Bits.Cursor.{Cursor, Found, ◌>>=◌}
use Rattle.bit_stream.specs.Bits.Reading.{fixed, vbr}
use Rattle.bit_stream.specs.declared.bits.fault.BitFault.{BitFault}
use Rattle.bit_stream.specs.declared.entry.Entry.TheVariants.{Record}
use Rattle.bit_stream.specs.declared.abbreviation.ValueSpelling.{ValueSpelling}
use Rattle.bit_stream.specs.declared.abbreviation.ValueSpelling.TheVariants.{Chunks}
use Rattle.bit_stream.specs.Abbreviation.{AdmittedAbbreviation}
use Rattle.bit_stream.specs.Record.{ReadRecord, value_by, code_by, elements, counted, names_block, unabbreviated}
use Rattle.bit_stream.specs.Scope.{Scope}
use Rattle.bit_stream.specs.Entry.{StreamItem, item, inside, record_by, recorded, came, is_top, is_blockinfo, id_at}
use Rattle.bit_tree.specs.Pieces.{Piece, holds}
use Rattle.bit_dump.specs.declared.walk.event.Event.TheVariants.{Held}
use Rattle.bit_dump.specs.declared.walk.plain.PlainHead.{PlainHead}
use Rattle.bit_dump.specs.Walk.Left.{piece_at, Ahead, at_end, before, IsPlace, Steps}
use Rattle.bit_dump.specs.Walk.Passing as passing
use Rattle.bit_dump.specs.Walk.Passing.{with_first, pass_operand, pass_elements, pass_counted, pass_unabbreviated, pass_record, pass_inside, pass_item}
use Rattle.bit_dump.specs.Walk.Plain.{head_behind, head_at, place_past, found_of, IsWaiting}
use Rattle.bit_dump.specs.Walk.Starts.{Opened}
use Rattle.bit_dump.specs.Walk.Values.{repeated, IsRead, list_of}
use Rattle.bit_dump.specs.Walk.Walker.{Walker}
use Rattle.bit_dump.proofs.OnWalk.StaysInBits.{is_on}
use Rattle.bit_dump.proofs.OnWalk.Operands.{bound, found_parts, at_place, same_list, elements_repeated, repeated_next}

-- so many values are passed where they are read

passed_next : (s : ValueSpelling) (n : ℕ) (first more : Option ℕ) (v : ℕ) (c e d : Cursor) → value_by s c ≡ Ok (v, e) → pass_elements false s n (with_first first v) e ≡ Ok (more, d) → pass_elements false s (suc n) first c ≡ Ok (more, d)
unfolding pass_elements pass_operand
passed_next s n first more v c e d read h = rw read h

pub elements_passed : (s : ValueSpelling) (n : ℕ) (first : Option ℕ) (ns : List ℕ) (c d : Cursor) → repeated s n c ≡ Ok (ns, d) → (more : Option ℕ) × (pass_elements false s n first c ≡ Ok (more, d))
unfolding repeated pass_elements
elements_passed s zero first ns c d h = let last = found_parts [] ns c d h in (first, rw last.1 refl)
elements_passed s (suc n) first ns c d h =
    let one = bound (value_by s c) (λ v e. repeated s n e >>= λ vs f. Ok (v ∷ vs, f)) ns d h in
    let rest = bound (repeated s n one.1) (λ vs f. Ok (one.0 ∷ vs, f)) ns d one.3 in
    let last = found_parts (one.0 ∷ rest.0) ns rest.1 d rest.3 in
    let more = elements_passed s n (with_first first one.0) rest.0 one.1 d (at_place (repeated s n one.1) rest.0 rest.1 d rest.2 last.1) in
    (more.0, passed_next s n first more.0 one.0 c one.1 d one.2 more.1)

-- what is passed is never refused there, and ends where they do
pub never_stops : (n : ℕ) (c : Cursor) (fault : BitFault) → IsRead (repeated (Chunks 6) n c) → pass_elements false (Chunks 6) n None c ≡ Err fault → ⊥
never_stops n c fault read stops = let passed = (elements_passed (Chunks 6) n None read.0 c read.1.0 read.1.1).1 in cc

pub ends_past : (n : ℕ) (c d : Cursor) (first : Option ℕ) → IsRead (repeated (Chunks 6) n c) → pass_elements false (Chunks 6) n None c ≡ Ok (first, d) → d ≡ place_past c (repeated (Chunks 6) n c)
ends_past n c d first read passes =
    let passed = elements_passed (Chunks 6) n None read.0 c read.1.0 read.1.1 in
    let same = found_parts first passed.0 d read.1.0 (sym passes ∙ passed.1) in
    rw read.1.1 same.1

-- the parts of a head
record HeadIs (width : ℕ) (c inner : Cursor) (head : PlainHead) : Type 0 where
  behind : Cursor
  id : fixed width c ≡ Ok (3, behind)
  middle : Cursor
  code : code_by (Chunks 6) behind ≡ Ok (head.code, middle)
  count : vbr 6 middle ≡ Ok (head.count, inner)

never_none : (head : PlainHead) → let none : Option PlainHead = None in none ≡ Some head → ⊥
never_none head h = absurd (cc)

parts_behind : (width id : ℕ) (c d inner : Cursor) (head : PlainHead) → fixed width c ≡ Ok (id, d) → head_behind id d ≡ Ok (Some head, inner) → HeadIs width c inner head
parts_behind width id c d inner head read h = elim (cases_Bool (id == 3)) [
  | inl is ↦
      let code = bound (code_by (Chunks 6) d) _ (Some head) inner (rw is at h) in
      let count = bound (vbr 6 code.1) _ (Some head) inner code.3 in
      let one : PlainHead = record { code = code.0; count = count.0 } in
      let last = found_parts (Some one) (Some head) count.1 inner count.3 in
      let same : one ≡ head = same_Some one head last.0 in
      let code_same : code.0 ≡ head.code = ap (λ (x : PlainHead). x.code) same in
      let count_same : count.0 ≡ head.count = ap (λ (x : PlainHead). x.count) same in
      record {
        behind = d;
        id = rw (eqb-true id 3 is) at read;
        middle = code.1;
        code = rw code_same at code.2;
        count = rw (count_same, last.1) at count.2;
      }
  | inr differs ↦
      let none : Option PlainHead = None in
      let last = found_parts none (Some head) d inner (rw differs at h) in
      absurd (never_none head last.0)
]

head_is : (width : ℕ) (c inner : Cursor) (head : PlainHead) → head_at width c ≡ Ok (Some head, inner) → HeadIs width c inner head
unfolding head_at
head_is width c inner head h =
    let id = bound (fixed width c) _ (Some head) inner h in
    parts_behind width id.0 c id.1 inner head id.2 id.3

-- the record that stands there
record PlainItem (s : Scope) (d inner : Cursor) (i : StreamItem) (head : PlainHead) : Type 0 where
  entry : i.entry ≡ Some (Record head.code)
  scope : i.scope ≡ s
  blob : i.blob ≡ []
  values : repeated (Chunks 6) head.count inner ≡ Ok (i.operands, d)

-- behind its values
abbrev behind_values : ℕ → List ℕ → Cursor → Found ReadRecord
behind_values code all f = Ok (record { code = code; operands = all; blob = [] }, f)

-- its values
record PlainValues (inner d : Cursor) (head : PlainHead) (r : ReadRecord) : Type 0 where
  code : r.code ≡ head.code
  blob : r.blob ≡ []
  values : repeated (Chunks 6) head.count inner ≡ Ok (r.operands, d)

counted_values : (b : Bool) (count : ℕ) (all : List ℕ) (c d e : Cursor) → vbr 6 c ≡ Ok (count, d) → counted b (Chunks 6) [] c ≡ Ok (all, e) → elements b (Chunks 6) count [] d ≡ Ok (all, e)
unfolding counted
counted_values b count all c d e read h = rw read at h

counted_behind : (b : Bool) (code : ℕ) (r : ReadRecord) (c e d : Cursor) → code_by (Chunks 6) c ≡ Ok (code, e) → unabbreviated b c ≡ Ok (r, d)
    → (counted (names_block b code) (Chunks 6) [] e >>= λ all f. behind_values code all f) ≡ Ok (r, d)
unfolding unabbreviated
counted_behind b code r c e d read h = rw read at h

plain_values : (b : Bool) (width : ℕ) (place inner : Cursor) (head : PlainHead) (r : ReadRecord) (d : Cursor) → (h : HeadIs width place inner head) → unabbreviated b h.behind ≡ Ok (r, d) → PlainValues inner d head r
plain_values b width place inner head r d h reads =
    let more = bound (counted (names_block b head.code) (Chunks 6) [] h.middle) (λ all f. behind_values head.code all f) r d (counted_behind b head.code r h.behind h.middle d h.code reads) in
    let all = elements_repeated (names_block b head.code) (Chunks 6) head.count [] more.0 inner more.1 (counted_values (names_block b head.code) head.count more.0 h.middle inner more.1 h.count more.2) in
    let one : ReadRecord = record { code = head.code; operands = more.0; blob = [] } in
    let last = found_parts one r more.1 d more.3 in
    let operands : all.0 ≡ r.operands = sym all.2 ∙ ap (λ (x : ReadRecord). x.operands) last.0 in
    record {
      code = sym (ap (λ (x : ReadRecord). x.code) last.0);
      blob = sym (ap (λ (x : ReadRecord). x.blob) last.0);
      values = at_place (repeated (Chunks 6) head.count inner) r.operands more.1 d (same_list (repeated (Chunks 6) head.count inner) all.0 r.operands more.1 all.1 operands) last.1;
    }

behind_head : (s : Scope) (c inner d : Cursor) (i : StreamItem) (head : PlainHead) → is_top s ≡ false → (h : HeadIs s.block.width c inner head) → item s c ≡ Ok (i, d) → record_by 3 c.at s h.behind ≡ Ok (i, d)
unfolding item inside
behind_head s c inner d i head within h reads = rw (within, h.id) at reads

came_plain : (bit : ℕ) (s : Scope) (r : ReadRecord) (c d : Cursor) (i : StreamItem) → is_blockinfo s ≡ false → came r c (recorded bit s r.code r.operands) ≡ Ok (i, d) → came r c (Ok s) ≡ Ok (i, d)
unfolding recorded
came_plain bit s r c d i other h = rw other at h

plain_item : (s : Scope) (c inner d : Cursor) (i : StreamItem) (head : PlainHead) → is_top s ≡ false → is_blockinfo s ≡ false → HeadIs s.block.width c inner head → item s c ≡ Ok (i, d) → PlainItem s d inner i head
unfolding record_by
plain_item s c inner d i head within other h reads =
    let stands = behind_head s c inner d i head within h reads in
    let all = bound (unabbreviated (is_blockinfo s) h.behind) _ i d stands in
    let values = plain_values (is_blockinfo s) s.block.width c inner head all.0 all.1 h all.2 in
    let it : StreamItem = record { entry = Some (Record all.0.code); scope = s; operands = all.0.operands; blob = all.0.blob } in
    let last = found_parts it i all.1 d (came_plain c.at s all.0 all.1 d i other all.3) in
    let entry : Some (Record all.0.code) ≡ i.entry = ap (λ (x : StreamItem). x.entry) last.0 in
    record {
      entry = sym entry ∙ ap (λ (n : ℕ). Some (Record n)) values.code;
      scope = sym (ap (λ (x : StreamItem). x.scope) last.0);
      blob = sym (ap (λ (x : StreamItem). x.blob) last.0) ∙ values.blob;
      values = at_place (repeated (Chunks 6) head.count inner) i.operands all.1 d (same_list (repeated (Chunks 6) head.count inner) all.0.operands i.operands all.1 values.values (ap (λ (x : StreamItem). x.operands) last.0)) last.1;
    }

-- in a judged stream: the record is the next, and the others are behind its operands
pub record Begins (s : Scope) (c inner : Cursor) (head : PlainHead) (ps : List Piece) : Type 0 where
  pub operands : List ℕ
  pub end : Cursor
  pub it : StreamItem
  pub reads : item s c ≡ Ok (it, end)
  pub values : repeated (Chunks 6) head.count inner ≡ Ok (operands, end)
  pub others : List Piece
  pub are : ps ≡ holds 3 head.code operands false [] ∷ others
  pub ahead : Ahead s end others

piece_is : (s : Scope) (c inner d : Cursor) (i : StreamItem) (head : PlainHead) → HeadIs s.block.width c inner head → PlainItem s d inner i head → piece_at i.entry s c i ≡ holds 3 head.code i.operands false [] ∷ []
unfolding id_at
piece_is s c inner d i head h is = rw (is.entry, h.id, is.blob) refl

pub begins : {s : Scope} {c : Cursor} {ps : List Piece} (inner : Cursor) (head : PlainHead) → is_top s ≡ false → is_blockinfo s ≡ false → head_at s.block.width c ≡ Ok (Some head, inner) → Ahead s c ps → Begins s c inner head ps
begins inner head within other h (at_end top none) = absurd (cc)
begins {s} {c} inner head within other h (before {d = d} {i = i} {ps = ps} reads more fewer rest) =
    let parts = head_is s.block.width c inner head h in
    let is = plain_item s c inner d i head within other parts reads in
    record {
      operands = i.operands;
      end = d;
      it = i;
      reads = reads;
      values = is.values;
      others = ps;
      are = ap (λ (l : List Piece). l ++ ps) (piece_is s c inner d i head parts is);
      ahead = rw is.scope at rest;
    }

-- a walker steps over it

holds_is : (code : ℕ) (ns ms : List ℕ) (b : Bool) (k : List ℕ) → ns ≡ ms → b ≡ false → k ≡ [] → holds 3 code ms false [] ≡ holds 3 code ns b k
holds_is code ns ms b k h g f = rw (h, g, f) refl

pub plain_step : (s : Scope) (c inner : Cursor) (head : PlainHead) (ps : List Piece) (w : Walker) → is_top s ≡ false → is_blockinfo s ≡ false → head_at s.block.width c ≡ Ok (Some head, inner) → Ahead s c ps
    → w.operands ≡ list_of (repeated (Chunks 6) head.count inner) → w.has_blob ≡ false → w.blob ≡ []
    → Steps ps (Some (Held (record { id = 3; code = head.code }))) w s (place_past inner (repeated (Chunks 6) head.count inner))
plain_step s c inner head ps w within other h ahead operands has_blob blob =
    let x = begins {s = s} {c = c} {ps = ps} inner head within other h ahead in
    let values : w.operands ≡ x.operands = operands ∙ rw x.values refl in
    let same = holds_is head.code w.operands x.operands w.has_blob w.blob values has_blob blob in
    (x.others, x.are ∙ ap (λ (p : Piece). p ∷ x.others) same, rw x.values x.ahead)

pub plain_place : (o : Opened) (c inner : Cursor) (head : PlainHead) (start : Option ℕ) (t : AdmittedAbbreviation) → is_top o.scope ≡ false → is_blockinfo o.scope ≡ false → head_at o.scope.block.width c ≡ Ok (Some head, inner) → IsPlace o c start t
    → IsPlace o (place_past inner (repeated (Chunks 6) head.count inner)) start t
plain_place o c inner head start t within other h place =
    let x = begins {s = o.scope} {c = c} {ps = place.ahead.0} inner head within other h place.ahead.1 in
    rw x.values (record {
      ahead = (x.others, x.ahead);
      on = is_on o.bits o.scope c x.end x.it place.on x.reads;
      kept = place.kept;
    })

pub plain_read : (o : Opened) (c inner : Cursor) (head : PlainHead) (start : Option ℕ) (t : AdmittedAbbreviation) → is_top o.scope ≡ false → is_blockinfo o.scope ≡ false → head_at o.scope.block.width c ≡ Ok (Some head, inner) → IsPlace o c start t
    → IsRead (repeated (Chunks 6) head.count inner)
plain_read o c inner head start t within other h place =
    let x = begins {s = o.scope} {c = c} {ps = place.ahead.0} inner head within other h place.ahead.1 in
    (x.operands, (x.end, x.values))

-- it is passed over so, too
pub passes_plain : (s : Scope) (c inner d : Cursor) (head : PlainHead) (first : Option ℕ) → is_top s ≡ false → is_blockinfo s ≡ false → head_at s.block.width c ≡ Ok (Some head, inner)
    → pass_elements false (Chunks 6) head.count None inner ≡ Ok (first, d)
    → pass_item s c ≡ Ok (record { entry = Some (Record head.code); scope = s; operands = []; blob = [] }, d)
unfolding pass_item pass_inside pass_record pass_unabbreviated pass_counted passing.recorded
passes_plain s c inner d head first within other h elements =
    let parts = head_is s.block.width c inner head h in
    rw (within, parts.id, other, parts.code, parts.count, elements) refl

-- those that wait are read
pub waiting_read : (waiting : Option ℕ) (inner : Cursor) (found : Found (List ℕ)) → IsRead (found_of waiting inner found) → IsWaiting waiting inner
waiting_read None inner found h = tt
waiting_read (Some count) inner found h = h

-- one more of them is taken

past_more : (v : ℕ) (c d e : Cursor) (ns : List ℕ) (f : Found (List ℕ)) → (f >>= λ vs g. Ok (v ∷ vs, g)) ≡ Ok (ns, e) → place_past c (f >>= λ vs g. Ok (v ∷ vs, g)) ≡ place_past d f
past_more v c d e ns (Ok x) h = refl
past_more v c d e ns (Err fault) h = absurd (cc)

pub repeated_past : (s : ValueSpelling) (k : ℕ) (c d : Cursor) (v : ℕ) → 0 < k → value_by s c ≡ Ok (v, d) → IsRead (repeated s k c) → place_past c (repeated s k c) ≡ place_past d (repeated s (k - 1) d)
repeated_past s k c d v some read h = rw (repeated_next s k c some, read) (past_more v c d h.1.0 h.0 (repeated s (k - 1) d) (rw (repeated_next s k c some, read) at h.1.1))
