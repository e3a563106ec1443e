-- From one place of a judged stream to the next.
use Rattle.std.proofs.Common.{◌≡◌, ℕ, ◌≤◌, Bool, List, [], ◌∷◌, ◌++◌, Option, Some, None, Ok, Err, refl, sym, ap, ◌∙◌, inl, inr}
use Rattle.std.specs.Prelude.{◌&&◌, nat_le}
use Rattle.std.proofs.lemmas.Bool.{cases_Bool, leb-true}
use Rattle.bit_stream.specs.Bits.Cursor.{Cursor}
use Rattle.bit_stream.specs.Bits.Reading.{fixed}
use Rattle.bit_stream.specs.declared.bits.fault.BitFault.{BitFault}
use Rattle.bit_stream.specs.declared.entry.Entry.{Entry}
use Rattle.bit_stream.specs.declared.entry.Entry.TheVariants.{Block, EndBlock, Record, End}
use Rattle.bit_stream.specs.Abbreviation.{AdmittedAbbreviation, is_blob}
use Rattle.bit_stream.specs.Scope.{Scope, abbreviation_of}
use Rattle.bit_stream.specs.Entry.{StreamItem, item, id_at, number_of, has_blob_by, defined_at}
use Rattle.bit_tree.specs.Stream.{next_id}
use Rattle.bit_tree.specs.Pieces.{Piece, holds}
use Rattle.bit_dump.specs.declared.walk.event.Event.TheVariants.{Begun, Ended, Defined, Held}
use Rattle.bit_dump.specs.Walk.Starts.{Opened, IsKept}
use Rattle.bit_dump.specs.Walk.Passing.{pass_item}
use Rattle.bit_dump.specs.Walk.Left.{piece_at, Ahead, IsPlace, Steps}
use Rattle.bit_dump.specs.Walk.Values.{operands_at, Leaves}
use Rattle.bit_dump.specs.Walk.Walker.{Walker}
use Rattle.bit_dump.proofs.OnWalk.StaysInBits.{is_on}
use Rattle.bit_dump.proofs.OnWalk.PassedOver.{passes, fails}
use Rattle.bit_dump.proofs.OnWalk.Records.{operands_left}
use Rattle.bit_dump.proofs.OnWalk.Ways.{next_is, no_fault, end_is}

-- what was passed, and what is left behind it
record There (s n : Scope) (c d : Cursor) (e : Option Entry) (b : List ℕ) (ps : List Piece) : Type 0 where
  it : StreamItem
  reads : item s c ≡ Ok (it, d)
  entry : it.entry ≡ e
  scope : it.scope ≡ n
  blob : it.blob ≡ b
  others : List Piece
  are : ps ≡ piece_at e s c it ++ others
  ahead : Ahead n d others

abbrev Passes : Scope → Scope → Cursor → Cursor → Option Entry → List ℕ → Type 0
Passes s n c d e b = pass_item s c ≡ Ok (record { entry = e; scope = n; operands = []; blob = b }, d)

there : (s n : Scope) (c d : Cursor) (e : Option Entry) (b : List ℕ) (ps : List Piece) → Ahead s c ps → Passes s n c d e b → There s n c d e b ps
there s n c d e b ps left h =
    let x = passes s c d _ h in
    let next = next_is x.0 left x.1 in
    let entry : x.0.entry ≡ e = ap (λ (i : StreamItem). i.entry) x.2 in
    let scope : x.0.scope ≡ n = ap (λ (i : StreamItem). i.scope) x.2 in
    record {
      it = x.0;
      reads = x.1;
      entry = entry;
      scope = scope;
      blob = ap (λ (i : StreamItem). i.blob) x.2;
      others = next.others;
      are = rw entry at next.are;
      ahead = rw scope at next.ahead;
    }

pub step_begun : (s n : Scope) (c d : Cursor) (id : ℕ) (b : List ℕ) (ps : List Piece) (w : Walker) → Ahead s c ps → Passes s n c d (Some (Block id)) b → Steps ps (Some (Begun (record { id = id; width = n.block.width; words = n.block.words }))) w n d
step_begun s n c d id b ps w left h =
    let x = there s n c d (Some (Block id)) b ps left h in
    (x.others, rw x.scope at x.are, x.ahead)

pub step_ended : (s n : Scope) (c d : Cursor) (b : List ℕ) (ps : List Piece) (w : Walker) → Ahead s c ps → Passes s n c d (Some EndBlock) b → Steps ps (Some Ended) w n d
step_ended s n c d b ps w left h =
    let x = there s n c d (Some EndBlock) b ps left h in
    (x.others, x.are, x.ahead)

pub step_defined : (s n : Scope) (c d : Cursor) (b : List ℕ) (ps : List Piece) (w : Walker) → Ahead s c ps → Passes s n c d None b → defined_at s c ≡ Ok (w.abbreviation, d) → Steps ps (Some (Defined (next_id s))) w n d
step_defined s n c d b ps w left h def =
    let x = there s n c d None b ps left h in
    (x.others, rw def at x.are, x.ahead)

pub step_over : (s n : Scope) (c d : Cursor) (b : List ℕ) (ps : List Piece) (w : Walker) → Ahead s c ps → Passes s n c d (Some End) b → Steps ps None w n d
step_over s n c d b ps w left h =
    let x = passes s c d _ h in
    let end = end_is x.0 left x.1 (ap (λ (i : StreamItem). i.entry) x.2) in
    let scope : x.0.scope ≡ n = ap (λ (i : StreamItem). i.scope) x.2 in
    (end.0, rw scope at end.1)

-- a record by this abbreviation, or without one
blob_is : (s : Scope) (id : ℕ) (t : AdmittedAbbreviation) → (4 ≤ id → abbreviation_of s id ≡ Some t) → (nat_le 4 id && is_blob t.tail) ≡ has_blob_by s id
blob_is s id t by = elim (cases_Bool (nat_le 4 id)) [
  | inl far ↦ rw (far, by (leb-true 4 id far)) refl
  | inr near ↦ rw near refl
]

pub operands_there : (s n : Scope) (c d : Cursor) (code : ℕ) (b : List ℕ) (t : AdmittedAbbreviation) → Passes s n c d (Some (Record code)) b → (4 ≤ id_at s c → abbreviation_of s (id_at s c) ≡ Some t) → (ns : List ℕ) × Leaves (operands_at s.block.width t c) ns
operands_there s n c d code b t h by =
    let x = passes s c d _ h in
    (x.0.operands, operands_left s c d x.0 code t x.1 (ap (λ (i : StreamItem). i.entry) x.2) by)

same_holds : (id code : ℕ) (ns ms : List ℕ) (b e : Bool) (k l : List ℕ) → ns ≡ ms → b ≡ e → k ≡ l → holds id code ns b k ≡ holds id code ms e l
same_holds id code ns ms b e k l h g f = rw (h, g, f) refl

pub step_held : (s n : Scope) (c d : Cursor) (code : ℕ) (b : List ℕ) (t : AdmittedAbbreviation) (ps : List Piece) (w : Walker) → Ahead s c ps → Passes s n c d (Some (Record code)) b → (4 ≤ id_at s c → abbreviation_of s (id_at s c) ≡ Some t)
    → ((ns : List ℕ) → Leaves (operands_at s.block.width t c) ns → w.operands ≡ ns) → w.has_blob ≡ (nat_le 4 (number_of (fixed s.block.width c)) && is_blob t.tail) → w.blob ≡ b
    → Steps ps (Some (Held (record { id = number_of (fixed s.block.width c); code = code }))) w n d
unfolding id_at
step_held s n c d code b t ps w left h by operands has_blob blob =
    let x = there s n c d (Some (Record code)) b ps left h in
    let values : w.operands ≡ x.it.operands = operands x.it.operands (operands_left s c d x.it code t x.reads x.entry by) in
    let ends = has_blob ∙ blob_is s (number_of (fixed s.block.width c)) t by in
    let same = same_holds (number_of (fixed s.block.width c)) code x.it.operands w.operands (has_blob_by s (number_of (fixed s.block.width c))) w.has_blob x.it.blob w.blob (sym values) (sym ends) (x.blob ∙ sym blob) in
    (x.others, x.are ∙ ap (λ (p : Piece). p ∷ x.others) same, x.ahead)

-- the place behind what was passed

pub place_behind : (o n : Opened) (c d : Cursor) (e : Option Entry) (b : List ℕ) (start later : Option ℕ) (t u : AdmittedAbbreviation) → IsPlace o c start t → Passes o.scope n.scope c d e b → n.bits ≡ o.bits → IsKept o.bits later u → IsPlace n d later u
place_behind o n c d e b start later t u h passed bits kept =
    let x = there o.scope n.scope c d e b h.ahead.0 h.ahead.1 passed in
    record {
      ahead = (x.others, x.ahead);
      on = rw bits (is_on o.bits o.scope c d x.it h.on x.reads);
      kept = rw bits kept;
    }

pub never_refused : (o : Opened) (c : Cursor) (start : Option ℕ) (t : AdmittedAbbreviation) (fault : BitFault) → IsPlace o c start t → pass_item o.scope c ≡ Err fault → ⊥
never_refused o c start t fault h refused = no_fault fault h.ahead.1 (fails o.scope c fault refused)
