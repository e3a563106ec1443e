-- A reader on its way through a stream, and the pieces that it passed.
use Rattle.std.proofs.Common.{◌≡◌, ℕ, ◌+◌, ◌-◌, ◌<◌, Bool, true, false, List, [], ◌∷◌, ◌++◌, length, Option, Some, None, Ok, Err, refl, sym, ap, subst, ◌∙◌, arith, length-append, map}
use Rattle.bit_stream.specs.Bits.Bits.{stream_bits}
use Rattle.bit_stream.specs.Bits.Cursor.{Cursor, Found}
use Rattle.bit_stream.specs.declared.bits.fault.BitFault.{BitFault}
use Rattle.bit_stream.specs.declared.abbreviation.AbbrevOp.{AbbrevOp}
use Rattle.bit_stream.specs.declared.entry.Entry.{Entry}
use Rattle.bit_stream.specs.declared.entry.Entry.TheVariants.{Block, EndBlock, Record, End}
use Rattle.bit_stream.specs.declared.fault.StreamFault.{StreamFault}
use Rattle.bit_stream.specs.declared.fault.StreamFault.TheVariants.{Bit, Memory}
use Rattle.bit_stream.specs.Abbreviation.{AdmittedAbbreviation, ops_of}
use Rattle.bit_stream.specs.Scope.{Scope, top_level}
use Rattle.bit_stream.specs.declared.told.LastSeen.{LastSeen}
use Rattle.bit_stream.specs.Entry.{id_at, has_blob_by, with_definition, NextItem, OnlyDefinitions, start, more}
use Rattle.bit_stream.specs.Reader.{StreamReader, begins, untold, opened, told_of, Arrived, Entered}
use Rattle.bit_tree.specs.Read.{Judged}
use Rattle.bit_tree.specs.Stream.{StreamTree, Stream, Stands, next_id, is_end, opening, stream_fault}
use Rattle.bit_tree.specs.Pieces.{Piece, begun, ended, defines, holds, flat}
use Rattle.bit_tree.proofs.Leaving.{IsWide, what_stands, top_wide}
use Rattle.bit_tree.proofs.Path.{Path, stop, step, join, then, way_wide, way_size, goes}
use Rattle.bit_tree.proofs.Faults.{fault_on, fault_here, to_stream_of, opening_size}
use Rattle.bit_tree.proofs.Reading.{reached, given, ends_at, is_last}

-- definitions one behind another, the first for this abbreviation id
unfoldable pub defining : ℕ → List AdmittedAbbreviation → List Piece
defining id [] = []
defining id (t ∷ ts) = defines id t ∷ defining (id + 1) ts

defining_one_more : (id : ℕ) (ts : List AdmittedAbbreviation) (t : AdmittedAbbreviation) → defining id (ts ++ t ∷ []) ≡ defining id ts ++ defines (id + length ts) t ∷ []
unfolding defining
defining_one_more id [] t = let same : id + 0 ≡ id = omega arith in rw same refl
defining_one_more id (x ∷ ts) t =
    let same : id + 1 + length ts ≡ id + length (x ∷ ts) = omega arith in
    rw (defining_one_more (id + 1) ts t, same) refl

map_one_more : (ts : List AdmittedAbbreviation) (t : AdmittedAbbreviation) → map ops_of (ts ++ t ∷ []) ≡ map ops_of ts ++ ops_of t ∷ []
map_one_more [] t = refl
map_one_more (x ∷ ts) t = rw (map_one_more ts t) refl

with_one : (front : List (List AbbrevOp)) (f : Found AdmittedAbbreviation) (ts : List AdmittedAbbreviation) (t : AdmittedAbbreviation) (d : Cursor) → f ≡ Ok (t, d) → front ≡ map ops_of ts → with_definition front f ≡ map ops_of (ts ++ t ∷ [])
with_one front f ts t d is are = rw (is, are, map_one_more ts t) refl

-- the way over definitions alone
pub record Defining (s : Scope) (c : Cursor) (definitions : List (List AbbrevOp)) (t : Scope) (d : Cursor) : Type 0 where
  pub abbreviations : List AdmittedAbbreviation
  pub are : definitions ≡ map ops_of abbreviations
  pub way : Path s c (defining (next_id s) abbreviations) t d
  pub next : next_id t ≡ next_id s + length abbreviations

pub over : {s t : Scope} {c d : Cursor} {definitions : List (List AbbrevOp)} → OnlyDefinitions s c definitions t d → IsWide s → Defining s c definitions t d
unfolding defining
over {s} start wide = record { abbreviations = []; are = refl; way = stop; next = omega arith }
over {s} (more {i = i} before h is) wide =
    let so_far = over before wide in
    let here : Stands _ _ None i _ = record { reads = h; is = is } in
    let on = goes None i here refl (way_wide so_far.way wide) in
    let def = on.abbreviation is in
    let count = on.next is in
    let one : List AdmittedAbbreviation = def.0 ∷ [] in
    record {
      abbreviations = so_far.abbreviations ++ one;
      are = with_one _ _ _ _ _ def.1 so_far.are;
      way = rw (defining_one_more (next_id s) so_far.abbreviations def.0) (then (defines (next_id s + length so_far.abbreviations) def.0) i so_far.way (here, def.1, so_far.next));
      next = omega (arith, count, so_far.next, length-append so_far.abbreviations one);
    }

-- the piece of an entry that a reader gave; the end of the stream is none
abbrev pub entry_piece : Entry → StreamReader → List Piece
entry_piece (Block id) r = begun id r.told.width r.told.words ∷ []
entry_piece EndBlock r = ended ∷ []
entry_piece (Record code) r = holds r.told.abbreviation code r.operands r.told.has_blob r.blob ∷ []
entry_piece End r = []

-- a reader came from the opening over these pieces
pub record Came (bytes : List ℕ) (r : StreamReader) (pieces : List Piece) : Type 0 where
  pub magic : begins bytes ≡ true
  pub running : r.stopped ≡ None
  pub way : Path top_level (opening bytes) pieces r.scope r.cursor

pub came_wide : {bytes : List ℕ} {r : StreamReader} {ps : List Piece} → Came bytes r ps → IsWide r.scope
came_wide h = way_wide h.way top_wide

pub sets_out : (bytes : List ℕ) (r : StreamReader) → Ok r ≡ opened bytes → Came bytes r []
sets_out bytes r h = by_test (begins bytes) refl h where
  by_test : (b : Bool) → begins bytes ≡ b → Ok r ≡ opened bytes → Came bytes r []
  by_test true magic h =
      let is : r ≡ record { cursor = opening bytes; scope = top_level; stopped = None; operands = []; blob = []; told = untold; definitions = [] } = cc (rw magic at h) in
      rw is (record { magic = magic; running = refl; way = stop })
  by_test false other h = let never = rw other at h in absurd (cc)

pub arrived : {bytes : List ℕ} {r new : StreamReader} {entry : Entry} {ps : List Piece} → Came bytes r ps → Entered r.stopped r (Ok entry) new → (new.stopped ≡ None) × NextItem r.scope r.cursor (Ok (given entry new, new.cursor)) × Arrived r entry new
arrived {r = r} {new = new} {entry = entry} h e = subst (λ (x : Option StreamFault). Entered x r (Ok entry) new) h.running e

step_of : (s : Scope) (c : Cursor) (r new : StreamReader) (entry : Entry) → Stands s c (Some entry) (given entry new) new.cursor → new.told ≡ told_of r.told entry new.scope (id_at s c) (has_blob_by s (id_at s c)) → is_end (Some entry) ≡ false → Path s c (entry_piece entry new) new.scope new.cursor
step_of s c r new (Block id) h told further = step (given (Block id) new) (h, sym (ap (λ (t : LastSeen). t.width) told), sym (ap (λ (t : LastSeen). t.words) told)) stop
step_of s c r new EndBlock h told further = step (given EndBlock new) h stop
step_of s c r new (Record code) h told further =
    let id = sym (ap (λ (t : LastSeen). t.abbreviation) told) in
    let blob = sym (ap (λ (t : LastSeen). t.has_blob) told) in
    step (given (Record code) new) (h, record { id = id; operands = refl; has_blob = blob; blob = refl }) stop
step_of s c r new End h told further = absurd (cc)

-- a reader gave an entry: it came over the definitions in front of it, and over that
pub record On (bytes : List ℕ) (r : StreamReader) (entry : Entry) (new : StreamReader) (ps : List Piece) : Type 0 where
  pub abbreviations : List AdmittedAbbreviation
  pub are : new.definitions ≡ map ops_of abbreviations
  pub came : Came bytes new (ps ++ (defining (next_id r.scope) abbreviations ++ entry_piece entry new))

pub goes_over : (bytes : List ℕ) (r new : StreamReader) (entry : Entry) (ps : List Piece) → Came bytes r ps → Entered r.stopped r (Ok entry) new → is_end (Some entry) ≡ false → On bytes r entry new ps
goes_over bytes r new entry ps h e further =
    let all = arrived h e in
    let there = all.2 in
    let front = over there.passed (came_wide h) in
    let last = step_of there.scope there.cursor r new entry (record { reads = there.stands; is = refl }) there.told further in
    record { abbreviations = front.abbreviations; are = front.are; came = record { magic = h.magic; running = all.0; way = join h.way (join front.way last) } }

pub comes_nearer : (bytes : List ℕ) (r new : StreamReader) (entry : Entry) (ps : List Piece) → Came bytes r ps → Entered r.stopped r (Ok entry) new → is_end (Some entry) ≡ false → length new.cursor.rest < length r.cursor.rest
comes_nearer bytes r new entry ps h e further =
    let wide = came_wide h in
    let there = (arrived h e).2 in
    let front = over there.passed wide in
    let facts = goes (Some entry) (given entry new) (record { reads = there.stands; is = refl }) further (way_wide front.way wide) in
    omega (arith, way_size front.way wide, facts.fewer)

-- a field is refused
pub comes_to_fault : (bytes : List ℕ) (r : StreamReader) (ps : List Piece) (x : BitFault) → Came bytes r ps → NextItem r.scope r.cursor (Err x) → stream_fault bytes ≡ Some x
comes_to_fault bytes r ps x h next =
    let on = reached next (came_wide h) in
    let way = join h.way on.way in
    let size = way_size way top_wide in
    let before = opening_size bytes h.magic in
    let left = length (stream_bits bytes) - length (ps ++ on.pieces) in
    let whole : length (stream_bits bytes) ≡ length (ps ++ on.pieces) + left = omega (arith, size, before) in
    let some : 0 < left = omega (arith, size, before) in
    rw h.magic (fault_on _ left way whole ∙ fault_here left on.scope on.cursor x some on.stands)

-- the end of the stream: it is a tree, whose pieces are those that were passed
pub record Whole (bytes : List ℕ) (r new : StreamReader) (entry : Entry) (ps : List Piece) : Type 0 where
  pub last : entry ≡ End
  pub abbreviations : List AdmittedAbbreviation
  pub are : new.definitions ≡ map ops_of abbreviations
  pub tree : StreamTree
  pub stream : Stream bytes tree
  pub pieces : flat tree ≡ ps ++ defining (next_id r.scope) abbreviations

pub comes_to_end : (bytes : List ℕ) (r new : StreamReader) (entry : Entry) (ps : List Piece) → Came bytes r ps → Entered r.stopped r (Ok entry) new → entry ≡ End → Whole bytes r new entry ps
comes_to_end bytes r new entry ps h e last =
    let there = (arrived h e).2 in
    let front = over there.passed (came_wide h) in
    let way = join h.way front.way in
    let end = ends_at there.scope there.cursor new.cursor (given entry new) (what_stands there.scope there.cursor new.cursor (given entry new) (way_wide way top_wide) there.stands) (ap (λ (x : Entry). Some x) last) in
    let tree = to_stream_of bytes _ there.scope there.cursor h.magic way end.0 end.1 in
    record { last = last; abbreviations = front.abbreviations; are = front.are; tree = tree.0; stream = tree.1; pieces = tree.2 }

-- what the reader's call says of a judged stream

pub ended_by : (bytes : List ℕ) (r new : StreamReader) (entry : Entry) (ps : List Piece) → Came bytes r ps → Entered r.stopped r (Ok entry) new → is_end (Some entry) ≡ true → Whole bytes r new entry ps
ended_by bytes r new entry ps h e last = comes_to_end bytes r new entry ps h e (is_last entry last)

pub stopped_by : (bytes : List ℕ) (r new : StreamReader) (ps : List Piece) (x : StreamFault) → Came bytes r ps → Entered r.stopped r (Err x) new → Judged bytes (Err x)
stopped_by bytes r new ps (Bit x) h e = let all_of = subst (λ (y : Option StreamFault). Entered y r (Err (Bit x)) new) h.running e in comes_to_fault bytes r ps x h all_of.0
stopped_by bytes r new ps Memory h e = tt
