-- A reader on its way through a stream.
use Rattle.std.proofs.Common.{◌≡◌, ℕ, ◌+◌, ◌-◌, ◌<◌, Bool, true, false, List, [], ◌∷◌, ◌++◌, length, Option, Some, None, Ok, Err, refl, ap, subst, ◌∙◌, arith, inl, inr}
use Rattle.std.specs.Prelude.{◌⊎◌}
use Rattle.std.proofs.lemmas.List.{append-nil}
use Rattle.bit_stream.specs.Bits.Bits.{stream_bits}
use Rattle.bit_stream.specs.Bits.Cursor.{Cursor, Found}
use Rattle.bit_stream.specs.declared.bits.fault.BitFault.{BitFault}
use Rattle.bit_stream.specs.declared.entry.Entry.{Entry}
use Rattle.bit_stream.specs.declared.entry.Entry.TheVariants.{Block, EndBlock, Record, End}
use Rattle.bit_stream.specs.Scope.{Scope, top_level}
use Rattle.bit_stream.specs.Entry.{StreamItem, item, is_top, NextItem, here, refused, behind}
use Rattle.bit_stream.specs.Reader.{StreamReader, begins, untold, opened, Arrived, Entered}
use Rattle.bit_stream.specs.declared.fault.StreamFault.{StreamFault}
use Rattle.bit_stream.specs.declared.fault.StreamFault.TheVariants.{Bit, Memory}
use Rattle.bit_tree.specs.Read.{AllRead}
use Rattle.bit_tree.specs.Stream.{StreamTree, next_id, Stream, Shown, Stands, is_end, opening, stream_fault, entries}
use Rattle.bit_tree.proofs.Leaving.{IsWide, IsEnd, Goes, is_record, what_stands, top_wide}
use Rattle.bit_tree.specs.Pieces.{Piece, begun, ended, defines, holds}
use Rattle.bit_tree.proofs.Path.{Step, Path, stop, step, join, then, shown, all_shown, shown_join, way_wide, way_size, goes}
use Rattle.bit_tree.proofs.Faults.{fault_on, fault_here, to_stream, opening_size, piece_by}

-- the definitions in front of what stands there, and that
pub record Ahead (s : Scope) (c : Cursor) (r : Found StreamItem) : Type 0 where
  pub pieces : List Piece
  pub scope : Scope
  pub cursor : Cursor
  pub way : Path s c pieces scope cursor
  pub silent : all_shown pieces ≡ []
  pub stands : item scope cursor ≡ r

pub reached : {s : Scope} {c : Cursor} {r : Found StreamItem} → NextItem s c r → IsWide s → Ahead s c r
unfolding all_shown
reached (here h is) wide = record { pieces = []; scope = _; cursor = _; way = stop; silent = refl; stands = h }
reached (refused h) wide = record { pieces = []; scope = _; cursor = _; way = stop; silent = refl; stands = h }
reached {s = s} (behind {i = i} h is more) wide =
    let on = goes None i (record { reads = h; is = is }) refl wide in
    let def = on.abbreviation is in
    let later = reached more on.wide in
    record { pieces = defines (next_id s) def.0 ∷ later.pieces; scope = later.scope; cursor = later.cursor; way = step i (record { reads = h; is = is }, def.1, refl) later.way; silent = later.silent; stands = later.stands }

-- a reader that came from the opening, and the entries that it gave
pub record CameBy (bytes : List ℕ) (r : StreamReader) (all : List Shown) : Type 0 where
  pub magic : begins bytes ≡ true
  pub running : r.stopped ≡ None
  pub pieces : List Piece
  pub way : Path top_level (opening bytes) pieces r.scope r.cursor
  pub shows : all_shown pieces ≡ all

pub came_wide : (bytes : List ℕ) (r : StreamReader) (all : List Shown) → CameBy bytes r all → IsWide r.scope
came_wide bytes r all h = way_wide h.way top_wide

pub starts : (bytes : List ℕ) (r : StreamReader) → Ok r ≡ opened bytes → CameBy bytes r []
unfolding all_shown
starts bytes r h = by_test (begins bytes) refl h where
  by_test : (b : Bool) → begins bytes ≡ b → Ok r ≡ opened bytes → CameBy bytes r []
  by_test true magic h =
      let is : r ≡ record { cursor = opening bytes; scope = top_level; stopped = None; operands = []; blob = []; told = untold; definitions = [] } = cc (rw magic at h) in
      rw is (record { magic = magic; running = refl; pieces = []; way = stop; shows = refl })
  by_test false other h = let never = rw other at h in absurd (cc)

pub at_fault : (bytes : List ℕ) (r : StreamReader) (all : List Shown) (x : BitFault) → CameBy bytes r all → NextItem r.scope r.cursor (Err x) → stream_fault bytes ≡ Some x
at_fault bytes r all x h next =
    let on = reached next (came_wide bytes r all h) in
    let way = join h.way on.way in
    let size = way_size way top_wide in
    let before = opening_size bytes h.magic in
    let left = length (stream_bits bytes) - length (h.pieces ++ on.pieces) in
    let whole : length (stream_bits bytes) ≡ length (h.pieces ++ on.pieces) + left = omega (arith, size, before) in
    let some : 0 < left = omega (arith, size, before) in
    rw h.magic (fault_on _ left way whole ∙ fault_here left on.scope on.cursor x some on.stands)

no_bits : (bits : List Bool) → length bits ≡ 0 → bits ≡ []
no_bits [] h = refl
no_bits (b ∷ bits) h = absurd (omega arith)

-- where the end stands no block is open and no bit is left
pub ends_at : (s : Scope) (c d : Cursor) (i : StreamItem) → IsEnd s c i d ⊎ Goes s c i d → i.entry ≡ Some End → (is_top s ≡ true) × (c.rest ≡ [])
ends_at s c d i (inl end) is = (end.top, no_bits c.rest end.none)
ends_at s c d i (inr on) is = let never = rw is at on.depth in absurd never

pub at_end : (bytes : List ℕ) (r : StreamReader) (all : List Shown) (i : StreamItem) (d : Cursor) → CameBy bytes r all → NextItem r.scope r.cursor (Ok (i, d)) → i.entry ≡ Some End → (tree : StreamTree) × Stream bytes tree × (entries tree ≡ all)
at_end bytes r all i d h next is =
    let on = reached next (came_wide bytes r all h) in
    let way = join h.way on.way in
    let end = ends_at on.scope on.cursor d i (what_stands on.scope on.cursor d i (way_wide way top_wide) on.stands) is in
    let tree = to_stream bytes _ on.scope on.cursor h.magic way end.0 end.1 in
    (tree.0, tree.1, tree.2 ∙ (shown_join h.pieces on.pieces ∙ rw (on.silent, h.shows) (append-nil all)))

shown_is : (s : Scope) (c d : Cursor) (p : Piece) (i : StreamItem) (entry : Entry) → Step s c p i d → i.entry ≡ Some entry → (is_record i.entry ≡ false → (i.operands ≡ []) × (i.blob ≡ []))
    → shown p ≡ record { entry = entry; operands = i.operands; blob = i.blob } ∷ []
shown_is s c d (begun id width words) i entry h is bare =
    let e : entry ≡ Block id = cc (h.0.is, is) in
    let none = bare (rw h.0.is refl) in
    rw (e, none.0, none.1) refl
shown_is s c d ended i entry h is bare =
    let e : entry ≡ EndBlock = cc (h.is, is) in
    let none = bare (rw h.is refl) in
    rw (e, none.0, none.1) refl
shown_is s c d (defines id t) i entry h is bare = absurd (cc (h.0.is, is))
shown_is s c d (holds id code operands has_blob blob) i entry h is bare =
    let e : entry ≡ Record code = cc (h.0.is, is) in
    let all = h.1 in
    rw (e, all.operands, all.blob) refl

-- the item of an entry that a reader gave
abbrev pub given : Entry → StreamReader → StreamItem
given entry r = record { entry = Some entry; scope = r.scope; operands = r.operands; blob = r.blob }

pub goes_on : (bytes : List ℕ) (r new : StreamReader) (all : List Shown) (entry : Entry) → CameBy bytes r all → new.stopped ≡ None → NextItem r.scope r.cursor (Ok (given entry new, new.cursor)) → is_end (Some entry) ≡ false
    → CameBy bytes new (all ++ record { entry = entry; operands = new.operands; blob = new.blob } ∷ [])
unfolding all_shown
goes_on bytes r new all entry h running next more =
    let on = reached next (came_wide bytes r all h) in
    let way = join h.way on.way in
    let stands : Stands on.scope on.cursor (Some entry) (given entry new) new.cursor = record { reads = on.stands; is = refl } in
    let facts = goes (Some entry) (given entry new) stands more (way_wide way top_wide) in
    let piece = piece_by on.scope on.cursor new.cursor (given entry new) (Some entry) on.stands refl facts in
    let last = shown_is on.scope on.cursor new.cursor piece.0 (given entry new) entry piece.1 refl facts.bare in
    let all_of : all_shown ((h.pieces ++ on.pieces) ++ piece.0 ∷ []) ≡ all ++ record { entry = entry; operands = new.operands; blob = new.blob } ∷ []
    = shown_join (h.pieces ++ on.pieces) (piece.0 ∷ []) ∙ rw (shown_join h.pieces on.pieces, on.silent, h.shows, append-nil, append-nil, last) refl in
    record { magic = h.magic; running = running; pieces = (h.pieces ++ on.pieces) ++ piece.0 ∷ []; way = then piece.0 (given entry new) way piece.1; shows = all_of }

pub fewer : (bytes : List ℕ) (r new : StreamReader) (all : List Shown) (entry : Entry) → CameBy bytes r all → NextItem r.scope r.cursor (Ok (given entry new, new.cursor)) → is_end (Some entry) ≡ false → length new.cursor.rest < length r.cursor.rest
fewer bytes r new all entry h next more =
    let wide = came_wide bytes r all h in
    let on = reached next wide in
    let stands : Stands on.scope on.cursor (Some entry) (given entry new) new.cursor = record { reads = on.stands; is = refl } in
    let facts = goes (Some entry) (given entry new) stands more (way_wide on.way wide) in
    omega (arith, way_size on.way wide, facts.fewer)

-- what the reader's call says of a reader on its way

pub entered_ok : (bytes : List ℕ) (r new : StreamReader) (all : List Shown) (entry : Entry) → CameBy bytes r all → Entered r.stopped r (Ok entry) new → (new.stopped ≡ None) × NextItem r.scope r.cursor (Ok (given entry new, new.cursor)) × Arrived r entry new
entered_ok bytes r new all entry h e = subst (λ (x : Option StreamFault). Entered x r (Ok entry) new) h.running e

pub stops : (bytes : List ℕ) (r new : StreamReader) (all : List Shown) (x : StreamFault) → CameBy bytes r all → Entered r.stopped r (Err x) new → AllRead bytes (Err x)
stops bytes r new all (Bit x) h e = let all_of = subst (λ (y : Option StreamFault). Entered y r (Err (Bit x)) new) h.running e in at_fault bytes r all x h all_of.0
stops bytes r new all Memory h e = tt

pub is_last : (entry : Entry) → is_end (Some entry) ≡ true → entry ≡ End
is_last (Block id) h = absurd (cc)
is_last EndBlock h = absurd (cc)
is_last (Record code) h = absurd (cc)
is_last End h = refl

pub finished : (bytes : List ℕ) (r new : StreamReader) (all : List Shown) (entry : Entry) → CameBy bytes r all → Entered r.stopped r (Ok entry) new → is_end (Some entry) ≡ true → AllRead bytes (Ok all)
finished bytes r new all entry h e last =
    let one = entered_ok bytes r new all entry h e in
    at_end bytes r all (given entry new) new.cursor h one.1 (ap (λ (x : Entry). Some x) (is_last entry last))
