-- Each stream is a tree, or a field of it is refused.
use Rattle.std.proofs.Common.{◌≡◌, ℕ, zero, suc, ◌+◌, ◌-◌, ◌<◌, ◌≤◌, Bool, true, false, List, [], ◌∷◌, length, Option, Some, None, Ok, Err, refl, sym, ap, ◌∙◌, arith, inl, inr, length-drop}
use Rattle.std.specs.Prelude.{◌⊎◌}
use Rattle.std.proofs.lemmas.Bool.{eqb-true, ltb-false, cases_Bool, and_parts, not-true}
use Rattle.bit_stream.specs.Bits.Bits.{stream_bits}
use Rattle.bit_stream.specs.Bits.Cursor.{Cursor, Found}
use Rattle.bit_stream.specs.declared.bits.fault.BitFault.{BitFault}
use Rattle.bit_stream.specs.declared.bits.fault.BitFaultKind.TheVariants.{BadMagic}
use Rattle.bit_stream.proofs.OnBits.BitsLaws.{length-stream_bits}
use Rattle.bit_stream.specs.declared.entry.Entry.{Entry}
use Rattle.bit_stream.specs.declared.entry.Entry.TheVariants.{Block, EndBlock, Record, End}
use Rattle.bit_stream.specs.Scope.{Scope, top_level}
use Rattle.bit_stream.specs.Entry.{StreamItem, item, is_top, plain, id_at, has_blob_by}
use Rattle.bit_stream.specs.Reader.{begins}
use Rattle.bit_tree.specs.Stream.{StreamTree, next_id, opening, Stream, is_end, fault_from, stream_fault, entries}
use Rattle.bit_tree.proofs.Leaving.{IsWide, IsEnd, Goes, what_stands, top_wide}
use Rattle.bit_tree.specs.Pieces.{Piece, begun, ended, defines, holds, flat}
use Rattle.bit_tree.proofs.Path.{Step, Path, stop, step, all_shown, flat_shown, from_tree, to_tree, stands, no_end, way_size}

-- a fault behind a way is the first from its start on
pub fault_on : {s t : Scope} {c e : Cursor} {ps : List Piece} (m n : ℕ) → Path s c ps t e → m ≡ length ps + n → fault_from m s c ≡ fault_from n t e
unfolding fault_from
fault_on m n stop is = let same : m ≡ n = omega (arith, is) in rw same refl
fault_on zero n (step i first rest) is = absurd (omega (arith, is))
fault_on (suc m) n (step i {p = p} first rest) is =
    let here = stands p i first in
    let goes_on : is_end i.entry ≡ false = rw here.is (no_end p) in
    rw (here.reads, goes_on) (fault_on m n rest (omega (arith, is)))

pub fault_here : (n : ℕ) (s : Scope) (c : Cursor) (x : BitFault) → 0 < n → item s c ≡ Err x → fault_from n s c ≡ Some x
unfolding fault_from
fault_here zero s c x some h = absurd (omega arith)
fault_here (suc n) s c x some h = rw h refl

pub no_fault_here : (n : ℕ) (s : Scope) (c d : Cursor) (i : StreamItem) → item s c ≡ Ok (i, d) → i.entry ≡ Some End → fault_from n s c ≡ None
unfolding fault_from
no_fault_here zero s c d i h is = refl
no_fault_here (suc n) s c d i h is = rw (h, is) refl

-- from here a way leads to the end of the stream
pub record Ends (s : Scope) (c : Cursor) : Type 0 where
  pub pieces : List Piece
  pub scope : Scope
  pub cursor : Cursor
  pub way : Path s c pieces scope cursor
  pub top : is_top scope ≡ true
  pub none : cursor.rest ≡ []

no_items : (bits : List Bool) → length bits ≡ 0 → bits ≡ []
no_items [] h = refl
no_items (b ∷ bits) h = absurd (omega arith)

ends_here : (s : Scope) (c d : Cursor) (i : StreamItem) → IsEnd s c i d → Ends s c
ends_here s c d i end = record { pieces = []; scope = s; cursor = c; way = stop; top = end.top; none = no_items c.rest end.none }

ends_behind : (s : Scope) (c d : Cursor) (i : StreamItem) (p : Piece) → Step s c p i d → Ends i.scope d → Ends s c
ends_behind s c d i p first on = record { pieces = p ∷ on.pieces; scope = on.scope; cursor = on.cursor; way = step i first on.way; top = on.top; none = on.none }

-- the piece that stands here
pub piece_by : (s : Scope) (c d : Cursor) (i : StreamItem) (e : Option Entry) → item s c ≡ Ok (i, d) → i.entry ≡ e → Goes s c i d → (p : Piece) × Step s c p i d
piece_by s c d i None h is on = let def = on.abbreviation is in (defines (next_id s) def.0, (record { reads = h; is = is }, def.1, refl))
piece_by s c d i (Some (Block id)) h is on = (begun id i.scope.block.width i.scope.block.words, (record { reads = h; is = is }, refl, refl))
piece_by s c d i (Some EndBlock) h is on = (ended, record { reads = h; is = is })
piece_by s c d i (Some (Record code)) h is on = (holds (id_at s c) code i.operands (has_blob_by s (id_at s c)) i.blob, (record { reads = h; is = is }, record { id = refl; operands = refl; has_blob = refl; blob = refl }))
piece_by s c d i (Some End) h is on = let no = rw is at on.depth in absurd no

pub either_way : (n : ℕ) (s : Scope) (c : Cursor) → IsWide s → length c.rest < n → Ends s c ⊎ ((x : BitFault) × (fault_from n s c ≡ Some x))
unfolding fault_from
either_way zero s c wide few = absurd (omega arith)
either_way (suc n) s c wide few = by_item (λ t d wider fewer. either_way n t d wider fewer) (item s c) refl where
  behind : (d : Cursor) (i : StreamItem) (p : Piece) → Step s c p i d → item s c ≡ Ok (i, d) → Ends i.scope d ⊎ ((x : BitFault) × (fault_from n i.scope d ≡ Some x)) → Ends s c ⊎ ((x : BitFault) × (fault_from (suc n) s c ≡ Some x))
  behind d i p first h (inl on) = inl (ends_behind s c d i p first on)
  behind d i p first h (inr on) =
      let goes_on : is_end i.entry ≡ false = rw (stands p i first).is (no_end p) in
      inr (on.0, rw (h, goes_on) on.1)

  by_item : ((t : Scope) (d : Cursor) → IsWide t → length d.rest < n → Ends t d ⊎ ((x : BitFault) × (fault_from n t d ≡ Some x))) → (f : Found StreamItem) → item s c ≡ f → Ends s c ⊎ ((x : BitFault) × (fault_from (suc n) s c ≡ Some x))
  by_item more (Err x) h = inr (x, rw h refl)
  by_item more (Ok x) h = elim (what_stands s c x.1 x.0 wide h) [
    | inl end ↦ inl (ends_here s c x.1 x.0 end)
    | inr on ↦
        let piece = piece_by s c x.1 x.0 x.0.entry h refl on in
        behind x.1 x.0 piece.0 piece.1 h (more x.0.scope x.1 on.wide (omega (arith, on.fewer)))
  ]

pub end_stands : (s : Scope) (c : Cursor) → is_top s ≡ true → c.rest ≡ [] → item s c ≡ Ok (plain (Some End) s, c)
unfolding item
end_stands s c top none = rw (top, none) refl

-- behind the bytes that begin a stream, fewer bits are left than the stream has
pub opening_size : (bytes : List ℕ) → begins bytes ≡ true → length (opening bytes).rest < length (stream_bits bytes)
opening_size bytes h =
    let long : 4 ≤ length bytes = ltb-false (length bytes) 4 (not-true _ (and_parts _ _ h).0) in
    omega (arith, length-drop 32 (stream_bits bytes), length-stream_bits bytes)

depth_none : (s : Scope) → is_top s ≡ true → length s.around ≡ 0
depth_none s h = eqb-true (length s.around) 0 h

-- a way from the opening to the end is the stream of its tree
pub to_stream_of : (bytes : List ℕ) (ps : List Piece) (t : Scope) (e : Cursor) → begins bytes ≡ true → Path top_level (opening bytes) ps t e → is_top t ≡ true → e.rest ≡ [] → (tree : StreamTree) × Stream bytes tree × (flat tree ≡ ps)
to_stream_of bytes ps t e magic way top none =
    let tree = to_tree way top_wide refl (depth_none t top) in
    (tree.0, record { opens = magic; scope = t; cursor = e; all = tree.1; closed = top; whole = none }, tree.2)

-- and its entries are those that the way shows
pub to_stream : (bytes : List ℕ) (ps : List Piece) (t : Scope) (e : Cursor) → begins bytes ≡ true → Path top_level (opening bytes) ps t e → is_top t ≡ true → e.rest ≡ [] → (tree : StreamTree) × Stream bytes tree × (entries tree ≡ all_shown ps)
to_stream bytes ps t e magic way top none =
    let tree = to_stream_of bytes ps t e magic way top none in
    (tree.0, tree.1, sym (flat_shown tree.0) ∙ ap all_shown tree.2)

fault_of : (bytes : List ℕ) → begins bytes ≡ true → stream_fault bytes ≡ fault_from (length (stream_bits bytes)) top_level (opening bytes)
fault_of bytes h = rw h refl

pub tree_or_fault : (bytes : List ℕ) → ((tree : StreamTree) × Stream bytes tree) ⊎ ((x : BitFault) × (stream_fault bytes ≡ Some x))
tree_or_fault bytes = elim (cases_Bool (begins bytes)) [
  | inl magic ↦ elim (either_way (length (stream_bits bytes)) top_level (opening bytes) top_wide (opening_size bytes magic)) [
    | inl on ↦ let all = to_stream bytes on.pieces on.scope on.cursor magic on.way on.top on.none in inl (all.0, all.1)
    | inr x ↦ inr (x.0, fault_of bytes magic ∙ x.1)
  ]
  | inr other ↦ inr (record { kind = BadMagic; bit = 0 }, rw other refl)
]

pub tree_no_fault : (bytes : List ℕ) (tree : StreamTree) → Stream bytes tree → stream_fault bytes ≡ None
tree_no_fault bytes tree h =
    let way = from_tree h.all in
    let size = way_size way top_wide in
    let all : length (stream_bits bytes) ≡ length (flat tree) + (length (stream_bits bytes) - length (flat tree)) = omega (arith, size, opening_size bytes h.opens) in
    fault_of bytes h.opens ∙ fault_on _ (length (stream_bits bytes) - length (flat tree)) way all ∙ no_fault_here _ h.scope h.cursor h.cursor _ (end_stands h.scope h.cursor h.closed h.whole) refl
