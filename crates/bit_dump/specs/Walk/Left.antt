-- Says how the code reads: what is left of a stream at a place.
use Rattle.std.specs.Prelude.{◌≡◌, ◌<◌, ℕ, zero, suc, Bool, true, false, List, [], ◌∷◌, ◌++◌, length, Option, Some, None, Ok, Err}
use Rattle.bit_stream.specs.Bits.Cursor.{Cursor, Found}
use Rattle.bit_stream.specs.declared.entry.Entry.{Entry}
use Rattle.bit_stream.specs.declared.entry.Entry.TheVariants.{Block, EndBlock, Record, End}
use Rattle.bit_stream.specs.Abbreviation.{AdmittedAbbreviation}
use Rattle.bit_stream.specs.Scope.{Scope}
use Rattle.bit_stream.specs.Entry.{StreamItem, item, is_top, id_at, has_blob_by, defined_at}
use Rattle.bit_tree.specs.Stream.{next_id, is_end}
use Rattle.bit_tree.specs.Pieces.{Piece, begun, ended, defines, holds}
use Rattle.bit_dump.specs.declared.walk.event.Event.{Event}
use Rattle.bit_dump.specs.Walk.Starts.{Opened, IsOn, IsKept}
use Rattle.bit_dump.specs.Walk.Values.{IsRead, list_of}
use Rattle.bit_dump.specs.Walk.Walker.{Walker, piece_of}

-- the piece that an item is; the end of the stream is none
abbrev pub defines_found : ℕ → Found AdmittedAbbreviation → List Piece
defines_found id (Ok x) = defines id x.0 ∷ []
defines_found id (Err fault) = []

-- the pieces that an entry gives
abbrev pub piece_at : Option Entry → Scope → Cursor → StreamItem → List Piece
piece_at None s c i = defines_found (next_id s) (defined_at s c)
piece_at (Some (Block id)) s c i = begun id i.scope.block.width i.scope.block.words ∷ []
piece_at (Some EndBlock) s c i = ended ∷ []
piece_at (Some (Record code)) s c i = holds (id_at s c) code i.operands (has_blob_by s (id_at s c)) i.blob ∷ []
piece_at (Some End) s c i = []

-- an item, and what is left behind it
abbrev pub piece_and : Scope → Cursor → Found StreamItem → (Scope → Cursor → List Piece) → List Piece
piece_and s c (Ok x) later = piece_at x.0.entry s c x.0 ++ later x.0.scope x.1
piece_and s c (Err fault) later = []

-- what is left, up to so many pieces
unfoldable pub pieces_from : ℕ → Scope → Cursor → List Piece
pieces_from zero s c = []
pieces_from (suc more) s c = piece_and s c (item s c) (pieces_from more)

-- each piece takes a bit
unfoldable pub pieces_left : Bool → Scope → Cursor → List Piece
pieces_left true s c = []
pieces_left false s c = pieces_from (length c.rest) s c

-- from a place to the end of the stream stand these pieces
pub data Ahead : Scope → Cursor → List Piece → Type 0 where
  at_end : {s : Scope} {c : Cursor} → is_top s ≡ true → c.rest ≡ [] → Ahead s c []
  before : {s : Scope} {c d : Cursor} {i : StreamItem} {ps : List Piece}
      → item s c ≡ Ok (i, d) → is_end i.entry ≡ false → length d.rest < length c.rest → Ahead i.scope d ps → Ahead s c (piece_at i.entry s c i ++ ps)

-- some pieces stand there
abbrev pub IsAhead : Scope → Cursor → Type 0
IsAhead s c = (ps : List Piece) × Ahead s c ps

-- a place in a judged stream, and the abbreviation that was read last
pub record IsPlace (o : Opened) (c : Cursor) (start : Option ℕ) (t : AdmittedAbbreviation) : Type 0 where
  pub ahead : IsAhead o.scope c
  pub on : IsOn o.bits c
  pub kept : IsKept o.bits start t

-- the next piece was given, and these are left; or none was left
abbrev pub Steps : List Piece → Option Event → Walker → Scope → Cursor → Type 0
Steps ps (Some event) w s c = (others : List Piece) × (ps ≡ piece_of event w ∷ others) × Ahead s c others
Steps ps None w s c = (ps ≡ []) × Ahead s c []

-- the operands that are left, of a walker that is not spent
abbrev pub operands_left : Bool → Found (List ℕ) → List ℕ
operands_left true found = []
operands_left false found = list_of found

-- a walker that is not spent is at such a place, and the operands of the record that was given last are not refused
pub record IsWalking (spent : Bool) (o : Opened) (c : Cursor) (start : Option ℕ) (t : AdmittedAbbreviation) (operands : Found (List ℕ)) : Type 0 where
  pub place : spent ≡ false → IsPlace o c start t
  pub read : spent ≡ false → IsRead operands
