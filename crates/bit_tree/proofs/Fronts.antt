-- What was passed on the way is the front of what the whole stream is.
use Rattle.std.proofs.Common.{◌≡◌, ℕ, true, List, [], ◌∷◌, ◌++◌, Option, Some, None, Ok, Err, refl, sym, ap, ◌∙◌}
use Rattle.bit_stream.specs.Bits.Cursor.{Cursor, Found}
use Rattle.bit_stream.specs.declared.entry.Entry.{Entry}
use Rattle.bit_stream.specs.declared.entry.Entry.TheVariants.{Block, EndBlock, Record, End}
use Rattle.bit_stream.specs.Abbreviation.{AdmittedAbbreviation}
use Rattle.bit_stream.specs.Scope.{Scope}
use Rattle.bit_stream.specs.Reader.{StreamReader}
use Rattle.bit_stream.specs.Entry.{StreamItem, is_top, plain, id_at, has_blob_by, defined_at}
use Rattle.bit_tree.specs.Stream.{StreamTree, Stream, next_id}
use Rattle.bit_tree.specs.Pieces.{Piece, begun, ended, defines, holds, flat}
use Rattle.bit_tree.proofs.Path.{Step, Path, stop, step, from_tree, entry_of, stands, no_end}
use Rattle.bit_tree.proofs.Faults.{end_stands}
use Rattle.bit_tree.proofs.Walking.{Came}

-- the piece that an item is
abbrev defines_found : ℕ → Found AdmittedAbbreviation → List Piece
defines_found id (Ok x) = defines id x.0 ∷ []
defines_found id (Err fault) = []

abbrev piece_at : Option Entry → Scope → Cursor → StreamItem → List Piece
piece_at None s c i = defines_found (next_id s) (defined_at s c)
piece_at (Some (Block id)) s c i = begun id i.scope.block.width i.scope.block.words ∷ []
piece_at (Some EndBlock) s c i = ended ∷ []
piece_at (Some (Record code)) s c i = holds (id_at s c) code i.operands (has_blob_by s (id_at s c)) i.blob ∷ []
piece_at (Some End) s c i = []

piece_is : (s : Scope) (c d : Cursor) (p : Piece) (i : StreamItem) → Step s c p i d → piece_at i.entry s c i ≡ p ∷ []
piece_is s c d (begun id width words) i h = rw (h.0.is, h.1, h.2) refl
piece_is s c d ended i h = rw h.is refl
piece_is s c d (defines id t) i h = rw (h.0.is, h.1, h.2) refl
piece_is s c d (holds id code operands has_blob blob) i h = let all = h.1 in rw (h.0.is, all.has_blob, all.id, all.operands, all.blob) refl

-- one piece stands at a place
record SameStep (p q : Piece) (i j : StreamItem) (d e : Cursor) : Type 0 where
  piece : p ≡ q
  it : i ≡ j
  place : d ≡ e

same_step : (s : Scope) (c d e : Cursor) (p q : Piece) (i j : StreamItem) → Step s c p i d → Step s c q j e → SameStep p q i j d e
same_step s c d e p q i j h k =
    let one : StreamItem × Cursor = (i, d) in
    let other : StreamItem × Cursor = (j, e) in
    let reads = (stands p i h).reads in
    let again = (stands q j k).reads in
    let both : one ≡ other = cc (reads, again) in
    let it : i ≡ j = ap (λ (x : StreamItem × Cursor). x.0) both in
    let first : p ∷ [] ≡ q ∷ [] = sym (piece_is s c d p i h) ∙ (ap (λ (x : StreamItem). piece_at x.entry s c x) it ∙ piece_is s c e q j k) in
    record { piece = cc; it = it; place = ap (λ (x : StreamItem × Cursor). x.1) both }

no_more : {A : Type 0} (s : Scope) (c d : Cursor) (p : Piece) (i : StreamItem) → Step s c p i d → is_top s ≡ true → c.rest ≡ [] → A
no_more s c d p i h top none =
    let here = stands p i h in
    let one : StreamItem × Cursor = (i, d) in
    let other : StreamItem × Cursor = (plain (Some End) s, c) in
    let both : one ≡ other = cc (here.reads, end_stands s c top none) in
    let entry : i.entry ≡ Some End = ap (λ (x : StreamItem × Cursor). x.0.entry) both in
    let last : entry_of p ≡ Some End = sym here.is ∙ entry in
    let never = rw last at (no_end p) in
    absurd (cc)

path_front : {s t u : Scope} {c d e : Cursor} {ps qs : List Piece} → Path s c ps t d → Path s c qs u e → is_top u ≡ true → e.rest ≡ [] → (rest : List Piece) × (qs ≡ ps ++ rest)
path_front {qs = qs} stop all top none = (qs, refl)
path_front (step i {p = p} first on) stop top none = no_more _ _ _ p i first top none
path_front (step i {p = p} first on) (step j {p = q} other along) top none =
    let same = same_step _ _ _ _ p q i j first other in
    let way = rw (← same.it, ← same.place) at along in
    let rest = path_front on way top none in
    (rest.0, cc (same.piece, rest.1))

pub is_front : {bytes : List ℕ} {r : StreamReader} {ps : List Piece} {tree : StreamTree} → Came bytes r ps → Stream bytes tree → (rest : List Piece) × (flat tree ≡ ps ++ rest)
is_front h all = path_front h.way (from_tree all.all) all.closed all.whole
