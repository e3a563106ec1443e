-- What is left of a judged stream, piece by piece.
use Rattle.std.proofs.Common.{◌≡◌, ℕ, zero, suc, ◌≤◌, true, false, List, [], ◌∷◌, ◌++◌, length, Some, Ok, Err, refl, ap, subst, arith}
use Rattle.bit_stream.specs.Bits.Cursor.{Cursor}
use Rattle.bit_stream.specs.declared.bits.fault.BitFault.{BitFault}
use Rattle.bit_stream.specs.declared.entry.Entry.TheVariants.{End}
use Rattle.bit_stream.specs.Scope.{Scope, top_level}
use Rattle.bit_stream.specs.Entry.{StreamItem, item, is_top, plain}
use Rattle.bit_tree.specs.Stream.{StreamTree, Stream, is_end, opening}
use Rattle.bit_tree.specs.Pieces.{Piece, begun, ended, defines, holds, flat}
use Rattle.bit_tree.proofs.Leaving.{IsWide, top_wide}
use Rattle.bit_tree.proofs.Path.{Step, Path, stop, step, from_tree, stands, no_end, goes}
use Rattle.bit_tree.proofs.Faults.{end_stands}
use Rattle.bit_dump.specs.Walk.Left.{piece_at, pieces_from, pieces_left, Ahead, at_end, before}

-- two readings of one place
record Same (i j : StreamItem) (d e : Cursor) : Type 0 where
  it : i ≡ j
  place : d ≡ e

same_found : (s : Scope) (c d e : Cursor) (i j : StreamItem) → item s c ≡ Ok (i, d) → item s c ≡ Ok (j, e) → Same i j d e
same_found s c d e i j h k =
    let one : StreamItem × Cursor = (i, d) in
    let other : StreamItem × Cursor = (j, e) in
    let both : one ≡ other = cc in
    record { it = ap (λ (x : StreamItem × Cursor). x.0) both; place = ap (λ (x : StreamItem × Cursor). x.1) both }

-- the pieces of a way are what is left where it leads to the end

piece_is : (s : Scope) (c d : Cursor) (p : Piece) (i : StreamItem) → Step s c p i d → piece_at i.entry s c i ≡ p ∷ []
piece_is s c d (begun id width words) i h = rw (h.0.is, h.1, h.2) refl
piece_is s c d ended i h = rw h.is refl
piece_is s c d (defines id t) i h = rw (h.0.is, h.1, h.2) refl
piece_is s c d (holds id code operands has_blob blob) i h = let all = h.1 in rw (h.0.is, all.has_blob, all.id, all.operands, all.blob) refl

from_path : {s t : Scope} {c e : Cursor} {ps : List Piece} → Path s c ps t e → IsWide s → is_top t ≡ true → e.rest ≡ [] → Ahead s c ps
from_path stop wide top none = at_end top none
from_path {s = s} {c = c} (step {d = d} i {p = p} {ps = ps} first rest) wide top none =
    let here = stands p i first in
    let goes_on : is_end i.entry ≡ false = rw here.is (no_end p) in
    let on = goes _ i here (no_end p) wide in
    let later = before here.reads goes_on on.fewer (from_path rest on.wide top none) in
    let first_is : piece_at i.entry s c i ++ ps ≡ p ∷ ps = ap (λ (l : List Piece). l ++ ps) (piece_is s c d p i first) in
    subst (λ (l : List Piece). Ahead s c l) first_is later

pub tree_ahead : (bytes : List ℕ) (tree : StreamTree) → Stream bytes tree → Ahead top_level (opening bytes) (flat tree)
tree_ahead bytes tree h = from_path (from_tree h.all) top_wide h.closed h.whole

-- what is left is computed

none_left : (n : ℕ) (s : Scope) (c : Cursor) → is_top s ≡ true → c.rest ≡ [] → pieces_from n s c ≡ []
unfolding pieces_from
none_left zero s c top none = refl
none_left (suc n) s c top none = rw (end_stands s c top none) (none_left n s c top none)

ahead_from : {s : Scope} {c : Cursor} {ps : List Piece} (n : ℕ) → Ahead s c ps → length c.rest ≤ n → pieces_from n s c ≡ ps
unfolding pieces_from
ahead_from {s} {c} n (at_end top none) few = none_left n s c top none
ahead_from zero (before h more fewer rest) few = absurd (omega arith)
ahead_from {s} {c} (suc n) (before {i = i} h more fewer rest) few = rw h (ap (λ (l : List Piece). piece_at i.entry s c i ++ l) (ahead_from n rest (omega arith)))

pub left_is : {s : Scope} {c : Cursor} {ps : List Piece} → Ahead s c ps → pieces_left false s c ≡ ps
unfolding pieces_left
left_is {s} {c} h = ahead_from (length c.rest) h (omega arith)

pub spent_left : (s : Scope) (c : Cursor) → pieces_left true s c ≡ []
unfolding pieces_left
spent_left s c = refl

-- one step

-- the piece that stands here is the next
pub record Follows (s : Scope) (c d : Cursor) (i : StreamItem) (ps : List Piece) : Type 0 where
  pub others : List Piece
  pub are : ps ≡ piece_at i.entry s c i ++ others
  pub ahead : Ahead i.scope d others

pub next_is : {s : Scope} {c d : Cursor} {ps : List Piece} (i : StreamItem) → Ahead s c ps → item s c ≡ Ok (i, d) → Follows s c d i ps
next_is {s} {c} {d} i (at_end top none) k =
    let same = same_found s c c d (plain (Some End) s) i (end_stands s c top none) k in
    rw (← same.it, ← same.place) (record { others = []; are = refl; ahead = at_end top none })
next_is {s} {c} {d} i (before {d = e} {i = j} h more fewer rest) k =
    let same = same_found s c e d j i h k in
    rw (← same.it, ← same.place) (record { others = _; are = refl; ahead = rest })

pub no_fault : {s : Scope} {c : Cursor} {ps : List Piece} (e : BitFault) → Ahead s c ps → item s c ≡ Err e → ⊥
no_fault {s} {c} e (at_end top none) k = let here = end_stands s c top none in cc
no_fault e (before h more fewer rest) k = cc

-- nothing is left where the end stands
pub end_is : {s : Scope} {c d : Cursor} {ps : List Piece} (i : StreamItem) → Ahead s c ps → item s c ≡ Ok (i, d) → i.entry ≡ Some End → (ps ≡ []) × Ahead i.scope d []
end_is {s} {c} {d} i (at_end top none) k is =
    let same = same_found s c c d (plain (Some End) s) i (end_stands s c top none) k in
    (refl, rw (← same.it, ← same.place) (at_end top none))
end_is {s} {c} {d} i (before {d = e} {i = j} h more fewer rest) k is =
    let same = same_found s c e d j i h k in
    let last : is_end j.entry ≡ true = rw (same.it, is) refl in
    absurd (cc)
