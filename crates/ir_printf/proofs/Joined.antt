-- The places of a pattern's pieces join.
use Rattle.std.proofs.Common.{◌≡◌, ℕ, ◌+◌, ◌-◌, ◌≤◌, ◌==◌, Bool, true, false, cond, List, [], ◌∷◌, ◌++◌, take, drop, Option, Some, None, sym, ap, subst, ◌∙◌, arith, Ok, Err, Result}
use Rattle.std.proofs.lemmas.List.{take-append-drop, drop_all, drop-drop}
use Rattle.std.specs.List.{prefix_len}
use Rattle.ir_printf.specs.declared.conversion.Conversion.{Conversion}
use Rattle.ir_printf.specs.declared.pattern.BadFormat.{BadFormat}
use Rattle.ir_printf.specs.declared.pattern.PatternPiece.{PatternPiece}
use Rattle.ir_printf.specs.declared.pattern.PatternPiece.TheVariants as piece
use Rattle.ir_printf.specs.Pattern.{AreRead, read_bytes, piece_end, piece_at, first_piece, conversion_piece, conversion_in, conversion_size, is_literal, ReadsWhole}

-- where an answer's piece ends
abbrev answer_end : ℕ → Result PatternPiece BadFormat → ℕ
answer_end at (Ok p) = piece_end at p
answer_end at (Err fault) = at

after_conversion : (at size : ℕ) (c : Option Conversion) → at ≤ answer_end at (conversion_piece at size c)
after_conversion at size None = omega arith
after_conversion at size (Some c) = omega arith

either : (at : ℕ) (b : Bool) (x y : Result PatternPiece BadFormat) → at ≤ answer_end at x → at ≤ answer_end at y → at ≤ answer_end at (cond b x y)
either at true x y hx hy = hx
either at false x y hx hy = hy

-- no piece ends before it begins
not_before : (at : ℕ) (rest : List ℕ) → at ≤ answer_end at (first_piece at rest)
not_before at [] = omega arith
not_before at (byte ∷ bytes) =
    either at (byte == 37) (conversion_piece at (conversion_size bytes) (conversion_in bytes)) (Ok (piece.Literal at (at + prefix_len is_literal (byte ∷ bytes))))
    (after_conversion at (conversion_size bytes) (conversion_in bytes)) (omega arith)

ends_behind : (pattern : List ℕ) (at : ℕ) (p : PatternPiece) → piece_at pattern at ≡ Ok p → at ≤ piece_end at p
ends_behind pattern at p e = let P : Result PatternPiece BadFormat → Type 0 = λ r. at ≤ answer_end at r in subst P e (not_before at (drop at pattern))

from_a_place : (pattern : List ℕ) (at : ℕ) (ps : List PatternPiece) → AreRead pattern at ps → read_bytes pattern at ps ≡ drop at pattern
from_a_place pattern at [] e = sym (drop_all at pattern (omega (arith, e)))
from_a_place pattern at (p ∷ ps) h =
    let behind : at ≤ piece_end at p = ends_behind pattern at p h.0 in
    let size : at + (piece_end at p - at) ≡ piece_end at p = omega (arith, behind) in
    let rest : read_bytes pattern (piece_end at p) ps ≡ drop (piece_end at p) pattern = from_a_place pattern (piece_end at p) ps h.1 in
    ap (λ r. take (piece_end at p - at) (drop at pattern) ++ r)
    (rest ∙ ap (λ n. drop n pattern) (sym size) ∙ sym (drop-drop (piece_end at p - at) at pattern))
    ∙ take-append-drop (piece_end at p - at) (drop at pattern)

pub reads_whole : ReadsWhole
reads_whole pattern pieces h = from_a_place pattern 0 pieces h
