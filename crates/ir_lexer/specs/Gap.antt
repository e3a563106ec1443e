-- For `next` and `skip_gap` of `Lexer`, and how the code reads: the separators and comments at the front of a text.
use Rattle.std.specs.Prelude.{ℕ, suc, Bool, true, false, not, ◌||◌, cond, List, [], ◌∷◌}
use Rattle.ir_lexer.specs.Class.{byte_class, is_blank, is_semicolon, is_line_feed}

-- how many bytes of separators and comments stand at the front, where a comment is open or not
unfoldable pub gap_length : Bool → List ℕ → ℕ
gap_length within [] = 0
gap_length true (b ∷ bs) = suc (gap_length (not (is_line_feed (byte_class b))) bs)
gap_length false (b ∷ bs) = cond (is_blank (byte_class b)) (suc (gap_length false bs)) (cond (is_semicolon (byte_class b)) (suc (gap_length true bs)) 0)

-- a separator or a comment begins with the byte
abbrev pub in_gap : ℕ → Bool
in_gap b = is_blank (byte_class b) || is_semicolon (byte_class b)
