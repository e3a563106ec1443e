-- A token without a string stands in one line.
use Rattle.std.proofs.lemmas.List.{length-take-le}
use Rattle.std.proofs.lemmas.Map.Views.{exact_unsigned_eq}
use Rattle.std.proofs.Common.{◌≡◌, ℕ, suc, ◌+◌, ◌==◌, List, [], ◌∷◌, ◌++◌, ◌≤◌, ◌<◌, length, take, drop, get_or, drop-cons, Bool, true, false, inl, inr, refl, sym, ap, ◌∙◌, arith}
use Rattle.ir_base.specs.declared.place.Place.{Place}
use Rattle.ir_lexer.specs.Class.{byte_class, in_line, is_quote}
use Rattle.ir_lexer.specs.Form.{each, Form, Done, One, Run, Upto, Spells}
use Rattle.ir_lexer.specs.Lines.{further_in_line, may_have_string, has_string_in}
use Rattle.ir_lexer.specs.Names.{has_string, is_quoted}
use Rattle.ir_lexer.specs.Place.{place_after}
use Rattle.ir_lexer.specs.Table as r
use Rattle.ir_lexer.specs.Table.{TokenRow, QuotedLabel, QuotedGlobal, QuotedLocal, Quoted, ByteString, kind_of, starts, tail_of, SpellsRow, IsToken}
use Rattle.ir_lexer.specs.declared.class.Class.{Class}
use Rattle.ir_lexer.specs.declared.class.Class.TheVariants as c
use Rattle.ir_lexer.specs.declared.token.TokenKind.{TokenKind}
use Rattle.ir_lexer.proofs.QuotedTokens.{or_true}
use Rattle.ir_lexer.proofs.Runs.{bool_cases, each_first}

-- Places.
ends_line : in_line (byte_class 10) ≡ true → ⊥
unfolding byte_class
ends_line k = cc

no_line_feed : (b : ℕ) → in_line (byte_class b) ≡ true → (b == 10) ≡ false
no_line_feed b h = elim (bool_cases (b == 10)) [
  | inl e ↦ absurd (let k : in_line (byte_class 10) ≡ true = rw (exact_unsigned_eq b 10 e) at h in ends_line k)
  | inr e ↦ e
]

abbrev at_column : Place → ℕ → Place
at_column p n = record { line = p.line; column = n }

-- behind bytes without a line feed
pub after_in_line : (p : Place) (s : List ℕ) → each in_line s ≡ true → place_after p s ≡ further_in_line p (length s)
unfolding place_after
after_in_line p [] h = ap (at_column p) (let same : p.column ≡ p.column + 0 = omega arith in same)
after_in_line p (b ∷ s) h =
    let f = each_first in_line b s h in
    let on : p.column + 1 + length s ≡ p.column + suc (length s) = omega arith in
    rw (no_line_feed b f.0) (after_in_line (at_column p (p.column + 1)) s f.1 ∙ ap (at_column p) on)

pub front_in_line : (p next : Place) (s : List ℕ) (n : ℕ) → n ≤ length s → each in_line (take n s) ≡ true → next ≡ further_in_line p n → next ≡ place_after p (take n s)
front_in_line p next s n fits e is =
    let size : length (take n s) ≡ n = length-take-le n s fits in
    let same : p.column + n ≡ p.column + length (take n s) = omega (arith, size) in
    is ∙ ap (at_column p) same ∙ sym (after_in_line p (take n s) e)

-- one byte that is no line feed
pub one_in_line : (s : List ℕ) (n : ℕ) → n < length s → in_line (byte_class (get_or s n 0)) ≡ true → each in_line (take 1 (drop n s)) ≡ true
one_in_line s n h e = rw (drop-cons s n 0, e) refl

pub first_in_line : (s : List ℕ) → 0 < length s → in_line (byte_class (get_or s 0 0)) ≡ true → each in_line (take 1 s) ≡ true
first_in_line [] h e = absurd (omega arith)
first_in_line (b ∷ bs) h e = one_in_line (b ∷ bs) 0 h e

-- no byte of the form is a line feed
abbrev InLine : Form → Type 0
InLine Done = Unit {0}
InLine (One p f) = (p c.LineFeed ≡ false) × InLine f
InLine (Run p) = p c.LineFeed ≡ false
InLine (Upto p test q f) = (p c.LineFeed ≡ false) × (q c.LineFeed ≡ false) × InLine f

keeps : (p : Class → Bool) (x : Class) → p x ≡ true → p c.LineFeed ≡ false → in_line x ≡ true
keeps p c.LineFeed h n = absurd cc
keeps p _ h n = refl

each_keeps : (p : Class → Bool) (s : List ℕ) → each p s ≡ true → p c.LineFeed ≡ false → each in_line s ≡ true
each_keeps p [] h n = refl
each_keeps p (b ∷ s) h n = let f = each_first p b s h in rw (keeps p (byte_class b) f.0 n) (each_keeps p s f.1 n)

pub each_both : (p : Class → Bool) (a s : List ℕ) → each p a ≡ true → each p s ≡ true → each p (a ++ s) ≡ true
each_both p [] s g h = h
each_both p (b ∷ a) s g h = let f = each_first p b a g in rw f.0 (each_both p a s f.1 h)

in_one_line : (f : Form) (s : List ℕ) → Spells f s → InLine f → each in_line s ≡ true
in_one_line Done [] h u = refl
in_one_line Done (b ∷ s) h u = absurd cc
in_one_line (One p f) [] h u = refl
in_one_line (One p f) (b ∷ s) h u = rw (keeps p (byte_class b) h.0 u.0) (in_one_line f s h.1 u.1)
in_one_line (Run p) s h u = each_keeps p s h u
in_one_line (Upto p test q f) s h u =
    let behind : each in_line (h.byte ∷ h.rest) ≡ true = rw (keeps q (byte_class h.byte) h.byte_in u.1) (in_one_line f h.rest h.rest_is u.2) in
    rw h.parts (each_both in_line h.inside (h.byte ∷ h.rest) (each_keeps p h.inside h.inside_in u.0) behind)

row_in_line : (row : TokenRow) → has_string row ≡ false → InLine (One (starts row) (tail_of row))
row_in_line QuotedLabel h = absurd cc
row_in_line QuotedGlobal h = absurd cc
row_in_line QuotedLocal h = absurd cc
row_in_line Quoted h = absurd cc
row_in_line ByteString h = absurd cc
row_in_line r.Label h = (refl, (refl, refl, tt))
row_in_line r.MetaMark h = (refl, tt)
row_in_line r.Punctuation h = (refl, tt)
row_in_line r.Word h = (refl, refl)
row_in_line r.Digits h = (refl, refl)
row_in_line r.Negative h = (refl, (refl, refl))
row_in_line r.GlobalName h = (refl, (refl, refl))
row_in_line r.LocalName h = (refl, (refl, refl))
row_in_line r.UnnamedGlobal h = (refl, (refl, refl))
row_in_line r.UnnamedLocal h = (refl, (refl, refl))
row_in_line r.MetaName h = (refl, (refl, refl))
row_in_line r.MetaNumber h = (refl, (refl, refl))
row_in_line r.Group h = (refl, (refl, refl))
row_in_line r.RecordMark h = (refl, (refl, refl))
row_in_line r.Dots h = (refl, (refl, (refl, tt)))

plain_row : (row : TokenRow) → may_have_string (kind_of row) ≡ false → has_string row ≡ false
plain_row QuotedLabel h = absurd cc
plain_row QuotedGlobal h = absurd cc
plain_row QuotedLocal h = absurd cc
plain_row Quoted h = absurd cc
plain_row ByteString h = absurd cc
plain_row _ h = refl

-- a string begins with the first byte or with the second
has_quote : (row : TokenRow) (s : List ℕ) → has_string row ≡ true → SpellsRow row s → is_quoted s ≡ false → ⊥
has_quote row [] e h q = h
has_quote QuotedLabel (b ∷ s) e h q = let k : true ≡ false = rw h.0 at q in cc
has_quote Quoted (b ∷ s) e h q = let k : true ≡ false = rw h.0 at q in cc
has_quote QuotedGlobal (b ∷ []) e h q = h.1
has_quote QuotedGlobal (b ∷ x ∷ s) e h q = let k = or_true (is_quote (byte_class b)) (is_quote (byte_class x)) h.1.0 in cc
has_quote QuotedLocal (b ∷ []) e h q = h.1
has_quote QuotedLocal (b ∷ x ∷ s) e h q = let k = or_true (is_quote (byte_class b)) (is_quote (byte_class x)) h.1.0 in cc
has_quote ByteString (b ∷ []) e h q = h.1
has_quote ByteString (b ∷ x ∷ s) e h q = let k = or_true (is_quote (byte_class b)) (is_quote (byte_class x)) h.1.0 in cc
has_quote _ (b ∷ s) e h q = cc

no_string : (row : TokenRow) (s : List ℕ) → SpellsRow row s → is_quoted s ≡ false → has_string row ≡ false
no_string row s h q = elim (bool_cases (has_string row)) [ inl e ↦ absurd (has_quote row s e h q) | inr e ↦ e ]

pub token_in_line : (kind : TokenKind) (s : List ℕ) → IsToken kind s → has_string_in kind s ≡ false → each in_line s ≡ true
token_in_line kind s t n = elim (bool_cases (may_have_string kind)) [
  | inl m ↦ (let q : is_quoted s ≡ false = rw m at n in of_row (no_string t.row s t.spelled q))
  | inr m ↦ (let k : may_have_string (kind_of t.row) ≡ false = rw t.kind_is m in of_row (plain_row t.row k))
]
  where
    of_row : has_string t.row ≡ false → each in_line s ≡ true
    of_row e = in_one_line (One (starts t.row) (tail_of t.row)) s t.spelled (row_in_line t.row e)
