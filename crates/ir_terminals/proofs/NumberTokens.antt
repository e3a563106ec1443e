-- The digits in tokens.
use Rattle.std.proofs.Common.{◌≡◌, ℕ, zero, suc, ◌-◌, ◌<◌, ◌≤◌, ◌==◌, ◌&&◌, ◌||◌, nat_le, Bool, true, false, List, [], ◌∷◌, length, take, drop, cond, refl, ap, arith, inl, inr, length-append, if◌then◌else◌}
use Rattle.std.proofs.lemmas.Map.Views.{exact_unsigned_eq}
use Rattle.ir_base.specs.declared.place.Place.{Place}
use Rattle.ir_lexer.proofs.Runs.{bool_cases, each_first}
use Rattle.ir_lexer.specs.Class.{byte_class, from_to, one_of, is_digit, is_minus}
use Rattle.ir_lexer.specs.Form.{each, Spells, IsUpto}
use Rattle.ir_lexer.specs.Names.{is_number}
use Rattle.ir_lexer.specs.Table as rows
use Rattle.ir_lexer.specs.Table.{TokenRow, kind_of, digits, SpellsRow, IsToken}
use Rattle.ir_lexer.specs.declared.class.Class.{Class}
use Rattle.ir_lexer.specs.declared.class.Class.TheVariants as c
use Rattle.ir_lexer.specs.declared.token.TokenKind.TheVariants as kind
use Rattle.ir_terminals.specs.Digits.{are_digits, decimal}
use Rattle.ir_terminals.specs.Values.{integer_at, is_negative}
use Rattle.ir_terminals.proofs.Written.{all_digits, are_so}

-- the classes as a chain of tests
abbrev chain : Bool → Bool → Bool → Bool → Bool → Bool → Bool → Bool → Bool → Bool → Bool → Bool → Bool → Bool → Bool → Bool → Bool → Class
chain letter_c letter underscore digit minus dollar dot quote at percent bang hash colon mark semicolon line_feed blank =
    if letter_c then c.LetterC else (if letter then c.Letter else (if underscore then c.Underscore else (if digit then c.Digit else (if minus then c.Minus else (if dollar then c.Dollar else (if dot then c.Dot else (if quote then c.Quote else (if at then c.At else (if percent then c.Percent else (if bang then c.Bang else (if hash then c.Hash else (if colon then c.Colon else (if mark then c.Mark else (if semicolon then c.Semicolon else (if line_feed then c.LineFeed else (if blank then c.Blank else (c.Other)))))))))))))))))

only_digit : (letter_c letter underscore digit minus dollar dot quote at percent bang hash colon mark semicolon line_feed blank : Bool) → is_digit (chain letter_c letter underscore digit minus dollar dot quote at percent bang hash colon mark semicolon line_feed blank) ≡ true → digit ≡ true
only_digit true letter underscore digit minus dollar dot quote at percent bang hash colon mark semicolon line_feed blank h = absurd cc
only_digit false true underscore digit minus dollar dot quote at percent bang hash colon mark semicolon line_feed blank h = absurd cc
only_digit false false true digit minus dollar dot quote at percent bang hash colon mark semicolon line_feed blank h = absurd cc
only_digit false false false true minus dollar dot quote at percent bang hash colon mark semicolon line_feed blank h = refl
only_digit false false false false true dollar dot quote at percent bang hash colon mark semicolon line_feed blank h = absurd cc
only_digit false false false false false true dot quote at percent bang hash colon mark semicolon line_feed blank h = absurd cc
only_digit false false false false false false true quote at percent bang hash colon mark semicolon line_feed blank h = absurd cc
only_digit false false false false false false false true at percent bang hash colon mark semicolon line_feed blank h = absurd cc
only_digit false false false false false false false false true percent bang hash colon mark semicolon line_feed blank h = absurd cc
only_digit false false false false false false false false false true bang hash colon mark semicolon line_feed blank h = absurd cc
only_digit false false false false false false false false false false true hash colon mark semicolon line_feed blank h = absurd cc
only_digit false false false false false false false false false false false true colon mark semicolon line_feed blank h = absurd cc
only_digit false false false false false false false false false false false false true mark semicolon line_feed blank h = absurd cc
only_digit false false false false false false false false false false false false false true semicolon line_feed blank h = absurd cc
only_digit false false false false false false false false false false false false false false true line_feed blank h = absurd cc
only_digit false false false false false false false false false false false false false false false true blank h = absurd cc
only_digit false false false false false false false false false false false false false false false false true h = absurd cc
only_digit false false false false false false false false false false false false false false false false false h = absurd cc

only_minus : (letter_c letter underscore digit minus dollar dot quote at percent bang hash colon mark semicolon line_feed blank : Bool) → is_minus (chain letter_c letter underscore digit minus dollar dot quote at percent bang hash colon mark semicolon line_feed blank) ≡ true → minus ≡ true
only_minus true letter underscore digit minus dollar dot quote at percent bang hash colon mark semicolon line_feed blank h = absurd cc
only_minus false true underscore digit minus dollar dot quote at percent bang hash colon mark semicolon line_feed blank h = absurd cc
only_minus false false true digit minus dollar dot quote at percent bang hash colon mark semicolon line_feed blank h = absurd cc
only_minus false false false true minus dollar dot quote at percent bang hash colon mark semicolon line_feed blank h = absurd cc
only_minus false false false false true dollar dot quote at percent bang hash colon mark semicolon line_feed blank h = refl
only_minus false false false false false true dot quote at percent bang hash colon mark semicolon line_feed blank h = absurd cc
only_minus false false false false false false true quote at percent bang hash colon mark semicolon line_feed blank h = absurd cc
only_minus false false false false false false false true at percent bang hash colon mark semicolon line_feed blank h = absurd cc
only_minus false false false false false false false false true percent bang hash colon mark semicolon line_feed blank h = absurd cc
only_minus false false false false false false false false false true bang hash colon mark semicolon line_feed blank h = absurd cc
only_minus false false false false false false false false false false true hash colon mark semicolon line_feed blank h = absurd cc
only_minus false false false false false false false false false false false true colon mark semicolon line_feed blank h = absurd cc
only_minus false false false false false false false false false false false false true mark semicolon line_feed blank h = absurd cc
only_minus false false false false false false false false false false false false false true semicolon line_feed blank h = absurd cc
only_minus false false false false false false false false false false false false false false true line_feed blank h = absurd cc
only_minus false false false false false false false false false false false false false false false true blank h = absurd cc
only_minus false false false false false false false false false false false false false false false false true h = absurd cc
only_minus false false false false false false false false false false false false false false false false false h = absurd cc

pub digit_byte : (b : ℕ) → is_digit (byte_class b) ≡ true → (nat_le 48 b && nat_le b 57) ≡ true
unfolding byte_class
digit_byte b h =
    only_digit (b == 99) (from_to 97 122 b || from_to 65 90 b) (b == 95) (from_to 48 57 b) (b == 45) (b == 36) (b == 46) (b == 34) (b == 64) (b == 37) (b == 33) (b == 35) (b == 58) (one_of (61 ∷ 44 ∷ 40 ∷ 41 ∷ 91 ∷ 93 ∷ 123 ∷ 125 ∷ 60 ∷ 62 ∷ 42 ∷ 124 ∷ []) b) (b == 59) (b == 10) (one_of (32 ∷ 9 ∷ 13 ∷ []) b) h

pub minus_byte : (b : ℕ) → is_minus (byte_class b) ≡ true → b ≡ 45
unfolding byte_class
minus_byte b h =
    exact_unsigned_eq b 45 (only_minus (b == 99) (from_to 97 122 b || from_to 65 90 b) (b == 95) (from_to 48 57 b) (b == 45) (b == 36) (b == 46) (b == 34) (b == 64) (b == 37) (b == 33) (b == 35) (b == 58) (one_of (61 ∷ 44 ∷ 40 ∷ 41 ∷ 91 ∷ 93 ∷ 123 ∷ 125 ∷ 60 ∷ 62 ∷ 42 ∷ 124 ∷ []) b) (b == 59) (b == 10) (one_of (32 ∷ 9 ∷ 13 ∷ []) b) h)

each_digits : (s : List ℕ) → each is_digit s ≡ true → all_digits s ≡ true
each_digits [] h = refl
each_digits (b ∷ s) h = let f = each_first is_digit b s h in rw (digit_byte b f.0) (each_digits s f.1)

pub some_digits : (s : List ℕ) → 0 < length s → each is_digit s ≡ true → are_digits s ≡ true
some_digits s some h = are_so s some (each_digits s h)

digits_form : (s : List ℕ) → Spells digits s → are_digits s ≡ true
digits_form [] h = absurd h
digits_form (b ∷ s) h = some_digits (b ∷ s) (omega arith) (rw h.0 h.1)

no_minus : is_digit (byte_class 45) ≡ true → ⊥
unfolding byte_class
no_minus h = cc

-- an integer is a minus and digits, or digits
behind_minus : (row : TokenRow) (s : List ℕ) → kind_of row ≡ kind.Integer → SpellsRow row (45 ∷ s) → are_digits s ≡ true
behind_minus rows.Digits s k h = absurd (no_minus h.0)
behind_minus rows.Negative s k h = digits_form s h.1
behind_minus _ s k h = absurd cc

pub digits_behind_minus : (s : List ℕ) → is_negative s ≡ true → IsToken kind.Integer s → are_digits (drop 1 s) ≡ true
digits_behind_minus [] n token = absurd cc
digits_behind_minus (b ∷ s) n token =
    let minus : b ≡ 45 = exact_unsigned_eq b 45 n in
    behind_minus token.row s token.kind_is (rw minus at token.spelled)

without_minus : (row : TokenRow) (b : ℕ) (s : List ℕ) → kind_of row ≡ kind.Integer → (b ≡ 45 → ⊥) → SpellsRow row (b ∷ s) → are_digits (b ∷ s) ≡ true
without_minus rows.Digits b s k n h = digits_form (b ∷ s) h
without_minus rows.Negative b s k n h = absurd (n (minus_byte b h.0))
without_minus _ b s k n h = absurd cc

not_so : (b : ℕ) → (b == 45) ≡ false → b ≡ 45 → ⊥
not_so b n e = let k : (45 == 45) ≡ false = rw e at n in cc

pub digits_alone : (s : List ℕ) → is_negative s ≡ false → IsToken kind.Integer s → are_digits s ≡ true
digits_alone [] n token = absurd token.spelled
digits_alone (b ∷ s) n token = without_minus token.row b s token.kind_is (not_so b n) token.spelled

pub negative_long : (s : List ℕ) → is_negative s ≡ true → 1 ≤ length s
negative_long [] h = absurd cc
negative_long (b ∷ s) h = omega arith

-- the integer is spelled so
pub integer_read : (place : Place) (s : List ℕ) (negative : Bool) → negative ≡ is_negative s → integer_at place s ≡ record { negative = negative; magnitude = decimal (cond negative (drop 1 s) s); place = place }
integer_read place [] negative e = rw e refl
integer_read place (b ∷ s) negative e = elim (bool_cases (b == 45)) [ inl h ↦ rw (e, h) refl | inr h ↦ rw (e, h) refl ]

-- an unnamed local is a mark and digits
behind_mark : (row : TokenRow) (s : List ℕ) → kind_of row ≡ kind.UnnamedLocal → SpellsRow row s → are_digits (drop 1 s) ≡ true
behind_mark rows.UnnamedLocal [] k h = absurd h
behind_mark rows.UnnamedLocal (b ∷ []) k h = absurd h.1
behind_mark rows.UnnamedLocal (b ∷ x ∷ s) k h = digits_form (x ∷ s) h.1
behind_mark _ s k h = absurd cc

pub digits_behind_mark : (s : List ℕ) → IsToken kind.UnnamedLocal s → are_digits (drop 1 s) ≡ true
digits_behind_mark s token = behind_mark token.row s token.kind_is token.spelled

pub mark_some : (s : List ℕ) → IsToken kind.UnnamedLocal s → 0 < length s
mark_some [] token = absurd token.spelled
mark_some (b ∷ s) token = omega arith

-- a label has a byte before its colon
upto_some : (p : Class → Bool) (test : List ℕ → Bool) (q : Class → Bool) (f : List ℕ → Type 0) (s : List ℕ) → IsUpto p test q f s → 0 < length s
upto_some p test q f s u = omega (arith, ap length u.parts, length-append u.inside (u.byte ∷ u.rest))

two_bytes : (row : TokenRow) (s : List ℕ) → kind_of row ≡ kind.Label → SpellsRow row s → 1 < length s
two_bytes rows.Label [] k h = absurd h
two_bytes rows.Label (b ∷ s) k h = omega (arith, upto_some _ _ _ _ s h.1)
two_bytes rows.QuotedLabel [] k h = absurd h
two_bytes rows.QuotedLabel (b ∷ s) k h = omega (arith, upto_some _ _ _ _ s h.1)
two_bytes _ s k h = absurd cc

pub label_long : (s : List ℕ) → IsToken kind.Label s → 1 < length s
label_long s token = two_bytes token.row s token.kind_is token.spelled

shorter_some : (n : ℕ) (s : List ℕ) → 0 < n → n ≤ length s → 0 < length (take n s)
shorter_some zero s h k = absurd (omega arith)
shorter_some (suc n) [] h k = absurd (omega arith)
shorter_some (suc n) (b ∷ s) h k = omega arith

pub label_digits : (s : List ℕ) → IsToken kind.Label s → is_number s ≡ true → are_digits (take (length s - 1) s) ≡ true
label_digits s token h =
    let long = label_long s token in
    some_digits (take (length s - 1) s) (shorter_some (length s - 1) s (omega arith) (omega arith)) h
