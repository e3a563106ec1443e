-- Which tokens have a string in them, and that what a token names is a name.
use Rattle.std.proofs.lemmas.Map.Views.{exact_unsigned_eq}
use Rattle.std.specs.List.{list_all}
use Rattle.std.proofs.lemmas.Bool.{ne_eqb}
use Rattle.std.proofs.Math.Seq.{take-append_seam}
use Rattle.std.proofs.Common.{inl, inr, length-append, not, ◌-◌, ◌==◌, Some, ◌≡◌, ℕ, suc, List, [], ◌∷◌, ◌++◌, length, take, Bool, true, false, cond, refl, sym, ap, arith}
use Rattle.ir_lexer.specs.Class.{byte_class, is_quote, starts_with, in_name}
use Rattle.ir_lexer.specs.Form.{each, Form, Done, One, Run, Upto, Spells}
use Rattle.ir_lexer.specs.Names.{has_string, has_name, IsQuoted, is_quoted, between_quotes, bare_name, name_in}
use Rattle.ir_lexer.specs.Quoted.{decode, has_zero, is_clean, is_name, zero_in}
use Rattle.ir_lexer.specs.declared.quoted.Escape.TheVariants.{Plain}
use Rattle.ir_base.specs.Name as base
use Rattle.ir_lexer.proofs.Strings.{name_inside, strings_stand_for}
use Rattle.ir_lexer.proofs.Lexed.{start_name}
use Rattle.ir_lexer.specs.Table as r
use Rattle.ir_lexer.specs.Table.{TokenRow, QuotedLabel, QuotedGlobal, QuotedLocal, Quoted, ByteString, kind_of, starts, tail_of, SpellsRow, IsToken}
use Rattle.ir_lexer.specs.declared.class.Class.{Class}
use Rattle.ir_lexer.specs.declared.class.Class.TheVariants as c
use Rattle.ir_lexer.specs.declared.token.TokenKind.{TokenKind}
use Rattle.ir_lexer.proofs.Runs.{bool_cases, each_first}

-- a form that no quote begins
abbrev Unquoted : Form → Type 0
Unquoted Done = Unit {0}
Unquoted (One p f) = p c.Quote ≡ false
Unquoted (Run p) = p c.Quote ≡ false
Unquoted (Upto p test q f) = (p c.Quote ≡ false) × (q c.Quote ≡ false)

differs : (p : Class → Bool) (x : Class) → p x ≡ true → p c.Quote ≡ false → is_quote x ≡ false
differs p c.Quote h n = absurd cc
differs p _ h n = refl

unquoted_front : (f : Form) (s : List ℕ) → Spells f s → Unquoted f → starts_with is_quote s ≡ false
unquoted_front Done [] h u = refl
unquoted_front Done (b ∷ s) h u = absurd cc
unquoted_front (One p f) [] h u = refl
unquoted_front (One p f) (b ∷ s) h u = differs p (byte_class b) h.0 u
unquoted_front (Run p) [] h u = refl
unquoted_front (Run p) (b ∷ s) h u = differs p (byte_class b) (each_first p b s h).0 u
unquoted_front (Upto p test q f) s h u = go h.inside h.inside_in h.parts
  where
    go : (inside : List ℕ) → each p inside ≡ true → s ≡ inside ++ h.byte ∷ h.rest → starts_with is_quote s ≡ false
    go [] e parts = rw parts (differs q (byte_class h.byte) h.byte_in u.1)
    go (b ∷ inside) e parts = rw parts (differs p (byte_class b) (each_first p b inside e).0 u.0)

plain : (s : List ℕ) (row : TokenRow) → SpellsRow row s → starts row c.Quote ≡ false → Unquoted (tail_of row) → is_quoted s ≡ false
plain [] row h a b = refl
plain (b ∷ s) row h first tail = rw (differs (starts row) (byte_class b) h.0 first, unquoted_front (tail_of row) s h.1 tail) refl

string_of : (row : TokenRow) (s : List ℕ) → SpellsRow row s → is_quoted s ≡ true → has_string row ≡ true
string_of QuotedLabel s h q = refl
string_of QuotedGlobal s h q = refl
string_of QuotedLocal s h q = refl
string_of Quoted s h q = refl
string_of ByteString s h q = refl
string_of r.Label s h q = absurd (let n = plain s r.Label h refl (refl, refl) in cc)
string_of r.MetaMark s h q = absurd (let n = plain s r.MetaMark h refl tt in cc)
string_of r.Punctuation s h q = absurd (let n = plain s r.Punctuation h refl tt in cc)
string_of r.Word s h q = absurd (let n = plain s r.Word h refl refl in cc)
string_of r.Digits s h q = absurd (let n = plain s r.Digits h refl refl in cc)
string_of r.Negative s h q = absurd (let n = plain s r.Negative h refl refl in cc)
string_of r.GlobalName s h q = absurd (let n = plain s r.GlobalName h refl refl in cc)
string_of r.LocalName s h q = absurd (let n = plain s r.LocalName h refl refl in cc)
string_of r.UnnamedGlobal s h q = absurd (let n = plain s r.UnnamedGlobal h refl refl in cc)
string_of r.UnnamedLocal s h q = absurd (let n = plain s r.UnnamedLocal h refl refl in cc)
string_of r.MetaName s h q = absurd (let n = plain s r.MetaName h refl refl in cc)
string_of r.MetaNumber s h q = absurd (let n = plain s r.MetaNumber h refl refl in cc)
string_of r.Group s h q = absurd (let n = plain s r.Group h refl refl in cc)
string_of r.RecordMark s h q = absurd (let n = plain s r.RecordMark h refl refl in cc)
string_of r.Dots s h q = absurd (let n = plain s r.Dots h refl refl in cc)

-- A token with a quote among its first two bytes has a string in it.
pub token_quoted : (kind : TokenKind) (s : List ℕ) → IsToken kind s → is_quoted s ≡ true → IsQuoted s
token_quoted kind s t q = record { row = t.row; string = string_of t.row s t.spelled q; spelled = t.spelled }

-- Names.
zero_out : in_name (byte_class 0) ≡ true → ⊥
unfolding byte_class
zero_out k = cc

name_byte : (b : ℕ) → in_name (byte_class b) ≡ true → (b == 0) ≡ false
name_byte b h = elim (bool_cases (b == 0)) [
  | inl e ↦ absurd (let k : in_name (byte_class 0) ≡ true = rw (exact_unsigned_eq b 0 e) at h in zero_out k)
  | inr e ↦ e
]

names_clean : (s : List ℕ) → each in_name s ≡ true → list_all (λ b. not (b == 0)) s ≡ true
names_clean [] h = refl
names_clean (b ∷ s) h = let f = each_first in_name b s h in rw (name_byte b f.0) (names_clean s f.1)

zero_clean : (s : List ℕ) → has_zero s ≡ false → list_all (λ b. not (b == 0)) s ≡ true
zero_clean [] h = refl
zero_clean (b ∷ s) h = elim (bool_cases (b == 0)) [
  | inl e ↦ absurd (let k : true ≡ false = rw e at h in cc)
  | inr e ↦ rw e (zero_clean s (rw e at h))
]

clean_name : (b : ℕ) (s : List ℕ) → list_all (λ b. not (b == 0)) (b ∷ s) ≡ true → base.IsName (b ∷ s)
clean_name b s h = rw (ne_eqb (suc (length s)) 0 (λ e. omega (arith, e))) h

pub or_true : (a b : Bool) → b ≡ true → cond a true b ≡ true
or_true true b h = refl
or_true false b h = h

bare_is_name : (s : List ℕ) (row : TokenRow) → has_name (kind_of row) ≡ true → SpellsRow row s → is_quoted s ≡ false → base.IsName (bare_name (kind_of row) s)
bare_is_name [] row n h q = absurd h
bare_is_name (b ∷ s) r.Label n h q =
    let l = h.1 in
    let size : suc (length s) - 1 ≡ suc (length l.inside) = omega (arith, ap length l.parts, length-append l.inside (l.byte ∷ l.rest), ap length l.rest_is) in
    let front : take (length l.inside) s ≡ l.inside = rw l.parts (take-append_seam l.inside (l.byte ∷ l.rest)) in
    rw (size, front) (clean_name b l.inside (names_clean (b ∷ l.inside) (rw h.0 l.inside_in)))
bare_is_name (b ∷ []) r.GlobalName n h q = absurd h.1
bare_is_name (b ∷ x ∷ s) r.GlobalName n h q = clean_name x s (names_clean (x ∷ s) (rw (start_name (byte_class x) h.1.0) h.1.1))
bare_is_name (b ∷ []) r.LocalName n h q = absurd h.1
bare_is_name (b ∷ x ∷ s) r.LocalName n h q = clean_name x s (names_clean (x ∷ s) (rw (start_name (byte_class x) h.1.0) h.1.1))
bare_is_name (b ∷ s) QuotedLabel n h q = absurd (let k : true ≡ false = rw h.0 at q in cc)
bare_is_name (b ∷ []) QuotedGlobal n h q = absurd h.1
bare_is_name (b ∷ x ∷ s) QuotedGlobal n h q = absurd (let k = or_true (is_quote (byte_class b)) (is_quote (byte_class x)) h.1.0 in cc)
bare_is_name (b ∷ []) QuotedLocal n h q = absurd h.1
bare_is_name (b ∷ x ∷ s) QuotedLocal n h q = absurd (let k = or_true (is_quote (byte_class b)) (is_quote (byte_class x)) h.1.0 in cc)
bare_is_name s _ n h q = absurd cc

decoded_name : (inside bytes : List ℕ) → is_name inside ≡ true → Some bytes ≡ decode Plain inside → base.IsName bytes
decoded_name [] bytes h e = absurd cc
decoded_name (b ∷ s) [] h e = absurd (let k : b ∷ s ≡ [] = (strings_stand_for (b ∷ s) []).0 (sym e) in cc)
decoded_name (b ∷ s) (x ∷ bytes) h e =
    let clean : is_clean (zero_in false (Some (x ∷ bytes))) ≡ true = rw (← e) at h in
    clean_name x bytes (zero_clean (x ∷ bytes) (not_true (has_zero (x ∷ bytes)) clean))
  where
    not_true : (z : Bool) → not z ≡ true → z ≡ false
    not_true true k = absurd cc
    not_true false k = refl

-- What a label, a global name or a local name spells is a name.
pub spelled_name : (kind : TokenKind) (s bytes : List ℕ) → has_name kind ≡ true → IsToken kind s → Some bytes ≡ name_in (record { kind = kind; spelling = s }) → base.IsName bytes
spelled_name kind s bytes n t e = elim (bool_cases (is_quoted s)) [
  | inl q ↦ (
      let named : has_name (kind_of t.row) ≡ true = rw t.kind_is n in
      let inside = name_inside s t.row (string_of t.row s t.spelled q) named t.spelled in
      decoded_name (between_quotes s) bytes inside.tested (rw q at e))
  | inr q ↦ (
      let named : has_name (kind_of t.row) ≡ true = rw t.kind_is n in
      let bare : Some bytes ≡ Some (bare_name kind s) = rw q at e in
      let same : bytes ≡ bare_name kind s = cc in
      rw (same, ← t.kind_is) (bare_is_name s t.row named t.spelled q))
]
