-- What tokens that are spelled in bytes stand for: names are names, strings are bytes, integer types have 1 to 128 bits.
use Rattle.std.proofs.Common.{◌≡◌, ℕ, zero, suc, ◌-◌, ◌<◌, ◌≤◌, ◌==◌, ◌&&◌, nat_lt, nat_le, not, cond, List, [], ◌∷◌, ◌++◌, length, take, drop, Bool, true, false, Option, Some, None, option_map, refl, sym, ap, subst, inl, inr, arith, bytes_eq}
use Rattle.std.specs.List.{list_all}
use Rattle.std.proofs.lemmas.Bool.{and_parts, leb-true, lt-ltb}
use Rattle.std.proofs.lemmas.Option.{same_Some}
use Rattle.ir_base.specs.Name as base
use Rattle.ir_lexer.specs.Ahead.{Located}
use Rattle.ir_lexer.specs.Class.{from_to}
use Rattle.ir_lexer.specs.Names.{has_name, is_number, bare_name, between_quotes, behind_quote, is_quoted, name_in, unquoted}
use Rattle.ir_lexer.specs.Form.{run}
use Rattle.ir_lexer.specs.Class.{no_quote}
use Rattle.ir_lexer.specs.Quoted.{digit_value, SpellsByte, StandsFor}
use Rattle.ir_lexer.specs.declared.token.TokenKind.{TokenKind}
use Rattle.ir_lexer.specs.declared.token.TokenKind.TheVariants as kind
use Rattle.ir_lexer.proofs.Strings.{strings_stand_for}
use Rattle.ir_lexer.proofs.QuotedTokens.{spelled_name}
use Rattle.ir_terminals.specs.Digits.{decimal}
use Rattle.ir_terminals.specs.Role.{terminal, terminal_in, marks}
use Rattle.ir_terminals.specs.Words.{Meaning, meaning_in, words_by_role, word_terminal, width_in, width_or, is_width}
use Rattle.ir_terminals.specs.Values.{placed_name, placed_text, name_at, named_at, string_at, name_of_global, if_global, local_of, if_local, numbered_at, named_local_of, if_named, label_of, if_label, text_of, if_quoted, bytes_of, if_bytes, width_of_type}
use Rattle.ir_terminals.specs.declared.terminal.Terminal.TheVariants as terminals
use Rattle.ir_terminals.specs.declared.values.Local.{Local}
use Rattle.ir_terminals.specs.declared.values.Local.TheVariants as locals
use Rattle.ir_terminals.specs.declared.values.PlacedName.{PlacedName}
use Rattle.ir_terminals.specs.declared.values.PlacedText.{PlacedText}
use Rattle.module_arena.specs.Names.{is_name}
use Rattle.name_rules.proofs.OnReading.Given.{AreBytes, IsSpelled}

-- ---- bytes of parts

abbrev is_byte : ℕ → Bool
is_byte b = nat_lt b 256

take_bytes : (n : ℕ) (s : List ℕ) → AreBytes s → AreBytes (take n s)
take_bytes zero s h = refl
take_bytes (suc n) [] h = refl
take_bytes (suc n) (b ∷ s) h = let parts = and_parts (is_byte b) (list_all is_byte s) h in rw (parts.0, take_bytes n s parts.1) refl

drop_bytes : (n : ℕ) (s : List ℕ) → AreBytes s → AreBytes (drop n s)
drop_bytes zero s h = h
drop_bytes (suc n) [] h = refl
drop_bytes (suc n) (b ∷ s) h = drop_bytes n s (and_parts (is_byte b) (list_all is_byte s) h).1

pub front_bytes : (a b : List ℕ) → AreBytes (a ++ b) → AreBytes a × AreBytes b
front_bytes [] b h = (refl, h)
front_bytes (x ∷ a) b h =
    let parts = and_parts (is_byte x) (list_all is_byte (a ++ b)) h in
    let rest = front_bytes a b parts.1 in
    (rw (parts.0, rest.0) refl, rest.1)

digit_small : (b v : ℕ) → digit_value b ≡ Some v → v < 16
unfolding digit_value
digit_small b v e = by (from_to 48 57 b) (from_to 97 102 b) (from_to 65 70 b) refl refl refl e
  where
    bounds : (low high : ℕ) → from_to low high b ≡ true → (low ≤ b) × (b ≤ high)
    bounds low high q = let parts = and_parts (nat_le low b) (nat_le b high) q in (leb-true low b parts.0, leb-true b high parts.1)

    same : (x : ℕ) → Some x ≡ Some v → x ≡ v
    same x q = cc

    by : (p q r : Bool) → from_to 48 57 b ≡ p → from_to 97 102 b ≡ q → from_to 65 70 b ≡ r → cond p (Some (b - 48)) (cond q (Some (b - 87)) (cond r (Some (b - 55)) None)) ≡ Some v → v < 16
    by true q r i j k e = let h = bounds 48 57 i in let s = same (b - 48) e in omega (arith, h.0, h.1, s)
    by false true r i j k e = let h = bounds 97 102 j in let s = same (b - 87) e in omega (arith, h.0, h.1, s)
    by false false true i j k e = let h = bounds 65 70 k in let s = same (b - 55) e in omega (arith, h.0, h.1, s)
    by false false false i j k e = absurd cc

less : (a b : ℕ) → a < b → nat_lt a b ≡ true
less a b h = lt-ltb a b h

spelled_byte : (part : List ℕ) (byte : ℕ) → SpellsByte part byte → AreBytes part → is_byte byte ≡ true
spelled_byte part byte (inl h) all = (and_parts (is_byte byte) true (subst AreBytes h.0 all)).0
spelled_byte part byte (inr (inl h)) all = ap is_byte h.1
spelled_byte part byte (inr (inr h)) all =
    let high = digit_small h.high h.high_value h.high_is in
    let low = digit_small h.low h.low_value h.low_is in
    let small : byte < 256 = let e = h.byte_is in omega (arith, high, low, e) in
    less byte 256 small

stands_for_bytes : (inside bytes : List ℕ) → StandsFor inside bytes → AreBytes inside → AreBytes bytes
stands_for_bytes inside [] h all = refl
stands_for_bytes inside (byte ∷ bytes) (part, rest, e, one, more) all =
    let parts = front_bytes part rest (subst AreBytes e all) in
    let first = spelled_byte part byte one parts.0 in
    let others = stands_for_bytes rest bytes more parts.1 in
    rw (first, others) refl

-- what stands in quotes is bytes
unquoted_bytes : (s bytes : List ℕ) → unquoted s ≡ Some bytes → AreBytes s → AreBytes bytes
unquoted_bytes s bytes e all =
    stands_for_bytes (between_quotes s) bytes ((strings_stand_for (between_quotes s) bytes).0 e)
    (take_bytes (run no_quote (behind_quote s)) (behind_quote s) (drop_bytes (suc (run no_quote s)) s all))

bare_bytes : (k : TokenKind) (s : List ℕ) → AreBytes s → AreBytes (bare_name k s)
bare_bytes kind.Label s all = take_bytes (length s - 1) s all
bare_bytes _ s all = drop_bytes 1 s all

-- ---- names

positive : (b : ℕ) → not (b == 0) ≡ true → nat_lt 0 b ≡ true
positive zero h = absurd cc
positive (suc b) h = less 0 (suc b) (omega arith)

both_tests : (s : List ℕ) → list_all (λ b. not (b == 0)) s ≡ true → AreBytes s → list_all (λ c. nat_lt 0 c && nat_lt c 256) s ≡ true
both_tests [] h all = refl
both_tests (b ∷ s) h all =
    let some = and_parts (not (b == 0)) (list_all (λ c. not (c == 0)) s) h in
    let small = and_parts (is_byte b) (list_all is_byte s) all in
    rw (positive b some.0, small.0, both_tests s some.1 small.1) refl

good_name : (s : List ℕ) → base.is_name s ≡ true → AreBytes s → is_name s ≡ true
good_name [] h all = absurd cc
good_name (b ∷ s) h all = both_tests (b ∷ s) (and_parts (not (length (b ∷ s) == 0)) (list_all (λ c. not (c == 0)) (b ∷ s)) h).1 all

name_bytes : (t : Located) (bytes : List ℕ) → IsSpelled t → name_in t.token ≡ Some bytes → AreBytes bytes
name_bytes t bytes h e = by (is_quoted t.token.spelling) e
  where
    by : (q : Bool) → cond q (unquoted t.token.spelling) (Some (bare_name t.token.kind t.token.spelling)) ≡ Some bytes → AreBytes bytes
    by true e = unquoted_bytes t.token.spelling bytes e h.bytes
    by false e = subst AreBytes (same_Some (bare_name t.token.kind t.token.spelling) bytes e) (bare_bytes t.token.kind t.token.spelling h.bytes)

named_well : (t : Located) (n : PlacedName) → has_name t.token.kind ≡ true → IsSpelled t → name_at t ≡ Some n → is_name n.name ≡ true
named_well t n k h e = by (name_in t.token) refl e
  where
    by : (o : Option (List ℕ)) → name_in t.token ≡ o → option_map (placed_name t.place) o ≡ Some n → is_name n.name ≡ true
    by None q e = absurd cc
    by (Some bytes) q e =
        let good = good_name bytes (spelled_name t.token.kind t.token.spelling bytes k h.token (sym q)) (name_bytes t bytes h q) in
        subst (λ (x : PlacedName). is_name x.name ≡ true) (same_Some (placed_name t.place bytes) n e) good

-- a global
pub global_well : (t : Located) (n : PlacedName) → IsSpelled t → name_of_global t ≡ Some n → is_name n.name ≡ true
global_well t n h e = by t.token.kind refl e
  where
    by : (k : TokenKind) → t.token.kind ≡ k → if_global k t ≡ Some n → is_name n.name ≡ true
    by kind.GlobalName q e = named_well t n (ap has_name q) h e
    by _ q e = absurd cc

-- a local that names a struct
pub struct_well : (t : Located) (n : PlacedName) → IsSpelled t → named_local_of false t ≡ Some n → is_name n.name ≡ true
struct_well t n h e = by t.token.kind refl e
  where
    by : (k : TokenKind) → t.token.kind ≡ k → if_named false k t ≡ Some n → is_name n.name ≡ true
    by kind.LocalName q e = named_well t n (ap has_name q) h e
    by _ q e = absurd cc

-- a name that is written is a name
abbrev pub IsLocalWell : Local → Type 0
IsLocalWell (locals.Named written) = is_name written.name ≡ true
IsLocalWell (locals.Numbered number place) = Unit {0}

local_named : (t : Located) (l : Local) → has_name t.token.kind ≡ true → IsSpelled t → named_at t ≡ Some l → IsLocalWell l
local_named t l k h e = by (name_at t) refl e
  where
    by : (o : Option PlacedName) → name_at t ≡ o → option_map locals.Named o ≡ Some l → IsLocalWell l
    by None q e = absurd cc
    by (Some n) q e = subst IsLocalWell (same_Some (locals.Named n) l e) (named_well t n k h q)

-- a local
pub local_well : (t : Located) (l : Local) → IsSpelled t → local_of t ≡ Some l → IsLocalWell l
local_well t l h e = by t.token.kind refl e
  where
    by : (k : TokenKind) → t.token.kind ≡ k → if_local k t ≡ Some l → IsLocalWell l
    by kind.LocalName q e = local_named t l (ap has_name q) h e
    by kind.UnnamedLocal q e = subst IsLocalWell (same_Some (numbered_at t) l e) tt
    by _ q e = absurd cc

-- a label
pub label_well : (t : Located) (l : Local) → IsSpelled t → label_of t ≡ Some l → IsLocalWell l
label_well t l h e = by t.token.kind refl e
  where
    number : Local
    number = locals.Numbered (decimal (bare_name kind.Label t.token.spelling)) t.place

    tested : (b : Bool) → t.token.kind ≡ kind.Label → cond b (Some number) (named_at t) ≡ Some l → IsLocalWell l
    tested true q e = subst IsLocalWell (same_Some number l e) tt
    tested false q e = local_named t l (ap has_name q) h e

    by : (k : TokenKind) → t.token.kind ≡ k → if_label k t ≡ Some l → IsLocalWell l
    by kind.Label q e = tested (is_number t.token.spelling) q e
    by _ q e = absurd cc

-- ---- strings

string_well : (t : Located) (s : PlacedText) → IsSpelled t → string_at t ≡ Some s → AreBytes s.text
string_well t s h e = by (unquoted t.token.spelling) refl e
  where
    by : (o : Option (List ℕ)) → unquoted t.token.spelling ≡ o → option_map (placed_text t.place) o ≡ Some s → AreBytes s.text
    by None q e = absurd cc
    by (Some bytes) q e = subst (λ (x : PlacedText). AreBytes x.text) (same_Some (placed_text t.place bytes) s e) (unquoted_bytes t.token.spelling bytes q h.bytes)

pub quoted_well : (t : Located) (s : PlacedText) → IsSpelled t → text_of t ≡ Some s → AreBytes s.text
quoted_well t s h e = by t.token.kind e
  where
    by : (k : TokenKind) → if_quoted k t ≡ Some s → AreBytes s.text
    by kind.Quoted e = string_well t s h e
    by _ e = absurd cc

pub byte_string_well : (t : Located) (s : PlacedText) → IsSpelled t → bytes_of t ≡ Some s → AreBytes s.text
byte_string_well t s h e = by t.token.kind e
  where
    by : (k : TokenKind) → if_bytes k t ≡ Some s → AreBytes s.text
    by kind.ByteString e = string_well t s h e
    by _ e = absurd cc

-- ---- widths

abbrev is_no_width : Option ℕ → Bool
is_no_width None = true
is_no_width (Some width) = false

abbrev no_widths : List Meaning → Bool
no_widths rows = list_all (λ (m : Meaning). is_no_width (width_of_type m.terminal)) rows

all_words : no_widths words_by_role ≡ true
unfolding words_by_role
all_words = refl

never : (rows : List Meaning) (word : List ℕ) → no_widths rows ≡ true → is_no_width (width_of_type (meaning_in rows word)) ≡ true
never [] word h = refl
never (row ∷ rows) word h = by (bytes_eq row.word word) (never rows word parts.1)
  where
    parts : (is_no_width (width_of_type row.terminal) ≡ true) × (no_widths rows ≡ true)
    parts = and_parts (is_no_width (width_of_type row.terminal)) (no_widths rows) h

    by : (b : Bool) → is_no_width (width_of_type (meaning_in rows word)) ≡ true → is_no_width (width_of_type (cond b row.terminal (meaning_in rows word))) ≡ true
    by true rest = parts.0
    by false rest = rest

no_such : (o : Option ℕ) (w : ℕ) → is_no_width o ≡ true → o ≡ Some w → ⊥
no_such None w h e = absurd cc
no_such (Some v) w h e = absurd cc

abbrev pub IsWidth : ℕ → Type 0
IsWidth w = (1 ≤ w) × (w ≤ 128)

word_width : (s : List ℕ) (w : ℕ) → width_of_type (word_terminal s) ≡ Some w → IsWidth w
unfolding word_terminal
word_width s w e = by (width_in s) e
  where
    tested : (v : ℕ) (b : Bool) → is_width v ≡ b → width_of_type (cond b (terminals.IntegerType v) terminals.Other) ≡ Some w → IsWidth w
    tested v true q e =
        let parts = and_parts (nat_le 1 v) (nat_le v 128) q in
        subst IsWidth (same_Some v w e) (leb-true 1 v parts.0, leb-true v 128 parts.1)
    tested v false q e = absurd cc

    by : (o : Option ℕ) → width_of_type (width_or o (meaning_in words_by_role s)) ≡ Some w → IsWidth w
    by (Some v) e = tested v (is_width v) refl e
    by None e = absurd (no_such (width_of_type (meaning_in words_by_role s)) w (never words_by_role s all_words) e)

-- an integer type has 1 to 128 bits
pub width_well : (t : Located) (w : ℕ) → width_of_type (terminal t.token) ≡ Some w → IsWidth w
unfolding terminal
width_well t w e = by t.token.kind e
  where
    by : (k : TokenKind) → width_of_type (terminal_in k t.token.spelling) ≡ Some w → IsWidth w
    by kind.Word e = word_width t.token.spelling w e
    by kind.Punctuation e = absurd (no_such (width_of_type (meaning_in marks t.token.spelling)) w (never marks t.token.spelling refl) e)
    by _ e = absurd cc
