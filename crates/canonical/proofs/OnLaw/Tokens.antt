-- Tokens that stand for something are printed: names, texts and numbers.
use Rattle.std.proofs.Common.{◌≡◌, ℕ, ◌-◌, ◌^◌, ◌<◌, ◌≤◌, ◌==◌, nat_le, nat_lt, not, Bool, true, false, List, [], ◌∷◌, ◌++◌, length, Some, option_map, refl, sym, ap, ◌∙◌, inl, inr, arith}
use Rattle.std.proofs.lemmas.Bool.{leb-false, and_parts, not-true, cases_Bool}
use Rattle.std.specs.List.{flat_map, list_all}
use Rattle.ir_base.specs.declared.place.Place.{Place}
use Rattle.ir_base.specs.Name as base
use Rattle.ir_lexer.specs.Class.{byte_class, starts_name, in_name, in_word, is_digit, is_quote, no_quote}
use Rattle.ir_lexer.specs.Form.{each, IsUpto}
use Rattle.ir_lexer.specs.Names.{name_in}
use Rattle.ir_lexer.specs.Quoted.{is_name, decode, has_zero}
use Rattle.ir_lexer.specs.Table.{IsToken}
use Rattle.ir_lexer.specs.Table as table
use Rattle.ir_lexer.specs.declared.class.Class.{Class}
use Rattle.ir_lexer.specs.declared.quoted.Escape.TheVariants.{Plain}
use Rattle.ir_lexer.specs.declared.token.TokenKind.TheVariants as kind
use Rattle.ir_terminals.specs.Digits as read
use Rattle.ir_terminals.specs.Role.{terminal}
use Rattle.ir_terminals.specs.Terminal.{code, integer_type_class}
use Rattle.ir_terminals.specs.Tokens.{integer_row, global_name_row, local_row, named_local_row}
use Rattle.ir_terminals.specs.Values.{integer_at, placed_name, integer_of, name_of_global, named_local_of, local_of, width_of_type}
use Rattle.ir_terminals.specs.Words.{word_terminal, width_in, width_or, is_width, meaning_in, words_by_role}
use Rattle.ir_terminals.specs.declared.limits.Limits.{Limits}
use Rattle.ir_terminals.specs.declared.values.Integer.{Integer}
use Rattle.ir_terminals.specs.declared.values.Local.TheVariants as locals
use Rattle.ir_lexer.proofs.Rows.{name_quote}
use Rattle.ir_lexer.proofs.Runs.{each_first}
use Rattle.ir_terminals.specs.declared.terminal.Terminal.TheVariants as terminals
use Rattle.ir_phrases.specs.Constants.Placed.{token_with_place, placed_by}
use Rattle.module_arena.specs.Module.{LocalName, Named, Numbered}
use Rattle.name_rules.specs.Spelled.{decimal, is_identifier, quoted_byte, name_spelling}
use Rattle.canonical.specs.Phrase as phrase
use Rattle.canonical.specs.Names as names
use Rattle.canonical.specs.Items.Unplaced.{nowhere, unplaced_integer, unplaced_name, unplaced_local}
use Rattle.canonical.specs.Items.Parts.{natural, signed, name_tree, local_tree}
use Rattle.canonical.proofs.OnLaw.Printed.{IsPrinted, no_place}
use Rattle.canonical.specs.Law.Written.{AreBytes, IsNameText, IsLocalText}
use Rattle.canonical.proofs.OnLaw.Rows.{printed_one}
use Rattle.canonical.proofs.OnLaw.Numerals.{AreDigits, decimal_some, decimal_digits, decimal_back, digits_each, digits_are, digits_first, first_digit}
use Rattle.canonical.proofs.OnLaw.Quotes.{decode_back, no_quotes, between}

-- digits alone
digits_token : (ds : List ℕ) → 0 < length ds → AreDigits ds → IsToken kind.Integer ds
digits_token ds s d = let w = first_digit ds s d in digits_token_by ds w.0 w.1 w.2 (ap is_digit w.3) d
  where
    digits_token_by : (ds : List ℕ) (x : ℕ) (rest : List ℕ) → ds ≡ x ∷ rest → is_digit (byte_class x) ≡ true → AreDigits ds → IsToken kind.Integer ds
    digits_token_by [] x rest e h d = absurd cc
    digits_token_by (y ∷ ds) x rest e h (k, lt, is, d) =
        let first : y ≡ x = cc in
        record { row = table.Digits; kind_is = refl; spelled = (rw first h, digits_each is_digit refl ds d) }

-- digits stand for their number
digits_value : (place : Place) (n : ℕ) (ds : List ℕ) (x : ℕ) (rest : List ℕ) → ds ≡ x ∷ rest → (x == 45) ≡ false → read.decimal ds ≡ n → unplaced_integer (integer_at place ds) ≡ natural n
digits_value place n [] x rest e m v = absurd cc
digits_value place n (y ∷ ds) x rest e m v =
    let first : y ≡ x = cc in
    rw first (rw m (rw first at (ap natural v)))

pub printed_natural : (n : ℕ) → n < 10 ^ 64 → IsPrinted integer_row unplaced_integer (natural n) (names.natural n)
unfolding terminal
printed_natural n h =
    let w = first_digit (decimal n) (decimal_some n) (decimal_digits n) in
    printed_one (code terminals.Integer ∷ []) integer_of unplaced_integer (natural n) kind.Integer (decimal n) (digits_token (decimal n) (decimal_some n) (decimal_digits n)) refl
    (λ place. (integer_at place (decimal n), refl, digits_value place n (decimal n) w.0 w.1 w.2 w.4 (decimal_back n)))

abbrev negated : ℕ → Integer
negated n = record { negative = true; magnitude = n; place = nowhere }

minus_token : (ds : List ℕ) → 0 < length ds → AreDigits ds → IsToken kind.Integer (45 ∷ ds)
unfolding byte_class
minus_token [] s d = absurd (omega arith)
minus_token (y ∷ ds) s (k, lt, is, d) = record { row = table.Negative; kind_is = refl; spelled = (refl, (digits_first y k lt is, digits_each is_digit refl ds d)) }

printed_negated : (n : ℕ) → n < 10 ^ 64 → IsPrinted integer_row unplaced_integer (negated n) (phrase.number (45 ∷ decimal n))
unfolding terminal
printed_negated n h =
    printed_one (code terminals.Integer ∷ []) integer_of unplaced_integer (negated n) kind.Integer (45 ∷ decimal n) (minus_token (decimal n) (decimal_some n) (decimal_digits n)) refl
    (λ place. (integer_at place (45 ∷ decimal n), refl, ap negated (decimal_back n)))

pub printed_signed : (width n : ℕ) → n < 10 ^ 64 → 2 ^ width - n < 10 ^ 64 → IsPrinted integer_row unplaced_integer (signed width n) (phrase.number (names.signed_spelling width n))
printed_signed width n h k = elim (cases_Bool (nat_lt n (2 ^ (width - 1)))) [ inl e ↦ rw e (printed_natural n h) | inr e ↦ rw e (printed_negated (2 ^ width - n) k) ]

width_is : (n : ℕ) → 1 ≤ n → n ≤ 128 → is_width n ≡ true
width_is n low high = elim (cases_Bool (nat_le 1 n)) [
  | inr e ↦ absurd (omega (arith, leb-false 1 n e))
  | inl e ↦ elim (cases_Bool (nat_le n 128)) [ inl d ↦ rw e d | inr d ↦ absurd (omega (arith, leb-false n 128 d)) ]
]

width_read : (n : ℕ) → n < 10 ^ 64 → width_in (105 ∷ decimal n) ≡ Some n
width_read n h = rw (digits_are (decimal n) (decimal_some n) (decimal_digits n)) (ap Some (decimal_back n))

-- iN
width_terminal : (n : ℕ) → 1 ≤ n → n ≤ 128 → terminal (record { kind = kind.Word; spelling = 105 ∷ decimal n }) ≡ terminals.IntegerType n
unfolding terminal word_terminal
width_terminal n low high =
    ap (λ o. width_or o (meaning_in words_by_role (105 ∷ decimal n))) (width_read n (omega arith)) ∙ rw (width_is n low high) refl

word_of_digits : (ds : List ℕ) → AreDigits ds → IsToken kind.Word (105 ∷ ds)
unfolding byte_class
word_of_digits ds d = record { row = table.Word; kind_is = refl; spelled = (refl, digits_each in_word refl ds d) }

pub printed_width : (n : ℕ) → 1 ≤ n → n ≤ 128 → IsPrinted {X = ℕ × Place} (token_with_place (integer_type_class ∷ []) width_of_type) (λ v. (v.0, no_place v.1)) (n, nowhere) (phrase.word (105 ∷ decimal n))
printed_width n low high =
    printed_one (integer_type_class ∷ []) (placed_by width_of_type) (λ v. (v.0, no_place v.1)) (n, nowhere) kind.Word (105 ∷ decimal n) (word_of_digits (decimal n) (decimal_digits n))
    (rw (width_terminal n low high) refl) (λ place. ((n, place), rw (width_terminal n low high) refl, refl))

-- what stands before the closing quote
pub upto : (test : List ℕ → Bool) (f : List ℕ → Type 0) (bytes rest : List ℕ) → AreBytes bytes → test (flat_map quoted_byte bytes) ≡ true → f rest → IsUpto no_quote test is_quote f (flat_map quoted_byte bytes ++ 34 ∷ rest)
unfolding byte_class
upto test f bytes rest b t h = record { inside = flat_map quoted_byte bytes; byte = 34; rest = rest; parts = refl; inside_in = no_quotes bytes b; tested = t; out = refl; byte_in = refl; rest_is = h }

no_zero : (bytes : List ℕ) → list_all (λ byte. not (byte == 0)) bytes ≡ true → has_zero bytes ≡ false
no_zero [] h = refl
no_zero (b ∷ bytes) h = let w = and_parts (not (b == 0)) (list_all (λ byte. not (byte == 0)) bytes) h in rw (not-true (b == 0) w.0) (no_zero bytes w.1)

name_inside : (s bytes : List ℕ) → decode Plain s ≡ Some bytes → base.is_name bytes ≡ true → is_name s ≡ true
unfolding decode
name_inside [] [] e h = absurd cc
name_inside [] (b ∷ bytes) e h = absurd cc
name_inside (c ∷ s) bytes e h = rw e (rw (no_zero bytes (and_parts (not (length bytes == 0)) (list_all (λ byte. not (byte == 0)) bytes) h).1) refl)

-- the inside of a quoted name is one
quoted_name : (name : List ℕ) → IsNameText name → is_name (flat_map quoted_byte name) ≡ true
quoted_name name h = name_inside (flat_map quoted_byte name) name (decode_back name h.bytes) h.is

-- a name, as it is spelled behind a mark
pub data NameSpelling (name : List ℕ) : List ℕ → Type 0 where
  Bare : (x : ℕ) (rest : List ℕ) → name ≡ x ∷ rest → starts_name (byte_class x) ≡ true → each in_name rest ≡ true → NameSpelling name (x ∷ rest)
  InQuotes : is_name (flat_map quoted_byte name) ≡ true → AreBytes name → NameSpelling name (34 ∷ (flat_map quoted_byte name ++ 34 ∷ []))

bare_spelling : (name : List ℕ) → is_identifier name ≡ true → NameSpelling name name
bare_spelling [] e = absurd cc
bare_spelling (x ∷ rest) e = let w = and_parts (starts_name (byte_class x)) (each in_name (x ∷ rest)) e in Bare x rest refl w.0 (each_first in_name x rest w.1).1

pub spelling_of : (name : List ℕ) → IsNameText name → NameSpelling name (name_spelling name)
spelling_of name h = elim (cases_Bool (is_identifier name)) [ inl e ↦ rw e (bare_spelling name e) | inr e ↦ rw e (InQuotes (quoted_name name h) h.bytes) ]

pub starts_unquoted : (c : Class) → starts_name c ≡ true → is_quote c ≡ false
starts_unquoted c h = elim (cases_Bool (is_quote c)) [ inl e ↦ absurd (name_quote c h e) | inr e ↦ e ]

-- the two marks of names
global_token : (name s : List ℕ) → NameSpelling name s → IsToken kind.GlobalName (64 ∷ s)
unfolding byte_class
global_token name _ (Bare x rest e h k) = record { row = table.GlobalName; kind_is = refl; spelled = (refl, (h, k)) }
global_token name _ (InQuotes t b) = record { row = table.QuotedGlobal; kind_is = refl; spelled = (refl, (refl, upto is_name (λ s. s ≡ []) name [] b t refl)) }

local_token : (name s : List ℕ) → NameSpelling name s → IsToken kind.LocalName (37 ∷ s)
unfolding byte_class
local_token name _ (Bare x rest e h k) = record { row = table.LocalName; kind_is = refl; spelled = (refl, (h, k)) }
local_token name _ (InQuotes t b) = record { row = table.QuotedLocal; kind_is = refl; spelled = (refl, (refl, upto is_name (λ s. s ≡ []) name [] b t refl)) }

global_back : (name s : List ℕ) → NameSpelling name s → name_in (record { kind = kind.GlobalName; spelling = 64 ∷ s }) ≡ Some name
unfolding byte_class
global_back name _ (Bare x rest e h k) = rw (starts_unquoted (byte_class x) h) (ap Some (sym e))
global_back name _ (InQuotes t b) = ap (decode Plain) (between (64 ∷ []) (flat_map quoted_byte name) [] refl (no_quotes name b)) ∙ decode_back name b

local_back : (name s : List ℕ) → NameSpelling name s → name_in (record { kind = kind.LocalName; spelling = 37 ∷ s }) ≡ Some name
unfolding byte_class
local_back name _ (Bare x rest e h k) = rw (starts_unquoted (byte_class x) h) (ap Some (sym e))
local_back name _ (InQuotes t b) = ap (decode Plain) (between (37 ∷ []) (flat_map quoted_byte name) [] refl (no_quotes name b)) ∙ decode_back name b

-- @name
pub printed_global : (name : List ℕ) → IsNameText name → IsPrinted global_name_row unplaced_name (name_tree name) (names.global name)
unfolding terminal
printed_global name h =
    printed_one (code terminals.GlobalName ∷ []) name_of_global unplaced_name (name_tree name) kind.GlobalName (64 ∷ name_spelling name) (global_token name (name_spelling name) (spelling_of name h)) refl
    (λ place. (placed_name place name, ap (option_map (placed_name place)) (global_back name (name_spelling name) (spelling_of name h)), refl))

-- %name, of a struct
pub printed_named_local : (limits : Limits) (name : List ℕ) → IsNameText name → IsPrinted (named_local_row limits) unplaced_name (name_tree name) (names.named_local name)
unfolding terminal
printed_named_local limits name h =
    printed_one (code terminals.Local ∷ []) (named_local_of limits.with_left_out) unplaced_name (name_tree name) kind.LocalName (37 ∷ name_spelling name) (local_token name (name_spelling name) (spelling_of name h)) refl
    (λ place. (placed_name place name, ap (option_map (placed_name place)) (local_back name (name_spelling name) (spelling_of name h)), refl))

-- %number
number_token : (ds : List ℕ) → 0 < length ds → AreDigits ds → IsToken kind.UnnamedLocal (37 ∷ ds)
unfolding byte_class
number_token [] s d = absurd (omega arith)
number_token (y ∷ ds) s (k, lt, is, d) = record { row = table.UnnamedLocal; kind_is = refl; spelled = (refl, (digits_first y k lt is, digits_each is_digit refl ds d)) }

-- %name or %number
pub printed_local : (name : LocalName) → IsLocalText name → IsPrinted local_row unplaced_local (local_tree name) (names.local name)
unfolding terminal
printed_local (Named name) h =
    printed_one (code terminals.Local ∷ []) local_of unplaced_local (local_tree (Named name)) kind.LocalName (37 ∷ name_spelling name) (local_token name (name_spelling name) (spelling_of name h)) refl
    (λ place. (locals.Named (placed_name place name), ap (λ n. option_map locals.Named (option_map (placed_name place) n)) (local_back name (name_spelling name) (spelling_of name h)), refl))
printed_local (Numbered n) h =
    printed_one (code terminals.Local ∷ []) local_of unplaced_local (local_tree (Numbered n)) kind.UnnamedLocal (37 ∷ decimal n) (number_token (decimal n) (decimal_some n) (decimal_digits n)) refl
    (λ place. (locals.Numbered n place, ap (λ m. Some (locals.Numbered m place)) (decimal_back n), refl))
