-- Labels and texts are printed.
use Rattle.std.proofs.Common.{◌≡◌, ℕ, ◌-◌, ◌<◌, true, false, List, [], ◌∷◌, ◌++◌, length, Some, option_map, refl, sym, ap, subst, ◌∙◌, inl, inr, arith, append_assoc, length-append}
use Rattle.std.proofs.lemmas.List.{take-append-le}
use Rattle.std.proofs.Math.Seq.{take-length}
use Rattle.std.specs.List.{flat_map}
use Rattle.std.proofs.lemmas.Bool.{cases_Bool}
use Rattle.ir_lexer.specs.Class.{byte_class, starts_with, starts_name, in_name, is_digit, is_quote, is_colon}
use Rattle.ir_lexer.specs.Form.{each, IsUpto, anything}
use Rattle.ir_lexer.specs.Names.{name_in, unquoted, bare_name, is_number, between_quotes}
use Rattle.ir_lexer.specs.Quoted.{is_name, is_text, is_whole, decode, zero_in}
use Rattle.ir_lexer.specs.Table.{IsToken}
use Rattle.ir_lexer.specs.Table as table
use Rattle.ir_lexer.specs.declared.class.Class.{Class}
use Rattle.ir_lexer.specs.declared.class.Class.TheVariants.{LetterC, Letter, Underscore, Digit, Minus, Dollar, Dot}
use Rattle.ir_lexer.specs.declared.quoted.Escape.TheVariants.{Plain}
use Rattle.ir_lexer.specs.declared.token.TokenKind.TheVariants as kind
use Rattle.ir_lexer.proofs.Rows.{name_digit}
use Rattle.ir_lexer.proofs.Runs.{each_first}
use Rattle.ir_lexer.proofs.Lexed.{start_name}
use Rattle.ir_terminals.specs.Role.{terminal}
use Rattle.ir_terminals.specs.Terminal.{code}
use Rattle.ir_terminals.specs.Tokens.{label_row, quoted_row, byte_string_row}
use Rattle.ir_terminals.specs.Values.{placed_name, placed_text, label_of, text_of, bytes_of}
use Rattle.ir_terminals.specs.declared.terminal.Terminal.TheVariants as terminals
use Rattle.ir_terminals.specs.declared.values.Local.TheVariants as locals
use Rattle.module_arena.specs.Module.{LocalName, Named, Numbered}
use Rattle.name_rules.specs.Spelled.{decimal, quoted_byte, name_spelling}
use Rattle.canonical.specs.Names as names
use Rattle.canonical.specs.Names.{quoted}
use Rattle.canonical.specs.Items.Unplaced.{nowhere, unplaced_text, unplaced_local}
use Rattle.canonical.specs.Items.Parts.{local_tree}
use Rattle.canonical.proofs.OnLaw.Printed.{IsPrinted}
use Rattle.canonical.specs.Law.Written.{AreBytes, IsLocalText}
use Rattle.canonical.proofs.OnLaw.Rows.{printed_one}
use Rattle.canonical.proofs.OnLaw.Numerals.{AreDigits, decimal_some, decimal_digits, decimal_back, digits_each, digits_first}
use Rattle.canonical.proofs.OnLaw.Quotes.{decode_back, no_quotes, between}
use Rattle.canonical.proofs.OnLaw.Tokens.{NameSpelling, Bare, InQuotes, spelling_of, starts_unquoted, upto}

in_unquoted : (c : Class) → in_name c ≡ true → is_quote c ≡ false
in_unquoted LetterC h = refl
in_unquoted Letter h = refl
in_unquoted Underscore h = refl
in_unquoted Digit h = refl
in_unquoted Minus h = refl
in_unquoted Dollar h = refl
in_unquoted Dot h = refl
in_unquoted _ h = absurd cc

starts_no_digit : (c : Class) → starts_name c ≡ true → is_digit c ≡ false
starts_no_digit c h = elim (cases_Bool (is_digit c)) [ inl e ↦ absurd (name_digit c h e) | inr e ↦ e ]

-- a label's spelling without the colon
bare_label : (s : List ℕ) → bare_name kind.Label (s ++ 58 ∷ []) ≡ s
bare_label s =
    let l : length (s ++ 58 ∷ []) - 1 ≡ length s = omega (arith, length-append s (58 ∷ [])) in
    rw l (take-append-le (length s) s (58 ∷ []) (omega arith) ∙ take-length s)

upto_colon : (rest : List ℕ) → each in_name rest ≡ true → IsUpto in_name anything is_colon (λ s. s ≡ []) (rest ++ 58 ∷ [])
unfolding byte_class
upto_colon rest h = record { inside = rest; byte = 58; rest = []; parts = refl; inside_in = h; tested = refl; out = refl; byte_in = refl; rest_is = refl }

quoted_end : (name : List ℕ) → (34 ∷ (flat_map quoted_byte name ++ 34 ∷ [])) ++ 58 ∷ [] ≡ 34 ∷ (flat_map quoted_byte name ++ 34 ∷ 58 ∷ [])
quoted_end name = ap (λ (s : List ℕ). 34 ∷ s) (append_assoc (flat_map quoted_byte name) (34 ∷ []) (58 ∷ []))

quoted_label : (name : List ℕ) → is_name (flat_map quoted_byte name) ≡ true → AreBytes name → IsToken kind.Label (34 ∷ (flat_map quoted_byte name ++ 34 ∷ 58 ∷ []))
unfolding byte_class
quoted_label name t b = record { row = table.QuotedLabel; kind_is = refl; spelled = (refl, upto is_name _ name (58 ∷ []) b t (refl, refl)) }

label_token : (name s : List ℕ) → NameSpelling name s → IsToken kind.Label (s ++ 58 ∷ [])
label_token name _ (Bare x rest e h k) = record { row = table.Label; kind_is = refl; spelled = (start_name (byte_class x) h, upto_colon rest k) }
label_token name _ (InQuotes t b) = subst (λ (s : List ℕ). IsToken kind.Label s) (sym (quoted_end name)) (quoted_label name t b)

second_unquoted : (rest : List ℕ) → each in_name rest ≡ true → starts_with is_quote (rest ++ 58 ∷ []) ≡ false
unfolding byte_class
second_unquoted [] h = refl
second_unquoted (y ∷ rest) h = in_unquoted (byte_class y) (each_first in_name y rest h).0

no_number : (name s : List ℕ) → NameSpelling name s → is_number (s ++ 58 ∷ []) ≡ false
unfolding byte_class
no_number name _ (Bare x rest e h k) = ap (each is_digit) (bare_label (x ∷ rest)) ∙ rw (starts_no_digit (byte_class x) h) refl
no_number name _ (InQuotes t b) = ap (each is_digit) (bare_label (34 ∷ (flat_map quoted_byte name ++ 34 ∷ [])))

label_back : (name s : List ℕ) → NameSpelling name s → name_in (record { kind = kind.Label; spelling = s ++ 58 ∷ [] }) ≡ Some name
unfolding byte_class
label_back name _ (Bare x rest e h k) = rw (starts_unquoted (byte_class x) h) (rw (second_unquoted rest k) (ap Some (bare_label (x ∷ rest) ∙ sym e)))
label_back name _ (InQuotes t b) =
    ap (λ s. decode Plain (between_quotes s)) (quoted_end name) ∙ ap (decode Plain) (between [] (flat_map quoted_byte name) (58 ∷ []) refl (no_quotes name b)) ∙ decode_back name b

number_label : (ds : List ℕ) → 0 < length ds → AreDigits ds → IsToken kind.Label (ds ++ 58 ∷ [])
number_label [] s d = absurd (omega arith)
number_label (y ∷ ds) s (k, lt, is, d) = record { row = table.Label; kind_is = refl; spelled = (digit_in (byte_class y) (digits_first y k lt is), upto_colon ds (digits_each in_name refl ds d)) }
  where
    digit_in : (c : Class) → is_digit c ≡ true → in_name c ≡ true
    digit_in Digit h = refl
    digit_in _ h = absurd cc

-- name: or number:
pub printed_label : (name : LocalName) → IsLocalText name → IsPrinted label_row unplaced_local (local_tree name) (names.label name)
unfolding terminal
printed_label (Named name) h =
    let s = spelling_of name h in
    printed_one (code terminals.Label ∷ []) label_of unplaced_local (local_tree (Named name)) kind.Label (name_spelling name ++ 58 ∷ []) (label_token name (name_spelling name) s) refl
    (λ place. (locals.Named (placed_name place name), rw (no_number name (name_spelling name) s) (ap (λ n. option_map locals.Named (option_map (placed_name place) n)) (label_back name (name_spelling name) s)), refl))
printed_label (Numbered n) h =
    printed_one (code terminals.Label ∷ []) label_of unplaced_local (local_tree (Numbered n)) kind.Label (decimal n ++ 58 ∷ []) (number_label (decimal n) (decimal_some n) (decimal_digits n)) refl
    (λ place. (locals.Numbered n place, rw (bare_label (decimal n)) (rw (digits_each is_digit refl (decimal n) (decimal_digits n)) (ap (λ m. Some (locals.Numbered m place)) (decimal_back n))), refl))

text_inside : (bytes : List ℕ) → AreBytes bytes → is_text (flat_map quoted_byte bytes) ≡ true
text_inside bytes b = ap (λ d. is_whole (zero_in false d)) (decode_back bytes b)

text_back : (bytes : List ℕ) → AreBytes bytes → unquoted (quoted bytes) ≡ Some bytes
text_back bytes b = ap (decode Plain) (between [] (flat_map quoted_byte bytes) [] refl (no_quotes bytes b)) ∙ decode_back bytes b

text_token : (bytes : List ℕ) → AreBytes bytes → IsToken kind.Quoted (quoted bytes)
unfolding byte_class
text_token bytes b = record { row = table.Quoted; kind_is = refl; spelled = (refl, upto is_text (λ s. s ≡ []) bytes [] b (text_inside bytes b) refl) }

-- "..."
pub printed_text : (bytes : List ℕ) → AreBytes bytes → IsPrinted quoted_row unplaced_text (record { text = bytes; place = nowhere }) (names.text bytes)
unfolding terminal
printed_text bytes b =
    printed_one (code terminals.Quoted ∷ []) text_of unplaced_text (record { text = bytes; place = nowhere }) kind.Quoted (quoted bytes) (text_token bytes b) refl
    (λ place. (placed_text place bytes, ap (option_map (placed_text place)) (text_back bytes b), refl))

bytes_token : (bytes : List ℕ) → AreBytes bytes → IsToken kind.ByteString (99 ∷ quoted bytes)
unfolding byte_class
bytes_token bytes b = record { row = table.ByteString; kind_is = refl; spelled = (refl, (refl, upto is_text (λ s. s ≡ []) bytes [] b (text_inside bytes b) refl)) }

bytes_back : (bytes : List ℕ) → AreBytes bytes → unquoted (99 ∷ quoted bytes) ≡ Some bytes
unfolding byte_class
bytes_back bytes b = ap (decode Plain) (between (99 ∷ []) (flat_map quoted_byte bytes) [] refl (no_quotes bytes b)) ∙ decode_back bytes b

-- c"..."
pub printed_byte_string : (bytes : List ℕ) → AreBytes bytes → IsPrinted byte_string_row unplaced_text (record { text = bytes; place = nowhere }) (names.byte_string bytes)
unfolding terminal
printed_byte_string bytes b =
    printed_one (code terminals.ByteString ∷ []) bytes_of unplaced_text (record { text = bytes; place = nowhere }) kind.ByteString (99 ∷ quoted bytes) (bytes_token bytes b) refl
    (λ place. (placed_text place bytes, ap (option_map (placed_text place)) (bytes_back bytes b), refl))
