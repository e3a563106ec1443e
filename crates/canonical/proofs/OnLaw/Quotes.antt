-- What is written in quotes stands for its bytes.
use Rattle.std.proofs.Common.{◌&&◌, ◌||◌, not, ◌≡◌, ℕ, ◌+◌, ◌*◌, ◌/◌, ◌%◌, ◌<◌, ◌==◌, Bool, true, false, cond, List, [], ◌∷◌, ◌++◌, take, Some, refl, ap, ◌∙◌, inl, inr, arith}
use Rattle.std.specs.List.{flat_map}
use Rattle.std.proofs.lemmas.Bool.{and_parts, not-true, cases_Bool}
use Rattle.ir_lexer.specs.Class.{byte_class, no_quote}
use Rattle.ir_lexer.specs.Form.{each, run}
use Rattle.ir_lexer.specs.Names.{behind_quote, between_quotes}
use Rattle.ir_lexer.proofs.Runs.{each_first, run_stops, run_first}
use Rattle.ir_lexer.specs.Quoted.{digit_value, unescaped, decode, with_byte}
use Rattle.ir_lexer.specs.declared.quoted.Escape.TheVariants.{Plain}
use Rattle.ir_lexer.proofs.Lines.{each_both}
use Rattle.canonical.specs.Law.Written.{AreBytes}
use Rattle.name_rules.specs.Spelled.{hexadecimal, is_plain, quoted_byte}
use Rattle.canonical.proofs.OnLaw.Numerals.{Below, below, all_below, tested_below}

abbrev IsHex : ℕ → Type 0
IsHex n = (digit_value (hexadecimal n) ≡ Some n) × ((hexadecimal n == 92) ≡ false) × (no_quote (byte_class (hexadecimal n)) ≡ true)

hexes : Below IsHex 16
unfolding Below byte_class digit_value
hexes = ((refl, refl, refl), ((refl, refl, refl), ((refl, refl, refl), ((refl, refl, refl), ((refl, refl, refl), ((refl, refl, refl), ((refl, refl, refl), ((refl, refl, refl), ((refl, refl, refl), ((refl, refl, refl), ((refl, refl, refl), ((refl, refl, refl), ((refl, refl, refl), ((refl, refl, refl), ((refl, refl, refl), ((refl, refl, refl), tt))))))))))))))))

hex : (n : ℕ) → n < 16 → IsHex n
hex n h = below IsHex 16 hexes n h

abbrev is_fine : ℕ → Bool
is_fine b = not (is_plain b) || (not (b == 92) && no_quote (byte_class b))

all_fine : all_below is_fine 256 ≡ true
unfolding all_below byte_class
all_fine = refl

implied : (a b : Bool) → (not a || b) ≡ true → a ≡ true → b ≡ true
implied true b h e = h
implied false b h e = absurd cc

-- a byte that stands for itself is neither a quote nor a backslash
plain_byte : (b : ℕ) → b < 256 → is_plain b ≡ true → (no_quote (byte_class b) ≡ true) × ((b == 92) ≡ false)
plain_byte b h p =
    let w = and_parts (not (b == 92)) (no_quote (byte_class b)) (implied (is_plain b) (not (b == 92) && no_quote (byte_class b)) (tested_below is_fine 256 all_fine b h) p) in
    (w.1, not-true (b == 92) w.0)

decode_by : (b : ℕ) (plain : Bool) (rest : List ℕ) → is_plain b ≡ plain → b < 256 → decode Plain ((cond plain (b ∷ []) (92 ∷ hexadecimal (b / 16) ∷ hexadecimal (b % 16) ∷ [])) ++ rest) ≡ with_byte b (decode Plain rest)
unfolding decode unescaped
decode_by b true rest p h = rw (plain_byte b h p).1 refl
decode_by b false rest p h =
    let high = hex (b / 16) (omega arith) in
    let low = hex (b % 16) (omega arith) in
    let is : 16 * (b / 16) + b % 16 ≡ b = omega arith in
    rw high.1 (rw high.0 (rw low.0 (rw is refl)))

decode_byte : (b : ℕ) (rest : List ℕ) → b < 256 → decode Plain (quoted_byte b ++ rest) ≡ with_byte b (decode Plain rest)
decode_byte b rest h = elim (cases_Bool (is_plain b)) [ inl e ↦ rw e (decode_by b true rest e h) | inr e ↦ rw e (decode_by b false rest e h) ]

-- what is between the quotes stands for the bytes
pub decode_back : (bytes : List ℕ) → AreBytes bytes → decode Plain (flat_map quoted_byte bytes) ≡ Some bytes
unfolding decode
decode_back [] h = refl
decode_back (b ∷ bytes) (h, hs) = decode_byte b (flat_map quoted_byte bytes) h ∙ ap (with_byte b) (decode_back bytes hs)

no_quote_by : (b : ℕ) (plain : Bool) → is_plain b ≡ plain → b < 256 → each no_quote (cond plain (b ∷ []) (92 ∷ hexadecimal (b / 16) ∷ hexadecimal (b % 16) ∷ [])) ≡ true
unfolding byte_class
no_quote_by b true p h = rw (plain_byte b h p).0 refl
no_quote_by b false p h = rw (hex (b / 16) (omega arith)).2 (rw (hex (b % 16) (omega arith)).2 refl)

-- and has no quote
pub no_quotes : (bytes : List ℕ) → AreBytes bytes → each no_quote (flat_map quoted_byte bytes) ≡ true
no_quotes [] h = refl
no_quotes (b ∷ bytes) (h, hs) = each_both no_quote (quoted_byte b) (flat_map quoted_byte bytes) (elim (cases_Bool (is_plain b)) [ inl e ↦ rw e (no_quote_by b true e h) | inr e ↦ rw e (no_quote_by b false e h) ]) (no_quotes bytes hs)

behind : (pre rest : List ℕ) → each no_quote pre ≡ true → behind_quote (pre ++ 34 ∷ rest) ≡ rest
unfolding byte_class
behind [] rest h = rw (run_stops no_quote 34 rest refl) refl
behind (x ∷ pre) rest h = let w = each_first no_quote x pre h in rw (run_first no_quote x (pre ++ 34 ∷ rest) w.0) (behind pre rest w.1)

front : (inside rest : List ℕ) → each no_quote inside ≡ true → take (run no_quote (inside ++ 34 ∷ rest)) (inside ++ 34 ∷ rest) ≡ inside
unfolding byte_class
front [] rest h = rw (run_stops no_quote 34 rest refl) refl
front (x ∷ inside) rest h = let w = each_first no_quote x inside h in rw (run_first no_quote x (inside ++ 34 ∷ rest) w.0) (ap (λ (ys : List ℕ). x ∷ ys) (front inside rest w.1))

pub between : (pre inside rest : List ℕ) → each no_quote pre ≡ true → each no_quote inside ≡ true → between_quotes (pre ++ 34 ∷ (inside ++ 34 ∷ rest)) ≡ inside
between pre inside rest h k = rw (behind pre (inside ++ 34 ∷ rest) h) (front inside rest k)
