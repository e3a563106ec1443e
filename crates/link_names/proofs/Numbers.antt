-- What a number writes, and that a name with a number behind it is one.
use Rattle.std.proofs.Common.{◌≡◌, ℕ, suc, ◌+◌, ◌/◌, ◌%◌, ◌<◌, ◌≤◌, ◌^◌, Bool, true, not, eqb, List, [], ◌∷◌, ◌++◌, map, length, refl, sym, ap, ap₂, ◌∙◌, append_assoc, arith}
use Rattle.std.specs.Fmt.{decimal}
use Rattle.std.specs.Int.Digits.{digits_of}
use Rattle.std.specs.List.{list_all}
use Rattle.std.proofs.lemmas.Bool.{and_from, and_parts, ne_eqb}
use Rattle.std.proofs.lemmas.Fmt.{decimal_by_steps}
use Rattle.std.proofs.lemmas.Int.Digits.{digits_of_step}
use Rattle.ir_base.specs.Name.{IsName}
use Rattle.module_arena.specs.Module.{Bytes}
use Rattle.link_rules.specs.Rename.{dotted}

abbrev glyph : ℕ → ℕ
glyph d = d + 48

map_joined : (xs ys : List ℕ) → map glyph (xs ++ ys) ≡ map glyph xs ++ map glyph ys
map_joined [] ys = refl
map_joined (x ∷ xs) ys = ap (λ l. glyph x ∷ l) (map_joined xs ys)

abbrev Writes : ℕ → List ℕ → Type 0
Writes n ds = 0 < n → ds ≡ map glyph (digits_of 10 n)

one_digit : (n : ℕ) → n < 10 → Writes n ((48 + n) ∷ [])
one_digit n few some =
    let none : n / 10 ≡ 0 = omega arith in
    let own : n % 10 ≡ n = omega arith in
    let e : 48 + n ≡ n + 48 = omega arith in
    ap (λ k. k ∷ []) e
    ∙ sym (ap (map glyph) (digits_of_step 10 n (omega arith) some ∙ ap₂ (λ q r. digits_of 10 q ++ r ∷ []) none own))

more_digits : (n : ℕ) (ds : List ℕ) → 10 ≤ n → Writes (n / 10) ds → Writes n (ds ++ ((48 + n % 10) ∷ []))
more_digits n ds many h some =
    let e : 48 + n % 10 ≡ n % 10 + 48 = omega arith in
    ap₂ (λ xs k. xs ++ k ∷ []) (h (omega (arith, many))) e
    ∙ sym (map_joined (digits_of 10 (n / 10)) (n % 10 ∷ []))
    ∙ sym (ap (map glyph) (digits_of_step 10 n (omega arith) some))

-- a number that is not 0 is written by its digits
pub decimal_digits : (n : ℕ) → 0 < n → n < 2 ^ 64 → decimal n ≡ map (λ d. d + 48) (digits_of 10 n)
decimal_digits n some small = decimal_by_steps Writes one_digit more_digits n small some

abbrev is_no_zero : ℕ → Bool
is_no_zero byte = not (eqb byte 0)

joined_good : (xs ys : Bytes) → list_all is_no_zero xs ≡ true → list_all is_no_zero ys ≡ true → list_all is_no_zero (xs ++ ys) ≡ true
joined_good [] ys h k = k
joined_good (x ∷ xs) ys h k = let both = and_parts (is_no_zero x) _ h in and_from _ _ both.0 (joined_good xs ys both.1 k)

not_zero : (n : ℕ) → 0 < n → is_no_zero n ≡ true
not_zero n some = ap not (ne_eqb n 0 (λ e. omega (arith, some, e)))

glyphs_good : (ds : List ℕ) → list_all is_no_zero (map glyph ds) ≡ true
glyphs_good [] = refl
glyphs_good (d ∷ ds) =
    let some : 0 < d + 48 = omega arith in
    and_from _ _ (not_zero (d + 48) some) (glyphs_good ds)

some_left : (xs ys : Bytes) → not (eqb (length xs) 0) ≡ true → not (eqb (length (xs ++ ys)) 0) ≡ true
some_left [] ys h = cc
some_left (x ∷ xs) ys h = not_zero (suc (length (xs ++ ys))) (omega arith)

-- a name with a number behind it is a name
pub dotted_is_name : (base : Bytes) (n : ℕ) → IsName base → IsName (dotted base n)
dotted_is_name base n h =
    let both = and_parts (not (eqb (length base) 0)) (list_all is_no_zero base) h in
    and_from _ _ (some_left base (46 ∷ map glyph (digits_of 10 n)) both.0) (joined_good base (46 ∷ map glyph (digits_of 10 n)) both.1 (glyphs_good (digits_of 10 n)))

-- a name that is written so is the base with the number behind it
pub dotted_is : (base copied pushed written extended : Bytes) (n : ℕ) → 0 < n → n < 2 ^ 64 → copied ≡ base → pushed ≡ copied ++ 46 ∷ [] → written ≡ decimal n → extended ≡ pushed ++ written → extended ≡ dotted base n
dotted_is base copied pushed written extended n some small copy push write extend =
    extend ∙ ap₂ (λ xs ys. xs ++ ys) (push ∙ ap (λ l. l ++ 46 ∷ []) copy) (write ∙ decimal_digits n some small)
    ∙ append_assoc base (46 ∷ []) (map glyph (digits_of 10 n))
