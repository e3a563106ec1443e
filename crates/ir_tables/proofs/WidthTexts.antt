-- A width is read exactly where it is written in decimal: by trying every number of three digits.
use Rattle.std.proofs.Common.{◌≡◌, ◌≢◌, ℕ, zero, suc, ◌+◌, ◌-◌, ◌*◌, ◌<◌, ◌≤◌, ◌↔◌, ◌⊎◌, inl, inr, Bool, true, false, ◌&&◌, cond, nat_eq, ltb, length, get_or, List, [], ◌∷◌, Option, Some, None, refl, ap, sym, ◌∙◌, arith, bytes_eq}
use Rattle.std.specs.Fmt.{decimal, digits}
use Rattle.std.proofs.lemmas.Bool.{and_parts, cases_Bool, cases_eq, eqb-true, eq-eqb, ne_eqb, lt-ltb}
use Rattle.std.proofs.lemmas.Slice.Eq.{bytes_eq-Decides}
use Rattle.ir_tables.specs.WidthText.{number_of, width_of_digits, width_of, width_of_all, is_padded}
use Rattle.ir_tables.specs.IntrinsicName.{IsWidthText}

-- every number below this one passes
abbrev up_to : (ℕ → Bool) → ℕ → Bool
up_to test zero = true
up_to test (suc n) = test n && up_to test n

up_to_at : (test : ℕ → Bool) (n k : ℕ) → up_to test n ≡ true → k < n → test k ≡ true
up_to_at test zero k all below = absurd (omega arith)
up_to_at test (suc n) k all below =
    let parts = and_parts (test n) (up_to test n) all in
    elim (cases_eq k n) [ inl e ↦ ap test e ∙ parts.0 | inr other ↦ up_to_at test n k parts.1 (omega arith) ]

abbrev is_some_of : Option ℕ → ℕ → Bool
is_some_of None n = false
is_some_of (Some m) n = nat_eq m n

is_some_of-true : (found : Option ℕ) (n : ℕ) → is_some_of found n ≡ true → found ≡ Some n
is_some_of-true None n e = absurd (cc)
is_some_of-true (Some m) n e = ap (λ k. Some k) (eqb-true m n e)

-- what is written is read
abbrev reads_back : ℕ → Bool
reads_back k = is_some_of (width_of (decimal (k + 1))) (k + 1)

all_read : up_to reads_back 128 ≡ true
unfolding width_of digits
all_read = refl

-- three digits as they are written
abbrev pub text_of : ℕ → ℕ → ℕ → List ℕ
text_of hundreds tens ones =
    cond (nat_eq hundreds 0)
    (cond (nat_eq tens 0) ((48 + ones) ∷ []) ((48 + tens) ∷ (48 + ones) ∷ []))
    ((48 + hundreds) ∷ (48 + tens) ∷ (48 + ones) ∷ [])

abbrev is_written : ℕ → ℕ → ℕ → Bool
is_written hundreds tens ones = bytes_eq (text_of hundreds tens ones) (decimal (hundreds * 100 + tens * 10 + ones))

all_written : up_to (λ hundreds. up_to (λ tens. up_to (λ ones. is_written hundreds tens ones) 10) 10) 10 ≡ true
unfolding digits
all_written = refl

pub written : (hundreds tens ones : ℕ) → hundreds < 10 → tens < 10 → ones < 10 → text_of hundreds tens ones ≡ decimal (hundreds * 100 + tens * 10 + ones)
written hundreds tens ones h t o =
    let a = up_to_at (λ hundreds. up_to (λ tens. up_to (λ ones. is_written hundreds tens ones) 10) 10) 10 hundreds all_written h in
    let b = up_to_at (λ tens. up_to (λ ones. is_written hundreds tens ones) 10) 10 tens a t in
    let c = up_to_at (λ ones. is_written hundreds tens ones) 10 ones b o in
    (bytes_eq-Decides (text_of hundreds tens ones) (decimal (hundreds * 100 + tens * 10 + ones))).0 c

-- what three digits say of the number that is read
record IsRead (hundreds tens ones width : ℕ) : Type 0 where
  a : (48 ≤ hundreds) × (hundreds ≤ 57)
  b : (48 ≤ tens) × (tens ≤ 57)
  c : (48 ≤ ones) × (ones ≤ 57)
  is : width ≡ number_of hundreds tens ones
  some : 1 ≤ width
  most : width ≤ 128

is_read : (hundreds tens ones width : ℕ) → width_of_digits hundreds tens ones ≡ Some width → IsRead hundreds tens ones width
is_read hundreds tens ones width e = grind (arith, e)

text_is : (hundreds tens ones width : ℕ) → IsRead hundreds tens ones width → text_of (hundreds - 48) (tens - 48) (ones - 48) ≡ decimal width
text_is hundreds tens ones width r =
    written (hundreds - 48) (tens - 48) (ones - 48) (omega (arith, r.a)) (omega (arith, r.b)) (omega (arith, r.c)) ∙ ap decimal (sym r.is)

back : (byte : ℕ) → (48 ≤ byte) × (byte ≤ 57) → 48 + (byte - 48) ≡ byte
back byte r = omega (arith, r)

not_zero : (byte : ℕ) → (48 ≤ byte) × (byte ≤ 57) → byte ≢ 48 → nat_eq (byte - 48) 0 ≡ false
not_zero byte r other = ne_eqb (byte - 48) 0 (λ e. other (omega (arith, r, e)))

one_digit : (ones width : ℕ) → IsRead 48 48 ones width → ones ∷ [] ≡ decimal width
one_digit ones width r = ap (λ n. n ∷ []) (sym (back ones r.c)) ∙ text_is 48 48 ones width r

two_digits : (tens ones width : ℕ) → tens ≢ 48 → IsRead 48 tens ones width → tens ∷ ones ∷ [] ≡ decimal width
two_digits tens ones width other r =
    let z = not_zero tens r.b other in
    let t = text_is 48 tens ones width r in
    let u : (48 + (tens - 48)) ∷ (48 + (ones - 48)) ∷ [] ≡ decimal width = rw z at t in
    ap (λ n. n ∷ ones ∷ []) (sym (back tens r.b)) ∙ ap (λ n. (48 + (tens - 48)) ∷ n ∷ []) (sym (back ones r.c)) ∙ u

three_digits : (hundreds tens ones width : ℕ) → hundreds ≢ 48 → IsRead hundreds tens ones width → hundreds ∷ tens ∷ ones ∷ [] ≡ decimal width
three_digits hundreds tens ones width other r =
    let z = not_zero hundreds r.a other in
    let t = text_is hundreds tens ones width r in
    let u : (48 + (hundreds - 48)) ∷ (48 + (tens - 48)) ∷ (48 + (ones - 48)) ∷ [] ≡ decimal width = rw z at t in
    ap (λ n. n ∷ tens ∷ ones ∷ []) (sym (back hundreds r.a)) ∙ ap (λ n. (48 + (hundreds - 48)) ∷ n ∷ ones ∷ []) (sym (back tens r.b)) ∙ ap (λ n. (48 + (hundreds - 48)) ∷ (48 + (tens - 48)) ∷ n ∷ []) (sym (back ones r.c)) ∙ u

made : (digits : List ℕ) (hundreds tens ones width : ℕ) → IsRead hundreds tens ones width → digits ≡ decimal width → IsWidthText width digits
made digits hundreds tens ones width r e = record { some = r.some; most = r.most; written = e }

not_padded : (first second : ℕ) (more : List ℕ) → is_padded (first ∷ second ∷ more) ≡ false → first ≢ 48
not_padded first second more e leads =
    let t = eq-eqb first 48 leads in
    let many : ltb 1 (length (first ∷ second ∷ more)) ≡ true = lt-ltb _ _ (omega arith) in
    let padded : is_padded (first ∷ second ∷ more) ≡ true = rw (many, t) refl in
    cc

text_of_all : (digits : List ℕ) (width : ℕ) → is_padded digits ≡ false → width_of_all digits ≡ Some width → IsWidthText width digits
text_of_all [] width plain e = absurd (cc)
text_of_all (ones ∷ []) width plain e = let r = is_read 48 48 ones width e in made _ _ _ _ _ r (one_digit ones width r)
text_of_all (first ∷ second ∷ []) width plain e = let r = is_read 48 first second width e in made _ _ _ _ _ r (two_digits first second width (not_padded first second [] plain) r)
text_of_all (first ∷ second ∷ third ∷ []) width plain e = let r = is_read first second third width e in made _ _ _ _ _ r (three_digits first second third width (not_padded first second (third ∷ []) plain) r)
text_of_all (first ∷ second ∷ third ∷ fourth ∷ more) width plain e = absurd (cc)

text_of_read : (digits : List ℕ) (width : ℕ) → width_of digits ≡ Some width → IsWidthText width digits
unfolding width_of
text_of_read digits width e = elim (cases_Bool (is_padded digits)) [
  | inl padded ↦ let none : None ≡ Some width = rw padded at e in absurd (cc)
  | inr plain ↦ let some : width_of_all digits ≡ Some width = rw plain at e in text_of_all digits width plain some
]

read_at : (width : ℕ) → 1 ≤ width → width ≤ 128 → is_some_of (width_of (decimal width)) width ≡ true
read_at width some most =
    let e : width - 1 + 1 ≡ width = omega (arith, some) in
    ap (λ n. is_some_of (width_of (decimal n)) n) (sym e) ∙ up_to_at reads_back 128 (width - 1) all_read (omega (arith, some, most))

-- what is read is what is written
width_of_exact : (digits : List ℕ) (found : Option ℕ) → found ≡ width_of digits → (width : ℕ) → (found ≡ Some width) ↔ IsWidthText width digits
width_of_exact digits found is width = (
  λ e. text_of_read digits width (sym is ∙ e),
  λ text. is ∙ ap width_of text.written ∙ is_some_of-true _ width (read_at width text.some text.most),
)

plain_read : (digits : List ℕ) (found : Option ℕ) (padded : Bool) → padded ≡ is_padded digits → padded ≡ false → found ≡ width_of_all digits → (width : ℕ) → (found ≡ Some width) ↔ IsWidthText width digits
unfolding width_of
plain_read digits found padded e plain is = let f : is_padded digits ≡ false = sym e ∙ plain in width_of_exact digits found (rw f is)

pub read_padded : (digits : List ℕ) (padded : Bool) → padded ≡ is_padded digits → padded ≡ true → (width : ℕ) → (None ≡ Some width) ↔ IsWidthText width digits
unfolding width_of
read_padded digits padded e t = let f : is_padded digits ≡ true = sym e ∙ t in width_of_exact digits None (rw f refl)

pub read_one : (digits : List ℕ) (found : Option ℕ) (padded : Bool) → padded ≡ is_padded digits → padded ≡ false → 1 ≤ length digits → length digits < 2 → found ≡ width_of_digits 48 48 (get_or digits 0 0) → (width : ℕ) → (found ≡ Some width) ↔ IsWidthText width digits
read_one [] found padded e plain some few is = absurd (omega (arith, some))
read_one (a ∷ []) found padded e plain some few is = plain_read (a ∷ []) found padded e plain is
read_one (a ∷ b ∷ more) found padded e plain some few is = absurd (omega (arith, few))

pub read_two : (digits : List ℕ) (found : Option ℕ) (padded : Bool) → padded ≡ is_padded digits → padded ≡ false → 2 ≤ length digits → length digits < 3 → found ≡ width_of_digits 48 (get_or digits 0 0) (get_or digits 1 0) → (width : ℕ) → (found ≡ Some width) ↔ IsWidthText width digits
read_two [] found padded e plain some few is = absurd (omega (arith, some))
read_two (a ∷ []) found padded e plain some few is = absurd (omega (arith, some))
read_two (a ∷ b ∷ []) found padded e plain some few is = plain_read (a ∷ b ∷ []) found padded e plain is
read_two (a ∷ b ∷ c ∷ more) found padded e plain some few is = absurd (omega (arith, few))

pub read_three : (digits : List ℕ) (found : Option ℕ) (padded : Bool) → padded ≡ is_padded digits → padded ≡ false → 3 ≤ length digits → length digits < 4 → found ≡ width_of_digits (get_or digits 0 0) (get_or digits 1 0) (get_or digits 2 0) → (width : ℕ) → (found ≡ Some width) ↔ IsWidthText width digits
read_three [] found padded e plain some few is = absurd (omega (arith, some))
read_three (a ∷ []) found padded e plain some few is = absurd (omega (arith, some))
read_three (a ∷ b ∷ []) found padded e plain some few is = absurd (omega (arith, some))
read_three (a ∷ b ∷ c ∷ []) found padded e plain some few is = plain_read (a ∷ b ∷ c ∷ []) found padded e plain is
read_three (a ∷ b ∷ c ∷ d ∷ more) found padded e plain some few is = absurd (omega (arith, few))

pub read_other : (digits : List ℕ) (padded : Bool) → padded ≡ is_padded digits → padded ≡ false → (length digits < 1) ⊎ (4 ≤ length digits) → (width : ℕ) → (None ≡ Some width) ↔ IsWidthText width digits
read_other [] padded e plain many = plain_read [] None padded e plain refl
read_other (a ∷ []) padded e plain many = absurd (elim many [ inl few ↦ omega (arith, few) | inr more ↦ omega (arith, more) ])
read_other (a ∷ b ∷ []) padded e plain many = absurd (elim many [ inl few ↦ omega (arith, few) | inr more ↦ omega (arith, more) ])
read_other (a ∷ b ∷ c ∷ []) padded e plain many = absurd (elim many [ inl few ↦ omega (arith, few) | inr more ↦ omega (arith, more) ])
read_other (a ∷ b ∷ c ∷ d ∷ more) padded e plain many = plain_read (a ∷ b ∷ c ∷ d ∷ more) None padded e plain refl
