-- Numbers in decimal are spelled as the tokens of numbers are, and stand for themselves.
use Rattle.std.proofs.Common.{◌≡◌, ℕ, zero, suc, ◌+◌, ◌-◌, ◌*◌, ◌/◌, ◌%◌, ◌<◌, ◌==◌, ◌&&◌, nat_le, nat_lt, Bool, true, false, cond, List, [], ◌∷◌, ◌++◌, length, refl, sym, ◌∙◌, inl, inr, arith, subst, length-append, append_assoc, append-nil}
use Rattle.std.proofs.lemmas.Bool.{cases_order, eqb-true, ltb-true, ltb-false, cases_Bool}
use Rattle.std.specs.List.{list_all}
use Rattle.ir_lexer.specs.Class.{byte_class, is_digit}
use Rattle.ir_lexer.specs.Form.{each}
use Rattle.ir_lexer.specs.declared.class.Class.{Class}
use Rattle.ir_lexer.specs.declared.class.Class.TheVariants.{Digit}
use Rattle.ir_terminals.specs.Digits as read
use Rattle.name_rules.specs.Spelled.{digits_before, decimal}

unfoldable pub Below : (ℕ → Type 0) → ℕ → Type 0
Below P zero = Unit {0}
Below P (suc k) = P k × Below P k

-- what holds of each number below one
pub below : (P : ℕ → Type 0) (k : ℕ) → Below P k → (n : ℕ) → n < k → P n
unfolding Below
below P zero all n h = absurd (omega arith)
below P (suc k) all n h =
    elim (cases_order n k) [
      | inl same ↦ subst P (sym same) all.0
      | inr rest ↦ elim rest [ inl lt ↦ below P k all.1 n lt | inr gt ↦ absurd (omega arith) ]
    ]

-- a test of each number below one
unfoldable pub all_below : (ℕ → Bool) → ℕ → Bool
all_below f zero = true
all_below f (suc k) = cond (f k) (all_below f k) false

by_last : (f : ℕ → Bool) (k n : ℕ) (b : Bool) → f k ≡ b → cond b (all_below f k) false ≡ true → (all_below f k ≡ true → n < k → f n ≡ true) → n < suc k → f n ≡ true
by_last f k n false e all before h = absurd cc
by_last f k n true e all before h =
    elim (cases_order n k) [
      | inl same ↦ rw same e
      | inr rest ↦ elim rest [ inl lt ↦ before all lt | inr gt ↦ absurd (omega arith) ]
    ]

pub tested_below : (f : ℕ → Bool) (k : ℕ) → all_below f k ≡ true → (n : ℕ) → n < k → f n ≡ true
unfolding all_below
tested_below f zero all n h = absurd (omega arith)
tested_below f (suc k) all n h = by_last f k n (f k) refl all (λ before lt. tested_below f k before n lt) h

-- each byte is a digit
abbrev pub AreDigits : List ℕ → Type 0
AreDigits [] = Unit {0}
AreDigits (d ∷ ds) = (k : ℕ) × (k < 10) × (d ≡ 48 + k) × AreDigits ds

record IsNumeral (n : ℕ) (ds : List ℕ) : Type 0 where
  some : 0 < length ds
  digits : AreDigits ds
  value : read.decimal ds ≡ n

more_digits : (ds : List ℕ) (k : ℕ) → k < 10 → AreDigits ds → AreDigits (ds ++ (48 + k) ∷ [])
more_digits [] k h d = (k, h, refl, tt)
more_digits (x ∷ ds) k h d = (d.0, d.1, d.2, more_digits ds k h d.3)

more_value : (ds : List ℕ) (n k : ℕ) → read.decimal_after n (ds ++ (48 + k) ∷ []) ≡ read.decimal_after n ds * 10 + k
more_value [] n k = omega arith
more_value (x ∷ ds) n k = more_value ds (n * 10 + (x - 48)) k

one_digit : (n : ℕ) → n < 10 → IsNumeral n ((48 + n) ∷ [])
one_digit n h = record { some = omega arith; digits = (n, h, refl, tt); value = omega arith }

one_more : (n : ℕ) (ds : List ℕ) → IsNumeral (n / 10) ds → IsNumeral n (ds ++ (48 + n % 10) ∷ [])
one_more n ds w = record { some = omega (arith, length-append ds ((48 + n % 10) ∷ [])); digits = more_digits ds (n % 10) (omega arith) w.digits; value = more_value ds 0 (n % 10) ∙ omega (arith, w.value) }

-- with room enough, what stands before further digits is a numeral
numeral_before : (room n : ℕ) → n < room → (acc : List ℕ) → (ds : List ℕ) × (digits_before room n acc ≡ ds ++ acc) × IsNumeral n ds
unfolding digits_before
numeral_before zero n h acc = absurd (omega (arith, h))
numeral_before (suc room) n h acc = by (nat_lt n 10) refl (λ k less. numeral_before room k less ((48 + n % 10) ∷ acc))
  where
    by : (b : Bool) → nat_lt n 10 ≡ b → ((k : ℕ) → k < room → (ds : List ℕ) × (digits_before room k ((48 + n % 10) ∷ acc) ≡ ds ++ (48 + n % 10) ∷ acc) × IsNumeral k ds)
        → (ds : List ℕ) × (elim b as (λ _. List ℕ) [ true ↦ (48 + n) ∷ acc | false ↦ digits_before room (n / 10) ((48 + n % 10) ∷ acc) ] ≡ ds ++ acc) × IsNumeral n ds
    by true e again = ((48 + n) ∷ [], refl, one_digit n (ltb-true n 10 e))
    by false e again =
        let le = ltb-false n 10 e in
        let inner = again (n / 10) (omega (arith, le, h)) in
        (inner.0 ++ (48 + n % 10) ∷ [], inner.1 ∙ sym (append_assoc inner.0 ((48 + n % 10) ∷ []) acc), one_more n inner.0 inner.2)

numeral : (n : ℕ) → IsNumeral n (decimal n)
numeral n = let w = numeral_before (suc n) n (omega arith) [] in subst (IsNumeral n) (sym (w.1 ∙ append-nil w.0)) w.2

pub decimal_some : (n : ℕ) → 0 < length (decimal n)
decimal_some n = (numeral n).some

pub decimal_digits : (n : ℕ) → AreDigits (decimal n)
decimal_digits n = (numeral n).digits

-- digits are read as the number that wrote them
pub decimal_back : (n : ℕ) → read.decimal (decimal n) ≡ n
decimal_back n = (numeral n).value

abbrev IsDigitByte : ℕ → Type 0
IsDigitByte k = (byte_class (48 + k) ≡ Digit) × ((nat_le 48 (48 + k) && nat_le (48 + k) 57) ≡ true) × ((48 + k == 45) ≡ false) × ((48 + k == 105) ≡ false)

digit_bytes : Below IsDigitByte 10
unfolding Below byte_class
digit_bytes = ((refl, refl, refl, refl), ((refl, refl, refl, refl), ((refl, refl, refl, refl), ((refl, refl, refl, refl), ((refl, refl, refl, refl), ((refl, refl, refl, refl), ((refl, refl, refl, refl), ((refl, refl, refl, refl), ((refl, refl, refl, refl), ((refl, refl, refl, refl), tt))))))))))

digit_byte : (k : ℕ) → k < 10 → IsDigitByte k
digit_byte k h = below IsDigitByte 10 digit_bytes k h

pub digits_each : (p : Class → Bool) → p Digit ≡ true → (ds : List ℕ) → AreDigits ds → each p ds ≡ true
digits_each p e [] d = refl
digits_each p e (x ∷ ds) (k, h, is, d) = rw is (rw (digit_byte k h).0 (rw e (digits_each p e ds d)))

list_all_digits : (ds : List ℕ) → AreDigits ds → list_all (λ byte. nat_le 48 byte && nat_le byte 57) ds ≡ true
list_all_digits [] d = refl
list_all_digits (x ∷ ds) (k, h, is, d) = rw is (rw (digit_byte k h).1 (list_all_digits ds d))

pub digits_are : (ds : List ℕ) → 0 < length ds → AreDigits ds → read.are_digits ds ≡ true
digits_are [] s d = absurd (omega arith)
digits_are (x ∷ ds) s d = elim (cases_Bool (length (x ∷ ds) == 0)) [ inl e ↦ absurd (omega (arith, eqb-true (length (x ∷ ds)) 0 e)) | inr e ↦ rw e (list_all_digits (x ∷ ds) d) ]

pub digits_first : (x k : ℕ) → k < 10 → x ≡ 48 + k → is_digit (byte_class x) ≡ true
digits_first x k h is = rw is (rw (digit_byte k h).0 refl)

-- the first of them is a digit, and so no sign
pub first_digit : (ds : List ℕ) → 0 < length ds → AreDigits ds → (x : ℕ) × (rest : List ℕ) × (ds ≡ x ∷ rest) × (byte_class x ≡ Digit) × ((x == 45) ≡ false)
first_digit [] s d = absurd (omega arith)
first_digit (x ∷ ds) s (k, h, is, d) = (x, ds, refl, rw is (digit_byte k h).0, rw is (digit_byte k h).2)
