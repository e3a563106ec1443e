-- A number is told as it is written, but for leading zeros.
use Rattle.std.specs.Prelude.{◌≡◌, refl, Result, Ok, Err, IfOk, ℕ, zero, suc, ◌+◌, ◌*◌, ◌-◌, ◌/◌, ◌%◌, ◌<◌, ◌≤◌, nat_lt, nat_le, ◌==◌, Bool, true, false, not, List, [], ◌∷◌, ◌++◌, length}
use Rattle.std.specs.List.{list_all}
use Rattle.std.proofs.Common.{ap, sym, ◌∙◌, arith}
use Rattle.std.proofs.lemmas.Bool.{ltb-true, ltb-false, leb-true, eqb-true, eqb-false, not-true, and_parts}
use Rattle.std.proofs.lemmas.List.{append_assoc, append-nil}
use Rattle.ir_tables.specs.WidthText.{is_digit}
use Rattle.ir_terminals.specs.Digits.{decimal_after, is_short, IsWritten}
use Rattle.name_rules.specs.Spelled.{digits_before, decimal}
use Rattle.name_rules.specs.Laws.{ToldAsWritten, without_zeros}

smaller : (n : ℕ) → 10 ≤ n → n / 10 < n
smaller n h = omega (arith, h)

-- one digit more in front of these
pub step : (room n : ℕ) (digits : List ℕ) → digits_before (suc room) n digits ≡ elim (nat_lt n 10) as (λ _. List ℕ) [ true ↦ (48 + n) ∷ digits | false ↦ digits_before room (n / 10) ((48 + n % 10) ∷ digits) ]
unfolding digits_before
step room n digits = refl

small : (room n : ℕ) (digits : List ℕ) → nat_lt n 10 ≡ true → digits_before (suc room) n digits ≡ (48 + n) ∷ digits
small room n digits e = step room n digits ∙ ap (λ b. elim b as (λ _. List ℕ) [ true ↦ (48 + n) ∷ digits | false ↦ digits_before room (n / 10) ((48 + n % 10) ∷ digits) ]) e

large : (room n : ℕ) (digits : List ℕ) → nat_lt n 10 ≡ false → digits_before (suc room) n digits ≡ digits_before room (n / 10) ((48 + n % 10) ∷ digits)
large room n digits e = step room n digits ∙ ap (λ b. elim b as (λ _. List ℕ) [ true ↦ (48 + n) ∷ digits | false ↦ digits_before room (n / 10) ((48 + n % 10) ∷ digits) ]) e

-- room that suffices gives the same digits, and what stands behind them stays
in_front : (bound room n : ℕ) (digits : List ℕ) → room ≤ bound → n < room → digits_before room n digits ≡ decimal n ++ digits
in_front bound zero n digits h k = absurd (omega (arith, k))
in_front zero (suc room) n digits h k = absurd (omega (arith, h))
in_front (suc bound) (suc room) n digits h k = by (λ r m ds p q. in_front bound r m ds p q) (nat_lt n 10) refl
  where
    by : ((r m : ℕ) (ds : List ℕ) → r ≤ bound → m < r → digits_before r m ds ≡ decimal m ++ ds) → (b : Bool) → nat_lt n 10 ≡ b → digits_before (suc room) n digits ≡ decimal n ++ digits
    by again true e = small room n digits e ∙ sym (ap (λ ds. ds ++ digits) (small n n [] e))
    by again false e =
        let less = smaller n (ltb-false n 10 e) in
        let front = again room (n / 10) ((48 + n % 10) ∷ digits) (omega (arith, h)) (omega (arith, k, less)) in
        let whole = again n (n / 10) ((48 + n % 10) ∷ []) (omega (arith, h, k)) less in
        large room n digits e ∙ front ∙ sym (append_assoc (decimal (n / 10)) ((48 + n % 10) ∷ []) digits) ∙ ap (λ ds. ds ++ digits) (sym (large n n [] e ∙ whole))

not_small : (n k : ℕ) → 1 ≤ n → nat_lt (n * 10 + k) 10 ≡ false
not_small n k h = by (nat_lt (n * 10 + k) 10) refl
  where
    by : (b : Bool) → nat_lt (n * 10 + k) 10 ≡ b → b ≡ false
    by true e = let less = ltb-true (n * 10 + k) 10 e in absurd (omega (arith, h, less))
    by false e = refl

-- the last digit
last_digit : (n k : ℕ) → 1 ≤ n → k < 10 → decimal (n * 10 + k) ≡ decimal n ++ (48 + k) ∷ []
last_digit n k h less =
    let tenth : (n * 10 + k) / 10 ≡ n = omega (arith, less) in
    let rest : (n * 10 + k) % 10 ≡ k = omega (arith, less) in
    large (n * 10 + k) (n * 10 + k) [] (not_small n k h)
    ∙ (λ j. digits_before (n * 10 + k) (tenth j) ((48 + rest j) ∷ []))
    ∙ in_front (n * 10 + k) (n * 10 + k) n ((48 + k) ∷ []) (omega arith) (omega (arith, h))

-- a number that is not 0, and the digits behind it
behind : (n : ℕ) (digits : List ℕ) → 1 ≤ n → list_all is_digit digits ≡ true → decimal (decimal_after n digits) ≡ decimal n ++ digits
behind n [] h all = sym (append-nil (decimal n))
behind n (d ∷ digits) h all =
    let parts = and_parts (is_digit d) (list_all is_digit digits) all in
    let bounds = and_parts (nat_le 48 d) (nat_le d 57) parts.0 in
    let low = leb-true 48 d bounds.0 in
    let high = leb-true d 57 bounds.1 in
    let back : 48 + (d - 48) ≡ d = omega (arith, low) in
    behind (n * 10 + (d - 48)) digits (omega (arith, h)) parts.1
    ∙ ap (λ ds. ds ++ digits) (last_digit n (d - 48) h (omega (arith, high)))
    ∙ append_assoc (decimal n) ((48 + (d - 48)) ∷ []) digits
    ∙ ap (λ x. decimal n ++ x ∷ digits) back

one_digit : (d : ℕ) → is_digit d ≡ true → decimal (d - 48) ≡ d ∷ []
one_digit d e =
    let bounds = and_parts (nat_le 48 d) (nat_le d 57) e in
    let low = leb-true 48 d bounds.0 in
    let high = leb-true d 57 bounds.1 in
    let back : 48 + (d - 48) ≡ d = omega (arith, low) in
    small (d - 48) (d - 48) [] (is_less (d - 48) (omega (arith, high))) ∙ ap (λ x. x ∷ []) back
  where
    is_less : (k : ℕ) → k < 10 → nat_lt k 10 ≡ true
    is_less k h = by (nat_lt k 10) refl
      where
        by : (b : Bool) → nat_lt k 10 ≡ b → b ≡ true
        by true e = refl
        by false e = let no = ltb-false k 10 e in absurd (omega (arith, h, no))

none_before : (k : ℕ) → 0 + k ≡ k
none_before k = omega arith

told : (first : ℕ) (digits : List ℕ) → list_all is_digit (first ∷ digits) ≡ true → decimal (decimal_after 0 (first ∷ digits)) ≡ without_zeros (first ∷ digits)
told first [] all = ap decimal (none_before (first - 48)) ∙ one_digit first (and_parts (is_digit first) true all).0
told first (next ∷ digits) all = by (told next digits parts.1) (first == 48) refl
  where
    parts : (is_digit first ≡ true) × (list_all is_digit (next ∷ digits) ≡ true)
    parts = and_parts (is_digit first) (list_all is_digit (next ∷ digits)) all

    by : decimal (decimal_after 0 (next ∷ digits)) ≡ without_zeros (next ∷ digits) → (b : Bool) → (first == 48) ≡ b
        → decimal (decimal_after 0 (first ∷ next ∷ digits)) ≡ elim b as (λ _. List ℕ) [ true ↦ without_zeros (next ∷ digits) | false ↦ first ∷ next ∷ digits ]
    by again true e =
        let zeros : first - 48 ≡ 0 = omega (arith, eqb-true first 48 e) in
        ap (λ k. decimal (decimal_after (0 + k) (next ∷ digits))) zeros ∙ again
    by again false e =
        let bounds = and_parts (nat_le 48 first) (nat_le first 57) parts.0 in
        let low = leb-true 48 first bounds.0 in
        let other = eqb-false first 48 e in
        ap (λ k. decimal (decimal_after k (next ∷ digits))) (none_before (first - 48))
        ∙ behind (first - 48) (next ∷ digits) (omega (arith, low, other)) parts.1
        ∙ ap (λ ds. ds ++ next ∷ digits) (one_digit first parts.0)

pub told_as_written : ToldAsWritten
told_as_written [] all = absurd cc
told_as_written (first ∷ digits) all = told first digits (and_parts (not (length (first ∷ digits) == 0)) (list_all is_digit (first ∷ digits)) all).1

-- digits that begin with no zero stay as they are
kept : (digits : List ℕ) → is_short digits ≡ true → without_zeros digits ≡ digits
kept [] e = absurd cc
kept (first ∷ []) e = refl
kept (first ∷ next ∷ digits) e =
    ap (λ b. elim b as (λ _. List ℕ) [ true ↦ without_zeros (next ∷ digits) | false ↦ first ∷ next ∷ digits ]) (not-true (first == 48) e)

-- the digits that write a number are those by which it is told
pub written_is_told : (n : ℕ) (digits : List ℕ) → IsWritten n digits → digits ≡ decimal n
written_is_told n digits h = sym (kept digits h.short) ∙ (sym (told_as_written digits h.digits_are) ∙ ap decimal h.value)

pub told_if_ok : {E : Type 0} (r : Result (List ℕ) E) (n : ℕ) → IfOk r (λ text. IsWritten n text) → IfOk r (λ text. text ≡ decimal n)
told_if_ok (Ok text) n h = written_is_told n text h
told_if_ok (Err fault) n h = tt
