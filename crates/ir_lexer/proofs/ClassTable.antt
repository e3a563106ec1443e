-- The table of the classes is the one of their definition.
use Rattle.std.proofs.Common.{◌≡◌, ℕ, zero, suc, ◌+◌, ◌<◌, List, [], ◌∷◌, length, map, get_or, Bool, true, not, ◌||◌, ◌==◌, nat_le, inl, inr, refl, arith, ap, ◌∙◌, add-zero, zero-add}
use Rattle.std.proofs.lemmas.List.Folds.{list_all_at}
use Rattle.std.specs.List.{list_all}
use Rattle.ir_lexer.specs.Class.{byte_class}
use Rattle.ir_lexer.specs.declared.class_table.TheConstants.{CLASSES}
use Rattle.ir_lexer.specs.Gap.{in_gap}
use Rattle.ir_lexer.specs.declared.class.Class.{Class}
use Rattle.ir_lexer.specs.declared.class.Class.TheVariants.{Blank}
use Rattle.ir_lexer.proofs.Runs.{bool_cases}

-- so many numbers from one on
numbers : ℕ → ℕ → List ℕ
numbers zero n = []
numbers (suc k) n = n ∷ numbers k (n + 1)

at_number : (k n i : ℕ) (d : Class) → i < k → get_or (map byte_class (numbers k n)) i d ≡ byte_class (n + i)
unfolding numbers
at_number zero n i d h = absurd (omega arith)
at_number (suc k) n zero d h = rw add-zero refl
at_number (suc k) n (suc i) d h =
    let e : n + 1 + i ≡ n + suc i = omega arith in
    at_number k (n + 1) i d (omega arith) ∙ ap byte_class e

all_classes : CLASSES ≡ map byte_class (numbers 256 0)
unfolding byte_class numbers
all_classes = refl

pub class_in_table : (b : ℕ) (d : Class) → b < 256 → get_or CLASSES b d ≡ byte_class b
class_in_table b d h =
    ap (λ (all : List Class). get_or all b d) all_classes ∙ (at_number 256 0 b d h ∙ ap byte_class (zero-add b))

number_at : (k n i d : ℕ) → i < k → get_or (numbers k n) i d ≡ n + i
unfolding numbers
number_at zero n i d h = absurd (omega arith)
number_at (suc k) n zero d h = omega arith
number_at (suc k) n (suc i) d h = let e = number_at k (n + 1) i d (omega arith) in omega (arith, e)

how_many : length (numbers 256 0) ≡ 256
unfolding numbers
how_many = refl

-- what holds of each number below 256
each_byte : (p : ℕ → Bool) (b : ℕ) → list_all p (numbers 256 0) ≡ true → b < 256 → p b ≡ true
each_byte p b all h =
    let is : get_or (numbers 256 0) b 0 ≡ b = number_at 256 0 b 0 h ∙ zero-add b in
    elim (bool_cases (p b)) [
      | inl e ↦ e
      | inr e ↦ absurd (let k = list_all_at p (numbers 256 0) b 0 (rw how_many h) (rw is e) in cc)
    ]

-- a gap begins with a space, a byte below it, or `;`
abbrev low_gap : ℕ → Bool
low_gap b = not (in_gap b) || (nat_le b 32 || (b == 59))

all_low : list_all low_gap (numbers 256 0) ≡ true
unfolding byte_class numbers
all_low = refl

pub gap_begins : (b : ℕ) → b < 256 → in_gap b ≡ true → (nat_le b 32 || (b == 59)) ≡ true
gap_begins b h e = let k : low_gap b ≡ true = each_byte low_gap b all_low h in rw e at k

pub space_is_blank : byte_class 32 ≡ Blank
unfolding byte_class
space_is_blank = refl
