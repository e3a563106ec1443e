-- Numbers that stop at a cap: to cap a part first changes nothing.
use Rattle.std.proofs.Common.{◌≡◌, ℕ, zero, suc, ◌+◌, ◌*◌, ◌^◌, ◌≤◌, ◌<◌, Bool, true, false, ap, sym, ◌∙◌, arith, ◌⊎◌, inl, inr}
use Rattle.std.proofs.lemmas.Bool.{cases_lt}
use Rattle.std.specs.Int.{next_multiple_of}
use Rattle.type_table.specs.Layout.{field_start}
use Rattle.type_table.specs.Measures.{capped, capped_nesting, capped_parts}

capped_small : (x : ℕ) → x ≤ 2 ^ 40 + 1 → capped x ≡ x
capped_small x le = omega arith

capped_large : (x : ℕ) → 2 ^ 40 + 1 ≤ x → capped x ≡ 2 ^ 40 + 1
capped_large x le = omega arith

-- whether the cap matters
sides : (x : ℕ) → (capped x ≡ x) ⊎ ((capped x ≡ 2 ^ 40 + 1) × (2 ^ 40 + 1 ≤ x))
sides x = by (cases_lt x (2 ^ 40 + 1))
  where
    by : (x < 2 ^ 40 + 1) ⊎ (2 ^ 40 + 1 ≤ x) → (capped x ≡ x) ⊎ ((capped x ≡ 2 ^ 40 + 1) × (2 ^ 40 + 1 ≤ x))
    by (inl lt) = inl (capped_small x (omega arith))
    by (inr le) = inr (capped_large x le, le)

pub next_multiple_of-le : (x y : ℕ) → x ≤ next_multiple_of x y
next_multiple_of-le x y = omega arith

pub field_start-le : (packed : Bool) (x y : ℕ) → x ≤ field_start packed x y
field_start-le true x y = omega arith
field_start-le false x y = next_multiple_of-le x y

-- a function that gives no less than it takes, of a capped number
capped_of : (f : ℕ → ℕ) → ((x : ℕ) → x ≤ f x) → (x z : ℕ) → capped (f (capped x) + capped z) ≡ capped (f x + z)
capped_of f up x z = by (sides x) (sides z)
  where
    by : (capped x ≡ x) ⊎ ((capped x ≡ 2 ^ 40 + 1) × (2 ^ 40 + 1 ≤ x)) → (capped z ≡ z) ⊎ ((capped z ≡ 2 ^ 40 + 1) × (2 ^ 40 + 1 ≤ z)) → capped (f (capped x) + capped z) ≡ capped (f x + z)
    by (inl e) (inl g) = λ j. capped (f (e j) + g j)
    by (inl e) (inr g) = ap (λ y. capped (f y + capped z)) e ∙ capped_large (f x + capped z) (omega (arith, g.0)) ∙ sym (capped_large (f x + z) (omega (arith, g.1)))
    by (inr e) s =
        let low : 2 ^ 40 + 1 ≤ f (capped x) = omega (arith, e.0, up (capped x)) in
        let high : 2 ^ 40 + 1 ≤ f x = omega (arith, e.1, up x) in
        capped_large (f (capped x) + capped z) (omega (arith, low)) ∙ sym (capped_large (f x + z) (omega (arith, high)))

pub capped-field_start : (packed : Bool) (x y z : ℕ) → capped (field_start packed (capped x) y + capped z) ≡ capped (field_start packed x y + z)
capped-field_start packed x y z = capped_of (λ at. field_start packed at y) (λ at. field_start-le packed at y) x z

pub capped-rounded : (x y : ℕ) → capped (next_multiple_of (capped x) y) ≡ capped (next_multiple_of x y)
capped-rounded x y =
    ap capped (omega arith) ∙ capped_of (λ at. next_multiple_of at y) (λ at. next_multiple_of-le at y) x 0 ∙ ap capped (omega arith)

pub capped-times : (n x : ℕ) → capped (n * capped x) ≡ capped (n * x)
capped-times zero x = ap capped (omega arith)
capped-times (suc n) x = by (sides x)
  where
    by : (capped x ≡ x) ⊎ ((capped x ≡ 2 ^ 40 + 1) × (2 ^ 40 + 1 ≤ x)) → capped (suc n * capped x) ≡ capped (suc n * x)
    by (inl e) = ap (λ y. capped (suc n * y)) e
    by (inr e) = capped_large (suc n * capped x) (omega (arith, e.0)) ∙ sym (capped_large (suc n * x) (omega (arith, e.1)))

pub capped-add : (x y : ℕ) → capped (capped x + capped y) ≡ capped (x + y)
capped-add x y = omega arith

pub capped-capped : (x : ℕ) → capped (capped x) ≡ capped x
capped-capped x = omega arith

pub capped_parts-add : (x y : ℕ) → capped_parts (capped_parts x + capped_parts y) ≡ capped_parts (x + y)
capped_parts-add x y = omega arith

pub capped_nesting-suc : (x : ℕ) → capped_nesting (capped_nesting x + 1) ≡ capped_nesting (x + 1)
capped_nesting-suc x = omega arith
