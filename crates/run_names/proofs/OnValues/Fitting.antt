-- Blocks that fit, or do not fit, into the room that is left.
use Rattle.std.proofs.Common.{◌≡◌, ℕ, ◌+◌, ◌*◌, ◌/◌, ◌<◌, ◌≤◌, Bool, Some, None, sym, ap, ◌∙◌, arith}
use Rattle.std.specs.Prelude.{nat_le, if◌then◌else◌}
use Rattle.std.proofs.lemmas.Bool.{le-leb, lt-leb}
use Rattle.std.proofs.Math.Nat.{div-add-mod', mul-le-mul_left}
use Rattle.std.proofs.lemmas.Nat.{mod_below}

module _ (has : ℕ → Bool) (left : ℕ) (told : (size : ℕ) → has size ≡ nat_le size left) where
  pub fitting : (bytes : ℕ) → bytes ≤ left → Some bytes ≡ (if has bytes then Some bytes else None)
  fitting bytes le = ap (λ b. if b then Some bytes else None) (sym (told bytes ∙ le-leb bytes left le))

  pub too_many : (bytes : ℕ) → left < bytes → None ≡ (if has bytes then Some bytes else None)
  too_many bytes less = ap (λ b. if b then Some bytes else None) (sym (told bytes ∙ lt-leb bytes left less))

-- so many of a size fit where there are no more than the room has
pub all_fit : (count size left : ℕ) → count ≤ left / size → count * size ≤ left
all_fit count size left le =
    let most = mul-le-mul_left size le in
    let whole = div-add-mod' left size in
    omega (arith, most, whole)

-- and more of them do not
pub one_too_many : (count size left : ℕ) → 0 < size → left / size < count → left < count * size
one_too_many count size left some less =
    let e : left / size + 1 ≤ count = omega (arith, less) in
    let most = mul-le-mul_left size e in
    let whole = div-add-mod' left size in
    let rest = mod_below left size some in
    omega (arith, most, whole, rest)
