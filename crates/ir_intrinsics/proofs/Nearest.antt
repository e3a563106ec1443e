-- The nearest number of a range.
use Rattle.std.proofs.Common.{◌≡◌, ℕ, ◌-◌, ◌^◌, ◌≤◌, ℤ, pos, negsuc, ap, ◌∙◌, arith, lit≤}
use Rattle.std.specs.Prelude.{min, FitsSigned}
use Rattle.std.specs.Int.{w128, saturate_to_bits, saturate_signed, cast_signed, cast_unsigned}
use Rattle.std.proofs.lemmas.Int.{to_z-of_z}
use Rattle.std.proofs.Math.Nat.{pow-le-pow_right}
use Rattle.ir_eval.specs.Value.{IsWidth, reduced}
use Rattle.ir_eval.specs.declared.value.Scalar.TheVariants.{Int}
use Rattle.ir_intrinsics.specs.Results.{signed_saturated}

pub min_of_min : (n m k : ℕ) → k ≤ m → min (min n m) k ≡ min n k
min_of_min n m k few = grind (arith, few)

-- a nearest number of a wider range first makes no difference
pub nearer : (h g : ℕ) (whole : ℤ) → h ≤ g → saturate_to_bits h (saturate_to_bits g whole) ≡ saturate_to_bits h whole
nearer h g (pos n) few = let p : 2 ^ h ≤ 2 ^ g = pow-le-pow_right (lit≤ tt) few in ap pos (min_of_min n (2 ^ g - 1) (2 ^ h - 1) (omega (arith, p)))
nearer h g (negsuc n) few = let p : 2 ^ h ≤ 2 ^ g = pow-le-pow_right (lit≤ tt) few in ap negsuc (min_of_min n (2 ^ g - 1) (2 ^ h - 1) (omega (arith, p)))

-- the code's way through a word of 128 bits
pub nearest_of : (op : ℤ → ℤ → ℤ) (width : ℕ) (x y s t word : ℤ) (number : ℕ) → IsWidth width → FitsSigned w128 x → FitsSigned w128 y → FitsSigned w128 word → x ≡ s → y ≡ t → word ≡ saturate_signed w128 (op (cast_signed w128 (cast_unsigned w128 x)) (cast_signed w128 (cast_unsigned w128 y))) → number ≡ reduced width (saturate_to_bits (width - 1) (cast_signed w128 (cast_unsigned w128 word))) → Int number ≡ signed_saturated width (op s t)
nearest_of op width x y s t word number w fits_x fits_y fits_word is_x is_y is_word is_number =
    let a = to_z-of_z w128 x fits_x in
    let b = to_z-of_z w128 y fits_y in
    let d = to_z-of_z w128 word fits_word in
    let whole : word ≡ saturate_to_bits 127 (op s t) =
    is_word ∙ ap (λ z. saturate_to_bits 127 (op z (cast_signed w128 (cast_unsigned w128 y)))) (a ∙ is_x) ∙ ap (λ z. saturate_to_bits 127 (op s z)) (b ∙ is_y) in
    let few : width - 1 ≤ 127 = omega (arith, w.most) in
    ap Int (is_number ∙ ap (λ z. reduced width (saturate_to_bits (width - 1) z)) (d ∙ whole) ∙ ap (reduced width) (nearer (width - 1) 127 (op s t) few))
