-- What `samesign` asks, as the code tests it.
use Rattle.std.proofs.Common.{◌≡◌, ℕ, Bool, true, false, not, ◌&&◌, refl, ap}
use Rattle.std.specs.Bool.{beq}
use mir.Val.{bool_byte}
use Rattle.ir_tables.specs.declared.predicate.Predicate.{Predicate}
use Rattle.ir_eval.specs.Value.{has_sign}
use Rattle.ir_eval.specs.Compare.{holds, truth, comparison_of}
use Rattle.ir_eval.specs.declared.value.Scalar.TheVariants.{Int, Poison}

byte_is : (number : ℕ) (holding said : Bool) → holding ≡ said → number ≡ bool_byte holding → Int number ≡ truth said
byte_is number true said is e = rw (← is) (ap Int e)
byte_is number false said is e = rw (← is) (ap Int e)

pub unlike_signs : (predicate : Predicate) (samesign : Bool) (width a b : ℕ) (x y : Bool) → samesign ≡ true → x ≡ has_sign width a → y ≡ has_sign width b → not (beq x y) ≡ true → Poison ≡ comparison_of predicate samesign width a b
unlike_signs predicate samesign width a b x y asked is_x is_y unlike = rw (asked, ← is_x, ← is_y, unlike)

pub like_signs : (predicate : Predicate) (samesign : Bool) (width a b : ℕ) (x y : Bool) (number : ℕ) (holding : Bool) → x ≡ has_sign width a → y ≡ has_sign width b → not (beq x y) ≡ false → holding ≡ holds predicate width a b → number ≡ bool_byte holding → Int number ≡ comparison_of predicate samesign width a b
like_signs predicate samesign width a b x y number holding is_x is_y like is e =
    let kept : (samesign && not (beq x y)) ≡ false = rw like (elim samesign as (λ v. (v && false) ≡ false) [ true ↦ refl | false ↦ refl ]) in
    rw (← is_x, ← is_y, kept) (byte_is number holding _ is e)

pub not_samesign : (predicate : Predicate) (samesign : Bool) (width a b number : ℕ) (holding : Bool) → samesign ≡ false → holding ≡ holds predicate width a b → number ≡ bool_byte holding → Int number ≡ comparison_of predicate samesign width a b
not_samesign predicate samesign width a b number holding none is e = rw none (byte_is number holding _ is e)
