-- The digits of an unnamed local are a name.
use Rattle.std.proofs.Common.{◌≡◌, ℕ, suc, List, [], ◌∷◌, length, drop, take, ◌-◌, true, false, not, ◌==◌, refl, arith, inl, inr}
use Rattle.std.proofs.lemmas.Bool.{ne_eqb}
use Rattle.std.proofs.lemmas.Map.Views.{exact_unsigned_eq}
use Rattle.std.proofs.Math.Seq.{take-length}
use Rattle.std.specs.List.{list_all}
use Rattle.ir_base.specs.Name.{IsName}
use Rattle.ir_lexer.proofs.Runs.{bool_cases, each_first}
use Rattle.ir_lexer.specs.Class.{byte_class, is_digit}
use Rattle.ir_lexer.specs.Form.{each}
use Rattle.ir_lexer.specs.Table as rows
use Rattle.ir_lexer.specs.Table.{TokenRow, kind_of, SpellsRow, IsToken}
use Rattle.ir_lexer.specs.declared.token.TokenKind.TheVariants as kind

zero_out : is_digit (byte_class 0) ≡ true → ⊥
unfolding byte_class
zero_out k = cc

digit_byte : (b : ℕ) → is_digit (byte_class b) ≡ true → (b == 0) ≡ false
digit_byte b h = elim (bool_cases (b == 0)) [
  | inl e ↦ absurd (let k : is_digit (byte_class 0) ≡ true = rw (exact_unsigned_eq b 0 e) at h in zero_out k)
  | inr e ↦ e
]

digits_clean : (s : List ℕ) → each is_digit s ≡ true → list_all (λ b. not (b == 0)) s ≡ true
digits_clean [] h = refl
digits_clean (b ∷ s) h = let f = each_first is_digit b s h in rw (digit_byte b f.0) (digits_clean s f.1)

digits_are_name : (b : ℕ) (s : List ℕ) → is_digit (byte_class b) ≡ true → each is_digit s ≡ true → IsName (b ∷ s)
digits_are_name b s h e = rw (ne_eqb (suc (length s)) 0 (λ e. omega (arith, e)), digit_byte b h) (digits_clean s e)

spelled_number : (s : List ℕ) → SpellsRow rows.UnnamedLocal s → IsName (drop 1 s)
spelled_number [] h = absurd h
spelled_number (b ∷ []) h = absurd h.1
spelled_number (b ∷ x ∷ s) h = digits_are_name x s h.1.0 h.1.1

of_row : (row : TokenRow) (s : List ℕ) → kind_of row ≡ kind.UnnamedLocal → SpellsRow row s → IsName (drop 1 s)
of_row rows.UnnamedLocal s e h = spelled_number s h
of_row _ s e h = absurd cc

pub number_name : (s : List ℕ) → IsToken kind.UnnamedLocal s → IsName (drop 1 s)
number_name s t = of_row t.row s t.kind_is t.spelled

-- all that stands behind the first byte
pub behind_mark : (s : List ℕ) → take (length s - 1) (drop 1 s) ≡ drop 1 s
behind_mark [] = refl
behind_mark (b ∷ []) = refl
behind_mark (b ∷ x ∷ s) = let n : suc (suc (length s)) - 1 ≡ suc (length s) = omega arith in rw n (take-length (x ∷ s))
