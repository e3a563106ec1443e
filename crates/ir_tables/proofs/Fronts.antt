-- What stands behind a front.
use Rattle.std.proofs.Common.{◌≡◌, ℕ, ◌↔◌, List, ◌++◌, length, take, drop, Some, None, refl, ap, sym, ◌∙◌}
use Rattle.std.proofs.lemmas.List.{append_cancel_left, take-append-drop, take_at}

pub behind_some : (bytes front start rest : List ℕ) → start ≡ take (length front) bytes → rest ≡ drop (length front) bytes → start ≡ front → (tail : List ℕ) → (Some rest ≡ Some tail) ↔ (bytes ≡ front ++ tail)
behind_some bytes front start rest s r e tail =
    let whole : bytes ≡ front ++ rest = sym (take-append-drop (length front) bytes) ∙ ap (λ l. l ++ drop (length front) bytes) (sym s ∙ e) ∙ ap (λ l. front ++ l) (sym r) in
    (λ found. let same : rest ≡ tail = cc in whole ∙ ap (λ l. front ++ l) same, λ is. ap (λ l. Some l) (append_cancel_left front rest tail (sym whole ∙ is)))

pub behind_none : (bytes front start : List ℕ) → start ≡ take (length front) bytes → (start ≡ front → ⊥) → (tail : List ℕ) → (None ≡ Some tail) ↔ (bytes ≡ front ++ tail)
behind_none bytes front start s other tail =
    (λ found. absurd (cc), λ is. absurd (other (s ∙ ap (take (length front)) is ∙ take_at front tail (length front) refl)))
