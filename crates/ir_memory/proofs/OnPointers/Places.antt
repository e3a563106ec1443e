-- Places of a slot that are gone through from the first on.
use Rattle.std.proofs.Common.{◌≡◌, ℕ, ◌+◌, ◌<◌, ◌≤◌, List, length, set, get_or, sym, ap, ◌∙◌, arith, Option, None, inl, inr}
use Rattle.std.specs.Prelude.{replicate}
use Rattle.std.proofs.lemmas.Bool.{cases_eq, cases_lt}
use Rattle.std.proofs.lemmas.List.{get_or-set_same, get_or-set_other, get_or-replicate, get_or_past, length-replicate}
use Rattle.ir_memory.specs.declared.pointers.piece.PointerPiece.{PointerPiece}

-- one place more is as it is to be
pub place_more : (pieces : List (Option PointerPiece)) (to_be : ℕ → Option PointerPiece) (k : ℕ) (v : Option PointerPiece) → k < length pieces → ((j : ℕ) → j < k → get_or pieces j None ≡ to_be j) → v ≡ to_be k → (j : ℕ) → j < k + 1 → get_or (set pieces k v) j None ≡ to_be j
place_more pieces to_be k v lt done is j h = elim (cases_eq j k) [
  | inl e ↦ ap (λ (n : ℕ). get_or (set pieces k v) n None) e ∙ get_or-set_same pieces k v None lt ∙ is ∙ ap to_be (sym e)
  | inr n ↦ get_or-set_other pieces k j v None n ∙ done j (omega (arith, h, n))
]

-- and those behind are as they were
pub place_ahead : (pieces old : List (Option PointerPiece)) (k : ℕ) (v : Option PointerPiece) → ((j : ℕ) → k ≤ j → get_or pieces j None ≡ get_or old j None) → (j : ℕ) → k + 1 ≤ j → get_or (set pieces k v) j None ≡ get_or old j None
place_ahead pieces old k v ahead j h = get_or-set_other pieces k j v None (λ e. absurd (omega (arith, h, e))) ∙ ahead j (omega (arith, h))

-- no piece stands in an empty slot
pub none_there : (n k : ℕ) → get_or (replicate {A = Option PointerPiece} n None) k None ≡ None
none_there n k = elim (cases_lt k n) [
  | inl lt ↦ get_or-replicate n k None None lt
  | inr le ↦ get_or_past (replicate n None) k None (omega (arith, le, length-replicate {A = Option PointerPiece} n None))
]
