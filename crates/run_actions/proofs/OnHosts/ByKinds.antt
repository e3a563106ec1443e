-- Arguments that are not poison, by their kinds.
use Rattle.std.proofs.Common.{◌≡◌, ℕ, ◌^◌, ◌<◌, List, [], ◌∷◌, false, true≢false}
use Rattle.std.specs.List.{AllZip, list_any}
use Rattle.ir_eval.specs.declared.value.Pointer.{Pointer}
use Rattle.ir_eval.specs.declared.value.Scalar.{Scalar}
use Rattle.ir_eval.specs.declared.value.Scalar.TheVariants as scalar
use Rattle.ir_memory.specs.declared.leaf.Leaf.{Leaf}
use Rattle.ir_memory.specs.declared.leaf.Leaf.TheVariants as leaf
use Rattle.ir_memory.specs.Given.{IsBlock}
use Rattle.run_rules.specs.Host.{is_poison}
use Rattle.typed_runs.specs.Kinds.{IsNumberOf, IsOf, IsPointerTo}

-- of the kind, and not poison
abbrev IsFull : ℕ → Leaf → Scalar → Type 0
IsFull count kind (scalar.Int number) = IsNumberOf number kind
IsFull count kind (scalar.Ptr p) = IsPointerTo count p.block kind
IsFull count kind scalar.Poison = ⊥

-- what holds of all arguments of these kinds
abbrev pub Takes : ℕ → List Leaf → (List Scalar → Type 0) → Type 0
Takes count [] Q = Q []
Takes count (leaf.Int width ∷ ks) Q = (n : ℕ) → n < 2 ^ width → Takes count ks (λ vs. Q (scalar.Int n ∷ vs))
Takes count (leaf.Ptr ∷ ks) Q = (p : Pointer) → IsBlock count p.block → Takes count ks (λ vs. Q (scalar.Ptr p ∷ vs))

by_kinds : (count : ℕ) (ks : List Leaf) (Q : List Scalar → Type 0) → Takes count ks Q → (vs : List Scalar) → AllZip (IsFull count) ks vs → Q vs
by_kinds count [] Q h [] is = h
by_kinds count [] Q h (v ∷ vs) is = absurd is
by_kinds count (k ∷ ks) Q h [] is = absurd is
by_kinds count (leaf.Int w ∷ ks) Q h (scalar.Int n ∷ vs) is = by_kinds count ks (λ vs. Q (scalar.Int n ∷ vs)) (h n is.0) vs is.1
by_kinds count (leaf.Int w ∷ ks) Q h (scalar.Ptr p ∷ vs) is = absurd is.0
by_kinds count (leaf.Ptr ∷ ks) Q h (scalar.Int n ∷ vs) is = absurd is.0
by_kinds count (leaf.Ptr ∷ ks) Q h (scalar.Ptr p ∷ vs) is = by_kinds count ks (λ vs. Q (scalar.Ptr p ∷ vs)) (h p is.0) vs is.1
by_kinds count (k ∷ ks) Q h (scalar.Poison ∷ vs) is = absurd is.0

are_full : (count : ℕ) (ks : List Leaf) (vs : List Scalar) → AllZip (IsOf count) ks vs → list_any is_poison vs ≡ false → AllZip (IsFull count) ks vs
are_full count [] [] h p = tt
are_full count [] (v ∷ vs) h p = absurd h
are_full count (k ∷ ks) [] h p = absurd h
are_full count (k ∷ ks) (scalar.Int n ∷ vs) h p = (h.0, are_full count ks vs h.1 p)
are_full count (k ∷ ks) (scalar.Ptr q ∷ vs) h p = (h.0, are_full count ks vs h.1 p)
are_full count (k ∷ ks) (scalar.Poison ∷ vs) h p = absurd (true≢false p)

-- so of arguments none of which is poison
pub taken_by : (count : ℕ) (ks : List Leaf) (Q : List Scalar → Type 0) → Takes count ks Q → (vs : List Scalar) → AllZip (IsOf count) ks vs → list_any is_poison vs ≡ false → Q vs
taken_by count ks Q h vs is full = by_kinds count ks Q h vs (are_full count ks vs is full)
