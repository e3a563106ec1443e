-- Leaves that are stored one after another.
use Rattle.std.proofs.Common.{◌≡◌, ℕ, zero, suc, ◌+◌, List, [], ◌∷◌, ◌<◌, length, get_or, drop, Ok, Err, Some, refl, sym, ap, ap₂, ◌∙◌, subst, arith}
use Rattle.std.specs.Prelude.{slice_get, zip}
use Rattle.std.proofs.lemmas.List.{drop_all}
use Rattle.std.proofs.lemmas.Option.{same_Some, slice_get-get_or}
use Rattle.ir_tables.specs.declared.undefined_kind.UndefinedKind.{UndefinedKind}
use Rattle.ir_eval.specs.declared.value.Pointer.{Pointer}
use Rattle.ir_eval.specs.declared.value.Scalar.{Scalar}
use Rattle.ir_eval.specs.declared.value.Scalar.TheVariants as scalar
use Rattle.ir_memory.specs.declared.leaf.Leaf.{Leaf}
use Rattle.ir_memory.specs.declared.leaf.Leaf.TheVariants as leaf
use Rattle.ir_memory.specs.MemoryBlock.{MemoryBlock}
use Rattle.ir_memory.specs.Given.{Fits, HasKnown}
use Rattle.ir_memory.specs.Memory.{Blocks, stored}
use Rattle.linkage_rules.proofs.Steps.{drop_more}
use Rattle.run_rules.specs.Access.{and_then, behind, stored_slots}
use Rattle.run_rules.specs.Leaves.{Slot}
use Rattle.typed_runs.specs.Kinds.{IsOf}
use Rattle.typed_runs.specs.States.{AreStored}
use Rattle.typed_runs.proofs.Memory.{has_known}

-- a leaf of a kind is one that memory takes
pub of_fits : (count : ℕ) (kind : Leaf) (v : Scalar) → IsOf count kind v → Fits kind v
of_fits count (leaf.Int w) (scalar.Int n) h = h
of_fits count leaf.Ptr (scalar.Int n) h = absurd h
of_fits count (leaf.Int w) (scalar.Ptr p) h = absurd h
of_fits count leaf.Ptr (scalar.Ptr p) h = tt
of_fits count (leaf.Int w) scalar.Poison h = tt
of_fits count leaf.Ptr scalar.Poison h = tt

-- a slot and a leaf at one place are a pair there
pub zip_at : (ss : List Slot) (vs : List Scalar) (k : ℕ) (s : Slot) (v : Scalar) → slice_get ss k ≡ Some s → slice_get vs k ≡ Some v → slice_get (zip ss vs) k ≡ Some (s, v)
zip_at [] vs k s v g h = cc
zip_at (t ∷ ss) [] k s v g h = cc
zip_at (t ∷ ss) (w ∷ vs) zero s v g h = λ j. Some (same_Some t s g j, same_Some w v h j)
zip_at (t ∷ ss) (w ∷ vs) (suc k) s v g h = zip_at ss vs k s v g h

pub zip_long : (ss : List Slot) (vs : List Scalar) → length vs ≡ length ss → length (zip ss vs) ≡ length ss
zip_long [] vs h = refl
zip_long (s ∷ ss) [] h = h
zip_long (s ∷ ss) (v ∷ vs) h = let e : length vs ≡ length ss = omega (arith, h) in ap suc (zip_long ss vs e)

-- each pair is of its kind
pub stored_at : (count : ℕ) (xs : List (Slot × Scalar)) (k : ℕ) (x : Slot × Scalar) → AreStored count xs → slice_get xs k ≡ Some x → IsOf count x.0.leaf x.1
stored_at count [] k x h e = cc
stored_at count (y ∷ xs) zero x h e = subst (λ (z : Slot × Scalar). IsOf count z.0.leaf z.1) (same_Some y x e) h.0
stored_at count (y ∷ xs) (suc k) x h e = stored_at count xs k x h.1 e

module _ (ss : List Slot) (vs : List Scalar) (count : length vs ≡ length ss) (k : ℕ) (s : Slot) (within : k < length ss) (is : s ≡ get_or ss k s) where
  -- the leaf of a slot
  pub pair_at : (d : Scalar) → slice_get (zip ss vs) k ≡ Some (s, get_or vs k d)
  pair_at d = zip_at ss vs k s (get_or vs k d) (slice_get-get_or ss k s within ∙ ap Some (sym is)) (slice_get-get_or vs k d (omega (arith, count, within)))

  kind_at : (blocks : ℕ) (d : Scalar) → AreStored blocks (zip ss vs) → IsOf blocks s.leaf (get_or vs k d)
  kind_at blocks d h = stored_at blocks (zip ss vs) k (s, get_or vs k d) h (pair_at d)

  pub fits_at : (blocks : ℕ) (d : Scalar) (kind : Leaf) → AreStored blocks (zip ss vs) → kind ≡ s.leaf → Fits kind (get_or vs k d)
  fits_at blocks d kind h of = subst (λ kind. Fits kind (get_or vs k d)) (sym of) (of_fits blocks s.leaf (get_or vs k d) (kind_at blocks d h))

  pub known_at : (bs : List MemoryBlock) (blocks : ℕ) (d : Scalar) → AreStored blocks (zip ss vs) → length bs ≡ blocks → HasKnown bs (get_or vs k d)
  known_at bs blocks d h same = has_known bs s.leaf (get_or vs k d) (subst (λ n. IsOf n s.leaf (get_or vs k d)) (sym same) (kind_at blocks d h))

module _ (p : Pointer) (align : ℕ) (xs : List (Slot × Scalar)) (m : Blocks) where
  -- what is left to be stored, of memory as it is now, is what was to be stored
  abbrev pub IsPartStored : ℕ → ℕ → Blocks → Type 0
  IsPartStored k asked n = stored_slots p align xs m ≡ stored_slots p asked (drop k xs) n

  next_stored : (k asked : ℕ) (n : Blocks) (s : Slot) (v : Scalar) (offset : ℕ) (q : Pointer) (kind : Leaf) → IsPartStored k asked n → slice_get xs k ≡ Some (s, v)
      → offset ≡ s.offset → q ≡ behind p offset → kind ≡ s.leaf → stored_slots p align xs m ≡ and_then (stored (scalar.Ptr q) kind asked v n) (λ b. stored_slots p 1 (drop (k + 1) xs) b)
  next_stored k asked n s v offset q kind h at far place of =
      h ∙ ap (λ l. stored_slots p asked l n) (drop_more xs k (s, v) at)
      ∙ sym (ap₂ (λ q kind. and_then (stored (scalar.Ptr q) kind asked v n) (λ b. stored_slots p 1 (drop (k + 1) xs) b)) (place ∙ ap (behind p) far) of)

  pub one_stored : (k asked : ℕ) (n o : Blocks) (s : Slot) (v : Scalar) (offset : ℕ) (q : Pointer) (kind : Leaf) → IsPartStored k asked n → slice_get xs k ≡ Some (s, v)
      → offset ≡ s.offset → q ≡ behind p offset → kind ≡ s.leaf → stored (scalar.Ptr q) kind asked v n ≡ Ok o → IsPartStored (k + 1) 1 o
  one_stored k asked n o s v offset q kind h at far place of is =
      next_stored k asked n s v offset q kind h at far place of ∙ ap (λ r. and_then r (λ b. stored_slots p 1 (drop (k + 1) xs) b)) is

  pub none_further : (k asked : ℕ) (n : Blocks) (s : Slot) (v : Scalar) (offset : ℕ) (q : Pointer) (kind : Leaf) → IsPartStored k asked n → slice_get xs k ≡ Some (s, v)
      → offset ≡ s.offset → q ≡ behind p offset → kind ≡ s.leaf → (why : UndefinedKind) → stored (scalar.Ptr q) kind asked v n ≡ Err why → stored_slots p align xs m ≡ Err why
  none_further k asked n s v offset q kind h at far place of why is =
      next_stored k asked n s v offset q kind h at far place of ∙ ap (λ r. and_then r (λ b. stored_slots p 1 (drop (k + 1) xs) b)) is

  pub all_stored : (k asked : ℕ) (n : Blocks) → IsPartStored k asked n → k ≡ length xs → stored_slots p align xs m ≡ Ok n
  all_stored k asked n h end = h ∙ ap (λ l. stored_slots p asked l n) (drop_all k xs (omega (arith, end)))
