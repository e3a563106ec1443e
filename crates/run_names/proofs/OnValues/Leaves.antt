-- Leaves that are loaded one after another.
use Rattle.std.proofs.Common.{◌≡◌, ℕ, ◌+◌, List, [], ◌∷◌, ◌++◌, length, drop, Result, Ok, Err, Some, refl, sym, ap, ◌∙◌, append-nil, append_assoc, arith}
use Rattle.std.specs.Prelude.{slice_get}
use Rattle.std.proofs.lemmas.List.{drop_all}
use Rattle.ir_tables.specs.declared.undefined_kind.UndefinedKind.{UndefinedKind}
use Rattle.ir_eval.specs.declared.value.Pointer.{Pointer}
use Rattle.ir_eval.specs.declared.value.Scalar.{Scalar}
use Rattle.ir_eval.specs.declared.value.Scalar.TheVariants.{Ptr}
use Rattle.ir_memory.specs.Given.{IsAlignment}
use Rattle.ir_memory.specs.Memory.{Blocks, loaded}
use Rattle.linkage_rules.proofs.Steps.{drop_more}
use Rattle.run_rules.specs.Access.{in_front, behind, loaded_slots}
use Rattle.run_rules.specs.Leaves.{Slot}

-- an alignment of 1 is one
pub one_is : IsAlignment 1
one_is = (0, omega arith, refl)

-- leaves in front of others, unless something was undefined
abbrev pub with_leaves : List Scalar → Result (List Scalar) UndefinedKind → Result (List Scalar) UndefinedKind
with_leaves front (Ok more) = Ok (front ++ more)
with_leaves front (Err kind) = Err kind

none_before : (r : Result (List Scalar) UndefinedKind) → r ≡ with_leaves [] r
none_before (Ok more) = refl
none_before (Err kind) = refl

one_before : (front : List Scalar) (v : Scalar) (r : Result (List Scalar) UndefinedKind) → with_leaves front (in_front (Ok v) r) ≡ with_leaves (front ++ v ∷ []) r
one_before front v (Ok more) = ap Ok (sym (append_assoc front (v ∷ []) more))
one_before front v (Err kind) = refl

refused_before : (front : List Scalar) (kind : UndefinedKind) (r : Result (List Scalar) UndefinedKind) → with_leaves front (in_front (Err kind) r) ≡ Err kind
refused_before front kind (Ok more) = refl
refused_before front kind (Err other) = refl

-- the first leaves of a value were added to those that were there, and the next is asked for with that alignment
pub record IsPartLoaded (m : Blocks) (p : Pointer) (align : ℕ) (slots : List Slot) (k asked : ℕ) (old new : List Scalar) : Type 0 where
  pub front : List Scalar
  pub items : new ≡ old ++ front
  pub rest : loaded_slots m p align slots ≡ with_leaves front (loaded_slots m p asked (drop k slots))
  pub alignment : IsAlignment asked

module _ (m : Blocks) (p : Pointer) (align : ℕ) (slots : List Slot) where
  pub none_loaded : (old : List Scalar) → IsAlignment align → IsPartLoaded m p align slots 0 align old old
  none_loaded old is = record { front = []; items = sym (append-nil old); rest = none_before (loaded_slots m p align slots); alignment = is }

  pub one_loaded : (k asked : ℕ) (old new : List Scalar) (s : Slot) (v : Scalar) → IsPartLoaded m p align slots k asked old new → slice_get slots k ≡ Some s
      → loaded m (Ptr (behind p s.offset)) s.leaf asked ≡ Ok v → IsPartLoaded m p align slots (k + 1) 1 old (new ++ v ∷ [])
  one_loaded k asked old new s v h at is = record {
    front = h.front ++ v ∷ [];
    items = ap (λ l. l ++ v ∷ []) h.items ∙ append_assoc old h.front (v ∷ []);
    rest =
        h.rest ∙ ap (λ l. with_leaves h.front (loaded_slots m p asked l)) (drop_more slots k s at)
        ∙ ap (λ r. with_leaves h.front (in_front r (loaded_slots m p 1 (drop (k + 1) slots)))) is
        ∙ one_before h.front v (loaded_slots m p 1 (drop (k + 1) slots));
    alignment = one_is;
  }

  pub none_further : (k asked : ℕ) (old new : List Scalar) (s : Slot) (kind : UndefinedKind) → IsPartLoaded m p align slots k asked old new → slice_get slots k ≡ Some s
      → loaded m (Ptr (behind p s.offset)) s.leaf asked ≡ Err kind → loaded_slots m p align slots ≡ Err kind
  none_further k asked old new s kind h at is =
      h.rest ∙ ap (λ l. with_leaves h.front (loaded_slots m p asked l)) (drop_more slots k s at)
      ∙ ap (λ r. with_leaves h.front (in_front r (loaded_slots m p 1 (drop (k + 1) slots)))) is
      ∙ refused_before h.front kind (loaded_slots m p 1 (drop (k + 1) slots))

  pub all_loaded : (k asked : ℕ) (old new : List Scalar) → IsPartLoaded m p align slots k asked old new → k ≡ length slots
      → (vs : List Scalar) × (loaded_slots m p align slots ≡ Ok vs) × (new ≡ old ++ vs)
  all_loaded k asked old new h end =
      (h.front, h.rest ∙ ap (λ l. with_leaves h.front (loaded_slots m p asked l)) (drop_all k slots (omega (arith, end))) ∙ ap Ok (append-nil h.front), h.items)
