-- A store behind a pointer to a block changes no other block.
use Rattle.std.proofs.Common.{◌≡◌, ℕ, ◌%◌, List, [], ◌∷◌, Option, Some, None, Result, Ok, Err, Bool, true, false, not, ◌&&◌, nat_eq, refl, sym, ◌∙◌, subst}
use Rattle.std.specs.Prelude.{IfOk, IfSome, is_none, slice_get, if◌then◌else◌}
use Rattle.ir_tables.specs.declared.undefined_kind.UndefinedKind.{UndefinedKind}
use Rattle.ir_tables.specs.declared.undefined_kind.UndefinedKind.TheVariants.{EndedBlock, OutsideBlock, WriteToConstant, Misaligned}
use Rattle.ir_eval.specs.declared.value.Pointer.{Pointer}
use Rattle.ir_eval.specs.declared.value.Scalar.TheVariants as scalar
use Rattle.ir_memory.specs.declared.access.BlockPlace.{BlockPlace}
use Rattle.ir_memory.specs.declared.cell.Cell.{Cell}
use Rattle.ir_memory.specs.MemoryBlock.{MemoryBlock, holds, written}
use Rattle.ir_memory.specs.Cell.{size, leaf_cells}
use Rattle.ir_memory.specs.Memory.{Blocks, access, block_found, has_constant, has_ended, home, number_where, place_at, place_in, put, put_at, stored}
use Rattle.run_rules.specs.Access.{and_then, behind, stored_slots}
use Rattle.run_rules.specs.Plan.{Contents}
use Rattle.run_initial.proofs.OnInitial.Fresh.{changed_other}

-- all other blocks are as before, and it is sealed if it was
pub record KeepsOthers (i : ℕ) (m n : Blocks) : Type 0 where
  pub sealed : n.sealed ≡ m.sealed
  pub others : (j : ℕ) → (j ≡ i → ⊥) → slice_get n.list j ≡ slice_get m.list j

nothing_done : (i : ℕ) (m : Blocks) → KeepsOthers i m m
nothing_done i m = record { sealed = refl; others = λ j never. refl }

then_done : (i : ℕ) (m n o : Blocks) → KeepsOthers i m n → KeepsOthers i n o → KeepsOthers i m o
then_done i m n o h k = record { sealed = k.sealed ∙ h.sealed; others = λ j never. k.others j never ∙ h.others j never }

abbrev IsIn : ℕ → Option BlockPlace → Type 0
IsIn i place = IfSome place (λ (x : BlockPlace). x.index ≡ i)

named_is : (i : ℕ) (test : MemoryBlock → Bool) (o : Option MemoryBlock) → IfSome (number_where i test o) (λ k. k ≡ i)
named_is i test None = tt
named_is i test (Some b) = go (test b)
  where
    go : (t : Bool) → IfSome (if t then Some i else None) (λ k. k ≡ i)
    go true = refl
    go false = tt

found_is : (blocks : List MemoryBlock) (test : MemoryBlock → Bool) (want : Option ℕ) (i : ℕ) → want ≡ Some i → IfSome (block_found blocks test want) (λ k. k ≡ i)
found_is blocks test want i e = subst (λ (w : Option ℕ). IfSome (block_found blocks test w) (λ k. k ≡ i)) (sym e) (named_is i test (slice_get blocks i))

place_is : (blocks : List MemoryBlock) (address i : ℕ) (h : Option ℕ) → IfSome h (λ k. k ≡ i) → IsIn i (place_at blocks address h)
place_is blocks address i None e = tt
place_is blocks address i (Some k) e = go (slice_get blocks k)
  where
    go : (o : Option MemoryBlock) → IsIn i (place_in k address o)
    go None = tt
    go (Some b) = e

judged_is : (none over outside fixed crooked : Bool) (i : ℕ) (place : Option BlockPlace) → IsIn i place
    → IfOk {E = UndefinedKind} (if none then Ok None else (if over then Err EndedBlock else (if outside then Err OutsideBlock else (if fixed then Err WriteToConstant else (if crooked then Err Misaligned else Ok place))))) (IsIn i)
judged_is true over outside fixed crooked i place h = tt
judged_is false true outside fixed crooked i place h = tt
judged_is false false true fixed crooked i place h = tt
judged_is false false false true crooked i place h = tt
judged_is false false false false true i place h = tt
judged_is false false false false false i place h = h

access_is : (m : Blocks) (count : ℕ) (q : Pointer) (i : ℕ) → q.block ≡ Some i → IfOk (access m count 1 true (scalar.Ptr q)) (IsIn i)
access_is m count q i e =
    let h = home m.list q count in
    judged_is (nat_eq count 0) (has_ended m.list q.block) (is_none h) (true && m.sealed && has_constant m.list h) (not (nat_eq (q.address % 1) 0)) i (place_at m.list q.address h)
    (place_is m.list q.address i h (found_is m.list (λ b. b.live && holds b q.address count) q.block i e))

put_others : (i : ℕ) (m : Blocks) (cells : List Cell) (place : Option BlockPlace) → IsIn i place → KeepsOthers i m (put m cells place)
put_others i m cells None h = nothing_done i m
put_others i m cells (Some x) h = record { sealed = refl; others = λ j never. changed_other x.index j (written x.offset cells) m.list (λ e. never (e ∙ h)) }

put_at_others : (i : ℕ) (m : Blocks) (cells : List Cell) (r : Result (Option BlockPlace) UndefinedKind) → IfOk r (IsIn i) → IfOk (put_at m cells r) (KeepsOthers i m)
put_at_others i m cells (Ok place) h = put_others i m cells place h
put_at_others i m cells (Err kind) h = tt

pub stored_others : (p : Pointer) (i : ℕ) → p.block ≡ Some i → (xs : Contents) (m : Blocks) → IfOk (stored_slots p 1 xs m) (KeepsOthers i m)
stored_others p i e [] m = nothing_done i m
stored_others p i e (x ∷ xs) m =
    go (stored (scalar.Ptr (behind p x.0.offset)) x.0.leaf 1 x.1 m)
    (put_at_others i m (leaf_cells x.0.leaf x.1) (access m (size x.0.leaf) 1 true (scalar.Ptr (behind p x.0.offset))) (access_is m (size x.0.leaf) (behind p x.0.offset) i e))
    (λ n. stored_others p i e xs n)
  where
    more : (n : Blocks) → KeepsOthers i m n → (r : Result Blocks UndefinedKind) → IfOk r (KeepsOthers i n) → IfOk r (KeepsOthers i m)
    more n h (Ok o) k = then_done i m n o h k
    more n h (Err kind) k = tt

    go : (r : Result Blocks UndefinedKind) → IfOk r (KeepsOthers i m) → ((n : Blocks) → IfOk (stored_slots p 1 xs n) (KeepsOthers i n)) → IfOk (and_then r (λ n. stored_slots p 1 xs n)) (KeepsOthers i m)
    go (Err kind) h k = tt
    go (Ok n) h k = more n h (stored_slots p 1 xs n) (k n)
