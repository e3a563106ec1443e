-- Pointers in memory, in a row with a null behind them.
use Rattle.std.proofs.Common.{All, ◌≡◌, ℕ, zero, suc, ◌+◌, ◌*◌, ◌^◌, ◌<◌, ◌≤◌, List, [], ◌∷◌, ◌++◌, length, map, zip, drop, get_or, false, Result, Ok, Err, refl, sym, ap, ◌∙◌, subst, arith}
use Rattle.std.specs.Prelude.{IsOk}
use Rattle.std.specs.List.{range_with_len}
use Rattle.std.specs.Result.{IsErr, IsErrAnd}
use Rattle.std.proofs.lemmas.List.{at_drop_all, at_drop_more, length-append}
use Rattle.std.proofs.lemmas.List.Elements.{All-head, All-tail, All-push}
use Rattle.ir_tables.specs.declared.undefined_kind.UndefinedKind.{UndefinedKind}
use Rattle.ir_eval.specs.Cast.{pointer_at}
use Rattle.ir_eval.specs.declared.value.Pointer.{Pointer}
use Rattle.ir_eval.specs.declared.value.Scalar.TheVariants as scalar
use Rattle.ir_memory.specs.declared.kind.BlockKind.TheVariants as kind
use Rattle.ir_memory.specs.declared.leaf.Leaf.TheVariants as leaf
use Rattle.ir_memory.specs.Answer.{Keeps}
use Rattle.ir_memory.specs.MemoryBlock.{MemoryBlock}
use Rattle.ir_memory.specs.Given.{IsKnown}
use Rattle.ir_memory.specs.declared.fault.MemoryFault.{MemoryFault}
use Rattle.ir_memory.specs.Memory.{Blocks, added, round_up}
use Rattle.run_rules.specs.declared.end.End.TheVariants.{MemoryLimit}
use Rattle.run_rules.specs.Access.{and_then, next_block, or_as_before, stored_slots}
use Rattle.run_rules.specs.Opening.{block_with, made, row_of, with_pointers}
use Rattle.run_rules.specs.Plan.{Contents}
use Rattle.run_names.specs.Values.Answer.{Stores}
use Rattle.typed_runs.specs.States.{AreStored}
use Rattle.run_initial.specs.Initial.Fresh.{Puts, put, to_store}
use Rattle.run_initial.proofs.OnInitial.Fresh.{IsFresh, all_put}
use Rattle.run_initial.proofs.OnInitial.Ordered.{AreInOrder}
use Rattle.run_initial.proofs.OnInitial.Puts.{part_more, part_refused, refused_on}
use Rattle.ir_run.specs.Arguments.{Places, pointers_at}
use Rattle.ir_run.proofs.Blocks.{block_kept, block_known, made_is}
use Rattle.ir_run.proofs.Words.{added_fresh, with_pointer}

-- a row of pointers, with the null
abbrev pub row_from : ℕ → List Pointer → Contents
row_from place ps = pointers_at place (ps ++ pointer_at 0 ∷ [])

-- one of them
abbrev pub one_at : ℕ → Pointer → Contents
one_at place p = (record { offset = place * 8; leaf = leaf.Ptr }, scalar.Ptr p) ∷ []

row_same : (k : ℕ) (ps : List Pointer) → zip (map (λ j. record { offset = j * 8; leaf = leaf.Ptr }) (range_with_len k (length (map scalar.Ptr ps)))) (map scalar.Ptr ps) ≡ pointers_at k ps
row_same k [] = refl
row_same k (p ∷ ps) = ap (λ (l : Contents). (record { offset = k * 8; leaf = leaf.Ptr }, scalar.Ptr p) ∷ l) (row_same (k + 1) ps)

-- no pointer is there already
all_stored : (k : ℕ) (ps : List Pointer) → to_store (pointers_at k ps) ≡ pointers_at k ps
all_stored k [] = refl
all_stored k (p ∷ ps) = ap (λ (l : Contents). (record { offset = k * 8; leaf = leaf.Ptr }, scalar.Ptr p) ∷ l) (all_stored (k + 1) ps)

-- ---- pointer by pointer

pointer_next : (ps : List Pointer) (k : ℕ) (p : Pointer) → k < length ps → p ≡ get_or ps k p → row_from k (drop k ps) ≡ one_at k p ++ row_from (k + 1) (drop (k + 1) ps)
pointer_next ps k p lt is = at_drop_more (row_from k) ps k p lt ∙ ap (λ (x : Pointer). row_from k (x ∷ drop (k + 1) ps)) (sym is)

module _ (q : Pointer) (ps : List Pointer) (k : ℕ) (m n : Blocks) (all : Result Blocks UndefinedKind) (before : put q (row_from k (drop k ps)) m ≡ all) where
  pointer_more : (p : Pointer) → k < length ps → p ≡ get_or ps k p → Puts q (one_at k p) m n → put q (row_from (k + 1) (drop (k + 1) ps)) n ≡ all
  pointer_more p lt is e = part_more q (one_at k p) (row_from (k + 1) (drop (k + 1) ps)) (row_from k (drop k ps)) m n all (pointer_next ps k p lt is) before e

  -- what one is refused for, all are
  one_refused : (p : Pointer) (r : Result (Unit {0}) MemoryFault) (fault : MemoryFault) → k < length ps → p ≡ get_or ps k p → IsErr r → IsErrAnd r (λ t. t ≡ fault) → Stores {T = Unit {0}} (put q (one_at k p) m) n (Err fault) → Stores {T = Unit {0}} all n r
  one_refused p r fault lt is gone gives h =
      refused_on all (put q (one_at k p) m) n n r fault gone gives h
      (λ kind e. part_refused q (one_at k p) (row_from (k + 1) (drop (k + 1) ps)) (row_from k (drop k ps)) m all (pointer_next ps k p lt is) before kind e)

  -- the null comes last
  pub null_stored : k ≡ length ps → (r : Result (Unit {0}) MemoryFault) → Stores {T = Unit {0}} (put q (one_at (length ps) (pointer_at 0)) m) n r → Stores {T = Unit {0}} all n r
  null_stored end r h = subst (λ (x : Result Blocks UndefinedKind). Stores {T = Unit {0}} x n r) last h
    where
      last : put q (one_at (length ps) (pointer_at 0)) m ≡ all
      last =
          sym (ap (λ (j : ℕ). put q (one_at j (pointer_at 0)) m) end)
          ∙ sym (ap (λ (l : Contents). put q l m) (at_drop_all (row_from k) ps k (omega (arith, end))))
          ∙ before

-- the same, of a pointer that is read from the list
got : (ps : List Pointer) (k : ℕ) (d : Pointer) → k < length ps → get_or ps k d ≡ get_or ps k (get_or ps k d)
got [] k d lt = absurd (omega (arith, lt))
got (p ∷ ps) zero d lt = refl
got (p ∷ ps) (suc k) d lt = same ps k d (get_or ps k d) (omega (arith, lt))
  where
    same : (qs : List Pointer) (j : ℕ) (x y : Pointer) → j < length qs → get_or qs j x ≡ get_or qs j y
    same [] j x y h = absurd (omega (arith, h))
    same (q ∷ qs) zero x y h = refl
    same (q ∷ qs) (suc j) x y h = same qs j x y (omega (arith, h))

module _ (q : Pointer) (ps : List Pointer) (k : ℕ) (m n : Blocks) (all : Result Blocks UndefinedKind) (d : Pointer) where
  pub pointer_read : put q (row_from k (drop k ps)) m ≡ all → k < length ps → Puts q (one_at k (get_or ps k d)) m n → put q (row_from (k + 1) (drop (k + 1) ps)) n ≡ all
  pointer_read before lt e = pointer_more q ps k m n all before (get_or ps k d) lt (got ps k d lt) e

  pub pointer_refused : (r : Result (Unit {0}) MemoryFault) (fault : MemoryFault) → put q (row_from k (drop k ps)) m ≡ all → k < length ps → IsErr r → IsErrAnd r (λ t. t ≡ fault) → Stores {T = Unit {0}} (put q (one_at k (get_or ps k d)) m) n (Err fault)
      → Stores {T = Unit {0}} all n r
  pointer_refused r fault before lt gone gives h = one_refused q ps k m n all before (get_or ps k d) r fault lt (got ps k d lt) gone gives h

-- ---- all of them

pointers_order : (k to : ℕ) (ps : List Pointer) → k * 8 + length ps * 8 ≤ to → AreInOrder (k * 8) to (pointers_at k ps)
pointers_order k to [] le = omega (arith, le)
pointers_order k to (p ∷ ps) le =
    let behind : (k + 1) * 8 ≡ k * 8 + 8 = omega arith in
    let rest : AreInOrder ((k + 1) * 8) to (pointers_at (k + 1) ps) = pointers_order (k + 1) to ps (omega (arith, le)) in
    (omega arith, omega (arith, le), subst (λ (n : ℕ). AreInOrder n to (pointers_at (k + 1) ps)) behind rest)

pointers_typed : (k : ℕ) (bs : List MemoryBlock) (ps : List Pointer) → All (IsKnown bs) ps → AreStored (length bs) (pointers_at k ps)
pointers_typed k bs [] h = tt
pointers_typed k bs (p ∷ ps) h = (All-head (IsKnown bs) p ps h, pointers_typed (k + 1) bs ps (All-tail (IsKnown bs) p ps h))

-- every store of them into a new block goes well
pub pointers_stored : (ps : List Pointer) (size : ℕ) (m o : Blocks) (p : Pointer) → All (IsKnown o.list) ps → m.sealed ≡ false → m.next ≤ 2 ^ 61 → length ps ≤ 2 ^ 28 → size ≡ 8 * (length ps + 1) → made size 8 (kind.Variable false) m ≡ Ok o → p ≡ next_block 8 m → IsOk (put p (row_from 0 ps) o)
pointers_stored ps size m o p known unsealed near few long e is =
    let row = ps ++ pointer_at 0 ∷ [] in
    let count : length row ≡ length ps + 1 = length-append ps (pointer_at 0 ∷ []) in
    let same : o ≡ added size 8 (kind.Variable false) m = made_is size 8 (kind.Variable false) m o e in
    let up : round_up m.next 8 ≤ m.next + 7 = omega arith in
    let there : IsFresh o (next_block 8 m) (length m.list) [] size =
    subst (λ (x : Blocks). IsFresh x (next_block 8 m) (length m.list) [] size) (sym same) (added_fresh size 8 m unsealed (omega (arith, up, near, few, long))) in
    let here : IsFresh o p (length m.list) [] size = subst (λ (q : Pointer). IsFresh o q (length m.list) [] size) (sym is) there in
    all_put (row_from 0 ps) o p (length m.list) [] size size (length o.list) (omega arith) here (pointers_order 0 size row (omega (arith, count, long)))
    (pointers_typed 0 o.list row (All-push (IsKnown o.list) ps (pointer_at 0) known tt))

pub pointers_placed : (ps : List Pointer) (size : ℕ) (m o n : Blocks) (p : Pointer) → size ≡ 8 * (length ps + 1) → made size 8 (kind.Variable false) m ≡ Ok o → p ≡ next_block 8 m → Puts p (row_from 0 ps) o n → Keeps o n → Places (with_pointers ps m) p m n
unfolding with_pointers block_with
pointers_placed ps size m o n p long e is stored kept =
    let has : made (8 * (length ps + 1)) 8 (kind.Variable false) m ≡ Ok o = ap (λ (k : ℕ). made k 8 (kind.Variable false) m) (sym long) ∙ e in
    let q = next_block 8 m in
    let row : Contents = row_of 8 leaf.Ptr (map scalar.Ptr (ps ++ pointer_at 0 ∷ [])) in
    let whole : stored_slots q 1 row o ≡ Ok n =
    ap (λ (l : Contents). stored_slots q 1 l o) (row_same 0 (ps ++ pointer_at 0 ∷ []) ∙ sym (all_stored 0 (ps ++ pointer_at 0 ∷ [])))
    ∙ ap (λ (x : Pointer). stored_slots x 1 (to_store (row_from 0 ps)) o) (sym is) ∙ stored in
    record {
      made = ap (λ r. and_then r (λ x. Ok (or_as_before x (stored_slots q 1 row x), q))) has ∙ ap (λ r. Ok (or_as_before o r, q)) whole ∙ ap (with_pointer n) (sym is);
      known = block_known size 8 m o n p (row_from 0 ps) e is stored kept;
      kept = block_kept size 8 m o n p (row_from 0 ps) e is stored kept;
    }

pub pointers_full : (ps : List Pointer) (size : ℕ) (m : Blocks) → size ≡ 8 * (length ps + 1) → made size 8 (kind.Variable false) m ≡ Err MemoryLimit → with_pointers ps m ≡ Err MemoryLimit
unfolding with_pointers block_with
pointers_full ps size m long e =
    ap (λ r. and_then r (λ x. Ok (or_as_before x (stored_slots (next_block 8 m) 1 (row_of 8 leaf.Ptr (map scalar.Ptr (ps ++ pointer_at 0 ∷ []))) x), next_block 8 m)))
    (ap (λ (k : ℕ). made k 8 (kind.Variable false) m) (sym long) ∙ e)
