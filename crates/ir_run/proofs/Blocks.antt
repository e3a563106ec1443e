-- A block that is added, and what is put into it, leave the other blocks as they are.
use Rattle.std.proofs.Common.{◌≡◌, ℕ, ◌+◌, ◌<◌, ◌≤◌, List, [], ◌∷◌, ◌++◌, get_or, length, Bool, true, false, Option, Some, None, Result, Ok, Err, refl, sym, ap, ◌∙◌, subst, arith}
use Rattle.std.specs.Prelude.{All, IfOk, slice_get, if◌then◌else◌}
use Rattle.std.proofs.lemmas.Bool.{leb-true}
use Rattle.std.proofs.lemmas.List.{length-append}
use Rattle.std.proofs.lemmas.List.Elements.{All-push}
use Rattle.ir_tables.specs.declared.undefined_kind.UndefinedKind.{UndefinedKind}
use Rattle.ir_eval.specs.declared.value.Pointer.{Pointer}
use Rattle.ir_memory.specs.declared.kind.BlockKind.{BlockKind}
use Rattle.ir_memory.specs.declared.kind.BlockKind.TheVariants as kind
use Rattle.ir_memory.specs.Answer.{Keeps}
use Rattle.ir_memory.specs.MemoryBlock.{MemoryBlock, new_block}
use Rattle.ir_memory.specs.Given.{IsBlock, IsKnown}
use Rattle.ir_memory.specs.Memory.{Blocks, added, byte_limit, live_bytes, round_up}
use Rattle.run_rules.specs.declared.end.End.TheVariants.{MemoryLimit}
use Rattle.run_rules.specs.Access.{has_room, next_block}
use Rattle.run_rules.specs.Opening.{made}
use Rattle.run_rules.specs.Plan.{Contents}
use Rattle.run_initial.specs.Initial.Fresh.{Puts, to_store}
use Rattle.run_initial.proofs.OnContents.OtherBlocks.{KeepsOthers, stored_others}
use Rattle.run_initial.proofs.OnContents.Made.{front_same}
use Rattle.ir_run.specs.Arguments.{KeepsBlocks}

module _ (size align : ℕ) (kind : BlockKind) (m n : Blocks) (e : made size align kind m ≡ Ok n) where
  pub made_is : n ≡ added size align kind m
  made_is = go (has_room size m) e
    where
      go : (b : Bool) → (if b then Ok (added size align kind m) else Err MemoryLimit) ≡ Ok n → n ≡ added size align kind m
      go true h = let same : added size align kind m ≡ n = cc in sym same
      go false h = cc

  -- there was room for it
  pub made_within : live_bytes m.list + size ≤ byte_limit
  made_within = go (has_room size m) refl e
    where
      go : (b : Bool) → has_room size m ≡ b → (if b then Ok (added size align kind m) else Err MemoryLimit) ≡ Ok n → live_bytes m.list + size ≤ byte_limit
      go true h f = leb-true (live_bytes m.list + size) byte_limit h
      go false h f = cc

  pub made_longer : length n.list ≡ length m.list + 1
  made_longer = ap (λ (x : Blocks). length x.list) made_is ∙ length-append m.list (new_block (round_up m.next align) size kind ∷ [])

  pub made_known : (p : Pointer) → p ≡ next_block align m → IsKnown n.list p
  made_known p is =
      let longer = made_longer in
      let there : length m.list < length n.list = omega (arith, longer) in
      subst (λ (q : Pointer). IsKnown n.list q) (sym is) there

-- pointers to blocks that were made are so when there are more
pub known_still : (bs cs : List MemoryBlock) (ps : List Pointer) → length bs ≤ length cs → All (IsKnown bs) ps → All (IsKnown cs) ps
known_still bs cs ps more are = λ k d lt. still (get_or ps k d).block (are k d lt)
  where
    still : (o : Option ℕ) → IsBlock (length bs) o → IsBlock (length cs) o
    still None h = h
    still (Some i) h = omega (arith, more, h)

pub known_at : (bs cs : List MemoryBlock) (ps : List Pointer) (k : ℕ) (d : Pointer) → length cs ≡ length bs → All (IsKnown bs) ps → k < length ps → IsKnown cs (get_or ps k d)
known_at bs cs ps k d count are lt = known_still bs cs ps (omega (arith, count)) are k d lt

pub known_behind : (size align : ℕ) (m n : Blocks) (ps : List Pointer) → made size align (kind.Variable false) m ≡ Ok n → All (IsKnown m.list) ps → All (IsKnown n.list) ps
known_behind size align m n ps e are = let longer = made_longer size align (kind.Variable false) m n e in known_still m.list n.list ps (omega (arith, longer)) are

-- and one more
pub known_more : (bs cs : List MemoryBlock) (ps : List Pointer) (p : Pointer) → length bs ≤ length cs → All (IsKnown bs) ps → IsKnown cs p → All (IsKnown cs) (ps ++ p ∷ [])
known_more bs cs ps p more are is = All-push (IsKnown cs) ps p (known_still bs cs ps more are) is

pub none_kept : (m : Blocks) → KeepsBlocks m m
none_kept m = record { sealed = refl; more = omega arith; same = λ j lt. refl }

pub then_kept : (m n o : Blocks) → KeepsBlocks m n → KeepsBlocks n o → KeepsBlocks m o
then_kept m n o h k =
    let first = h.more in
    let second = k.more in
    record {
      sealed = k.sealed ∙ h.sealed;
      more = omega (arith, first, second);
      same = λ j lt. k.same j (omega (arith, lt, first)) ∙ h.same j lt;
    }

module _ (size align : ℕ) (m o n : Blocks) (p : Pointer) (xs : Contents) (e : made size align (kind.Variable false) m ≡ Ok o) (is : p ≡ next_block align m) (put : Puts p xs o n) (kept : Keeps o n) where
  others : KeepsOthers (length m.list) o n
  others = subst (λ (r : Result Blocks UndefinedKind). IfOk r (KeepsOthers (length m.list) o)) put (stored_others p (length m.list) (ap (λ (q : Pointer). q.block) is) (to_store xs) o)

  pub block_kept : KeepsBlocks m n
  block_kept =
      let longer = made_longer size align (kind.Variable false) m o e in
      let count = kept.0 in
      let same = made_is size align (kind.Variable false) m o e in
      record {
        sealed = others.sealed ∙ ap (λ (x : Blocks). x.sealed) same;
        more = omega (arith, longer, count);
        same = λ j lt. others.others j (λ f. omega (arith, lt, f)) ∙ ap (λ (x : Blocks). slice_get x.list j) same ∙ front_same m.list (new_block (round_up m.next align) size (kind.Variable false) ∷ []) j lt;
      }

  pub block_known : IsKnown n.list p
  block_known =
      let longer = made_longer size align (kind.Variable false) m o e in
      let count = kept.0 in
      let there : length m.list < length n.list = omega (arith, longer, count) in
      subst (λ (q : Pointer). IsKnown n.list q) (sym is) there
