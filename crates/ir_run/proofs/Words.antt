-- Strings in memory.
use Rattle.std.proofs.Common.{◌≡◌, ℕ, zero, suc, ◌+◌, ◌*◌, ◌^◌, ◌<◌, ◌≤◌, List, [], ◌∷◌, ◌++◌, length, map, zip, drop, get_or, false, not, cond, Result, Ok, Err, Some, append-nil, append_assoc, refl, sym, ap, ◌∙◌, subst, arith}
use Rattle.std.specs.Prelude.{All, IfOk, IsOk, slice_get}
use Rattle.std.specs.List.{range_with_len}
use Rattle.std.proofs.lemmas.List.{at_drop_all, at_drop_more, length-append}
use Rattle.std.proofs.lemmas.List.Elements.{All-head, All-tail, All-push}
use Rattle.ir_eval.specs.declared.value.Pointer.{Pointer}
use Rattle.ir_eval.specs.declared.value.Scalar.TheVariants as scalar
use Rattle.ir_memory.specs.declared.kind.BlockKind.TheVariants as kind
use Rattle.ir_memory.specs.declared.leaf.Leaf.TheVariants as leaf
use Rattle.ir_memory.specs.MemoryBlock.{new_block}
use Rattle.ir_memory.specs.Answer.{Keeps}
use Rattle.ir_memory.specs.Memory.{Blocks, added, byte_limit, live_bytes, round_up}
use Rattle.run_rules.specs.declared.end.End.{End}
use Rattle.run_rules.specs.declared.end.End.TheVariants.{MemoryLimit}
use Rattle.run_rules.specs.Access.{and_then, next_block, or_as_before, stored_slots}
use Rattle.run_rules.specs.Opening.{block_with, made, row_of, with_string, with_strings}
use Rattle.run_rules.specs.Plan.{Contents}
use Rattle.typed_runs.specs.States.{AreStored}
use Rattle.typed_runs.proofs.Lives.{strings_live}
use Rattle.run_initial.proofs.OnInitial.Fresh.{IsFresh, all_put, same_stored}
use Rattle.run_initial.proofs.OnInitial.Ordered.{AreInOrder}
use Rattle.run_initial.specs.Initial.Constants.{bytes_at}
use Rattle.run_initial.specs.Initial.Fresh.{Puts, is_fresh, put, to_store}
use Rattle.ir_run.specs.Arguments.{Places}
use Rattle.ir_run.proofs.Blocks.{block_kept, block_known, made_is, made_within}

-- a row of bytes is what is put
row_bytes : (k : ℕ) (bs : List ℕ) → zip (map (λ j. record { offset = j * 1; leaf = leaf.Int 8 }) (range_with_len k (length (map scalar.Int bs)))) (map scalar.Int bs) ≡ bytes_at k bs
row_bytes k [] = refl
row_bytes k (b ∷ bs) = let one : k * 1 ≡ k = omega arith in λ j. (record { offset = one j; leaf = leaf.Int 8 }, scalar.Int b) ∷ row_bytes (k + 1) bs j

-- the zero behind a string is there already
zero_there : (k : ℕ) (bs : List ℕ) → to_store (bytes_at k (bs ++ 0 ∷ [])) ≡ to_store (bytes_at k bs)
zero_there k [] = refl
zero_there k (b ∷ bs) = ap (λ (l : Contents). cond (not (is_fresh (scalar.Int b))) ((record { offset = k; leaf = leaf.Int 8 }, scalar.Int b) ∷ l) l) (zero_there (k + 1) bs)

bytes_order : (k to : ℕ) (bs : List ℕ) → k + length bs ≤ to → AreInOrder k to (bytes_at k bs)
bytes_order k to [] le = omega (arith, le)
bytes_order k to (b ∷ bs) le = (omega arith, omega (arith, le), bytes_order (k + 1) to bs (omega (arith, le)))

bytes_stored : (count k : ℕ) (bs : List ℕ) → All (λ b. b < 256) bs → AreStored count (bytes_at k bs)
bytes_stored count k [] h = tt
bytes_stored count k (b ∷ bs) h = (All-head (λ b. b < 256) b bs h, bytes_stored count (k + 1) bs (All-tail (λ b. b < 256) b bs h))

-- a block that was added is fresh, where the next address is not too far
pub added_fresh : (size align : ℕ) (m : Blocks) → m.sealed ≡ false → round_up m.next align + size < 2 ^ 64 → IsFresh (added size align (kind.Variable false) m) (next_block align m) (length m.list) [] size
added_fresh size align m unsealed near = record {
  block = new_block (round_up m.next align) size (kind.Variable false);
  of_block = refl;
  address = refl;
  there = back m.list;
  live = refl;
  long = omega arith;
  near = near;
  cells = refl;
  unsealed = unsealed;
}
  where
    back : (bs : List _) → slice_get (bs ++ new_block (round_up m.next align) size (kind.Variable false) ∷ []) (length bs) ≡ Some (new_block (round_up m.next align) size (kind.Variable false))
    back [] = refl
    back (b ∷ bs) = back bs

-- a string that is put into a new block
string_made : (bytes : List ℕ) (m n : Blocks) → All (λ b. b < 256) (bytes ++ 0 ∷ []) → m.sealed ≡ false → round_up m.next 1 + (length bytes + 1) < 2 ^ 64 → made (length bytes + 1) 1 (kind.Variable false) m ≡ Ok (added (length bytes + 1) 1 (kind.Variable false) m)
    → Puts (next_block 1 m) (bytes_at 0 bytes) (added (length bytes + 1) 1 (kind.Variable false) m) n → with_string bytes m ≡ Ok (n, next_block 1 m)
unfolding with_string block_with
string_made bytes m n are unsealed near has stored =
    let p = next_block 1 m in
    let o = added (length bytes + 1) 1 (kind.Variable false) m in
    let all = bytes ++ 0 ∷ [] in
    let xs = bytes_at 0 all in
    let long : length all ≡ length bytes + 1 = length-append bytes (0 ∷ []) in
    let same : stored_slots p 1 xs o ≡ Ok n =
    same_stored xs o p (length m.list) [] (length bytes + 1) (length bytes + 1) 0 (omega arith) (added_fresh (length bytes + 1) 1 m unsealed near) (bytes_order 0 (length bytes + 1) all (omega (arith, long))) (bytes_stored 0 0 all are)
    ∙ ap (λ (l : Contents). stored_slots p 1 l o) (zero_there 0 bytes) ∙ stored in
    ap (λ r. and_then r (λ x. Ok (or_as_before x (stored_slots p 1 (row_of 1 (leaf.Int 8) (map scalar.Int all)) x), p))) has
    ∙ ap (λ (l : Contents). Ok (or_as_before o (stored_slots p 1 l o), p)) (row_bytes 0 all)
    ∙ ap (λ r. Ok (or_as_before o r, p)) same

-- every store of a string into a new block goes well
pub string_stored : (bytes : List ℕ) (size : ℕ) (m o : Blocks) (p : Pointer) → All (λ b. b < 256) bytes → m.sealed ≡ false → m.next ≤ 2 ^ 61 → size ≡ length bytes + 1 → made size 1 (kind.Variable false) m ≡ Ok o → p ≡ next_block 1 m → IsOk (put p (bytes_at 0 bytes) o)
string_stored bytes size m o p are unsealed near long e is =
    let same : o ≡ added size 1 (kind.Variable false) m = made_is size 1 (kind.Variable false) m o e in
    let room = made_within size 1 (kind.Variable false) m o e in
    let up : round_up m.next 1 ≡ m.next = omega arith in
    let there : IsFresh o (next_block 1 m) (length m.list) [] size =
    subst (λ (x : Blocks). IsFresh x (next_block 1 m) (length m.list) [] size) (sym same) (added_fresh size 1 m unsealed (omega (arith, up, near, room))) in
    let here : IsFresh o p (length m.list) [] size = subst (λ (q : Pointer). IsFresh o q (length m.list) [] size) (sym is) there in
    all_put (bytes_at 0 bytes) o p (length m.list) [] size size 0 (omega arith) here (bytes_order 0 size bytes (omega (arith, long))) (bytes_stored 0 0 bytes are)

-- memory, and a pointer
abbrev pub with_pointer : Blocks → Pointer → Result (Blocks × Pointer) End
with_pointer n p = Ok (n, p)

-- the same, from what each call says
pub string_placed : (bytes : List ℕ) (size : ℕ) (m o n : Blocks) (p : Pointer) → All (λ b. b < 256) bytes → m.sealed ≡ false → m.next ≤ 2 ^ 61 → size ≡ length bytes + 1 → made size 1 (kind.Variable false) m ≡ Ok o → p ≡ next_block 1 m → Puts p (bytes_at 0 bytes) o n → Keeps o n
    → Places (with_string bytes m) p m n
string_placed bytes size m o n p are unsealed near long e is put kept =
    let has : made (length bytes + 1) 1 (kind.Variable false) m ≡ Ok o = ap (λ (k : ℕ). made k 1 (kind.Variable false) m) (sym long) ∙ e in
    let same : o ≡ added (length bytes + 1) 1 (kind.Variable false) m = made_is (length bytes + 1) 1 (kind.Variable false) m o has in
    let room = made_within (length bytes + 1) 1 (kind.Variable false) m o has in
    let up : round_up m.next 1 ≡ m.next = omega arith in
    let whole : with_string bytes m ≡ Ok (n, next_block 1 m) =
    string_made bytes m n (All-push (λ b. b < 256) bytes 0 are (omega arith)) unsealed (omega (arith, up, near, room)) (has ∙ ap (λ (x : Blocks). Ok x) same)
    (ap (λ (x : Blocks). stored_slots (next_block 1 m) 1 (to_store (bytes_at 0 bytes)) x) (sym same) ∙ ap (λ (q : Pointer). stored_slots q 1 (to_store (bytes_at 0 bytes)) o) (sym is) ∙ put) in
    record {
      made = whole ∙ ap (with_pointer n) (sym is);
      known = block_known size 1 m o n p (bytes_at 0 bytes) e is put kept;
      kept = block_kept size 1 m o n p (bytes_at 0 bytes) e is put kept;
    }

pub string_full : (bytes : List ℕ) (size : ℕ) (m : Blocks) → size ≡ length bytes + 1 → made size 1 (kind.Variable false) m ≡ Err MemoryLimit → with_string bytes m ≡ Err MemoryLimit
unfolding with_string block_with
string_full bytes size m long e =
    ap (λ r. and_then r (λ x. Ok (or_as_before x (stored_slots (next_block 1 m) 1 (row_of 1 (leaf.Int 8) (map scalar.Int (bytes ++ 0 ∷ []))) x), next_block 1 m)))
    (ap (λ (k : ℕ). made k 1 (kind.Variable false) m) (sym long) ∙ e)

-- bytes of a slice
pub bytes_below : (bytes : List ℕ) → ((i : ℕ) → get_or bytes i 0 < 256) → (k d : ℕ) → k < length bytes → get_or bytes k d < 256
bytes_below [] h k d lt = absurd (omega (arith, lt))
bytes_below (b ∷ bytes) h zero d lt = h 0
bytes_below (b ∷ bytes) h (suc k) d lt = bytes_below bytes (λ i. h (suc i)) k d (omega (arith, lt))

-- ---- string by string

abbrev LivesMore : Blocks → Blocks × List Pointer → Type 0
LivesMore m x = live_bytes m.list + 1 ≤ live_bytes x.0.list

-- a string takes a byte
pub string_lives : (bytes : List ℕ) (m n : Blocks) (p : Pointer) → with_string bytes m ≡ Ok (n, p) → live_bytes m.list + 1 ≤ live_bytes n.list
unfolding with_strings
string_lives bytes m n p e =
    subst (λ (r : Result (Blocks × Pointer) End). IfOk (and_then r (λ x. and_then (with_strings [] x.0) (λ y. Ok (y.0, x.1 ∷ y.1)))) (LivesMore m)) e (strings_live (bytes ∷ []) m)

-- which there was room for
pub string_fits : (bytes : List ℕ) (m n : Blocks) (p : Pointer) → with_string bytes m ≡ Ok (n, p) → live_bytes m.list + 1 ≤ byte_limit
unfolding with_string block_with
string_fits bytes m n p e = go (made (length bytes + 1) 1 (kind.Variable false) m) refl e
  where
    then_made : Result Blocks End → Result (Blocks × Pointer) End
    then_made r = and_then r (λ x. Ok (or_as_before x (stored_slots (next_block 1 m) 1 (row_of 1 (leaf.Int 8) (map scalar.Int (bytes ++ 0 ∷ []))) x), next_block 1 m))

    go : (r : Result Blocks End) → made (length bytes + 1) 1 (kind.Variable false) m ≡ r → then_made r ≡ Ok (n, p) → live_bytes m.list + 1 ≤ byte_limit
    go (Ok o) h f = let room = made_within (length bytes + 1) 1 (kind.Variable false) m o h in omega (arith, room)
    go (Err x) h f = cc

-- memory, and pointers
abbrev with_all : Blocks → List Pointer → Result (Blocks × List Pointer) End
with_all n ps = Ok (n, ps)

-- what the other strings make, behind blocks that were made
abbrev pub with_others : List Pointer → Result (Blocks × List Pointer) End → Result (Blocks × List Pointer) End
with_others blocks r = and_then r (λ y. Ok (y.0, blocks ++ y.1))

module _ (ss : List (List ℕ)) (k : ℕ) (s : List ℕ) (blocks : List Pointer) (m : Blocks) (all : Result (Blocks × List Pointer) End) (lt : k < length ss) (is : s ≡ get_or ss k s) (before : with_others blocks (with_strings (drop k ss) m) ≡ all) where
  next : drop k ss ≡ s ∷ drop (k + 1) ss
  next = at_drop_more (λ (l : List (List ℕ)). l) ss k s lt ∙ ap (λ (x : List ℕ). x ∷ drop (k + 1) ss) (sym is)

  in_turn : with_others blocks (and_then (with_string s m) (λ x. and_then (with_strings (drop (k + 1) ss) x.0) (λ y. Ok (y.0, x.1 ∷ y.1)))) ≡ all
  unfolding with_strings
  in_turn = sym (ap (λ (l : List (List ℕ)). with_others blocks (with_strings l m)) next) ∙ before

  pub string_more : (n : Blocks) (p : Pointer) → with_string s m ≡ Ok (n, p) → with_others (blocks ++ p ∷ []) (with_strings (drop (k + 1) ss) n) ≡ all
  string_more n p e =
      sym (both (with_strings (drop (k + 1) ss) n))
      ∙ sym (ap (λ (r : Result (Blocks × Pointer) End). with_others blocks (and_then r (λ x. and_then (with_strings (drop (k + 1) ss) x.0) (λ y. Ok (y.0, x.1 ∷ y.1))))) e) ∙ in_turn
    where
      both : (r : Result (Blocks × List Pointer) End) → with_others blocks (and_then r (λ y. Ok (y.0, p ∷ y.1))) ≡ with_others (blocks ++ p ∷ []) r
      both (Ok y) = ap (with_all y.0) (sym (append_assoc blocks (p ∷ []) y.1))
      both (Err x) = refl

  pub string_none : with_string s m ≡ Err MemoryLimit → all ≡ Err MemoryLimit
  string_none e = sym in_turn ∙ ap (λ (r : Result (Blocks × Pointer) End). with_others blocks (and_then r (λ x. and_then (with_strings (drop (k + 1) ss) x.0) (λ y. Ok (y.0, x.1 ∷ y.1))))) e

pub strings_begin : (r : Result (Blocks × List Pointer) End) → with_others [] r ≡ r
strings_begin (Ok y) = refl
strings_begin (Err x) = refl

pub strings_end : (ss : List (List ℕ)) (k : ℕ) (blocks : List Pointer) (m : Blocks) (all : Result (Blocks × List Pointer) End) → length ss ≤ k → with_others blocks (with_strings (drop k ss) m) ≡ all → all ≡ Ok (m, blocks)
unfolding with_strings
strings_end ss k blocks m all le before =
    sym before ∙ ap (λ (l : List (List ℕ)). with_others blocks (with_strings l m)) (at_drop_all (λ (l : List (List ℕ)). l) ss k le)
    ∙ ap (with_all m) (append-nil blocks)
