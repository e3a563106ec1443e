-- Opening gives a typed state.
use Rattle.std.proofs.Common.{◌≡◌, ℕ, ◌+◌, ◌*◌, ◌^◌, ◌<◌, ◌≤◌, List, [], ◌∷◌, ◌++◌, length, map, zip, refl, sym, subst, arith, Bool, true, false, Option, Some, None, Result, Ok, Err, lit<, lit≤}
use Rattle.std.specs.Prelude.{IfOk, if◌then◌else◌}
use Rattle.std.specs.List.{All, range_with_len}
use Rattle.std.proofs.lemmas.List.Elements.{All-nil, All-cons, All-head, All-tail, All-push, All-map}
use Rattle.ir_eval.specs.declared.value.Pointer.{Pointer}
use Rattle.ir_eval.specs.declared.value.Scalar.{Scalar}
use Rattle.ir_eval.specs.declared.value.Scalar.TheVariants as scalar
use Rattle.ir_eval.specs.Cast.{pointer_at}
use Rattle.ir_memory.specs.declared.leaf.Leaf.{Leaf}
use Rattle.ir_memory.specs.declared.leaf.Leaf.TheVariants as leaf
use Rattle.ir_memory.specs.declared.kind.BlockKind.{BlockKind}
use Rattle.ir_memory.specs.declared.kind.BlockKind.TheVariants as kind
use Rattle.ir_memory.specs.Given.{IsAlignment, IsBlock}
use Rattle.ir_memory.specs.Memory.{Blocks, no_blocks, added, live_bytes, reach}
use Rattle.ir_memory.proofs.Known.{IsBlock-more}
use Rattle.run_rules.specs.declared.end.End.TheVariants as ends
use Rattle.run_rules.specs.Access.{and_then, has_room, next_block, stored_slots, or_as_before}
use Rattle.run_rules.specs.Action.{Action}
use Rattle.run_rules.specs.Calls.{Callee}
use Rattle.run_rules.specs.Opening.{made, with_variables, with_contents, row_of, block_with, with_string, with_strings, with_pointers, with_main, ready, opening_core, opened_main, opened_from, opened}
use Rattle.run_rules.specs.Plan.{Plan, Variable, Contents}
use Rattle.run_rules.specs.Plan as plans
use Rattle.run_rules.specs.Side.{begun}
use Rattle.run_rules.specs.declared.end.End.{End}
use Rattle.run_rules.specs.State.{Due, Constructor, Main, MainWith, Core}
use Rattle.typed_runs.specs.Actions.{Typing}
use Rattle.typed_runs.specs.Kinds.{IsOf}
use Rattle.typed_runs.specs.Plans.{IsTypedMain, IsTypedPlan, AreWords}
use Rattle.typed_runs.specs.States.{IsTypedMemory, AreStored, IsTypedDue, AreTypedDue, IsTypedCore, IsTypedState}
use Rattle.run_rules.specs.Places.Places.{IsTrueMain, HasWork}
use Rattle.typed_runs.proofs.Access.{stored_slots_typed, as_before_typed, stored_more}
use Rattle.typed_runs.proofs.Lives.{strings_live}
use Rattle.typed_runs.proofs.Memory.{IsKeptTyped, nothing_done, then_done, added_typed}

-- memory with so many blocks more
pub record IsOpened (blocks : ℕ) (m n : Blocks) : Type 0 where
  pub typed : IsTypedMemory n
  pub more : length m.list + blocks ≤ length n.list
  pub next : n.next ≤ m.next + blocks * reach

opened_none : (m : Blocks) → IsTypedMemory m → IsOpened 0 m m
opened_none m h = record { typed = h; more = omega arith; next = omega arith }

opened_more : (a b c : ℕ) (m n o : Blocks) → c ≡ a + b → IsOpened a m n → IsOpened b n o → IsOpened c m o
opened_more a b c m n o e h k = record { typed = k.typed; more = omega (arith, e, h.more, k.more); next = omega (arith, e, h.next, k.next) }

kept_open : (a : ℕ) (m n o : Blocks) → IsOpened a m n → IsKeptTyped n o → IsOpened a m o
kept_open a m n o h k = record { typed = k.0; more = omega (arith, h.more, k.1.0); next = omega (arith, h.next, k.1.1) }

made_typed : (size align : ℕ) (kind : BlockKind) (m : Blocks) → IsAlignment align → IsTypedMemory m → IfOk (made size align kind m) (IsOpened 1 m)
made_typed size align kind m is h = go (has_room size m) refl
  where
    go : (b : Bool) → has_room size m ≡ b → IfOk {E = End} (if b then Ok (added size align kind m) else Err ends.MemoryLimit) (IsOpened 1 m)
    go false e = tt
    go true e =
        let a = added_typed size align kind m is e h in
        record { typed = a.0; more = omega (arith, a.2); next = omega (arith, a.1.next) }

then_opened : {A : Type 0} (r : Result Blocks End) (more : Blocks → Result A End) (P : Blocks → Type 0) (Q : A → Type 0) → IfOk r P → ((n : Blocks) → P n → IfOk (more n) Q) → IfOk (and_then r more) Q
then_opened (Ok n) more P Q h k = k n h
then_opened (Err e) more P Q h k = tt

variables_typed : (vs : List Variable) (m : Blocks) → All (λ (v : Variable). IsAlignment v.align) vs → IsTypedMemory m → IfOk (with_variables vs m) (IsOpened (length vs) m)
variables_typed [] m is h = opened_none m h
variables_typed (v ∷ vs) m is h =
    then_opened (made v.size v.align (kind.Variable v.constant) m) (λ n. with_variables vs n) (IsOpened 1 m) (IsOpened (length (v ∷ vs)) m)
    (made_typed v.size v.align (kind.Variable v.constant) m (All-head (λ (v : Variable). IsAlignment v.align) v vs is) h)
    (λ n k. go n k (with_variables vs n) (variables_typed vs n (All-tail (λ (v : Variable). IsAlignment v.align) v vs is) k.typed))
  where
    go : (n : Blocks) → IsOpened 1 m n → (r : Result Blocks End) → IfOk r (IsOpened (length vs) n) → IfOk r (IsOpened (length (v ∷ vs)) m)
    go n k (Ok o) l = opened_more 1 (length vs) (length (v ∷ vs)) m n o (omega arith) k l
    go n k (Err e) l = tt

contents_typed : (xs : List (Pointer × Contents)) (m : Blocks) → All (λ x. AreStored (length m.list) x.1) xs → IsTypedMemory m → IsKeptTyped m (with_contents xs m)
contents_typed [] m is h = nothing_done m h
contents_typed (x ∷ xs) m is h =
    let P : Pointer × Contents → Type 0 = λ x. AreStored (length m.list) x.1 in
    let n = or_as_before m (stored_slots x.0 1 x.1 m) in
    let k : IsKeptTyped m n = as_before_typed m (stored_slots x.0 1 x.1 m) h (stored_slots_typed x.0 1 x.1 m (All-head P x xs is) h) in
    then_done m n (with_contents xs n) k
    (contents_typed xs n (λ i d lt. stored_more (length m.list) (length n.list) _ (omega (arith, k.1.0)) (All-tail P x xs is i d lt)) k.0)

-- ---- strings and pointers

row_stored : (count step from : ℕ) (kind : Leaf) (vs : List Scalar) → All (IsOf count kind) vs → AreStored count (zip (map (λ k. record { offset = k * step; leaf = kind }) (range_with_len from (length vs))) vs)
row_stored count step from kind [] is = tt
row_stored count step from kind (v ∷ vs) is = (All-head (IsOf count kind) v vs is, row_stored count step (from + 1) kind vs (All-tail (IsOf count kind) v vs is))

abbrev IsBlockWith : Blocks → Blocks × Pointer → Type 0
IsBlockWith m x = IsOpened 1 m x.0 × IsBlock (length x.0.list) x.1.block

block_with_typed : (size align : ℕ) (xs : Contents) (m : Blocks) → IsAlignment align → AreStored (length m.list) xs → IsTypedMemory m → IfOk (block_with size align xs m) (IsBlockWith m)
unfolding block_with
block_with_typed size align xs m is are h =
    then_opened (made size align (kind.Variable false) m) (λ n. Ok (or_as_before n (stored_slots (next_block align m) 1 xs n), next_block align m)) (IsOpened 1 m) (IsBlockWith m)
    (made_typed size align (kind.Variable false) m is h)
    (λ n k.
    let d : IsKeptTyped n (or_as_before n (stored_slots (next_block align m) 1 xs n)) =
    as_before_typed n (stored_slots (next_block align m) 1 xs n) k.typed (stored_slots_typed (next_block align m) 1 xs n (stored_more (length m.list) (length n.list) xs (omega (arith, k.more)) are) k.typed) in
    (kept_open 1 m n (or_as_before n (stored_slots (next_block align m) 1 xs n)) k d, omega (arith, k.more, d.1.0)))

string_typed : (bytes : List ℕ) (m : Blocks) → All (λ b. b < 256) bytes → IsTypedMemory m → IfOk (with_string bytes m) (IsBlockWith m)
unfolding with_string
string_typed bytes m is h =
    block_with_typed (length bytes + 1) 1 (row_of 1 (leaf.Int 8) (map scalar.Int (bytes ++ 0 ∷ []))) m (0, lit≤ tt, refl)
    (row_stored (length m.list) 1 0 (leaf.Int 8) (map scalar.Int (bytes ++ 0 ∷ [])) (All-map (IsOf (length m.list) (leaf.Int 8)) scalar.Int (bytes ++ 0 ∷ []) (All-push (λ b. b < 256) bytes 0 is (lit< tt)))) h

abbrev AreStrings : Blocks → ℕ → Blocks × List Pointer → Type 0
AreStrings m count x = IsOpened count m x.0 × All (λ p. IsBlock (length x.0.list) p.block) x.1

strings_typed : (ss : List (List ℕ)) (m : Blocks) → All (λ s. All (λ b. b < 256) s) ss → IsTypedMemory m → IfOk (with_strings ss m) (AreStrings m (length ss))
unfolding with_strings
strings_typed [] m is h = (opened_none m h, All-nil (λ (p : Pointer). IsBlock (length m.list) p.block))
strings_typed (s ∷ ss) m is h = first (with_string s m) (string_typed s m (All-head (λ s. All (λ b. b < 256) s) s ss is) h) (λ n k. strings_typed ss n (All-tail (λ s. All (λ b. b < 256) s) s ss is) k)
  where
    second : (x : Blocks × Pointer) → IsBlockWith m x → (r : Result (Blocks × List Pointer) End) → IfOk r (AreStrings x.0 (length ss)) → IfOk (and_then r (λ y. Ok (y.0, x.1 ∷ y.1))) (AreStrings m (length (s ∷ ss)))
    second x k (Err e) l = tt
    second x k (Ok y) l = (
      opened_more 1 (length ss) (length (s ∷ ss)) m x.0 y.0 (omega arith) k.0 l.0,
      All-cons (λ p. IsBlock (length y.0.list) p.block) x.1 y.1 (IsBlock-more (length x.0.list) (length y.0.list) x.1.block (omega (arith, l.0.more)) k.1) l.1,
    )

    first : (r : Result (Blocks × Pointer) End) → IfOk r (IsBlockWith m) → ((n : Blocks) → IsTypedMemory n → IfOk (with_strings ss n) (AreStrings n (length ss)))
        → IfOk (and_then r (λ x. and_then (with_strings ss x.0) (λ y. Ok (y.0, x.1 ∷ y.1)))) (AreStrings m (length (s ∷ ss)))
    first (Err e) k more = tt
    first (Ok x) k more = second x k (with_strings ss x.0) (more x.0 k.0.typed)

pointers_typed : (ps : List Pointer) (m : Blocks) → All (λ p. IsBlock (length m.list) p.block) ps → IsTypedMemory m → IfOk (with_pointers ps m) (IsBlockWith m)
unfolding with_pointers
pointers_typed ps m is h =
    block_with_typed (8 * (length ps + 1)) 8 (row_of 8 leaf.Ptr (map scalar.Ptr (ps ++ pointer_at 0 ∷ []))) m (3, lit≤ tt, refl)
    (row_stored (length m.list) 8 0 leaf.Ptr (map scalar.Ptr (ps ++ pointer_at 0 ∷ [])) (All-map (IsOf (length m.list) leaf.Ptr) scalar.Ptr (ps ++ pointer_at 0 ∷ []) (All-push (λ p. IsBlock (length m.list) p.block) ps (pointer_at 0) is tt))) h

-- ---- main, and all

module _ (t : Typing) (look : ℕ → ℕ → ℕ → Action) (table : ℕ → Callee) (p : Plan) (plan_typed : IsTypedPlan t look table p) (arguments : List (List ℕ)) (words : AreWords arguments) where
  abbrev IsWithMain : Blocks → Blocks × Due → Type 0
  IsWithMain m x = IsOpened (length arguments + 1) m x.0 × IsTypedDue t look table (length x.0.list) x.1 × IsTrueMain look table x.1

  -- what opening has come to before the initialisers
  pub record IsReady (m : Blocks) (x : Blocks × Due) : Type 0 where
    pub typed : IsTypedMemory x.0
    pub more : length m.list ≤ length x.0.list
    pub next : x.0.next ≤ m.next + (2 ^ 28 + 1) * reach
    pub due : IsTypedDue t look table (length x.0.list) x.1
    pub main : IsTrueMain look table x.1

  main_typed : (main : plans.Main) → IsTypedMain t look table main.address main.takes_arguments → (m : Blocks) → IsTypedMemory m → IfOk (with_main main arguments m) (IsReady m)
  unfolding with_main
  main_typed main is m h = go main.takes_arguments is
    where
      second : (x : Blocks × List Pointer) → IsTypedMain t look table main.address true → AreStrings m (length arguments) x → length arguments ≤ 2 ^ 28 → (r : Result (Blocks × Pointer) End) → IfOk r (IsBlockWith x.0)
          → IfOk (and_then r (λ y. Ok (y.0, MainWith main.address (length arguments) y.1))) (IsReady m)
      second x has k few (Err e) l = tt
      second x has k few (Ok y) l =
          record {
            typed = l.0.typed;
            more = omega (arith, k.0.more, l.0.more);
            next = omega (arith, k.0.next, l.0.next, few);
            due = (let less : 2 ^ 28 < 2 ^ 32 = lit< tt in omega (arith, few, less), l.1);
            main = has;
          }

      -- each string has a byte, so there are no more than bytes may live
      first : IsTypedMain t look table main.address true → (r : Result (Blocks × List Pointer) End) → IfOk r (AreStrings m (length arguments)) → IfOk r (λ x. live_bytes m.list + length arguments ≤ live_bytes x.0.list)
          → IfOk (and_then r (λ x. and_then (with_pointers x.1 x.0) (λ y. Ok (y.0, MainWith main.address (length arguments) y.1)))) (IsReady m)
      first has (Err e) k lives = tt
      first has (Ok x) k lives = second x has k (let limit = k.0.typed.limit in omega (arith, lives, limit)) (with_pointers x.1 x.0) (pointers_typed x.1 x.0 k.1 k.0.typed)

      go : (b : Bool) → IsTypedMain t look table main.address b
          → IfOk (if b then and_then (with_strings arguments m) (λ x. and_then (with_pointers x.1 x.0) (λ y. Ok (y.0, MainWith main.address (length arguments) y.1))) else Ok (m, Main main.address)) (IsReady m)
      go true has = first has (with_strings arguments m) (strings_typed arguments m words h) (strings_live arguments m)
      go false has = record { typed = h; more = omega arith; next = omega arith; due = tt; main = has }

  constructors_due : (count : ℕ) (cs : List ℕ) (d : Due) → IsTypedDue t look table count d → IsTrueMain look table d → AreTypedDue t look table count (map Constructor cs ++ d ∷ [])
  constructors_due count [] d is main = (is, main)
  constructors_due count (c ∷ []) d is main = (tt, (is, main))
  constructors_due count (c ∷ e ∷ cs) d is main = (tt, constructors_due count (e ∷ cs) d is main)

  some_due : (cs : List ℕ) (d : Due) → HasWork look table [] (map Constructor cs ++ d ∷ [])
  some_due [] d = tt
  some_due (c ∷ cs) d = tt

  -- what opening gives
  abbrev IsFirst : Core → Type 0
  IsFirst c = IsTypedCore t look table c × (c.memory.next ≤ 2 ^ 59)

  ready_typed : (m : Blocks) → IsOpened (length p.variables) no_blocks m → (x : Blocks × Due) → IsReady m x → IsFirst (ready p x)
  ready_typed m k x l =
      let le : length p.variables ≤ length x.0.list = omega (arith, k.more, l.more) in
      let n = with_contents p.stores x.0 in
      let d : IsKeptTyped x.0 n = contents_typed p.stores x.0 (λ i e lt. stored_more (length p.variables) (length x.0.list) _ le (plan_typed.stores i e lt)) l.typed in (
        record {
          frames = tt;
          weight = lit≤ tt;
          due = subst (λ count. AreTypedDue t look table count (map Constructor p.constructors ++ x.1 ∷ [])) (sym d.1.0) (constructors_due (length x.0.list) p.constructors x.1 l.due l.main);
          under_way = some_due p.constructors x.1;
          memory = record { placed = d.0.placed; limit = d.0.limit; known = d.0.known };
          fixed = omega (arith, plan_typed.fixed, le, d.1.0);
        },
        omega (arith, d.1.1, l.next, k.next, plan_typed.few),
      )

  no_blocks_typed : IsTypedMemory no_blocks
  no_blocks_typed = record { placed = lit≤ tt; limit = lit≤ tt; known = λ k d lt. absurd (omega (arith, lt)) }

  placed_typed : (main : plans.Main) → IsTypedMain t look table main.address main.takes_arguments → IfOk (opening_core p main arguments) IsFirst
  placed_typed main is = first (with_variables p.variables no_blocks) (variables_typed p.variables no_blocks plan_typed.variables no_blocks_typed)
    where
      second : (m : Blocks) → IsOpened (length p.variables) no_blocks m → (r : Result (Blocks × Due) End) → IfOk r (IsReady m) → IfOk (and_then r (λ x. Ok (ready p x))) IsFirst
      second m k (Err e) l = tt
      second m k (Ok x) l = ready_typed m k x l

      first : (r : Result Blocks End) → IfOk r (IsOpened (length p.variables) no_blocks) → IfOk (and_then r (λ m. and_then (with_main main arguments m) (λ x. Ok (ready p x)))) IsFirst
      first (Err e) k = tt
      first (Ok m) k = second m k (with_main main arguments m) (main_typed main is m k.typed)

  opened_typed : IfOk (opened p arguments) IsFirst
  opened_typed = missing p.missing
    where
      main : (o : Option plans.Main) → p.main ≡ o → IfOk (opened_main p o arguments) IsFirst
      main None e = tt
      main (Some x) e = placed_typed x (plan_typed.main x e)

      missing : (o : Option (List ℕ)) → IfOk (opened_from p o arguments) IsFirst
      missing (Some name) = tt
      missing None = main p.main refl

  pub begun_typed : (input : List ℕ) (c : Core) → All (λ b. b < 256) input → opened p arguments ≡ Ok c → IsTypedState t look table (begun c input)
  begun_typed input c is e =
      let first : IsFirst c = subst (λ r. IfOk r IsFirst) e opened_typed in
      record { core = first.0; input = is; output = All-nil (λ b. b < 256); next = omega (arith, first.1) }
