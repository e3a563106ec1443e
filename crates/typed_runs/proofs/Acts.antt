-- An instruction of a typed program keeps a core typed.
use Rattle.std.proofs.Common.{◌≡◌, ℕ, zero, suc, ◌+◌, ◌*◌, ◌≤◌, List, [], ◌∷◌, length, map, refl, sym, ◌∙◌, arith, Bool, true, false, Result, Ok, Err, nat_eq}
use Rattle.std.specs.Prelude.{IfOk, if◌then◌else◌}
use Rattle.std.specs.List.{All, AllZip}
use Rattle.std.proofs.lemmas.List.Elements.{All-cons, All-head, All-tail}
use Rattle.ir_tables.specs.declared.undefined_kind.UndefinedKind.{UndefinedKind}
use Rattle.ir_eval.specs.declared.value.Pointer.{Pointer}
use Rattle.ir_eval.specs.declared.value.Scalar.{Scalar}
use Rattle.ir_eval.specs.declared.value.Scalar.TheVariants as scalar
use Rattle.ir_eval.specs.Operators.{binary_of, select_of, freeze_of}
use Rattle.ir_eval.specs.Compare.{compare_of}
use Rattle.ir_eval.specs.Cast.{cast_of}
use Rattle.ir_memory.specs.declared.kind.BlockKind.TheVariants.{Stack}
use Rattle.ir_memory.specs.declared.leaf.Leaf.{Leaf}
use Rattle.ir_memory.specs.declared.leaf.Leaf.TheVariants as leaf
use Rattle.ir_memory.specs.Given.{IsBlock, IsAlignment, IsLeaf}
use Rattle.ir_memory.specs.Memory.{Blocks, added, bounds_at}
use Rattle.ir_memory.proofs.Known.{IsBlock-more}
use Rattle.run_rules.specs.declared.end.End.TheVariants as ends
use Rattle.run_rules.specs.Access.{loaded_value, stored_value, has_room, next_block}
use Rattle.run_rules.specs.Act.{act, computed, loads, stores, allocates, allocates_many, added_alloca, branches, switches, case_of}
use Rattle.run_rules.specs.Action.{Origin, Edge, Action, Compute, Compare, Convert, Select, Freeze, Gather, Load, Store, Allocate, Displace, Call, Return, Jump, Branch, Switch, Unreachable, Stuck}
use Rattle.run_rules.specs.Calls.{Callee}
use Rattle.run_rules.specs.Displace.{displaced, reach_of}
use Rattle.run_rules.specs.Frame.{read, read_all, with_leaves, moved_on, assigned}
use Rattle.run_rules.specs.Leaves.{Slot, is_pointer}
use Rattle.run_rules.specs.State.{Frame, Core, Stops, on_top, goes}
use Rattle.typed_runs.specs.Actions.{Typing, cast_from, cast_to, IsOrigin, IsPlace, IsEdge, IsTypedAction}
use Rattle.typed_runs.specs.Kinds.{IsOf, AreAt, kinds_of_all}
use Rattle.typed_runs.specs.States.{IsTypedMemory, AreStored, IsLater, IsTypedCallee, IsTypedCore}
use Rattle.typed_runs.proofs.Access.{loaded_value_typed, stored_value_typed}
use Rattle.typed_runs.proofs.Calls.{parts_of, parts_in, no_bytes, called_at_typed, returned_typed, IsTypedNext}
use Rattle.typed_runs.proofs.Leaves.{leaves_more, are_set, read_typed, read_all_typed, assigned_typed, same_lengths}
use Rattle.typed_runs.proofs.Memory.{IsKeptTyped, later_of, added_typed}
use Rattle.typed_runs.proofs.Values.{binary_typed, compare_typed, cast_typed, select_typed, freeze_typed, displaced_typed}

module _ (t : Typing) (look : ℕ → ℕ → ℕ → Action) (table : ℕ → Callee) (f : Frame) (c : Core) (h : IsTypedCore t look table (on_top f c)) where
  abbrev count : ℕ
  count = length c.memory.list

  abbrev kinds : List Leaf
  kinds = t.kinds f.function

  -- the frame with other leaves, at another place, in a memory with at least as many blocks
  goes_on : (block position : ℕ) (vs : List Scalar) (ps : List Pointer) (m : Blocks) (written : List ℕ) → AllZip (IsOf (length m.list)) kinds vs → All (λ p. IsBlock (length m.list) p.block) ps
      → IsPlace t look f.function block position → IsTypedMemory m → IsLater c.memory m
      → IsTypedNext t look table c.memory (goes (record f { block = block; position = position; leaves = vs; allocas = ps }) (record c { memory = m }))
  goes_on block position vs ps m written is blocks place typed later =
      let p = parts_in t look table (on_top f c) m (parts_of t look table (on_top f c) h) typed later.blocks in
      let same : length vs ≡ length f.leaves = same_lengths (length m.list) kinds vs is ∙ sym (same_lengths count kinds f.leaves h.frames.0.leaves) in (
        record {
          frames = (record { leaves = is; allocas = blocks; place = place }, h.frames.1, p.frames.2);
          weight = omega (arith, same, h.weight);
          due = p.due;
          under_way = tt;
          memory = typed;
          fixed = p.fixed;
        },
        later,
        no_bytes t look table,
      )

  -- a result is set, and the next instruction is due
  results : (to : ℕ) (ks : List Leaf) (vs : List Scalar) → AreAt kinds to ks → AllZip (IsOf count) ks vs → IsPlace t look f.function f.block (f.position + 1)
      → IsTypedNext t look table c.memory (goes (record f { position = f.position + 1; leaves = with_leaves f.leaves to vs }) c)
  results to ks vs at is place =
      goes_on f.block (f.position + 1) (with_leaves f.leaves to vs) f.allocas c.memory [] (are_set count kinds f.leaves to ks vs h.frames.0.leaves at is) h.frames.0.allocas place h.memory
      (later_of c.memory c.memory (refl, refl))

  -- an edge is followed
  follows : (e : Edge) → IsEdge t look f.function e → IsTypedNext t look table c.memory (goes (record f { block = e.block; position = e.position; leaves = assigned f e.moves f.leaves }) c)
  follows e is =
      goes_on e.block e.position (assigned f e.moves f.leaves) f.allocas c.memory [] (assigned_typed t look count h.fixed f h.frames.0.leaves e.moves is.1) h.frames.0.allocas is.0 h.memory
      (later_of c.memory c.memory (refl, refl))

  had : (kind : Leaf) (o : Origin) → IsOrigin t look f.function kind o → IsOf count kind (read f o)
  had kind o is = read_typed t look count h.fixed f h.frames.0.leaves kind o is

  computes : (to width : ℕ) (r : Result Scalar UndefinedKind) → IfOk r (IsOf count (leaf.Int width)) → AreAt kinds to (leaf.Int width ∷ []) → IsPlace t look f.function f.block (f.position + 1) → IsTypedNext t look table c.memory (computed to r f c)
  computes to width (Ok v) is at place = results to (leaf.Int width ∷ []) (v ∷ []) at (is, tt) place
  computes to width (Err e) is at place = tt

  selects : (condition : Scalar) (ks : List Leaf) (arms : List (Origin × Origin)) → AllZip (λ kind arm. IsOrigin t look f.function kind arm.0 × IsOrigin t look f.function kind arm.1) ks arms
      → AllZip (IsOf count) ks (map (λ arm. select_of condition (read f arm.0) (read f arm.1)) arms)
  selects condition [] [] is = tt
  selects condition [] (a ∷ others) is = absurd is
  selects condition (k ∷ ks) [] is = absurd is
  selects condition (k ∷ ks) (a ∷ others) is = (select_typed count k condition (read f a.0) (read f a.1) (had k a.0 is.0.0) (had k a.1 is.0.1), selects condition ks others is.1)

  freezes : (ks : List Leaf) (xs : List (Bool × Origin)) → AllZip (λ kind x. (x.0 ≡ is_pointer kind) × IsOrigin t look f.function kind x.1) ks xs → AllZip (IsOf count) ks (map (λ x. freeze_of x.0 (read f x.1)) xs)
  freezes [] [] is = tt
  freezes [] (x ∷ xs) is = absurd is
  freezes (k ∷ ks) [] is = absurd is
  freezes (k ∷ ks) (x ∷ xs) is = (freeze_typed count k x.0 (read f x.1) is.0.0 (had k x.1 is.0.1), freezes ks xs is.1)

  loads_typed : (to : ℕ) (ks : List Leaf) (r : Result (List Scalar) UndefinedKind) → IfOk r (AllZip (IsOf count) ks) → AreAt kinds to ks → IsPlace t look f.function f.block (f.position + 1) → IsTypedNext t look table c.memory (loads to r f c)
  loads_typed to ks (Ok vs) is at place = results to ks vs at is place
  loads_typed to ks (Err e) is at place = tt

  stored_leaves : (xs : List (Slot × Origin)) → All (λ x. IsLeaf x.0.leaf × IsOrigin t look f.function x.0.leaf x.1) xs → AreStored count (map (λ x. (x.0, read f x.1)) xs)
  stored_leaves [] is = tt
  stored_leaves (x ∷ xs) is =
      let P : Slot × Origin → Type 0 = λ x. IsLeaf x.0.leaf × IsOrigin t look f.function x.0.leaf x.1 in
      (had x.0.leaf x.1 (All-head P x xs is).1, stored_leaves xs (All-tail P x xs is))

  stores_typed : (r : Result Blocks UndefinedKind) → IfOk r (IsKeptTyped c.memory) → IsPlace t look f.function f.block (f.position + 1) → IsTypedNext t look table c.memory (stores r f c)
  stores_typed (Ok m) is place =
      let le : count ≤ length m.list = omega (arith, is.1.0) in
      goes_on f.block (f.position + 1) f.leaves f.allocas m [] (leaves_more count (length m.list) kinds f.leaves le h.frames.0.leaves)
      (λ k d lt. IsBlock-more count (length m.list) _ le (h.frames.0.allocas k d lt)) place is.0 (later_of c.memory m is.1)
  stores_typed (Err e) is place = tt

  allocates_typed : (to size align : ℕ) → IsAlignment align → AreAt kinds to (leaf.Ptr ∷ []) → IsPlace t look f.function f.block (f.position + 1) → IsTypedNext t look table c.memory (allocates to size align f c)
  allocates_typed to size align is at place = go (has_room size c.memory) refl
    where
      go : (b : Bool) → has_room size c.memory ≡ b → IsTypedNext t look table c.memory (if b then added_alloca to size align f c else Stops ends.MemoryLimit)
      go false e = tt
      go true e =
          let m = added size align Stack c.memory in
          let a = added_typed size align Stack c.memory is e h.memory in
          goes_on f.block (f.position + 1) (with_leaves f.leaves to (scalar.Ptr (next_block align c.memory) ∷ [])) (next_block align c.memory ∷ f.allocas) m []
          (are_set (length m.list) kinds f.leaves to (leaf.Ptr ∷ []) (scalar.Ptr (next_block align c.memory) ∷ []) (leaves_more count (length m.list) kinds f.leaves a.1.blocks h.frames.0.leaves) at (a.2, tt))
          (All-cons (λ p. IsBlock (length m.list) p.block) (next_block align c.memory) f.allocas a.2 (λ k d lt. IsBlock-more count (length m.list) _ a.1.blocks (h.frames.0.allocas k d lt)))
          place a.0 a.1

  many : (to size align width : ℕ) (v : Scalar) → IsAlignment align → AreAt kinds to (leaf.Ptr ∷ []) → IsPlace t look f.function f.block (f.position + 1) → IsTypedNext t look table c.memory (allocates_many to size align v f c)
  many to size align width (scalar.Int n) is at place = allocates_typed to (n * size) align is at place
  many to size align width (scalar.Ptr p) is at place = tt
  many to size align width scalar.Poison is at place = tt

  branches_typed : (v : Scalar) (e g : Edge) → IsEdge t look f.function e → IsEdge t look f.function g → IsTypedNext t look table c.memory (branches v e g f c)
  branches_typed (scalar.Int zero) e g is other = follows g other
  branches_typed (scalar.Int (suc n)) e g is other = follows e is
  branches_typed (scalar.Ptr p) e g is other = tt
  branches_typed scalar.Poison e g is other = tt

  case_typed : (n : ℕ) (otherwise : Edge) (xs : List (ℕ × Edge)) → IsEdge t look f.function otherwise → All (λ x. IsEdge t look f.function x.1) xs → IsEdge t look f.function (case_of n otherwise xs)
  case_typed n otherwise [] is all = is
  case_typed n otherwise (x ∷ xs) is all = go (nat_eq x.0 n) (case_typed n otherwise xs is (All-tail (λ x. IsEdge t look f.function x.1) x xs all))
    where
      go : (b : Bool) → IsEdge t look f.function (case_of n otherwise xs) → IsEdge t look f.function (if b then x.1 else case_of n otherwise xs)
      go true k = All-head (λ x. IsEdge t look f.function x.1) x xs all
      go false k = k

  switches_typed : (v : Scalar) (otherwise : Edge) (xs : List (ℕ × Edge)) → IsEdge t look f.function otherwise → All (λ x. IsEdge t look f.function x.1) xs → IsTypedNext t look table c.memory (switches v otherwise xs f c)
  switches_typed (scalar.Int n) otherwise xs is all = follows (case_of n otherwise xs) (case_typed n otherwise xs is all)
  switches_typed (scalar.Ptr p) otherwise xs is all = tt
  switches_typed scalar.Poison otherwise xs is all = tt

  -- what an action does
  pub act_typed : (callees : (address : ℕ) → IsTypedCallee t look table (table address)) (a : Action) → IsTypedAction t look f.function f.block f.position a → IsTypedNext t look table c.memory (act table a f c)
  act_typed callees (Compute to opcode flags width left right) is =
      computes to width (binary_of opcode flags width (read f left) (read f right))
      (binary_typed count opcode flags width (read f left) (read f right) (had (leaf.Int width) left is.2) (had (leaf.Int width) right is.3)) is.4 is.5
  act_typed callees (Compare to predicate samesign width left right) is =
      results to (leaf.Int 1 ∷ []) (compare_of predicate samesign width (read f left) (read f right) ∷ []) is.2 (compare_typed count predicate samesign width (read f left) (read f right), tt) is.3
  act_typed callees (Convert to opcode flags from_width to_width value) is =
      results to (cast_to opcode to_width ∷ []) (cast_of opcode flags from_width to_width (read f value) ∷ []) is.4
      (cast_typed count opcode flags from_width to_width (read f value) is.2 (had (cast_from opcode from_width) value is.3), tt) is.5
  act_typed callees (Select to condition arms) is =
      results to is.1.0 (map (λ arm. select_of (read f condition) (read f arm.0) (read f arm.1)) arms) is.1.2 (selects (read f condition) is.1.0 arms is.1.1) is.2
  act_typed callees (Freeze to value) is = results to is.0.0 (map (λ x. freeze_of x.0 (read f x.1)) value) is.0.2 (freezes is.0.0 value is.0.1) is.1
  act_typed callees (Gather to value) is = results to is.0.0 (read_all f value) is.0.2 (read_all_typed t look count h.fixed f h.frames.0.leaves is.0.0 value is.0.1) is.1
  act_typed callees (Load to align address slots) is =
      loads_typed to (map (λ s. s.leaf) slots) (loaded_value c.memory (read f address) align slots) (loaded_value_typed c.memory (read f address) align slots h.memory) is.3 is.4
  act_typed callees (Store align address value) is =
      stores_typed (stored_value (read f address) align (map (λ x. (x.0, read f x.1)) value) c.memory)
      (stored_value_typed (read f address) align (map (λ x. (x.0, read f x.1)) value) c.memory (stored_leaves value is.2) h.memory) is.3
  act_typed callees (Allocate to size align count_origin) is = many to size align 0 (read f count_origin) is.0 is.2 is.3
  act_typed callees (Displace to inbounds base terms) is =
      results to (leaf.Ptr ∷ []) (displaced (λ p. bounds_at c.memory.list p.block) inbounds (read f base) (reach_of (read f) terms) ∷ []) is.2
      (displaced_typed count (λ p. bounds_at c.memory.list p.block) inbounds (read f base) (reach_of (read f) terms) (had leaf.Ptr base is.0), tt) is.3
  act_typed callees (Call to signature callee shapes arguments) is =
      called_at_typed t look table callees (read f callee) signature shapes (read_all f arguments) to (on_top (moved_on f) c)
      (record {
        frames = (record { leaves = h.frames.0.leaves; allocas = h.frames.0.allocas; place = is.4 }, h.frames.1, h.frames.2);
        weight = h.weight;
        due = h.due;
        memory = h.memory;
        fixed = h.fixed;
      }) tt is.2 (read_all_typed t look count h.fixed f h.frames.0.leaves (kinds_of_all shapes) arguments is.1) is.3
  act_typed callees (Return value) is =
      returned_typed t look table f (read_all f value) c (read_all_typed t look count h.fixed f h.frames.0.leaves (t.gives f.function) value is) h.frames.1
      (record { frames = h.frames.2; weight = omega (arith, h.weight); due = h.due; memory = h.memory; fixed = h.fixed })
  act_typed callees (Jump edge) is = follows edge is
  act_typed callees (Branch condition then_edge else_edge) is = branches_typed (read f condition) then_edge else_edge is.1 is.2
  act_typed callees (Switch value otherwise cases) is = switches_typed (read f value) otherwise cases is.1 is.2
  act_typed callees Unreachable is = tt
  act_typed callees Stuck is = absurd is
