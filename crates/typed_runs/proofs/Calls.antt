-- Calls and returns keep a core typed.
use Rattle.std.proofs.Common.{◌≡◌, ℕ, ◌+◌, ◌-◌, ◌<◌, ◌≤◌, List, [], ◌∷◌, ◌++◌, length, replicate, refl, sym, ap, ◌∙◌, subst, arith, Bool, true, false, nat_le, ◌⊎◌, ⊎_elim, inl}
use Rattle.std.specs.Prelude.{⊤, if◌then◌else◌}
use Rattle.std.specs.List.{All, AllZip, list_any}
use Rattle.std.proofs.lemmas.Bool.{leb-true}
use Rattle.std.proofs.lemmas.List.{append-nil, length-append}
use Rattle.std.proofs.lemmas.List.Elements.{All-nil}
use Rattle.ir_tables.specs.declared.undefined_kind.UndefinedKind.TheVariants.{AnotherFunctionType}
use Rattle.ir_eval.specs.declared.value.Pointer.{Pointer}
use Rattle.ir_eval.specs.declared.value.Scalar.{Scalar}
use Rattle.ir_eval.specs.declared.value.Scalar.TheVariants as scalar
use Rattle.ir_memory.specs.declared.leaf.Leaf.{Leaf}
use Rattle.ir_memory.specs.declared.leaf.Leaf.TheVariants as leaf
use Rattle.ir_memory.specs.Given.{IsBlock}
use Rattle.ir_memory.specs.Memory.{Blocks}
use Rattle.type_table.specs.Shape.{Shape}
use Rattle.run_rules.specs.declared.end.End.TheVariants as ends
use Rattle.run_rules.specs.Access.{released}
use Rattle.run_rules.specs.Action.{Signature, Action}
use Rattle.run_rules.specs.Calls.{Callee, Code, Host, Nothing, same_signature, begun, entered, handed, answered, called, called_at, exited, handed_back, returned}
use Rattle.run_rules.specs.Answer.{Answer, Gives, Reads, Halts}
use Rattle.run_rules.specs.Host.{host}
use Rattle.run_rules.specs.State.{Frame, Due, Core, Next, Goes, Gets, Stops, weights, weight, weight_limit, on_top, fails}
use Rattle.typed_runs.specs.Actions.{Typing, AreArguments}
use Rattle.typed_runs.specs.Kinds.{IsOf, kinds_of, kinds_of_all}
use Rattle.typed_runs.specs.States.{IsTypedMemory, IsLater, IsTypedCallee, IsTypedFrame, AreTaken, AreTypedFrames, AreTypedDue, IsTypedCore}
use Rattle.run_rules.specs.Places.Places.{IsFunctionOf, HasWork}
use Rattle.typed_runs.proofs.Access.{AreBytes, released_typed}
use Rattle.typed_runs.proofs.Frames.{frames_more, due_more, handed_typed, handed_weight}
use Rattle.typed_runs.proofs.Hosts.{IsTypedAnswer, host_typed, signature_exact}
use Rattle.typed_runs.proofs.Leaves.{leaves_more, zip_append, poison_typed, same_lengths}
use Rattle.typed_runs.proofs.Memory.{IsKeptTyped, later_of}

module _ (t : Typing) (look : ℕ → ℕ → ℕ → Action) (table : ℕ → Callee) where
  -- after an instruction the core is typed; a byte of the input is wanted where an i32 belongs
  abbrev pub IsTypedNext : Blocks → Next → Type 0
  IsTypedNext m (Goes c written) = IsTypedCore t look table c × IsLater m c.memory × All (λ b. b < 256) written
  IsTypedNext m (Gets to c) = IsTypedCore t look table c × IsLater m c.memory × AreTaken t look table to (leaf.Int 32 ∷ []) c.frames
  IsTypedNext m (Stops end) = ⊤

  -- all of a typed core but that a function is under way
  pub record AreParts (c : Core) : Type 0 where
    pub frames : AreTypedFrames t look table (length c.memory.list) c.frames
    pub weight : weights c.frames ≤ weight_limit
    pub due : AreTypedDue t look table (length c.memory.list) c.due
    pub memory : IsTypedMemory c.memory
    pub fixed : t.fixed ≤ length c.memory.list

  pub parts_of : (c : Core) → IsTypedCore t look table c → AreParts c
  parts_of c h = record { frames = h.frames; weight = h.weight; due = h.due; memory = h.memory; fixed = h.fixed }

  pub whole : (c : Core) → AreParts c → HasWork look table c.frames c.due → IsTypedCore t look table c
  whole c h u = record { frames = h.frames; weight = h.weight; due = h.due; under_way = u; memory = h.memory; fixed = h.fixed }

  pub no_bytes : AreBytes []
  no_bytes = All-nil (λ b. b < 256)

  -- memory stays, and so do its blocks
  pub parts_in : (c : Core) (m : Blocks) → AreParts c → IsTypedMemory m → length c.memory.list ≤ length m.list → AreParts (record c { memory = m })
  parts_in c m h is le =
      record {
        frames = frames_more t look table (length c.memory.list) (length m.list) c.frames le h.frames;
        weight = h.weight;
        due = due_more t look table (length c.memory.list) (length m.list) c.due le h.due;
        memory = is;
        fixed = omega (arith, le, h.fixed);
      }

  -- a result is handed on
  pub parts_handed : (c : Core) (to : ℕ) (ks : List Leaf) (vs : List Scalar) → AreParts c → AreTaken t look table to ks c.frames → AllZip (IsOf (length c.memory.list)) ks vs → AreParts (record c { frames = handed to vs c.frames })
  parts_handed c to ks vs h at is =
      record {
        frames = handed_typed t look table (length c.memory.list) c.frames to ks vs h.frames at is;
        weight = subst (λ n. n ≤ weight_limit) (sym (handed_weight t look table (length c.memory.list) c.frames to ks vs h.frames at is)) h.weight;
        due = h.due;
        memory = h.memory;
        fixed = h.fixed;
      }

  still_under_way : (to : ℕ) (vs : List Scalar) (fs : List Frame) (ds : List Due) → HasWork look table fs ds → HasWork look table (handed to vs fs) ds
  still_under_way to vs [] ds u = u
  still_under_way to vs (f ∷ fs) ds u = tt

  -- what the host answered
  pub answered_typed : (c : Core) (to : ℕ) (ks : List Leaf) (a : Answer) → AreParts c → HasWork look table c.frames c.due → AreTaken t look table to ks c.frames → IsTypedAnswer c.memory ks a → IsTypedNext c.memory (answered to c a)
  answered_typed c to ks (Gives result m output) h u at is =
      let p = parts_handed (record c { memory = m }) to ks result (parts_in c m h is.1 is.2.blocks) at is.0 in
      (whole (record c { frames = handed to result c.frames; memory = m }) p (still_under_way to result c.frames c.due u), is.2, is.3)
  answered_typed c to ks Reads h u at is = (whole c h u, later_of c.memory c.memory (refl, refl), subst (λ xs. AreTaken t look table to xs c.frames) is at)
  answered_typed c to ks (Halts e) h u at is = tt

  -- a frame that fits is entered
  entered_typed : (f : Frame) (c : Core) → AreParts c → IsTypedFrame t look table (length c.memory.list) f → AreTaken t look table f.to (t.gives f.function) c.frames → IsTypedNext c.memory (entered f c)
  entered_typed f c h is at = go (nat_le (weights c.frames + weight f) weight_limit) refl
    where
      go : (b : Bool) → nat_le (weights c.frames + weight f) weight_limit ≡ b → IsTypedNext c.memory (if b then Goes (on_top f c) [] else Stops ends.StackLimit)
      go false e = tt
      go true e =
          let fits : weights c.frames + weight f ≤ weight_limit = leb-true (weights c.frames + weight f) weight_limit e in
          (record { frames = (is, at, h.frames); weight = omega (arith, fits); due = h.due; under_way = tt; memory = h.memory; fixed = h.fixed }, later_of c.memory c.memory (refl, refl), no_bytes)

  -- the frame of a function at its first instruction
  pub begun_typed : (count function leaves : ℕ) (s : Signature) (vs : List Scalar) (to : ℕ) → IsTypedCallee t look table (Code function s leaves) → AllZip (IsOf count) (kinds_of_all s.parameters) vs → IsTypedFrame t look table count (begun function leaves vs to)
  begun_typed count function leaves s vs to is h =
      record {
        leaves = subst (λ ks. AllZip (IsOf count) ks (vs ++ replicate (leaves - length vs) scalar.Poison)) (sym is.3.1)
            (zip_append count (kinds_of_all s.parameters) is.3.0 vs (replicate (leaves - length vs) scalar.Poison) h
            (subst (λ n. AllZip (IsOf count) is.3.0 (replicate n scalar.Poison)) others (poison_typed count is.3.0)));
        allocas = All-nil (λ (p : Pointer). IsBlock count p.block);
        place = is.4;
      }
    where
      others : length is.3.0 ≡ leaves - length vs
      others =
          let a : length (t.kinds function) ≡ length (kinds_of_all s.parameters ++ is.3.0) = ap length is.3.1 in
          let b = length-append (kinds_of_all s.parameters) is.3.0 in
          let c = same_lengths count (kinds_of_all s.parameters) vs h in
          omega (arith, is.1, a, b, c)

  -- a call by an address
  pub called_typed : (callee : Callee) (used : Signature) (shapes : List Shape) (vs : List Scalar) (to : ℕ) (c : Core)
      → IsTypedCallee t look table callee → AreParts c → HasWork look table c.frames c.due ⊎ IsFunctionOf look table used callee
      → AreArguments used shapes → AllZip (IsOf (length c.memory.list)) (kinds_of_all shapes) vs → AreTaken t look table to (kinds_of used.returns) c.frames
      → IsTypedNext c.memory (called callee used shapes vs to c)
  called_typed (Code function s leaves) used shapes vs to c is h u are k at = go (same_signature s used) refl
    where
      go : (b : Bool) → same_signature s used ≡ b → IsTypedNext c.memory (if b then entered (begun function leaves vs to) c else fails AnotherFunctionType)
      go false e = tt
      go true e =
          let same : s ≡ used = signature_exact s used e in
          let fixed : used.variadic ≡ false = ap (λ (x : Signature). x.variadic) (sym same) ∙ is.0 in
          let shapes_are : shapes ≡ s.parameters = are.1 ∙ ap (λ (xs : List Shape). used.parameters ++ xs) (are.2 fixed) ∙ append-nil used.parameters ∙ ap (λ (x : Signature). x.parameters) (sym same) in
          let given : t.gives function ≡ kinds_of used.returns = is.2 ∙ ap (λ (x : Signature). kinds_of x.returns) same in
          entered_typed (begun function leaves vs to) c h
          (begun_typed (length c.memory.list) function leaves s vs to is (subst (λ ss. AllZip (IsOf (length c.memory.list)) (kinds_of_all ss) vs) shapes_are k))
          (subst (λ ks. AreTaken t look table to ks c.frames) (sym given) at)
  called_typed (Host row signatures) used shapes vs to c is h u are k at = go (list_any (same_signature used) signatures) refl
    where
      go : (b : Bool) → list_any (same_signature used) signatures ≡ b → IsTypedNext c.memory (if b then answered to c (host row shapes vs c.memory) else fails AnotherFunctionType)
      go false e = tt
      go true e =
          answered_typed c to (kinds_of used.returns) (host row shapes vs c.memory) h (⊎_elim (λ y. y) (λ n. absurd n) u) at
          (host_typed c.memory h.memory row is.1 used shapes vs (subst (λ ss. list_any (same_signature used) ss ≡ true) is.0 e) are k)
  called_typed Nothing used shapes vs to c is h u are k at = tt

  -- a call of a pointer
  pub called_at_typed : (callees : (address : ℕ) → IsTypedCallee t look table (table address)) (callee : Scalar) (used : Signature) (shapes : List Shape) (vs : List Scalar) (to : ℕ) (c : Core)
      → AreParts c → HasWork look table c.frames c.due → AreArguments used shapes → AllZip (IsOf (length c.memory.list)) (kinds_of_all shapes) vs
      → AreTaken t look table to (kinds_of used.returns) c.frames → IsTypedNext c.memory (called_at table callee used shapes vs to c)
  called_at_typed callees (scalar.Ptr p) used shapes vs to c h u are k at = called_typed (table p.address) used shapes vs to c (callees p.address) h (inl u) are k at
  called_at_typed callees (scalar.Int n) used shapes vs to c h u are k at = tt
  called_at_typed callees scalar.Poison used shapes vs to c h u are k at = tt

  -- returns
  exited_typed : (m : Blocks) (vs : List Scalar) → IsTypedNext m (exited vs)
  exited_typed m [] = tt
  exited_typed m (scalar.Int n ∷ []) = tt
  exited_typed m (scalar.Int n ∷ v ∷ vs) = tt
  exited_typed m (scalar.Ptr p ∷ vs) = tt
  exited_typed m (scalar.Poison ∷ vs) = tt

  handed_back_typed : (m : Blocks) (ks : List Leaf) (vs : List Scalar) (to : ℕ) (fs : List Frame) (ds : List Due) (n : Blocks) → AreParts (record { frames = fs; due = ds; memory = n })
      → AreTaken t look table to ks fs → AllZip (IsOf (length n.list)) ks vs → IsLater m n → IsTypedNext m (handed_back vs to fs ds n)
  handed_back_typed m ks vs to [] [] n h at k l = exited_typed m vs
  handed_back_typed m ks vs to [] (d ∷ ds) n h at k l = (whole (record { frames = []; due = d ∷ ds; memory = n }) h tt, l, no_bytes)
  handed_back_typed m ks vs to (f ∷ fs) ds n h at k l =
      (whole (record { frames = handed to vs (f ∷ fs); due = ds; memory = n }) (parts_handed (record { frames = f ∷ fs; due = ds; memory = n }) to ks vs h at k) tt, l, no_bytes)

  pub returned_typed : (f : Frame) (vs : List Scalar) (c : Core) → AllZip (IsOf (length c.memory.list)) (t.gives f.function) vs → AreTaken t look table f.to (t.gives f.function) c.frames → AreParts c → IsTypedNext c.memory (returned vs f c)
  returned_typed f vs c k at h =
      let m = released f.allocas c.memory in
      let d : IsKeptTyped c.memory m = released_typed f.allocas c.memory h.memory in
      handed_back_typed c.memory (t.gives f.function) vs f.to c.frames c.due m (parts_in c m h d.0 (omega (arith, d.1.0))) at
      (leaves_more (length c.memory.list) (length m.list) (t.gives f.function) vs (omega (arith, d.1.0)) k) (later_of c.memory m d.1)
