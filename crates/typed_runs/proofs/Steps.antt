-- A run of a typed program stays typed, and always finds an instruction.
use Rattle.std.proofs.Common.{◌≡◌, ℕ, zero, suc, ◌+◌, ◌-◌, ◌*◌, ◌^◌, ◌<◌, ◌≤◌, List, [], ◌∷◌, ◌++◌, length, refl, sym, subst, arith, map, Bool, true, false, nat_le, lit<, ◌⊎◌, inl, inr}
use Rattle.std.specs.Prelude.{⊤, if◌then◌else◌}
use Rattle.std.specs.List.{AllZip}
use Rattle.std.proofs.lemmas.Bool.{leb-true}
use Rattle.std.proofs.lemmas.List.{append-nil}
use Rattle.std.proofs.lemmas.List.Elements.{All-append, All-head, All-tail}
use Rattle.ir_tables.specs.declared.intrinsic.Intrinsic.{Intrinsic}
use Rattle.ir_tables.specs.declared.intrinsic.Intrinsic.TheVariants as integer
use Rattle.ir_tables.specs.declared.undefined_kind.UndefinedKind.TheVariants.{AnotherFunctionType}
use Rattle.ir_eval.specs.declared.value.Scalar.{Scalar}
use Rattle.ir_eval.specs.declared.value.Scalar.TheVariants as scalar
use Rattle.ir_memory.specs.declared.leaf.Leaf.TheVariants as leaf
use Rattle.ir_memory.specs.Memory.{Blocks, reach}
use Rattle.module_arena.specs.declared.host.HostRow.{HostRow}
use Rattle.module_arena.specs.declared.host.HostRow.TheVariants.{Integer}
use Rattle.module_arena.specs.HostRows.{host_types}
use Rattle.run_rules.specs.declared.end.End.TheVariants as ends
use Rattle.run_rules.specs.Action.{Signature, Action}
use Rattle.run_rules.specs.Calls.{Callee, Code, Host, Nothing, same_signature, begun, entered, handed, called}
use Rattle.run_rules.specs.Due.{called_due, constructor_type, plain_main, main_with_arguments}
use Rattle.run_rules.specs.Look.{no_names}
use Rattle.run_rules.specs.NeverStuck.{is_stuck_in}
use Rattle.run_rules.specs.Resolve.{signature_in}
use Rattle.run_rules.specs.State.{Frame, Due, Constructor, Main, MainWith, Core, State, Next, Goes, Gets, Stops, weights, weight, weight_limit, on_top, fails}
use Rattle.run_rules.specs.Step as steps
use Rattle.run_rules.specs.Step.{Step, GoesOn, IsOver, carried, took, got, then_on, called_while_idle, counted, instruction, next_of, step, advanced}
use Rattle.typed_runs.specs.Actions.{Typing}
use Rattle.typed_runs.specs.Kinds.{IsOf, kinds_of_all}
use Rattle.typed_runs.specs.States.{IsTypedProgram, IsTypedCallee, AreTaken, AreTypedFrames, AreTypedDue, IsTypedDue, IsTypedCore, IsTypedState, IsTypedStep}
use Rattle.run_rules.specs.Places.Places.{IsTrueMain, IsFunctionOf, IsBefore, HasWork}
use Rattle.run_rules.proofs.OnPlaces.Connected.{HasFrame}
use Rattle.typed_runs.proofs.Access.{AreBytes}
use Rattle.typed_runs.proofs.Acts.{act_typed}
use Rattle.typed_runs.proofs.Calls.{AreParts, parts_of, whole, parts_handed, begun_typed, IsTypedNext}
use Rattle.typed_runs.proofs.Hosts.{signature_exact}

module _ (t : Typing) (look : ℕ → ℕ → ℕ → Action) (table : ℕ → Callee) (program : IsTypedProgram t look table) where
  -- ---- what is due

  -- a function is entered, memory stays, and nothing is written; or the run is over
  abbrev IsEntered : Blocks → Next → Type 0
  IsEntered m (Goes c written) = IsTypedCore t look table c × HasFrame look table c.frames × (c.memory.next ≡ m.next) × (written ≡ [])
  IsEntered m (Gets to c) = ⊥
  IsEntered m (Stops end) = ⊤

  code_entered : (function leaves to : ℕ) (s used : Signature) (vs : List Scalar) (c : Core) → IsTypedCallee t look table (Code function s leaves) → AreParts t look table c → c.frames ≡ []
      → AllZip (IsOf (length c.memory.list)) (kinds_of_all used.parameters) vs → IsEntered c.memory (called (Code function s leaves) used used.parameters vs to c)
  code_entered function leaves to s used vs c is h none k = same (same_signature s used) refl
    where
      f : Frame
      f = begun function leaves vs to

      room : s ≡ used → (b : Bool) → nat_le (weights c.frames + weight f) weight_limit ≡ b → IsEntered c.memory (if b then Goes (on_top f c) [] else Stops ends.StackLimit)
      room e false l = tt
      room e true l =
          let fits : weights c.frames + weight f ≤ weight_limit = leb-true (weights c.frames + weight f) weight_limit l in
          let typed = begun_typed t look table (length c.memory.list) function leaves s vs to is (subst (λ (x : Signature). AllZip (IsOf (length c.memory.list)) (kinds_of_all x.parameters) vs) (sym e) k) in (
            record {
              frames = (typed, subst (λ fs. AreTaken t look table to (t.gives function) fs) (sym none) tt, h.frames);
              weight = omega (arith, fits);
              due = h.due;
              under_way = tt;
              memory = h.memory;
              fixed = h.fixed;
            },
            tt,
            refl,
            refl,
          )

      same : (b : Bool) → same_signature s used ≡ b → IsEntered c.memory (if b then entered f c else fails AnotherFunctionType)
      same false e = tt
      same true e = room (signature_exact s used e) (nat_le (weights c.frames + weight f) weight_limit) refl

  -- of the host functions only abort has the type of a constructor
  integer_due : (which : Intrinsic) (width : ℕ) (c : Core) → IsEntered c.memory (called (Host (Integer which width) (map (signature_in no_names) (host_types (Integer which width)))) constructor_type [] [] 0 c)
  integer_due integer.SaddWithOverflow width c = tt
  integer_due integer.UaddWithOverflow width c = tt
  integer_due integer.SsubWithOverflow width c = tt
  integer_due integer.UsubWithOverflow width c = tt
  integer_due integer.SmulWithOverflow width c = tt
  integer_due integer.UmulWithOverflow width c = tt
  integer_due _ width c = tt

  host_due : (row : HostRow) (c : Core) → IsEntered c.memory (called (Host row (map (signature_in no_names) (host_types row))) constructor_type [] [] 0 c)
  host_due (Integer which width) c = integer_due which width c
  host_due _ c = tt

  constructor_entered : (callee : Callee) (c : Core) → IsTypedCallee t look table callee → AreParts t look table c → c.frames ≡ [] → IsEntered c.memory (called callee constructor_type [] [] 0 c)
  constructor_entered (Code function s leaves) c is h none = code_entered function leaves 0 s constructor_type [] c is h none tt
  constructor_entered (Host row signatures) c is h none = subst (λ ss. IsEntered c.memory (called (Host row ss) constructor_type [] [] 0 c)) (sym is.0) (host_due row c)
  constructor_entered Nothing c is h none = tt

  main_entered : (callee : Callee) (used : Signature) (vs : List Scalar) (c : Core) → IsTypedCallee t look table callee → IsFunctionOf look table used callee → AreParts t look table c → c.frames ≡ []
      → AllZip (IsOf (length c.memory.list)) (kinds_of_all used.parameters) vs → IsEntered c.memory (called callee used used.parameters vs 0 c)
  main_entered (Code function s leaves) used vs c is has h none k = code_entered function leaves 0 s used vs c is h none k
  main_entered (Host row signatures) used vs c is has h none k = absurd has
  main_entered Nothing used vs c is has h none k = absurd has

  due_entered : (d : Due) (c : Core) → IsBefore look table d ⊎ (IsTypedDue t look table (length c.memory.list) d × IsTrueMain look table d) → AreParts t look table c → c.frames ≡ [] → IsEntered c.memory (called_due table d c)
  due_entered (Constructor a) c is h none = constructor_entered (table a) c (program.callees a) h none
  due_entered (Main a) c (inl is) h none = absurd is
  due_entered (Main a) c (inr is) h none = main_entered (table a) plain_main [] c (program.callees a) is.1 h none tt
  due_entered (MainWith a n p) c (inl is) h none = absurd is
  due_entered (MainWith a n p) c (inr is) h none =
      main_entered (table a) main_with_arguments (scalar.Int n ∷ scalar.Ptr p ∷ []) c (program.callees a) is.1 h none (is.0.0, (is.0.1, tt))

  first_due : (count : ℕ) (d : Due) (ds : List Due) → AreTypedDue t look table count (d ∷ ds) → (IsBefore look table d ⊎ (IsTypedDue t look table count d × IsTrueMain look table d)) × AreTypedDue t look table count ds
  first_due count d [] h = (inr h, tt)
  first_due count d (e ∷ ds) h = (inl h.0, h.1)

  -- a typed state with a function under way
  abbrev IsReady : Step → Type 0
  IsReady (GoesOn s) = IsTypedState t look table s × HasFrame look table s.core.frames
  IsReady (IsOver end s) = ⊤

  not_idle : (ds : List Due) (fs : List Frame) (s : State) → HasFrame look table fs → called_while_idle table ds fs s ≡ GoesOn s
  not_idle [] fs s h = refl
  not_idle (d ∷ ds) [] s h = absurd h
  not_idle (d ∷ ds) (f ∷ fs) s h = refl

  goes_ready : (ds : List Due) (s : State) (n : Next) → IsTypedState t look table s → IsEntered s.core.memory n → IsReady (then_on (λ u. called_while_idle table ds u.core.frames u) (carried s n))
  goes_ready ds s (Goes c written) h is =
      let u : State = record s { core = c; output = s.output ++ written } in
      subst IsReady (sym (not_idle ds c.frames u is.1)) (
        record {
          core = is.0;
          input = h.input;
          output = subst (λ ws. AreBytes (s.output ++ ws)) (sym is.3) (subst AreBytes (sym (append-nil s.output)) h.output);
          next = omega (arith, is.2, h.next);
        },
        is.1,
      )
  goes_ready ds s (Gets to c) h is = absurd is
  goes_ready ds s (Stops end) h is = tt

  idle_ready : (ds : List Due) (fs : List Frame) (s : State) → s.core.frames ≡ fs → s.core.due ≡ ds → IsTypedState t look table s → IsReady (called_while_idle table ds fs s)
  idle_ready [] [] s e g h = absurd (subst (λ ds. HasWork look table [] ds) g (subst (λ fs. HasWork look table fs s.core.due) e h.core.under_way))
  idle_ready [] (f ∷ fs) s e g h = (h, subst (λ fs. HasFrame look table fs) (sym e) tt)
  idle_ready (d ∷ ds) (f ∷ fs) s e g h = (h, subst (λ fs. HasFrame look table fs) (sym e) tt)
  idle_ready (d ∷ ds) [] s e g h =
      let p = parts_of t look table s.core h.core in
      let due = first_due (length s.core.memory.list) d ds (subst (λ ds. AreTypedDue t look table (length s.core.memory.list) ds) g h.core.due) in
      goes_ready ds s (called_due table d (record s.core { due = ds })) h
      (due_entered d (record s.core { due = ds }) due.0 (record { frames = p.frames; weight = p.weight; due = due.1; memory = p.memory; fixed = p.fixed }) e)

  pub entered_ready : (s : State) → IsTypedState t look table s → IsReady (steps.entered table s)
  entered_ready s h = idle_ready s.core.due s.core.frames s refl refl h

  -- ---- steps

  instruction_typed : (fs : List Frame) (ds : List Due) (m : Blocks) → IsTypedCore t look table (record { frames = fs; due = ds; memory = m }) → HasFrame look table fs → IsTypedNext t look table m (instruction look table fs ds m)
  instruction_typed [] ds m h has = absurd has
  instruction_typed (f ∷ fs) ds m h has =
      act_typed t look table f (record { frames = fs; due = ds; memory = m }) h program.callees (look f.function f.block f.position)
      (program.actions f.function f.block f.position h.frames.0.place)

  got_typed : (c : Core) (to n : ℕ) → n < 2 ^ 32 → IsTypedCore t look table c → AreTaken t look table to (leaf.Int 32 ∷ []) c.frames → IsTypedCore t look table (got to n c)
  got_typed c to n lt h at =
      whole t look table (got to n c) (parts_handed t look table c to (leaf.Int 32 ∷ []) (scalar.Int n ∷ []) (parts_of t look table c h) at (lt, tt)) (stays c.frames h.under_way)
    where
      stays : (fs : List Frame) → HasWork look table fs c.due → HasWork look table (handed to (scalar.Int n ∷ []) fs) c.due
      stays [] u = u
      stays (f ∷ fs) u = tt

  took_typed : (s : State) (to : ℕ) (c : Core) (input : List ℕ) → AreBytes s.output → AreBytes input → IsTypedCore t look table c → AreTaken t look table to (leaf.Int 32 ∷ []) c.frames
      → c.memory.next ≤ 2 ^ 59 + s.steps * reach → s.input ≡ input → IsTypedStep t look table (took s to c input)
  took_typed s to c [] out is h at next e =
      record { core = got_typed c to (2 ^ 32 - 1) (lit< tt) h at; input = subst AreBytes (sym e) is; output = out; next = next }
  took_typed s to c (byte ∷ input) out is h at next e =
      let small : byte < 256 = All-head (λ b. b < 256) byte input is in
      let less : 256 < 2 ^ 32 = lit< tt in
      record { core = got_typed c to byte (omega (arith, small, less)) h at; input = All-tail (λ b. b < 256) byte input is; output = out; next = next }

  carried_typed : (s : State) (n : Next) → IsTypedState t look table s → IsTypedNext t look table s.core.memory n → IsTypedStep t look table (carried (counted s) n)
  carried_typed s (Goes c written) h is =
      record { core = is.0; input = h.input; output = All-append (λ b. b < 256) s.output written h.output is.2; next = omega (arith, h.next, is.1.next) }
  carried_typed s (Gets to c) h is = took_typed (counted s) to c s.input h.output h.input is.0 is.2 (omega (arith, h.next, is.1.next)) refl
  carried_typed s (Stops end) h is = tt

  pub step_typed : (s : State) → IsTypedState t look table s → IsTypedStep t look table (step look table s)
  step_typed s h = go (steps.entered table s) (entered_ready s h)
    where
      go : (x : Step) → IsReady x → IsTypedStep t look table (then_on (λ u. carried (counted u) (next_of look table u.core)) x)
      go (GoesOn u) r = carried_typed u (next_of look table u.core) r.0 (instruction_typed u.core.frames u.core.due u.core.memory r.0.core r.1)
      go (IsOver end u) r = tt

  pub advanced_typed : (n : ℕ) (s : State) → IsTypedState t look table s → IsTypedStep t look table (advanced look table n s)
  unfolding advanced
  advanced_typed zero s h = h
  advanced_typed (suc n) s h = go (step look table s) (step_typed s h) (λ u k. advanced_typed n u k)
    where
      go : (x : Step) → IsTypedStep t look table x → ((u : State) → IsTypedState t look table u → IsTypedStep t look table (advanced look table n u)) → IsTypedStep t look table (then_on (advanced look table n) x)
      go (GoesOn u) k more = more u k
      go (IsOver end u) k more = tt

  -- wherever a run comes, once what is due is entered, there is an instruction
  pub finds_instruction : (n : ℕ) (s u v : State) → IsTypedState t look table s → advanced look table n s ≡ GoesOn u → steps.entered table u ≡ GoesOn v → is_stuck_in look v.core.frames ≡ false
  finds_instruction n s u v h e g =
      let at_u : IsTypedState t look table u = subst (IsTypedStep t look table) e (advanced_typed n s h) in
      let at_v : IsReady (GoesOn v) = subst IsReady g (entered_ready u at_u) in
      not_stuck v.core.frames at_v.0.core.frames at_v.1
    where
      not_stuck : (fs : List Frame) → AreTypedFrames t look table (length v.core.memory.list) fs → HasFrame look table fs → is_stuck_in look fs ≡ false
      not_stuck [] k has = absurd has
      not_stuck (f ∷ fs) k has = k.0.place
