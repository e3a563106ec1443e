-- A run of connected actions always finds an instruction, whatever its values are.
use Rattle.std.proofs.Common.{◌≡◌, ℕ, zero, suc, ◌+◌, ◌-◌, ◌^◌, List, [], ◌∷◌, ◌++◌, map, refl, sym, subst, Bool, true, false, Result, Ok, Err, nat_eq, nat_le, ◌⊎◌, inl, inr}
use Rattle.std.specs.Prelude.{⊤, if◌then◌else◌}
use Rattle.std.specs.List.{All, list_any}
use Rattle.std.proofs.lemmas.List.Elements.{All-head, All-tail}
use Rattle.ir_tables.specs.declared.undefined_kind.UndefinedKind.{UndefinedKind}
use Rattle.ir_tables.specs.declared.undefined_kind.UndefinedKind.TheVariants.{AnotherFunctionType}
use Rattle.ir_tables.specs.declared.intrinsic.Intrinsic.{Intrinsic}
use Rattle.ir_tables.specs.declared.intrinsic.Intrinsic.TheVariants as integer
use Rattle.ir_eval.specs.declared.value.Scalar.{Scalar}
use Rattle.ir_eval.specs.declared.value.Scalar.TheVariants as scalar
use Rattle.ir_eval.specs.Operators.{binary_of}
use Rattle.ir_memory.specs.Memory.{Blocks}
use Rattle.type_table.specs.Shape.{Shape}
use Rattle.module_arena.specs.declared.host.HostRow.{HostRow}
use Rattle.module_arena.specs.declared.host.HostRow.TheVariants.{Integer}
use Rattle.module_arena.specs.HostRows.{host_types}
use Rattle.run_rules.specs.Access.{has_room, loaded_value, stored_value, released}
use Rattle.run_rules.specs.Act.{act, computed, loads, stores, allocates, allocates_many, added_alloca, branches, switches, case_of}
use Rattle.run_rules.specs.Action.{Edge, Signature, Action, Compute, Compare, Convert, Select, Freeze, Gather, Load, Store, Allocate, Displace, Call, Return, Jump, Branch, Switch, Unreachable, Stuck}
use Rattle.run_rules.specs.Calls.{Callee, Code, Host, Nothing, same_signature, begun, entered, handed, answered, called, called_at, exited, handed_back}
use Rattle.run_rules.specs.Due.{called_due, constructor_type, plain_main, main_with_arguments}
use Rattle.run_rules.specs.Frame.{read, read_all, moved_on}
use Rattle.run_rules.specs.Answer.{Answer, Gives, Reads, Halts}
use Rattle.run_rules.specs.Host.{host}
use Rattle.run_rules.specs.Look.{no_names}
use Rattle.run_rules.specs.NeverStuck.{is_stuck_in}
use Rattle.run_rules.specs.Resolve.{signature_in}
use Rattle.run_rules.specs.declared.end.End.TheVariants as ends
use Rattle.run_rules.specs.State.{Frame, Due, Constructor, Main, MainWith, Core, State, Next, Goes, Gets, Stops, weights, weight, weight_limit, on_top, fails}
use Rattle.run_rules.specs.Step as steps
use Rattle.run_rules.specs.Step.{Step, GoesOn, IsOver, carried, took, got, then_on, called_while_idle, counted, instruction, next_of, step, advanced}
use Rattle.run_rules.specs.Places.Places.{IsAt, LeadsOn, GoesOnFrom, BeginsWell, AreAtPlaces, IsFunctionOf, IsTrueMain, IsBefore, EndsInMain, HasWork, IsFine}
use Rattle.run_rules.proofs.OnPlaces.Connected.{IsConnected, HasFrame, IsFineNext}

module _ (look : ℕ → ℕ → ℕ → Action) (table : ℕ → Callee) (program : IsConnected look table) where
  -- ---- calls and returns

  handed_places : (to : ℕ) (vs : List Scalar) (fs : List Frame) → AreAtPlaces look table fs → AreAtPlaces look table (handed to vs fs)
  handed_places to vs [] h = tt
  handed_places to vs (f ∷ fs) h = h

  handed_work : (to : ℕ) (vs : List Scalar) (fs : List Frame) (ds : List Due) → HasWork look table fs ds → HasWork look table (handed to vs fs) ds
  handed_work to vs [] ds h = h
  handed_work to vs (f ∷ fs) ds h = tt

  answered_fine : (to : ℕ) (c : Core) (a : Answer) → IsFine look table c → IsFineNext look table (answered to c a)
  answered_fine to c (Gives vs m output) h = record { frames = handed_places to vs c.frames h.frames; due = h.due; work = handed_work to vs c.frames c.due h.work }
  answered_fine to c Reads h = h
  answered_fine to c (Halts e) h = tt

  called_fine : (callee : Callee) (used : Signature) (shapes : List Shape) (vs : List Scalar) (to : ℕ) (c : Core) → BeginsWell look table callee → IsFine look table c → IsFineNext look table (called callee used shapes vs to c)
  called_fine (Code function s leaves) used shapes vs to c is h = go (same_signature s used)
    where
      room : (b : Bool) → IsFineNext look table (if b then Goes (on_top (begun function leaves vs to) c) [] else Stops ends.StackLimit)
      room true = record { frames = (is, h.frames); due = h.due; work = tt }
      room false = tt

      go : (b : Bool) → IsFineNext look table (if b then entered (begun function leaves vs to) c else fails AnotherFunctionType)
      go true = room (nat_le (weights c.frames + weight (begun function leaves vs to)) weight_limit)
      go false = tt
  called_fine (Host row signatures) used shapes vs to c is h = go (list_any (same_signature used) signatures)
    where
      go : (b : Bool) → IsFineNext look table (if b then answered to c (host row shapes vs c.memory) else fails AnotherFunctionType)
      go true = answered_fine to c (host row shapes vs c.memory) h
      go false = tt
  called_fine Nothing used shapes vs to c is h = tt

  called_at_fine : (callee : Scalar) (used : Signature) (shapes : List Shape) (vs : List Scalar) (to : ℕ) (c : Core) → IsFine look table c → IsFineNext look table (called_at table callee used shapes vs to c)
  called_at_fine (scalar.Ptr p) used shapes vs to c h = called_fine (table p.address) used shapes vs to c (program.callees p.address) h
  called_at_fine (scalar.Int n) used shapes vs to c h = tt
  called_at_fine scalar.Poison used shapes vs to c h = tt

  exited_fine : (vs : List Scalar) → IsFineNext look table (exited vs)
  exited_fine [] = tt
  exited_fine (scalar.Int n ∷ []) = tt
  exited_fine (scalar.Int n ∷ v ∷ vs) = tt
  exited_fine (scalar.Ptr p ∷ vs) = tt
  exited_fine (scalar.Poison ∷ vs) = tt

  handed_back_fine : (vs : List Scalar) (to : ℕ) (fs : List Frame) (ds : List Due) (m : Blocks) → AreAtPlaces look table fs → EndsInMain look table ds → IsFineNext look table (handed_back vs to fs ds m)
  handed_back_fine vs to [] [] m h k = exited_fine vs
  handed_back_fine vs to [] (d ∷ ds) m h k = record { frames = tt; due = k; work = tt }
  handed_back_fine vs to (f ∷ fs) ds m h k = record { frames = h; due = k; work = tt }

  -- ---- actions

  module _ (f : Frame) (c : Core) (h : IsFine look table (on_top f c)) where
    -- the frame is at another place, with whatever values
    abbrev IsNextPlace : Type 0
    IsNextPlace = IsAt look table f.function f.block (f.position + 1)

    computed_fine : (to : ℕ) (r : Result Scalar UndefinedKind) → IsNextPlace → IsFineNext look table (computed to r f c)
    computed_fine to (Ok v) is = record { frames = (is, h.frames.1); due = h.due; work = tt }
    computed_fine to (Err e) is = tt

    loads_fine : (to : ℕ) (r : Result (List Scalar) UndefinedKind) → IsNextPlace → IsFineNext look table (loads to r f c)
    loads_fine to (Ok v) is = record { frames = (is, h.frames.1); due = h.due; work = tt }
    loads_fine to (Err e) is = tt

    stores_fine : (r : Result Blocks UndefinedKind) → IsNextPlace → IsFineNext look table (stores r f c)
    stores_fine (Ok m) is = record { frames = (is, h.frames.1); due = h.due; work = tt }
    stores_fine (Err e) is = tt

    allocates_fine : (to size align : ℕ) → IsNextPlace → IsFineNext look table (allocates to size align f c)
    allocates_fine to size align is = go (has_room size c.memory)
      where
        go : (b : Bool) → IsFineNext look table (if b then added_alloca to size align f c else Stops ends.MemoryLimit)
        go true = record { frames = (is, h.frames.1); due = h.due; work = tt }
        go false = tt

    many_fine : (to size align : ℕ) (v : Scalar) → IsNextPlace → IsFineNext look table (allocates_many to size align v f c)
    many_fine to size align (scalar.Int n) is = allocates_fine to _ align is
    many_fine to size align (scalar.Ptr p) is = tt
    many_fine to size align scalar.Poison is = tt

    branches_fine : (v : Scalar) (e g : Edge) → LeadsOn (look f.function) e → LeadsOn (look f.function) g → IsFineNext look table (branches v e g f c)
    branches_fine (scalar.Int zero) e g is other = record { frames = (other, h.frames.1); due = h.due; work = tt }
    branches_fine (scalar.Int (suc n)) e g is other = record { frames = (is, h.frames.1); due = h.due; work = tt }
    branches_fine (scalar.Ptr p) e g is other = tt
    branches_fine scalar.Poison e g is other = tt

    case_leads : (n : ℕ) (otherwise : Edge) (xs : List (ℕ × Edge)) → LeadsOn (look f.function) otherwise → All (λ x. LeadsOn (look f.function) x.1) xs → LeadsOn (look f.function) (case_of n otherwise xs)
    case_leads n otherwise [] is all = is
    case_leads n otherwise (x ∷ xs) is all = go (nat_eq x.0 n) (case_leads n otherwise xs is (All-tail (λ x. LeadsOn (look f.function) x.1) x xs all))
      where
        go : (b : Bool) → LeadsOn (look f.function) (case_of n otherwise xs) → LeadsOn (look f.function) (if b then x.1 else case_of n otherwise xs)
        go true k = All-head (λ x. LeadsOn (look f.function) x.1) x xs all
        go false k = k

    switches_fine : (v : Scalar) (otherwise : Edge) (xs : List (ℕ × Edge)) → LeadsOn (look f.function) otherwise → All (λ x. LeadsOn (look f.function) x.1) xs → IsFineNext look table (switches v otherwise xs f c)
    switches_fine (scalar.Int n) otherwise xs is all = record { frames = (case_leads n otherwise xs is all, h.frames.1); due = h.due; work = tt }
    switches_fine (scalar.Ptr p) otherwise xs is all = tt
    switches_fine scalar.Poison otherwise xs is all = tt

    act_fine : (a : Action) → GoesOnFrom (look f.function) f.block f.position a → IsFineNext look table (act table a f c)
    act_fine (Compute to opcode flags width left right) is = computed_fine to (binary_of opcode flags width (read f left) (read f right)) is
    act_fine (Compare to predicate samesign width left right) is = record { frames = (is, h.frames.1); due = h.due; work = tt }
    act_fine (Convert to opcode flags from_width to_width value) is = record { frames = (is, h.frames.1); due = h.due; work = tt }
    act_fine (Select to condition arms) is = record { frames = (is, h.frames.1); due = h.due; work = tt }
    act_fine (Freeze to value) is = record { frames = (is, h.frames.1); due = h.due; work = tt }
    act_fine (Gather to value) is = record { frames = (is, h.frames.1); due = h.due; work = tt }
    act_fine (Load to align address slots) is = loads_fine to (loaded_value c.memory (read f address) align slots) is
    act_fine (Store align address value) is = stores_fine (stored_value (read f address) align (map (λ x. (x.0, read f x.1)) value) c.memory) is
    act_fine (Allocate to size align count) is = many_fine to size align (read f count) is
    act_fine (Displace to inbounds base distance) is = record { frames = (is, h.frames.1); due = h.due; work = tt }
    act_fine (Call to signature callee shapes arguments) is =
        called_at_fine (read f callee) signature shapes (read_all f arguments) to (on_top (moved_on f) c) (record { frames = (is, h.frames.1); due = h.due; work = tt })
    act_fine (Return value) is = handed_back_fine (read_all f value) f.to c.frames c.due (released f.allocas c.memory) h.frames.1 h.due
    act_fine (Jump edge) is = record { frames = (is, h.frames.1); due = h.due; work = tt }
    act_fine (Branch condition then_edge else_edge) is = branches_fine (read f condition) then_edge else_edge is.0 is.1
    act_fine (Switch value otherwise cases) is = switches_fine (read f value) otherwise cases is.0 is.1
    act_fine Unreachable is = tt
    act_fine Stuck is = absurd is

  -- ---- what is due

  -- a function is entered, or the run is over
  abbrev IsIn : List Due → Next → Type 0
  IsIn ds (Goes c written) = AreAtPlaces look table c.frames × HasFrame look table c.frames × (c.due ≡ ds)
  IsIn ds (Gets to c) = ⊥
  IsIn ds (Stops end) = ⊤

  code_in : (function leaves to : ℕ) (s used : Signature) (shapes : List Shape) (vs : List Scalar) (c : Core) → IsAt look table function 0 0 → AreAtPlaces look table c.frames → IsIn c.due (called (Code function s leaves) used shapes vs to c)
  code_in function leaves to s used shapes vs c is h = go (same_signature s used)
    where
      room : (b : Bool) → IsIn c.due (if b then Goes (on_top (begun function leaves vs to) c) [] else Stops ends.StackLimit)
      room true = ((is, h), tt, refl)
      room false = tt

      go : (b : Bool) → IsIn c.due (if b then entered (begun function leaves vs to) c else fails AnotherFunctionType)
      go true = room (nat_le (weights c.frames + weight (begun function leaves vs to)) weight_limit)
      go false = tt

  integer_in : (which : Intrinsic) (width : ℕ) (c : Core) → IsIn c.due (called (Host (Integer which width) (map (signature_in no_names) (host_types (Integer which width)))) constructor_type [] [] 0 c)
  integer_in integer.SaddWithOverflow width c = tt
  integer_in integer.UaddWithOverflow width c = tt
  integer_in integer.SsubWithOverflow width c = tt
  integer_in integer.UsubWithOverflow width c = tt
  integer_in integer.SmulWithOverflow width c = tt
  integer_in integer.UmulWithOverflow width c = tt
  integer_in _ width c = tt

  host_in : (row : HostRow) (c : Core) → IsIn c.due (called (Host row (map (signature_in no_names) (host_types row))) constructor_type [] [] 0 c)
  host_in (Integer which width) c = integer_in which width c
  host_in _ c = tt

  constructor_in : (callee : Callee) (c : Core) → BeginsWell look table callee → AreAtPlaces look table c.frames → IsIn c.due (called callee constructor_type [] [] 0 c)
  constructor_in (Code function s leaves) c is h = code_in function leaves 0 s constructor_type [] [] c is h
  constructor_in (Host row signatures) c is h = subst (λ ss. IsIn c.due (called (Host row ss) constructor_type [] [] 0 c)) (sym is) (host_in row c)
  constructor_in Nothing c is h = tt

  main_in : (callee : Callee) (used : Signature) (shapes : List Shape) (vs : List Scalar) (c : Core) → BeginsWell look table callee → IsFunctionOf look table used callee → AreAtPlaces look table c.frames → IsIn c.due (called callee used shapes vs 0 c)
  main_in (Code function s leaves) used shapes vs c is has h = code_in function leaves 0 s used shapes vs c is h
  main_in (Host row signatures) used shapes vs c is has h = absurd has
  main_in Nothing used shapes vs c is has h = absurd has

  due_in : (d : Due) (c : Core) → IsBefore look table d ⊎ IsTrueMain look table d → AreAtPlaces look table c.frames → IsIn c.due (called_due table d c)
  due_in (Constructor a) c is h = constructor_in (table a) c (program.callees a) h
  due_in (Main a) c (inl is) h = absurd is
  due_in (Main a) c (inr is) h = main_in (table a) plain_main [] [] c (program.callees a) is h
  due_in (MainWith a n p) c (inl is) h = absurd is
  due_in (MainWith a n p) c (inr is) h =
      main_in (table a) main_with_arguments main_with_arguments.parameters (scalar.Int n ∷ scalar.Ptr p ∷ []) c (program.callees a) is h

  first_of_due : (d : Due) (ds : List Due) → EndsInMain look table (d ∷ ds) → (IsBefore look table d ⊎ IsTrueMain look table d) × EndsInMain look table ds
  first_of_due d [] h = (inr h, tt)
  first_of_due d (e ∷ ds) h = (inl h.0, h.1)

  -- a fine state with a function under way
  abbrev IsReady : Step → Type 0
  IsReady (GoesOn s) = IsFine look table s.core × HasFrame look table s.core.frames
  IsReady (IsOver end s) = ⊤

  not_idle : (ds : List Due) (fs : List Frame) (s : State) → HasFrame look table fs → called_while_idle table ds fs s ≡ GoesOn s
  not_idle [] fs s h = refl
  not_idle (d ∷ ds) [] s h = absurd h
  not_idle (d ∷ ds) (f ∷ fs) s h = refl

  has_work : (fs : List Frame) (ds : List Due) → HasFrame look table fs → HasWork look table fs ds
  has_work [] ds h = absurd h
  has_work (f ∷ fs) ds h = tt

  goes_ready : (ds : List Due) (s : State) (n : Next) → EndsInMain look table ds → IsIn ds n → IsReady (then_on (λ u. called_while_idle table ds u.core.frames u) (carried s n))
  goes_ready ds s (Goes c written) h is =
      subst IsReady (sym (not_idle ds c.frames (record s { core = c; output = s.output ++ written }) is.1))
      (record { frames = is.0; due = subst (EndsInMain look table) (sym is.2) h; work = has_work c.frames c.due is.1 }, is.1)
  goes_ready ds s (Gets to c) h is = absurd is
  goes_ready ds s (Stops end) h is = tt

  idle_ready : (ds : List Due) (fs : List Frame) (s : State) → s.core.frames ≡ fs → s.core.due ≡ ds → IsFine look table s.core → IsReady (called_while_idle table ds fs s)
  idle_ready [] [] s e g h = absurd (subst (λ ds. HasWork look table [] ds) g (subst (λ fs. HasWork look table fs s.core.due) e h.work))
  idle_ready [] (f ∷ fs) s e g h = (h, subst (HasFrame look table) (sym e) tt)
  idle_ready (d ∷ ds) (f ∷ fs) s e g h = (h, subst (HasFrame look table) (sym e) tt)
  idle_ready (d ∷ ds) [] s e g h =
      let due = first_of_due d ds (subst (EndsInMain look table) g h.due) in
      goes_ready ds s (called_due table d (record s.core { due = ds })) due.1 (due_in d (record s.core { due = ds }) due.0 h.frames)

  entered_ready : (s : State) → IsFine look table s.core → IsReady (steps.entered table s)
  entered_ready s h = idle_ready s.core.due s.core.frames s refl refl h

  -- ---- steps

  abbrev IsFineStep : Step → Type 0
  IsFineStep (GoesOn s) = IsFine look table s.core
  IsFineStep (IsOver end s) = ⊤

  instruction_fine : (fs : List Frame) (ds : List Due) (m : Blocks) → IsFine look table (record { frames = fs; due = ds; memory = m }) → HasFrame look table fs → IsFineNext look table (instruction look table fs ds m)
  instruction_fine [] ds m h has = absurd has
  instruction_fine (f ∷ fs) ds m h has =
      act_fine f (record { frames = fs; due = ds; memory = m }) h (look f.function f.block f.position) (program.actions f.function f.block f.position h.frames.0)

  got_fine : (to n : ℕ) (c : Core) → IsFine look table c → IsFine look table (got to n c)
  got_fine to n c h =
      record { frames = handed_places to (scalar.Int n ∷ []) c.frames h.frames; due = h.due; work = handed_work to (scalar.Int n ∷ []) c.frames c.due h.work }

  took_fine : (s : State) (to : ℕ) (c : Core) (input : List ℕ) → IsFine look table c → IsFineStep (took s to c input)
  took_fine s to c [] h = got_fine to (2 ^ 32 - 1) c h
  took_fine s to c (b ∷ input) h = got_fine to b c h

  carried_fine : (s : State) (n : Next) → IsFineNext look table n → IsFineStep (carried s n)
  carried_fine s (Goes c written) is = is
  carried_fine s (Gets to c) is = took_fine s to c s.input is
  carried_fine s (Stops end) is = tt

  step_fine : (s : State) → IsFine look table s.core → IsFineStep (step look table s)
  step_fine s h = go (steps.entered table s) (entered_ready s h)
    where
      go : (x : Step) → IsReady x → IsFineStep (then_on (λ u. carried (counted u) (next_of look table u.core)) x)
      go (GoesOn u) r = carried_fine (counted u) (next_of look table u.core) (instruction_fine u.core.frames u.core.due u.core.memory r.0 r.1)
      go (IsOver end u) r = tt

  advanced_fine : (n : ℕ) (s : State) → IsFine look table s.core → IsFineStep (advanced look table n s)
  unfolding advanced
  advanced_fine zero s h = h
  advanced_fine (suc n) s h = go (step look table s) (step_fine s h) (λ u k. advanced_fine n u k)
    where
      go : (x : Step) → IsFineStep x → ((u : State) → IsFine look table u.core → IsFineStep (advanced look table n u)) → IsFineStep (then_on (advanced look table n) x)
      go (GoesOn u) k more = more u k
      go (IsOver end u) k more = tt

  -- wherever a run comes, once what is due is entered, there is an instruction
  pub finds_a_place : (n : ℕ) (s u v : State) → IsFine look table s.core → advanced look table n s ≡ GoesOn u → steps.entered table u ≡ GoesOn v → is_stuck_in look v.core.frames ≡ false
  finds_a_place n s u v h e g =
      let at_u : IsFine look table u.core = subst IsFineStep e (advanced_fine n s h) in
      let at_v : IsReady (GoesOn v) = subst IsReady g (entered_ready u at_u) in
      not_stuck v.core.frames at_v.0.frames at_v.1
    where
      not_stuck : (fs : List Frame) → AreAtPlaces look table fs → HasFrame look table fs → is_stuck_in look fs ≡ false
      not_stuck [] k has = absurd has
      not_stuck (f ∷ fs) k has = k.0
