-- Where an instruction neither calls nor returns, the functions under way stay the same.
use Rattle.std.proofs.Common.{◌≡◌, ℕ, zero, suc, ◌*◌, Bool, true, false, All, List, [], ◌∷◌, map, Result, Ok, Err, refl, sym, ap, ◌∙◌, subst, Option, Some}
use Rattle.std.specs.declared.alloc.AllocError.{AllocError}
use Rattle.std.specs.Prelude.{⊤, IfOk, OnErr, OnOk, if◌then◌else◌}
use Rattle.std.proofs.lemmas.Bool.{false≢true}
use Rattle.std.proofs.lemmas.List.Elements.{All-map}
use Rattle.ir_eval.specs.declared.value.Scalar.{Scalar}
use Rattle.ir_eval.specs.declared.value.Scalar.TheVariants.{Int, Ptr, Poison}
use Rattle.ir_memory.specs.declared.fault.MemoryFault.{MemoryFault}
use Rattle.ir_memory.specs.declared.fault.MemoryFault.TheVariants as faults
use Rattle.ir_memory.specs.Memory.{Blocks}
use Rattle.ir_tables.specs.declared.undefined_kind.UndefinedKind.{UndefinedKind}
use Rattle.module_arena.specs.Lists.{Lists}
use Rattle.run_rules.specs.Access.{has_room}
use Rattle.run_rules.specs.Act.{act, added_alloca, allocates_many, branches, computed, loads, stores, switches}
use Rattle.run_rules.specs.Action as actions
use Rattle.run_rules.specs.Calls.{Callee, Nothing}
use Rattle.run_rules.specs.declared.end.End.TheVariants.{MemoryLimit}
use Rattle.run_rules.specs.State.{Frame, Core, Next, Goes, Gets, Stops}
use Rattle.run_actions.specs.Stack.UnderWay.{UnderWay, IsRunning, newest, older}
use Rattle.run_actions.specs.Carried.{acted, Acts, core_of, IsCarriedOut}
use Rattle.run_actions.specs.Accesses.Done.{Accesses, IsDone}
use Rattle.run_decode.specs.declared.flat.action.Action.{Action}
use Rattle.run_decode.specs.declared.flat.action.Action.TheVariants.{Compute, Compare, Convert, Select, Freeze, Gather, Load, Store, Allocate, Displace, Call, Return, Jump, Branch, Switch, Unreachable, Passed}
use Rattle.run_decode.specs.declared.flat.pools.Pools.{Pools}
use Rattle.run_decode.specs.Flat.Flat.{action_of}
use Rattle.run_acts.specs.Classes.Ends.{FramesStay}
use Rattle.run_acts.specs.Classes.Groups.{is_value}
use Rattle.run_acts.proofs.OnClasses.Going.{All-unmap}
use Rattle.run_acts.specs.Program.Loaded.{Loaded}
use Rattle.run_acts.specs.declared.next.Next as code
use Rattle.run_acts.specs.declared.next.Next.TheVariants as answer
use Rattle.run_acts.specs.declared.next.Stop.TheVariants as stops
use Rattle.run_acts.specs.Made.{AreReady, IsFunctionReady}
use Rattle.run_acts.specs.Acting.{AnswersMemory, ComesInside, ComesTo, FunctionsStay}

-- ---- actions

-- it neither calls nor returns, and is one to which a run comes
abbrev pub is_inner : Action → Bool
is_inner (Call to callee call) = false
is_inner (Return value) = false
is_inner Passed = false
is_inner _ = true

pub value_is_inner : (action : Action) → is_value action ≡ true → is_inner action ≡ true
value_is_inner (Select to condition arms) h = refl
value_is_inner (Freeze to parts) h = refl
value_is_inner (Gather to value) h = refl
value_is_inner _ h = absurd (false≢true h)

-- ---- the functions under way

-- the functions of frames
abbrev functions : List Frame → List ℕ
functions fs = map (λ (f : Frame). f.function) fs

-- where it goes on, they are those that were; it asks for no byte
abbrev Stays : Frame → Core → Next → Type 0
Stays f c (Goes d written) = functions d.frames ≡ f.function ∷ functions c.frames
Stays f c (Gets to d) = ⊥
Stays f c (Stops end) = ⊤

module _ (f : Frame) (c : Core) where
  computed_stays : (to : ℕ) (r : Result Scalar UndefinedKind) → Stays f c (computed to r f c)
  computed_stays to (Ok v) = refl
  computed_stays to (Err kind) = tt

  loads_stays : (to : ℕ) (r : Result (List Scalar) UndefinedKind) → Stays f c (loads to r f c)
  loads_stays to (Ok vs) = refl
  loads_stays to (Err kind) = tt

  stores_stays : (r : Result Blocks UndefinedKind) → Stays f c (stores r f c)
  stores_stays (Ok m) = refl
  stores_stays (Err kind) = tt

  room_stays : (to size align : ℕ) (b : Bool) → Stays f c (if b then added_alloca to size align f c else Stops MemoryLimit)
  room_stays to size align true = refl
  room_stays to size align false = tt

  allocates_stays : (to size align : ℕ) (v : Scalar) → Stays f c (allocates_many to size align v f c)
  allocates_stays to size align (Int n) = room_stays to (n * size) align (has_room (n * size) c.memory)
  allocates_stays to size align (Ptr p) = tt
  allocates_stays to size align Poison = tt

  branches_stays : (v : Scalar) (first second : actions.Edge) → Stays f c (branches v first second f c)
  branches_stays (Int zero) first second = refl
  branches_stays (Int (suc n)) first second = refl
  branches_stays (Ptr p) first second = tt
  branches_stays Poison first second = tt

  switches_stays : (v : Scalar) (otherwise : actions.Edge) (cases : List (ℕ × actions.Edge)) → Stays f c (switches v otherwise cases f c)
  switches_stays (Int n) otherwise cases = refl
  switches_stays (Ptr p) otherwise cases = tt
  switches_stays Poison otherwise cases = tt

  inner_stays : (table : ℕ → Callee) (p : Pools) (a : Lists) (action : Action) → is_inner action ≡ true → Stays f c (act table (action_of p a action) f c)
  inner_stays table p a (Compute to opcode flags width left right) h = computed_stays to _
  inner_stays table p a (Compare to predicate samesign width left right) h = refl
  inner_stays table p a (Convert to opcode flags from_width to_width value) h = refl
  inner_stays table p a (Select to condition arms) h = refl
  inner_stays table p a (Freeze to parts) h = refl
  inner_stays table p a (Gather to value) h = refl
  inner_stays table p a (Load to align address slots) h = loads_stays to _
  inner_stays table p a (Store align address slots value) h = stores_stays _
  inner_stays table p a (Allocate to align size count) h = allocates_stays to size align _
  inner_stays table p a (Displace to inbounds base terms sum) h = refl
  inner_stays table p a (Jump edge) h = refl
  inner_stays table p a (Branch condition then_edge else_edge) h = branches_stays _ _ _
  inner_stays table p a (Switch value otherwise cases) h = switches_stays _ _ _
  inner_stays table p a Unreachable h = tt
  inner_stays table p a _ h = absurd (false≢true h)

whole : (fs : List Frame) → IsRunning fs → (newest fs).function ∷ functions (older fs) ≡ functions fs
whole [] h = absurd h
whole (f ∷ fs) h = refl

module _ (p : Pools) (a : Lists) (action : Action) (inner : is_inner action ≡ true) (old new : UnderWay) (running : IsRunning old.frames) where
  -- an action that goes on
  goes_stays : (m n : Blocks) → acted (λ address. Nothing) (action_of p a action) old.frames [] m ≡ Goes (core_of new.frames [] n) [] → functions new.frames ≡ functions old.frames
  goes_stays m n e =
      let stays = inner_stays (newest old.frames) (core_of (older old.frames) [] m) (λ address. Nothing) p a action inner in
      subst (Stays (newest old.frames) (core_of (older old.frames) [] m)) e stays ∙ whole old.frames running

  -- none asks for a byte
  pub asks_none : (to : ℕ) (m n : Blocks) → ComesTo (action_of p a action) (answer.Gets to) old new m n → ⊥
  asks_none to m n h =
      let stays = inner_stays (newest old.frames) (core_of (older old.frames) [] m) (λ address. Nothing) p a action inner in
      subst (Stays (newest old.frames) (core_of (older old.frames) [] m)) (h (λ address. Nothing) []) stays

  -- so it comes to what is said of one that stays in its function
  pub comes_inside : (m n : Blocks) (next : code.Next) → ComesTo (action_of p a action) next old new m n → ComesInside (action_of p a action) (Some next) old new m n
  comes_inside m n next h = (h, λ to is. asks_none to m n (subst (λ (x : code.Next). ComesTo (action_of p a action) x old new m n) is h))

  pub accesses_come : (m n : Blocks) (r : Result (Unit {0}) MemoryFault) (next : Result (Option code.Next) AllocError) → AnswersMemory r next → Accesses (action_of p a action) r old new m n → IfOk next (λ (x : Option code.Next). ComesInside (action_of p a action) x old new m n)
  accesses_come m n (Ok done) next e h =
      subst (λ (y : Result (Option code.Next) AllocError). IfOk y (λ (x : Option code.Next). ComesInside (action_of p a action) x old new m n)) (sym e) (comes_inside m n answer.Goes (λ table due. h.goes table due))
  accesses_come m n (Err (faults.Undefined kind)) next e h =
      subst (λ (y : Result (Option code.Next) AllocError). IfOk y (λ (x : Option code.Next). ComesInside (action_of p a action) x old new m n)) (sym e) (comes_inside m n (answer.Stops (stops.Undefined kind)) (λ table due. h table due))
  accesses_come m n (Err faults.MemoryLimit) next e h =
      subst (λ (y : Result (Option code.Next) AllocError). IfOk y (λ (x : Option code.Next). ComesInside (action_of p a action) x old new m n)) (sym e) (comes_inside m n (answer.Stops stops.MemoryLimit) (λ table due. h table due))
  accesses_come m n (Err faults.Memory) (Ok next) e h = absurd (false≢true e)
  accesses_come m n (Err faults.Memory) (Err refused) e h = tt

  pub carried_stays : Blocks → IsCarriedOut (action_of p a action) old new → FunctionsStay old new
  carried_stays m h = record { functions = goes_stays m m (h.goes (λ address. Nothing) [] m); width = h.width }

  pub done_stays : (m n : Blocks) → IsDone (action_of p a action) old new m n → FunctionsStay old new
  done_stays m n h = record { functions = goes_stays m n (h.goes (λ address. Nothing) []); width = h.width }

  same_stays : new ≡ old → FunctionsStay old new
  same_stays e = record { functions = ap (λ (u : UnderWay). functions u.frames) e; width = ap (λ (u : UnderWay). u.widest) e }

  -- and one that may be undefined
  pub acts_stay : Blocks → (r : Result (Unit {0}) UndefinedKind) → Acts (action_of p a action) r old new → FunctionsStay old new
  acts_stay m (Ok done) h = carried_stays m h
  acts_stay m (Err kind) h = same_stays h.same

  -- or refused
  pub accesses_stay : (m n : Blocks) (r : Result (Unit {0}) MemoryFault) (next : Result (Option code.Next) AllocError) → AnswersMemory r next → Accesses (action_of p a action) r old new m n → FramesStay r old new → OnOk next (FunctionsStay old new)
  accesses_stay m n (Ok done) next e h same = subst (λ (x : Result (Option code.Next) AllocError). OnOk x (FunctionsStay old new)) (sym e) (done_stays m n h)
  accesses_stay m n (Err (faults.Undefined kind)) next e h same = subst (λ (x : Result (Option code.Next) AllocError). OnOk x (FunctionsStay old new)) (sym e) (same_stays same)
  accesses_stay m n (Err faults.MemoryLimit) next e h same = subst (λ (x : Result (Option code.Next) AllocError). OnOk x (FunctionsStay old new)) (sym e) (same_stays same)
  accesses_stay m n (Err faults.Memory) (Ok next) e h same = absurd (false≢true e)
  accesses_stay m n (Err faults.Memory) (Err refused) e h same = tt

-- what leaves the frames as they were where it is refused leaves them so where the program ends
pub refusal_keeps : {T : Type 0} (r : Result T MemoryFault) (old new : UnderWay) → OnErr r (new ≡ old) → FramesStay r old new
refusal_keeps (Ok done) old new h = tt
refusal_keeps (Err (faults.Undefined kind)) old new h = h
refusal_keeps (Err faults.MemoryLimit) old new h = h
refusal_keeps (Err faults.Memory) old new h = tt

-- where nothing is done, they are the same
pub none_stays : (s : UnderWay) → FunctionsStay s s
none_stays s = record { functions = refl; width = refl }

-- ---- bodies stay there

pub ready_still : (p : Loaded) (old new : UnderWay) → FunctionsStay old new → AreReady p old → AreReady p new
ready_still p old new h ready =
    let IsThere : ℕ → ℕ → Type 0 = λ widest function. IsFunctionReady p widest function in
    let before : All (IsThere old.widest) (functions old.frames) = All-map (IsThere old.widest) (λ (f : Frame). f.function) old.frames ready in
    let after : All (IsThere new.widest) (functions new.frames) = subst (λ (n : ℕ). All (IsThere n) (functions new.frames)) (sym h.width) (subst (All (IsThere old.widest)) (sym h.functions) before) in
    All-unmap (IsThere new.widest) (λ (f : Frame). f.function) new.frames after
