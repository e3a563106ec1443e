-- A function of the module as a callee.
use Rattle.std.proofs.Common.{◌≡◌, ℕ, ◌≤◌, Bool, true, false, List, [], ◌++◌, length, Some, Result, Ok, Err, refl, sym, ap, ◌∙◌, subst, arith, append-nil}
use Rattle.std.specs.declared.alloc.AllocError.{AllocError}
use Rattle.std.specs.Prelude.{IfOk, OnOk, if◌then◌else◌, slice_get}
use Rattle.std.specs.List.{AllZip}
use Rattle.std.proofs.lemmas.List.{length-append}
use Rattle.std.proofs.lemmas.Option.{same_Some}
use Rattle.ir_eval.specs.declared.value.Pointer.{Pointer}
use Rattle.ir_eval.specs.declared.value.Scalar.{Scalar}
use Rattle.ir_eval.specs.declared.value.Scalar.TheVariants.{Int, Ptr, Poison}
use Rattle.ir_memory.specs.Memory.{Blocks}
use Rattle.ir_tables.specs.declared.undefined_kind.UndefinedKind.TheVariants.{AnotherFunctionType, NoFunction, PoisonAddress}
use Rattle.module_arena.specs.Lists.{Lists}
use Rattle.module_arena.specs.Module.{Module}
use Rattle.module_arena.specs.View.{module_of}
use Rattle.type_table.specs.Shape.{Shape}
use Rattle.run_names.specs.declared.callee.CalleeRef.{CalleeRef}
use Rattle.run_names.specs.declared.callee.CalleeRef.TheVariants as callees
use Rattle.run_names.specs.Told.{alone, callee_seen}
use Rattle.run_rules.specs.Action.{Action, Signature}
use Rattle.run_rules.specs.Calls.{Callee, Code, begun, called, called_at, entered, same_signature}
use Rattle.run_rules.specs.Look.{table}
use Rattle.run_rules.specs.State.{Core, Due, Frame, fails}
use Rattle.run_decode.specs.declared.flat.action.CallParts.{CallParts}
use Rattle.run_decode.specs.Flat.Flat.{signature_of}
use Rattle.run_actions.specs.Stack.UnderWay.{UnderWay, newest}
use Rattle.run_actions.specs.Carried.{core_of}
use Rattle.run_decode.specs.Body.Bodies.{Decoded}
use Rattle.run_decode.specs.Signatures.Met.{known}
use Rattle.run_decode.specs.Signatures.Numbers.{IsNumbered}
use Rattle.run_decode.proofs.OnSignatures.Numbered.{numbered_still}
use Rattle.run_acts.specs.declared.program.program.FrameNeeds.{FrameNeeds}
use Rattle.run_acts.specs.Program.Loaded.{HasHead, IsReady, Keeps, Loaded}
use Rattle.typed_runs.specs.Actions.{AreArguments, Typing}
use Rattle.typed_runs.specs.Kinds.{IsOf, kinds_of_all}
use Rattle.typed_runs.specs.States.{IsTypedCallee}
use Rattle.typed_runs.proofs.Hosts.{signature_exact}
use Rattle.typed_runs.proofs.Leaves.{same_lengths}
use Rattle.run_acts.specs.declared.next.Next.{Next}
use Rattle.run_acts.specs.declared.next.Next.TheVariants.{Gets, Stops}
use Rattle.run_acts.specs.declared.next.Stop.TheVariants as stops
use Rattle.run_acts.specs.Made.{MayCall, shapes_of, StaysReady}
use Rattle.run_acts.specs.Said.{IsEntered, next_of}
use Rattle.run_acts.proofs.Readiness.{ready_kept}

-- ---- by its function type

module _ (callee : Callee) (function leaves : ℕ) (s used : Signature) (shapes : List Shape) (arguments : List Scalar) (to : ℕ) (is : callee ≡ Code function s leaves) (b : Bool) (test : b ≡ same_signature s used) (c : Core) where
  by_type : called callee used shapes arguments to c ≡ (if b then entered (begun function leaves arguments to) c else fails AnotherFunctionType)
  by_type =
      ap (λ (x : Callee). called x used shapes arguments to c) is
      ∙ ap (λ (t : Bool). if t then entered (begun function leaves arguments to) c else fails AnotherFunctionType) (sym test)

  pub enters_by_type : b ≡ true → called callee used shapes arguments to c ≡ entered (begun function leaves arguments to) c
  enters_by_type t = by_type ∙ ap (λ (t : Bool). if t then entered (begun function leaves arguments to) c else fails AnotherFunctionType) t

  pub fails_by_type : b ≡ false → called callee used shapes arguments to c ≡ fails AnotherFunctionType
  fails_by_type f = by_type ∙ ap (λ (t : Bool). if t then entered (begun function leaves arguments to) c else fails AnotherFunctionType) f

-- ---- its leaves

module _ (t : Typing) (look : ℕ → ℕ → ℕ → Action) (table : ℕ → Callee) (callee : Callee) (function leaves : ℕ) (s : Signature) (is : callee ≡ Code function s leaves) (typed : IsTypedCallee t look table callee) where
  typed_code : IsTypedCallee t look table (Code function s leaves)
  typed_code = subst (IsTypedCallee t look table) is typed

  -- there is room for the leaves of its parameters
  pub parameters_fit : length (kinds_of_all s.parameters) ≤ leaves
  parameters_fit =
      let h = typed_code in
      omega (arith, h.1, ap length h.3.1, length-append (kinds_of_all s.parameters) h.3.0)

  pub not_variadic : s.variadic ≡ false
  not_variadic = typed_code.0

  -- so for the arguments of a call of its type
  pub arguments_fit : (used : Signature) (shapes : List Shape) (arguments : List Scalar) (count : ℕ) → same_signature s used ≡ true → AreArguments used shapes → AllZip (IsOf count) (kinds_of_all shapes) arguments → length arguments ≤ leaves
  arguments_fit used shapes arguments count e are k =
      let same = signature_exact s used e in
      let fixed : used.variadic ≡ false = ap (λ (x : Signature). x.variadic) (sym same) ∙ not_variadic in
      let shapes_are : shapes ≡ s.parameters = are.1 ∙ ap (λ (xs : List Shape). used.parameters ++ xs) (are.2 fixed) ∙ append-nil used.parameters ∙ ap (λ (x : Signature). x.parameters) (sym same) in
      omega (arith, parameters_fit, same_lengths count (kinds_of_all shapes) arguments k, ap (λ (ss : List Shape). length (kinds_of_all ss)) shapes_are)

-- ---- what is told of it

-- as it was before function types gained numbers
pub head_callee : (p q : Loaded) (id : ℕ) (head : FrameNeeds) → Keeps p q → (h : HasHead q id head) → callee_seen (alone (module_of p.lists)) (callees.Code id) ≡ Code id h.signature head.leaves
head_callee p q id head keeps h = ap (λ (a : Lists). callee_seen (alone (module_of a)) (callees.Code id)) (sym keeps.lists) ∙ h.callee

-- ---- the body in which the call stands

-- a function has one body
pub one_body : (p : Loaded) (n : ℕ) (b c : Decoded) → IsReady p n b → IsReady p n c → b ≡ c
one_body p n b c h k = same_Some b c (same_Some (Some b) (Some c) (sym h ∙ k))

module _ (p : Loaded) (s : UnderWay) (parts : CallParts) (to : ℕ) (arguments : List Scalar) (count : ℕ) (may : MayCall p s parts to arguments count) (b : Decoded) (ready : IsReady p (newest s.frames).function b) where
  body_is : may.body ≡ b
  body_is = one_body p (newest s.frames).function may.body b may.ready ready

  pub call_numbered : IsNumbered p.met p.lists b.pools parts
  call_numbered = subst (λ (x : Decoded). IsNumbered p.met p.lists x.pools parts) body_is may.numbered

  pub call_fits : AreArguments (signature_of b.pools p.lists parts) (shapes_of b.pools p.lists parts)
  call_fits = subst (λ (x : Decoded). AreArguments (signature_of x.pools p.lists parts) (shapes_of x.pools p.lists parts)) body_is may.fit

  pub call_leaves : AllZip (IsOf count) (kinds_of_all (shapes_of b.pools p.lists parts)) arguments
  call_leaves = subst (λ (x : Decoded). AllZip (IsOf count) (kinds_of_all (shapes_of x.pools p.lists parts)) arguments) body_is may.leaves

  -- what is told of the two function types
  pub types_compared : (q : Loaded) (head : FrameNeeds) (id : ℕ) (r : Bool) → Keeps p q → (h : HasHead q id head)
      → ((x y : Signature) → slice_get (known q.met) head.signature ≡ Some x → slice_get (known q.met) parts.signature ≡ Some y → r ≡ same_signature x y)
      → r ≡ same_signature h.signature (signature_of b.pools p.lists parts)
  types_compared q head id r keeps h same = same h.signature (signature_of b.pools p.lists parts) h.number (numbered_still p.met q.met keeps.met parts.signature (signature_of b.pools p.lists parts) call_numbered.number)

-- ---- what the call comes to

-- a frame that is entered, or none, gets no byte
pub entered_gets_none : (function leaves to : ℕ) (arguments : List Scalar) (old new : UnderWay) (r : Result Next AllocError) → IfOk r (λ next. IsEntered function leaves arguments to next old new) → IfOk r (λ next. (place : ℕ) → next ≡ Gets place → ⊥)
entered_gets_none function leaves to arguments old new (Ok next) h = h.no_byte
entered_gets_none function leaves to arguments old new (Err e) h = tt

-- the bodies are there still, where another program was in between
pub ready_through : (p q r : Loaded) (s t : UnderWay) (x : Result Next AllocError) → Keeps p q → OnOk x (StaysReady q s r t) → OnOk x (StaysReady p s r t)
ready_through p q r s t (Ok next) keeps h = λ k. h (ready_kept p q s keeps k)
ready_through p q r s t (Err e) keeps h = tt

-- a function that is entered by a call of its type
pub called_enters : (callee : Callee) (function leaves : ℕ) (s used : Signature) (shapes : List Shape) (arguments : List Scalar) (to : ℕ) → callee ≡ Code function s leaves → same_signature s used ≡ true
    → (frames : List Frame) (old new : UnderWay) → old.frames ≡ frames → (r : Result Next AllocError) → IfOk r (λ next. IsEntered function leaves arguments to next old new)
    → IfOk r (λ next. (due : List Due) (m : Blocks) → called callee used shapes arguments to (core_of frames due m) ≡ next_of next (core_of new.frames due m) [])
called_enters callee function leaves s used shapes arguments to is same frames old new are (Ok next) h = λ due m.
    enters_by_type callee function leaves s used shapes arguments to is true (sym same) (core_of frames due m) refl
    ∙ ap (λ (fs : List Frame). entered (begun function leaves arguments to) (core_of fs due m)) (sym are)
    ∙ h.enters due m
called_enters callee function leaves s used shapes arguments to is same frames old new are (Err e) h = tt

module _ (p q : Loaded) (s : UnderWay) (parts : CallParts) (to : ℕ) (arguments : List Scalar) (count : ℕ) (may : MayCall p s parts to arguments count) (head : FrameNeeds) (id : ℕ) (b : Bool) (keeps : Keeps p q) (h : HasHead q id head)
    (same : (x y : Signature) → slice_get (known q.met) head.signature ≡ Some x → slice_get (known q.met) parts.signature ≡ Some y → b ≡ same_signature x y) where
  abbrev the_callee : Callee
  the_callee = callee_seen (alone (module_of p.lists)) (callees.Code id)

  compared : (body : Decoded) → IsReady p (newest s.frames).function body → b ≡ same_signature h.signature (signature_of body.pools p.lists parts)
  compared body ready = types_compared p s parts to arguments count may body ready q head id b keeps h same

  -- there is room for the arguments of the call
  pub code_fits : b ≡ true → (t : Typing) (look : ℕ → ℕ → ℕ → Action) (table : ℕ → Callee) → IsTypedCallee t look table the_callee → length arguments ≤ head.leaves
  code_fits tested t look tables typed =
      arguments_fit t look tables the_callee id head.leaves h.signature (head_callee p q id head keeps h) typed (signature_of may.body.pools p.lists parts) (shapes_of may.body.pools p.lists parts) arguments count
      (sym (compared may.body may.ready) ∙ tested) may.fit may.leaves

  -- it is entered
  pub code_enters : b ≡ true → (t : UnderWay) (r : Result Next AllocError) → IfOk r (λ next. IsEntered id head.leaves arguments to next s t)
      → IfOk r (λ next. (body : Decoded) (due : List Due) (m : Blocks) → IsReady p (newest s.frames).function body
      → called the_callee (signature_of body.pools p.lists parts) (shapes_of body.pools p.lists parts) arguments to (core_of s.frames due m) ≡ next_of next (core_of t.frames due m) [])
  code_enters tested t (Ok next) k = λ body due m ready.
      enters_by_type the_callee id head.leaves h.signature (signature_of body.pools p.lists parts) (shapes_of body.pools p.lists parts) arguments to (head_callee p q id head keeps h) b (compared body ready) (core_of s.frames due m) tested
      ∙ k.enters due m
  code_enters tested t (Err e) k = tt

  -- the call is of another type
  pub code_refused : b ≡ false → (next : Next) → next ≡ Stops (stops.Undefined AnotherFunctionType) → (body : Decoded) (due : List Due) (m : Blocks) → IsReady p (newest s.frames).function body
      → called the_callee (signature_of body.pools p.lists parts) (shapes_of body.pools p.lists parts) arguments to (core_of s.frames due m) ≡ next_of next (core_of s.frames due m) []
  code_refused untold next is body due m ready =
      fails_by_type the_callee id head.leaves h.signature (signature_of body.pools p.lists parts) (shapes_of body.pools p.lists parts) arguments to (head_callee p q id head keeps h) b (compared body ready) (core_of s.frames due m) untold
      ∙ ap (λ (n : Next). next_of n (core_of s.frames due m) []) (sym is)

-- ---- by address

module _ (modules : List Module) (callee : Scalar) (pointer : Pointer) (is : callee ≡ Ptr pointer) (seen : Callee) (value : seen ≡ table modules pointer.address) where
  at_address : (used : Signature) (shapes : List Shape) (arguments : List Scalar) (to : ℕ) (c : Core) → called_at (table modules) callee used shapes arguments to c ≡ called seen used shapes arguments to c
  at_address used shapes arguments to c =
      ap (λ (v : Scalar). called_at (table modules) v used shapes arguments to c) is ∙ ap (λ (x : Callee). called x used shapes arguments to c) (sym value)

  module _ (p : Loaded) (s t : UnderWay) (parts : CallParts) (to : ℕ) (arguments : List Scalar) where
    -- a function of the module, which writes nothing
    pub code_called : (r : Result Next AllocError) (m : Blocks) (output : List ℕ) → output ≡ []
        → IfOk r (λ next. (body : Decoded) (due : List Due) (m : Blocks) → IsReady p (newest s.frames).function body
        → called seen (signature_of body.pools p.lists parts) (shapes_of body.pools p.lists parts) arguments to (core_of s.frames due m) ≡ next_of next (core_of t.frames due m) [])
        → IfOk r (λ next. (body : Decoded) (due : List Due) → IsReady p (newest s.frames).function body
        → called_at (table modules) callee (signature_of body.pools p.lists parts) (shapes_of body.pools p.lists parts) arguments to (core_of s.frames due m) ≡ next_of next (core_of t.frames due m) output)
    code_called (Ok next) m output none h = λ body due ready.
        at_address (signature_of body.pools p.lists parts) (shapes_of body.pools p.lists parts) arguments to (core_of s.frames due m) ∙ h body due m ready ∙ ap (next_of next (core_of t.frames due m)) (sym none)
    code_called (Err e) m output none h = tt

    -- a function of the host
    pub row_called : (r : Result Next AllocError) (m n : Blocks) (output : List ℕ)
        → IfOk r (λ next. (body : Decoded) (due : List Due) → IsReady p (newest s.frames).function body
        → called seen (signature_of body.pools p.lists parts) (shapes_of body.pools p.lists parts) arguments to (core_of s.frames due m) ≡ next_of next (core_of t.frames due n) output)
        → IfOk r (λ next. (body : Decoded) (due : List Due) → IsReady p (newest s.frames).function body
        → called_at (table modules) callee (signature_of body.pools p.lists parts) (shapes_of body.pools p.lists parts) arguments to (core_of s.frames due m) ≡ next_of next (core_of t.frames due n) output)
    row_called (Ok next) m n output h = λ body due ready.
        at_address (signature_of body.pools p.lists parts) (shapes_of body.pools p.lists parts) arguments to (core_of s.frames due m) ∙ h body due ready
    row_called (Err e) m n output h = tt

-- no function
pub nothing_called : (modules : List Module) (callee : Scalar) (pointer : Pointer) → callee ≡ Ptr pointer → (seen : CalleeRef) → callee_seen modules seen ≡ table modules pointer.address → seen ≡ callees.Nothing
    → (next : Next) → next ≡ Stops (stops.Undefined NoFunction) → (used : Signature) (shapes : List Shape) (arguments : List Scalar) (to : ℕ) (c : Core) (output : List ℕ) → called_at (table modules) callee used shapes arguments to c ≡ next_of next c output
nothing_called modules callee pointer is seen value none next stops used shapes arguments to c output =
    at_address modules callee pointer is (callee_seen modules seen) value used shapes arguments to c
    ∙ ap (λ (r : CalleeRef). called (callee_seen modules r) used shapes arguments to c) none
    ∙ ap (λ (n : Next). next_of n c output) (sym stops)

-- no pointer
pub no_pointer_called : (table : ℕ → Callee) (callee : Scalar) → ((pointer : Pointer) → callee ≡ Ptr pointer → ⊥) → (next : Next) → next ≡ Stops (stops.Undefined PoisonAddress)
    → (used : Signature) (shapes : List Shape) (arguments : List Scalar) (to : ℕ) (c : Core) (output : List ℕ) → called_at table callee used shapes arguments to c ≡ next_of next c output
no_pointer_called table (Ptr pointer) other next is used shapes arguments to c output = absurd (other pointer refl)
no_pointer_called table (Int n) other next is used shapes arguments to c output = ap (λ (n : Next). next_of n c output) (sym is)
no_pointer_called table Poison other next is used shapes arguments to c output = ap (λ (n : Next). next_of n c output) (sym is)

-- a callee that is told of is typed
pub told_typed : (t : Typing) (look : ℕ → ℕ → ℕ → Action) (tables : ℕ → Callee) (seen callee : Callee) → seen ≡ callee → IsTypedCallee t look tables callee → IsTypedCallee t look tables seen
told_typed t look tables seen callee e h = subst (IsTypedCallee t look tables) (sym e) h
