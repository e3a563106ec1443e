-- Calls of host functions, by what they answer.
use Rattle.std.proofs.Common.{◌≡◌, ℕ, ◌+◌, ◌<◌, ◌≤◌, ◌++◌, Bool, true, false, List, [], ◌∷◌, length, map, Result, Ok, Err, refl, sym, ap, ◌∙◌, subst}
use Rattle.std.specs.Prelude.{All, IfOk, if◌then◌else◌}
use Rattle.std.specs.List.{AllZip, list_any}
use Rattle.std.proofs.lemmas.List.Elements.{All-cons, All-head, All-nil, All-tail}
use Rattle.std.proofs.lemmas.Simd.{map-map}
use Rattle.std.specs.declared.alloc.AllocError.{AllocError}
use Rattle.ir_eval.specs.declared.value.Scalar.{Scalar}
use Rattle.ir_memory.specs.declared.leaf.Leaf.{Leaf}
use Rattle.ir_memory.specs.Memory.{Blocks}
use Rattle.ir_tables.specs.declared.undefined_kind.UndefinedKind.TheVariants.{AnotherFunctionType}
use Rattle.module_arena.specs.declared.host.HostRow.{HostRow}
use Rattle.module_arena.specs.HostRows.{host_types}
use Rattle.type_table.specs.Shape.{Shape}
use Rattle.type_table.specs.Types.{Types}
use Rattle.run_names.specs.declared.host.answer.HostAnswer.{HostAnswer}
use Rattle.run_names.specs.declared.host.answer.HostAnswer.TheVariants.{Gives, Reads, Exits, Fails, MemoryLimit}
use Rattle.run_names.specs.Host.Answers.{Writes, answer_of, leaves_of}
use Rattle.run_rules.specs.Action.{Signature}
use Rattle.run_rules.specs.Answer as rules
use Rattle.run_rules.specs.Calls.{answered, called, handed, same_signature}
use Rattle.run_rules.specs.Frame.{with_value}
use Rattle.run_rules.specs.Host.{host}
use Rattle.run_rules.specs.Look.{host_of, no_names}
use Rattle.run_rules.specs.Resolve.{signature_in}
use Rattle.run_rules.specs.State as states
use Rattle.run_rules.specs.State.{Core, Due, Frame, fails}
use Rattle.run_names.specs.Shapes.Shapes.{shape_in}
use Rattle.run_actions.specs.Stack.UnderWay.{UnderWay, changed, newest, on_newest}
use Rattle.run_actions.specs.Carried.{core_of}
use Rattle.run_actions.specs.Operands.{HasPlaces}
use Rattle.run_actions.proofs.Wide.{fits_from}
use Rattle.run_names.specs.Types.Wanted.{leaf_of, written_as}
use Rattle.run_decode.specs.declared.flat.action.CallParts.{CallParts}
use Rattle.run_decode.specs.declared.flat.pools.Pools.{Pools}
use Rattle.run_decode.specs.Flat.Flat.{signature_of}
use Rattle.run_decode.specs.Flat.Spans.{IsSpanIn, spanned}
use Rattle.run_decode.specs.Signatures.Numbers.{IsNumbered}
use Rattle.run_decode.specs.Body.Bodies.{Decoded}
use Rattle.run_acts.specs.Program.Loaded.{IsReady, Loaded}
use Rattle.typed_runs.specs.Actions.{AreArguments}
use Rattle.typed_runs.specs.Kinds.{IsOf, kinds_of, kinds_of_all}
use Rattle.typed_runs.specs.States.{IsRow, IsTypedMemory}
use Rattle.typed_runs.proofs.Hosts.{IsTypedAnswer, host_typed}
use Rattle.typed_runs.proofs.Leaves.{same_lengths}
use Rattle.run_acts.specs.declared.next.Next.{Next}
use Rattle.run_acts.specs.declared.next.Next.TheVariants.{Stops}
use Rattle.run_acts.specs.declared.next.Stop.TheVariants as stops
use Rattle.run_acts.specs.Made.{MayCall, MayCallHost, shapes_of, TakesResult}
use Rattle.run_acts.specs.Said.{next_of}
use Rattle.run_acts.proofs.AsCallee.{call_fits, call_leaves, call_numbered, one_body}

-- ---- the result

valued_none : (to : ℕ) (fs : List Frame) → fs ≡ on_newest (λ f. with_value f to []) fs
valued_none to [] = refl
valued_none to (f ∷ fs) = refl

-- a value with no leaf changes nothing
pub none_given : (to : ℕ) (s : UnderWay) → s ≡ changed (λ f. with_value f to []) s
none_given to s = ap (λ (fs : List Frame). record s { frames = fs }) (valued_none to s.frames)

handed_is : (to : ℕ) (value : List Scalar) (fs : List Frame) → handed to value fs ≡ on_newest (λ f. with_value f to value) fs
handed_is to value [] = refl
handed_is to value (f ∷ fs) = refl

module _ (s : UnderWay) (to : ℕ) (due : List Due) (m n : Blocks) (output : List ℕ) where
  -- leaves are given
  pub gives_value : (value : List Scalar) (new : UnderWay) → new ≡ changed (λ f. with_value f to value) s → answered to (core_of s.frames due m) (rules.Gives value n output) ≡ states.Goes (core_of new.frames due n) output
  gives_value value new is =
      ap (λ (fs : List Frame). states.Goes (core_of fs due n) output) (handed_is to value s.frames) ∙ ap (λ (u : UnderWay). states.Goes (core_of u.frames due n) output) (sym is)

  -- a byte is asked for
  pub asks_for : n ≡ m → answered to (core_of s.frames due m) rules.Reads ≡ states.Gets to (core_of s.frames due n)
  asks_for e = ap (λ (x : Blocks). states.Gets to (core_of s.frames due x)) (sym e)

-- ---- the answer

-- what was written is what the answer tells
pub told_by : (what : rules.Answer) (n : Blocks) (old new : List ℕ) (answer : HostAnswer) → old ≡ [] → Writes {E = AllocError} what n old new (Ok answer) → what ≡ answer_of answer n new
told_by what n old new (Gives result) none h = h.1 ∙ ap (answer_of (Gives result) n) (sym (h.2 ∙ ap (λ (o : List ℕ). o ++ h.0) none))
told_by what n old new Reads none h = h.0
told_by what n old new (Exits status) none h = h.0
told_by what n old new (Fails kind) none h = h.0
told_by what n old new MemoryLimit none h = h.0

-- a result of these kinds has its place
takes_typed : (s : UnderWay) (to : ℕ) (kinds : List Leaf) (m n : Blocks) (output : List ℕ) (answer : HostAnswer) → IsTypedAnswer m kinds (answer_of answer n output) → HasPlaces s to (length kinds) → TakesResult s to answer
takes_typed s to kinds m n output (Gives result) h place =
    fits_from (length (newest s.frames).leaves) to (leaves_of result)
    (subst (λ (k : ℕ). 0 < k → to + k ≤ length (newest s.frames).leaves) (sym (same_lengths (length n.list) kinds (leaves_of result) h.0)) place)
takes_typed s to kinds m n output Reads h place = tt
takes_typed s to kinds m n output (Exits status) h place = tt
takes_typed s to kinds m n output (Fails kind) h place = tt
takes_typed s to kinds m n output MemoryLimit h place = tt

-- what a host function gives has its place
pub takes_result : (s : UnderWay) (row : HostRow) (shapes : List Shape) (arguments : List Scalar) (to : ℕ) (m : Blocks) → MayCallHost s row shapes arguments to (length m.list) → IsRow row → IsTypedMemory m
    → (n : Blocks) (old new : List ℕ) (answer : HostAnswer) → old ≡ [] → Writes {E = AllocError} (host row shapes arguments m) n old new (Ok answer) → TakesResult s to answer
takes_result s row shapes arguments to m may is memory n old new answer none h =
    takes_typed s to (kinds_of may.used.returns) m n new answer
    (subst (IsTypedAnswer m (kinds_of may.used.returns)) (told_by (host row shapes arguments m) n old new answer none h) (host_typed m memory row is may.used shapes arguments may.typed may.fit may.leaves)) may.place

-- ---- by the function type of the call

module _ (row : HostRow) (used : Signature) (shapes : List Shape) (arguments : List Scalar) (to : ℕ) (c : Core) (b : Bool) (test : b ≡ list_any (same_signature used) (map (signature_in no_names) (host_types row))) where
  pub called_by_type : b ≡ true → called (host_of row) used shapes arguments to c ≡ answered to c (host row shapes arguments c.memory)
  called_by_type t = ap (λ (b : Bool). if b then answered to c (host row shapes arguments c.memory) else fails AnotherFunctionType) (sym test ∙ t)

  pub fails_by_type : b ≡ false → called (host_of row) used shapes arguments to c ≡ fails AnotherFunctionType
  fails_by_type f = ap (λ (b : Bool). if b then answered to c (host row shapes arguments c.memory) else fails AnotherFunctionType) (sym test ∙ f)

-- ---- what `printf` asks

-- what each argument is
pub asked_are : (t : Types) (shapes : List ℕ) → map (λ ty. leaf_of (shape_in t ty)) shapes ≡ map leaf_of (map (shape_in t) shapes)
asked_are t shapes = sym (map-map leaf_of (shape_in t) shapes)

-- ---- what is asked of the types of a call

module _ (P : ℕ → Type 0) where
  all_front : (xs ys : List ℕ) → All P (xs ++ ys) → All P xs
  all_front [] ys h = All-nil P
  all_front (x ∷ xs) ys h = All-cons P x xs (All-head P x (xs ++ ys) h) (all_front xs ys (All-tail P x (xs ++ ys) h))

  all_back : (xs ys : List ℕ) → All P (xs ++ ys) → All P ys
  all_back [] ys h = h
  all_back (x ∷ xs) ys h = all_back xs ys (All-tail P x (xs ++ ys) h)

module _ (p : Loaded) (s : UnderWay) (parts : CallParts) (to : ℕ) (arguments : List Scalar) (count : ℕ) (may : MayCall p s parts to arguments count) (number : ℕ) (is : number ≡ (newest s.frames).function)
    (b : Decoded) (ready : IsReady p number b) (t : Types) (t_is : t ≡ p.lists.table) (ps : Pools) (ps_is : ps ≡ b.pools) where
  ready_here : IsReady p (newest s.frames).function b
  ready_here = subst (λ (n : ℕ). IsReady p n b) is ready

  numbered : IsNumbered p.met p.lists b.pools parts
  numbered = call_numbered p s parts to arguments count may b ready_here

  pub parameters_in : IsSpanIn ps.types parts.parameters
  parameters_in = subst (λ (x : Pools). IsSpanIn x.types parts.parameters) (sym ps_is) numbered.parameters

  pub shapes_in : IsSpanIn ps.types parts.shapes
  shapes_in = subst (λ (x : Pools). IsSpanIn x.types parts.shapes) (sym ps_is) numbered.shapes

  abbrev IsKnownType : ℕ → Type 0
  IsKnownType ty = ty < length p.lists.table.types

  in_table : (ids : List ℕ) → All IsKnownType ids → All (λ ty. ty < length t.types) ids
  in_table ids h = subst (λ (x : Types). All (λ ty. ty < length x.types) ids) (sym t_is) h

  others_known : All IsKnownType (spanned b.pools.types parts.parameters ++ spanned b.pools.types parts.shapes)
  others_known = All-tail IsKnownType parts.returns (spanned b.pools.types parts.parameters ++ spanned b.pools.types parts.shapes) numbered.known_types

  pub returns_known : parts.returns < length t.types
  returns_known =
      subst (λ (x : Types). parts.returns < length x.types) (sym t_is)
      (All-head IsKnownType parts.returns (spanned b.pools.types parts.parameters ++ spanned b.pools.types parts.shapes) numbered.known_types)

  pub parameters_known : (ids : List ℕ) → ids ≡ spanned ps.types parts.parameters → All (λ ty. ty < length t.types) ids
  parameters_known ids e =
      in_table ids (subst (All IsKnownType) (sym (e ∙ ap (λ (x : Pools). spanned x.types parts.parameters) ps_is))
      (all_front IsKnownType (spanned b.pools.types parts.parameters) (spanned b.pools.types parts.shapes) others_known))

  pub shapes_known : (ids : List ℕ) → ids ≡ spanned ps.types parts.shapes → All (λ ty. ty < length t.types) ids
  shapes_known ids e =
      in_table ids (subst (All IsKnownType) (sym (e ∙ ap (λ (x : Pools). spanned x.types parts.shapes) ps_is))
      (all_back IsKnownType (spanned b.pools.types parts.parameters) (spanned b.pools.types parts.shapes) others_known))

  -- the function type of the call as it is written
  written_is : (ids : List ℕ) → ids ≡ spanned ps.types parts.parameters → written_as t parts.returns ids parts.variadic ≡ signature_of b.pools p.lists parts
  written_is ids e = λ i. written_as (t_is i) parts.returns ((e ∙ ap (λ (x : Pools). spanned x.types parts.parameters) ps_is) i) parts.variadic

  -- the shapes of its arguments
  shapes_are : (ids : List ℕ) → ids ≡ spanned ps.types parts.shapes → map (shape_in t) ids ≡ shapes_of b.pools p.lists parts
  shapes_are ids e = λ i. map (shape_in (t_is i)) ((e ∙ ap (λ (x : Pools). spanned x.types parts.shapes) ps_is) i)

  module _ (row : HostRow) (parameters : List ℕ) (parameters_are : parameters ≡ spanned ps.types parts.parameters) (fits : Bool)
      (test : fits ≡ list_any (same_signature (written_as t parts.returns parameters parts.variadic)) (map (signature_in no_names) (host_types row))) where
    tested : fits ≡ list_any (same_signature (signature_of b.pools p.lists parts)) (map (signature_in no_names) (host_types row))
    tested = test ∙ ap (λ (x : Signature). list_any (same_signature x) (map (signature_in no_names) (host_types row))) (written_is parameters parameters_are)

    -- the call is of no type of the row
    pub row_refused : fits ≡ false → (next : Next) → next ≡ Stops (stops.Undefined AnotherFunctionType) → (m : Blocks) (output : List ℕ) (body : Decoded) (due : List Due) → IsReady p (newest s.frames).function body
        → called (host_of row) (signature_of body.pools p.lists parts) (shapes_of body.pools p.lists parts) arguments to (core_of s.frames due m) ≡ next_of next (core_of s.frames due m) output
    row_refused untold next stopped m output body due there =
        subst (λ (x : Decoded). called (host_of row) (signature_of x.pools p.lists parts) (shapes_of x.pools p.lists parts) arguments to (core_of s.frames due m) ≡ next_of next (core_of s.frames due m) output)
        (one_body p (newest s.frames).function b body ready_here there)
        (fails_by_type row (signature_of b.pools p.lists parts) (shapes_of b.pools p.lists parts) arguments to (core_of s.frames due m) fits tested untold ∙ ap (λ (n : Next). next_of n (core_of s.frames due m) output) (sym stopped))

    module _ (told : fits ≡ true) (ids : List ℕ) (ids_are : ids ≡ spanned ps.types parts.shapes) where
      -- what is asked of the call of the row
      pub row_may : MayCallHost s row (map (shape_in t) ids) arguments to count
      row_may = record {
        running = may.running;
        used = signature_of b.pools p.lists parts;
        typed = sym tested ∙ told;
        fit = subst (AreArguments (signature_of b.pools p.lists parts)) (sym (shapes_are ids ids_are)) (call_fits p s parts to arguments count may b ready_here);
        leaves = subst (λ (ss : List Shape). AllZip (IsOf count) (kinds_of_all ss) arguments) (sym (shapes_are ids ids_are)) (call_leaves p s parts to arguments count may b ready_here);
        place = may.place;
      }

      -- what it comes to
      pub row_answers : (t' : UnderWay) (m n : Blocks) (output : List ℕ) (r : Result Next AllocError)
          → IfOk r (λ next. (due : List Due) → answered to (core_of s.frames due m) (host row (map (shape_in t) ids) arguments m) ≡ next_of next (core_of t'.frames due n) output)
          → IfOk r (λ next. (body : Decoded) (due : List Due) → IsReady p (newest s.frames).function body
          → called (host_of row) (signature_of body.pools p.lists parts) (shapes_of body.pools p.lists parts) arguments to (core_of s.frames due m) ≡ next_of next (core_of t'.frames due n) output)
      row_answers t' m n output (Ok next) h = λ body due there.
          subst (λ (x : Decoded). called (host_of row) (signature_of x.pools p.lists parts) (shapes_of x.pools p.lists parts) arguments to (core_of s.frames due m) ≡ next_of next (core_of t'.frames due n) output)
          (one_body p (newest s.frames).function b body ready_here there)
          (called_by_type row (signature_of b.pools p.lists parts) (shapes_of b.pools p.lists parts) arguments to (core_of s.frames due m) fits tested told
          ∙ ap (λ (ss : List Shape). answered to (core_of s.frames due m) (host row ss arguments m)) (sym (shapes_are ids ids_are))
          ∙ h due)
      row_answers t' m n output (Err e) h = tt
