-- What is due: constructors, and main.
use Rattle.std.proofs.Common.{◌≡◌, ℕ, ◌<◌, ◌≤◌, Bool, true, false, ◌&&◌, not, List, [], ◌∷◌, length, map, eqb, Some, Result, Ok, Err, refl, sym, ap, ◌∙◌, subst, arith}
use Rattle.std.specs.declared.alloc.AllocError.{AllocError}
use Rattle.std.specs.Prelude.{IfOk, if◌then◌else◌, slice_get}
use Rattle.std.specs.Bool.{beq}
use Rattle.std.specs.List.{list_any}
use Rattle.std.proofs.Math.Dec.{eqb-suc-zero}
use Rattle.std.proofs.lemmas.Option.{same_Some, slice_get_within}
use Rattle.ir_eval.specs.declared.value.Pointer.{Pointer}
use Rattle.ir_eval.specs.declared.value.Scalar.{Scalar}
use Rattle.ir_eval.specs.declared.value.Scalar.TheVariants.{Int, Ptr}
use Rattle.ir_tables.specs.declared.intrinsic.Intrinsic.{Intrinsic}
use Rattle.ir_tables.specs.declared.intrinsic.Intrinsic.TheVariants as integer
use Rattle.ir_tables.specs.declared.undefined_kind.UndefinedKind.TheVariants.{AnotherFunctionType}
use Rattle.ir_memory.specs.Memory.{Blocks}
use Rattle.linkage_rules.specs.SameShape.{same_shape}
use Rattle.module_arena.specs.declared.entry.Function.{Function}
use Rattle.module_arena.specs.declared.entry.Parameter.{Parameter}
use Rattle.module_arena.specs.declared.host.HostRow.{HostRow}
use Rattle.module_arena.specs.declared.host.HostRow.TheVariants.{Abort, Integer}
use Rattle.module_arena.specs.HostRows.{host_types}
use Rattle.module_arena.specs.Lists.{Lists}
use Rattle.module_arena.specs.Module.{Module}
use Rattle.module_arena.specs.View.{module_of}
use Rattle.type_table.specs.Shape.{void_leaf}
use Rattle.type_table.specs.Types.{Types}
use Rattle.type_table.proofs.ShapeMeasures.{and_assoc}
use Rattle.run_names.specs.declared.callee.CalleeRef.{CalleeRef}
use Rattle.run_names.specs.declared.callee.CalleeRef.TheVariants as callees
use Rattle.run_names.specs.Told.{HasCode, alone, callee_seen}
use Rattle.run_rules.specs.Action.{Signature}
use Rattle.run_rules.specs.Calls.{Callee, Code, answered, called, same_shape_list, same_signature}
use Rattle.run_rules.specs.Due.{called_due, constructor_type, main_with_arguments}
use Rattle.run_rules.specs.Host.{host}
use Rattle.run_rules.specs.Look.{host_of, look, no_names, table}
use Rattle.run_rules.specs.Resolve.{signature_in}
use Rattle.run_rules.specs.State.{Constructor, Due, Frame, fails}
use Rattle.run_actions.specs.Stack.UnderWay.{UnderWay}
use Rattle.run_actions.specs.Carried.{core_of}
use Rattle.run_names.specs.Shapes.Shapes.{shape_in}
use Rattle.run_decode.specs.Signatures.Met as met
use Rattle.run_decode.specs.Signatures.Met.{Met}
use Rattle.run_names.specs.Types.Wanted.{written_as}
use Rattle.run_rules.specs.Places.Places.{IsFunctionOf}
use Rattle.run_acts.specs.declared.program.program.FrameNeeds.{FrameNeeds}
use Rattle.run_acts.specs.Program.Loaded.{HasHead, IsHead, Keeps, Loaded}
use Rattle.typed_runs.specs.Look.Typings.{IsTypedLook, typing_of}
use Rattle.typed_runs.specs.Kinds.{kinds_of_all}
use Rattle.typed_runs.proofs.Hosts.{signature_exact}
use Rattle.run_acts.specs.declared.due.DueCall.{DueCall}
use Rattle.run_acts.specs.declared.due.DueCall.TheVariants.{MainWith}
use Rattle.run_acts.specs.Dues.{due_of, IsMainAt, main_type}
use Rattle.run_acts.specs.declared.next.Next.{Next}
use Rattle.run_acts.specs.declared.next.Next.TheVariants.{Stops}
use Rattle.run_acts.specs.declared.next.Stop.TheVariants as stops
use Rattle.run_acts.specs.Said.{next_of}
use Rattle.run_acts.proofs.AsCallee.{fails_by_type, head_callee, parameters_fit}

-- ---- constructors

none_alike : (t : Types) (ps : List Parameter) → eqb (length ps) 0 ≡ same_shape_list (map (shape_in t) (map (λ (p : Parameter). p.ty) ps)) []
none_alike t [] = refl
none_alike t (p ∷ ps) = eqb-suc-zero (length ps)

not_is : (v : Bool) → not v ≡ beq v false
not_is true = refl
not_is false = refl

-- a function type that gives nothing and takes nothing, by its parts
pub constructor_told : (t : Types) (result : ℕ) (parameters : List Parameter) (variadic a b : Bool) → a ≡ same_shape (shape_in t result) void_leaf → b ≡ eqb (length parameters) 0
    → ((a && b) && not variadic) ≡ same_signature (written_as t result (map (λ (p : Parameter). p.ty) parameters) variadic) constructor_type
constructor_told t result parameters variadic a b e f = and_assoc a b (not variadic) ∙ (λ i. e i && ((f ∙ none_alike t parameters) i && not_is variadic i))

no_integer : (which : Intrinsic) (width : ℕ) → list_any (same_signature constructor_type) (map (signature_in no_names) (host_types (Integer which width))) ≡ false
no_integer integer.SaddWithOverflow width = refl
no_integer _ width = refl

-- of the host, `abort` alone has the type
pub no_constructor : (row : HostRow) → (row ≡ Abort → ⊥) → list_any (same_signature constructor_type) (map (signature_in no_names) (host_types row)) ≡ false
no_constructor Abort other = absurd (other refl)
no_constructor (Integer which width) other = no_integer which width
no_constructor _ other = refl

-- of the host, no other constructor is called
pub host_refused : (row : HostRow) → (row ≡ Abort → ⊥) → (next : Next) → next ≡ Stops (stops.Undefined AnotherFunctionType) → (due : List Due) (m : Blocks)
    → called (host_of row) constructor_type [] [] 0 (core_of [] due m) ≡ next_of next (core_of [] due m) []
host_refused row other next is due m =
    ap (λ (b : Bool). if b then answered 0 (core_of [] due m) (host row [] [] m) else fails AnotherFunctionType) (no_constructor row other) ∙ ap (λ (n : Next). next_of n (core_of [] due m) []) (sym is)

-- what is told of a function by its types as they are written
pub written_told : (a : Lists) (m : Met) (id : ℕ) (head : FrameNeeds) (h : IsHead a m id head) (t : Types) (f : Function) → t ≡ a.table → slice_get a.functions id ≡ Some f
    → h.signature ≡ written_as t f.result (map (λ (p : Parameter). p.ty) f.parameters) f.variadic
written_told a m id head h t f table there =
    let same : h.function ≡ f = same_Some h.function f (sym h.there ∙ there) in
    h.written
    ∙ ap (λ (g : Function). met.written_as a g.result (map (λ (p : Parameter). p.ty) g.parameters) g.variadic) same
    ∙ ap (λ (u : Types). written_as u f.result (map (λ (p : Parameter). p.ty) f.parameters) f.variadic) (sym table)

-- ---- main

module _ (parts : List Module) (used : Signature) where
  code_only : (r : CalleeRef) → IsFunctionOf (look parts) (table parts) used (callee_seen parts r) → ((id : ℕ) → r ≡ callees.Code id → ⊥) → ⊥
  code_only (callees.Code id) h other = other id refl
  code_only (callees.Host row) h other = h
  code_only callees.Nothing h other = h

-- main is a function of the module
pub main_is_code : (parts : List Module) (address : ℕ) (arguments : List Scalar) (r : CalleeRef) → IsMainAt parts address arguments → callee_seen parts r ≡ table parts address → ((id : ℕ) → r ≡ callees.Code id → ⊥) → ⊥
main_is_code parts address arguments r main e other =
    code_only parts (main_type arguments) r (subst (IsFunctionOf (look parts) (table parts) (main_type arguments)) (sym e) main) other

-- it has its type
pub main_has_type : (parts : List Module) (address id leaves : ℕ) (s : Signature) (arguments : List Scalar) → IsMainAt parts address arguments → table parts address ≡ Code id s leaves → same_signature s (main_type arguments) ≡ true
main_has_type parts address id leaves s arguments main e = subst (IsFunctionOf (look parts) (table parts) (main_type arguments)) e main

-- each of its arguments is one leaf
pub main_leaves : (arguments : List Scalar) → length arguments ≤ length (main_type arguments).parameters → length arguments ≤ length (kinds_of_all (main_type arguments).parameters)
main_leaves [] h = omega arith
main_leaves (v ∷ vs) h = h

module _ (p q : Loaded) (id : ℕ) (head : FrameNeeds) (keeps : Keeps p q) (h : HasHead q id head) (address : ℕ) (arguments : List Scalar) (r : CalleeRef) (is : r ≡ callees.Code id)
    (value : callee_seen (alone (module_of p.lists)) r ≡ table (alone (module_of p.lists)) address) (main : IsMainAt (alone (module_of p.lists)) address arguments) where
  -- what main's address has
  pub main_callee : table (alone (module_of p.lists)) address ≡ Code id h.signature head.leaves
  main_callee = sym value ∙ ap (callee_seen (alone (module_of p.lists))) is ∙ head_callee p q id head keeps h

  pub main_type_is : same_signature h.signature (main_type arguments) ≡ true
  main_type_is = main_has_type (alone (module_of p.lists)) address id head.leaves h.signature arguments main main_callee

  -- there is room for its arguments
  pub main_fits : IsTypedLook (alone (module_of p.lists)) → length arguments ≤ length (main_type arguments).parameters → length arguments ≤ head.leaves
  main_fits typed few =
      let parts = alone (module_of p.lists) in
      let enough = parameters_fit (typing_of parts) (look parts) (table parts) (table parts address) id head.leaves h.signature main_callee (typed.callees address) in
      omega (arith, enough, main_leaves arguments few, ap (λ (s : Signature). length (kinds_of_all s.parameters)) (signature_exact h.signature (main_type arguments) main_type_is))

-- ---- a constructor that is a function of the module

-- the function is there
pub code_there : (p q : Loaded) (id : ℕ) → Keeps p q → HasCode p.lists (callees.Code id) → id < length q.lists.functions
code_there p q id keeps h = slice_get_within q.lists.functions id h.0 (ap (λ (a : Lists). slice_get a.functions id) keeps.lists ∙ h.1)

pub code_kept : (p q : Loaded) (id : ℕ) → Keeps p q → HasCode p.lists (callees.Code id) → HasCode q.lists (callees.Code id)
code_kept p q id keeps h = subst (λ (a : Lists). HasCode a (callees.Code id)) (sym keeps.lists) h

-- whether its type is that of a constructor
pub constructor_tested : (q : Loaded) (id : ℕ) (head : FrameNeeds) (h : HasHead q id head) (t : Types) (f : Function) (b : Bool) → t ≡ q.lists.table → slice_get q.lists.functions id ≡ Some f
    → b ≡ same_signature (written_as t f.result (map (λ (p : Parameter). p.ty) f.parameters) f.variadic) constructor_type → b ≡ same_signature h.signature constructor_type
constructor_tested q id head h t f b table there e = e ∙ ap (λ (s : Signature). same_signature s constructor_type) (sym (written_told q.lists q.met id head h t f table there))

-- it is of another type
pub constructor_refused : (p q : Loaded) (id : ℕ) (head : FrameNeeds) → Keeps p q → (h : HasHead q id head) (b : Bool) → b ≡ same_signature h.signature constructor_type → b ≡ false → (next : Next) → next ≡ Stops (stops.Undefined AnotherFunctionType)
    → (frames : List Frame) → frames ≡ [] → (due : List Due) (m : Blocks) → called (callee_seen (alone (module_of p.lists)) (callees.Code id)) constructor_type [] [] 0 (core_of [] due m) ≡ next_of next (core_of frames due m) []
constructor_refused p q id head keeps h b test untold next is frames none due m =
    fails_by_type (callee_seen (alone (module_of p.lists)) (callees.Code id)) id head.leaves h.signature constructor_type [] [] 0 (head_callee p q id head keeps h) b test (core_of [] due m) untold
    ∙ ap (λ (n : Next). next_of n (core_of [] due m) []) (sym is)
    ∙ ap (λ (fs : List Frame). next_of next (core_of fs due m) []) (sym none)

-- ---- by address

-- what a callee that is told of comes to, its address comes to
pub constructor_at : (modules : List Module) (address : ℕ) (seen : Callee) (new : UnderWay) (r : Result Next AllocError) → seen ≡ table modules address
    → IfOk r (λ next. (due : List Due) (m : Blocks) → called seen constructor_type [] [] 0 (core_of [] due m) ≡ next_of next (core_of new.frames due m) [])
    → IfOk r (λ next. (due : List Due) (m : Blocks) → called_due (table modules) (Constructor address) (core_of [] due m) ≡ next_of next (core_of new.frames due m) [])
constructor_at modules address seen new (Ok next) value h = λ due m. ap (λ (x : Callee). called x constructor_type [] [] 0 (core_of [] due m)) (sym value) ∙ h due m
constructor_at modules address seen new (Err e) value h = tt

-- the same of one that is answered at once
pub constructor_answered : (modules : List Module) (address : ℕ) (seen : Callee) (frames : List Frame) (next : Next) → frames ≡ [] → seen ≡ table modules address
    → ((due : List Due) (m : Blocks) → called seen constructor_type [] [] 0 (core_of [] due m) ≡ next_of next (core_of [] due m) [])
    → (due : List Due) (m : Blocks) → called_due (table modules) (Constructor address) (core_of [] due m) ≡ next_of next (core_of frames due m) []
constructor_answered modules address seen frames next none value h due m =
    ap (λ (x : Callee). called x constructor_type [] [] 0 (core_of [] due m)) (sym value) ∙ h due m ∙ ap (λ (fs : List Frame). next_of next (core_of fs due m) []) (sym none)

-- what is due is called
abbrev pub IsCalledDue : List Module → DueCall → UnderWay → Result Next AllocError → Type 0
IsCalledDue modules due new r = IfOk r (λ next. (others : List Due) (m : Blocks) → called_due (table modules) (due_of due) (core_of [] others m) ≡ next_of next (core_of new.frames others m) [])

-- main with its arguments, whose count is that
pub main_counted : (modules : List Module) (address count n : ℕ) (array : Pointer) (new : UnderWay) (r : Result Next AllocError) → n ≡ count
    → IfOk r (λ next. (due : List Due) (m : Blocks) → called (table modules address) main_with_arguments main_with_arguments.parameters (Int n ∷ Ptr array ∷ []) 0 (core_of [] due m) ≡ next_of next (core_of new.frames due m) [])
    → IsCalledDue modules (MainWith address count array) new r
main_counted modules address count n array new (Ok next) e h = λ others m.
    ap (λ (k : ℕ). called (table modules address) main_with_arguments main_with_arguments.parameters (Int k ∷ Ptr array ∷ []) 0 (core_of [] others m)) (sym e) ∙ h others m
main_counted modules address count n array new (Err e) same h = tt
