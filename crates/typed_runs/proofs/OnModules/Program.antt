-- Each action of a valid module is typed.
use Rattle.std.proofs.Common.{◌≡◌, ℕ, zero, suc, ◌+◌, List, [], ◌∷◌, length, refl, sym, ap, ◌∙◌, subst, Bool, true, false, nat_eq, Option, Some, None, true≢false}
use Rattle.std.specs.Prelude.{slice_get, if◌then◌else◌}
use Rattle.std.specs.List.{AllByRecursion}
use Rattle.std.specs.Option.{option_map_or}
use Rattle.std.proofs.lemmas.Option.{same_Some}
use Rattle.run_rules.proofs.OnPlaces.Options.{none_some}
use Rattle.module_arena.specs.Module.{Operation, Instruction, Block, Function, Module}
use Rattle.module_arena.specs.Valid.{IsValid}
use Rattle.module_arena.specs.WellFormed.{IsWellFormed}
use Rattle.linkage_rules.proofs.Entries.{all_follow}
use Rattle.run_rules.specs.Places.Places.{IsThere, GoesOnFrom}
use Rattle.run_rules.proofs.OnPlaces.Alone.{is_valid}
use Rattle.run_rules.proofs.OnPlaces.Parts.{connected, same_blocks}
use Rattle.run_rules.specs.Action.{Action}
use Rattle.run_rules.specs.Constant.{Names, shape_of}
use Rattle.run_rules.specs.Look.{Defined, address_in, bounds_in, names_in, function_at, ending_at, action_at, look_in, look}
use Rattle.run_rules.specs.NeverStuck.{is_stuck}
use Rattle.run_rules.specs.Resolve.{operation_in, instruction_in, ending_in, is_phi}
use Rattle.run_rules.specs.Scope.{FunctionScope, scope_of, blocks_of, place_in}
use Rattle.typed_runs.specs.Actions.{Typing, IsTypedAction}
use Rattle.typed_runs.specs.Kinds.{kinds_of}
use Rattle.typed_runs.specs.Look.Typings.{frame_kinds, typing_of, IsTypedLook}
use Rattle.typed_runs.proofs.OnLook.Callees.{callees_typed}
use Rattle.typed_runs.specs.Action.Asked.{IsAsked}
use Rattle.typed_runs.proofs.OnAction.Operations.{instructions_are_typed}
use Rattle.typed_runs.proofs.OnEdge.Ends.{ends_are_typed}
use Rattle.typed_runs.specs.Body.Laws.{IsAskedBlock}
use Rattle.typed_runs.proofs.OnBody.Bodies.{bodies_are_asked}
use Rattle.typed_runs.proofs.OnPlan.Addresses.{address_typed}
use Rattle.typed_runs.proofs.OnPlan.Plans.{plans_are_typed}
use Rattle.typed_runs.specs.Modules.Laws.{ValidIsTyped}
use Rattle.typed_runs.proofs.OnModules.Functions.{function_here}

all_there : {X : Type 0} (P : X → Type 0) (xs : List X) (k : ℕ) (x : X) → AllByRecursion P xs → slice_get xs k ≡ Some x → P x
all_there P [] k x h e = none_some x e
all_there P (y ∷ ys) zero x h e = subst P (same_Some y x e) h.0
all_there P (y ∷ ys) (suc k) x h e = all_there P ys k x h.1 e

-- an action is of no phi, and goes on to the next
not_phi : (sc : FunctionScope) (to : ℕ) (o : Operation) → is_stuck (operation_in sc to o) ≡ false → is_phi o ≡ false
not_phi sc to (Operation.Phi ty incoming) h = absurd (true≢false h)
not_phi sc to _ h = refl

next_there : (here : ℕ → ℕ → Action) (sc : FunctionScope) (to k p : ℕ) (o : Operation) → GoesOnFrom here k p (operation_in sc to o) → IsThere here k (p + 1)
next_there here sc to k p (Operation.Phi ty incoming) h = absurd h
next_there here sc to k p _ h = h

module _ (m : Module) (well_formed : IsWellFormed m) (valid : IsValid m) where
  abbrev parts : List Module
  parts = m ∷ []

  abbrev names : Names
  names = names_in parts 0

  abbrev t : Typing
  t = typing_of parts

  module _ (f : Function) (j : ℕ) (is : slice_get m.functions j ≡ Some f) (n : ℕ) (kinds : t.kinds n ≡ frame_kinds names f) (gives : t.gives n ≡ kinds_of (shape_of names f.returns)) where
    abbrev sc : FunctionScope
    sc = scope_of names f

    asked : AllByRecursion (IsAskedBlock t (look parts) n sc f) (blocks_of f)
    asked =
        subst (AllByRecursion (IsAskedBlock t (look parts) n sc f)) (same_blocks f.body)
        (bodies_are_asked m well_formed valid j f is t (look parts) n (address_in parts 0) (bounds_in parts) kinds (address_typed parts 0))

    all_asked : AllByRecursion (λ (b : Block). AllByRecursion (IsAsked t (look parts) n sc) b.instructions) (blocks_of f)
    all_asked = all_follow (IsAskedBlock t (look parts) n sc f) (λ (b : Block). AllByRecursion (IsAsked t (look parts) n sc) b.instructions) (blocks_of f) (λ b h. h.instructions) asked

    -- at a place of the function
    place_typed : (k p : ℕ) → is_stuck (look_in sc k p) ≡ false → GoesOnFrom (look parts n) k p (look_in sc k p) → IsTypedAction t (look parts) n k p (look_in sc k p)
    place_typed k p = block (slice_get (blocks_of f) k) refl
      where
        end : (b : Block) → IsAskedBlock t (look parts) n sc f b → (c : Bool) → is_stuck (if c then ending_in sc b.name b.ending else Action.Stuck) ≡ false
            → GoesOnFrom (look parts n) k p (if c then ending_in sc b.name b.ending else Action.Stuck) → IsTypedAction t (look parts) n k p (if c then ending_in sc b.name b.ending else Action.Stuck)
        end b a true h on = ends_are_typed t (look parts) n sc f gives all_asked b.name b.ending a.ending k p on
        end b a false h on = absurd (true≢false h)

        instruction : (b : Block) → IsAskedBlock t (look parts) n sc f b → (o : Option Instruction) → slice_get b.instructions p ≡ o → is_stuck (option_map_or (instruction_in sc) o (ending_at sc b p)) ≡ false
            → GoesOnFrom (look parts n) k p (option_map_or (instruction_in sc) o (ending_at sc b p)) → IsTypedAction t (look parts) n k p (option_map_or (instruction_in sc) o (ending_at sc b p))
        instruction b a (Some i) e h on =
            instructions_are_typed t (look parts) n sc well_formed.structs i (all_there (IsAsked t (look parts) n sc) b.instructions p i a.instructions e) (not_phi sc (place_in sc i.result) i.operation h) k p
            (next_there (look parts n) sc (place_in sc i.result) k p i.operation on)
        instruction b a None e h on = end b a (nat_eq p (length b.instructions)) h on

        block : (o : Option Block) → slice_get (blocks_of f) k ≡ o → is_stuck (option_map_or (λ b. action_at sc b p) o Action.Stuck) ≡ false → GoesOnFrom (look parts n) k p (option_map_or (λ b. action_at sc b p) o Action.Stuck)
            → IsTypedAction t (look parts) n k p (option_map_or (λ b. action_at sc b p) o Action.Stuck)
        block (Some b) e h on = instruction b (all_there (IsAskedBlock t (look parts) n sc f) (blocks_of f) k b asked e) (slice_get b.instructions p) refl h on
        block None e h on = absurd (true≢false h)

  -- where a function is looked up
  abbrev here : Option Defined → ℕ → ℕ → Action
  here o k p = option_map_or (λ d. look_in (scope_of (names_in parts d.0) d.1) k p) o Action.Stuck

  defined_typed : (n : ℕ) (i : ℕ) (f : Function) → function_at parts n ≡ Some (i, f) → 0 ≡ i → (j : ℕ) → slice_get m.functions j ≡ Some f → (k p : ℕ)
      → is_stuck (look_in (scope_of (names_in parts i) f) k p) ≡ false → GoesOnFrom (look parts n) k p (look_in (scope_of (names_in parts i) f) k p) → IsTypedAction t (look parts) n k p (look_in (scope_of (names_in parts i) f) k p)
  defined_typed n i f e first j is k p =
      let at_first : function_at parts n ≡ Some (0, f) = e ∙ ap (λ (x : ℕ). Some (x, f)) (sym first) in
      subst (λ x. is_stuck (look_in (scope_of (names_in parts x) f) k p) ≡ false → GoesOnFrom (look parts n) k p (look_in (scope_of (names_in parts x) f) k p) → IsTypedAction t (look parts) n k p (look_in (scope_of (names_in parts x) f) k p)) first
      (place_typed f j is n (ap (λ (o : Option Defined). option_map_or (λ d. frame_kinds (names_in parts d.0) d.1) o []) at_first) (ap (λ (o : Option Defined). option_map_or (λ d. kinds_of (shape_of (names_in parts d.0) d.1.returns)) o []) at_first) k p)

  function_typed : (n k p : ℕ) (o : Option Defined) → function_at parts n ≡ o → is_stuck (here o k p) ≡ false → GoesOnFrom (look parts n) k p (here o k p) → IsTypedAction t (look parts) n k p (here o k p)
  function_typed n k p None e h on = absurd (true≢false h)
  function_typed n k p (Some d) e h on = let own = function_here m n d e in defined_typed n d.0 d.1 e (sym own.0) own.1.0 own.1.1 k p h on

  pub program_typed : IsTypedLook parts
  program_typed =
      record {
        actions = λ n k p h. function_typed n k p (function_at parts n) refl h ((connected parts (is_valid m well_formed valid)).actions n k p h);
        callees = callees_typed parts (is_valid m well_formed valid);
      }

pub valid_is_typed : ValidIsTyped
valid_is_typed m well_formed valid = (program_typed m well_formed valid, plans_are_typed m well_formed valid)
