-- What is stored carries an action out, and where memory is wanted for it.
use Rattle.std.proofs.Common.{◌≡◌, ℕ, zero, suc, ◌<◌, Bool, true, false, ◌||◌, List, [], ◌∷◌, ◌++◌, length, map, Result, Ok, Err, refl, sym, ap, ap₂, ◌∙◌, arith}
use Rattle.std.specs.Prelude.{nat_eq, nat_lt, zip}
use Rattle.std.specs.List.{list_any}
use Rattle.std.proofs.lemmas.Bool.{lt-ltb}
use Rattle.std.proofs.lemmas.Simd.{map-map}
use Rattle.ir_eval.specs.declared.value.Scalar.{Scalar}
use Rattle.ir_memory.specs.declared.fault.MemoryFault.{MemoryFault}
use Rattle.ir_memory.specs.declared.fault.MemoryFault.TheVariants as faults
use Rattle.ir_memory.specs.Memory.{Blocks}
use Rattle.ir_tables.specs.declared.undefined_kind.UndefinedKind.{UndefinedKind}
use Rattle.run_rules.specs.Access.{stored_value}
use Rattle.run_rules.specs.Act.{stores}
use Rattle.run_rules.specs.Action.{Action, Store}
use Rattle.run_rules.specs.Action as actions
use Rattle.run_rules.specs.Calls.{Callee}
use Rattle.run_rules.specs.Frame.{read, read_all, moved_on}
use Rattle.run_rules.specs.Leaves.{Slot, is_pointer}
use Rattle.run_rules.specs.State.{Frame, Due, Goes}
use Rattle.run_rules.specs.Wants.{is_wide}
use Rattle.run_actions.specs.declared.stack.origin.Origin.{Origin}
use Rattle.run_actions.specs.Stack.Origins.{origin_of}
use Rattle.run_actions.specs.Stack.UnderWay.{UnderWay, IsRunning, changed, newest, older, on_newest}
use Rattle.run_names.specs.Values.Answer.{Stores}
use Rattle.run_names.proofs.OnValues.Stored.{zip_long}
use Rattle.run_actions.specs.Carried.{acted, core_of}
use Rattle.run_actions.specs.Operands.{leaf_of}
use Rattle.run_actions.specs.Accesses.Done.{Accesses, IsDone, IsStoredAt}

-- ---- any action

goes_on : (change : Frame → Frame) (fs : List Frame) (due : List Due) (n : Blocks) → IsRunning fs → Goes (core_of (change (newest fs) ∷ older fs) due n) [] ≡ Goes (core_of (on_newest change fs) due n) []
goes_on change [] due n h = absurd h
goes_on change (f ∷ fs) due n h = refl

-- it goes on with the newest frame changed, and with that memory
pub done : (action : Action) (change : Frame → Frame) (old new : UnderWay) (m n : Blocks) → IsRunning old.frames → new ≡ changed change old
    → ((table : ℕ → Callee) (due : List Due) → acted table action old.frames due m ≡ Goes (core_of (change (newest old.frames) ∷ older old.frames) due n) [])
    → IsDone action old new m n
done action change old new m n running is says =
    record {
      goes = λ table due. says table due ∙ goes_on change old.frames due n running ∙ ap (λ (u : UnderWay). Goes (core_of u.frames due n) []) (sym is);
      width = ap (λ (u : UnderWay). u.widest) is;
    }

-- ---- stores

-- the leaves of a value as they are read
zipped : (f : Frame) (slots : List Slot) (value : List Origin) → map (λ (x : Slot × actions.Origin). (x.0, read f x.1)) (zip slots (map origin_of value)) ≡ zip slots (map (λ o. read f (origin_of o)) value)
zipped f [] value = refl
zipped f (s ∷ ss) [] = refl
zipped f (s ∷ ss) (o ∷ os) = ap (λ xs. (s, read f (origin_of o)) ∷ xs) (zipped f ss os)

-- leaves with their slots, whatever they are had from
as_many : {A B : Type 0} (f : Origin → A) (g : Origin → B) (slots : List Slot) (value : List Origin) → length (zip slots (map f value)) ≡ length (zip slots (map g value))
as_many f g [] value = refl
as_many f g (s ∷ ss) [] = refl
as_many f g (s ∷ ss) (o ∷ os) = ap suc (as_many f g ss os)

as_pointers : {A B : Type 0} (f : Origin → A) (g : Origin → B) (slots : List Slot) (value : List Origin)
    → list_any (λ (x : Slot × A). is_pointer x.0.leaf) (zip slots (map f value)) ≡ list_any (λ (x : Slot × B). is_pointer x.0.leaf) (zip slots (map g value))
as_pointers f g [] value = refl
as_pointers f g (s ∷ ss) [] = refl
as_pointers f g (s ∷ ss) (o ∷ os) = ap (λ b. is_pointer s.leaf || b) (as_pointers f g ss os)

module _ (align : ℕ) (address : Origin) (slots : List Slot) (value : List Origin) (old : UnderWay) (m : Blocks) where
  abbrev the_store : Action
  the_store = Store align (origin_of address) (zip slots (map origin_of value))

  -- what a store does, by what memory is after it
  storing : (r : Result Blocks UndefinedKind) → stored_value (leaf_of old address) align (zip slots (map (leaf_of old) value)) m ≡ r
      → (table : ℕ → Callee) (due : List Due) → acted table the_store old.frames due m ≡ stores r (newest old.frames) (core_of (older old.frames) due m)
  storing r e table due =
      ap (λ xs. stores (stored_value (leaf_of old address) align xs m) (newest old.frames) (core_of (older old.frames) due m)) (zipped (newest old.frames) slots value)
      ∙ ap (λ (r : Result Blocks UndefinedKind). stores r (newest old.frames) (core_of (older old.frames) due m)) e

  pub stored : (new : UnderWay) (n : Blocks) → IsRunning old.frames → new ≡ changed moved_on old → stored_value (leaf_of old address) align (zip slots (map (leaf_of old) value)) m ≡ Ok n → IsDone the_store old new m n
  stored new n running is e = done the_store moved_on old new m n running is (storing (Ok n) e)

  wants_as : (is_wide (zip slots (map origin_of value)) || list_any (λ x. is_pointer x.0.leaf) (zip slots (map origin_of value)))
      ≡ (is_wide (zip slots (map (leaf_of old) value)) || list_any (λ x. is_pointer x.0.leaf) (zip slots (map (leaf_of old) value)))
  wants_as = λ i. nat_lt 1 (as_many origin_of (leaf_of old) slots value i) || as_pointers origin_of (leaf_of old) slots value i

  pub store_refused : (v : Scalar) (n : Blocks) (fault : MemoryFault) → v ≡ leaf_of old address → IsStoredAt {T = Unit {0}} v align (zip slots (map (leaf_of old) value)) (Err fault) m n
      → Accesses {T = Unit {0}} the_store (Err fault) old old m n
  store_refused v n (faults.Undefined kind) e h = storing (Err kind) (ap (λ v. stored_value v align (zip slots (map (leaf_of old) value)) m) (sym e) ∙ h)
  store_refused v n faults.Memory e h = wants_as ∙ h
  store_refused v n faults.MemoryLimit e h = absurd h

-- ---- what is stored

-- the leaves of a value, put into room that was empty
pub leaves_read : (s : UnderWay) (value : List Origin) (old items leaves : List Scalar) → old ≡ [] → items ≡ old ++ read_all (newest s.frames) (map origin_of value) → leaves ≡ items → leaves ≡ map (leaf_of s) value
leaves_read s value old items leaves none added same =
    same ∙ added ∙ ap (λ l. l ++ read_all (newest s.frames) (map origin_of value)) none ∙ map-map (read (newest s.frames)) origin_of value

-- neither none nor one
pub many : (n : ℕ) → false ≡ nat_eq n 0 → (n ≡ 1 → ⊥) → 1 < n
many zero some other = cc
many (suc zero) some other = absurd (other refl)
many (suc (suc n)) some other = omega arith

-- many leaves want memory
pub many_want : (slots : List Slot) (leaves : List Scalar) (b : Bool) → length leaves ≡ length slots → 1 < length slots → (is_wide (zip slots leaves) || b) ≡ true
many_want slots leaves b same more =
    let long = zip_long slots leaves same in
    let less : 1 < length (zip slots leaves) = omega (arith, long, more) in
    ap (λ w. w || b) (lt-ltb 1 (length (zip slots leaves)) less)

-- one leaf, and its slot
pub alone : (s : UnderWay) (slots : List Slot) (value : List Origin) (slot : Slot) (o : Origin) (v : Scalar) → slots ≡ slot ∷ [] → value ≡ o ∷ [] → v ≡ leaf_of s o → zip slots (map (leaf_of s) value) ≡ (slot, v) ∷ []
alone s slots value slot o v one_slot one_leaf is =
    ap₂ (λ (slots : List Slot) (value : List Origin). zip slots (map (leaf_of s) value)) one_slot one_leaf ∙ ap (λ (v : Scalar). (slot, v) ∷ []) (sym is)

-- a store of leaves one after another, where memory may be wanted
pub all_stored : (address : Scalar) (align : ℕ) (value : List (Slot × Scalar)) (old new : Blocks) (r : Result (Unit {0}) MemoryFault) → Stores (stored_value address align value old) new r
    → (is_wide value || list_any (λ x. is_pointer x.0.leaf) value) ≡ true → IsStoredAt address align value r old new
all_stored address align value old new (Ok done) h wants = h
all_stored address align value old new (Err (faults.Undefined kind)) h wants = h
all_stored address align value old new (Err faults.Memory) h wants = wants
all_stored address align value old new (Err faults.MemoryLimit) h wants = absurd h
