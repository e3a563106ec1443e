-- For `step` of a machine: which instructions may want memory, and which ask for a byte of the input.
use Rattle.std.specs.Prelude.{ℕ, Bool, true, false, ◌||◌, nat_lt, List, [], ◌∷◌, length}
use Rattle.std.specs.List.{list_any}
use Rattle.run_rules.specs.Action.{Action, Compute, Compare, Convert, Select, Freeze, Gather, Load, Store, Allocate, Displace, Call, Return, Jump, Branch, Switch, Unreachable, Stuck}
use Rattle.run_rules.specs.Calls.{Callee}
use Rattle.run_rules.specs.Leaves.{is_pointer}
use Rattle.run_rules.specs.State.{Frame, State, Next, Goes, Gets, Stops}
use Rattle.run_rules.specs.Step.{Step, GoesOn, IsOver, entered, next_of}

-- an integer or a pointer has one leaf; what has more is an array or a struct
abbrev pub is_wide : {A : Type 0} → List A → Bool
is_wide leaves = nat_lt 1 (length leaves)

-- a call, an alloca, a store of a pointer, and what works on arrays and structs. Edges have their room with the frame
abbrev pub wants_memory : Action → Bool
wants_memory (Compute to opcode flags width left right) = false
wants_memory (Compare to predicate samesign width left right) = false
wants_memory (Convert to opcode flags from_width to_width value) = false
wants_memory (Select to condition arms) = is_wide arms
wants_memory (Freeze to value) = is_wide value
wants_memory (Gather to value) = true
wants_memory (Load to align address slots) = is_wide slots
wants_memory (Store align address value) = is_wide value || list_any (λ x. is_pointer x.0.leaf) value
wants_memory (Allocate to size align count) = true
wants_memory (Displace to inbounds base terms) = false
wants_memory (Call to signature callee shapes arguments) = true
wants_memory (Return value) = is_wide value
wants_memory (Jump edge) = false
wants_memory (Branch condition then_edge else_edge) = false
wants_memory (Switch value otherwise cases) = false
wants_memory Unreachable = false
wants_memory Stuck = false

-- where no function is under way, a constructor or main is entered
abbrev pub may_want_memory : (ℕ → ℕ → ℕ → Action) → List Frame → Bool
may_want_memory look [] = true
may_want_memory look (f ∷ fs) = wants_memory (look f.function f.block f.position)

-- an instruction asks for a byte
abbrev pub gets : Next → Bool
gets (Goes c written) = false
gets (Gets to c) = true
gets (Stops end) = false

-- the same of a state whose due functions are entered
abbrev pub asks_in : (ℕ → ℕ → ℕ → Action) → (ℕ → Callee) → Step → Bool
asks_in look table (GoesOn s) = gets (next_of look table s.core)
asks_in look table (IsOver end s) = false

-- the next instruction is a call of getchar
abbrev pub asks : (ℕ → ℕ → ℕ → Action) → (ℕ → Callee) → State → Bool
asks look table s = asks_in look table (entered table s)
