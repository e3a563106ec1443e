-- For `equal_look_ups_give_equal_runs`: what an action does. It sees no part: all that it needs to know of the program is what
-- each address has.
use Rattle.std.specs.Prelude.{ℕ, zero, suc, ◌*◌, nat_eq, List, [], ◌∷◌, map, Result, Ok, Err, if◌then◌else◌}
use Rattle.ir_tables.specs.declared.undefined_kind.UndefinedKind.{UndefinedKind}
use Rattle.ir_tables.specs.declared.undefined_kind.UndefinedKind.TheVariants.{BranchOnPoison, PoisonArgument}
use Rattle.ir_tables.specs.declared.undefined_kind.UndefinedKind.TheVariants as kinds
use Rattle.ir_eval.specs.declared.value.Scalar.{Scalar}
use Rattle.ir_eval.specs.declared.value.Scalar.TheVariants.{Int, Ptr, Poison}
use Rattle.ir_eval.specs.Operators.{binary_of, select_of, freeze_of}
use Rattle.ir_eval.specs.Compare.{compare_of}
use Rattle.ir_eval.specs.Cast.{cast_of}
use Rattle.ir_memory.specs.declared.kind.BlockKind.TheVariants.{Stack}
use Rattle.ir_memory.specs.Memory.{Blocks, added, bounds_at}
use Rattle.run_rules.specs.Action.{Edge, Action, Compute, Compare, Convert, Select, Freeze, Gather, Load, Store, Allocate, Displace, Call, Return, Jump, Branch, Switch, Unreachable, Stuck}
use Rattle.run_rules.specs.Access.{loaded_value, stored_value, has_room, next_block}
use Rattle.run_rules.specs.Calls.{Callee, called_at, returned}
use Rattle.run_rules.specs.Displace.{displaced, reach_of}
use Rattle.run_rules.specs.Frame.{read, read_all, with_result, moved_on, followed}
use Rattle.run_rules.specs.State.{Frame, Core, Next, Stops, MemoryLimit, on_top, goes, fails}

-- the result is this leaf
abbrev pub gives : ℕ → Scalar → Frame → Core → Next
gives to leaf f c = goes (with_result f to (leaf ∷ [])) c

-- the result is this leaf, unless the instruction is undefined
abbrev pub computed : ℕ → Result Scalar UndefinedKind → Frame → Core → Next
computed to (Ok leaf) f c = gives to leaf f c
computed to (Err kind) f c = fails kind

-- the result is what was loaded
abbrev pub loads : ℕ → Result (List Scalar) UndefinedKind → Frame → Core → Next
loads to (Ok value) f c = goes (with_result f to value) c
loads to (Err kind) f c = fails kind

-- memory is what it is after the store
abbrev pub stores : Result Blocks UndefinedKind → Frame → Core → Next
stores (Ok m) f c = goes (moved_on f) (record c { memory = m })
stores (Err kind) f c = fails kind

-- one block more, that ends when the function returns
abbrev pub added_alloca : ℕ → ℕ → ℕ → Frame → Core → Next
added_alloca to size align f c =
    gives to (Ptr (next_block align c.memory)) (record f { allocas = next_block align c.memory ∷ f.allocas }) (record c { memory = added size align Stack c.memory })

-- a block of so many bytes, unless too many would live
abbrev pub allocates : ℕ → ℕ → ℕ → Frame → Core → Next
allocates to size align f c = if has_room size c.memory then added_alloca to size align f c else Stops MemoryLimit

-- a count is unsigned
abbrev pub allocates_many : ℕ → ℕ → ℕ → Scalar → Frame → Core → Next
allocates_many to size align (Int count) f c = allocates to (count * size) align f c
allocates_many to size align (Ptr p) f c = fails PoisonArgument
allocates_many to size align Poison f c = fails PoisonArgument

-- zero goes to the second edge, any other number to the first
abbrev pub branches : Scalar → Edge → Edge → Frame → Core → Next
branches (Int zero) then_edge else_edge f c = goes (followed else_edge f) c
branches (Int (suc n)) then_edge else_edge f c = goes (followed then_edge f) c
branches (Ptr p) then_edge else_edge f c = fails BranchOnPoison
branches Poison then_edge else_edge f c = fails BranchOnPoison

-- the edge of the first case with that number
abbrev pub case_of : ℕ → Edge → List (ℕ × Edge) → Edge
case_of number otherwise [] = otherwise
case_of number otherwise (x ∷ xs) = if nat_eq x.0 number then x.1 else case_of number otherwise xs

-- goes to the case of the number
abbrev pub switches : Scalar → Edge → List (ℕ × Edge) → Frame → Core → Next
switches (Int number) otherwise cases f c = goes (followed (case_of number otherwise cases) f) c
switches (Ptr p) otherwise cases f c = fails BranchOnPoison
switches Poison otherwise cases f c = fails BranchOnPoison

-- What the action of the newest frame f does, where c has the frames below it. `table` gives what an address has. Where no
-- instruction is there the end is that of `unreachable`; runs of valid modules do not come to it
abbrev pub act : (ℕ → Callee) → Action → Frame → Core → Next
act table (Compute to opcode flags width left right) f c = computed to (binary_of opcode flags width (read f left) (read f right)) f c
act table (Compare to predicate samesign width left right) f c = gives to (compare_of predicate samesign width (read f left) (read f right)) f c
act table (Convert to opcode flags from_width to_width value) f c = gives to (cast_of opcode flags from_width to_width (read f value)) f c
act table (Select to condition arms) f c = goes (with_result f to (map (λ arm. select_of (read f condition) (read f arm.0) (read f arm.1)) arms)) c
act table (Freeze to value) f c = goes (with_result f to (map (λ x. freeze_of x.0 (read f x.1)) value)) c
act table (Gather to value) f c = goes (with_result f to (read_all f value)) c
act table (Load to align address slots) f c = loads to (loaded_value c.memory (read f address) align slots) f c
act table (Store align address value) f c = stores (stored_value (read f address) align (map (λ x. (x.0, read f x.1)) value) c.memory) f c
act table (Allocate to size align count) f c = allocates_many to size align (read f count) f c
act table (Displace to inbounds base terms) f c =
    gives to (displaced (λ p. bounds_at c.memory.list p.block) inbounds (read f base) (reach_of (read f) terms)) f c
act table (Call to signature callee shapes arguments) f c =
    called_at table (read f callee) signature shapes (read_all f arguments) to (on_top (moved_on f) c)
act table (Return value) f c = returned (read_all f value) f c
act table (Jump edge) f c = goes (followed edge f) c
act table (Branch condition then_edge else_edge) f c = branches (read f condition) then_edge else_edge f c
act table (Switch value otherwise cases) f c = switches (read f value) otherwise cases f c
act table Unreachable f c = fails kinds.Unreachable
act table Stuck f c = fails kinds.Unreachable
