-- For `equal_look_ups_give_equal_runs`: entering functions and leaving them.
use Rattle.std.specs.Prelude.{ℕ, ◌+◌, ◌-◌, ◌%◌, Bool, true, false, ◌&&◌, nat_le, List, [], ◌∷◌, ◌++◌, length, replicate, if◌then◌else◌}
use Rattle.std.specs.Bool.{beq}
use Rattle.std.specs.List.{list_any}
use Rattle.ir_tables.specs.declared.undefined_kind.UndefinedKind.TheVariants.{PoisonAddress, PoisonArgument, NoFunction, AnotherFunctionType}
use Rattle.ir_eval.specs.declared.value.Scalar.{Scalar}
use Rattle.ir_eval.specs.declared.value.Scalar.TheVariants.{Int, Ptr, Poison}
use Rattle.ir_memory.specs.Memory.{Blocks}
use Rattle.module_arena.specs.declared.host.HostRow.{HostRow}
use Rattle.type_table.specs.Shape.{Shape}
use Rattle.linkage_rules.specs.SameShape.{same_shape}
use Rattle.run_rules.specs.Action.{Signature}
use Rattle.run_rules.specs.Access.{released}
use Rattle.run_rules.specs.Frame.{with_value}
use Rattle.run_rules.specs.Answer.{Answer, Gives, Reads, Halts}
use Rattle.run_rules.specs.Host.{host}
use Rattle.run_rules.specs.State.{Frame, Due, Core, Exit, StackLimit, Next, Goes, Gets, Stops, weights, weight, weight_limit, on_top, fails}

-- what has an address: a function that some part defines, with the leaves of its parameters and results; a host function
-- with its types; or nothing
pub data Callee : Type 0 where
  Code : (function : ℕ) → (signature : Signature) → (leaves : ℕ) → Callee
  Host : (row : HostRow) → (signatures : List Signature) → Callee
  Nothing : Callee

-- shape by shape
abbrev pub same_shape_list : List Shape → List Shape → Bool
same_shape_list [] [] = true
same_shape_list (s ∷ ss) (t ∷ ts) = same_shape s t && same_shape_list ss ts
same_shape_list [] (t ∷ ts) = false
same_shape_list (s ∷ ss) [] = false

-- two function types have one shape
abbrev pub same_signature : Signature → Signature → Bool
same_signature a b = same_shape a.returns b.returns && (same_shape_list a.parameters b.parameters && beq a.variadic b.variadic)

-- a function at its first instruction: the parameters are the arguments, and there is no result yet
abbrev pub begun : ℕ → ℕ → List Scalar → ℕ → Frame
begun function leaves arguments to =
    record { function = function; block = 0; position = 0; leaves = arguments ++ replicate (leaves - length arguments) Poison; allocas = []; to = to }

-- one frame more, unless all would weigh too much
abbrev pub entered : Frame → Core → Next
entered f c = if nat_le (weights c.frames + weight f) weight_limit then Goes (on_top f c) [] else Stops StackLimit

-- the result goes to the function that called, if one did
abbrev pub handed : ℕ → List Scalar → List Frame → List Frame
handed to value [] = []
handed to value (f ∷ fs) = with_value f to value ∷ fs

-- what the host answered, on behalf of the newest frame
abbrev pub answered : ℕ → Core → Answer → Next
answered to c (Gives result memory output) = Goes (record c { frames = handed to result c.frames; memory = memory }) output
answered to c Reads = Gets to c
answered to c (Halts end) = Stops end

-- a call by the address and the type that it is made with
abbrev pub called : Callee → Signature → List Shape → List Scalar → ℕ → Core → Next
called (Code function signature leaves) used shapes arguments to c =
    if same_signature signature used then entered (begun function leaves arguments to) c else fails AnotherFunctionType
called (Host row signatures) used shapes arguments to c =
    if list_any (same_signature used) signatures then answered to c (host row shapes arguments c.memory) else fails AnotherFunctionType
called Nothing used shapes arguments to c = fails NoFunction

-- a call of a pointer: only its address counts
abbrev pub called_at : (ℕ → Callee) → Scalar → Signature → List Shape → List Scalar → ℕ → Core → Next
called_at table (Ptr p) used shapes arguments to c = called (table p.address) used shapes arguments to c
called_at table (Int n) used shapes arguments to c = fails PoisonAddress
called_at table Poison used shapes arguments to c = fails PoisonAddress

-- what main gives is the status
abbrev pub exited : List Scalar → Next
exited (Int n ∷ []) = Stops (Exit (n % 256))
exited _ = fails PoisonArgument

-- Main is due last: where no function is left and none is due, it was main that returned
abbrev pub handed_back : List Scalar → ℕ → List Frame → List Due → Blocks → Next
handed_back value to [] [] m = exited value
handed_back value to [] (d ∷ ds) m = Goes (record { frames = []; due = d ∷ ds; memory = m }) []
handed_back value to (f ∷ fs) ds m = Goes (record { frames = with_value f to value ∷ fs; due = ds; memory = m }) []

-- the frame is left, and its allocas end
abbrev pub returned : List Scalar → Frame → Core → Next
returned value f c = handed_back value f.to c.frames c.due (released f.allocas c.memory)
