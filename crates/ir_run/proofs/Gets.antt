-- An instruction that wants a byte leaves a function under way.
use Rattle.std.proofs.Common.{◌≡◌, ℕ, zero, suc, ◌+◌, ◌*◌, Bool, true, false, List, [], ◌∷◌, Result, Ok, Err, subst}
use Rattle.std.specs.Prelude.{⊤, if◌then◌else◌, nat_le}
use Rattle.std.specs.List.{list_any}
use Rattle.ir_tables.specs.declared.undefined_kind.UndefinedKind.{UndefinedKind}
use Rattle.ir_tables.specs.declared.undefined_kind.UndefinedKind.TheVariants.{AnotherFunctionType}
use Rattle.ir_eval.specs.declared.value.Scalar.{Scalar}
use Rattle.ir_eval.specs.declared.value.Scalar.TheVariants.{Int, Ptr, Poison}
use Rattle.ir_memory.specs.Memory.{Blocks}
use Rattle.type_table.specs.Shape.{Shape}
use Rattle.run_rules.specs.Access.{has_room}
use Rattle.run_rules.specs.Act as acts
use Rattle.run_rules.specs.Action.{Action, Edge, Signature, Compute, Compare, Convert, Select, Freeze, Gather, Load, Store, Allocate, Displace, Call, Return, Jump, Branch, Switch, Unreachable, Stuck}
use Rattle.run_rules.specs.Answer.{Answer, Gives, Reads, Halts}
use Rattle.run_rules.specs.Calls.{Callee, Code, Host, Nothing, begun, called, called_at, entered, answered, exited, handed_back, same_signature}
use Rattle.run_rules.specs.Frame.{moved_on}
use Rattle.run_rules.specs.Host as hosts
use Rattle.run_rules.specs.declared.end.End.TheVariants.{StackLimit}
use Rattle.run_rules.specs.State.{Frame, Due, Core, Next, Goes, Gets, Stops, fails, on_top, weight, weight_limit, weights}
use Rattle.run_rules.specs.Step.{instruction}
use Rattle.run_actions.specs.Stack.UnderWay.{IsRunning}

-- where a byte is wanted a function is under way
abbrev RunsOn : Next → Type 0
RunsOn (Goes c output) = ⊤
RunsOn (Gets to c) = IsRunning c.frames
RunsOn (Stops end) = ⊤

-- a test chooses between two
either : (b : Bool) (x y : Next) → RunsOn x → RunsOn y → RunsOn (if b then x else y)
either true x y p q = p
either false x y p q = q

-- ---- calls

answered_on : (to : ℕ) (c : Core) (a : Answer) → IsRunning c.frames → RunsOn (answered to c a)
answered_on to c (Gives result m output) h = tt
answered_on to c Reads h = h
answered_on to c (Halts end) h = tt

entered_on : (f : Frame) (c : Core) → RunsOn (entered f c)
entered_on f c = either (nat_le (weights c.frames + weight f) weight_limit) (Goes (on_top f c) []) (Stops StackLimit) tt tt

called_on : (callee : Callee) (used : Signature) (shapes : List Shape) (vs : List Scalar) (to : ℕ) (c : Core) → IsRunning c.frames → RunsOn (called callee used shapes vs to c)
called_on (Code function signature leaves) used shapes vs to c h =
    either (same_signature signature used) (entered (begun function leaves vs to) c) (fails AnotherFunctionType) (entered_on (begun function leaves vs to) c) tt
called_on (Host row signatures) used shapes vs to c h =
    either (list_any (same_signature used) signatures) (answered to c (hosts.host row shapes vs c.memory)) (fails AnotherFunctionType)
    (answered_on to c (hosts.host row shapes vs c.memory) h) tt
called_on Nothing used shapes vs to c h = tt

called_at_on : (table : ℕ → Callee) (callee : Scalar) (used : Signature) (shapes : List Shape) (vs : List Scalar) (to : ℕ) (c : Core) → IsRunning c.frames → RunsOn (called_at table callee used shapes vs to c)
called_at_on table (Ptr p) used shapes vs to c h = called_on (table p.address) used shapes vs to c h
called_at_on table (Int n) used shapes vs to c h = tt
called_at_on table Poison used shapes vs to c h = tt

exited_on : (value : List Scalar) → RunsOn (exited value)
exited_on [] = tt
exited_on (Int n ∷ []) = tt
exited_on (Int n ∷ v ∷ vs) = tt
exited_on (Ptr p ∷ vs) = tt
exited_on (Poison ∷ vs) = tt

handed_back_on : (value : List Scalar) (to : ℕ) (fs : List Frame) (ds : List Due) (m : Blocks) → RunsOn (handed_back value to fs ds m)
handed_back_on value to [] [] m = exited_on value
handed_back_on value to [] (d ∷ ds) m = tt
handed_back_on value to (f ∷ fs) ds m = tt

-- ---- instructions

computed_on : (to : ℕ) (r : Result Scalar UndefinedKind) (f : Frame) (c : Core) → RunsOn (acts.computed to r f c)
computed_on to (Ok leaf) f c = tt
computed_on to (Err kind) f c = tt

loads_on : (to : ℕ) (r : Result (List Scalar) UndefinedKind) (f : Frame) (c : Core) → RunsOn (acts.loads to r f c)
loads_on to (Ok value) f c = tt
loads_on to (Err kind) f c = tt

stores_on : (r : Result Blocks UndefinedKind) (f : Frame) (c : Core) → RunsOn (acts.stores r f c)
stores_on (Ok m) f c = tt
stores_on (Err kind) f c = tt

allocates_on : (to size align : ℕ) (count : Scalar) (f : Frame) (c : Core) → RunsOn (acts.allocates_many to size align count f c)
allocates_on to size align (Int n) f c = either (has_room (n * size) c.memory) _ _ tt tt
allocates_on to size align (Ptr p) f c = tt
allocates_on to size align Poison f c = tt

branches_on : (v : Scalar) (then_edge else_edge : Edge) (f : Frame) (c : Core) → RunsOn (acts.branches v then_edge else_edge f c)
branches_on (Int zero) then_edge else_edge f c = tt
branches_on (Int (suc n)) then_edge else_edge f c = tt
branches_on (Ptr p) then_edge else_edge f c = tt
branches_on Poison then_edge else_edge f c = tt

switches_on : (v : Scalar) (otherwise : Edge) (cases : List (ℕ × Edge)) (f : Frame) (c : Core) → RunsOn (acts.switches v otherwise cases f c)
switches_on (Int n) otherwise cases f c = tt
switches_on (Ptr p) otherwise cases f c = tt
switches_on Poison otherwise cases f c = tt

-- class by class
act_on : (table : ℕ → Callee) (a : Action) (f : Frame) (c : Core) → RunsOn (acts.act table a f c)
act_on table (Compute to opcode flags width left right) f c = computed_on to _ f c
act_on table (Compare to predicate samesign width left right) f c = tt
act_on table (Convert to opcode flags from_width to_width value) f c = tt
act_on table (Select to condition arms) f c = tt
act_on table (Freeze to value) f c = tt
act_on table (Gather to value) f c = tt
act_on table (Load to align address slots) f c = loads_on to _ f c
act_on table (Store align address value) f c = stores_on _ f c
act_on table (Allocate to size align count) f c = allocates_on to size align _ f c
act_on table (Displace to inbounds base terms) f c = tt
act_on table (Call to signature callee shapes arguments) f c = called_at_on table _ signature shapes _ to (on_top (moved_on f) c) tt
act_on table (Return value) f c = handed_back_on _ f.to c.frames c.due _
act_on table (Jump edge) f c = tt
act_on table (Branch condition then_edge else_edge) f c = branches_on _ then_edge else_edge f c
act_on table (Switch value otherwise cases) f c = switches_on _ otherwise cases f c
act_on table Unreachable f c = tt
act_on table Stuck f c = tt

instruction_on : (look : ℕ → ℕ → ℕ → Action) (table : ℕ → Callee) (fs : List Frame) (ds : List Due) (m : Blocks) → RunsOn (instruction look table fs ds m)
instruction_on look table [] ds m = tt
instruction_on look table (f ∷ fs) ds m = act_on table (look f.function f.block f.position) f (record { frames = fs; due = ds; memory = m })

pub gets_running : (look : ℕ → ℕ → ℕ → Action) (table : ℕ → Callee) (fs : List Frame) (ds : List Due) (m : Blocks) (to : ℕ) (c : Core) → instruction look table fs ds m ≡ Gets to c → IsRunning c.frames
gets_running look table fs ds m to c e = subst RunsOn e (instruction_on look table fs ds m)
