-- Each way in which a run can end is an end of runs.
use Rattle.std.proofs.Common.{ℕ, zero, suc, ◌+◌, ◌*◌, ◌%◌, Bool, true, false, List, [], ◌∷◌, Result, Ok, Err}
use Rattle.std.specs.Prelude.{⊤, if◌then◌else◌, nat_eq, nat_le}
use Rattle.std.specs.List.{list_any}
use Rattle.ir_tables.specs.declared.undefined_kind.UndefinedKind.{UndefinedKind}
use Rattle.ir_tables.specs.declared.undefined_kind.UndefinedKind.TheVariants.{AnotherFunctionType}
use Rattle.ir_eval.specs.declared.value.Pointer.{Pointer}
use Rattle.ir_eval.specs.declared.value.Scalar.{Scalar}
use Rattle.ir_eval.specs.declared.value.Scalar.TheVariants.{Int, Ptr, Poison}
use Rattle.ir_memory.specs.declared.kind.BlockKind.TheVariants.{Heap}
use Rattle.ir_memory.specs.Memory.{Blocks, copied, ended, filled}
use Rattle.module_arena.specs.declared.host.HostRow.{HostRow}
use Rattle.module_arena.specs.declared.host.HostRow.TheVariants.{Putchar, Puts, Getchar, Exit, Abort, Malloc, Free, Memcpy, Memmove, Memset, Strlen, MemcpyI64, MemmoveI64, MemsetI64, MemcpyI32, MemmoveI32, MemsetI32, LifetimeStart, LifetimeEnd, Printf, Integer}
use Rattle.type_table.specs.Shape.{Shape}
use Rattle.run_rules.specs.Access.{has_room, string_at}
use Rattle.run_rules.specs.Act as acts
use Rattle.run_rules.specs.Action.{Action, Edge, Signature, Compute, Compare, Convert, Select, Freeze, Gather, Load, Store, Allocate, Displace, Call, Return, Jump, Branch, Switch, Unreachable, Stuck}
use Rattle.run_rules.specs.Answer.{Answer, Gives, Reads, Halts, changes}
use Rattle.run_rules.specs.Calls.{Callee, Code, Host, Nothing, begun, called, called_at, entered, answered, exited, handed_back, same_signature}
use Rattle.run_rules.specs.Due.{called_due}
use Rattle.run_rules.specs.Host as hosts
use Rattle.run_rules.specs.Printing.{printed, prints}
use Rattle.run_rules.specs.declared.end.End.TheVariants.{StackLimit}
use Rattle.run_rules.specs.State.{Frame, Due, Constructor, Main, MainWith, Core, State, Next, Goes, Gets, Stops, fails, on_top, weight, weight_limit, weights}
use Rattle.run_rules.specs.Step.{Step, GoesOn, IsOver, advanced, called_while_idle, carried, counted, instruction, step, then_on, took, used_up}
use Rattle.run_actions.specs.Ends.Ends.{EndsSo, IsOfRuns}
use Rattle.run_actions.specs.Ends.Laws.{RunsEndSo}

-- where a host function ends the program
abbrev pub AnswersSo : Answer → Type 0
AnswersSo (Gives result memory output) = ⊤
AnswersSo Reads = ⊤
AnswersSo (Halts end) = IsOfRuns end

-- where an instruction ends the program
abbrev pub ComesSo : Next → Type 0
ComesSo (Goes core output) = ⊤
ComesSo (Gets to core) = ⊤
ComesSo (Stops end) = IsOfRuns end

-- a test chooses between two
either : {A : Type 0} (P : A → Type 0) (b : Bool) (x y : A) → P x → P y → P (if b then x else y)
either P true x y p q = p
either P false x y p q = q

-- ---- host functions

changes_so : (result : List Scalar) (r : Result Blocks UndefinedKind) → AnswersSo (changes result r)
changes_so result (Ok m) = tt
changes_so result (Err kind) = tt

puts_so : (m : Blocks) (r : Result (List ℕ) UndefinedKind) → AnswersSo (hosts.puts_line m r)
puts_so m (Ok bytes) = tt
puts_so m (Err kind) = tt

counts_so : (m : Blocks) (r : Result (List ℕ) UndefinedKind) → AnswersSo (hosts.counts m r)
counts_so m (Ok bytes) = tt
counts_so m (Err kind) = tt

frees_so : (p : Pointer) (m : Blocks) → AnswersSo (hosts.frees p m)
frees_so p m = either AnswersSo (nat_eq p.address 0) _ _ tt (changes_so [] (ended (Ptr p) Heap m))

-- a row by its arguments
done_so : (row : HostRow) (vs : List Scalar) (m : Blocks) → AnswersSo (hosts.done row vs m)
done_so Putchar [] m = tt
done_so Putchar (Int n ∷ []) m = tt
done_so Putchar (Int n ∷ w ∷ ws) m = tt
done_so Putchar (Ptr p ∷ ws) m = tt
done_so Putchar (Poison ∷ ws) m = tt
done_so Exit [] m = tt
done_so Exit (Int n ∷ []) m = tt
done_so Exit (Int n ∷ w ∷ ws) m = tt
done_so Exit (Ptr p ∷ ws) m = tt
done_so Exit (Poison ∷ ws) m = tt
done_so Malloc [] m = tt
done_so Malloc (Int n ∷ []) m = either AnswersSo (has_room n m) _ _ tt tt
done_so Malloc (Int n ∷ w ∷ ws) m = tt
done_so Malloc (Ptr p ∷ ws) m = tt
done_so Malloc (Poison ∷ ws) m = tt
done_so Puts [] m = tt
done_so Puts (Int n ∷ ws) m = tt
done_so Puts (Ptr p ∷ []) m = puts_so m (string_at m p)
done_so Puts (Ptr p ∷ w ∷ ws) m = tt
done_so Puts (Poison ∷ ws) m = tt
done_so Strlen [] m = tt
done_so Strlen (Int n ∷ ws) m = tt
done_so Strlen (Ptr p ∷ []) m = counts_so m (string_at m p)
done_so Strlen (Ptr p ∷ w ∷ ws) m = tt
done_so Strlen (Poison ∷ ws) m = tt
done_so Free [] m = tt
done_so Free (Int n ∷ ws) m = tt
done_so Free (Ptr p ∷ []) m = frees_so p m
done_so Free (Ptr p ∷ w ∷ ws) m = tt
done_so Free (Poison ∷ ws) m = tt
done_so Memcpy [] m = tt
done_so Memcpy (a ∷ []) m = tt
done_so Memcpy (a ∷ b ∷ []) m = tt
done_so Memcpy (a ∷ b ∷ Int n ∷ []) m = changes_so _ (copied a b n false m)
done_so Memcpy (a ∷ b ∷ Int n ∷ w ∷ ws) m = tt
done_so Memcpy (a ∷ b ∷ Ptr p ∷ ws) m = tt
done_so Memcpy (a ∷ b ∷ Poison ∷ ws) m = tt
done_so Memmove [] m = tt
done_so Memmove (a ∷ []) m = tt
done_so Memmove (a ∷ b ∷ []) m = tt
done_so Memmove (a ∷ b ∷ Int n ∷ []) m = changes_so _ (copied a b n true m)
done_so Memmove (a ∷ b ∷ Int n ∷ w ∷ ws) m = tt
done_so Memmove (a ∷ b ∷ Ptr p ∷ ws) m = tt
done_so Memmove (a ∷ b ∷ Poison ∷ ws) m = tt
done_so Memset [] m = tt
done_so Memset (a ∷ []) m = tt
done_so Memset (a ∷ Int b ∷ []) m = tt
done_so Memset (a ∷ Ptr p ∷ ws) m = tt
done_so Memset (a ∷ Poison ∷ ws) m = tt
done_so Memset (a ∷ Int b ∷ Int n ∷ []) m = changes_so _ (filled a (b % 256) n m)
done_so Memset (a ∷ Int b ∷ Int n ∷ w ∷ ws) m = tt
done_so Memset (a ∷ Int b ∷ Ptr p ∷ ws) m = tt
done_so Memset (a ∷ Int b ∷ Poison ∷ ws) m = tt
done_so MemcpyI64 [] m = tt
done_so MemcpyI64 (a ∷ []) m = tt
done_so MemcpyI64 (a ∷ b ∷ []) m = tt
done_so MemcpyI64 (a ∷ b ∷ Int n ∷ []) m = tt
done_so MemcpyI64 (a ∷ b ∷ Int n ∷ v ∷ []) m = changes_so _ (copied a b n false m)
done_so MemcpyI64 (a ∷ b ∷ Int n ∷ v ∷ w ∷ ws) m = tt
done_so MemcpyI64 (a ∷ b ∷ Ptr p ∷ ws) m = tt
done_so MemcpyI64 (a ∷ b ∷ Poison ∷ ws) m = tt
done_so MemmoveI64 [] m = tt
done_so MemmoveI64 (a ∷ []) m = tt
done_so MemmoveI64 (a ∷ b ∷ []) m = tt
done_so MemmoveI64 (a ∷ b ∷ Int n ∷ []) m = tt
done_so MemmoveI64 (a ∷ b ∷ Int n ∷ v ∷ []) m = changes_so _ (copied a b n true m)
done_so MemmoveI64 (a ∷ b ∷ Int n ∷ v ∷ w ∷ ws) m = tt
done_so MemmoveI64 (a ∷ b ∷ Ptr p ∷ ws) m = tt
done_so MemmoveI64 (a ∷ b ∷ Poison ∷ ws) m = tt
done_so MemcpyI32 [] m = tt
done_so MemcpyI32 (a ∷ []) m = tt
done_so MemcpyI32 (a ∷ b ∷ []) m = tt
done_so MemcpyI32 (a ∷ b ∷ Int n ∷ []) m = tt
done_so MemcpyI32 (a ∷ b ∷ Int n ∷ v ∷ []) m = changes_so _ (copied a b n false m)
done_so MemcpyI32 (a ∷ b ∷ Int n ∷ v ∷ w ∷ ws) m = tt
done_so MemcpyI32 (a ∷ b ∷ Ptr p ∷ ws) m = tt
done_so MemcpyI32 (a ∷ b ∷ Poison ∷ ws) m = tt
done_so MemmoveI32 [] m = tt
done_so MemmoveI32 (a ∷ []) m = tt
done_so MemmoveI32 (a ∷ b ∷ []) m = tt
done_so MemmoveI32 (a ∷ b ∷ Int n ∷ []) m = tt
done_so MemmoveI32 (a ∷ b ∷ Int n ∷ v ∷ []) m = changes_so _ (copied a b n true m)
done_so MemmoveI32 (a ∷ b ∷ Int n ∷ v ∷ w ∷ ws) m = tt
done_so MemmoveI32 (a ∷ b ∷ Ptr p ∷ ws) m = tt
done_so MemmoveI32 (a ∷ b ∷ Poison ∷ ws) m = tt
done_so MemsetI64 [] m = tt
done_so MemsetI64 (a ∷ []) m = tt
done_so MemsetI64 (a ∷ Int b ∷ []) m = tt
done_so MemsetI64 (a ∷ Ptr p ∷ ws) m = tt
done_so MemsetI64 (a ∷ Poison ∷ ws) m = tt
done_so MemsetI64 (a ∷ Int b ∷ Int n ∷ []) m = tt
done_so MemsetI64 (a ∷ Int b ∷ Int n ∷ v ∷ []) m = changes_so _ (filled a b n m)
done_so MemsetI64 (a ∷ Int b ∷ Int n ∷ v ∷ w ∷ ws) m = tt
done_so MemsetI64 (a ∷ Int b ∷ Ptr p ∷ ws) m = tt
done_so MemsetI64 (a ∷ Int b ∷ Poison ∷ ws) m = tt
done_so MemsetI32 [] m = tt
done_so MemsetI32 (a ∷ []) m = tt
done_so MemsetI32 (a ∷ Int b ∷ []) m = tt
done_so MemsetI32 (a ∷ Ptr p ∷ ws) m = tt
done_so MemsetI32 (a ∷ Poison ∷ ws) m = tt
done_so MemsetI32 (a ∷ Int b ∷ Int n ∷ []) m = tt
done_so MemsetI32 (a ∷ Int b ∷ Int n ∷ v ∷ []) m = changes_so _ (filled a b n m)
done_so MemsetI32 (a ∷ Int b ∷ Int n ∷ v ∷ w ∷ ws) m = tt
done_so MemsetI32 (a ∷ Int b ∷ Ptr p ∷ ws) m = tt
done_so MemsetI32 (a ∷ Int b ∷ Poison ∷ ws) m = tt
done_so Getchar ws m = tt
done_so Abort ws m = tt
done_so LifetimeStart ws m = tt
done_so LifetimeEnd ws m = tt
done_so Printf ws m = tt
done_so (Integer which width) ws m = tt

printed_so : (m : Blocks) (r : Result (List ℕ) UndefinedKind) → AnswersSo (printed m r)
printed_so m (Ok bytes) = tt
printed_so m (Err kind) = tt

prints_so : (shapes : List Shape) (vs : List Scalar) (m : Blocks) → AnswersSo (prints shapes vs m)
prints_so [] vs m = tt
prints_so (s ∷ ss) [] m = tt
prints_so (s ∷ ss) (Int n ∷ vs) m = tt
prints_so (s ∷ ss) (Ptr p ∷ vs) m = printed_so m _
prints_so (s ∷ ss) (Poison ∷ vs) m = tt

host_so : (row : HostRow) (shapes : List Shape) (vs : List Scalar) (m : Blocks) → AnswersSo (hosts.host row shapes vs m)
host_so (Integer which width) shapes vs m = tt
host_so Printf shapes vs m = prints_so shapes vs m
host_so Putchar shapes vs m = either AnswersSo (list_any hosts.is_poison vs) _ _ tt (done_so Putchar vs m)
host_so Puts shapes vs m = either AnswersSo (list_any hosts.is_poison vs) _ _ tt (done_so Puts vs m)
host_so Getchar shapes vs m = either AnswersSo (list_any hosts.is_poison vs) _ _ tt (done_so Getchar vs m)
host_so Exit shapes vs m = either AnswersSo (list_any hosts.is_poison vs) _ _ tt (done_so Exit vs m)
host_so Abort shapes vs m = either AnswersSo (list_any hosts.is_poison vs) _ _ tt (done_so Abort vs m)
host_so Malloc shapes vs m = either AnswersSo (list_any hosts.is_poison vs) _ _ tt (done_so Malloc vs m)
host_so Free shapes vs m = either AnswersSo (list_any hosts.is_poison vs) _ _ tt (done_so Free vs m)
host_so Memcpy shapes vs m = either AnswersSo (list_any hosts.is_poison vs) _ _ tt (done_so Memcpy vs m)
host_so Memmove shapes vs m = either AnswersSo (list_any hosts.is_poison vs) _ _ tt (done_so Memmove vs m)
host_so Memset shapes vs m = either AnswersSo (list_any hosts.is_poison vs) _ _ tt (done_so Memset vs m)
host_so Strlen shapes vs m = either AnswersSo (list_any hosts.is_poison vs) _ _ tt (done_so Strlen vs m)
host_so MemcpyI64 shapes vs m = either AnswersSo (list_any hosts.is_poison vs) _ _ tt (done_so MemcpyI64 vs m)
host_so MemmoveI64 shapes vs m = either AnswersSo (list_any hosts.is_poison vs) _ _ tt (done_so MemmoveI64 vs m)
host_so MemsetI64 shapes vs m = either AnswersSo (list_any hosts.is_poison vs) _ _ tt (done_so MemsetI64 vs m)
host_so MemcpyI32 shapes vs m = either AnswersSo (list_any hosts.is_poison vs) _ _ tt (done_so MemcpyI32 vs m)
host_so MemmoveI32 shapes vs m = either AnswersSo (list_any hosts.is_poison vs) _ _ tt (done_so MemmoveI32 vs m)
host_so MemsetI32 shapes vs m = either AnswersSo (list_any hosts.is_poison vs) _ _ tt (done_so MemsetI32 vs m)
host_so LifetimeStart shapes vs m = either AnswersSo (list_any hosts.is_poison vs) _ _ tt (done_so LifetimeStart vs m)
host_so LifetimeEnd shapes vs m = either AnswersSo (list_any hosts.is_poison vs) _ _ tt (done_so LifetimeEnd vs m)

-- ---- calls

answered_so : (to : ℕ) (c : Core) (a : Answer) → AnswersSo a → ComesSo (answered to c a)
answered_so to c (Gives result m output) h = tt
answered_so to c Reads h = tt
answered_so to c (Halts end) h = h

entered_so : (f : Frame) (c : Core) → ComesSo (entered f c)
entered_so f c = either ComesSo (nat_le (weights c.frames + weight f) weight_limit) (Goes (on_top f c) []) (Stops StackLimit) tt tt

called_so : (callee : Callee) (used : Signature) (shapes : List Shape) (vs : List Scalar) (to : ℕ) (c : Core) → ComesSo (called callee used shapes vs to c)
called_so (Code function signature leaves) used shapes vs to c =
    either ComesSo (same_signature signature used) (entered (begun function leaves vs to) c) (fails AnotherFunctionType) (entered_so (begun function leaves vs to) c) tt
called_so (Host row signatures) used shapes vs to c =
    either ComesSo (list_any (same_signature used) signatures) (answered to c (hosts.host row shapes vs c.memory)) (fails AnotherFunctionType)
    (answered_so to c (hosts.host row shapes vs c.memory) (host_so row shapes vs c.memory)) tt
called_so Nothing used shapes vs to c = tt

called_at_so : (table : ℕ → Callee) (callee : Scalar) (used : Signature) (shapes : List Shape) (vs : List Scalar) (to : ℕ) (c : Core) → ComesSo (called_at table callee used shapes vs to c)
called_at_so table (Ptr p) used shapes vs to c = called_so (table p.address) used shapes vs to c
called_at_so table (Int n) used shapes vs to c = tt
called_at_so table Poison used shapes vs to c = tt

due_so : (table : ℕ → Callee) (d : Due) (c : Core) → ComesSo (called_due table d c)
due_so table (Constructor address) c = called_so (table address) _ _ _ _ c
due_so table (Main address) c = called_so (table address) _ _ _ _ c
due_so table (MainWith address count array) c = called_so (table address) _ _ _ _ c

exited_so : (value : List Scalar) → ComesSo (exited value)
exited_so [] = tt
exited_so (Int n ∷ []) = tt
exited_so (Int n ∷ v ∷ vs) = tt
exited_so (Ptr p ∷ vs) = tt
exited_so (Poison ∷ vs) = tt

handed_back_so : (value : List Scalar) (to : ℕ) (fs : List Frame) (ds : List Due) (m : Blocks) → ComesSo (handed_back value to fs ds m)
handed_back_so value to [] [] m = exited_so value
handed_back_so value to [] (d ∷ ds) m = tt
handed_back_so value to (f ∷ fs) ds m = tt

-- ---- instructions

computed_so : (to : ℕ) (r : Result Scalar UndefinedKind) (f : Frame) (c : Core) → ComesSo (acts.computed to r f c)
computed_so to (Ok leaf) f c = tt
computed_so to (Err kind) f c = tt

loads_so : (to : ℕ) (r : Result (List Scalar) UndefinedKind) (f : Frame) (c : Core) → ComesSo (acts.loads to r f c)
loads_so to (Ok value) f c = tt
loads_so to (Err kind) f c = tt

stores_so : (r : Result Blocks UndefinedKind) (f : Frame) (c : Core) → ComesSo (acts.stores r f c)
stores_so (Ok m) f c = tt
stores_so (Err kind) f c = tt

allocates_so : (to size align : ℕ) (count : Scalar) (f : Frame) (c : Core) → ComesSo (acts.allocates_many to size align count f c)
allocates_so to size align (Int n) f c = either ComesSo (has_room (n * size) c.memory) _ _ tt tt
allocates_so to size align (Ptr p) f c = tt
allocates_so to size align Poison f c = tt

branches_so : (v : Scalar) (then_edge else_edge : Edge) (f : Frame) (c : Core) → ComesSo (acts.branches v then_edge else_edge f c)
branches_so (Int zero) then_edge else_edge f c = tt
branches_so (Int (suc n)) then_edge else_edge f c = tt
branches_so (Ptr p) then_edge else_edge f c = tt
branches_so Poison then_edge else_edge f c = tt

switches_so : (v : Scalar) (otherwise : Edge) (cases : List (ℕ × Edge)) (f : Frame) (c : Core) → ComesSo (acts.switches v otherwise cases f c)
switches_so (Int n) otherwise cases f c = tt
switches_so (Ptr p) otherwise cases f c = tt
switches_so Poison otherwise cases f c = tt

-- class by class
act_so : (table : ℕ → Callee) (a : Action) (f : Frame) (c : Core) → ComesSo (acts.act table a f c)
act_so table (Compute to opcode flags width left right) f c = computed_so to _ f c
act_so table (Compare to predicate samesign width left right) f c = tt
act_so table (Convert to opcode flags from_width to_width value) f c = tt
act_so table (Select to condition arms) f c = tt
act_so table (Freeze to value) f c = tt
act_so table (Gather to value) f c = tt
act_so table (Load to align address slots) f c = loads_so to _ f c
act_so table (Store align address value) f c = stores_so _ f c
act_so table (Allocate to size align count) f c = allocates_so to size align _ f c
act_so table (Displace to inbounds base terms) f c = tt
act_so table (Call to signature callee shapes arguments) f c = called_at_so table _ signature shapes _ to _
act_so table (Return value) f c = handed_back_so _ f.to c.frames c.due _
act_so table (Jump edge) f c = tt
act_so table (Branch condition then_edge else_edge) f c = branches_so _ then_edge else_edge f c
act_so table (Switch value otherwise cases) f c = switches_so _ otherwise cases f c
act_so table Unreachable f c = tt
act_so table Stuck f c = tt

-- ---- steps

took_so : (s : State) (to : ℕ) (c : Core) (input : List ℕ) → EndsSo (took s to c input)
took_so s to c [] = tt
took_so s to c (byte ∷ input) = tt

carried_so : (s : State) (n : Next) → ComesSo n → EndsSo (carried s n)
carried_so s (Goes c written) h = tt
carried_so s (Stops end) h = h
carried_so s (Gets to c) h = took_so s to c s.input

then_so : (rest : State → Step) (r : Step) → EndsSo r → ((s : State) → EndsSo (rest s)) → EndsSo (then_on rest r)
then_so rest (GoesOn s) h more = more s
then_so rest (IsOver end s) h more = h

idle_so : (table : ℕ → Callee) (ds : List Due) (fs : List Frame) (s : State) → EndsSo (called_while_idle table ds fs s)
idle_so table [] fs s = tt
idle_so table (d ∷ ds) (f ∷ fs) s = tt
idle_so table (d ∷ ds) [] s = then_so _ _ (carried_so s _ (due_so table d (record s.core { due = ds }))) (λ t. idle_so table ds t.core.frames t)

instruction_so : (look : ℕ → ℕ → ℕ → Action) (table : ℕ → Callee) (fs : List Frame) (ds : List Due) (m : Blocks) → ComesSo (instruction look table fs ds m)
instruction_so look table [] ds m = tt
instruction_so look table (f ∷ fs) ds m = act_so table (look f.function f.block f.position) f (record { frames = fs; due = ds; memory = m })

step_so : (look : ℕ → ℕ → ℕ → Action) (table : ℕ → Callee) (s : State) → EndsSo (step look table s)
step_so look table s =
    then_so _ _ (idle_so table s.core.due s.core.frames s)
    (λ t. carried_so (counted t) _ (instruction_so look table t.core.frames t.core.due t.core.memory))

used_up_so : (table : ℕ → Callee) (s : State) → EndsSo (used_up table s)
used_up_so table s = then_so _ _ (idle_so table s.core.due s.core.frames s) (λ t. tt)

advanced_so : (look : ℕ → ℕ → ℕ → Action) (table : ℕ → Callee) (n : ℕ) (s : State) → EndsSo (advanced look table n s)
unfolding advanced
advanced_so look table zero s = tt
advanced_so look table (suc n) s = then_so (advanced look table n) (step look table s) (step_so look table s) (λ t. advanced_so look table n t)

-- a run, and its parts
pub runs_so : RunsEndSo
runs_so = record {
  steps = step_so;
  halts = used_up_so;
  runs = λ look table n s. then_so (used_up table) (advanced look table n s) (advanced_so look table n s) (λ t. used_up_so table t);
}
