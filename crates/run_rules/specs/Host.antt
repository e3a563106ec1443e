-- For `equal_look_ups_give_equal_runs`: what the host functions do. A host function sees the values and the shapes of its
-- arguments and memory, and it may ask for a byte of the input: nothing else of a state.
use Rattle.std.specs.Prelude.{ℕ, ◌%◌, Bool, true, false, List, [], ◌∷◌, ◌++◌, length, Result, Ok, Err, nat_eq, slice_index_or, if◌then◌else◌}
use Rattle.std.specs.List.{list_any}
use Rattle.std.specs.Option.{option_to_list}
use Rattle.ir_tables.specs.declared.intrinsic.Intrinsic.{Intrinsic}
use Rattle.ir_tables.specs.declared.undefined_kind.UndefinedKind.{UndefinedKind}
use Rattle.ir_tables.specs.declared.undefined_kind.UndefinedKind.TheVariants.{PoisonArgument, AnotherFunctionType}
use Rattle.ir_eval.specs.declared.value.Pointer.{Pointer}
use Rattle.ir_eval.specs.declared.value.Scalar.{Scalar}
use Rattle.ir_eval.specs.declared.value.Scalar.TheVariants.{Int, Ptr, Poison}
use Rattle.ir_intrinsics.specs.declared.outcome.Outcome.{Outcome}
use Rattle.ir_intrinsics.specs.Results.{apply_of}
use Rattle.ir_memory.specs.declared.kind.BlockKind.TheVariants.{Heap}
use Rattle.ir_memory.specs.Memory.{Blocks, added, ended, copied, filled}
use Rattle.module_arena.specs.declared.host.HostRow.{HostRow}
use Rattle.module_arena.specs.declared.host.HostRow.TheVariants.{Putchar, Puts, Getchar, Exit, Abort, Malloc, Free, Memcpy, Memmove, Memset, Strlen, MemcpyI64, MemmoveI64, MemsetI64, MemcpyI32, MemmoveI32, MemsetI32, LifetimeStart, LifetimeEnd, Printf, Integer}
use Rattle.run_rules.specs.declared.end.End.TheVariants as ends
use Rattle.run_rules.specs.declared.end.TheConstants.{ABORTED}
use Rattle.run_rules.specs.declared.host.TheConstants.{HEAP_ALIGNMENT}
use Rattle.run_rules.specs.Access.{has_room, next_block, string_at}
use Rattle.run_rules.specs.Answer.{Answer, Gives, Reads, Halts, HostFunction, undefined, changes}
use Rattle.run_rules.specs.Printing.{prints}

-- an operand that the intrinsic lacks is 0
abbrev pub operand_at : List Scalar → ℕ → Scalar
operand_at arguments i = slice_index_or arguments i (Int 0)

-- the one leaf or the two of what an intrinsic gives
abbrev pub outcome_leaves : Outcome → List Scalar
outcome_leaves o = o.first ∷ option_to_list o.second

-- an intrinsic over integers: a poison operand gives poison, and nothing is undefined
abbrev pub evaluates : Intrinsic → ℕ → List Scalar → Blocks → Answer
evaluates which width arguments m =
    Gives (outcome_leaves (apply_of which width (operand_at arguments 0) (operand_at arguments 1) (operand_at arguments 2))) m []

-- a line, from the string that was read
abbrev pub puts_line : Blocks → Result (List ℕ) UndefinedKind → Answer
puts_line m (Ok bytes) = Gives (Int 0 ∷ []) m (bytes ++ 10 ∷ [])
puts_line m (Err kind) = undefined kind

-- the result is the length of the string
abbrev pub counts : Blocks → Result (List ℕ) UndefinedKind → Answer
counts m (Ok bytes) = Gives (Int (length bytes) ∷ []) m []
counts m (Err kind) = undefined kind

-- a new heap block, unless too many bytes would live
abbrev pub allocates : ℕ → Blocks → Answer
allocates size m = if has_room size m then Gives (Ptr (next_block HEAP_ALIGNMENT m) ∷ []) (added size HEAP_ALIGNMENT Heap m) [] else Halts ends.MemoryLimit

-- null is the address 0
abbrev pub frees : Pointer → Blocks → Answer
frees p m = if nat_eq p.address 0 then Gives [] m [] else changes [] (ended (Ptr p) Heap m)

-- ---- the rows of the table that look at their arguments, none of which is poison

-- Each ends in what no call comes to: the arguments are those of a type of the row.

-- a byte is written, and comes back
abbrev pub puts_byte : List Scalar → Blocks → Answer
puts_byte (Int n ∷ []) m = Gives (Int (n % 256) ∷ []) m (n % 256 ∷ [])
puts_byte _ m = undefined AnotherFunctionType

-- the string at an address is written as a line
abbrev pub puts_string : List Scalar → Blocks → Answer
puts_string (Ptr p ∷ []) m = puts_line m (string_at m p)
puts_string _ m = undefined AnotherFunctionType

-- the program ends with a status
abbrev pub exits : List Scalar → Answer
exits (Int n ∷ []) = Halts (ends.Exit (n % 256))
exits _ = undefined AnotherFunctionType

-- so many bytes of the heap
abbrev pub allocates_bytes : List Scalar → Blocks → Answer
allocates_bytes (Int n ∷ []) m = allocates n m
allocates_bytes _ m = undefined AnotherFunctionType

-- the block at an address is given back
abbrev pub frees_block : List Scalar → Blocks → Answer
frees_block (Ptr p ∷ []) m = frees p m
frees_block _ m = undefined AnotherFunctionType

-- the length of the string at an address
abbrev pub counts_string : List Scalar → Blocks → Answer
counts_string (Ptr p ∷ []) m = counts m (string_at m p)
counts_string _ m = undefined AnotherFunctionType

-- bytes are copied, which may or may not overlap, and the first address comes back
abbrev pub copies_back : Bool → List Scalar → Blocks → Answer
copies_back may_overlap (to ∷ from ∷ Int n ∷ []) m = changes (to ∷ []) (copied to from n may_overlap m)
copies_back may_overlap _ m = undefined AnotherFunctionType

-- bytes are set, and the address comes back
abbrev pub fills_back : List Scalar → Blocks → Answer
fills_back (to ∷ Int byte ∷ Int n ∷ []) m = changes (to ∷ []) (filled to (byte % 256) n m)
fills_back _ m = undefined AnotherFunctionType

-- an intrinsic copies bytes; nothing comes back
abbrev pub copies : Bool → List Scalar → Blocks → Answer
copies may_overlap (to ∷ from ∷ Int n ∷ volatile ∷ []) m = changes [] (copied to from n may_overlap m)
copies may_overlap _ m = undefined AnotherFunctionType

-- an intrinsic sets bytes; nothing comes back
abbrev pub fills : List Scalar → Blocks → Answer
fills (to ∷ Int byte ∷ Int n ∷ volatile ∷ []) m = changes [] (filled to byte n m)
fills _ m = undefined AnotherFunctionType

-- the rows of the table, where no argument is poison, but for those that take poison
abbrev pub done : HostRow → List Scalar → Blocks → Answer
done Putchar arguments m = puts_byte arguments m
done Puts arguments m = puts_string arguments m
done Getchar _ m = Reads
done Exit arguments m = exits arguments
done Abort _ m = Halts (ends.Exit ABORTED)
done Malloc arguments m = allocates_bytes arguments m
done Free arguments m = frees_block arguments m
done Memcpy arguments m = copies_back false arguments m
done Memmove arguments m = copies_back true arguments m
done Memset arguments m = fills_back arguments m
done Strlen arguments m = counts_string arguments m
done MemcpyI64 arguments m = copies false arguments m
done MemmoveI64 arguments m = copies true arguments m
done MemsetI64 arguments m = fills arguments m
done MemcpyI32 arguments m = copies false arguments m
done MemmoveI32 arguments m = copies true arguments m
done MemsetI32 arguments m = fills arguments m
done LifetimeStart _ m = Gives [] m []
done LifetimeEnd _ m = Gives [] m []
done Printf _ m = undefined AnotherFunctionType
done (Integer which width) _ m = undefined AnotherFunctionType

-- a leaf is poison
abbrev pub is_poison : Scalar → Bool
is_poison (Int n) = false
is_poison (Ptr p) = false
is_poison Poison = true

-- What a row of the host table means. But for intrinsics over integers, and for what `printf` does not take, poison is undefined
-- before anything else
abbrev pub host : HostRow → HostFunction
host (Integer which width) shapes arguments m = evaluates which width arguments m
host Printf shapes arguments m = prints shapes arguments m
host row shapes arguments m = if list_any is_poison arguments then undefined PoisonArgument else done row arguments m
