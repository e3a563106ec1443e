-- Says how the code of `push_string` and `plain_string` reads: strings of which no more than so many bytes are read, whatever is told where none of these is zero.
use Rattle.std.specs.Prelude.{ℕ, zero, suc, Bool, true, false, not, nat_eq, List, ◌++◌, Result, Ok, Err}
use Rattle.ir_tables.specs.declared.undefined_kind.UndefinedKind.{UndefinedKind}
use Rattle.ir_tables.specs.declared.undefined_kind.UndefinedKind.TheVariants.{PoisonArgument}
use Rattle.ir_eval.specs.declared.value.Pointer.{Pointer}
use Rattle.ir_eval.specs.declared.value.Scalar.{Scalar}
use Rattle.ir_eval.specs.declared.value.Scalar.TheVariants.{Int, Ptr, Poison}
use Rattle.ir_memory.specs.declared.leaf.Leaf.TheVariants as leaf
use Rattle.ir_memory.specs.Memory.{Blocks, loaded}
use Rattle.run_rules.specs.Access.{and_then, behind, string_from}

-- the bytes of a string, or what is undefined
abbrev pub StringTold : Type 0
StringTold = Result (List ℕ) UndefinedKind

-- the number of a leaf that is a byte
abbrev pub byte_of : Scalar → Result ℕ UndefinedKind
byte_of (Int n) = Ok n
byte_of (Ptr p) = Err PoisonArgument
byte_of Poison = Err PoisonArgument

-- the byte at a pointer, where a string is read
abbrev pub byte_in : Blocks → Pointer → Result ℕ UndefinedKind
byte_in m p = and_then (loaded m (Ptr p) (leaf.Int 8) 1) byte_of

-- the bytes before the first zero; where so many hold no zero, what follows them is told
unfoldable pub string_then : StringTold → Blocks → ℕ → Pointer → StringTold
string_then rest m zero p = rest
string_then rest m (suc room) p = and_then (loaded m (Ptr p) (leaf.Int 8) 1) (λ byte. string_from byte (string_then rest m room (behind p 1)))

-- bytes in front of a string, unless something is undefined
abbrev pub with_bytes : List ℕ → StringTold → StringTold
with_bytes bytes (Ok more) = Ok (bytes ++ more)
with_bytes bytes (Err kind) = Err kind

-- bytes that are a string, if it has ended, or else the front of one
abbrev pub string_ended : List ℕ → Bool → StringTold → StringTold
string_ended bytes true rest = Ok bytes
string_ended bytes false rest = with_bytes bytes rest

-- a byte that does not end a string
abbrev pub is_inside : ℕ → Bool
is_inside byte = not (nat_eq byte 0)
