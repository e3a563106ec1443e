-- For `host_row` and `host_row_fits`: the host functions, those that a run reaches where no part defines them, with their
-- names and types.
use Rattle.std.specs.Prelude.{ℕ, ◌+◌, Bool, true, false, ◌&&◌, List, [], ◌∷◌, ◌++◌, map, find, Option, Some, None, is_none, codes, bytes_eq, nat_eq, if◌then◌else◌}
use Rattle.std.specs.Fmt.{decimal}
use Rattle.std.specs.Bool.{beq}
use Rattle.std.specs.List.{list_any, starts_with}
use Rattle.ir_tables.specs.declared.intrinsic.Intrinsic.{Intrinsic}
use Rattle.ir_tables.specs.declared.intrinsic.Intrinsic.TheVariants as integer
use Rattle.ir_tables.specs.Intrinsic.{intrinsics}
use Rattle.ir_tables.specs.IntrinsicName.{has_width, name_front}
use Rattle.ir_tables.specs.declared.width.TheConstants.{WIDEST}
use Rattle.type_table.specs.Tree.{Tree, int, ptr, void, struct, no_trees, more_trees}
pub use Rattle.module_arena.specs.declared.host.HostRow.{HostRow}
pub use Rattle.module_arena.specs.declared.host.HostRow.TheVariants.{Putchar, Puts, Getchar, Exit, Abort, Malloc, Free, Memcpy, Memmove, Memset, Strlen, MemcpyI64, MemmoveI64, MemsetI64, MemcpyI32, MemmoveI32, MemsetI32, LifetimeStart, LifetimeEnd, Printf, Integer}
use Rattle.module_arena.specs.Known.{upto}
use Rattle.module_arena.specs.Module.{Bytes, Signature, Function}
use Rattle.module_arena.specs.Same.{same_type}

-- those with names of their own, in the order of the table
abbrev pub host_rows : List HostRow
host_rows =
    Putchar ∷ Puts ∷ Getchar ∷ Exit ∷ Abort ∷ Malloc ∷ Free ∷ Memcpy ∷ Memmove ∷ Memset ∷ Strlen
    ∷ MemcpyI64 ∷ MemmoveI64 ∷ MemsetI64 ∷ MemcpyI32 ∷ MemmoveI32 ∷ MemsetI32 ∷ LifetimeStart ∷ LifetimeEnd ∷ Printf ∷ []

-- the name of a row of these; an intrinsic over integers has a name for each width
abbrev pub fixed_name : HostRow → Bytes
fixed_name Putchar = codes "putchar"
fixed_name Puts = codes "puts"
fixed_name Getchar = codes "getchar"
fixed_name Exit = codes "exit"
fixed_name Abort = codes "abort"
fixed_name Malloc = codes "malloc"
fixed_name Free = codes "free"
fixed_name Memcpy = codes "memcpy"
fixed_name Memmove = codes "memmove"
fixed_name Memset = codes "memset"
fixed_name Strlen = codes "strlen"
fixed_name MemcpyI64 = codes "llvm.memcpy.p0.p0.i64"
fixed_name MemmoveI64 = codes "llvm.memmove.p0.p0.i64"
fixed_name MemsetI64 = codes "llvm.memset.p0.i64"
fixed_name MemcpyI32 = codes "llvm.memcpy.p0.p0.i32"
fixed_name MemmoveI32 = codes "llvm.memmove.p0.p0.i32"
fixed_name MemsetI32 = codes "llvm.memset.p0.i32"
fixed_name LifetimeStart = codes "llvm.lifetime.start.p0"
fixed_name LifetimeEnd = codes "llvm.lifetime.end.p0"
fixed_name Printf = codes "printf"
fixed_name (Integer which width) = []

-- a function type that is not variadic
abbrev pub fixed : Tree → List Tree → Signature
fixed returns parameters = record { returns = returns; parameters = parameters; variadic = false }

-- the types that a function of these rows may be declared with
abbrev pub fixed_types : HostRow → List Signature
fixed_types Putchar = fixed (int 32) (int 32 ∷ []) ∷ []
fixed_types Puts = fixed (int 32) (ptr ∷ []) ∷ []
fixed_types Getchar = fixed (int 32) [] ∷ []
fixed_types Exit = fixed void (int 32 ∷ []) ∷ []
fixed_types Abort = fixed void [] ∷ []
fixed_types Malloc = fixed ptr (int 64 ∷ []) ∷ []
fixed_types Free = fixed void (ptr ∷ []) ∷ []
fixed_types Memcpy = fixed ptr (ptr ∷ ptr ∷ int 64 ∷ []) ∷ []
fixed_types Memmove = fixed ptr (ptr ∷ ptr ∷ int 64 ∷ []) ∷ []
fixed_types Memset = fixed ptr (ptr ∷ int 32 ∷ int 64 ∷ []) ∷ []
fixed_types Strlen = fixed (int 64) (ptr ∷ []) ∷ []
fixed_types MemcpyI64 = fixed void (ptr ∷ ptr ∷ int 64 ∷ int 1 ∷ []) ∷ []
fixed_types MemmoveI64 = fixed void (ptr ∷ ptr ∷ int 64 ∷ int 1 ∷ []) ∷ []
fixed_types MemsetI64 = fixed void (ptr ∷ int 8 ∷ int 64 ∷ int 1 ∷ []) ∷ []
fixed_types MemcpyI32 = fixed void (ptr ∷ ptr ∷ int 32 ∷ int 1 ∷ []) ∷ []
fixed_types MemmoveI32 = fixed void (ptr ∷ ptr ∷ int 32 ∷ int 1 ∷ []) ∷ []
fixed_types MemsetI32 = fixed void (ptr ∷ int 8 ∷ int 32 ∷ int 1 ∷ []) ∷ []
fixed_types LifetimeStart = fixed void (int 64 ∷ ptr ∷ []) ∷ fixed void (ptr ∷ []) ∷ []
fixed_types LifetimeEnd = fixed void (int 64 ∷ ptr ∷ []) ∷ fixed void (ptr ∷ []) ∷ []
fixed_types Printf = record { returns = int 32; parameters = ptr ∷ []; variadic = true } ∷ []
fixed_types (Integer which width) = []

-- an integer, and whether the exact result is out of range
abbrev pub pair_tree : ℕ → Tree
pair_tree width = struct false (more_trees (int width) (more_trees (int 1) no_trees))

-- what an intrinsic over integers returns
abbrev pub integer_returns : Intrinsic → ℕ → Tree
integer_returns integer.SaddWithOverflow width = pair_tree width
integer_returns integer.UaddWithOverflow width = pair_tree width
integer_returns integer.SsubWithOverflow width = pair_tree width
integer_returns integer.UsubWithOverflow width = pair_tree width
integer_returns integer.SmulWithOverflow width = pair_tree width
integer_returns integer.UmulWithOverflow width = pair_tree width
integer_returns _ width = int width

-- its parameters
abbrev pub integer_parameters : Intrinsic → ℕ → List Tree
integer_parameters integer.Ctpop width = int width ∷ []
integer_parameters integer.Bswap width = int width ∷ []
integer_parameters integer.Bitreverse width = int width ∷ []
integer_parameters integer.Ctlz width = int width ∷ int 1 ∷ []
integer_parameters integer.Cttz width = int width ∷ int 1 ∷ []
integer_parameters integer.Abs width = int width ∷ int 1 ∷ []
integer_parameters integer.Fshl width = int width ∷ int width ∷ int width ∷ []
integer_parameters integer.Fshr width = int width ∷ int width ∷ int width ∷ []
integer_parameters _ width = int width ∷ int width ∷ []

-- the types that the function may be declared with
abbrev pub host_types : HostRow → List Signature
host_types (Integer which width) = fixed (integer_returns which width) (integer_parameters which width) ∷ []
host_types row = fixed_types row

-- the width at which an intrinsic has that name
abbrev pub width_named : Bytes → Intrinsic → Option ℕ
width_named name which =
    if starts_with nat_eq name (name_front which)
    then find (λ width. has_width which width && bytes_eq (name_front which ++ decimal width) name) (upto 1 WIDEST) else None

-- the intrinsic at the width that was found, or else the other row
abbrev pub row_at : Intrinsic → Option ℕ → Option HostRow → Option HostRow
row_at which None others = others
row_at which (Some width) others = Some (Integer which width)

-- the row of the first of these intrinsics that has that name at some width
abbrev pub row_among : Bytes → List Intrinsic → Option HostRow
row_among name [] = None
row_among name (which ∷ others) = row_at which (width_named name which) (row_among name others)

-- the first row that was found
abbrev pub first_row : Option HostRow → Option HostRow → Option HostRow
first_row (Some row) others = Some row
first_row None others = others

-- the row with that name: one of its own, or an intrinsic over integers at its width
unfoldable pub host_row : Bytes → Option HostRow
host_row name = first_row (find (λ row. bytes_eq (fixed_name row) name) host_rows) (row_among name intrinsics)

-- the same types, in order
abbrev pub same_type_list : List Tree → List Tree → Bool
same_type_list [] [] = true
same_type_list (a ∷ as_) (b ∷ bs) = same_type a b && same_type_list as_ bs
same_type_list _ _ = false

-- the same return type and parameters, both variadic or none
abbrev pub same_signature : Signature → Signature → Bool
same_signature a b = same_type a.returns b.returns && (same_type_list a.parameters b.parameters && beq a.variadic b.variadic)

-- the type of a function
abbrev pub signature_of : Function → Signature
signature_of f = record { returns = f.returns; parameters = map (λ p. p.ty) f.parameters; variadic = f.variadic }

-- the function is a declaration with a type of the row
abbrev pub is_declared_as : HostRow → Function → Bool
is_declared_as row f = is_none f.body && list_any (same_signature (signature_of f)) (host_types row)
