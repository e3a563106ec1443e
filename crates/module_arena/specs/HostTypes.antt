-- For `has_short_form`, and how the code of `host_row_fits` reads: how the code writes the types of host functions.
use Rattle.std.specs.Prelude.{Bool, true, false, ◌&&◌, ◌||◌, ◌==◌, List, [], ◌∷◌, is_none}
use Rattle.type_table.specs.declared.ir_type.IrType.{IrType}
use Rattle.type_table.specs.declared.ir_type.IrType.TheVariants as type
use Rattle.type_table.specs.Tree.{Tree, int, ptr, void}
use Rattle.module_arena.specs.declared.host.HostType.{HostType}
use Rattle.module_arena.specs.declared.host.HostType.TheVariants as host
use Rattle.module_arena.specs.Module.{Signature, Function}
use Rattle.module_arena.specs.HostRows.{HostRow, LifetimeStart, LifetimeEnd, fixed_types, pair_tree, same_signature, signature_of}

-- the type that is meant
abbrev pub host_tree : HostType → Tree
host_tree (host.Int width) = int width
host_tree host.Ptr = ptr
host_tree host.Void = void
host_tree (host.Pair width) = pair_tree width

-- the type, without its parts, is the one that is meant
abbrev pub is_of : IrType → HostType → Bool
is_of (type.Int width) (host.Int other) = width == other
is_of type.Ptr host.Ptr = true
is_of type.Void host.Void = true
is_of _ _ = false

-- the function is a declaration with these types
abbrev pub is_declared_with : Function → Tree → List Tree → Bool → Bool
is_declared_with f returns parameters variadic =
    is_none f.body && same_signature (signature_of f) (record { returns = returns; parameters = parameters; variadic = variadic })

-- the first of some types
abbrev first_of : List Signature → Signature
first_of [] = record { returns = void; parameters = []; variadic = false }
first_of (s ∷ others) = s

-- the types of the row, the first ones where it has two
abbrev pub first_types : HostRow → Signature
first_types row = first_of (fixed_types row)

-- a row that has the type of a pointer alone, too
abbrev pub has_short_form : HostRow → Bool
has_short_form LifetimeStart = true
has_short_form LifetimeEnd = true
has_short_form _ = false

-- the function is a declaration with the first types of the row, or the short ones
abbrev pub is_declared_by_forms : HostRow → Function → Bool
is_declared_by_forms row f =
    is_declared_with f (first_types row).returns (first_types row).parameters (first_types row).variadic
    || (has_short_form row && is_declared_with f void (ptr ∷ []) false)
