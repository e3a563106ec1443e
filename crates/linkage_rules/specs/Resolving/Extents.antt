-- Says how the code reads: the types of definitions in numbers.
use Rattle.std.specs.Prelude.{ℕ, ◌&&◌, List, Option, Some, None, if◌then◌else◌}
use Rattle.type_table.specs.declared.ir_type.IrType.{IrType}
use Rattle.type_table.specs.declared.ir_type.IrType.TheVariants.{Int, Ptr, Void, Array, Struct, Named}
use Rattle.module_arena.specs.Module.{Module}
use Rattle.linkage_rules.specs.Entries.{Entry}
use Rattle.linkage_rules.specs.Globals.{linkage_of, type_of, stated, element_of, length_of}
use Rattle.linkage_rules.specs.Linkages.{is_common}
use Rattle.linkage_rules.specs.Addresses.{align_in, alignment_in}
use Rattle.linkage_rules.specs.Winner.{is_definition, size_in}
use Rattle.linkage_rules.specs.Resolving.Places.{greater}
use Rattle.linkage_rules.specs.declared.resolving.extent.Extent.{Extent}

-- how many elements an array has; no other type counts
abbrev pub array_length : IrType → ℕ
array_length (Array n part) = n
array_length (Int w) = 0
array_length Ptr = 0
array_length Void = 0
array_length (Struct packed parts) = 0
array_length (Named id) = 0

-- the type of a definition in numbers
abbrev pub extent_in : List Module → Entry → Extent
extent_in parts e = record {
  size = size_in parts e.part (type_of e.global);
  alignment = align_in parts e.part (type_of e.global);
  element = size_in parts e.part (element_of (type_of e.global));
  length = length_of (type_of e.global);
  stated = stated e.global;
}

-- the alignment that a definition states
abbrev pub stated_of : Entry → Option ℕ
stated_of e = if is_definition e then stated e.global else None

-- the alignment of a common definition, stated or its type's
abbrev pub common_of : List Module → Entry → Option ℕ
common_of parts e = if is_definition e && is_common (linkage_of e.global) then Some (alignment_in parts e) else None

-- the greater of a number, where there is one, and what was greatest before it
abbrev pub or_greater : Option ℕ → Option ℕ → Option ℕ
or_greater so_far None = so_far
or_greater so_far (Some n) = greater so_far n
