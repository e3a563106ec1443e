-- For `write_module`: what outputs have, where that is told, and what writing a result to one of them does to them.
use Rattle.std.specs.Prelude.{◌≡◌, ℕ, Bool, true, false, List, take, codes, Option}
use Rattle.ir_base.specs.Outside.{Added}
use Rattle.ir_base.specs.Files.{Named, Holds, HoldsFront}
use Rattle.command_line.specs.declared.command.OutputName.{OutputName}
use Rattle.command_line.specs.declared.command.OutputName.TheVariants.{Standard, File}

-- what standard output has taken, and what is in each file
pub record Outputs : Type 0 where
  pub taken : Option (List ℕ)
  pub contents : Option Named

-- what standard output has, and the files
abbrev pub outputs : Option (List ℕ) → Option Named → Outputs
outputs taken contents = record { taken = taken; contents = contents }

-- the result goes to standard output
abbrev pub is_standard : OutputName → Bool
is_standard Standard = true
is_standard (File name) = false

-- how an output is called where it cannot be written
abbrev pub told_name : OutputName → List ℕ
told_name Standard = codes "-"
told_name (File name) = name

-- a front of these bytes was added, maybe none of them
abbrev pub AddedSome : Option (List ℕ) → Option (List ℕ) → List ℕ → Type 0
AddedSome before now bytes = (count : ℕ) × Added before now (take count bytes)

-- standard output got these bytes at its end, or the file of this name holds them; all else stays
abbrev pub IsPut : OutputName → List ℕ → Outputs → Outputs → Type 0
IsPut Standard bytes before now = Added before.taken now.taken bytes × (now.contents ≡ before.contents)
IsPut (File name) bytes before now = (now.taken ≡ before.taken) × Holds before.contents now.contents name bytes

-- standard output got a front of them, or the file of this name holds one, or what it held before; all else stays
abbrev pub IsPartlyPut : OutputName → List ℕ → Outputs → Outputs → Type 0
IsPartlyPut Standard bytes before now = AddedSome before.taken now.taken bytes × (now.contents ≡ before.contents)
IsPartlyPut (File name) bytes before now = (now.taken ≡ before.taken) × HoldsFront before.contents now.contents name bytes
