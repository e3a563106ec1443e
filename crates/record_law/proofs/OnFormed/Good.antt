-- What is shown of the parts of a module that is read: types, and bodies.
use Rattle.std.proofs.Common.{◌≡◌, ◌⊎◌, ℕ, nat_le, true, length, map, flat_map}
use Rattle.std.specs.List.{list_all}
use Rattle.type_table.specs.Types.{Types, trees, structs}
use Rattle.module_arena.specs.Forms.{is_not_empty}
use Rattle.module_arena.specs.Module.{Bytes, Function, Module}
use Rattle.module_arena.specs.Names.{are_bytes, has_good_names}
use Rattle.module_arena.specs.WellFormed.{are_good_names, are_good_structs, has_entry, is_good_block, is_good_constant, is_good_type, known_of_block}
use Rattle.record_table.specs.Bodies.{Begun}
use Rattle.record_table.specs.Fields.{Numbering, Texts, version_1}
use Rattle.record_table.specs.Records.{with_body}
use Rattle.record_table.specs.StringTable.{read_only}

-- texts stand in records as in version 1, or in a table of bytes
abbrev pub AreTexts : Texts → Type 0
AreTexts t = (t ≡ version_1) ⊎ ((table : Bytes) × (are_bytes table ≡ true) × (t ≡ read_only table))

-- types and structs as a module may have them
pub record AreGoodTypes (t : Types) : Type 0 where
  pub types_good : list_all (is_good_type (structs t)) (trees t) ≡ true
  pub structs_good : are_good_structs (structs t) ≡ true
  pub names_good : are_good_names (map (λ s. s.0) (structs t)) ≡ true
  pub few : nat_le (length (structs t)) 262144 ≡ true

-- what indices stand for is of this module: its structs, types that it may write, and entries that it has
pub record IsOf (m : Module) (k : Numbering) : Type 0 where
  pub structs_are : k.structs ≡ m.structs
  pub structs_good : are_good_structs m.structs ≡ true
  pub types_good : list_all (is_good_type m.structs) k.types ≡ true
  pub entries : list_all (has_entry m) k.globals ≡ true

-- a body as a function of the module with so many parameters may have it
pub record IsGoodBody (m : Module) (count : ℕ) (b : Begun) : Type 0 where
  pub parameters : length b.parameters ≡ count
  pub some : is_not_empty b.blocks ≡ true
  pub names : (f : Function) → length f.parameters ≡ count → has_good_names (with_body b f) ≡ true
  pub blocks_good : list_all (is_good_block m) b.blocks ≡ true
  pub constants_good : list_all (is_good_constant m) (flat_map known_of_block b.blocks) ≡ true
