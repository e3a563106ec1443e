-- For `set_head`: the texts of the linked module, and structs that are named, none of which has its body.
use Rattle.std.specs.Prelude.{List, [], map, None}
use Rattle.module_arena.specs.Module.{Bytes, Module, empty_module}
use Rattle.link_rules.specs.Linked.{first_of}
use Rattle.type_table.specs.Types.{Types}

-- the texts alone
abbrev pub texts_of : List Module → Module
texts_of parts = record empty_module {
  source = first_of (λ (m : Module). m.source) parts;
  layout = first_of (λ (m : Module). m.layout) parts;
  triple = first_of (λ (m : Module). m.triple) parts;
}

-- the table with structs of these names alone, none of which has its body
abbrev pub only_named : List Bytes → Types
only_named names = record { types = []; structs = map (λ name. (name, None)) names }
