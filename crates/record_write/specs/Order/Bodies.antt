-- Says how the code of `text_table` reads: what the locals of a function are called, by the ids of an arena.
use Rattle.std.specs.Prelude.{ℕ, ◌<◌, List, [], ◌++◌, length, flat_map, All, option_to_list, slice_index_or}
use Rattle.std.specs.Option.{option_map_or}
use Rattle.module_arena.specs.declared.entry.Block.{Block}
use Rattle.module_arena.specs.declared.entry.Function.{Function}
use Rattle.module_arena.specs.declared.entry.LocalName.{LocalName}
use Rattle.module_arena.specs.declared.entry.LocalName.TheVariants.{Numbered}
use Rattle.module_arena.specs.declared.instruction.Inst.{Inst}
use Rattle.module_arena.specs.Lists.{value_names}
use Rattle.module_arena.specs.Mentions.{result_of}
use Rattle.module_arena.specs.Module.{Bytes}
use Rattle.module_arena.specs.View.{local_view}
use Rattle.record_table.specs.Fields.{name_in}

-- the name of a local, where it has one
abbrev pub local_text : LocalName → List Bytes
local_text n = option_to_list (name_in (local_view n))

-- the name of a value
abbrev pub value_text : List LocalName → ℕ → List Bytes
value_text values id = local_text (slice_index_or values id (Numbered 0))

-- what an instruction defines is one of these values
abbrev pub HasResults : List LocalName → Inst → Type 0
HasResults values i = All (λ id. id < length values) (result_of i)

-- the name of what an instruction defines
abbrev pub result_texts : List LocalName → Inst → List Bytes
result_texts values i = flat_map (value_text values) (result_of i)

-- the names of a block and of its results
abbrev pub block_texts : List LocalName → Block → List Bytes
block_texts values b = local_text b.name ++ flat_map (result_texts values) b.instructions

-- the names in the body of a function: its parameters, and each block
abbrev pub body_texts : Function → List Bytes
body_texts f = option_map_or (λ b. flat_map (λ p. local_text p.name) f.parameters ++ flat_map (block_texts (value_names f)) b.blocks) f.body []
