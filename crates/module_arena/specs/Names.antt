-- For `Checked::seal`: names, and the numbers that stand for them.
use Rattle.std.specs.Prelude.{ℕ, ◌+◌, Bool, true, false, not, ◌&&◌, ◌||◌, ◌==◌, nat_lt, List, [], ◌∷◌, ◌++◌, map, flat_map, is_none}
use Rattle.std.specs.List.{list_all}
use Rattle.std.specs.Option.{option_map_or}
use Rattle.ir_tables.specs.Table.{is_distinct}
use Rattle.module_arena.specs.Module.{Bytes, LocalName, Operation, Block, Function}
use Rattle.module_arena.specs.Module.LocalName.{Named, Numbered}
use Rattle.module_arena.specs.Module.Operation.{Phi}
use Rattle.module_arena.specs.Same.{same_local, has_local}
use Rattle.module_arena.specs.Operations.{operands, ending_operands, callee, local_in, targets}
use Rattle.module_arena.specs.Functions.{blocks, result_name}

-- each is below 256
abbrev pub are_bytes : Bytes → Bool
are_bytes bytes = list_all (λ b. nat_lt b 256) bytes

-- a name is not empty and has no zero byte
abbrev pub is_name : Bytes → Bool
is_name [] = false
is_name (b ∷ bs) = list_all (λ c. nat_lt 0 c && nat_lt c 256) (b ∷ bs)

-- a name that is written is a name
abbrev pub is_local_name : LocalName → Bool
is_local_name (Named name) = is_name name
is_local_name (Numbered n) = true

-- the names of the values that a block defines
abbrev pub block_results : Block → List LocalName
block_results block = flat_map result_name block.instructions

-- the names of the parameters
abbrev pub parameter_names : Function → List LocalName
parameter_names f = map (λ p. p.name) f.parameters

-- the parameters, then each block before its instructions
abbrev pub local_names : Function → List LocalName
local_names f = parameter_names f ++ flat_map (λ block. block.name ∷ block_results block) (blocks f)

-- those that have numbers have them in order, the first of them this one
abbrev pub is_numbered_from : ℕ → List LocalName → Bool
is_numbered_from next [] = true
is_numbered_from next (Named name ∷ names) = is_numbered_from next names
is_numbered_from next (Numbered n ∷ names) = (n == next) && is_numbered_from (next + 1) names

-- the local has a number
abbrev pub is_number : LocalName → Bool
is_number (Named name) = false
is_number (Numbered n) = true

-- a declaration has numbers alone
abbrev pub is_numbered_as_declared : Function → Bool
is_numbered_as_declared f = not (is_none f.body) || list_all is_number (parameter_names f)

-- ---- what is referred to

-- the names of parameters and results
abbrev pub value_names : Function → List LocalName
value_names f = parameter_names f ++ flat_map block_results (blocks f)

-- the locals that an operation refers to
abbrev pub locals_of_operation : Operation → List LocalName
locals_of_operation o = flat_map (λ x. local_in x.value) (operands o) ++ option_map_or local_in (callee o) []

-- the locals that a block refers to
abbrev pub locals_of_block : Block → List LocalName
locals_of_block block = flat_map (λ i. locals_of_operation i.operation) block.instructions ++ flat_map (λ x. local_in x.value) (ending_operands block.ending)

-- the blocks that a phi refers to
abbrev pub blocks_of_operation : Operation → List LocalName
blocks_of_operation (Phi ty incoming) = map (λ i. i.block) incoming
blocks_of_operation _ = []

-- the blocks that a block refers to
abbrev pub blocks_of_block : Block → List LocalName
blocks_of_block block = flat_map (λ i. blocks_of_operation i.operation) block.instructions ++ targets block.ending

-- values are parameters and results, and blocks are blocks, of the function
abbrev pub knows_its_names : Function → Bool
knows_its_names f =
    list_all (has_local (value_names f)) (flat_map locals_of_block (blocks f))
    && list_all (has_local (map (λ block. block.name) (blocks f))) (flat_map blocks_of_block (blocks f))

-- each name is there once, and numbers stand in order
abbrev pub has_good_names : Function → Bool
has_good_names f =
    list_all is_local_name (local_names f)
    && (is_distinct same_local (local_names f) && (is_numbered_from 0 (local_names f) && (is_numbered_as_declared f && knows_its_names f)))
