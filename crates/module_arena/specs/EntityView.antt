-- For `verify`: what an `Entity` of its failure names of a module.
use Rattle.module_arena.specs.declared.entity.Entity as the_entity
use Rattle.module_arena.specs.declared.entity.Entity.TheVariants as entity
use Rattle.module_arena.specs.Valid.{Entity}
use Rattle.module_arena.specs.View.{local_view}

-- the entity of the definition that an entity of the code is
abbrev pub entity_view : the_entity.Entity → Entity
entity_view entity.Module = Entity.TheModule
entity_view (entity.Global name) = Entity.Global name
entity_view (entity.Block block function) = Entity.BlockOf (local_view block) function
entity_view (entity.Instruction number function) = Entity.InstructionOf number function
