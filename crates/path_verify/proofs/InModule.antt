-- The blocks of a function of an arena, in the module.
use Rattle.std.proofs.Common.{◌≡◌, ℕ, List, [], ◌++◌, map, slice_get, Option, Some, None, Ok, refl, sym, ap, ◌∙◌, subst}
use Rattle.std.specs.Option.{option_map, option_map_or}
use Rattle.std.proofs.lemmas.Option.{get_or_from_slice_get, slice_get-map}
use Rattle.module_arena.specs.declared.entry.Block as the_block
use Rattle.module_arena.specs.declared.entry.Body as the_body
use Rattle.module_arena.specs.declared.entry.Function as the_function
use Rattle.module_arena.specs.declared.entry.Parameter as the_parameter
use Rattle.module_arena.specs.declared.instruction.Inst as the_inst
use Rattle.module_arena.specs.Changes.{function_in}
use Rattle.module_arena.specs.Functions.{blocks, body}
use Rattle.module_arena.specs.Lists.{Lists, function_blocks}
use Rattle.module_arena.specs.Module.{LocalName}
use Rattle.module_arena.specs.Valid.{blocks_demands, entry_demands}
use Rattle.module_arena.specs.View.{block_view, body_view, constants_of, local_view, module_of}
use Rattle.type_table.specs.Types.{trees}
use Rattle.instruction_verify.specs.Uses.Uses.{block_named, blocks_named, instruction_in}
use Rattle.entry_verify.specs.Types.Judged.{Judged}
use Rattle.path_verify.specs.Bodies.{body_demands}
use Rattle.path_verify.specs.Ready.{block_in, blocks_in}

module _ (a : Lists) (f : the_function.Function) where
  abbrev called : List LocalName
  called = map (λ (p : the_parameter.Parameter). local_view p.name) f.parameters

  blocks_by : (o : Option the_body.Body) → body (option_map (body_view (trees a.table) (constants_of a) called) o)
      ≡ map (block_view (trees a.table) (constants_of a) (called ++ map local_view (option_map_or (λ (b : the_body.Body). b.results) o [])) (map (λ (x : the_block.Block). local_view x.name) (option_map_or (λ (b : the_body.Body). b.blocks) o [])))
      (option_map_or (λ (b : the_body.Body). b.blocks) o [])
  blocks_by None = refl
  blocks_by (Some b) = refl

  -- they are the blocks of the function
  pub blocks_told : blocks (function_in a f) ≡ blocks_in a f
  blocks_told = blocks_by f.body

  -- one of them
  pub block_at : (id : ℕ) (b : the_block.Block) → slice_get (function_blocks f) id ≡ Some b → slice_get (blocks_in a f) id ≡ Some (block_in a f b)
  block_at id b at = slice_get-map (block_in a f) (function_blocks f) id ∙ ap (option_map (block_in a f)) at

  named_at : (id : ℕ) (b : the_block.Block) → slice_get (function_blocks f) id ≡ Some b → slice_get (blocks_named f) id ≡ Some (local_view b.name)
  named_at id b at = slice_get-map (λ (x : the_block.Block). local_view x.name) (function_blocks f) id ∙ ap (option_map (λ (x : the_block.Block). local_view x.name)) at

  -- its name
  pub name_told : (id : ℕ) (b : the_block.Block) → slice_get (function_blocks f) id ≡ Some b → (block_in a f b).name ≡ block_named f id
  name_told id b at = sym (get_or_from_slice_get (blocks_named f) id (local_view b.name) (LocalName.Numbered 0) (named_at id b at))

  -- one of its instructions
  pub instruction_at : (b : the_block.Block) (k : ℕ) (i : the_inst.Inst) → slice_get b.instructions k ≡ Some i → slice_get (block_in a f b).instructions k ≡ Some (instruction_in a f i)
  instruction_at b k i at = slice_get-map (instruction_in a f) b.instructions k ∙ ap (option_map (instruction_in a f)) at

  -- a function without a body is asked nothing
  pub nothing_asked : f.body ≡ None → Judged {T = Unit {0}} (body_demands (module_of a) (function_in a f)) (Ok tt)
  nothing_asked none =
      let seen = λ (o : Option the_body.Body). body (option_map (body_view (trees a.table) (constants_of a) called) o) in
      subst (λ (o : Option the_body.Body). Judged {T = Unit {0}} (entry_demands (function_in a f) (seen o) ++ blocks_demands (module_of a) (function_in a f) 0 (seen o)) (Ok tt)) (sym none) tt
