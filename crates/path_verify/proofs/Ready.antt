-- What is known of the blocks of a function of an arena.
use Rattle.std.proofs.Common.{◌≡◌, ℕ, ◌+◌, ◌^◌, ◌<◌, List, [], ◌++◌, All, map, length, slice_get, Option, Some, None, subst, arith}
use Rattle.std.specs.Option.{option_map_or, option_to_list}
use Rattle.std.proofs.lemmas.List.{length-append, length-map}
use Rattle.std.proofs.lemmas.List.Elements.{All-head, All-nil, All-weaker}
use Rattle.std.proofs.lemmas.Option.{get_or_from_slice_get, slice_get_within}
use Rattle.module_arena.specs.declared.entry.Block as the_block
use Rattle.module_arena.specs.declared.entry.Body as the_body
use Rattle.module_arena.specs.declared.entry.Function as the_function
use Rattle.module_arena.specs.declared.entry.Parameter as the_parameter
use Rattle.module_arena.specs.declared.instruction.Inst as the_inst
use Rattle.module_arena.specs.Known.{KnowsBlock, KnowsBody, KnowsFunction}
use Rattle.module_arena.specs.Lists.{Lists, function_blocks, value_names}
use Rattle.module_arena.specs.Mentions.{targets_of}
use Rattle.path_verify.specs.Ready.{KnowsEnding, KnowsInstruction}

at_index : {A : Type 0} (P : A → Type 0) (xs : List A) (k : ℕ) (x : A) → All P xs → slice_get xs k ≡ Some x → P x
at_index P xs k x all at = subst P (get_or_from_slice_get xs k x x at) (all k x (slice_get_within xs k x at))

module _ (a : Lists) (f : the_function.Function) (known : KnowsFunction (length a.table.types) (length a.constants) f) where
  abbrev KnowsIts : ℕ → ℕ → the_block.Block → Type 0
  KnowsIts values blocks b = KnowsBlock (length a.table.types) (length a.constants) values blocks b

  abbrev KnowsWhole : the_body.Body → Type 0
  KnowsWhole b = KnowsBody (length a.table.types) (length a.constants) (length f.parameters) b

  blocks_by : (o : Option the_body.Body) → All KnowsWhole (option_to_list o)
      → All (KnowsIts (length (map (λ (p : the_parameter.Parameter). p.name) f.parameters ++ option_map_or (λ (b : the_body.Body). b.results) o [])) (length (option_map_or (λ (b : the_body.Body). b.blocks) o [])))
      (option_map_or (λ (b : the_body.Body). b.blocks) o [])
  blocks_by None all = All-nil _
  blocks_by (Some b) all =
      let k = All-head KnowsWhole b [] all in
      let many : length f.parameters + length b.results ≡ length (map (λ (p : the_parameter.Parameter). p.name) f.parameters ++ b.results) =
      omega (arith, length-append (map (λ (p : the_parameter.Parameter). p.name) f.parameters) b.results, length-map f.parameters (λ (p : the_parameter.Parameter). p.name)) in
      subst (λ (n : ℕ). All (KnowsIts n (length b.blocks)) b.blocks) many k.blocks_known

  few_by : (o : Option the_body.Body) → All KnowsWhole (option_to_list o) → length (option_map_or (λ (b : the_body.Body). b.blocks) o []) < 2 ^ 32
  few_by None all = omega arith
  few_by (Some b) all = (All-head KnowsWhole b [] all).few_blocks

  blocks_known : All (KnowsIts (length (value_names f)) (length (function_blocks f))) (function_blocks f)
  blocks_known = blocks_by f.body known.body_known

  pub few_blocks : length (function_blocks f) < 2 ^ 32
  few_blocks = few_by f.body known.body_known

  -- ends go to blocks of the function
  pub targets_known : All (λ (b : the_block.Block). All (λ t. t < length (function_blocks f)) (targets_of b.end)) (function_blocks f)
  targets_known =
      All-weaker (KnowsIts (length (value_names f)) (length (function_blocks f))) (λ (b : the_block.Block). All (λ t. t < length (function_blocks f)) (targets_of b.end)) (λ b k. k.targets_known) (function_blocks f) blocks_known

  module _ (id : ℕ) (b : the_block.Block) (at : slice_get (function_blocks f) id ≡ Some b) where
    block_known : KnowsIts (length (value_names f)) (length (function_blocks f)) b
    block_known = at_index (KnowsIts (length (value_names f)) (length (function_blocks f))) (function_blocks f) id b blocks_known at

    pub instruction_known : (k : ℕ) (i : the_inst.Inst) → slice_get b.instructions k ≡ Some i → KnowsInstruction a f i
    instruction_known k i here = at_index (KnowsInstruction a f) b.instructions k i block_known.instructions_known here

    pub ending_known : KnowsEnding a f b.end
    ending_known = block_known.operands_known
