-- What is known of each instruction and of each end of a function of a checked module.
use Rattle.std.proofs.Common.{◌≡◌, ℕ, ◌+◌, ◌<◌, All, List, [], ◌++◌, length, map, flat_map, true, Option, Some, None, option_to_list, unwrap_or, refl, sym, ap, ◌∙◌, subst, arith}
use Rattle.std.specs.Prelude.{slice_get}
use Rattle.std.specs.List.{AllByRecursion, list_all}
use Rattle.std.specs.Option.{option_map_or}
use Rattle.std.proofs.lemmas.List.{length-append, length-map}
use Rattle.std.proofs.lemmas.List.Elements.{All-head, recursion_from_All}
use Rattle.run_names.proofs.Listed.{mapped_at}
use Rattle.type_table.specs.Tree.{Structs, ptr}
use Rattle.type_table.specs.Types.{structs}
use Rattle.module_arena.specs.declared.entry.Block as the_block
use Rattle.module_arena.specs.declared.entry.Body as the_body
use Rattle.module_arena.specs.declared.entry.Function as the_function
use Rattle.module_arena.specs.declared.entry.LocalName as the_local
use Rattle.module_arena.specs.declared.entry.Parameter as the_parameter
use Rattle.module_arena.specs.declared.instruction.Ending.{Ending}
use Rattle.module_arena.specs.declared.instruction.Inst.{Inst}
use Rattle.module_arena.specs.Functions.{blocks, body}
use Rattle.module_arena.specs.InstructionRules.{operands_suit}
use Rattle.module_arena.specs.Known.{IsGood, KnowsBlock, KnowsBody, KnowsFunction, KnowsInst}
use Rattle.module_arena.specs.Known as arena
use Rattle.module_arena.specs.Lists.{Lists, function_blocks, value_names}
use Rattle.module_arena.specs.Mentions.{block_results, end_operands_of, result_of, targets_of}
use Rattle.module_arena.specs.Module.{Block, Function, Instruction, Module, Operand}
use Rattle.module_arena.specs.Operations.{callee, ending_operands, operands}
use Rattle.module_arena.specs.Valid.{AllHold, IsValid, function_demands, instruction_demands, instructions_demands}
use Rattle.module_arena.specs.View.{module_of}
use Rattle.module_arena.specs.WellFormed.{IsWellFormed, is_good_constant, known_in, known_of_block, known_of_operands, known_of_operation, known_of_variable}
use Rattle.module_arena.proofs.Parts.{valid_block, valid_blocks, valid_ending, valid_function, valid_instruction}
use Rattle.run_names.proofs.Arena.{function_there, structs_are}
use Rattle.run_initial.specs.Constants.Laws.{CanStand}
use Rattle.run_initial.proofs.OnConstants.Sounds.{back_all, front_all}
use Rattle.run_initial.proofs.OnConstants.Standing.{ending_stands, instruction_stands}
use Rattle.run_decode.specs.Scopes.Scopes.{block_of, function_of, instruction_of}
use Rattle.run_decode.proofs.OnScopes.Viewed.{blocks_all}
use Rattle.run_decode.proofs.OnSuits.Asked.{EndingAsked, InstructionAsked, ending_asked, instruction_asked}
use Rattle.run_decode.proofs.OnSuits.TypedOperands.{IsHad, all_had, ending_of, ending_operands_seen, operands_known, operands_seen, typed_operands}
use Rattle.run_decode.proofs.OnSuits.Listed.{back_of, front_of, item_of, part_of, part_passes, upto_below}
use Rattle.run_decode.proofs.OnSuits.Values.{IsChecked}

-- ---- ids

module _ (types constants : ℕ) (ps : List the_parameter.Parameter) where
  -- the names of parameters, and of results behind them
  abbrev names_with : Option the_body.Body → List the_local.LocalName
  names_with o = map (λ (p : the_parameter.Parameter). p.name) ps ++ option_map_or (λ (b : the_body.Body). b.results) o []

  abbrev blocks_with : Option the_body.Body → List the_block.Block
  blocks_with o = option_map_or (λ (b : the_body.Body). b.blocks) o []

  counted : (b : the_body.Body) → length ps + length b.results ≡ length (names_with (Some b))
  counted b =
      let both = length-append (map (λ (p : the_parameter.Parameter). p.name) ps) b.results in
      let named = length-map ps (λ (p : the_parameter.Parameter). p.name) in
      omega (arith, both, named)

  pub blocks_known : (o : Option the_body.Body) → All (KnowsBody types constants (length ps)) (option_to_list o) → All (KnowsBlock types constants (length (names_with o)) (length (blocks_with o))) (blocks_with o)
  blocks_known None h = λ k d lt. absurd (omega (arith, lt))
  blocks_known (Some b) h =
      subst (λ (n : ℕ). All (KnowsBlock types constants n (length b.blocks)) b.blocks) (counted b) (All-head (KnowsBody types constants (length ps)) b [] h).blocks_known

  pub results_known : (o : Option the_body.Body) → All (KnowsBody types constants (length ps)) (option_to_list o) → AllByRecursion (λ id. id < length (names_with o)) (flat_map block_results (blocks_with o))
  results_known None h = tt
  results_known (Some b) h =
      let count = counted b in
      subst (AllByRecursion (λ id. id < length (names_with (Some b)))) (sym (All-head (KnowsBody types constants (length ps)) b [] h).in_order)
      (upto_below (length ps) (length b.results) (length (names_with (Some b))) (omega (arith, count)))

same_blocks : (o : Option (List Block)) → body o ≡ unwrap_or o []
same_blocks None = refl
same_blocks (Some bs) = refl

-- what is known of the end of a block
pub record IsEnd (a : Lists) (f : the_function.Function) (places : List ℕ) (e : Ending) : Type 0 where
  pub targets : All (λ id. id < length (function_blocks f)) (targets_of e)
  pub asked : EndingAsked (structs a.table) (function_of a f) (ending_of a f e)
  pub had : AllByRecursion (IsHad a f places) (end_operands_of e)

module _ (a : Lists) (good : IsGood a) (well_formed : IsWellFormed (module_of a)) (valid : IsValid (module_of a)) (id : ℕ) (f : the_function.Function) (at : slice_get a.functions id ≡ Some f) (places : List ℕ) where
  abbrev m : Module
  m = module_of a

  abbrev meant : Function
  meant = function_of a f

  pub function_known : KnowsFunction (length a.table.types) (length a.constants) f
  function_known = item_of (KnowsFunction (length a.table.types) (length a.constants)) a.functions id f good.functions at

  pub demanded : AllHold (function_demands m meant)
  demanded = valid_function m id meant valid (function_there a id f at)

  blocks_seen : blocks meant ≡ map (block_of a f) (function_blocks f)
  blocks_seen = same_blocks meant.body ∙ blocks_all a f

  module _ (k : ℕ) (b : the_block.Block) (here : slice_get (function_blocks f) k ≡ Some b) where
    block_there : slice_get (blocks meant) k ≡ Some (block_of a f b)
    block_there = ap (λ (bs : List Block). slice_get bs k) blocks_seen ∙ mapped_at (block_of a f) (function_blocks f) k b here

    block_demanded : (first : ℕ) × AllHold (instructions_demands m meant (block_of a f b) 0 first (block_of a f b).instructions)
    block_demanded = valid_block m meant 0 (blocks meant) k (block_of a f b) (valid_blocks m meant demanded).1 block_there

    block_known : KnowsBlock (length a.table.types) (length a.constants) (length (value_names f)) (length (function_blocks f)) b
    block_known =
        item_of (KnowsBlock (length a.table.types) (length a.constants) (length (value_names f)) (length (function_blocks f))) (function_blocks f) k b
        (blocks_known (length a.table.types) (length a.constants) f.parameters f.body function_known.body_known) here

    block_names : AllByRecursion (λ id. id < length (value_names f)) (block_results b)
    block_names = part_of (λ (id : ℕ). id < length (value_names f)) block_results (function_blocks f) k b (results_known (length a.table.types) (length a.constants) f.parameters f.body function_known.body_known) here

    block_constants : list_all (is_good_constant m) (known_of_block (block_of a f b)) ≡ true
    block_constants =
        part_passes (is_good_constant m) known_of_block (blocks meant) k (block_of a f b)
        (part_passes (is_good_constant m) (λ (g : Function). flat_map known_of_block (blocks g)) m.functions id meant
        (back_all (is_good_constant m) (flat_map known_of_variable m.variables) (flat_map (λ (g : Function). flat_map known_of_block (blocks g)) m.functions) well_formed.constants)
        (function_there a id f at))
        block_there

    module _ (j : ℕ) (i : Inst) (there : slice_get b.instructions j ≡ Some i) where
      abbrev seen : Instruction
      seen = instruction_of a f i

      instruction_there : slice_get (block_of a f b).instructions j ≡ Some seen
      instruction_there = mapped_at (instruction_of a f) b.instructions j i there

      instruction_demanded : AllHold (instruction_demands m meant (block_of a f b) (0 + j) (block_demanded.0 + j) seen)
      instruction_demanded = valid_instruction m meant (block_of a f b) 0 block_demanded.0 (block_of a f b).instructions j seen block_demanded.1 instruction_there

      instruction_constants : list_all (is_good_constant m) (known_of_operation seen.operation) ≡ true
      instruction_constants =
          let of_instructions = flat_map (λ (x : Instruction). known_of_operation x.operation) (block_of a f b).instructions in
          part_passes (is_good_constant m) (λ (x : Instruction). known_of_operation x.operation) (block_of a f b).instructions j seen
          (front_all (is_good_constant m) of_instructions (known_of_operands (ending_operands (block_of a f b).ending)) block_constants)
          instruction_there

      constants_stand : AllByRecursion (CanStand m) (known_of_operation seen.operation)
      constants_stand = instruction_stands m meant (block_of a f b) (0 + j) (block_demanded.0 + j) seen instruction_demanded instruction_constants

      asked : InstructionAsked (structs a.table) seen
      asked = subst (λ (ss : Structs). InstructionAsked ss seen) (structs_are a) (instruction_asked m meant (block_of a f b) (0 + j) (block_demanded.0 + j) seen instruction_demanded)

      pub instruction_checked : IsChecked a f places i
      instruction_checked =
          let ids = item_of (KnowsInst (length a.table.types) (length a.constants) (length (value_names f)) (length (function_blocks f))) b.instructions j i block_known.instructions_known there in
          let known = known_of_operands (operands seen.operation) in
          let called = option_map_or (known_in ptr) (callee seen.operation) [] in
          record {
            ids = ids;
            results = part_of (λ (id : ℕ). id < length (value_names f)) result_of b.instructions j i block_names there;
            asked = asked;
            had = all_had a f places (typed_operands i)
                (operands_known (length a.table.types) (length a.constants) (length (value_names f)) (length (function_blocks f)) i ids)
                (subst (λ (os : List Operand). operands_suit (structs a.table) os ≡ true) (operands_seen a f i) asked.operand_types)
                (subst (λ (os : List Operand). AllByRecursion (CanStand m) (known_of_operands os)) (operands_seen a f i) (front_of (CanStand m) known called constants_stand));
            called = back_of (CanStand m) known called constants_stand;
          }

    pub end_checked : IsEnd a f places b.end
    end_checked =
        let number = block_demanded.0 + length (block_of a f b).instructions in
        let h = valid_ending m meant (block_of a f b) 0 block_demanded.0 (block_of a f b).instructions block_demanded.1 in
        let of_instructions = flat_map (λ (x : Instruction). known_of_operation x.operation) (block_of a f b).instructions in
        let stand = ending_stands m meant (block_of a f b) number h (back_all (is_good_constant m) of_instructions (known_of_operands (ending_operands (block_of a f b).ending)) block_constants) in
        let asked = subst (λ (ss : Structs). EndingAsked ss meant (ending_of a f b.end)) (structs_are a) (ending_asked m meant (block_of a f b) number h) in
        record {
          targets = block_known.targets_known;
          asked = asked;
          had = all_had a f places (end_operands_of b.end)
              (recursion_from_All (arena.HasOperand (length a.table.types) (length a.constants) (length (value_names f))) (end_operands_of b.end) block_known.operands_known)
              (subst (λ (os : List Operand). operands_suit (structs a.table) os ≡ true) (ending_operands_seen a f b.end) asked.operand_types)
              (subst (λ (os : List Operand). AllByRecursion (CanStand m) (known_of_operands os)) (ending_operands_seen a f b.end) stand);
        }
