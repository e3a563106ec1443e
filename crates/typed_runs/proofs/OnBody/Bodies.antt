-- The blocks of a function of a valid module.
use Rattle.std.proofs.Common.{◌≡◌, ℕ, List, [], ◌∷◌, ◌++◌, flat_map, refl, sym, ap, ◌∙◌, subst, true, false, ◌&&◌, Option, Some, None, is_some, true≢false}
use Rattle.std.specs.Prelude.{slice_get}
use Rattle.std.specs.List.{AllByRecursion, list_all}
use Rattle.std.specs.Option.{option_map_or}
use Rattle.std.proofs.lemmas.Bool.{and_parts}
use Rattle.ir_tables.specs.Table.{is_distinct}
use Rattle.ir_eval.specs.declared.value.Pointer.{Pointer}
use Rattle.ir_eval.specs.declared.value.Scalar.{Scalar}
use Rattle.ir_memory.specs.declared.leaf.Leaf.{Leaf}
use Rattle.ir_memory.specs.declared.leaf.Leaf.TheVariants as leaf
use Rattle.type_table.specs.Tree.{Tree, ptr, void}
use Rattle.module_arena.specs.Forms.{is_not_empty, has_result_of_phrase}
use Rattle.module_arena.specs.Functions.{blocks}
use Rattle.module_arena.specs.Module.{Bytes, LocalName, Operation, Instruction, Block, Function, Module}
use Rattle.module_arena.specs.Names.{has_good_names, local_names, is_local_name, is_numbered_from, is_numbered_as_declared, knows_its_names, parameter_names, block_results}
use Rattle.module_arena.specs.Operations.{operands, ending_operands, callee}
use Rattle.module_arena.specs.Same.{same_local}
use Rattle.module_arena.specs.TypeTests.{is_void}
use Rattle.module_arena.specs.Valid.{IsValid, AllHold, blocks_demands}
use Rattle.module_arena.specs.WellFormed.{IsWellFormed, is_good_type, known_in, known_of_operands, known_of_operation, known_of_block, known_of_variable, is_good_constant, are_good_operands, is_good_block, is_good_function}
use Rattle.module_arena.proofs.Parts.{valid_function, valid_blocks, valid_block}
use Rattle.run_rules.proofs.OnPlaces.Parts.{all_from_places, same_blocks}
use Rattle.run_rules.proofs.OnPlaces.Search.{all_at}
use Rattle.run_rules.specs.Action.{Action}
use Rattle.run_rules.specs.Constant.{Names, shape_of}
use Rattle.run_rules.specs.Scope.{FunctionScope, scope_of, blocks_of, result_shape, place_in}
use Rattle.typed_runs.specs.Actions.{Typing, IsResult}
use Rattle.typed_runs.specs.Kinds.{IsOf, AreAt, kinds_of}
use Rattle.typed_runs.specs.Look.Typings.{frame_kinds}
use Rattle.typed_runs.proofs.OnLook.Operands.{HasShapes, AllHaveShapes}
use Rattle.typed_runs.proofs.OnTypes.Sound.{has_shape}
use Rattle.typed_runs.specs.Action.Asked.{IsAsked}
use Rattle.typed_runs.specs.Body.Laws.{IsAskedBlock, names_with, BodiesAreAsked}
use Rattle.typed_runs.proofs.OnBody.Asks.{IsDemanded, IsGoodInstruction, instruction_demanded, ending_demanded, instruction_good, ending_good}
use Rattle.typed_runs.proofs.OnBody.Lists.{front_all, back_all, all_of_part}
use Rattle.typed_runs.proofs.OnBody.Results.{result_placed}
use Rattle.typed_runs.proofs.OnBody.Sounds.{operands_good, callee_good, call_suited}

-- what has no name has no leaves
nothing_given : (names : Names) (ks : List Leaf) (ty : Tree) → is_void ty ≡ true → AreAt ks 0 (kinds_of (shape_of names ty))
nothing_given names ks void h = tt
nothing_given names ks _ h = absurd (true≢false (sym h))

nothing_placed : (names : Names) (ks : List Leaf) (o : Operation) → has_result_of_phrase o false ≡ true → AreAt ks 0 (kinds_of (result_shape names o))
nothing_placed names ks (Operation.Store flags value address alignment) h = tt
nothing_placed names ks (Operation.Call signature callee arguments) h = nothing_given names ks signature.returns h
nothing_placed names ks _ h = absurd (true≢false (sym h))

module _ (m : Module) (well_formed : IsWellFormed m) (valid : IsValid m) (number : ℕ) (f : Function) (is : slice_get m.functions number ≡ Some f) where
  good : is_good_function m f ≡ true
  good = all_at (is_good_function m) m.functions number f well_formed.functions is

  names_and_blocks : (has_good_names f ≡ true) × (list_all (is_good_block m) (blocks f) ≡ true)
  names_and_blocks =
      let p = and_parts (is_good_type m.structs f.returns) (list_all (λ p. is_good_type m.structs p.ty) f.parameters && (option_map_or is_not_empty f.body true && (has_good_names f && list_all (is_good_block m) (blocks f)))) good in
      let q = and_parts (list_all (λ p. is_good_type m.structs p.ty) f.parameters) (option_map_or is_not_empty f.body true && (has_good_names f && list_all (is_good_block m) (blocks f))) p.1 in
      and_parts (has_good_names f) (list_all (is_good_block m) (blocks f)) (and_parts (option_map_or is_not_empty f.body true) (has_good_names f && list_all (is_good_block m) (blocks f)) q.1).1

  distinct : is_distinct same_local (parameter_names f ++ flat_map (λ (block : Block). block.name ∷ block_results block) (blocks_of f)) ≡ true
  distinct =
      let p = and_parts (list_all is_local_name (local_names f)) (is_distinct same_local (local_names f) && (is_numbered_from 0 (local_names f) && (is_numbered_as_declared f && knows_its_names f))) names_and_blocks.0 in
      let q = and_parts (is_distinct same_local (local_names f)) (is_numbered_from 0 (local_names f) && (is_numbered_as_declared f && knows_its_names f)) p.1 in
      subst (λ bs. is_distinct same_local (parameter_names f ++ flat_map (λ (block : Block). block.name ∷ block_results block) bs) ≡ true) (same_blocks f.body) q.0

  constants : list_all (is_good_constant m) (flat_map known_of_block (blocks f)) ≡ true
  constants =
      all_of_part (is_good_constant m) (λ (f : Function). flat_map known_of_block (blocks f)) m.functions number f
      (back_all (is_good_constant m) (flat_map known_of_variable m.variables) (flat_map (λ (f : Function). flat_map known_of_block (blocks f)) m.functions) well_formed.constants) is

  demanded : AllHold (blocks_demands m f 0 (blocks f))
  demanded = (valid_blocks m f (valid_function m number f valid is)).1

  -- ---- one block

  module _ (k : ℕ) (b : Block) (at : slice_get (blocks f) k ≡ Some b) where
    block_good : is_good_block m b ≡ true
    block_good = all_at (is_good_block m) (blocks f) k b names_and_blocks.1 at

    block_constants : list_all (is_good_constant m) (known_of_block b) ≡ true
    block_constants = all_of_part (is_good_constant m) known_of_block (blocks f) k b constants at

    instruction_constants : (j : ℕ) (i : Instruction) → slice_get b.instructions j ≡ Some i → list_all (is_good_constant m) (known_of_operation i.operation) ≡ true
    instruction_constants j i e =
        all_of_part (is_good_constant m) (λ (i : Instruction). known_of_operation i.operation) b.instructions j i
        (front_all (is_good_constant m) (flat_map (λ (i : Instruction). known_of_operation i.operation) b.instructions) (known_of_operands (ending_operands b.ending)) block_constants) e

    ending_constants : list_all (is_good_constant m) (known_of_operands (ending_operands b.ending)) ≡ true
    ending_constants = back_all (is_good_constant m) (flat_map (λ (i : Instruction). known_of_operation i.operation) b.instructions) (known_of_operands (ending_operands b.ending)) block_constants

    -- what a part is taken of has a shape
    operation_shapes : (o : Operation) → are_good_operands m (operands o) ≡ true → HasShapes m.structs o
    operation_shapes (Operation.ExtractValue aggregate indices) h = has_shape m.structs well_formed.structs aggregate.ty (and_parts (is_good_type m.structs aggregate.ty) true h).0
    operation_shapes _ h = tt

    block_shapes : AllByRecursion (λ (i : Instruction). HasShapes m.structs i.operation) b.instructions
    block_shapes = all_from_places (λ (i : Instruction). HasShapes m.structs i.operation) b.instructions (λ j i e. operation_shapes i.operation (instruction_good m f b j i block_good e).operands_good)

  shapes : AllHaveShapes m.structs (blocks f)
  shapes = all_from_places (λ (b : Block). AllByRecursion (λ (i : Instruction). HasShapes m.structs i.operation) b.instructions) (blocks f) block_shapes

  module _ (t : Typing) (look : ℕ → ℕ → ℕ → Action) (n : ℕ) (address : Bytes → Scalar) (bounds : Pointer → Option (ℕ × ℕ)) (kinds : t.kinds n ≡ frame_kinds (names_with m address bounds) f) (addresses : (name : Bytes) → IsOf t.fixed leaf.Ptr (address name)) where
    abbrev names : Names
    names = names_with m address bounds

    abbrev sc : FunctionScope
    sc = scope_of names f

    result_asked : (k : ℕ) (b : Block) (j : ℕ) (i : Instruction) → slice_get (blocks f) k ≡ Some b → slice_get b.instructions j ≡ Some i → has_result_of_phrase i.operation (is_some i.result) ≡ true
        → (r : Option LocalName) → i.result ≡ r → IsResult t look n (place_in sc i.result) (kinds_of (result_shape names i.operation))
    result_asked k b j i at e h (Some name) q =
        subst (λ ks. AreAt ks (place_in sc i.result) (kinds_of (result_shape names i.operation))) (sym kinds)
        (result_placed names f distinct k b j i name (ap (λ bs. slice_get bs k) (sym (same_blocks f.body)) ∙ at) e q)
    result_asked k b j i at e h None q =
        subst (λ r. AreAt (t.kinds n) (place_in sc r) (kinds_of (result_shape names i.operation))) (sym q)
        (nothing_placed names (t.kinds n) i.operation (subst (λ (r : Option LocalName). has_result_of_phrase i.operation (is_some r) ≡ true) q h))

    instruction_asked : (k : ℕ) (b : Block) (j : ℕ) (i : Instruction) → slice_get (blocks f) k ≡ Some b → slice_get b.instructions j ≡ Some i → IsDemanded m f i → IsGoodInstruction m i → IsAsked t look n sc i
    instruction_asked k b j i at e d g =
        let known = instruction_constants k b at j i e in
        let first = front_all (is_good_constant m) (known_of_operands (operands i.operation)) (option_map_or (known_in ptr) (callee i.operation) []) known in
        let last = back_all (is_good_constant m) (known_of_operands (operands i.operation)) (option_map_or (known_in ptr) (callee i.operation) []) known in
        record {
          values = operands_good m well_formed.structs address bounds f t look n kinds shapes addresses (operands i.operation) d.locals d.fit first g.operands_good;
          called = callee_good m well_formed.structs address bounds f t look n kinds shapes addresses i.operation i.result d.call d.callee_fit last;
          placed = result_asked k b j i at e g.named i.result refl;
          types = g.types;
          phrase = g.phrase;
          lies = d.lies;
          alignment = d.alignment;
          arithmetic = d.arithmetic;
          cast = d.cast;
          address = d.address;
          element = d.element;
          part = d.part;
          call = call_suited m well_formed.structs address bounds f t look n kinds shapes addresses i.operation i.result d.call;
        }

    block_asked : (k : ℕ) (b : Block) → slice_get (blocks f) k ≡ Some b → IsAskedBlock t look n sc f b
    block_asked k b at =
        let of_block = valid_block m f 0 (blocks f) k b demanded at in
        let whole = block_good k b at in
        let end = ending_demanded m f b of_block.0 of_block.1 in
        record {
          instructions = all_from_places (IsAsked t look n sc) b.instructions (λ j i e. instruction_asked k b j i at e (instruction_demanded m f b of_block.0 j i of_block.1 e) (instruction_good m f b j i whole e));
          ending = record {
            values = operands_good m well_formed.structs address bounds f t look n kinds shapes addresses (ending_operands b.ending) end.locals end.fit (ending_constants k b at) (ending_good m f b whole);
            suits = end.suits;
          };
        }

    pub blocks_asked : AllByRecursion (IsAskedBlock t look n sc f) (blocks f)
    blocks_asked = all_from_places (IsAskedBlock t look n sc f) (blocks f) block_asked

pub bodies_are_asked : BodiesAreAsked
bodies_are_asked m well_formed valid k f is t look function address bounds kinds addresses = blocks_asked m well_formed valid k f is t look function address bounds kinds addresses
