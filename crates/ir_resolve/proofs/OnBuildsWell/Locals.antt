-- Where nothing fails that a definition asks for, each local that is found is one of its values or of its blocks.
use Rattle.std.proofs.Common.{◌≡◌, List, [], ◌∷◌, ◌++◌, map, true, false, Option, Some, None, refl, sym, ap, subst, ◌∙◌}
use Rattle.std.specs.List.{flat_map, filter_map, cons_option}
use Rattle.std.specs.Prelude.{option_to_list}
use Rattle.std.proofs.lemmas.List.{append-nil}
use Rattle.ir_phrases.specs.Instructions.Tree.{BlockTree}
use Rattle.ir_syntax.specs.Tree.{ItemTree, ParameterTree, HeadTree}
use Rattle.module_arena.specs.Module as m
use Rattle.module_arena.specs.Module.{LocalName}
use Rattle.module_arena.specs.Functions.{result_name}
use Rattle.module_arena.specs.Names.{block_results}
use Rattle.module_arena.specs.Same.{has_local}
use Rattle.name_rules.specs.Locals.{announced, announced_parameter, announced_block, locals_from}
use Rattle.name_rules.specs.Demand.{first_refusal}
use Rattle.name_rules.specs.FunctionDemands.{none_called, called_after, blocks_demands, parameters_demands, definition_demands}
use Rattle.name_rules.specs.Breaks.{known_in}
use Rattle.name_rules.proofs.Judging.{both_hold}
use Rattle.name_rules.proofs.OnReading.Called.{of_kind, AreCalled, both_called, kind_there}
use Rattle.name_rules.proofs.OnReading.GoodFunctions.{defined_values, defined_blocks, parameters_ask, blocks_ask}
use Rattle.item_build.specs.Buildable.Bodies.{parameter_names, body_of, result_names, values_of, labels_of}
use Rattle.ir_resolve.proofs.OnBuildsWell.Given.{AreLocals, local_contained}

-- what the results of instructions are called, in either of two ways
results_same : (is : List m.Instruction) → filter_map (λ (i : m.Instruction). i.result) is ≡ flat_map result_name is
results_same [] = refl
results_same (i ∷ is) = by i.result (results_same is)
  where
    by : (result : Option LocalName) → filter_map (λ (i : m.Instruction). i.result) is ≡ flat_map result_name is
        → cons_option result (filter_map (λ (i : m.Instruction). i.result) is) ≡ option_to_list result ++ flat_map result_name is
    by None e = e
    by (Some name) e = ap (λ rest. name ∷ rest) e

blocks_same : (bs : List m.Block) → result_names bs ≡ flat_map block_results bs
blocks_same [] = refl
blocks_same (b ∷ bs) = λ j. results_same b.instructions j ++ blocks_same bs j

values_same : (head : HeadTree) (ps : List ParameterTree) (bs : List BlockTree) → values_of ps bs ≡ of_kind false 0 (announced ps bs)
values_same head ps bs = ap (λ rest. parameter_names ps ++ rest) (blocks_same (body_of ps bs)) ∙ defined_values head ps bs

module _ (items : List ItemTree) (head : HeadTree) (ps : List ParameterTree) (bs : List BlockTree) (e : first_refusal (definition_demands (known_in items) ps bs) ≡ None) where
  -- parameters, blocks and results are called as they are written
  are_called : AreCalled none_called (announced ps bs)
  are_called =
      let all = locals_from 0 (announced ps bs) in
      let parts = both_hold (parameters_demands (known_in items) all none_called ps) (blocks_demands (known_in items) all (called_after none_called (announced ps [])) bs) e in
      both_called none_called (map announced_parameter ps) (flat_map announced_block bs)
      (parameters_ask items all none_called ps parts.0)
      (subst (λ before. AreCalled (called_after none_called before) (flat_map announced_block bs)) (append-nil (map announced_parameter ps))
      (blocks_ask items all (called_after none_called (announced ps [])) bs parts.1))

  pub are_locals : AreLocals (locals_from 0 (announced ps bs)) (values_of ps bs) (labels_of ps bs)
  are_locals = record {
    value_called = λ name h. local_contained (values_of ps bs) name
        (subst (λ names. has_local names name ≡ true) (sym (values_same head ps bs)) (kind_there none_called (announced ps bs) false name are_called h));
    label_called = λ name h. local_contained (labels_of ps bs) name
        (subst (λ names. has_local names name ≡ true) (sym (defined_blocks head ps bs)) (kind_there none_called (announced ps bs) true name are_called h));
  }
