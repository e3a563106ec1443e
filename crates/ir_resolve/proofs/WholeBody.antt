-- The body, from its blocks and from the names of all values and blocks.
use Rattle.std.proofs.Common.{◌≡◌, ℕ, ◌+◌, ◌-◌, ◌^◌, ◌<◌, List, ◌++◌, map, length, drop, flat_map, All, sym, ap, ◌∙◌, subst, arith}
use Rattle.std.specs.List.{sum_by}
use Rattle.std.proofs.lemmas.List.{length-map, length-append, drop-map}
use Rattle.std.proofs.lemmas.Simd.{map-map}
use Rattle.std.proofs.Math.Seq.{drop-append_seam}
use Rattle.ir_phrases.specs.Instructions.Tree.{BlockTree}
use Rattle.ir_syntax.specs.Counts.{block_count}
use Rattle.ir_syntax.specs.Tree.{ParameterTree}
use Rattle.type_table.specs.Types.{trees}
use Rattle.module_arena.specs.declared.entry.LocalName as the_local
use Rattle.module_arena.specs.declared.entry.Block as the_block
use Rattle.module_arena.specs.declared.entry.Body as the_body
use Rattle.module_arena.specs.Lists.{Lists}
use Rattle.module_arena.specs.Known.{upto, KnowsBlock, KnowsBody}
use Rattle.module_arena.specs.Mentions.{block_results}
use Rattle.module_arena.specs.Module as m
use Rattle.module_arena.specs.Module.{LocalName}
use Rattle.module_arena.specs.View.{constants_of, local_view, block_view, body_view}
use Rattle.name_rules.specs.Locals.{next_after, announced_parameter}
use Rattle.item_build.specs.Buildable.Bodies.{parameter_names, body_of, result_names, values_of, labels_of}
use Rattle.ir_resolve.specs.InstructionBuild.Named.{called_of}
use Rattle.ir_resolve.specs.Built.{block_results_count, blocks_built, AreBlocks}
use Rattle.ir_resolve.proofs.Numbers.{parameters_named}
use Rattle.ir_resolve.proofs.Meaning.{blocks_meant, all_counted, block_results_le, blocks_named}

module _ (parameters : List ParameterTree) (written : List BlockTree) where
  abbrev number : ℕ
  number = next_after 0 (map announced_parameter parameters)

  -- what is left behind the parameters
  results_left : (names : List LocalName) → names ≡ values_of parameters written → drop (length parameters) names ≡ result_names (body_of parameters written)
  results_left names e =
      let long : length parameters ≡ length (parameter_names parameters) = sym (parameters_named 0 parameters) in
      (λ j. drop (long j) (e j)) ∙ drop-append_seam (parameter_names parameters) (result_names (body_of parameters written))

  -- so many values: the parameters, and the results
  pub values_counted : (names : List the_local.LocalName) → called_of names ≡ values_of parameters written → length names ≡ length parameters + sum_by block_results_count written
  values_counted names e =
      let long = length-map names local_view in
      let same = ap length e in
      let both = length-append (parameter_names parameters) (result_names (body_of parameters written)) in
      let named = parameters_named 0 parameters in
      let counted = all_counted number written in
      omega (arith, long, same, both, named, counted)

  -- so many blocks
  pub labels_counted : (names : List the_local.LocalName) → called_of names ≡ labels_of parameters written → length names ≡ length written
  labels_counted names e =
      let long = length-map names local_view in
      let same = ap length e in
      let named = blocks_named number written in
      omega (arith, long, same, named)

  module _ (few : length parameters + sum_by block_count written < 2 ^ 32 - 2) where
    -- ids have 32 bits
    pub few_results : length parameters + sum_by block_results_count written < 2 ^ 32
    few_results = let le = block_results_le written in omega (arith, few, le)

    pub few_labels : length written < 2 ^ 32
    few_labels = let le = block_results_le written in omega (arith, few, le)

  module _ (a : Lists) (values labels : List the_local.LocalName) (called : called_of values ≡ values_of parameters written) (named : called_of labels ≡ labels_of parameters written)
      (body : the_body.Body) (are : AreBlocks (called_of values) (called_of labels) a body.blocks (blocks_built (called_of values) (called_of labels) 0 (length parameters) written)) where
    -- the blocks are those that are written
    blocks_are : map (block_view (trees a.table) (constants_of a) (called_of values) (called_of labels)) body.blocks ≡ body_of parameters written
    blocks_are = are.blocks ∙ blocks_meant (called_of values) (called_of labels) 0 (length parameters) number written (results_left (called_of values) called) named

    blocks_counted : length body.blocks ≡ length written
    blocks_counted =
        let long = length-map body.blocks (block_view (trees a.table) (constants_of a) (called_of values) (called_of labels)) in
        let same = ap length blocks_are in
        let many = blocks_named number written in
        let each = length-map (body_of parameters written) (λ (b : m.Block). b.name) in
        omega (arith, long, same, many, each)

    -- their names are those that were gathered
    labels_are : map (λ (b : the_block.Block). local_view b.name) body.blocks ≡ called_of labels
    labels_are =
        sym (map-map (λ (b : m.Block). b.name) (block_view (trees a.table) (constants_of a) (called_of values) (called_of labels)) body.blocks)
        ∙ ap (map (λ (b : m.Block). b.name)) blocks_are
        ∙ sym named

    module _ (results : body.results ≡ drop (length parameters) values) where
      results_are : map local_view body.results ≡ result_names (body_of parameters written)
      results_are = ap (map local_view) results ∙ sym (drop-map local_view (length parameters) values) ∙ results_left (called_of values) called

      values_are : parameter_names parameters ++ map local_view body.results ≡ called_of values
      values_are = ap (λ rest. parameter_names parameters ++ rest) results_are ∙ sym called

      -- the body is the one that is written
      pub body_is : body_view (trees a.table) (constants_of a) (parameter_names parameters) body ≡ body_of parameters written
      body_is = (λ j. map (block_view (trees a.table) (constants_of a) (values_are j) (labels_are j)) body.blocks) ∙ blocks_are

      results_many : length body.results ≡ sum_by block_results_count written
      results_many =
          let long = length-map body.results local_view in
          let same = ap length results_are in
          let counted = all_counted number written in
          omega (arith, long, same, counted)

      -- and its ids are known
      pub body_known : length parameters + sum_by block_count written < 2 ^ 32 - 2 → flat_map block_results body.blocks ≡ upto (length parameters) (sum_by block_results_count written)
          → KnowsBody (length a.table.types) (length a.constants) (length parameters) body
      body_known few in_order =
          let many = results_many in
          let value_count : length (called_of values) ≡ length parameters + length body.results = (let long = length-map values local_view in let count = values_counted values called in omega (arith, long, count, many)) in
          let label_count : length (called_of labels) ≡ length body.blocks = (let long = length-map labels local_view in let count = labels_counted labels named in let blocks = blocks_counted in omega (arith, long, count, blocks)) in
          let blocks = blocks_counted in
          record {
            few_values = (let lt = few_results few in omega (arith, lt, many));
            few_blocks = (let lt = few_labels few in omega (arith, lt, blocks));
            in_order = in_order ∙ ap (upto (length parameters)) (sym many);
            blocks_known = subst (λ n. All (KnowsBlock (length a.table.types) (length a.constants) n (length body.blocks)) body.blocks) value_count
                (subst (λ n. All (KnowsBlock (length a.table.types) (length a.constants) (length (called_of values)) n) body.blocks) label_count are.known);
          }
