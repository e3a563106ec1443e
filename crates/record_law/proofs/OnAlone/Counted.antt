-- What a module lists is no more than its records and their operands.
use Rattle.std.proofs.Common.{◌≡◌, ℕ, suc, ◌+◌, ◌<◌, ◌≤◌, List, [], ◌∷◌, ◌++◌, length, map, flat_map, filter_map, Option, Some, None, arith}
use Rattle.std.specs.Option.{option_to_list}
use Rattle.std.proofs.lemmas.List.{length-append, length-map}
use Rattle.bit_tree.specs.Written.{Written, no_more}
use Rattle.type_table.specs.Tree.{Tree, TreeBody}
use Rattle.module_arena.specs.Module.{LocalName, Instruction, Block, Function, Module}
use Rattle.module_arena.specs.Names.{parameter_names}
use Rattle.record_table.specs.Fields.{Texts, Numbering, label, name_in}
use Rattle.record_table.specs.Mentions.{mentioned}
use Rattle.record_table.specs.TypeRecords.{definition}
use Rattle.record_table.specs.Spelling.{Line, put, put_block, put_bodies, put_module, written_module, head_lines, type_lines, global_lines, body_of, body_lines, block_lines, instruction_line, ending_line, within, numbering, texts_in, results, type_line, by_ids, body_by_ids}
use Rattle.bit_tree.specs.Sizes.Plain.{weight}
use Rattle.record_law.proofs.OnAlone.Numbers.{at_least}

-- how many records these are, and operands
unfoldable pub total : List Line → ℕ
total [] = 0
total (line ∷ lines) = suc (length line.1) + total lines

total_both : (xs ys : List Line) → total (xs ++ ys) ≡ total xs + total ys
unfolding total
total_both [] ys = omega arith
total_both (x ∷ xs) ys = let others = total_both xs ys in omega (arith, others)

total_count : (lines : List Line) → length lines ≤ total lines
unfolding total
total_count [] = omega arith
total_count (line ∷ lines) = let others = total_count lines in omega (arith, others)

lines_weight : (lines : List Line) (behind : Written) → weight (put lines behind) ≡ total lines + weight behind
unfolding weight total
lines_weight [] behind = omega arith
lines_weight (line ∷ lines) behind = let others = lines_weight lines behind in omega (arith, others)

pub none_weight : (lines : List Line) → weight (put lines no_more) ≡ total lines
unfolding weight
none_weight lines = let all = lines_weight lines no_more in omega (arith, all)

-- ---- the parts of a module
module _ (m : Module) where
  abbrev bodies : List (List Line)
  bodies = filter_map (body_of (texts_in m) (numbering m)) m.functions

  inside_weight : weight (put_module (texts_in m) m) ≤ weight (written_module m)
  unfolding weight
  inside_weight = omega arith

  pub parts_weight : total (type_lines (texts_in m) (mentioned m) m) + weight (put_bodies bodies no_more) ≤ weight (written_module m)
  unfolding weight
  parts_weight =
      let rest = put_block 17 (put (type_lines (texts_in m) (mentioned m) m) no_more) (put (global_lines (texts_in m) m) (put_bodies bodies no_more)) in
      let a = lines_weight (head_lines (texts_in m) m) rest in
      let b = none_weight (type_lines (texts_in m) (mentioned m) m) in
      let c = lines_weight (global_lines (texts_in m) m) (put_bodies bodies no_more) in
      let d = inside_weight in
      omega (arith, a, b, c, d)

  pub types_counted : length (mentioned m) ≤ weight (written_module m)
  types_counted =
      let a = parts_weight in
      let b = total_count (type_lines (texts_in m) (mentioned m) m) in
      let names = map (λ (s : List ℕ × TreeBody). s.0) m.structs in
      let front : List Line = map (λ t. type_line (by_ids (mentioned m) names t)) (mentioned m) in
      let back : List Line = map (λ s. (7, (definition (texts_in m) 0).spell (body_by_ids (mentioned m) s.1, s.0))) m.structs in
      let c : length (type_lines (texts_in m) (mentioned m) m) ≡ length front + length back = length-append front back in
      let d : length front ≡ length (mentioned m) = length-map (mentioned m) (λ (t : Tree). type_line (by_ids (mentioned m) names t)) in
      omega (arith, a, b, c, d)

-- a name takes an operand, where texts stand in a table
pub label_some : (texts : Texts) → ((text : Option (List ℕ)) → 0 < length (texts.label.spell text)) → (name : LocalName) → 0 < length ((label texts 0).spell name)
label_some texts some name = some (name_in name)

result_few : (r : Option LocalName) → length (option_to_list r) ≤ 1
result_few None = omega arith
result_few (Some name) = omega arith

-- ---- the names of a body
module _ (texts : Texts) (some : (name : LocalName) → 0 < length ((label texts 0).spell name)) where
  results_few : (is : List Instruction) → length (flat_map (λ i. option_to_list i.result) is) ≤ length is
  results_few [] = omega arith
  results_few (i ∷ is) =
      let others = results_few is in
      let here = result_few i.result in
      omega (arith, others, here, length-append (option_to_list i.result) (flat_map (λ (i : Instruction). option_to_list i.result) is))

  block_counted : (k : Numbering) (b : Block) → length (results b) + 1 ≤ total (block_lines texts k b)
  unfolding total
  block_counted k b =
      let lines = map (instruction_line texts k) b.instructions in
      let a = total_count (lines ++ ending_line k b.ending ∷ []) in
      let c = results_few b.instructions in
      omega (arith, a, c, length-append lines (ending_line k b.ending ∷ []), length-map b.instructions (instruction_line texts k))

  blocks_counted : (k : Numbering) (bs : List Block) → length (flat_map results bs) + length bs ≤ total (flat_map (block_lines texts k) bs)
  unfolding total
  blocks_counted k [] = omega arith
  blocks_counted k (b ∷ bs) =
      let here = block_counted k b in
      let others = blocks_counted k bs in
      omega (arith, here, others, length-append (results b) (flat_map results bs), total_both (block_lines texts k b) (flat_map (block_lines texts k) bs))

  -- the values and blocks of a body are no more than its records and their operands
  pub body_counted : (k : Numbering) (f : Function) (bs : List Block)
      → (length (within k f bs).values ≤ total (body_lines texts k f bs)) × (length (within k f bs).blocks ≤ total (body_lines texts k f bs))
  unfolding total
  body_counted k f bs =
      let names = at_least (label texts 0).spell (parameter_names f) some in
      let others = blocks_counted (within k f bs) bs in
      let all = length-append (parameter_names f) (flat_map results bs) in
      (omega (arith, names, others, all), omega (arith, others, length-map bs (λ (b : Block). b.name)))
