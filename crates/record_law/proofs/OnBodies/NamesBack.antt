-- The names that a body declares are gathered from its records in their order.
use Rattle.std.proofs.Common.{◌≡◌, ℕ, suc, List, [], ◌∷◌, ◌++◌, length, Option, Some, None, refl, sym, ap, ◌∙◌, append-nil, append_assoc}
use Rattle.std.proofs.lemmas.Bool.{eq-eqb}
use Rattle.std.specs.Prelude.{map, flat_map, option_to_list}
use Rattle.ir_tables.specs.Opcode.{opcode_of_code}
use Rattle.module_arena.specs.Module.{Bytes, LocalName, Instruction, Block}
use Rattle.bit_tree.specs.Written.{Written, no_more}
use Rattle.record_table.specs.Walk.{Walk, going, told}
use Rattle.record_table.specs.Layout.{judged}
use Rattle.record_table.specs.Fields.{Texts, Numbering, label, after}
use Rattle.record_table.specs.Faults.{Records, a_record}
use Rattle.record_table.specs.Bodies.{Labels, labels, labels_by, labels_from, label_in, with_block, parameters, known_or, first_parameters, after_all, results}
use Rattle.record_table.specs.Spelling.{put, records_put, instruction_line, ending_line, block_lines, results as results_in}
use Rattle.record_table.specs.Listed.{IsLabel}
use Rattle.record_law.specs.Bodies.FittingBodies.{AreLabels, own_behind, own_behind_block, InstructionsFit, BlockFits, BlocksFit}
use Rattle.record_table.specs.Lays.{Lays}
use Rattle.record_law.proofs.OnBodies.BodyBack.{put_append}
use Rattle.record_law.proofs.OnBodies.LabelsBack.{with_result, named_in, instruction_in, end_in}

abbrev pub found : ℕ → List LocalName → List LocalName → Labels
found own values blocks = record { own = own; values = values; blocks = blocks }

with_result_is : (r : Option LocalName) (own : ℕ) (vs bs : List LocalName) → with_result (found own vs bs) r ≡ found (after_all own (results r)) (vs ++ option_to_list r) bs
with_result_is None own vs bs = ap (λ all. found own all bs) (sym (append-nil vs))
with_result_is (Some name) own vs bs = refl

abbrev pub own_behind_blocks : ℕ → List Block → ℕ
own_behind_blocks own [] = own
own_behind_blocks own (b ∷ bs) = own_behind_blocks (own_behind_block own b) bs

module _ (texts : Texts) (k : Numbering) (lays_label : (own : ℕ) → Lays (IsLabel texts own) (label texts own)) where
  names_back : (names : List LocalName) (own : ℕ) (rest : List ℕ) → AreLabels texts own names
      → labels_by texts own (length names) (going (flat_map (label texts 0).spell names ++ rest) None) ≡ (names, going rest None)
  unfolding labels_by
  names_back [] own rest fit = refl
  names_back (name ∷ names) own rest fit =
      ap (λ operands. labels_by texts own (suc (length names)) (going operands None)) (append_assoc ((label texts 0).spell name) (flat_map (label texts 0).spell names) rest)
      ∙ ap (λ (p : LocalName × Walk). (p.0 ∷ (labels_by texts (after own p.0) (length names) p.1).0, (labels_by texts (after own p.0) (length names) p.1).1)) ((lays_label own).back name (flat_map (label texts 0).spell names ++ rest) fit.0)
      ∙ ap (λ (q : List LocalName × Walk). (name ∷ q.0, q.1)) (names_back names (after own name) rest fit.1)

  pub parameters_judged : (names : List LocalName) → AreLabels texts 0 names → judged (parameters texts (length names)) ((parameters texts 0).spell names) ≡ (names, None)
  parameters_judged names fit =
      ap (λ (p : List LocalName × Walk). (p.0, told p.1)) (ap (λ ns. labels_by texts 0 (length names) (going ns None)) (sym (append-nil (flat_map (label texts 0).spell names))) ∙ names_back names 0 [] fit)

  first_back : (names : List LocalName) (behind : Records) → AreLabels texts 0 names → first_parameters texts (length names) (a_record 1 ((parameters texts 0).spell names) behind) ≡ names
  first_back names behind fit = ap (λ (x : List LocalName × Option ℕ). known_or (length names) x.0) (parameters_judged names fit) ∙ (rw (eq-eqb (length names) (length names) refl) refl)

  module _ (values blocks : List LocalName) where
    abbrev pub q : Numbering
    q = record k { values = values; blocks = blocks }

    instructions_in : (is : List Instruction) (own : ℕ) (taken : List Bytes) (vs bs : List LocalName) (behind : Written) → InstructionsFit texts q own taken is
        → labels_from texts k (found own vs bs) (records_put (put (map (instruction_line texts q) is) behind))
        ≡ labels_from texts k (found (own_behind own is) (vs ++ flat_map (λ i. option_to_list i.result) is) bs) (records_put behind)
    instructions_in [] own taken vs bs behind fit = ap (λ all. labels_from texts k (found own all bs) (records_put behind)) (sym (append-nil vs))
    instructions_in (i ∷ is) own taken vs bs behind fit =
        let rest = records_put (put (map (instruction_line texts q) is) behind) in
        instruction_in texts k values blocks lays_label (found own vs bs) i rest fit.0
        ∙ ap (λ s. labels_from texts k s rest) (with_result_is i.result own vs bs)
        ∙ instructions_in is (after_all own (results i.result)) _ (vs ++ option_to_list i.result) bs behind fit.2
        ∙ ap (λ all. labels_from texts k (found (own_behind own (i ∷ is)) all bs) (records_put behind)) (append_assoc vs (option_to_list i.result) (flat_map (λ i. option_to_list i.result) is))

    block_in : (b : Block) (own : ℕ) (taken : List Bytes) (vs bs : List LocalName) (behind : Written) → BlockFits texts q own taken b
        → labels_from texts k (found own vs bs) (records_put (put (block_lines texts q b) behind))
        ≡ labels_from texts k (found (own_behind_block own b) (vs ++ results_in b) (bs ++ b.name ∷ [])) (records_put behind)
    block_in b own taken vs bs behind fit =
        let lines = map (instruction_line texts q) b.instructions in
        let more = lines ++ ending_line q b.ending ∷ [] in
        ap (λ operands. labels_from texts k (with_block (found own vs bs) (label_in texts k own operands)) (records_put (put more behind))) (sym (append-nil ((label texts 0).spell b.name)))
        ∙ ap (λ name. labels_from texts k (with_block (found own vs bs) name) (records_put (put more behind))) (named_in texts k values blocks lays_label own b.name [] fit.0)
        ∙ ap (λ rest. labels_from texts k (found (after own b.name) vs (bs ++ b.name ∷ [])) (records_put rest)) (put_append lines (ending_line q b.ending ∷ []) behind)
        ∙ instructions_in b.instructions (after own b.name) _ vs (bs ++ b.name ∷ []) (put (ending_line q b.ending ∷ []) behind) fit.2
        ∙ end_in texts k values blocks lays_label (found (own_behind_block own b) (vs ++ results_in b) (bs ++ b.name ∷ [])) b.ending _ (records_put behind)

    blocks_in : (all : List Block) (own : ℕ) (taken : List Bytes) (vs bs : List LocalName) → BlocksFit texts q own taken all
        → labels_from texts k (found own vs bs) (records_put (put (flat_map (block_lines texts q) all) no_more))
        ≡ found (own_behind_blocks own all) (vs ++ flat_map results_in all) (bs ++ map (λ b. b.name) all)
    blocks_in [] own taken vs bs fit = ap (λ all. found own all bs) (sym (append-nil vs)) ∙ ap (λ all. found own (vs ++ []) all) (sym (append-nil bs))
    blocks_in (b ∷ all) own taken vs bs fit =
        ap (λ rest. labels_from texts k (found own vs bs) (records_put rest)) (put_append (block_lines texts q b) (flat_map (block_lines texts q) all) no_more)
        ∙ block_in b own taken vs bs (put (flat_map (block_lines texts q) all) no_more) fit.0
        ∙ blocks_in all (own_behind_block own b) _ (vs ++ results_in b) (bs ++ b.name ∷ []) fit.1
        ∙ ap (λ xs. found (own_behind_blocks own (b ∷ all)) xs ((bs ++ b.name ∷ []) ++ map (λ b. b.name) all)) (append_assoc vs (results_in b) (flat_map results_in all))
        ∙ ap (λ xs. found (own_behind_blocks own (b ∷ all)) (vs ++ flat_map results_in (b ∷ all)) xs) (append_assoc bs (b.name ∷ []) (map (λ b. b.name) all))

    -- the names of a body
    pub labels_back : (names : List LocalName) (all : List Block) (taken : List Bytes) → AreLabels texts 0 names → BlocksFit texts q (after_all 0 names) taken all
        → labels texts k (length names) (a_record 1 ((parameters texts 0).spell names) (records_put (put (flat_map (block_lines texts q) all) no_more)))
        ≡ found (own_behind_blocks (after_all 0 names) all) (names ++ flat_map results_in all) (map (λ b. b.name) all)
    unfolding opcode_of_code
    labels_back names all taken called fit =
        ap (λ first. labels_from texts k (found (after_all 0 first) first []) (records_put (put (flat_map (block_lines texts q) all) no_more))) (first_back names (records_put (put (flat_map (block_lines texts q) all) no_more)) called)
        ∙ blocks_in all (after_all 0 names) taken names [] fit
