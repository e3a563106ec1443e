-- A body that is put is read back.
use Rattle.std.proofs.Common.{◌≡◌, ℕ, suc, true, List, [], ◌∷◌, ◌++◌, length, Ok, refl, sym, ap, ◌∙◌}
use Rattle.std.proofs.lemmas.List.{length-map}
use Rattle.std.specs.Prelude.{map, flat_map}
use Rattle.module_arena.specs.Module.{LocalName, Numbered, Block, Function}
use Rattle.bit_tree.specs.Written.{no_more}
use Rattle.record_table.specs.Fields.{Texts, Numbering, label}
use Rattle.record_table.specs.Faults.{Answer, ◌>>=◌, a_record}
use Rattle.record_table.specs.Bodies.{FirstBlock, Labels, Begun, at_first, with_record, with_parameters, body_from, body, after_all, with_names, are_new, parameters}
use Rattle.module_arena.specs.Names.{parameter_names}
use Rattle.record_table.specs.Spelling.{put, records_put, block_lines, body_lines, within, results}
use Rattle.record_table.specs.Listed.{IsLabel}
use Rattle.record_law.specs.Bodies.FittingBodies.{AreLabels, BodyFits}
use Rattle.record_law.specs.Bodies.Laws.{HasRead}
use Rattle.record_table.specs.Lays.{Lays}
use Rattle.record_law.proofs.OnBodies.BodyBack.{in_block, behind_all, blocks_back, blocks_behind, parameters_behind}
use Rattle.record_law.proofs.OnBodies.NamesBack.{parameters_judged, labels_back}

module _ (texts : Texts) (k : Numbering) (lays_label : (own : ℕ) → Lays (IsLabel texts own) (label texts own)) where
  -- the parameters
  names_step : (q : Numbering) (names : List LocalName) (at : ℕ) → AreLabels texts 0 names → are_new [] names ≡ true
      → with_record texts q (length names) (at_first at) 1 ((parameters texts 0).spell names)
      ≡ Ok (in_block texts q lays_label (length names) (suc at) FirstBlock (after_all 0 names) (with_names [] names) names [] (Numbered 0) [])
  names_step q names at called new = ap (with_parameters (at_first at)) (parameters_judged texts q lays_label names called) ∙ (rw new refl)

  counted_back : (f : Function) (b : Block) (bs : List Block) (at : ℕ) → BodyFits texts k f (b ∷ bs)
      → body texts k (length (parameter_names f)) at (records_put (put (body_lines texts k f (b ∷ bs)) no_more))
      ≡ Ok (behind_all texts (within k f (b ∷ bs)) lays_label (length (parameter_names f)) (suc at) (after_all 0 (parameter_names f)) (with_names [] (parameter_names f)) (parameter_names f) [] b bs)
  counted_back f b bs at fit =
      let names = parameter_names f in
      let q = within k f (b ∷ bs) in
      let lines = records_put (put (flat_map (block_lines texts q) (b ∷ bs)) no_more) in
      let inside = a_record 1 ((parameters texts 0).spell names) lines in
      ap (λ (all : Labels). body_from texts (record k { values = all.values; blocks = all.blocks }) (length names) (at_first at) inside)
      (labels_back texts k lays_label (names ++ flat_map results (b ∷ bs)) (map (λ b. b.name) (b ∷ bs)) names (b ∷ bs) (with_names [] names) fit.0 fit.2)
      ∙ ap (λ (answer : Answer Begun). answer >>= λ t. body_from texts q (length names) t lines) (names_step q names at fit.0 fit.1)
      ∙ blocks_back texts q lays_label (length names) b bs (suc at) (after_all 0 names) FirstBlock (with_names [] names) names [] (Numbered 0) [] refl fit.2

  -- the body of a function of so many parameters
  pub body_back : (f : Function) (blocks : List Block) (at : ℕ) → BodyFits texts k f blocks
      → HasRead (parameter_names f) blocks (body texts k (length f.parameters) at (records_put (put (body_lines texts k f blocks) no_more)))
  body_back f [] at fit = elim fit [ ]
  body_back f (b ∷ bs) at fit =
      let names = parameter_names f in
      let q = within k f (b ∷ bs) in
      record {
        begun = behind_all texts q lays_label (length names) (suc at) (after_all 0 names) (with_names [] names) names [] b bs;
        is = ap (λ count. body texts k count at (records_put (put (body_lines texts k f (b ∷ bs)) no_more))) (sym (length-map f.parameters (λ p. p.name))) ∙ counted_back f b bs at fit;
        parameters_are = parameters_behind texts q lays_label (length names) b bs (suc at) (after_all 0 names) (with_names [] names) names [];
        blocks_are = blocks_behind texts q lays_label (length names) b bs (suc at) (after_all 0 names) (with_names [] names) names [];
      }
