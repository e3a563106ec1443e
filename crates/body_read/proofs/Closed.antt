-- A body whose block is over.
use Rattle.std.proofs.Common.{◌≡◌, ◌<◌, ◌+◌, ◌^◌, ℕ, true, false, List, [], ◌++◌, length, map, flat_map, All, refl, sym, ap, subst, ◌∙◌, arith, append-nil}
use Rattle.std.specs.Prelude.{Result, Ok, Err}
use Rattle.std.proofs.lemmas.Bool.{false≢true}
use Rattle.std.proofs.lemmas.List.{length-append, length-map}
use Rattle.type_table.specs.Types.{trees}
use Rattle.module_arena.specs.declared.entry.Block as the_block
use Rattle.module_arena.specs.declared.entry.Body as the_body
use Rattle.module_arena.specs.declared.entry.LocalName as the_local
use Rattle.module_arena.specs.declared.instruction.Inst.{Inst}
use Rattle.module_arena.specs.Known.{KnowsBlock, KnowsBody, upto}
use Rattle.module_arena.specs.Lists.{Lists}
use Rattle.module_arena.specs.Mentions.{block_results, result_of}
use Rattle.module_arena.specs.Module as m
use Rattle.module_arena.specs.View.{block_view, body_view, constants_of, local_view}
use Rattle.record_table.specs.Bodies as bodies
use Rattle.record_table.specs.Bodies.{Labels, at_first, body, closed_at, labels}
use Rattle.record_table.specs.Faults.{Answer, BadRecord, Records}
use Rattle.record_table.specs.Fields.{Numbering}
use Rattle.record_law.specs.Labels.Laws.{opened, results_in, results_of}
use Rattle.record_law.proofs.OnLabels.Ahead.{all_read, first_ahead}
use Rattle.record_read.specs.declared.fault.BitcodeFault.{BitcodeFault}
use Rattle.record_read.specs.declared.fault.BitcodeFault.TheVariants as fault
use Rattle.record_read.specs.declared.texts.Texts as the_texts
use Rattle.record_read.specs.Faults.{Answers}
use Rattle.record_read.specs.Fields.{texts_of}
use Rattle.type_read.specs.declared.arena.counts.LocalCounts.{LocalCounts}
use Rattle.type_read.specs.declared.arena.module_reader.ModuleReader.{ModuleReader}
use Rattle.body_read.specs.Ahead.Ahead.{AreCounts}
use Rattle.body_read.specs.declared.blocks.begun.Begun.{Begun}
use Rattle.body_read.specs.Blocks.Begun.{Follows, Has, Means, block_called, due_view}
use Rattle.body_read.proofs.OnBlocks.Parametered.{texts_sound}
use Rattle.body_read.specs.Whole.{Closes, IsClosed, IsRead, IsWhole, KeepsCounts, is_next}
use Rattle.body_read.proofs.Told.{told_so}

next_due : (d : bodies.BodyDue) → is_next d ≡ true → d ≡ bodies.NextBlock
next_due bodies.Parameters e = absurd (false≢true e)
next_due bodies.FirstBlock e = absurd (false≢true e)
next_due bodies.Line e = absurd (false≢true e)
next_due bodies.NextBlock e = refl

-- what is due is missing
still_due : (s : bodies.Begun) (d : bodies.BodyDue) → is_next d ≡ false → closed_at s d ≡ Err (BadRecord 12 s.at 5)
still_due s bodies.Parameters e = refl
still_due s bodies.FirstBlock e = refl
still_due s bodies.Line e = refl
still_due s bodies.NextBlock e = absurd (false≢true (sym e))

-- ---- a whole body

module _ (k : Numbering) (count : ℕ) (s : bodies.Begun) (found : Labels) (l : LocalCounts) (b : Begun) (whole : the_body.Body)
    (labels_are : (found.values ≡ s.parameters ++ results_of s.blocks) × (found.blocks ≡ map (λ (c : m.Block). c.name) s.blocks)) (counts : AreCounts l found)
    (follows : Follows count b s) (closed : IsClosed b whole) where
  over : s.due ≡ bodies.NextBlock
  over = sym follows.due_is ∙ next_due (due_view b.due) closed.may

  not_parameters : s.due ≡ bodies.Parameters → ⊥
  not_parameters first = let is = over in cc

  pub many : length s.parameters ≡ count
  many = follows.counted not_parameters

  results_are : map local_view whole.results ≡ results_of s.blocks
  results_are = ap (map local_view) closed.results ∙ (follows.results ∙ (ap (λ d. results_of s.blocks ++ results_in (opened d s.instructions)) over ∙ append-nil (results_of s.blocks)))

  -- the values that were counted ahead are those that were read
  values_are : s.parameters ++ map local_view whole.results ≡ found.values
  values_are = ap (λ (xs : List m.LocalName). s.parameters ++ xs) results_are ∙ sym labels_are.0

  blocks_are : map block_called whole.blocks ≡ found.blocks
  blocks_are = ap (map block_called) closed.blocks ∙ (follows.blocks ∙ sym labels_are.1)

  value_count : l.values ≡ count + length whole.results
  value_count =
      let all_of = sym (ap length values_are) in
      let parts = length-append s.parameters (map local_view whole.results) in
      let size = length-map whole.results local_view in
      let named = many in
      let is = counts.values in
      omega (arith, all_of, parts, size, named, is)

  block_count : l.blocks ≡ length whole.blocks
  block_count =
      let all_of = ap length blocks_are in
      let size = length-map whole.blocks block_called in
      let is = counts.blocks in
      omega (arith, all_of, size, is)

  module _ (a : Lists) where
    pub whole_blocks : Means a (record k { values = found.values; blocks = found.blocks }) b s → body_view (trees a.table) (constants_of a) s.parameters whole ≡ s.blocks
    whole_blocks means = (λ j. map (block_view (trees a.table) (constants_of a) (values_are j) (blocks_are j)) (closed.blocks j)) ∙ means.blocks

    pub whole_known : l.blocks < 2 ^ 32 → Has l a count b → KnowsBody (length a.table.types) (length a.constants) count whole
    whole_known fit has = record {
      few_values =
          let few = closed.few in
          let next = follows.next not_parameters in
          let size = ap length closed.results in
          omega (arith, few, next, size);
      few_blocks = subst (λ n. n < 2 ^ 32) block_count fit;
      in_order = ap (flat_map block_results) closed.blocks
          ∙ (sym (append-nil (flat_map block_results b.blocks.items))
          ∙ (ap (λ (is : List Inst). flat_map block_results b.blocks.items ++ flat_map result_of is) none_kept ∙ (has.in_order ∙ ap (λ (rs : List the_local.LocalName). upto count (length rs)) (sym closed.results))));
      blocks_known = subst (λ (bs : List the_block.Block). All (KnowsBlock (length a.table.types) (length a.constants) (count + length whole.results) (length whole.blocks)) bs) (sym closed.blocks)
          (subst (λ (p : ℕ × ℕ). All (KnowsBlock (length a.table.types) (length a.constants) p.0 p.1) b.blocks.items) (λ j. (value_count j, block_count j)) has.blocks);
    }
      where
        none_kept : [] ≡ b.instructions.items
        none_kept = sym (ap (λ d. opened d b.instructions.items) over) ∙ follows.closed

-- ---- the end of the block

module _ (x : the_texts.Texts) (k : Numbering) (count : ℕ) (inside : Records) (first new : ModuleReader) (b : Begun) (h : IsRead x k count inside first new b) where
  -- where it may end, what was counted ahead is what was read
  labels_are : h.s.due ≡ bodies.NextBlock → ((labels (texts_of x) k count inside).values ≡ h.s.parameters ++ results_of h.s.blocks) × ((labels (texts_of x) k count inside).blocks ≡ map (λ (c : m.Block). c.name) h.s.blocks)
  labels_are due =
      let all = labels (texts_of x) k count inside in
      all_read (texts_of x) k count (texts_sound x) all all.values all.blocks (at_first first.reader.at) h.s inside (first_ahead (texts_of x) k count first.reader.at inside) (h.same ∙ ap (closed_at h.s) due)

  -- what was read is the whole body, or something is due
  pub closing : (result : Result the_body.Body BitcodeFault) → KeepsCounts first new → AreCounts first.locals (labels (texts_of x) k count inside) → first.locals.blocks < 2 ^ 32 → Closes b new.reader.at result
      → Answers (IsWhole k count first new) (body (texts_of x) k count first.reader.at inside) result
  closing (Ok whole) keeps counts fit closed =
      let found = labels (texts_of x) k count inside in
      let due : h.s.due ≡ bodies.NextBlock = sym h.follows.due_is ∙ next_due (due_view b.due) closed.may in
      let are = labels_are due in
      let there : AreCounts new.locals found = subst (λ (l : LocalCounts). AreCounts l found) (sym keeps.locals) counts in
      let few : new.locals.blocks < 2 ^ 32 = subst (λ (l : LocalCounts). l.blocks < 2 ^ 32) (sym keeps.locals) fit in
      let answer : IsWhole k count first new whole h.s = record {
        parameters = many k count h.s found new.locals b whole are there h.follows closed;
        blocks = λ declared later g. whole_blocks k count h.s found new.locals b whole are there h.follows closed later.arena (h.means declared later g);
        known = λ later g. whole_known k count h.s found new.locals b whole are there h.follows closed later.arena few (h.has later g);
        at = h.at;
      } in
      subst (λ (o : Answer bodies.Begun). Answers (IsWhole k count first new) o (Ok whole)) (sym (h.same ∙ ap (closed_at h.s) due)) answer
  closing (Err given) keeps counts fit unclosed =
      let due : is_next h.s.due ≡ false = ap is_next (sym h.follows.due_is) ∙ unclosed.may_not in
      subst (λ (o : Answer bodies.Begun). Answers (IsWhole k count first new) o (Err given)) (sym (h.same ∙ still_due h.s h.s.due due))
      (told_so (BadRecord 12 h.s.at 5) given (unclosed.told ∙ ap (λ n. fault.BadRecord 12 n 5) h.at))
