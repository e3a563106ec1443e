-- The end of a block, put behind what was read so far.
use Rattle.std.proofs.Common.{◌≡◌, ◌+◌, ℕ, suc, false, List, [], ◌∷◌, ◌++◌, Some, None, length, map, flat_map, All, refl, sym, ap, subst, ◌∙◌, arith, append-nil}
use Rattle.std.proofs.lemmas.List.{map-append}
use Rattle.std.proofs.lemmas.List.Concat.{flat_map-append}
use Rattle.std.proofs.lemmas.List.Elements.{All-push}
use Rattle.ir_tables.specs.declared.opcode.Opcode.{Opcode}
use Rattle.type_table.specs.Types.{trees}
use Rattle.module_arena.proofs.Found.{some-equal}
use Rattle.module_arena.specs.declared.entry.Block as the_block
use Rattle.module_arena.specs.declared.instruction.Ending as the_ending
use Rattle.module_arena.specs.Known.{KnowsBlock, upto}
use Rattle.module_arena.specs.Mentions.{block_results, result_of}
use Rattle.module_arena.specs.Module as m
use Rattle.module_arena.specs.View.{block_view, constants_of, inst_view, local_view}
use Rattle.record_table.specs.Bodies as bodies
use Rattle.record_table.specs.Fields.{Numbering}
use Rattle.record_table.specs.Layout.{judged}
use Rattle.record_table.specs.Lines.{ending}
use Rattle.record_table.specs.Walk.{going}
use Rattle.record_law.specs.Labels.Laws.{opened, results_in, results_of}
use Rattle.record_read.specs.Reader.{Reader, is_broken}
use Rattle.type_read.specs.declared.arena.counts.LocalCounts.{LocalCounts}
use Rattle.type_read.specs.declared.arena.module_reader.ModuleReader.{ModuleReader}
use Rattle.type_read.specs.Arena.Growing.{Growing, Grows}
use Rattle.type_read.specs.Arena.Kept.{Goes}
use Rattle.type_read.specs.Arena.Numbered.{Numbers, IsDeclared}
use Rattle.type_read.proofs.OnArena.Kept.{grows_two}
use Rattle.body_read.proofs.OnOperands.Joined.{same_locals}
use Rattle.body_read.specs.Lines.Kept.{HasInst}
use Rattle.body_read.specs.Endings.Ends.{HasEnding, ReadsEnding, ending_in}
use Rattle.body_read.specs.Names.Called.{AreNames}
use Rattle.body_read.specs.declared.blocks.begun.Begun.{Begun}
use Rattle.body_read.specs.Blocks.Begun.{Ends, Follows, Has, IsBody, Means, Passes, block_called, due_view, results_so_far}

-- operands were taken, and the reader is behind the record
pub passes_by : (a b : ModuleReader) (r : Reader) → Goes a b → r.spent ≡ b.reader.spent → r.left ≡ b.reader.left → r.at ≡ b.reader.at → Passes a (record b { reader = r })
passes_by a b r g spent left at = record {
  grows = g.grows;
  globals = ap (λ (x : ModuleReader). x.globals) g.rest;
  locals = ap (λ (x : ModuleReader). x.locals) g.rest;
  spent = spent ∙ ap (λ (x : ModuleReader). x.reader.spent) g.rest;
  left = left ∙ ap (λ (x : ModuleReader). x.reader.left) g.rest;
  at = at ∙ ap (λ (x : ModuleReader). x.reader.at) g.rest;
}

module _ (k : Numbering) (count : ℕ) (a b : ModuleReader) (before after : Begun) (o : Opcode) (e : the_ending.Ending) (s : bodies.Begun) (operands : List ℕ)
    (front : a.reader.walk ≡ going operands None) (follows : Follows count before s) (reads : ReadsEnding o a b (Some e)) (line : s.due ≡ bodies.Line) (ends : Ends before e after) where
  abbrev kept : the_block.Block
  kept = record { name = before.name; instructions = before.instructions.items; end = e }

  abbrev read : m.Block
  read = record { name = s.name; instructions = s.instructions; ending = (judged (ending k o) operands).0 }

  abbrev t : bodies.Begun
  t = record s { at = suc s.at; due = bodies.NextBlock; blocks = s.blocks ++ read ∷ [] }

  not_parameters : s.due ≡ bodies.Parameters → ⊥
  not_parameters first = cc

  results_same : results_so_far s ≡ results_so_far t
  results_same =
      ap (λ d. results_of s.blocks ++ results_in (opened d s.instructions)) line
      ∙ sym (append-nil (results_of (s.blocks ++ read ∷ []))
      ∙ (flat_map-append (λ (c : m.Block). results_in c.instructions) s.blocks (read ∷ []) ∙ ap (λ (xs : List m.LocalName). results_of s.blocks ++ xs) (append-nil (results_in s.instructions))))

  ended_follows : Follows count after t
  ended_follows = record {
    due_is = ap (λ (x : Begun). due_view x.due) ends.rest;
    names = subst (λ (x : Begun). AreNames x.names s.own s.taken) (sym ends.rest) follows.names;
    ordinary = ap (λ (x : Begun). x.names.strange) ends.rest ∙ follows.ordinary;
    name = λ is. absurd (cc);
    blocks = ap (map block_called) ends.blocks
        ∙ (map-append block_called before.blocks.items (kept ∷ []) ∙ ((λ j. follows.blocks j ++ follows.name line j ∷ []) ∙ sym (map-append (λ (c : m.Block). c.name) s.blocks (read ∷ []))));
    results = ap (λ (x : Begun). map local_view x.results.items) ends.rest ∙ (follows.results ∙ results_same);
    counted = λ not. follows.counted not_parameters;
    next = λ not. ap (λ (x : Begun). x.next) ends.rest ∙ (follows.next not_parameters ∙ ap (λ (x : Begun). count + length x.results.items) (sym ends.rest));
    closed = sym ends.instructions;
    first = λ is. absurd (cc);
  }

  module _ (later : Growing) (g : Grows b.growing later) where
    abbrev knows : the_block.Block → Type 0
    knows = KnowsBlock (length later.arena.table.types) (length later.arena.constants) b.locals.values b.locals.blocks

    ended_has : Has b.locals later.arena count before → Has b.locals later.arena count after
    ended_has h =
        let there : HasEnding b.locals later.arena e = reads.reads.there later g in
        record {
          blocks = subst (All knows) (sym ends.blocks) (All-push knows before.blocks.items kept h.blocks (record { instructions_known = h.instructions; operands_known = there.operands; targets_known = there.targets }));
          instructions = subst (All (HasInst b.locals later.arena)) (sym ends.instructions) (λ i d lt. absurd (omega arith));
          in_order = (λ j. flat_map block_results (ends.blocks j) ++ flat_map result_of (ends.instructions j))
              ∙ (append-nil (flat_map block_results (before.blocks.items ++ kept ∷ []))
              ∙ (flat_map-append block_results before.blocks.items (kept ∷ [])
              ∙ (ap (λ (xs : List ℕ). flat_map block_results before.blocks.items ++ xs) (append-nil (flat_map result_of before.instructions.items))
              ∙ (h.in_order ∙ ap (λ (x : Begun). upto count (length x.results.items)) (sym ends.rest)))));
        }

    ended_means : Numbers a k → IsDeclared a k → is_broken b.reader.walk ≡ false → Means later.arena k before s → Means later.arena k after t
    ended_means n declared unbroken h =
        let bv = block_view (trees later.arena.table) (constants_of later.arena) k.values k.blocks in
        let iv = inst_view (trees later.arena.table) (constants_of later.arena) k.values k.blocks in
        let end : ending_in k later.arena e ≡ (judged (ending k o) operands).0 = some-equal (reads.reads.kept k n declared unbroken later g) ∙ ap (λ w. ((ending k o).read w).0) front in
        let lines : map iv before.instructions.items ≡ s.instructions = h.instructions ∙ ap (λ d. opened d s.instructions) line in
        let one : bv kept ≡ read = (λ j. record { name = follows.name line j; instructions = lines j; ending = end j }) in
        record {
          blocks = ap (map bv) ends.blocks ∙ (map-append bv before.blocks.items (kept ∷ []) ∙ (λ j. h.blocks j ++ one j ∷ []));
          instructions = ap (map iv) ends.instructions;
        }

  pub ended_body : (r : Reader) → r.spent ≡ b.reader.spent → r.left ≡ b.reader.left → r.at ≡ b.reader.at → Numbers a k → is_broken b.reader.walk ≡ false → IsBody k count a (record b { reader = r }) before after s t
  ended_body r spent left at n unbroken = record {
    passes = passes_by a b r reads.reads.goes spent left at;
    follows = ended_follows;
    at = refl;
    has = λ old later g.
        ended_has later g (subst (λ (l : LocalCounts). Has l later.arena count before) (same_locals a b reads.reads.goes) (old later (grows_two a.growing b.growing later reads.reads.goes.grows g)));
    means = λ declared old later g. ended_means later g n declared unbroken (old later (grows_two a.growing b.growing later reads.reads.goes.grows g));
  }
