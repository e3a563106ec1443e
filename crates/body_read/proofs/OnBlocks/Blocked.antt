-- The name of a block, and those of the parameters, put behind what was read so far.
use Rattle.std.proofs.Common.{◌≡◌, ◌⊎◌, ◌+◌, ℕ, suc, Bool, true, false, List, [], ◌∷◌, ◌++◌, Option, Some, None, length, map, flat_map, All, inl, inr, refl, sym, ap, subst, ◌∙◌, arith}
use Rattle.std.specs.Prelude.{◌||◌, is_none}
use Rattle.std.proofs.lemmas.Bool.{false≢true}
use Rattle.module_arena.specs.declared.entry.LocalName as the_local
use Rattle.module_arena.specs.Known.{KnowsBlock, upto}
use Rattle.module_arena.specs.Mentions.{block_results, result_of}
use Rattle.module_arena.specs.Module as m
use Rattle.module_arena.specs.View.{block_view, constants_of, inst_view, local_view}
use Rattle.type_table.specs.Types.{trees}
use Rattle.record_table.specs.Bodies as bodies
use Rattle.record_table.specs.Faults.{also}
use Rattle.record_table.specs.Fields.{Numbering, after, label}
use Rattle.record_table.specs.Layout.{judged}
use Rattle.record_table.specs.Walk.{Walk, going, told}
use Rattle.record_law.specs.Labels.Laws.{opened, results_in, results_of}
use Rattle.record_read.specs.declared.texts.Texts as the_texts
use Rattle.record_read.specs.declared.texts.Texts.TheVariants.{Inline, Table}
use Rattle.record_read.specs.Fields.{IsLocal, texts_of}
use Rattle.record_read.specs.Reader.{Reader, IsKept, IsBrokenBy}
use Rattle.type_read.specs.declared.arena.counts.LocalCounts.{LocalCounts}
use Rattle.type_read.specs.declared.arena.module_reader.ModuleReader.{ModuleReader}
use Rattle.type_read.specs.Arena.Growing.{Growing}
use Rattle.type_read.proofs.OnArena.Kept.{grows_self}
use Rattle.body_read.specs.Lines.Kept.{HasInst}
use Rattle.body_read.specs.Names.Called.{AreNames, Calls, IsTame, ReadsCalled, called_as}
use Rattle.body_read.specs.declared.names.called.BodyNames.{BodyNames}
use Rattle.body_read.specs.declared.blocks.begun.Begun.{Begun}
use Rattle.body_read.specs.Blocks.Begun.{Begins, Follows, Has, IsBody, Passes, block_called, due_view}
use Rattle.body_read.proofs.OnBlocks.Closing.{vain_both}

pub tame_first : (x : the_texts.Texts) (operands : List ℕ) → IsTame x (going operands None)
tame_first Inline operands = tt
tame_first (Table table) operands = λ e. absurd (false≢true e)

or_false : (a b : Bool) → b ≡ false → (a || b) ≡ a
or_false true b e = refl
or_false false b e = e

-- nothing but operands was taken
pub passes_here : (a : ModuleReader) (q r : Reader) (w : Walk) → q ≡ record a.reader { walk = w } → r.spent ≡ q.spent → r.left ≡ q.left → r.at ≡ q.at → Passes a (record a { reader = r })
passes_here a q r w is spent left at = record {
  grows = grows_self a.growing;
  globals = refl;
  locals = refl;
  spent = spent ∙ ap (λ (x : Reader). x.spent) is;
  left = left ∙ ap (λ (x : Reader). x.left) is;
  at = at ∙ ap (λ (x : Reader). x.at) is;
}

-- ---- the name of a block

block_closed : {A : Type 0} (due : bodies.BodyDue) (xs : List A) → bodies.is_block due ≡ true → opened due xs ≡ []
block_closed bodies.Parameters xs e = refl
block_closed bodies.FirstBlock xs e = refl
block_closed bodies.Line xs e = absurd (false≢true e)
block_closed bodies.NextBlock xs e = refl

block_not : (due : bodies.BodyDue) → bodies.is_block due ≡ true → due ≡ bodies.Parameters → ⊥
block_not bodies.Parameters e is = false≢true e
block_not bodies.FirstBlock e is = cc
block_not bodies.Line e is = false≢true e
block_not bodies.NextBlock e is = cc

module _ (x : the_texts.Texts) (a : ModuleReader) (q : Reader) (before : Begun) (named : BodyNames) (name given : Option the_local.LocalName) (is_new : Bool) (s : bodies.Begun) (count : ℕ) (operands : List ℕ)
    (front : a.reader.walk ≡ going operands None) (follows : Follows count before s) (reads : ReadsCalled x before.names.own a.reader q name) (given_is : given ≡ name) (made : Calls before.names given is_new named) where
  abbrev read : m.LocalName × Option ℕ
  read = judged (label (texts_of x) s.own) operands

  calls : Calls before.names name is_new named
  calls = subst (λ n. Calls before.names n is_new named) given_is made

  value_is : ((label (texts_of x) before.names.own).read a.reader.walk).0 ≡ read.0
  value_is = λ j. ((label (texts_of x) (follows.names.own_is j)).read (front j)).0

  walk_is : q.walk ≡ ((label (texts_of x) s.own).read (going operands None)).1
  walk_is = ap (λ (r : Reader). r.walk) reads.reads.reader ∙ ap (λ w. ((label (texts_of x) s.own).read w).1) front

  named_is : (n : Option the_local.LocalName) → IsKept IsLocal n ((label (texts_of x) before.names.own).read a.reader.walk).0 q.walk → (n ≡ None → ((label (texts_of x) before.names.own).read a.reader.walk).0 ≡ called_as None) → called_as n ≡ read.0
  named_is None kept none = sym (none refl) ∙ value_is
  named_is (Some kept) is none = is ∙ value_is

  -- whether the name is new tells as much as the definition does
  pub name_told : also 4 is_new (told q.walk) ≡ also 4 (bodies.are_new s.taken (read.0 ∷ [])) (told q.walk)
  name_told = by name refl
    where
      exact : called_as name ≡ read.0 → also 4 is_new (told q.walk) ≡ also 4 (bodies.are_new s.taken (read.0 ∷ [])) (told q.walk)
      exact v = ap (λ b. also 4 b (told q.walk)) ((calls.judged s.own s.taken follows.names).0 ∙ ap (λ n. bodies.are_new s.taken (n ∷ [])) v)

      by : (n : Option the_local.LocalName) → name ≡ n → also 4 is_new (told q.walk) ≡ also 4 (bodies.are_new s.taken (read.0 ∷ [])) (told q.walk)
      by (Some kept) e = exact (named_is name reads.reads.kept (λ none. absurd (cc)))
      by None e = strange (reads.none (subst (IsTame x) (sym front) (tame_first x operands)) e)
        where
          strange : IsBrokenBy 4 q.walk ⊎ (((label (texts_of x) before.names.own).read a.reader.walk).0 ≡ called_as None) → also 4 is_new (told q.walk) ≡ also 4 (bodies.are_new s.taken (read.0 ∷ [])) (told q.walk)
          strange (inl low) = vain_both is_new (bodies.are_new s.taken (read.0 ∷ [])) q.walk low
          strange (inr is) = exact (named_is name reads.reads.kept (λ none. is))

  pub told_same : told q.walk ≡ read.1
  told_same = ap told walk_is

  module _ (kept : the_local.LocalName) (some : name ≡ Some kept) (may : bodies.is_block s.due ≡ true) (later_body : Begun) (begins : Begins (record before { names = named }) kept later_body) where
    abbrev t : bodies.Begun
    t = record s { at = suc s.at; due = bodies.Line; own = after s.own read.0; taken = bodies.with_names s.taken (read.0 ∷ []); name = read.0; instructions = [] }

    v : called_as name ≡ read.0
    v = named_is name reads.reads.kept (λ none. absurd (cc))

    block_follows : Follows count later_body t
    block_follows = record {
      due_is = ap (λ (b : Begun). due_view b.due) begins.rest;
      names = subst (λ (b : Begun). AreNames b.names t.own t.taken) (sym begins.rest)
          (subst (λ n. AreNames named (bodies.after_all s.own (n ∷ [])) (bodies.with_names s.taken (n ∷ []))) v (calls.judged s.own s.taken follows.names).1);
      ordinary = ap (λ (b : Begun). b.names.strange) begins.rest ∙ (calls.strange ∙ (or_false before.names.strange (is_none name) (ap is_none some) ∙ follows.ordinary));
      name = λ is. ap (λ (b : Begun). local_view b.name) begins.rest ∙ (ap called_as (sym some) ∙ v);
      blocks = ap (λ (b : Begun). map block_called b.blocks.items) begins.rest ∙ follows.blocks;
      results = ap (λ (b : Begun). map local_view b.results.items) begins.rest ∙ (follows.results ∙ ap (λ (is : List m.Instruction). results_of s.blocks ++ results_in is) (block_closed s.due s.instructions may));
      counted = λ not. follows.counted (block_not s.due may);
      next = λ not. ap (λ (b : Begun). b.next) begins.rest ∙ (follows.next (block_not s.due may) ∙ ap (λ (b : Begun). count + length b.results.items) (sym begins.rest));
      closed = refl;
      first = λ is. absurd (cc);
    }

    none_kept : before.instructions.items ≡ []
    none_kept = sym follows.closed ∙ block_closed s.due before.instructions.items may

    block_has : (l : LocalCounts) (lists : Growing) → Has l lists.arena count before → Has l lists.arena count later_body
    block_has l lists h = record {
      blocks = subst (λ (b : Begun). All (KnowsBlock (length lists.arena.table.types) (length lists.arena.constants) l.values l.blocks) b.blocks.items) (sym begins.rest) h.blocks;
      instructions = subst (All (HasInst l lists.arena)) (sym begins.instructions) (λ i d lt. absurd (omega arith));
      in_order = (λ j. flat_map block_results (begins.rest j).blocks.items ++ flat_map result_of (begins.instructions j))
          ∙ (ap (λ is. flat_map block_results before.blocks.items ++ flat_map result_of is) (sym none_kept) ∙ (h.in_order ∙ ap (λ (b : Begun). upto count (length b.results.items)) (sym begins.rest)));
    }

    pub block_body : (k : Numbering) (r : Reader) → r.spent ≡ q.spent → r.left ≡ q.left → r.at ≡ q.at → IsBody k count a (record a { reader = r }) before later_body s t
    block_body k r spent left at = record {
      passes = passes_here a q r ((label (texts_of x) before.names.own).read a.reader.walk).1 reads.reads.reader spent left at;
      follows = block_follows;
      at = refl;
      has = λ old later g. block_has a.locals later (old later g);
      means = λ declared old later g.
          let h = old later g in
          let bv = block_view (trees later.arena.table) (constants_of later.arena) k.values k.blocks in
          let iv = inst_view (trees later.arena.table) (constants_of later.arena) k.values k.blocks in
          record {
            blocks = ap (λ (b : Begun). map bv b.blocks.items) begins.rest ∙ h.blocks;
            instructions = ap (map iv) begins.instructions;
          };
    }
