-- The names of the parameters, put in front of all else.
use Rattle.std.proofs.Common.{◌≡◌, ◌⊎◌, ◌+◌, ℕ, suc, Bool, true, false, List, ◌++◌, Option, Some, None, length, inl, inr, refl, sym, ap, subst, ◌∙◌, add-zero}
use Rattle.module_arena.specs.Module as m
use Rattle.record_table.specs.Bodies as bodies
use Rattle.record_table.specs.Faults.{also}
use Rattle.record_table.specs.Fields.{Numbering}
use Rattle.record_table.specs.Layout.{judged}
use Rattle.record_table.specs.Walk.{going, told}
use Rattle.record_law.specs.Labels.Laws.{HasSoundLabels, opened, results_in, results_of}
use Rattle.record_law.proofs.OnLabels.Kept.{names_many, due_parameters}
use Rattle.record_law.proofs.OnLabels.Sound.{inline_sound, table_sound}
use Rattle.record_read.specs.declared.texts.Texts as the_texts
use Rattle.record_read.specs.declared.texts.Texts.TheVariants.{Inline, Table}
use Rattle.record_read.specs.Fields.{texts_of}
use Rattle.record_read.specs.Reader.{Reader, IsAtMost, IsBrokenBy, is_broken}
use Rattle.type_read.specs.declared.arena.module_reader.ModuleReader.{ModuleReader}
use Rattle.body_read.specs.Names.Called.{AreCalled, AreNames, IsTame, ReadsNames}
use Rattle.body_read.specs.declared.names.called.BodyNames.{BodyNames}
use Rattle.body_read.specs.declared.blocks.begun.Begun.{Begun}
use Rattle.body_read.specs.declared.blocks.begun.BodyDue.TheVariants as due
use Rattle.body_read.specs.Blocks.Begun.{Follows, IsBody}
use Rattle.body_read.proofs.OnBlocks.Closing.{told_low, told_unbroken, vain_both}
use Rattle.body_read.proofs.OnBlocks.Blocked.{passes_here, tame_first}

pub texts_sound : (x : the_texts.Texts) → HasSoundLabels (texts_of x)
texts_sound Inline = inline_sound
texts_sound (Table table) = table_sound table

module _ (x : the_texts.Texts) (count : ℕ) (a : ModuleReader) (q : Reader) (before : Begun) (named : BodyNames) (all_new : Bool) (s : bodies.Begun) (operands : List ℕ)
    (front : a.reader.walk ≡ going operands None) (follows : Follows count before s) (reads : ReadsNames x count a.reader before.names all_new q named) where
  abbrev read : List m.LocalName × Option ℕ
  read = judged (bodies.parameters (texts_of x) count) operands

  walk_is : q.walk ≡ (bodies.labels_by (texts_of x) 0 count (going operands None)).1
  walk_is = ap (λ (r : Reader). r.walk) reads.reader ∙ ap (λ w. (bodies.labels_by (texts_of x) 0 count w).1) front

  values_are : (bodies.labels_by (texts_of x) 0 count a.reader.walk).0 ≡ read.0
  values_are = ap (λ w. (bodies.labels_by (texts_of x) 0 count w).0) front

  judged_so : IsBrokenBy 4 q.walk ⊎ AreCalled before.names (bodies.after_all 0 read.0) s.taken read.0 q.walk all_new named
  judged_so = subst (λ (ns : List m.LocalName). IsBrokenBy 4 q.walk ⊎ AreCalled before.names (bodies.after_all 0 ns) s.taken ns q.walk all_new named) values_are
      (reads.judged (subst (IsTame x) (sym front) (tame_first x operands)) s.own s.taken follows.names)

  pub parameters_told : also 4 all_new (told q.walk) ≡ also 4 (bodies.are_new s.taken read.0) (told q.walk)
  parameters_told = by judged_so
    where
      by : IsBrokenBy 4 q.walk ⊎ AreCalled before.names (bodies.after_all 0 read.0) s.taken read.0 q.walk all_new named → also 4 all_new (told q.walk) ≡ also 4 (bodies.are_new s.taken read.0) (told q.walk)
      by (inl low) = vain_both all_new (bodies.are_new s.taken read.0) q.walk low
      by (inr so) = ap (λ b. also 4 b (told q.walk)) so.is_new

  pub parameters_rules : told q.walk ≡ read.1
  parameters_rules = ap told walk_is

  module _ (may : bodies.is_parameters s.due ≡ true) (unbroken : read.1 ≡ None) where
    abbrev t : bodies.Begun
    t = record s { at = suc s.at; due = bodies.FirstBlock; own = bodies.after_all s.own read.0; taken = bodies.with_names s.taken read.0; parameters = read.0 }

    abbrev made : Begun
    made = record before { due = due.FirstBlock; next = count; names = named }

    line : s.due ≡ bodies.Parameters
    line = due_parameters s.due may

    none_broken : is_broken q.walk ≡ false
    none_broken = told_unbroken q.walk (parameters_rules ∙ unbroken)

    called : AreCalled before.names (bodies.after_all 0 read.0) s.taken read.0 q.walk all_new named
    called = by judged_so
      where
        by : IsBrokenBy 4 q.walk ⊎ AreCalled before.names (bodies.after_all 0 read.0) s.taken read.0 q.walk all_new named → AreCalled before.names (bodies.after_all 0 read.0) s.taken read.0 q.walk all_new named
        by (inl low) = absurd (never (told q.walk) (told_low q.walk low) (parameters_rules ∙ unbroken))
          where
            never : (o : Option ℕ) → IsAtMost 4 o → o ≡ None → ⊥
            never None h e = h
            never (Some r) h e = cc
        by (inr so) = so

    parameters_follow : Follows count made t
    parameters_follow = record {
      due_is = refl;
      names = subst (λ n. AreNames named n t.taken) (ap (λ n. bodies.after_all n read.0) (sym (follows.first line).1)) called.names_are;
      ordinary = called.strange none_broken ∙ follows.ordinary;
      name = λ is. absurd (cc);
      blocks = follows.blocks;
      results = follows.results ∙ ap (λ d. results_of s.blocks ++ results_in (opened d s.instructions)) line;
      counted = λ not. names_many (texts_of x) (texts_sound x) count operands unbroken;
      next = λ not. sym (add-zero count) ∙ ap (λ xs. count + length xs) (sym (follows.first line).0);
      closed = sym (ap (λ d. opened d before.instructions.items) line) ∙ follows.closed;
      first = λ is. absurd (cc);
    }

    pub parameters_body : (k : Numbering) (r : Reader) → r.spent ≡ q.spent → r.left ≡ q.left → r.at ≡ q.at → IsBody k count a (record a { reader = r }) before made s t
    parameters_body k r spent left at = record {
      passes = passes_here a q r (bodies.labels_by (texts_of x) 0 count a.reader.walk).1 reads.reader spent left at;
      follows = parameters_follow;
      at = refl;
      has = λ old later g.
          let h = old later g in
          record { blocks = h.blocks; instructions = h.instructions; in_order = h.in_order };
      means = λ declared old later g.
          let h = old later g in
          record { blocks = h.blocks; instructions = h.instructions ∙ ap (λ d. opened d s.instructions) line };
    }
