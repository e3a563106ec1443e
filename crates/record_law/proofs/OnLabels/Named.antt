-- What a line declares is what its instruction gives a name to.
use Rattle.std.proofs.Common.{◌≡◌, ℕ, Bool, true, false, cond, List, [], ◌∷◌, Option, Some, None, length, get_or, nat_lt, refl, ap}
use Rattle.std.proofs.lemmas.Bool.{ltb-false}
use Rattle.std.proofs.lemmas.List.{get_or_past}
use Rattle.ir_tables.specs.declared.opcode.Opcode.{Opcode}
use Rattle.ir_tables.specs.declared.opcode.Opcode.TheVariants as op
use Rattle.type_table.specs.Tree.{Tree, void}
use Rattle.module_arena.specs.Module.{LocalName}
use Rattle.module_arena.specs.TypeTests.{is_void}
use Rattle.record_table.specs.Walk.{Walk, going, stop, next, told}
use Rattle.record_table.specs.Fields.{Texts, Numbering}
use Rattle.record_table.specs.Lines.{instruction, is_end, known_type, result_by, return_type}
use Rattle.record_table.specs.Bodies.{Labels, label_in, with_call, with_line, with_value}
use Rattle.record_law.specs.Labels.Laws.{HasSoundLabels, is_broken}
use Rattle.record_law.proofs.OnLabels.Lasting.{call_named_keeps, known_keeps}
use Rattle.record_law.proofs.OnLabels.Kept.{broken_lasts, told_broken}

-- with a result, where there is one
abbrev pub with_result : Labels → Option LocalName → Labels
with_result s None = s
with_result s (Some name) = with_value s name

none_taken : is_broken (next (going [] None)).1 ≡ true
unfolding next
none_taken = refl

module _ (texts : Texts) (sound : HasSoundLabels texts) (k : Numbering) (values blocks : List LocalName) where
  -- what indices stand for in the body
  abbrev pub q : Numbering
  q = record k { values = values; blocks = blocks }

  -- a call, by the type that it returns
  call_by : (s : Labels) (t : ℕ) (operands : List ℕ) (b : Bool) → nat_lt t (length k.types) ≡ b
      → cond (is_void (get_or k.types t void)) s (with_value s (label_in texts k s.own operands))
      ≡ with_result s (let rt = cond {A = Tree × Walk} b (get_or k.types t void, going operands None) (void, stop 2 (going operands None)) in ((result_by texts s.own (is_void rt.0)).read rt.1).0)
  call_by s t operands true e = by (is_void (get_or k.types t void))
    where
      by : (v : Bool) → cond v s (with_value s (label_in texts k s.own operands)) ≡ with_result s ((result_by texts s.own v).read (going operands None)).0
      by true = refl
      by false = refl
  call_by s t operands false e =
      ap (λ (x : Tree). cond (is_void x) s (with_value s (label_in texts k s.own operands))) (get_or_past k.types t void (ltb-false t (length k.types) e))

  -- without the type that it returns a call is broken
  call_broken : (own : ℕ) → is_broken ((instruction texts q own op.Call).read (going [] None)).1 ≡ true
  call_broken own = call_named_keeps (λ w. is_broken w ≡ true) broken_lasts q texts own (going [] None) (named ((return_type q).read (going [] None)).1 (is_void ((return_type q).read (going [] None)).0) typed)
    where
      typed : is_broken ((return_type q).read (going [] None)).1 ≡ true
      typed = known_keeps (λ w. is_broken w ≡ true) broken_lasts q (next (going [] None)).0 (next (going [] None)).1 none_taken

      named : (w : Walk) (v : Bool) → is_broken w ≡ true → is_broken ((result_by texts own v).read w).1 ≡ true
      named w true h = h
      named w false h = sound.lasts own w h

  call_labels : (s : Labels) (operands : List ℕ) → told ((instruction texts q s.own op.Call).read (going operands None)).1 ≡ None
      → with_call texts k s operands ≡ with_result s ((instruction texts q s.own op.Call).read (going operands None)).0.result
  unfolding next known_type
  call_labels s [] ok = absurd (told_broken ((instruction texts q s.own op.Call).read (going [] None)).1 (call_broken s.own) ok)
  call_labels s (t ∷ operands) ok = call_by s t operands (nat_lt t (length k.types)) refl

  -- an instruction
  pub line_labels : (s : Labels) (operands : List ℕ) (o : Opcode) → is_end o ≡ false → told ((instruction texts q s.own o).read (going operands None)).1 ≡ None
      → with_line texts k s operands (Some o) ≡ with_result s ((instruction texts q s.own o).read (going operands None)).0.result
  line_labels s operands op.Store end ok = refl
  line_labels s operands op.Ret end ok = absurd (cc)
  line_labels s operands op.Br end ok = absurd (cc)
  line_labels s operands op.Switch end ok = absurd (cc)
  line_labels s operands op.Unreachable end ok = absurd (cc)
  line_labels s operands op.Call end ok = call_labels s operands ok
  line_labels s operands _ end ok = refl

  -- an end declares nothing
  pub end_labels : (s : Labels) (operands : List ℕ) (o : Opcode) → is_end o ≡ true → with_line texts k s operands (Some o) ≡ s
  end_labels s operands op.Ret end = refl
  end_labels s operands op.Br end = refl
  end_labels s operands op.Switch end = refl
  end_labels s operands op.Unreachable end = refl
  end_labels s operands _ end = absurd (cc)
