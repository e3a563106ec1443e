-- A name that is missing: a rule up to 4 is broken, or it passes the end of the table.
use Rattle.std.proofs.Common.{◌≡◌, ◌⊎◌, ℕ, zero, suc, Bool, true, false, cond, List, [], ◌∷◌, Some, None, inl, inr, refl, sym, ap, subst, ◌∙◌, arith}
use Rattle.std.proofs.Common.{nat_lt, length, get_or, take, drop}
use Rattle.std.proofs.lemmas.Bool.{false≢true}
use Rattle.ir_tables.specs.declared.opcode.Opcode.{Opcode}
use Rattle.ir_tables.specs.declared.opcode.Opcode.TheVariants as op
use Rattle.type_table.specs.Tree.{Tree, void}
use Rattle.module_arena.proofs.Found.{some-equal}
use Rattle.module_arena.specs.Module.{Bytes, LocalName, Named}
use Rattle.module_arena.specs.TypeTests.{is_void}
use Rattle.record_table.specs.Walk.{Walk, going, stopped, ask, stop, next}
use Rattle.record_table.specs.Fields.{Numbering, is_name, label}
use Rattle.record_table.specs.Lines.{instruction, known_type, result_by, return_type}
use Rattle.record_table.specs.StringTable.{beyond, is_within, label_at, text_at}
use Rattle.record_read.specs.declared.texts.Texts as the_texts
use Rattle.record_read.specs.declared.texts.Texts.TheVariants.{Inline, Table}
use Rattle.record_read.specs.Fields.{texts_of}
use Rattle.record_read.specs.Reader.{IsBroken, IsBrokenBy}
use Rattle.body_read.specs.Calls.Calls.{name_behind}
use Rattle.record_law.proofs.OnLabels.Lasting.{call_named_keeps, named_keeps}
use Rattle.body_read.proofs.OnEndings.Parts.{asked_stopped}
use Rattle.body_read.specs.Names.Called.{beyond_table}
use Rattle.body_read.proofs.OnNames.Tame.{any_lasts, label_low, low_broken, low_lasts, tame_label}

-- ---- a name in front

-- of a text it is asked whether it is within the table, and whether it is a name
asked_within : (b : Bool) (rest : List ℕ) → IsBroken (ask 4 b (going rest None)) → IsBrokenBy 4 (ask 4 b (going rest None))
asked_within true rest h = absurd (false≢true h)
asked_within false rest h = omega arith

asked_text : (table : Bytes) (offset size : ℕ) (rest : List ℕ) (within : Bool) → is_within table offset size ≡ within
    → IsBroken (ask 4 (is_name (text_at table offset size)) (ask 8 (is_within table offset size) (going rest None)))
    → IsBrokenBy 4 (ask 4 (is_name (text_at table offset size)) (ask 8 (is_within table offset size) (going rest None))) ⊎ (text_at table offset size ≡ beyond_table)
asked_text table offset size rest true is broken =
    inl (subst (λ b. IsBrokenBy 4 (ask 4 (is_name (text_at table offset size)) (ask 8 b (going rest None)))) (sym is)
    (asked_within (is_name (text_at table offset size)) rest (subst (λ b. IsBroken (ask 4 (is_name (text_at table offset size)) (ask 8 b (going rest None)))) is broken)))
asked_text table offset zero rest false is broken =
    inl (subst (λ b. IsBrokenBy 4 (ask 4 (is_name (text_at table offset 0)) (ask 8 b (going rest None)))) (sym is) (subst (λ t. IsBrokenBy 4 (ask 4 (is_name t) (ask 8 false (going rest None)))) (sym outside) four))
  where
    outside : text_at table offset 0 ≡ []
    outside = ap (λ b. cond b (take 0 (drop offset table)) (beyond 0)) is

    four : IsBrokenBy 4 (ask 4 (is_name []) (ask 8 false (going rest None)))
    four = omega arith
asked_text table offset (suc size) rest false is broken = inr (ap (λ b. cond b (take (suc size) (drop offset table)) (beyond (suc size))) is)

-- a name that is broken, from a walk on which nothing is
missing_label : (x : the_texts.Texts) (own : ℕ) (operands : List ℕ) → IsBroken ((label (texts_of x) own).read (going operands None)).1
    → IsBrokenBy 4 ((label (texts_of x) own).read (going operands None)).1 ⊎ (((label (texts_of x) own).read (going operands None)).0 ≡ Named beyond_table)
unfolding next label_at
missing_label Inline own operands h = inl (low_broken ((label (texts_of Inline) own).read (going operands None)).1 (tame_label Inline own (going operands None) tt) h)
missing_label (Table table) own [] h = inl (omega arith)
missing_label (Table table) own (zero ∷ rest) h = absurd (false≢true h)
missing_label (Table table) own (suc size ∷ []) h =
    inl (subst (IsBrokenBy 4) (sym (ap (ask 4 (is_name (text_at table 0 size))) (asked_stopped 8 (is_within table 0 size) (Some 1)) ∙ asked_stopped 4 (is_name (text_at table 0 size)) (Some 1))) one)
  where
    one : IsBrokenBy 4 (stopped (Some 1))
    one = omega arith
missing_label (Table table) own (suc size ∷ offset ∷ rest) h = by (asked_text table offset size rest (is_within table offset size) refl h)
  where
    by : IsBrokenBy 4 (ask 4 (is_name (text_at table offset size)) (ask 8 (is_within table offset size) (going rest None))) ⊎ (text_at table offset size ≡ beyond_table)
        → IsBrokenBy 4 (ask 4 (is_name (text_at table offset size)) (ask 8 (is_within table offset size) (going rest None))) ⊎ (Named (text_at table offset size) ≡ Named beyond_table)
    by (inl low) = inl low
    by (inr is) = inr (ap (λ (t : Bytes). Named t) is)

-- ---- a line

module _ (x : the_texts.Texts) (k : Numbering) (own : ℕ) where
  -- what is broken behind the name of a result stays so behind its line
  pub broken_on : (o : Opcode) (operands : List ℕ) (v : LocalName) → ((instruction (texts_of x) k own o).read (going operands None)).0.result ≡ Some v
      → IsBroken (name_behind (texts_of x) own o k (going operands None)) → IsBroken ((instruction (texts_of x) k own o).read (going operands None)).1
  broken_on op.Store operands v is h = absurd (cc)
  broken_on op.Call operands v is h = call_named_keeps IsBroken any_lasts k (texts_of x) own (going operands None) h
  broken_on o operands v is h = named_keeps IsBroken any_lasts k (texts_of x) own o (going operands None) (λ e. cc) (λ e. cc) h

  low_on : (o : Opcode) (w : Walk) → (o ≡ op.Call → ⊥) → (o ≡ op.Store → ⊥) → IsBrokenBy 4 ((label (texts_of x) own).read w).1 → IsBrokenBy 4 ((instruction (texts_of x) k own o).read w).1
  low_on o w call store h = named_keeps (IsBrokenBy 4) low_lasts k (texts_of x) own o w call store h

  -- the type that a call returns: a low rule is broken, or nothing is
  returned : (operands : List ℕ) → IsBrokenBy 4 ((return_type k).read (going operands None)).1 ⊎ ((rest : List ℕ) × (((return_type k).read (going operands None)).1 ≡ going rest None))
  unfolding next known_type
  returned [] = inl (by (nat_lt 0 (length k.types)))
    where
      by : (b : Bool) → IsBrokenBy 4 (cond {A = Tree × Walk} b (get_or k.types 0 void, stopped (Some 1)) (void, stop 2 (stopped (Some 1)))).1
      by true = omega arith
      by false = omega arith
  returned (t ∷ operands) = by (nat_lt t (length k.types))
    where
      by : (b : Bool) → IsBrokenBy 4 (cond {A = Tree × Walk} b (get_or k.types t void, going operands None) (void, stop 2 (going operands None))).1
          ⊎ ((rest : List ℕ) × ((cond {A = Tree × Walk} b (get_or k.types t void, going operands None) (void, stop 2 (going operands None))).1 ≡ going rest None))
      by true = inr (operands, refl)
      by false = inl (omega arith)

  missing_result : (w : Walk) (is : Bool) (v : LocalName) → ((result_by (texts_of x) own is).read w).0 ≡ Some v → IsBrokenBy 4 w ⊎ ((rest : List ℕ) × (w ≡ going rest None))
      → IsBroken ((result_by (texts_of x) own is).read w).1 → IsBrokenBy 4 ((result_by (texts_of x) own is).read w).1 ⊎ (v ≡ Named beyond_table)
  missing_result w true v is front h = absurd (cc)
  missing_result w false v is (inl low) h = inl (label_low x own w low)
  missing_result w false v is (inr (rest, e)) h = by (missing_label x own rest (subst (λ u. IsBroken ((label (texts_of x) own).read u).1) e h))
    where
      by : IsBrokenBy 4 ((label (texts_of x) own).read (going rest None)).1 ⊎ (((label (texts_of x) own).read (going rest None)).0 ≡ Named beyond_table)
          → IsBrokenBy 4 ((label (texts_of x) own).read w).1 ⊎ (v ≡ Named beyond_table)
      by (inl low) = inl (subst (λ u. IsBrokenBy 4 ((label (texts_of x) own).read u).1) (sym e) low)
      by (inr strange) = inr (sym (some-equal is) ∙ (ap (λ u. ((label (texts_of x) own).read u).0) e ∙ strange))

  named_or : (o : Opcode) (operands : List ℕ) (v : LocalName) → (o ≡ op.Call → ⊥) → (o ≡ op.Store → ⊥) → IsBrokenBy 4 ((label (texts_of x) own).read (going operands None)).1 ⊎ (v ≡ Named beyond_table)
      → IsBrokenBy 4 ((instruction (texts_of x) k own o).read (going operands None)).1 ⊎ (v ≡ Named beyond_table)
  named_or o operands v call store (inl low) = inl (low_on o (going operands None) call store low)
  named_or o operands v call store (inr strange) = inr strange

  -- a line whose result has no name that is kept breaks a rule up to 4, or its name passes the end of the table
  pub missing_name : (o : Opcode) (operands : List ℕ) (v : LocalName) → ((instruction (texts_of x) k own o).read (going operands None)).0.result ≡ Some v
      → IsBroken (name_behind (texts_of x) own o k (going operands None)) → IsBrokenBy 4 ((instruction (texts_of x) k own o).read (going operands None)).1 ⊎ (v ≡ Named beyond_table)
  missing_name op.Store operands v is h = absurd (cc)
  missing_name op.Call operands v is h = by (missing_result ((return_type k).read (going operands None)).1 (is_void ((return_type k).read (going operands None)).0) v is (returned operands) h)
    where
      by : IsBrokenBy 4 (name_behind (texts_of x) own op.Call k (going operands None)) ⊎ (v ≡ Named beyond_table) → IsBrokenBy 4 ((instruction (texts_of x) k own op.Call).read (going operands None)).1 ⊎ (v ≡ Named beyond_table)
      by (inl low) = inl (call_named_keeps (IsBrokenBy 4) low_lasts k (texts_of x) own (going operands None) low)
      by (inr strange) = inr strange
  missing_name o operands v is h = named_or o operands v (λ e. cc) (λ e. cc) (missing_result (going operands None) false v is (inr (operands, refl)) h)
