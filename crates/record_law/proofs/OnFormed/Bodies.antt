-- A body, record by record: its lines are good, and its names are new and in order.
use Rattle.std.proofs.Common.{◌≡◌, ◌-◌, ℕ, zero, suc, Bool, true, false, cond, List, [], ◌∷◌, ◌++◌, length, map, flat_map, zip, Option, Some, None, nat_eq, refl, sym, ap, subst, ◌∙◌, append_assoc, append-nil, inl, inr}
use Rattle.std.specs.Prelude.{Ok, Err}
use Rattle.std.specs.Option.{option_to_list}
use Rattle.std.specs.List.{list_all, AllByRecursion}
use Rattle.std.proofs.lemmas.Bool.{and_from}
use Rattle.std.proofs.lemmas.List.{length-map}
use Rattle.std.proofs.lemmas.List.Concat.{flat_map-append}
use Rattle.ir_tables.specs.Table.{is_distinct}
use Rattle.ir_tables.specs.declared.opcode.Opcode.{Opcode}
use Rattle.ir_tables.specs.Opcode.{opcode_of_code}
use Rattle.module_arena.specs.Forms.{is_not_empty}
use Rattle.module_arena.specs.Functions.{result_name}
use Rattle.module_arena.specs.Module.{LocalName, Instruction, Block, Function, Module}
use Rattle.module_arena.specs.Names.{block_results, blocks_of_block, has_good_names, is_local_name, is_numbered_from, knows_its_names, local_names, locals_of_block, value_names}
use Rattle.module_arena.specs.Same.{has_local, same_local}
use Rattle.module_arena.specs.WellFormed.{is_good_block, is_good_constant, known_of_block}
use Rattle.record_table.specs.Walk.{Walk, going, stopped}
use Rattle.record_table.specs.Layout.{judged}
use Rattle.record_table.specs.Fields.{Texts, Numbering, after, label}
use Rattle.record_table.specs.Lines.{ending, instruction, is_end}
use Rattle.record_table.specs.Faults.{Answer, ◌>>=◌, Records, no_more, a_block, a_record, is_block_id, BadRecord, UnknownRecord}
use Rattle.record_table.specs.Bodies.{Begun, BodyDue, Parameters, FirstBlock, Line, NextBlock, after_all, at_first, body, body_from, closed_at, is_block, is_line, is_parameters, labels, labels_by, parameters, results, with_end, with_instruction, with_label, with_names, with_opcode, with_parameters, with_record}
use Rattle.record_table.specs.Records.{parameters_of, types_of, with_body}
use Rattle.record_law.specs.Labels.Laws.{HasSoundLabels, opened, results_in, results_of}
use Rattle.record_law.proofs.OnLabels.Ahead.{all_read, first_ahead}
use Rattle.record_law.proofs.OnLabels.Kept.{declared, due_line, due_parameters, names_many}
use Rattle.record_law.proofs.OnLabels.Sound.{inline_sound, table_sound}
use Rattle.record_law.proofs.OnFormed.Good.{AreTexts}
use Rattle.record_law.proofs.OnFormed.Tests.{all_pass, both_of, each_too}
use Rattle.record_law.proofs.OnFormed.Texts.{HoldsTexts, IsCalled, label_read, texts_hold}
use Rattle.record_law.proofs.OnFormed.Unbroken.{IsFine, IsRead, IsSound, OfSome, judged_read}
use Rattle.record_law.proofs.OnFormed.Good.{IsGoodBody, IsOf}
use Rattle.record_law.proofs.OnFormed.Blocks.{IsBlock, IsInstruction, all_flat, block_good, block_known, block_local, block_there}
use Rattle.record_law.proofs.OnFormed.Lines.{IsEnd, IsLine, end_read, instruction_read}
use Rattle.record_law.proofs.OnFormed.LocalNames.{AreCalled, AreNames, more_names, names_tested, names_zipped, no_names}

-- texts of either version have sound labels
pub texts_sound : (t : Texts) → AreTexts t → HasSoundLabels t
texts_sound t (inl inline) = subst HasSoundLabels (sym inline) inline_sound
texts_sound t (inr (table, bytes, is)) = subst HasSoundLabels (sym is) (table_sound table)

-- the names of a block: its own, and then those of its results
abbrev pub block_names : Block → List LocalName
block_names b = b.name ∷ block_results b

-- the names that are read so far, in the order of local names
abbrev names_so_far : Begun → List LocalName
names_so_far s = s.parameters ++ (flat_map block_names s.blocks ++ opened s.due (s.name ∷ flat_map result_name s.instructions))

-- ---- names of parameters

module _ (texts : Texts) (holds : HoldsTexts texts) where
  labels_back : (n own : ℕ) (w : Walk) → IsFine (labels_by texts own n w).1 → IsFine w × AreCalled own (labels_by texts own n w).0
  unfolding labels_by
  labels_back zero own w h = (h, tt)
  labels_back (suc n) own (stopped broken) h = absurd h
  labels_back (suc n) own (going rest broken) h =
      let x = (label texts own).read (going rest broken) in
      let later = labels_back n (after own x.0) x.1 h in
      let here = (label_read texts holds own).back (going rest broken) later.0 in
      (here.0, (here.1, later.1))

  labels_sound : (n own : ℕ) (w : Walk) → IsSound w → IsSound (labels_by texts own n w).1
  unfolding labels_by
  labels_sound zero own w s = s
  labels_sound (suc n) own (stopped broken) s = s
  labels_sound (suc n) own (going rest broken) s =
      let x = (label texts own).read (going rest broken) in labels_sound n (after own x.0) x.1 ((label_read texts holds own).sound (going rest broken) s)

  parameters_read : (count : ℕ) → IsRead (AreCalled 0) (parameters texts count).read
  parameters_read count = record { back = λ w h. labels_back count 0 w h; sound = λ w s. labels_sound count 0 w s }

results_same : (r : Option LocalName) → results r ≡ option_to_list r
results_same None = refl
results_same (Some name) = refl

results_called : (own : ℕ) (r : Option LocalName) → OfSome (IsCalled own) r → AreCalled own (results r)
results_called own None h = tt
results_called own (Some name) h = (h, tt)

instructions_same : (is : List Instruction) → results_in is ≡ flat_map result_name is
instructions_same [] = refl
instructions_same (i ∷ is) = ap (λ (xs : List LocalName). xs ++ results_in is) (results_same i.result) ∙ ap (λ (xs : List LocalName). option_to_list i.result ++ xs) (instructions_same is)

blocks_same : (bs : List Block) → results_of bs ≡ flat_map block_results bs
blocks_same [] = refl
blocks_same (b ∷ bs) = ap (λ (xs : List LocalName). xs ++ results_of bs) (instructions_same b.instructions) ∙ ap (λ (xs : List LocalName). block_results b ++ xs) (blocks_same bs)

block_closed : {A : Type 0} (due : BodyDue) (xs : List A) → is_block due ≡ true → opened due xs ≡ []
block_closed Parameters xs e = refl
block_closed FirstBlock xs e = refl
block_closed Line xs e = absurd (cc)
block_closed NextBlock xs e = refl

block_not : (due : BodyDue) → is_block due ≡ true → due ≡ Parameters → ⊥
block_not Parameters e p = cc
block_not FirstBlock e p = cc
block_not Line e p = cc
block_not NextBlock e p = cc

some_last : (bs : List Block) (b : Block) → is_not_empty (bs ++ b ∷ []) ≡ true
some_last [] b = refl
some_last (c ∷ bs) b = refl

-- ---- the names behind one more line

name_more : (P B ys : List LocalName) (x : LocalName) → ys ≡ [] → (P ++ (B ++ ys)) ++ x ∷ [] ≡ P ++ (B ++ x ∷ [])
name_more P B ys x none =
    ap (λ (zs : List LocalName). (P ++ (B ++ zs)) ++ x ∷ []) none ∙ (append_assoc P (B ++ []) (x ∷ []) ∙ ap (λ (zs : List LocalName). P ++ zs) (append_assoc B [] (x ∷ [])))

results_more : (is : List Instruction) (i : Instruction) → flat_map result_name is ++ results i.result ≡ flat_map result_name (is ++ i ∷ [])
results_more is i =
    ap (λ (xs : List LocalName). flat_map result_name is ++ xs) (results_same i.result ∙ sym (append-nil (option_to_list i.result))) ∙ sym (flat_map-append result_name is (i ∷ []))

line_more : (P B : List LocalName) (name : LocalName) (is : List Instruction) (i : Instruction) (due : BodyDue) → due ≡ Line
    → (P ++ (B ++ opened due (name ∷ flat_map result_name is))) ++ results i.result ≡ P ++ (B ++ opened due (name ∷ flat_map result_name (is ++ i ∷ [])))
line_more P B name is i due line =
    ap (λ d. (P ++ (B ++ opened d (name ∷ flat_map result_name is))) ++ results i.result) line
    ∙ (append_assoc P (B ++ (name ∷ flat_map result_name is)) (results i.result)
    ∙ (ap (λ (xs : List LocalName). P ++ xs) (append_assoc B (name ∷ flat_map result_name is) (results i.result) ∙ ap (λ (xs : List LocalName). B ++ (name ∷ xs)) (results_more is i))
    ∙ ap (λ d. P ++ (B ++ opened d (name ∷ flat_map result_name (is ++ i ∷ [])))) (sym line)))

end_more : (P : List LocalName) (bs : List Block) (b : Block) (due : BodyDue) → due ≡ Line
    → P ++ (flat_map block_names bs ++ opened due (block_names b)) ≡ P ++ (flat_map block_names (bs ++ b ∷ []) ++ [])
end_more P bs b due line =
    ap (λ d. P ++ (flat_map block_names bs ++ opened d (block_names b))) line
    ∙ ap (λ (xs : List LocalName). P ++ xs)
    (ap (λ (xs : List LocalName). flat_map block_names bs ++ xs) (sym (append-nil (block_names b))) ∙ (sym (flat_map-append block_names bs (b ∷ [])) ∙ sym (append-nil (flat_map block_names (bs ++ b ∷ [])))))

module _ (texts : Texts) (are : AreTexts texts) (m : Module) (k : Numbering) (of : IsOf m k) (count : ℕ) where
  -- what was read so far
  record IsSoFar (s : Begun) : Type 0 where
    pub names : AreNames s.own s.taken (names_so_far s)
    pub blocks_are : AllByRecursion (IsBlock m k of) s.blocks
    pub lines_are : AllByRecursion (IsInstruction m k of) s.instructions
    pub first : s.due ≡ Parameters → (s.own ≡ 0) × ((names_so_far s ≡ []) × (s.blocks ≡ []))
    pub many : (s.due ≡ Parameters → ⊥) → length s.parameters ≡ count
    pub some : s.due ≡ NextBlock → is_not_empty s.blocks ≡ true

  parameters_step : (s t : Begun) (operands : List ℕ) → IsSoFar s → with_parameters s (judged (parameters texts count) operands) ≡ Ok t → IsSoFar t
  parameters_step s t operands h e =
      let x = judged (parameters texts count) operands in
      let made : Begun = record s { at = suc s.at; due = FirstBlock; own = after_all s.own x.0; taken = with_names s.taken x.0; parameters = x.0 } in
      let d = declared s x.0 (is_parameters s.due) x.1 made t e in
      let first = h.first (due_parameters s.due d.may) in
      let called = judged_read (AreCalled 0) (parameters texts count) (parameters_read texts (texts_hold texts are) count) operands d.unbroken in
      let before : AreNames s.own s.taken [] = subst (AreNames s.own s.taken) first.1.0 h.names in
      let names = more_names s.own s.taken [] x.0 before (subst (λ n. AreCalled n x.0) (sym first.0) called) d.new in
      subst IsSoFar d.same (record {
        names = subst (AreNames (after_all s.own x.0) (with_names s.taken x.0)) (sym (ap (λ (bs : List Block). x.0 ++ (flat_map block_names bs ++ [])) first.1.1 ∙ append-nil x.0)) names;
        blocks_are = h.blocks_are;
        lines_are = h.lines_are;
        first = λ p. absurd (cc);
        many = λ not. names_many texts (texts_sound texts are) count operands d.unbroken;
        some = λ p. absurd (cc);
      })

  label_step : (s t : Begun) (operands : List ℕ) → IsSoFar s → with_label s (judged (label texts s.own) operands) ≡ Ok t → IsSoFar t
  label_step s t operands h e =
      let x = judged (label texts s.own) operands in
      let made : Begun = record s { at = suc s.at; due = Line; own = after s.own x.0; taken = with_names s.taken (x.0 ∷ []); name = x.0; instructions = [] } in
      let d = declared s (x.0 ∷ []) (is_block s.due) x.1 made t e in
      let called = judged_read (IsCalled s.own) (label texts s.own) (label_read texts (texts_hold texts are) s.own) operands d.unbroken in
      let names = more_names s.own s.taken (names_so_far s) (x.0 ∷ []) h.names (called, tt) d.new in
      let closed = block_closed s.due (s.name ∷ flat_map result_name s.instructions) d.may in
      subst IsSoFar d.same (record {
        names = subst (AreNames (after s.own x.0) (with_names s.taken (x.0 ∷ []))) (name_more s.parameters (flat_map block_names s.blocks) (opened s.due (s.name ∷ flat_map result_name s.instructions)) x.0 closed) names;
        blocks_are = h.blocks_are;
        lines_are = tt;
        first = λ p. absurd (cc);
        many = λ not. h.many (block_not s.due d.may);
        some = λ p. absurd (cc);
      })

  line_not : (due : BodyDue) → due ≡ Line → due ≡ Parameters → ⊥
  line_not due is p = cc

  end_step : (s t : Begun) (operands : List ℕ) (o : Opcode) → is_end o ≡ true → IsSoFar s → with_end s (judged (ending k o) operands) ≡ Ok t → IsSoFar t
  end_step s t operands o end h e =
      let x = judged (ending k o) operands in
      let b : Block = record { name = s.name; instructions = s.instructions; ending = x.0 } in
      let made : Begun = record s { at = suc s.at; due = NextBlock; blocks = s.blocks ++ b ∷ [] } in
      let d = declared s [] (is_line s.due) x.1 made t e in
      let line = due_line s.due d.may in
      let good = judged_read (IsEnd m k of) (ending k o) (end_read m k of o end) operands d.unbroken in
      subst IsSoFar d.same (record {
        names = subst (AreNames s.own s.taken) (end_more s.parameters s.blocks b s.due line) h.names;
        blocks_are = both_of (IsBlock m k of) s.blocks (b ∷ []) h.blocks_are (record { lines = h.lines_are; end = good }, tt);
        lines_are = h.lines_are;
        first = λ p. absurd (cc);
        many = λ not. h.many (line_not s.due line);
        some = λ p. some_last s.blocks b;
      })

  instruction_step : (s t : Begun) (operands : List ℕ) (o : Opcode) → is_end o ≡ false → IsSoFar s → with_instruction s (judged (instruction texts k s.own o) operands) ≡ Ok t → IsSoFar t
  instruction_step s t operands o end h e =
      let x = judged (instruction texts k s.own o) operands in
      let names = results x.0.result in
      let made : Begun = record s { at = suc s.at; own = after_all s.own names; taken = with_names s.taken names; instructions = s.instructions ++ x.0 ∷ [] } in
      let d = declared s names (is_line s.due) x.1 made t e in
      let line = due_line s.due d.may in
      let good = judged_read (IsLine m k of s.own) (instruction texts k s.own o) (instruction_read m k of texts (texts_hold texts are) s.own o end) operands d.unbroken in
      let more = more_names s.own s.taken (names_so_far s) names h.names (results_called s.own x.0.result good.result_called) d.new in
      subst IsSoFar d.same (record {
        names = subst (AreNames (after_all s.own names) (with_names s.taken names)) (line_more s.parameters (flat_map block_names s.blocks) s.name s.instructions x.0 s.due line) more;
        blocks_are = h.blocks_are;
        lines_are = both_of (IsInstruction m k of) s.instructions (x.0 ∷ []) h.lines_are ((good.operation_good, good.phrase), tt);
        first = λ p. absurd (line_not s.due line p);
        many = h.many;
        some = λ p. absurd (next_not s.due line p);
      })
    where
      next_not : (due : BodyDue) → due ≡ Line → due ≡ NextBlock → ⊥
      next_not due is p = cc

  line_step : (s t : Begun) (operands : List ℕ) (o : Opcode) (b : Bool) → is_end o ≡ b → IsSoFar s
      → cond b (with_end s (judged (ending k o) operands)) (with_instruction s (judged (instruction texts k s.own o) operands)) ≡ Ok t → IsSoFar t
  line_step s t operands o true end h e = end_step s t operands o end h e
  line_step s t operands o false end h e = instruction_step s t operands o end h e

  opcode_step : (s t : Begun) (code : ℕ) (operands : List ℕ) (o : Option Opcode) → IsSoFar s → with_opcode texts k count s code operands o ≡ Ok t → IsSoFar t
  opcode_step s t code operands None h e = absurd (cc)
  opcode_step s t code operands (Some o) h e = line_step s t operands o (is_end o) refl h e

  record_step : (s t : Begun) (code : ℕ) (operands : List ℕ) → IsSoFar s → with_record texts k count s code operands ≡ Ok t → IsSoFar t
  record_step s t code operands h e = by (nat_eq code 1) (nat_eq code 2) e
    where
      by : (b c : Bool) → cond b (with_parameters s (judged (parameters texts count) operands)) (cond c (with_label s (judged (label texts s.own) operands)) (with_opcode texts k count s code operands (opcode_of_code (code - 10)))) ≡ Ok t → IsSoFar t
      by true c e = parameters_step s t operands h e
      by false true e = label_step s t operands h e
      by false false e = opcode_step s t code operands (opcode_of_code (code - 10)) h e

  -- a body that is over
  record IsOver (s : Begun) : Type 0 where
    pub so_far : IsSoFar s
    pub over : s.due ≡ NextBlock

  closed : (s t : Begun) → IsSoFar s → closed_at s s.due ≡ Ok t → IsOver t
  closed s t h e = by s.due refl e
    where
      by : (due : BodyDue) → s.due ≡ due → closed_at s due ≡ Ok t → IsOver t
      by Parameters is e = absurd (cc)
      by FirstBlock is e = absurd (cc)
      by Line is e = absurd (cc)
      by NextBlock is e = let same : s ≡ t = cc in subst IsOver same (record { so_far = h; over = is })

  from_over : (s t : Begun) (rest : Records) → IsSoFar s → body_from texts k count s rest ≡ Ok t → IsOver t
  from_over s t no_more h e = closed s t h e
  from_over s t (a_block id inside behind) h e = absurd (by (is_block_id id) e)
    where
      by : (b : Bool) → cond {A = Answer Begun} b (Err (BadRecord id s.at 5)) (Err (UnknownRecord id 0)) ≡ Ok t → ⊥
      by true e = cc
      by false e = cc
  from_over s t (a_record code operands behind) h e = by (with_record texts k count s code operands) refl e (λ u h e. from_over u t behind h e)
    where
      by : (answer : Answer Begun) → with_record texts k count s code operands ≡ answer → (answer >>= λ u. body_from texts k count u behind) ≡ Ok t
          → ((u : Begun) → IsSoFar u → body_from texts k count u behind ≡ Ok t → IsOver t) → IsOver t
      by (Ok u) is e others = others u (record_step s u code operands h is) e
      by (Err fault) is e others = absurd (cc)

  first_so_far : (at : ℕ) → IsSoFar (at_first at)
  first_so_far at = record {
    names = no_names 0 refl;
    blocks_are = tt;
    lines_are = tt;
    first = λ p. (refl, (refl, refl));
    many = λ not. absurd (not refl);
    some = λ p. absurd (cc);
  }

-- ---- the function that has the body

module _ (texts : Texts) (are : AreTexts texts) (m : Module) (k : Numbering) (of : IsOf m k) (count : ℕ) (s : Begun) (over : IsOver texts are m k of count s) where
  so_far : IsSoFar texts are m k of count s
  so_far = over.so_far

  over_not : (due : BodyDue) → due ≡ NextBlock → due ≡ Parameters → ⊥
  over_not due is p = cc

  all_names : AreNames s.own s.taken (s.parameters ++ flat_map block_names s.blocks)
  all_names =
      subst (AreNames s.own s.taken)
      (ap (λ d. s.parameters ++ (flat_map block_names s.blocks ++ opened d (s.name ∷ flat_map result_name s.instructions))) over.over
      ∙ ap (λ (xs : List LocalName). s.parameters ++ xs) (append-nil (flat_map block_names s.blocks))) so_far.names

  many_parameters : length s.parameters ≡ count
  many_parameters = so_far.many (over_not s.due over.over)

  -- with what indices stand for in the body, its names are known
  function_names : k.values ≡ s.parameters ++ results_of s.blocks → k.blocks ≡ map (λ b. b.name) s.blocks → (f : Function) → length f.parameters ≡ count → has_good_names (with_body s f) ≡ true
  function_names values blocks f many =
      let g = with_body s f in
      let own : map (λ p. p.name) (parameters_of (zip (types_of f) s.parameters)) ≡ s.parameters = names_zipped (types_of f) s.parameters (length-map f.parameters (λ p. p.ty) ∙ (many ∙ sym many_parameters)) in
      let locals : s.parameters ++ flat_map block_names s.blocks ≡ local_names g = ap (λ (ns : List LocalName). ns ++ flat_map block_names s.blocks) (sym own) in
      let tested = names_tested s.own s.taken (local_names g) (subst (AreNames s.own s.taken) locals all_names) in
      let known : k.values ≡ value_names g =
      values ∙ (ap (λ (ns : List LocalName). s.parameters ++ ns) (blocks_same s.blocks) ∙ ap (λ (ns : List LocalName). ns ++ flat_map block_results s.blocks) (sym own)) in
      let refers = all_flat (has_local k.values) locals_of_block s.blocks (each_too (IsBlock m k of) (λ b. list_all (has_local k.values) (locals_of_block b) ≡ true) s.blocks (block_local m k of) so_far.blocks_are) in
      let goes = all_flat (has_local k.blocks) blocks_of_block s.blocks (each_too (IsBlock m k of) (λ b. list_all (has_local k.blocks) (blocks_of_block b) ≡ true) s.blocks (block_there m k of) so_far.blocks_are) in
      and_from (list_all is_local_name (local_names g)) _ tested.0
      (and_from (is_distinct same_local (local_names g)) _ tested.1.0
      (and_from (is_numbered_from 0 (local_names g)) _ tested.1.1
      (and_from true (knows_its_names g) refl
      (and_from (list_all (has_local (value_names g)) (flat_map locals_of_block s.blocks)) _
      (subst (λ (ns : List LocalName). list_all (has_local ns) (flat_map locals_of_block s.blocks) ≡ true) known refers)
      (subst (λ (ns : List LocalName). list_all (has_local ns) (flat_map blocks_of_block s.blocks) ≡ true) blocks goes)))))

  over_good : k.values ≡ s.parameters ++ results_of s.blocks → k.blocks ≡ map (λ b. b.name) s.blocks → IsGoodBody m count s
  over_good values blocks = record {
    parameters = many_parameters;
    some = so_far.some over.over;
    names = function_names values blocks;
    blocks_good = all_pass (is_good_block m) s.blocks (each_too (IsBlock m k of) (λ b. is_good_block m b ≡ true) s.blocks (block_good m k of) so_far.blocks_are);
    constants_good = all_flat (is_good_constant m) known_of_block s.blocks (each_too (IsBlock m k of) (λ b. list_all (is_good_constant m) (known_of_block b) ≡ true) s.blocks (block_known m k of) so_far.blocks_are);
  }

-- a body that is read
pub body_good : (m : Module) (t : Texts) (k : Numbering) (count at : ℕ) (inside : Records) (b : Begun) → AreTexts t → IsOf m k → body t k count at inside ≡ Ok b → IsGoodBody m count b
body_good m t k count at inside b are of e =
    let all = labels t k count inside in
    let inner : Numbering = record k { values = all.values; blocks = all.blocks } in
    let same : IsOf m inner = record { structs_are = of.structs_are; structs_good = of.structs_good; types_good = of.types_good; entries = of.entries } in
    let names = all_read t k count (texts_sound t are) all all.values all.blocks (at_first at) b inside (first_ahead t k count at inside) e in
    over_good t are m inner same count b (from_over t are m inner same count (at_first at) b inside (first_so_far t are m inner same count at) e) names.0 names.1
