-- What is gathered ahead of a body, beside what is read of it so far.
use Rattle.std.proofs.Common.{◌≡◌, ◌<◌, ◌+◌, ◌-◌, ℕ, suc, Bool, true, false, cond, List, [], ◌∷◌, ◌++◌, Option, Some, None, length, get_or, map, refl, sym, ap, subst, ◌∙◌, arith, append_assoc, append-nil}
use Rattle.std.specs.Prelude.{Ok, Err, nat_eq}
use Rattle.std.proofs.lemmas.Bool.{eq-eqb, eqb-true}
use Rattle.std.proofs.lemmas.List.{get_or_at, map-append, length-append}
use Rattle.std.proofs.lemmas.List.Concat.{flat_map-append}
use Rattle.ir_tables.specs.declared.opcode.Opcode.{Opcode}
use Rattle.ir_tables.specs.declared.opcode.Opcode.TheVariants as op
use Rattle.ir_tables.specs.Opcode.{opcode_of_code}
use Rattle.type_table.specs.Tree.{void}
use Rattle.module_arena.specs.TypeTests.{is_void}
use Rattle.module_arena.specs.Module.{LocalName, Numbered, Instruction, Block}
use Rattle.record_table.specs.Layout.{judged}
use Rattle.record_table.specs.Fields.{Texts, Numbering, label, after}
use Rattle.record_table.specs.Lines.{ending, instruction, is_end}
use Rattle.record_table.specs.Faults.{Answer, ◌>>=◌, Records, no_more, a_block, a_record, is_block_id, BadRecord, UnknownRecord}
use Rattle.record_table.specs.Bodies.{Labels, Begun, BodyDue, Parameters, FirstBlock, Line, NextBlock, after_all, at_first, body_from, closed_at, is_block, is_line, is_parameters, known_or, label_in, labels, labels_from, numbers_from, parameters, results, with_block, with_end, with_instruction, with_label, with_line, with_names, with_opcode, with_parameters, with_record, with_value}
use Rattle.record_law.specs.Labels.Laws.{HasSoundLabels, opened, results_in, results_of}
use Rattle.record_law.proofs.OnLabels.Kept.{declared, due_line, due_parameters, names_many}
use Rattle.record_law.proofs.OnLabels.Named.{end_labels, line_labels, with_result}

-- the values that are defined so far, without the parameters
abbrev pub results_so_far : Begun → List LocalName
results_so_far s = results_of s.blocks ++ results_in (opened s.due s.instructions)

-- what is read so far declares these
pub record IsLabelled (s : Begun) (found : Labels) : Type 0 where
  pub own : found.own ≡ s.own
  pub values : found.values ≡ s.parameters ++ results_so_far s
  pub blocks : found.blocks ≡ map (λ b. b.name) s.blocks ++ opened s.due (s.name ∷ [])

module _ (texts : Texts) (k : Numbering) (count : ℕ) where
  -- before the parameters: nothing is read, and these are all that the records declare
  pub record IsFirst (all : Labels) (s : Begun) (rest : Records) : Type 0 where
    pub own : s.own ≡ 0
    pub blocks : s.blocks ≡ []
    pub same : labels texts k count rest ≡ all

  -- behind them: these are found so far, and with the records that are to come they are all
  pub record IsLater (all : Labels) (s : Begun) (rest : Records) : Type 0 where
    pub found : Labels
    pub labelled : IsLabelled s found
    pub same : labels_from texts k found rest ≡ all

  -- what was gathered ahead is what was read, and what is to come
  abbrev pub IsAhead : Labels → Begun → BodyDue → Records → Type 0
  IsAhead all s Parameters rest = IsFirst all s rest
  IsAhead all s FirstBlock rest = IsLater all s rest
  IsAhead all s Line rest = IsLater all s rest
  IsAhead all s NextBlock rest = IsLater all s rest

  pub first_ahead : (at : ℕ) (inside : Records) → IsAhead (labels texts k count inside) (at_first at) Parameters inside
  first_ahead at inside = record { own = refl; blocks = refl; same = refl }

  -- ---- values that are to come

  call_more : (s : Labels) (operands : List ℕ) → (more : List LocalName) × ((with_line texts k s operands (Some op.Call)).values ≡ s.values ++ more)
  call_more s [] = ([], sym (append-nil s.values))
  call_more s (t ∷ operands) = by (is_void (get_or k.types t void))
    where
      by : (v : Bool) → (more : List LocalName) × ((cond v s (with_value s (label_in texts k s.own operands))).values ≡ s.values ++ more)
      by true = ([], sym (append-nil s.values))
      by false = (label_in texts k s.own operands ∷ [], refl)

  line_more : (s : Labels) (operands : List ℕ) (o : Option Opcode) → (more : List LocalName) × ((with_line texts k s operands o).values ≡ s.values ++ more)
  line_more s operands None = ([], sym (append-nil s.values))
  line_more s operands (Some op.Store) = ([], sym (append-nil s.values))
  line_more s operands (Some op.Ret) = ([], sym (append-nil s.values))
  line_more s operands (Some op.Br) = ([], sym (append-nil s.values))
  line_more s operands (Some op.Switch) = ([], sym (append-nil s.values))
  line_more s operands (Some op.Unreachable) = ([], sym (append-nil s.values))
  line_more s operands (Some op.Call) = call_more s operands
  line_more s operands (Some _) = (label_in texts k s.own operands ∷ [], refl)

  one_more : (s : Labels) (operands : List ℕ) (b : Bool) (o : Option Opcode) → (more : List LocalName) × ((cond b (with_block s (label_in texts k s.own operands)) (with_line texts k s operands o)).values ≡ s.values ++ more)
  one_more s operands true o = ([], sym (append-nil s.values))
  one_more s operands false o = line_more s operands o

  pub more_values : (s : Labels) (rest : Records) → (more : List LocalName) × ((labels_from texts k s rest).values ≡ s.values ++ more)
  more_values s no_more = ([], sym (append-nil s.values))
  more_values s (a_block id inside behind) = more_values s behind
  more_values s (a_record code operands behind) =
      let one = one_more s operands (nat_eq code 2) (opcode_of_code (code - 10)) in
      let others = more_values (cond (nat_eq code 2) (with_block s (label_in texts k s.own operands)) (with_line texts k s operands (opcode_of_code (code - 10)))) behind in
      (one.0 ++ others.0, others.1 ∙ (ap (λ (xs : List LocalName). xs ++ others.0) one.1 ∙ append_assoc s.values one.0 others.0))

  -- ---- parameters

  known_is : (names : List LocalName) → length names ≡ count → known_or count names ≡ names
  known_is names e = ap (λ b. cond b names (numbers_from 0 count)) (eq-eqb (length names) count e)

  -- the labels behind the record of the parameters
  labels_behind : (code : ℕ) (operands : List ℕ) (behind : Records) → code ≡ 1 → let names = known_or count (judged (parameters texts count) operands).0 in
      labels texts k count (a_record code operands behind) ≡ labels_from texts k (record { own = after_all 0 names; values = names; blocks = [] }) behind
  unfolding opcode_of_code
  labels_behind code operands behind is = ap (λ c. labels texts k count (a_record c operands behind)) is

  module _ (sound : HasSoundLabels texts) (all : Labels) where
    parameters_step : (s t : Begun) (code : ℕ) (operands : List ℕ) (behind : Records) → code ≡ 1 → IsAhead all s s.due (a_record code operands behind)
        → with_parameters s (judged (parameters texts count) operands) ≡ Ok t → IsAhead all t t.due behind
    parameters_step s t code operands behind is h e =
        let x = judged (parameters texts count) operands in
        let made : Begun = record s { at = suc s.at; due = FirstBlock; own = after_all s.own x.0; taken = with_names s.taken x.0; parameters = x.0 } in
        let d = declared s x.0 (is_parameters s.due) x.1 made t e in
        let first : IsFirst all s (a_record code operands behind) = subst (λ due. IsAhead all s due (a_record code operands behind)) (due_parameters s.due d.may) h in
        let known = known_is x.0 (names_many texts sound count operands d.unbroken) in
        subst (λ (u : Begun). IsAhead all u u.due behind) d.same (record {
          found = record { own = after_all 0 x.0; values = x.0; blocks = [] };
          labelled = record {
            own = ap (λ n. after_all n x.0) (sym first.own);
            values = sym (ap (λ (bs : List Block). x.0 ++ (results_of bs ++ [])) first.blocks ∙ append-nil x.0);
            blocks = sym (ap (λ (bs : List Block). map (λ b. b.name) bs ++ []) first.blocks);
          };
          same = sym (ap (λ (names : List LocalName). labels_from texts k (record { own = after_all 0 names; values = names; blocks = [] }) behind) known) ∙ (sym (labels_behind code operands behind is) ∙ first.same);
        })

    -- behind the parameters
    later_of : (s : Begun) (due : BodyDue) (rest : Records) → (due ≡ Parameters → ⊥) → IsAhead all s due rest → IsLater all s rest
    later_of s Parameters rest not h = absurd (not refl)
    later_of s FirstBlock rest not h = h
    later_of s Line rest not h = h
    later_of s NextBlock rest not h = h

    ahead_of : (s : Begun) (due : BodyDue) (rest : Records) → (due ≡ Parameters → ⊥) → IsLater all s rest → IsAhead all s due rest
    ahead_of s Parameters rest not h = absurd (not refl)
    ahead_of s FirstBlock rest not h = h
    ahead_of s Line rest not h = h
    ahead_of s NextBlock rest not h = h

    block_not : (due : BodyDue) → is_block due ≡ true → due ≡ Parameters → ⊥
    block_not Parameters e p = cc
    block_not FirstBlock e p = cc
    block_not Line e p = cc
    block_not NextBlock e p = cc

    block_closed : {A : Type 0} (due : BodyDue) (xs : List A) → is_block due ≡ true → opened due xs ≡ []
    block_closed Parameters xs e = refl
    block_closed FirstBlock xs e = refl
    block_closed Line xs e = absurd (cc)
    block_closed NextBlock xs e = refl

    -- ---- blocks

    block_step : (s t : Begun) (code : ℕ) (operands : List ℕ) (behind : Records) → nat_eq code 2 ≡ true → IsAhead all s s.due (a_record code operands behind)
        → with_label s (judged (label texts s.own) operands) ≡ Ok t → IsAhead all t t.due behind
    block_step s t code operands behind is h e =
        let x = judged (label texts s.own) operands in
        let made : Begun = record s { at = suc s.at; due = Line; own = after s.own x.0; taken = with_names s.taken (x.0 ∷ []); name = x.0; instructions = [] } in
        let d = declared s (x.0 ∷ []) (is_block s.due) x.1 made t e in
        let l = later_of s s.due (a_record code operands behind) (block_not s.due d.may) h in
        let name : label_in texts k l.found.own operands ≡ x.0 = ap (λ own. (judged (label texts own) operands).0) l.labelled.own in
        subst (λ (u : Begun). IsAhead all u u.due behind) d.same (record {
          found = with_block l.found x.0;
          labelled = record {
            own = ap (λ own. after own x.0) l.labelled.own;
            values = l.labelled.values ∙ ap (λ (is : List Instruction). s.parameters ++ (results_of s.blocks ++ results_in is)) (block_closed s.due s.instructions d.may);
            blocks = ap (λ (bs : List LocalName). bs ++ x.0 ∷ []) (l.labelled.blocks ∙ (ap (λ (bs : List LocalName). map (λ b. b.name) s.blocks ++ bs) (block_closed s.due (s.name ∷ []) d.may) ∙ append-nil (map (λ b. b.name) s.blocks)));
          };
          same = sym (ap (λ n. labels_from texts k (with_block l.found n) behind) name)
              ∙ (sym (ap (λ b. labels_from texts k (cond b (with_block l.found (label_in texts k l.found.own operands)) (with_line texts k l.found operands (opcode_of_code (code - 10)))) behind) is) ∙ l.same);
        })

    -- ---- lines

    line_not : (due : BodyDue) → due ≡ Line → due ≡ Parameters → ⊥
    line_not due is p = cc

    -- what is found behind a line, by its opcode
    behind_line : (s : Begun) (l : Labels) (code : ℕ) (operands : List ℕ) (behind : Records) (o : Opcode) → nat_eq code 2 ≡ false → opcode_of_code (code - 10) ≡ Some o
        → labels_from texts k l (a_record code operands behind) ≡ labels_from texts k (with_line texts k l operands (Some o)) behind
    behind_line s l code operands behind o not is =
        ap (λ b. labels_from texts k (cond b (with_block l (label_in texts k l.own operands)) (with_line texts k l operands (opcode_of_code (code - 10)))) behind) not
        ∙ ap (λ x. labels_from texts k (with_line texts k l operands x) behind) is

    end_step : (q : Numbering) (s t : Begun) (code : ℕ) (operands : List ℕ) (behind : Records) (o : Opcode) → nat_eq code 2 ≡ false → opcode_of_code (code - 10) ≡ Some o → is_end o ≡ true
        → IsAhead all s s.due (a_record code operands behind) → with_end s (judged (ending q o) operands) ≡ Ok t → IsAhead all t t.due behind
    end_step q s t code operands behind o not is end h e =
        let x = judged (ending q o) operands in
        let b : Block = record { name = s.name; instructions = s.instructions; ending = x.0 } in
        let made : Begun = record s { at = suc s.at; due = NextBlock; blocks = s.blocks ++ b ∷ [] } in
        let d = declared s [] (is_line s.due) x.1 made t e in
        let line = due_line s.due d.may in
        let l = later_of s s.due (a_record code operands behind) (line_not s.due line) h in
        subst (λ (u : Begun). IsAhead all u u.due behind) d.same (record {
          found = l.found;
          labelled = record {
            own = l.labelled.own;
            values = l.labelled.values ∙ (ap (λ due. s.parameters ++ (results_of s.blocks ++ results_in (opened due s.instructions))) line ∙ ap (λ (xs : List LocalName). s.parameters ++ xs) (ended s b));
            blocks = l.labelled.blocks ∙ (ap (λ due. map (λ b. b.name) s.blocks ++ opened due (s.name ∷ [])) line ∙ (sym (map-append (λ (b : Block). b.name) s.blocks (b ∷ [])) ∙ sym (append-nil (map (λ b. b.name) (s.blocks ++ b ∷ [])))));
          };
          same = sym (behind_line s l.found code operands behind o not is ∙ ap (λ f. labels_from texts k f behind) (end_labels texts sound k [] [] l.found operands o end)) ∙ l.same;
        })
      where
        ended : (s : Begun) (b : Block) → results_of s.blocks ++ results_in b.instructions ≡ results_of (s.blocks ++ b ∷ []) ++ []
        ended s b =
            sym (append-nil (results_of (s.blocks ++ b ∷ []))
            ∙ (flat_map-append (λ (c : Block). results_in c.instructions) s.blocks (b ∷ []) ∙ ap (λ (xs : List LocalName). results_of s.blocks ++ xs) (append-nil (results_in b.instructions))))

    results_own : (l : Labels) (r : Option LocalName) → (with_result l r).own ≡ after_all l.own (results r)
    results_own l None = refl
    results_own l (Some name) = refl

    results_values : (l : Labels) (r : Option LocalName) → (with_result l r).values ≡ l.values ++ results r
    results_values l None = sym (append-nil l.values)
    results_values l (Some name) = refl

    results_blocks : (l : Labels) (r : Option LocalName) → (with_result l r).blocks ≡ l.blocks
    results_blocks l None = refl
    results_blocks l (Some name) = refl

    module _ (values blocks : List LocalName) where
      abbrev r : Numbering
      r = record k { values = values; blocks = blocks }

      -- what is found behind an instruction
      instruction_found : (s : Begun) (l : Labels) (code : ℕ) (operands : List ℕ) (behind : Records) (o : Opcode) → nat_eq code 2 ≡ false → opcode_of_code (code - 10) ≡ Some o → is_end o ≡ false → l.own ≡ s.own
          → (judged (instruction texts r s.own o) operands).1 ≡ None
          → labels_from texts k l (a_record code operands behind) ≡ labels_from texts k (with_result l (judged (instruction texts r s.own o) operands).0.result) behind
      instruction_found s l code operands behind o not is end own unbroken =
          behind_line s l code operands behind o not is
          ∙ (ap (λ f. labels_from texts k f behind) (line_labels texts sound k values blocks l operands o end (ap (λ n. (judged (instruction texts r n o) operands).1) own ∙ unbroken))
          ∙ ap (λ n. labels_from texts k (with_result l (judged (instruction texts r n o) operands).0.result) behind) own)

      instruction_step : (s t : Begun) (code : ℕ) (operands : List ℕ) (behind : Records) (o : Opcode) → nat_eq code 2 ≡ false → opcode_of_code (code - 10) ≡ Some o → is_end o ≡ false
          → IsAhead all s s.due (a_record code operands behind) → with_instruction s (judged (instruction texts r s.own o) operands) ≡ Ok t → IsAhead all t t.due behind
      instruction_step s t code operands behind o not is end h e =
          let x = judged (instruction texts r s.own o) operands in
          let names = results x.0.result in
          let made : Begun = record s { at = suc s.at; own = after_all s.own names; taken = with_names s.taken names; instructions = s.instructions ++ x.0 ∷ [] } in
          let d = declared s names (is_line s.due) x.1 made t e in
          let line = due_line s.due d.may in
          let l = later_of s s.due (a_record code operands behind) (line_not s.due line) h in
          subst (λ (u : Begun). IsAhead all u u.due behind) d.same (ahead_of made s.due behind (line_not s.due line) (record {
            found = with_result l.found x.0.result;
            labelled = record {
              own = results_own l.found x.0.result ∙ ap (λ n. after_all n names) l.labelled.own;
              values = results_values l.found x.0.result ∙ (ap (λ (xs : List LocalName). xs ++ names) l.labelled.values ∙ more s x.0 s.due line);
              blocks = results_blocks l.found x.0.result ∙ l.labelled.blocks;
            };
            same = sym (instruction_found s l.found code operands behind o not is end l.labelled.own d.unbroken) ∙ l.same;
          }))
        where
          more : (s : Begun) (i : Instruction) (due : BodyDue) → due ≡ Line
              → (s.parameters ++ (results_of s.blocks ++ results_in (opened due s.instructions))) ++ results i.result ≡ s.parameters ++ (results_of s.blocks ++ results_in (opened due (s.instructions ++ i ∷ [])))
          more s i due line =
              ap (λ d. (s.parameters ++ (results_of s.blocks ++ results_in (opened d s.instructions))) ++ results i.result) line
              ∙ (append_assoc s.parameters (results_of s.blocks ++ results_in s.instructions) (results i.result)
              ∙ (ap (λ (xs : List LocalName). s.parameters ++ xs) (append_assoc (results_of s.blocks) (results_in s.instructions) (results i.result)
              ∙ ap (λ (xs : List LocalName). results_of s.blocks ++ xs) (sym (flat_map-append (λ (j : Instruction). results j.result) s.instructions (i ∷ []) ∙ ap (λ (xs : List LocalName). results_in s.instructions ++ xs) (append-nil (results i.result)))))
              ∙ ap (λ d. s.parameters ++ (results_of s.blocks ++ results_in (opened d (s.instructions ++ i ∷ [])))) (sym line)))

      -- ---- any record

      opcode_step : (s t : Begun) (code : ℕ) (operands : List ℕ) (behind : Records) (found : Option Opcode) → nat_eq code 2 ≡ false → opcode_of_code (code - 10) ≡ found → IsAhead all s s.due (a_record code operands behind)
          → with_opcode texts r count s code operands found ≡ Ok t → IsAhead all t t.due behind
      opcode_step s t code operands behind None not is h e = absurd (cc)
      opcode_step s t code operands behind (Some o) not is h e = by (is_end o) refl e
        where
          by : (b : Bool) → is_end o ≡ b → cond b (with_end s (judged (ending r o) operands)) (with_instruction s (judged (instruction texts r s.own o) operands)) ≡ Ok t → IsAhead all t t.due behind
          by true end e = end_step r s t code operands behind o not is end h e
          by false end e = instruction_step s t code operands behind o not is end h e

      pub record_step : (s t : Begun) (code : ℕ) (operands : List ℕ) (behind : Records) → IsAhead all s s.due (a_record code operands behind) → with_record texts r count s code operands ≡ Ok t → IsAhead all t t.due behind
      record_step s t code operands behind h e = by (nat_eq code 1) (nat_eq code 2) refl refl e
        where
          by : (b c : Bool) → nat_eq code 1 ≡ b → nat_eq code 2 ≡ c
              → cond b (with_parameters s (judged (parameters texts count) operands)) (cond c (with_label s (judged (label texts s.own) operands)) (with_opcode texts r count s code operands (opcode_of_code (code - 10)))) ≡ Ok t
              → IsAhead all t t.due behind
          by true c first second e = parameters_step s t code operands behind (eqb-true code 1 first) h e
          by false true first second e = block_step s t code operands behind second h e
          by false false first second e = opcode_step s t code operands behind (opcode_of_code (code - 10)) second refl h e

      -- ---- the whole

      closed_all : (s t : Begun) → IsAhead all s s.due no_more → closed_at s s.due ≡ Ok t → (all.values ≡ t.parameters ++ results_of t.blocks) × (all.blocks ≡ map (λ b. b.name) t.blocks)
      closed_all s t h e = by s.due h refl e
        where
          by : (due : BodyDue) → IsAhead all s due no_more → s.due ≡ due → closed_at s due ≡ Ok t → (all.values ≡ t.parameters ++ results_of t.blocks) × (all.blocks ≡ map (λ b. b.name) t.blocks)
          by Parameters h is e = absurd (cc)
          by FirstBlock h is e = absurd (cc)
          by Line h is e = absurd (cc)
          by NextBlock h is e =
              let same : s ≡ t = cc in
              subst (λ (u : Begun). (all.values ≡ u.parameters ++ results_of u.blocks) × (all.blocks ≡ map (λ b. b.name) u.blocks)) same (
                ap (λ (f : Labels). f.values) (sym h.same) ∙ (h.labelled.values ∙ (ap (λ d. s.parameters ++ (results_of s.blocks ++ results_in (opened d s.instructions))) is ∙ ap (λ (xs : List LocalName). s.parameters ++ xs) (append-nil (results_of s.blocks)))),
                ap (λ (f : Labels). f.blocks) (sym h.same) ∙ (h.labelled.blocks ∙ (ap (λ d. map (λ b. b.name) s.blocks ++ opened d (s.name ∷ [])) is ∙ append-nil (map (λ b. b.name) s.blocks))),
              )

      pub all_read : (s t : Begun) (rest : Records) → IsAhead all s s.due rest → body_from texts r count s rest ≡ Ok t → (all.values ≡ t.parameters ++ results_of t.blocks) × (all.blocks ≡ map (λ b. b.name) t.blocks)
      all_read s t no_more h e = closed_all s t h e
      all_read s t (a_block id inside behind) h e = absurd (by (is_block_id id) e)
        where
          by : (b : Bool) → cond {A = Answer Begun} b (Err (BadRecord id s.at 5)) (Err (UnknownRecord id 0)) ≡ Ok t → ⊥
          by true e = cc
          by false e = cc
      all_read s t (a_record code operands behind) h e = by (with_record texts r count s code operands) refl e (λ u h e. all_read u t behind h e)
        where
          by : (answer : Answer Begun) → with_record texts r count s code operands ≡ answer → (answer >>= λ u. body_from texts r count u behind) ≡ Ok t
              → ((u : Begun) → IsAhead all u u.due behind → body_from texts r count u behind ≡ Ok t → (all.values ≡ t.parameters ++ results_of t.blocks) × (all.blocks ≡ map (λ b. b.name) t.blocks))
              → (all.values ≡ t.parameters ++ results_of t.blocks) × (all.blocks ≡ map (λ b. b.name) t.blocks)
          by (Ok u) is e others = others u (record_step s u code operands behind h is) e
          by (Err fault) is e others = absurd (cc)

      -- the value that an instruction defines is, at its index, the name that was gathered ahead
      pub value_ahead : (s : Begun) (code : ℕ) (operands : List ℕ) (behind : Records) (o : Opcode) (name : LocalName) → nat_eq code 2 ≡ false → opcode_of_code (code - 10) ≡ Some o → is_end o ≡ false → s.due ≡ Line
          → IsAhead all s s.due (a_record code operands behind) → (judged (instruction texts r s.own o) operands).1 ≡ None → (judged (instruction texts r s.own o) operands).0.result ≡ Some name
          → (length s.parameters + length (results_so_far s) < length all.values) × (get_or all.values (length s.parameters + length (results_so_far s)) (Numbered 0) ≡ name)
      value_ahead s code operands behind o name not is end line h unbroken named =
          let l = later_of s s.due (a_record code operands behind) (line_not s.due line) h in
          let found = with_value l.found name in
          let more = more_values found behind in
          let whole : all.values ≡ l.found.values ++ name ∷ more.0 =
          ap (λ (f : Labels). f.values) (sym l.same ∙ (instruction_found s l.found code operands behind o not is end l.labelled.own unbroken ∙ ap (λ x. labels_from texts k (with_result l.found x) behind) named))
          ∙ (more.1 ∙ append_assoc l.found.values (name ∷ []) more.0) in
          let many : length l.found.values ≡ length s.parameters + length (results_so_far s) = ap length l.labelled.values ∙ length-append s.parameters (results_so_far s) in
          let size = length-append l.found.values (name ∷ more.0) in
          let all_size = ap length whole in (
            omega (arith, many, size, all_size),
            ap (λ (vs : List LocalName). get_or vs (length s.parameters + length (results_so_far s)) (Numbered 0)) whole ∙ get_or_at l.found.values name more.0 (Numbered 0) (length s.parameters + length (results_so_far s)) (omega (arith, many)),
          )
