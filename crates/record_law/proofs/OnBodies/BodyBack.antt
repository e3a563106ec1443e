-- The blocks of a body are read back, one behind the other.
use Rattle.std.proofs.Common.{◌≡◌, ℕ, suc, ◌+◌, true, List, [], ◌∷◌, ◌++◌, Ok, refl, sym, ap, ◌∙◌, append-nil, append_assoc, inl, inr}
use Rattle.std.proofs.lemmas.Bool.{cases_Bool}
use Rattle.std.specs.Prelude.{map, flat_map}
use Rattle.module_arena.specs.Module.{Bytes, LocalName, Instruction, Block}
use Rattle.bit_tree.specs.Written.{Written, no_more, a_record}
use Rattle.record_table.specs.Fields.{Texts, Numbering, label, after}
use Rattle.record_table.specs.Lines.{instruction, operation_opcode, call_parts}
use Rattle.module_arena.specs.TypeTests.{is_void}
use Rattle.record_table.specs.Faults.{Answer, ◌>>=◌}
use Rattle.record_table.specs.Bodies.{BodyDue, Line, NextBlock, is_block, after_all, with_names, Begun, with_record, with_label, body_from, results, are_new}
use Rattle.record_table.specs.Spelling.{Line as OneLine, put, records_put, instruction_line, ending_line, block_lines}
use Rattle.record_table.specs.Listed.{IsLabel}
use Rattle.record_law.specs.Bodies.FittingBodies.{own_behind, taken_behind, own_behind_block, taken_behind_block, InstructionsFit, BlockFits, BlocksFit}
use Rattle.record_table.specs.Lays.{Lays}
use Rattle.record_law.proofs.OnBodies.BodiesBack.{instruction_step, end_step, judged_from}
use Rattle.ir_tables.specs.Opcode.{opcode_code}
use Rattle.ir_tables.specs.declared.opcode.Opcode.{Opcode}
use Rattle.ir_tables.specs.declared.opcode.Opcode.TheVariants as op

-- how many records stand behind these
abbrev pub at_behind : ℕ → List Instruction → ℕ
at_behind at [] = at
at_behind at (i ∷ is) = at_behind (suc at) is

abbrev pub at_behind_block : ℕ → Block → ℕ
at_behind_block at b = suc (at_behind (suc at) b.instructions)

abbrev pub at_behind_blocks : ℕ → List Block → ℕ
at_behind_blocks at [] = at
at_behind_blocks at (b ∷ bs) = at_behind_blocks (at_behind_block at b) bs

pub put_append : (xs ys : List OneLine) (behind : Written) → put (xs ++ ys) behind ≡ put xs (put ys behind)
put_append [] ys behind = refl
put_append (x ∷ xs) ys behind = ap (a_record x.0 x.1) (put_append xs ys behind)

module _ (texts : Texts) (k : Numbering) (lays_label : (own : ℕ) → Lays (IsLabel texts own) (label texts own)) (count : ℕ) where
  -- an instruction is spelled so whatever number its result would have
  spelled_as : (own : ℕ) (o : Opcode) (i : Instruction) → (instruction texts k 0 o).spell i ≡ (instruction texts k own o).spell i
  spelled_as own op.Call i = elim (cases_Bool (is_void (call_parts i).0)) [
    | inl is ↦ rw is refl
    | inr is ↦ rw is refl
  ]
  spelled_as own op.Store i = refl
  spelled_as own op.ICmp i = refl
  spelled_as own _ i = refl

  -- what is read so far in a block
  abbrev pub in_block : ℕ → BodyDue → ℕ → List Bytes → List LocalName → List Block → LocalName → List Instruction → Begun
  in_block at due own taken parameters blocks name instructions =
      record { at = at; due = due; own = own; taken = taken; parameters = parameters; blocks = blocks; name = name; instructions = instructions }

  instructions_back : (is : List Instruction) (at own : ℕ) (taken : List Bytes) (parameters : List LocalName) (blocks : List Block) (name : LocalName) (done : List Instruction) (behind : Written)
      → InstructionsFit texts k own taken is
      → body_from texts k count (in_block at Line own taken parameters blocks name done) (records_put (put (map (instruction_line texts k) is) behind))
      ≡ body_from texts k count (in_block (at_behind at is) Line (own_behind own is) (taken_behind taken is) parameters blocks name (done ++ is)) (records_put behind)
  instructions_back [] at own taken parameters blocks name done behind fit =
      ap (λ all. body_from texts k count (in_block at Line own taken parameters blocks name all) (records_put behind)) (sym (append-nil done))
  instructions_back (i ∷ is) at own taken parameters blocks name done behind fit =
      let s = in_block at Line own taken parameters blocks name done in
      let rest = records_put (put (map (instruction_line texts k) is) behind) in
      ap (λ operands. with_record texts k count s (10 + opcode_code (operation_opcode i.operation)) operands >>= λ t. body_from texts k count t rest) (spelled_as own (operation_opcode i.operation) i)
      ∙ ap (λ (answer : Answer Begun). answer >>= λ t. body_from texts k count t rest) (instruction_step texts k lays_label count s i fit.0 refl fit.1)
      ∙ instructions_back is (suc at) (after_all own (results i.result)) (with_names taken (results i.result)) parameters blocks name (done ++ i ∷ []) behind fit.2
      ∙ ap (λ all. body_from texts k count (in_block (at_behind (suc at) is) Line (own_behind own (i ∷ is)) (taken_behind taken (i ∷ is)) parameters blocks name all) (records_put behind)) (append_assoc done (i ∷ []) is)

  -- the name of a block
  label_step : (at own : ℕ) (due : BodyDue) (taken : List Bytes) (parameters : List LocalName) (blocks : List Block) (before : LocalName) (done : List Instruction) (name : LocalName)
      → is_block due ≡ true → IsLabel texts own name → are_new taken (name ∷ []) ≡ true
      → with_record texts k count (in_block at due own taken parameters blocks before done) 2 ((label texts 0).spell name)
      ≡ Ok (in_block (suc at) Line (after own name) (with_names taken (name ∷ [])) parameters blocks name [])
  label_step at own due taken parameters blocks before done name may fit new =
      ap (with_label (in_block at due own taken parameters blocks before done)) (judged_from texts k lays_label count (label texts own) name ((label texts 0).spell name) ((lays_label own).back name [] fit))
      ∙ (rw (may, new) refl)

  block_back : (b : Block) (at own : ℕ) (due : BodyDue) (taken : List Bytes) (parameters : List LocalName) (blocks : List Block) (before : LocalName) (done : List Instruction) (behind : Written)
      → is_block due ≡ true → BlockFits texts k own taken b
      → body_from texts k count (in_block at due own taken parameters blocks before done) (records_put (put (block_lines texts k b) behind))
      ≡ body_from texts k count (in_block (at_behind_block at b) NextBlock (own_behind_block own b) (taken_behind_block taken b) parameters (blocks ++ b ∷ []) b.name b.instructions) (records_put behind)
  block_back b at own due taken parameters blocks before done behind may fit =
      let on = λ (rest : Written) (answer : Answer Begun). answer >>= λ t. body_from texts k count t (records_put rest) in
      let lines = map (instruction_line texts k) b.instructions in
      let last = in_block (at_behind (suc at) b.instructions) Line (own_behind_block own b) (taken_behind_block taken b) parameters blocks b.name b.instructions in
      ap (on (put (lines ++ ending_line k b.ending ∷ []) behind)) (label_step at own due taken parameters blocks before done b.name may fit.0 fit.1)
      ∙ ap (λ rest. body_from texts k count (in_block (suc at) Line (after own b.name) (with_names taken (b.name ∷ [])) parameters blocks b.name []) (records_put rest)) (put_append lines (ending_line k b.ending ∷ []) behind)
      ∙ instructions_back b.instructions (suc at) (after own b.name) (with_names taken (b.name ∷ [])) parameters blocks b.name [] (put (ending_line k b.ending ∷ []) behind) fit.2
      ∙ ap (on behind) (end_step texts k lays_label count last b.ending fit.3 refl)

  -- what is read behind a block and others
  abbrev pub behind_all : ℕ → ℕ → List Bytes → List LocalName → List Block → Block → List Block → Begun
  behind_all at own taken parameters blocks b [] = in_block (at_behind_block at b) NextBlock (own_behind_block own b) (taken_behind_block taken b) parameters (blocks ++ b ∷ []) b.name b.instructions
  behind_all at own taken parameters blocks b (c ∷ bs) = behind_all (at_behind_block at b) (own_behind_block own b) (taken_behind_block taken b) parameters (blocks ++ b ∷ []) c bs

  pub blocks_back : (b : Block) (bs : List Block) (at own : ℕ) (due : BodyDue) (taken : List Bytes) (parameters : List LocalName) (blocks : List Block) (before : LocalName) (done : List Instruction)
      → is_block due ≡ true → BlocksFit texts k own taken (b ∷ bs)
      → body_from texts k count (in_block at due own taken parameters blocks before done) (records_put (put (flat_map (block_lines texts k) (b ∷ bs)) no_more))
      ≡ Ok (behind_all at own taken parameters blocks b bs)
  blocks_back b [] at own due taken parameters blocks before done may fit =
      ap (λ rest. body_from texts k count (in_block at due own taken parameters blocks before done) (records_put rest)) (put_append (block_lines texts k b) [] no_more)
      ∙ block_back b at own due taken parameters blocks before done no_more may fit.0
  blocks_back b (c ∷ bs) at own due taken parameters blocks before done may fit =
      ap (λ rest. body_from texts k count (in_block at due own taken parameters blocks before done) (records_put rest)) (put_append (block_lines texts k b) (flat_map (block_lines texts k) (c ∷ bs)) no_more)
      ∙ block_back b at own due taken parameters blocks before done (put (flat_map (block_lines texts k) (c ∷ bs)) no_more) may fit.0
      ∙ blocks_back c bs (at_behind_block at b) (own_behind_block own b) NextBlock (taken_behind_block taken b) parameters (blocks ++ b ∷ []) b.name b.instructions refl fit.1

  pub blocks_behind : (b : Block) (bs : List Block) (at own : ℕ) (taken : List Bytes) (parameters : List LocalName) (blocks : List Block) → (behind_all at own taken parameters blocks b bs).blocks ≡ blocks ++ b ∷ bs
  blocks_behind b [] at own taken parameters blocks = refl
  blocks_behind b (c ∷ bs) at own taken parameters blocks =
      blocks_behind c bs (at_behind_block at b) (own_behind_block own b) (taken_behind_block taken b) parameters (blocks ++ b ∷ []) ∙ append_assoc blocks (b ∷ []) (c ∷ bs)

  pub parameters_behind : (b : Block) (bs : List Block) (at own : ℕ) (taken : List Bytes) (parameters : List LocalName) (blocks : List Block) → (behind_all at own taken parameters blocks b bs).parameters ≡ parameters
  parameters_behind b [] at own taken parameters blocks = refl
  parameters_behind b (c ∷ bs) at own taken parameters blocks = parameters_behind c bs (at_behind_block at b) (own_behind_block own b) (taken_behind_block taken b) parameters (blocks ++ b ∷ [])
