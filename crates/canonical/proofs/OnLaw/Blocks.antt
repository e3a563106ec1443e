-- Instructions, ends and blocks are printed.
use Rattle.std.proofs.Common.{◌≡◌, ℕ, ◌+◌, List, [], ◌∷◌, map, true, Option, Some, None, codes, refl, append_assoc}
use Rattle.ir_lexer.specs.Pieces.{Space, Line, Indented}
use Rattle.ir_tables.specs.Opcode.{opcode_code}
use Rattle.ir_tables.specs.declared.opcode.Opcode.{Opcode}
use Rattle.ir_tables.specs.declared.opcode.Opcode.TheVariants as op
use Rattle.ir_terminals.specs.PhraseRows.Row.{among, alt, mapped}
use Rattle.ir_terminals.specs.Role.{class}
use Rattle.ir_terminals.specs.Tokens.{word}
use Rattle.ir_terminals.specs.declared.terminal.Terminal.TheVariants as terminals
use Rattle.ir_terminals.specs.declared.limits.Limits.{Limits}
use Rattle.ir_phrases.specs.Constants.Types.{type_shape}
use Rattle.ir_phrases.specs.Instructions.Tree.{EndingTree}
use Rattle.ir_phrases.specs.Instructions.Tree as tree
use Rattle.ir_phrases.specs.Instructions.Dropped.{comma_shape}
use Rattle.ir_phrases.specs.Instructions.Instructions.{result_classes, operation_classes, assigned_row, bare_row, instruction_core, instruction_row, instruction_shape}
use Rattle.ir_phrases.specs.Instructions.Operations.{tail_shape}
use Rattle.ir_phrases.specs.Instructions.Endings.{target_core, target_row, target_shape, next_target_core, next_target_row, returned_row, return_value_core, return_value_row, return_core, return_row, return_shape, condition_row, branch_target_core, branch_target_row, branch_target_shape, branch_core, branch_row, branch_shape, case_core, case_row, cases_core, cases_row, cases_shape, switch_targets_core, switch_core, switch_row, switch_shape, unreachable_core, unreachable_row, unreachable_shape, ending_core, ending_row, ending_shape}
use Rattle.ir_phrases.specs.Instructions.Blocks.{block_core, block_row, block_shape, blocks_row}
use Rattle.module_arena.specs.Module.{LocalName, Operand, Operation, BinaryOperation, Compare, Convert, Select, Freeze, Phi, Load, Store, Alloca, GetElementPtr, Call, ExtractValue, InsertValue, Instruction, Case, Ending, ReturnVoid, Return, Jump, Branch, Switch, Unreachable, Block}
use Rattle.canonical.specs.Phrase as phrase
use Rattle.canonical.specs.Phrase.{Phrase, mark, comma, ◌␣◌, ◌⌢◌, each}
use Rattle.canonical.specs.Names as names
use Rattle.canonical.specs.Constants.{opcode, constant_phrase, operand}
use Rattle.canonical.specs.Operations.{operation_phrase}
use Rattle.canonical.specs.Instructions.{instruction_phrase, target, case_phrase, ending_phrase, block_phrase}
use Rattle.canonical.specs.Canonical.{body_of_blocks}
use Rattle.canonical.specs.Items.Unplaced.{unplaced_local, unplaced_instruction, unplaced_case, unplaced_ending, unplaced_block}
use Rattle.canonical.specs.Items.Parts.{local_tree, constant_tree, operand_tree, operation_tree, instruction_tree, case_tree, ending_tree, block_tree}
use Rattle.canonical.proofs.OnLaw.Printed.{IsPrinted}
use Rattle.module_arena.specs.Forms.{is_binary, is_cast, is_not_empty}
use Rattle.canonical.specs.Law.Written.{IsLocalText, IsOperandText, IsOperationText, operation_opcode}
use Rattle.canonical.specs.Law.Texts.{HasResult, IsInstructionText, AreInstructionTexts, AreCaseTexts, IsEndingText, IsBlockText, AreBlockTexts}
use Rattle.canonical.proofs.OnLaw.Joined.{spaced, tight, right_none}
use Rattle.canonical.proofs.OnLaw.Rows.{printed_like, printed_labelled, printed_mapped, printed_both, printed_pair, printed_second, printed_before, printed_left, printed_right, printed_some}
use Rattle.canonical.proofs.OnLaw.Lists.{EachPrinted, after, after_each, printed_each}
use Rattle.canonical.proofs.OnLaw.Loops.{no_attachments}
use Rattle.canonical.proofs.OnLaw.Words.{printed_comma, printed_equals, printed_void, printed_label, printed_open_bracket, printed_close_bracket, printed_open_brace, printed_close_brace}
use Rattle.canonical.proofs.OnLaw.Labels as labels
use Rattle.canonical.proofs.OnLaw.Tokens.{printed_local}
use Rattle.canonical.proofs.OnLaw.Types.{printed_value_type}
use Rattle.canonical.proofs.OnLaw.Opcodes.{printed_opcode_word}
use Rattle.canonical.proofs.OnLaw.Constants.{starts_comma, printed_constant, printed_typed_at}
use Rattle.canonical.proofs.OnLaw.Values.{printed_value, printed_operand}
use Rattle.canonical.proofs.OnLaw.Operations.{printed_operation}

abbrev Among : Opcode → List ℕ → Type 0
Among o classes = among (100 + opcode_code o) classes ≡ true

binary_among : (o : Opcode) → is_binary o ≡ true → Among o result_classes × Among o operation_classes
binary_among op.Add h = (refl, refl)
binary_among op.Sub h = (refl, refl)
binary_among op.Mul h = (refl, refl)
binary_among op.UDiv h = (refl, refl)
binary_among op.SDiv h = (refl, refl)
binary_among op.URem h = (refl, refl)
binary_among op.SRem h = (refl, refl)
binary_among op.Shl h = (refl, refl)
binary_among op.LShr h = (refl, refl)
binary_among op.AShr h = (refl, refl)
binary_among op.And h = (refl, refl)
binary_among op.Or h = (refl, refl)
binary_among op.Xor h = (refl, refl)
binary_among _ h = absurd cc

conversion_among : (o : Opcode) → is_cast o ≡ true → Among o result_classes × Among o operation_classes
conversion_among op.Trunc h = (refl, refl)
conversion_among op.ZExt h = (refl, refl)
conversion_among op.SExt h = (refl, refl)
conversion_among op.PtrToInt h = (refl, refl)
conversion_among op.IntToPtr h = (refl, refl)
conversion_among _ h = absurd cc

any_among : (nesting : ℕ) (o : Operation) → IsOperationText nesting o → Among (operation_opcode o) operation_classes
any_among nesting (BinaryOperation o set left right) h = (binary_among o h.0).1
any_among nesting (Convert o set value to) h = (conversion_among o h.0).1
any_among nesting _ h = refl

result_among : (nesting : ℕ) (name : LocalName) (o : Operation) → HasResult (Some name) o → IsOperationText nesting o → Among (operation_opcode o) result_classes × IsLocalText name
result_among nesting name (BinaryOperation o set left right) r h = ((binary_among o h.0).0, r)
result_among nesting name (Convert o set value to) r h = ((conversion_among o h.0).0, r)
result_among nesting name (Store set value address n) r h = absurd r
result_among nesting name (Compare set p left right) r h = (refl, r)
result_among nesting name (Select condition first second) r h = (refl, r)
result_among nesting name (Freeze value) r h = (refl, r)
result_among nesting name (Phi ty is) r h = (refl, r)
result_among nesting name (Load set ty address n) r h = (refl, r)
result_among nesting name (Alloca ty c n) r h = (refl, r)
result_among nesting name (GetElementPtr set source base os) r h = (refl, r)
result_among nesting name (Call s v os) r h = (refl, r)
result_among nesting name (ExtractValue a ns) r h = (refl, r)
result_among nesting name (InsertValue a p ns) r h = (refl, r)

module _ (limits : Limits) where
  assigned : (name : LocalName) (o : Operation) → HasResult (Some name) o → IsOperationText limits.nesting o → IsPrinted (assigned_row limits) unplaced_instruction (record { result = Some (local_tree name); operation = operation_tree o }) (names.local name ␣ mark (codes "=") ␣ operation_phrase o)
  assigned name o r h =
      let w = result_among limits.nesting name o r h in
      printed_mapped (λ v. record { result = Some v.0; operation = v.1 }) unplaced_instruction (λ v. record { result = Some v.0; operation = v.1 }) (λ v. refl)
      (printed_like (names.local name ␣ mark (codes "=") ␣ operation_phrase o) (λ b. simp append_assoc)
      (printed_pair spaced (printed_before spaced (printed_local name w.1) printed_equals) (printed_operation limits result_classes o w.0 h)))

  bare : (o : Operation) → IsOperationText limits.nesting o → IsPrinted (bare_row limits) unplaced_instruction (record { result = None; operation = operation_tree o }) (operation_phrase o)
  bare o h =
      printed_mapped (λ o. record { result = None; operation = o }) unplaced_instruction (λ o. record { result = None; operation = o }) (λ v. refl)
      (printed_operation limits operation_classes o (any_among limits.nesting o h) h)

  instruction_by : (result : Option LocalName) (o : Operation) → HasResult result o → IsOperationText limits.nesting o → IsPrinted (instruction_row limits) unplaced_instruction (instruction_tree (record { result = result; operation = o })) (instruction_phrase (record { result = result; operation = o }))
  unfolding instruction_core
  instruction_by None o r h = printed_labelled instruction_shape (printed_right (assigned_row limits) (bare o h))
  instruction_by (Some name) o r h = printed_labelled instruction_shape (printed_left (bare_row limits) (assigned name o r h))

  printed_instruction : (i : Instruction) → IsInstructionText limits.nesting i → IsPrinted (instruction_row limits) unplaced_instruction (instruction_tree i) (instruction_phrase i)
  printed_instruction i h = instruction_by i.result i.operation h.0 h.1

  each_instruction : (is : List Instruction) → AreInstructionTexts limits.nesting is → EachPrinted (instruction_row limits) unplaced_instruction (map instruction_tree is) (map instruction_phrase is)
  each_instruction [] h = tt
  each_instruction (i ∷ is) h = (printed_instruction i h.0, each_instruction is h.1)

  printed_target : (name : LocalName) → IsLocalText name → IsPrinted target_row unplaced_local (local_tree name) (target name)
  unfolding target_core
  printed_target name h = printed_labelled target_shape (printed_second spaced printed_label (printed_local name h))

  next_target : (name : LocalName) → IsLocalText name → IsPrinted next_target_row unplaced_local (local_tree name) (comma ␣ target name)
  unfolding next_target_core
  next_target name h = printed_labelled comma_shape (printed_second spaced printed_comma (printed_target name h))

  return_void : IsPrinted (return_value_row limits) unplaced_ending tree.ReturnVoid (phrase.word (codes "void"))
  unfolding return_value_core
  return_void = printed_labelled type_shape (printed_left (returned_row limits) (printed_mapped (λ p. tree.ReturnVoid) unplaced_ending (λ p. tree.ReturnVoid) (λ v. refl) printed_void))

  return_value : (o : Operand) → IsEndingText limits.nesting (Return o) → IsPrinted (return_value_row limits) unplaced_ending (tree.Return (operand_tree o)) (operand o)
  unfolding return_value_core
  return_value o h =
      printed_labelled type_shape (printed_right (mapped (λ p. tree.ReturnVoid) (word terminals.Void))
      (printed_mapped (λ v. tree.Return (v.0, v.1)) unplaced_ending (λ v. tree.Return (v.0, v.1)) (λ v. refl)
      (printed_pair spaced (printed_value_type limits o.ty limits.nesting h.0 h.1.0) (printed_value limits o.ty o.value h.1.1))))

  returns : {x : EndingTree} {p : Phrase} → IsPrinted (return_value_row limits) unplaced_ending x p → IsPrinted (ending_row limits) unplaced_ending x (opcode op.Ret ␣ p)
  unfolding return_core ending_core
  returns h =
      printed_labelled ending_shape (printed_left (alt class (branch_row limits) (alt class (switch_row limits) unreachable_row))
      (printed_labelled return_shape (printed_second spaced (printed_opcode_word op.Ret refl) (printed_before right_none h no_attachments))))

  branches : {x : EndingTree} {p : Phrase} → IsPrinted (branch_target_row limits) unplaced_ending x p → IsPrinted (ending_row limits) unplaced_ending x (opcode op.Br ␣ p)
  unfolding branch_core ending_core
  branches h =
      printed_labelled ending_shape (printed_right (return_row limits) (printed_left (alt class (switch_row limits) unreachable_row)
      (printed_labelled branch_shape (printed_second spaced (printed_opcode_word op.Br refl) (printed_before right_none h no_attachments)))))

  jump : (name : LocalName) → IsLocalText name → IsPrinted (branch_target_row limits) unplaced_ending (tree.Jump (local_tree name)) (target name)
  unfolding branch_target_core
  jump name h = printed_labelled branch_target_shape (printed_left (condition_row limits) (printed_mapped tree.Jump unplaced_ending tree.Jump (λ v. refl) (printed_target name h)))

  condition : (o : Operand) (first other : LocalName) → IsOperandText limits.nesting o → IsLocalText first → IsLocalText other → IsPrinted (branch_target_row limits) unplaced_ending (tree.Branch (operand_tree o) (local_tree first) (local_tree other)) (operand o ⌢ comma ␣ target first ⌢ comma ␣ target other)
  unfolding branch_target_core
  condition o first other h k l =
      printed_labelled branch_target_shape (printed_right (mapped tree.Jump target_row)
      (printed_mapped (λ v. tree.Branch v.0 v.1.0 v.1.1) unplaced_ending (λ v. tree.Branch v.0 v.1.0 v.1.1) (λ v. refl)
      (printed_pair (tight (starts_comma (target first ⌢ comma ␣ target other))) (printed_operand limits o h) (printed_pair (tight (starts_comma (target other))) (next_target first k) (next_target other l)))))

  case : (c : Case) → AreCaseTexts limits.nesting (c ∷ []) → IsPrinted (case_row limits) unplaced_case (case_tree c) (case_phrase c)
  unfolding case_core
  case c h =
      printed_labelled type_shape (printed_pair (tight (starts_comma (target c.target)))
      (printed_typed_at limits limits.nesting c.ty (constant_tree c.ty c.value) (constant_phrase c.ty c.value) h.0 (printed_constant limits c.ty c.value limits.nesting h.1)) (next_target c.target h.2))

  each_case : (cs : List Case) → AreCaseTexts limits.nesting cs → EachPrinted (case_row limits) unplaced_case (map case_tree cs) (map case_phrase cs)
  each_case [] h = tt
  each_case (c ∷ cs) h = (case c (h.0, h.1, h.2, tt), each_case cs h.3)

  cases : (cs : List Case) → AreCaseTexts limits.nesting cs → IsPrinted (cases_row limits) (map unplaced_case) (map case_tree cs) (mark (codes "[") ␣ each Space (map case_phrase cs) ␣ mark (codes "]"))
  unfolding cases_core
  cases cs h =
      printed_labelled cases_shape (printed_second spaced printed_open_bracket (printed_before spaced (printed_each (case_row limits) unplaced_case Space (map case_tree cs) (map case_phrase cs) tt (each_case cs h)) printed_close_bracket))

  switch : (o : Operand) (name : LocalName) (cs : List Case) → IsOperandText limits.nesting o → IsLocalText name → AreCaseTexts limits.nesting cs → IsPrinted (ending_row limits) unplaced_ending (tree.Switch (operand_tree o) (local_tree name) (map case_tree cs)) (opcode op.Switch ␣ operand o ⌢ comma ␣ target name ␣ mark (codes "[") ␣ each Space (map case_phrase cs) ␣ mark (codes "]"))
  unfolding switch_core switch_targets_core ending_core
  switch o name cs h k l =
      printed_labelled ending_shape (printed_right (return_row limits) (printed_right (branch_row limits) (printed_left unreachable_row
      (printed_labelled switch_shape (printed_second spaced (printed_opcode_word op.Switch refl)
      (printed_mapped (λ v. tree.Switch v.0 v.1.0 v.1.1) unplaced_ending (λ v. tree.Switch v.0 v.1.0 v.1.1) (λ v. refl)
      (printed_pair (tight (starts_comma (target name ␣ mark (codes "[") ␣ each Space (map case_phrase cs) ␣ mark (codes "]")))) (printed_operand limits o h)
      (printed_labelled tail_shape (printed_pair spaced (next_target name k) (printed_before right_none (cases cs l) no_attachments))))))))))

  no_end : IsPrinted (ending_row limits) unplaced_ending tree.Unreachable (opcode op.Unreachable)
  unfolding unreachable_core ending_core
  no_end =
      printed_labelled ending_shape (printed_right (return_row limits) (printed_right (branch_row limits) (printed_right (switch_row limits)
      (printed_labelled unreachable_shape (printed_mapped (λ p. tree.Unreachable) unplaced_ending (λ p. tree.Unreachable) (λ v. refl)
      (printed_before right_none (printed_opcode_word op.Unreachable refl) no_attachments))))))

  printed_ending : (e : Ending) → IsEndingText limits.nesting e → IsPrinted (ending_row limits) unplaced_ending (ending_tree e) (ending_phrase e)
  printed_ending ReturnVoid h = returns return_void
  printed_ending (Return o) h = returns (return_value o h)
  printed_ending (Jump to) h = branches (jump to h)
  printed_ending (Branch o first other) h = branches (condition o first other h.0 h.1 h.2)
  printed_ending (Switch o name cs) h = switch o name cs h.0 h.1 h.2
  printed_ending Unreachable h = no_end

  printed_block : (b : Block) → IsBlockText limits.nesting b → IsPrinted (block_row limits) unplaced_block (block_tree b) (block_phrase b)
  unfolding block_core
  printed_block b h =
      printed_labelled block_shape (printed_mapped (λ v. record { label = v.0; instructions = v.1.0; ending = v.1.1 }) unplaced_block (λ v. record { label = v.0; instructions = v.1.0; ending = v.1.1 }) (λ v. refl)
      (printed_pair (after Indented tt) (printed_some (labels.printed_label b.name h.0))
      (printed_pair (after_each Indented (map instruction_phrase b.instructions))
      (printed_each (instruction_row limits) unplaced_instruction Indented (map instruction_tree b.instructions) (map instruction_phrase b.instructions) tt (each_instruction b.instructions h.1))
      (printed_ending b.ending h.2))))

  each_block : (bs : List Block) → AreBlockTexts limits.nesting bs → EachPrinted (block_row limits) unplaced_block (map block_tree bs) (map block_phrase bs)
  each_block [] h = tt
  each_block (b ∷ bs) h = (printed_block b h.0, each_block bs h.1)

  -- the blocks in their braces
  pub printed_blocks : (bs : List Block) → is_not_empty bs ≡ true → AreBlockTexts limits.nesting bs → IsPrinted (blocks_row limits) (map unplaced_block) (map block_tree bs) (body_of_blocks bs)
  printed_blocks [] some h = absurd cc
  printed_blocks (b ∷ bs) some h =
      printed_second (after Line tt) printed_open_brace
      (printed_before (after_each Line (map block_phrase (b ∷ bs)))
      (printed_both (λ b bs. b ∷ bs) (map unplaced_block) (λ b bs. b ∷ bs) (λ a b. refl) (after Line tt) (printed_block b h.0)
      (printed_each (block_row limits) unplaced_block Line (map block_tree bs) (map block_phrase bs) tt (each_block bs h.1)))
      printed_close_brace)
