-- At most one end is reported for the same words, files and standard input.
use Rattle.std.proofs.Common.{◌≡◌, ◌⊎◌, inl, inr, ℕ, List, [], ◌∷◌, Option, Some, None, Result, Ok, Err, refl, sym, ap, ◌∙◌, subst}
use Rattle.std.specs.Option.{option_map}
use Rattle.bit_stream.specs.declared.bits.fault.BitFault.{BitFault as TheFault}
use Rattle.bit_tree.specs.Stream.{stream_fault}
use Rattle.bit_tree.proofs.Faults.{tree_no_fault}
use Rattle.bit_tree.proofs.OneTree.{one_tree}
use Rattle.bitcode_read.specs.Answers.{IsRefused as IsRecordRefused}
use Rattle.command_line.specs.declared.command.Command.{Command}
use Rattle.command_line.specs.declared.command.Command.TheVariants.{Assemble, Disassemble, Link, Extract, Lli, Analyze}
use Rattle.command_line.specs.declared.command.SelectionWords.{SelectionWords}
use Rattle.command_line.specs.declared.command.UsageKind.{UsageKind}
use Rattle.command_line.proofs.WholeLine.{one_fault}
use Rattle.entry_verify.specs.declared.types.fault.VerifyFault.{VerifyFault}
use Rattle.entry_verify.specs.declared.types.fault.VerifyFault.TheVariants as verdicts
use Rattle.extract_rules.specs.Selected.{no_such_symbol}
use Rattle.ir_base.specs.Files.{Named}
use Rattle.ir_syntax.specs.Answers.{HasItems}
use Rattle.ir_syntax.specs.Refusal.{IsRefused}
use Rattle.ir_syntax.specs.Tree.{ItemTree}
use Rattle.ir_syntax.specs.declared.read.SyntaxFault.{SyntaxFault}
use Rattle.ir_syntax.proofs.Refusals.{one_refusal, refused_bad}
use Rattle.ir_syntax.proofs.Results.{items_not_bad, one_items}
use Rattle.linkage_rules.specs.Conflicts.{first_conflict}
use Rattle.link_rules.specs.Counts.{too_many}
use Rattle.module_arena.specs.EntityView.{entity_view}
use Rattle.module_arena.specs.Functions.{first_too_large}
use Rattle.module_arena.specs.Module.{Bytes, Module}
use Rattle.module_arena.specs.Valid.{Entity, demands}
use Rattle.module_arena.proofs.FirstFailure.{first_alone}
use Rattle.module_arena.proofs.Found.{none≢some}
use Rattle.name_rules.specs.Breaks.{first_break}
use Rattle.name_rules.specs.ModuleOf.{module_of_items}
use Rattle.name_rules.specs.Reads.{Reads}
use Rattle.name_rules.specs.Spelled.{spelled_global}
use Rattle.name_rules.proofs.Once.{reads_once}
use Rattle.path_verify.specs.Verified.{told_of}
use Rattle.record_read.specs.Faults.{of_records}
use Rattle.record_read.specs.declared.fault.BitcodeFault.{BitcodeFault}
use Rattle.record_read.specs.declared.fault.BitcodeFault.TheVariants as bitcode_faults
use Rattle.record_table.specs.Records.{Spells, record_fault}
use Rattle.tool_output.specs.declared.ends.ended.Ended.{Ended}
use Rattle.tool_output.specs.declared.ends.ended.Ended.TheVariants.{Usage, FunctionTooLarge, Invalid, BitFault}
use Rattle.tool_cli.specs.Analyzed.{IsAnalysis}
use Rattle.tool_cli.specs.Inputs.{inputs_of, texts_read}
use Rattle.tool_cli.specs.Judged.{bitcode_told, break_told, entity_words, is_bitcode, refusal_told, verdict_told, IsBitcodeFault, IsBitcodeOf, IsBitcodeRefused, IsFirstRefusal, IsPartAccepted, IsPartRefused, HasModule, IsTextRefused, IsVerdict}
use Rattle.tool_cli.specs.Made.{selection_of}
use Rattle.tool_cli.specs.Running.{end_of}
use Rattle.tool_cli.specs.Told.{link_end, part_end, IsAssembling, IsDisassembling, IsEndOf, IsExtraction, IsLinking, IsOutcome, IsRun, IsTold}
use Rattle.tool_cli.proofs.Headline.{none_refused, same_parts, spells_something, stands_once, two_by, unrefused, unrefused_bitcode, unrefused_text}
use Rattle.tool_cli.proofs.Outcomes.{same_command}
use Rattle.tool_cli.proofs.Spelled.{spells_once}

some_once : {A : Type 0} (found : Option A) (x y : A) → found ≡ Some x → found ≡ Some y → x ≡ y
some_once found x y e f = cc

none_some : {A : Type 0} (found : Option A) (x : A) → found ≡ None → found ≡ Some x → ⊥
none_some found x e f = none≢some (sym e ∙ f)

-- ---- the refusal of a module

one_failure : (name : List ℕ) (e d : Entity) (r s : ℕ) → e ≡ d → r ≡ s → Invalid name r (entity_words e) ≡ Invalid name s (entity_words d)
one_failure name e d r s same rule = ap (λ (n : ℕ). Invalid name n (entity_words e)) rule ∙ ap (λ (x : Entity). Invalid name s (entity_words x)) same

one_verdict : (name : List ℕ) (m : Module) (f g : VerifyFault) → IsVerdict m f → IsVerdict m g → verdict_told name f ≡ verdict_told name g
one_verdict name m verdicts.Memory g p q = absurd p
one_verdict name m (verdicts.FunctionTooLarge a s) verdicts.Memory p q = absurd q
one_verdict name m (verdicts.FunctionTooLarge a s) (verdicts.FunctionTooLarge b t) p q =
    ap (λ (told : Bytes × ℕ). FunctionTooLarge name (spelled_global told.0) told.1) (some_once (option_map told_of (first_too_large m)) (a, s) (b, t) p q)
one_verdict name m (verdicts.FunctionTooLarge a s) (verdicts.Invalid rule entity) p q =
    absurd (none_some (option_map told_of (first_too_large m)) (a, s) (ap (option_map told_of) q.0) p)
one_verdict name m (verdicts.Invalid rule entity) verdicts.Memory p q = absurd q
one_verdict name m (verdicts.Invalid rule entity) (verdicts.FunctionTooLarge b t) p q =
    absurd (none_some (option_map told_of (first_too_large m)) (b, t) (ap (option_map told_of) p.0) q)
one_verdict name m (verdicts.Invalid r e) (verdicts.Invalid s d) p q =
    let same = first_alone (demands m) (entity_view e) (entity_view d) r s p.1 q.1 in
    one_failure name (entity_view e) (entity_view d) r s same.0 same.1

-- ---- the refusal of a text

no_items : (text : List ℕ) (fault : SyntaxFault) (items : List ItemTree) → IsRefused text fault → HasItems text items → ⊥
no_items text fault items refused has = let bad = refused_bad text fault refused in items_not_bad text items bad.0 has bad.1

one_text_refusal : (name text : List ℕ) (a b : Ended) → IsTextRefused name text a → IsTextRefused name text b → a ≡ b
one_text_refusal name text a b (inl p) (inl q) = p.told ∙ ap (refusal_told name) (one_refusal text p.fault q.fault p.refused q.refused) ∙ sym q.told
one_text_refusal name text a b (inl p) (inr (inl q)) = absurd (no_items text p.fault q.items p.refused q.has_items)
one_text_refusal name text a b (inl p) (inr (inr q)) = absurd (no_items text p.fault q.items p.refused q.has_items)
one_text_refusal name text a b (inr (inl p)) (inl q) = absurd (no_items text q.fault p.items q.refused p.has_items)
one_text_refusal name text a b (inr (inl p)) (inr (inl q)) =
    let same : p.items ≡ q.items = one_items text q.items p.items q.has_items p.has_items in
    p.told ∙ ap (break_told name) (some_once (first_break p.items) p.fault q.fault p.breaks (ap first_break same ∙ q.breaks)) ∙ sym q.told
one_text_refusal name text a b (inr (inl p)) (inr (inr q)) =
    let same : p.items ≡ q.items = one_items text q.items p.items q.has_items p.has_items in
    absurd (none_some (first_break p.items) p.fault (ap first_break same ∙ q.resolves.unbroken) p.breaks)
one_text_refusal name text a b (inr (inr p)) (inl q) = absurd (no_items text q.fault p.items q.refused p.has_items)
one_text_refusal name text a b (inr (inr p)) (inr (inl q)) =
    let same : q.items ≡ p.items = one_items text p.items q.items p.has_items q.has_items in
    absurd (none_some (first_break q.items) q.fault (ap first_break same ∙ p.resolves.unbroken) q.breaks)
one_text_refusal name text a b (inr (inr p)) (inr (inr q)) =
    let same : q.meant ≡ p.meant = q.resolves.joined ∙ ap module_of_items (one_items text p.items q.items p.has_items q.has_items) ∙ sym p.resolves.joined in
    p.told ∙ one_verdict name p.meant p.fault q.fault p.refused (subst (λ (n : Module). IsVerdict n q.fault) same q.refused) ∙ sym q.told

-- ---- the refusal of bitcode

-- the fault is one of the container, or the first record that is refused
abbrev IsFaulted : List ℕ → BitcodeFault → Type 0
IsFaulted bytes fault = ((bit : TheFault) × (fault ≡ bitcode_faults.Bit bit) × (stream_fault bytes ≡ Some bit)) ⊎ IsRecordRefused bytes fault

faulted : (bytes : List ℕ) (fault : BitcodeFault) → IsBitcodeFault bytes fault → IsFaulted bytes fault
faulted bytes (bitcode_faults.Bit bit) p = inl (bit, refl, p)
faulted bytes bitcode_faults.Memory p = absurd p
faulted bytes fault p = inr p

one_fault_by : (bytes : List ℕ) (f g : BitcodeFault) → IsFaulted bytes f → IsFaulted bytes g → f ≡ g
one_fault_by bytes f g (inl p) (inl q) = p.1 ∙ ap bitcode_faults.Bit (some_once (stream_fault bytes) p.0 q.0 p.2 q.2) ∙ sym q.1
one_fault_by bytes f g (inl p) (inr q) = absurd (none_some (stream_fault bytes) p.0 (tree_no_fault bytes q.tree q.is_tree) p.2)
one_fault_by bytes f g (inr p) (inl q) = absurd (none_some (stream_fault bytes) q.0 (tree_no_fault bytes p.tree p.is_tree) q.2)
one_fault_by bytes f g (inr p) (inr q) =
    let same = one_tree bytes p.tree q.tree p.is_tree q.is_tree in
    p.same ∙ ap of_records (some_once (record_fault p.tree) p.told q.told p.is_told (ap record_fault same ∙ q.is_told)) ∙ sym q.same

one_bitcode_refusal : (name bytes : List ℕ) (a b : Ended) → IsBitcodeRefused name bytes a → IsBitcodeRefused name bytes b → a ≡ b
one_bitcode_refusal name bytes a b (inl p) (inl q) =
    p.told ∙ ap (bitcode_told name) (one_fault_by bytes p.fault q.fault (faulted bytes p.fault p.refused) (faulted bytes q.fault q.refused)) ∙ sym q.told
one_bitcode_refusal name bytes a b (inl p) (inr q) = absurd (spells_something bytes q.meant p.fault q.spelled p.refused)
one_bitcode_refusal name bytes a b (inr p) (inl q) = absurd (spells_something bytes p.meant q.fault p.spelled q.refused)
one_bitcode_refusal name bytes a b (inr p) (inr q) =
    let same = spells_once bytes q.meant p.meant q.spelled p.spelled in
    p.told ∙ one_verdict name p.meant p.fault q.fault p.refused (subst (λ (n : Module). IsVerdict n q.fault) same q.refused) ∙ sym q.told

-- ---- the refusal of inputs

one_part_refusal : (name bytes : List ℕ) (a b : Ended) → IsPartRefused name bytes a → IsPartRefused name bytes b → a ≡ b
one_part_refusal name bytes a b p q =
    two_by (is_bitcode bytes) (IsBitcodeRefused name bytes a) (IsTextRefused name bytes a) (IsBitcodeRefused name bytes b) (IsTextRefused name bytes b) (a ≡ b)
    (λ r s. one_bitcode_refusal name bytes a b r s) (λ r s. one_text_refusal name bytes a b r s) p q

spelled_accepted : (name bytes : List ℕ) (ended : Ended) → ((m : Module) × IsBitcodeOf bytes m) → IsBitcodeRefused name bytes ended → ⊥
spelled_accepted name bytes ended is refused = unrefused_bitcode name bytes is.0 ended is.1.sized is.1.valid is.1.spelled refused

read_accepted : (name text : List ℕ) (ended : Ended) → ((items : List ItemTree) × HasModule text items) → IsTextRefused name text ended → ⊥
read_accepted name text ended is refused =
    let accepted = is.1.1.1 in
    let reads : Reads text is.1.1.0 = record { items = is.0; has_items = is.1.0; resolves = accepted.resolves } in
    unrefused_text name text is.1.1.0 ended accepted.sized accepted.valid reads refused

-- an input that is accepted is not refused
accepted_part : (name bytes : List ℕ) (ended : Ended) → IsPartAccepted bytes → IsPartRefused name bytes ended → ⊥
accepted_part name bytes ended is refused =
    two_by (is_bitcode bytes) ((m : Module) × IsBitcodeOf bytes m) ((items : List ItemTree) × HasModule bytes items) (IsBitcodeRefused name bytes ended) (IsTextRefused name bytes ended) ⊥
    (λ r s. spelled_accepted name bytes ended r s) (λ r s. read_accepted name bytes ended r s) is refused

one_first_refusal : (names texts : List (List ℕ)) (a b : Ended) → IsFirstRefusal names texts a → IsFirstRefusal names texts b → a ≡ b
one_first_refusal [] [] a b p q = absurd p
one_first_refusal [] (text ∷ texts) a b p q = absurd p
one_first_refusal (name ∷ names) [] a b p q = absurd p
one_first_refusal (name ∷ names) (text ∷ texts) a b (inl p) (inl q) = one_part_refusal name text a b p q
one_first_refusal (name ∷ names) (text ∷ texts) a b (inl p) (inr q) = absurd (accepted_part name text a q.0 p)
one_first_refusal (name ∷ names) (text ∷ texts) a b (inr p) (inl q) = absurd (accepted_part name text b p.0 q)
one_first_refusal (name ∷ names) (text ∷ texts) a b (inr p) (inr q) = one_first_refusal names texts a b p.1 q.1

-- ---- the end of a command

one_assembling : (name text : List ℕ) (a b : Ended) → IsAssembling name text a → IsAssembling name text b → a ≡ b
one_assembling name text a b (inl p) (inl q) = one_text_refusal name text a b p q
one_assembling name text a b (inl p) (inr q) = absurd (unrefused_text name text q.0 a q.1.sized q.1.valid q.1.reads p)
one_assembling name text a b (inr p) (inl q) = absurd (unrefused_text name text p.0 b p.1.sized p.1.valid p.1.reads q)
one_assembling name text a b (inr p) (inr q) = p.2 ∙ sym q.2

one_disassembling : (name bytes : List ℕ) (a b : Ended) → IsDisassembling name bytes a → IsDisassembling name bytes b → a ≡ b
one_disassembling name bytes a b (inl p) (inl q) = one_bitcode_refusal name bytes a b p q
one_disassembling name bytes a b (inl p) (inr q) = absurd (unrefused_bitcode name bytes q.0 a q.1.sized q.1.valid q.1.spelled p)
one_disassembling name bytes a b (inr p) (inl q) = absurd (unrefused_bitcode name bytes p.0 b p.1.sized p.1.valid p.1.spelled q)
one_disassembling name bytes a b (inr p) (inr q) = p.2 ∙ sym q.2

one_analysis : (name bytes : List ℕ) (a b : Ended) → IsAnalysis name bytes a → IsAnalysis name bytes b → a ≡ b
one_analysis name bytes a b (inl p) (inl q) = p.2 ∙ sym q.2
one_analysis name bytes a b (inl p) (inr q) = absurd (none_some (stream_fault bytes) q.0 (tree_no_fault bytes p.0 p.1) q.1)
one_analysis name bytes a b (inr p) (inl q) = absurd (none_some (stream_fault bytes) p.0 (tree_no_fault bytes q.0 q.1) p.1)
one_analysis name bytes a b (inr p) (inr q) = p.2 ∙ ap (λ (fault : TheFault). BitFault name fault) (some_once (stream_fault bytes) p.0 q.0 p.1 q.1) ∙ sym q.2

one_extraction : (name : List ℕ) (selection : SelectionWords) (bytes : List ℕ) (a b : Ended) → IsExtraction name selection bytes a → IsExtraction name selection bytes b → a ≡ b
one_extraction name selection bytes a b (inl p) (inl q) = one_part_refusal name bytes a b p q
one_extraction name selection bytes a b (inl p) (inr q) = absurd (unrefused name bytes q.0 a q.1 p)
one_extraction name selection bytes a b (inr p) (inl q) = absurd (unrefused name bytes p.0 b p.1 q)
one_extraction name selection bytes a b (inr p) (inr q) =
    p.2 ∙ ap (λ (m : Module). part_end (no_such_symbol m (selection_of selection))) (stands_once reads_once bytes p.0 q.0 p.1.stands q.1.stands) ∙ sym q.2

one_linking : (names texts : List (List ℕ)) (a b : Ended) → IsLinking names texts a → IsLinking names texts b → a ≡ b
one_linking names texts a b (inl p) (inl q) = one_first_refusal names texts a b p q
one_linking names texts a b (inl p) (inr q) = absurd (none_refused names texts q.1.parts a q.1.are_parts p)
one_linking names texts a b (inr p) (inl q) = absurd (none_refused names texts p.1.parts b p.1.are_parts q)
one_linking names texts a b (inr p) (inr q) =
    p.1.told ∙ ap (λ (parts : List Module). link_end names (first_conflict parts) (too_many parts)) (same_parts reads_once texts p.1.parts q.1.parts p.1.are_parts q.1.are_parts) ∙ sym q.1.told

one_run : (name : List ℕ) (bound : ℕ) (words : List (List ℕ)) (stdin bytes : List ℕ) (a b : Ended) → IsRun name bound words stdin bytes a → IsRun name bound words stdin bytes b → a ≡ b
one_run name bound words stdin bytes a b (inl p) (inl q) = one_part_refusal name bytes a b p q
one_run name bound words stdin bytes a b (inl p) (inr q) = absurd (unrefused name bytes q.0 a q.1 p)
one_run name bound words stdin bytes a b (inr p) (inl q) = absurd (unrefused name bytes p.0 b p.1 q)
one_run name bound words stdin bytes a b (inr p) (inr q) =
    p.2 ∙ ap (λ (m : Module). end_of name bound words stdin m) (stands_once reads_once bytes p.0 q.0 p.1.stands q.1.stands) ∙ sym q.2

one_of_command : (command : Command) (stdin : List ℕ) (texts : List (List ℕ)) (a b : Ended) → IsEndOf command stdin texts a → IsEndOf command stdin texts b → a ≡ b
one_of_command (Lli input bound words) stdin (bytes ∷ []) a b p q = one_run input bound words stdin bytes a b p q
one_of_command (Lli input bound words) stdin texts a b p q = absurd p
one_of_command (Assemble input output) stdin (text ∷ []) a b p q = one_assembling input text a b p q
one_of_command (Assemble input output) stdin texts a b p q = absurd p
one_of_command (Disassemble input output) stdin (bytes ∷ []) a b p q = one_disassembling input bytes a b p q
one_of_command (Disassemble input output) stdin texts a b p q = absurd p
one_of_command (Analyze input dump) stdin (bytes ∷ []) a b p q = one_analysis input bytes a b p q
one_of_command (Analyze input dump) stdin texts a b p q = absurd p
one_of_command (Extract input output text selection) stdin (bytes ∷ []) a b p q = one_extraction input selection bytes a b p q
one_of_command (Extract input output text selection) stdin texts a b p q = absurd p
one_of_command (Link inputs output text) stdin texts a b p q = one_linking inputs texts a b p q

one_outcome : (command : Command) (stdin : List ℕ) (given : Result (List (List ℕ)) Ended) (a b : Ended) → IsOutcome command stdin given a → IsOutcome command stdin given b → a ≡ b
one_outcome command stdin (Ok texts) a b p q = one_of_command command stdin texts a b p q
one_outcome command stdin (Err refusal) a b p q = p ∙ sym q

-- ---- the end of words

one_usage : (k l : UsageKind) (n o : ℕ) → (k ≡ l) × (n ≡ o) → Usage k n ≡ Usage l o
one_usage k l n o same = ap (λ (kind : UsageKind). Usage kind n) same.0 ∙ ap (Usage l) same.1

pub one_end : (words : List (List ℕ)) (files : Named) (stdin : List ℕ) (a b : Ended) → IsTold words files stdin a → IsTold words files stdin b → a ≡ b
one_end words files stdin a b (inl p) (inl q) = p.1.2 ∙ one_usage p.0 q.0 p.1.0 q.1.0 (one_fault words p.0 q.0 p.1.0 q.1.0 p.1.1 q.1.1) ∙ sym q.1.2
one_end words files stdin a b (inl p) (inr q) = absurd (q.1.fine p.0 p.1.0 p.1.1.is)
one_end words files stdin a b (inr p) (inl q) = absurd (p.1.fine q.0 q.1.0 q.1.1.is)
one_end words files stdin a b (inr p) (inr q) =
    let P : Command → Type 0 = λ c. IsOutcome c stdin (texts_read files stdin 0 (inputs_of c)) b in
    one_outcome p.0 stdin (texts_read files stdin 0 (inputs_of p.0)) a b p.2 (subst P (same_command words q.0 p.0 q.1 p.1) q.2)

-- so where words have an end, a run that did not stop has that
pub complete_by : (words : List (List ℕ)) (files : Named) (stdin : List ℕ) (ended : Ended) {stopped : Type 0} → IsTold words files stdin ended ⊎ stopped → (end : Ended) → IsTold words files stdin end → (ended ≡ end) ⊎ stopped
complete_by words files stdin ended (inl told) end is = inl (one_end words files stdin ended end told is)
complete_by words files stdin ended (inr why) end is = inr why
