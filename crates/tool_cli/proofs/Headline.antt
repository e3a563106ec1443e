-- What is linked runs as its parts: from what is told of a run, and what is shown.
use Rattle.std.proofs.Common.{◌≡◌, ◌⊎◌, ◌↔◌, inl, inr, ℕ, Bool, true, false, List, [], ◌∷◌, Option, Some, None, Result, refl, sym, ap, ◌∙◌, subst}
use Rattle.std.specs.Bool.{MatchBool}
use Rattle.std.specs.List.{AllByRecursion}
use Rattle.std.specs.Option.{option_map}
use Rattle.bit_tree.proofs.Faults.{tree_no_fault}
use Rattle.bit_tree.proofs.OneTree.{one_tree}
use Rattle.ir_base.specs.Files.{Named}
use Rattle.ir_syntax.proofs.Refusals.{refused_bad}
use Rattle.ir_syntax.proofs.Results.{items_not_bad, one_items}
use Rattle.canonical.specs.Reads.Laws.{IsReadBack}
use Rattle.canonical.specs.Canonical.{canon}
use Rattle.command_line.specs.declared.command.Command.{Command}
use Rattle.command_line.specs.declared.command.Command.TheVariants.{Link}
use Rattle.command_line.specs.declared.command.OutputName.{OutputName}
use Rattle.linkage_rules.specs.Conflicts.{FoundConflict, first_conflict}
use Rattle.module_arena.specs.EntityView.{entity_view}
use Rattle.module_arena.specs.Functions.{first_too_large}
use Rattle.module_arena.specs.Module.{Module}
use Rattle.module_arena.specs.Valid.{IsValid, demands}
use Rattle.module_arena.specs.WellFormed.{IsWellFormed}
use Rattle.module_arena.proofs.FirstFailure.{none_fails}
use Rattle.module_arena.proofs.Found.{none≢some}
use Rattle.link_rules.specs.Counts.{Count, too_many}
use Rattle.name_rules.specs.Breaks.{first_break}
use Rattle.name_rules.specs.Laws.{ReadsOnce}
use Rattle.name_rules.specs.ModuleOf.{module_of_items}
use Rattle.name_rules.specs.Reads.{Reads}
use Rattle.path_verify.specs.Verified.{told_of}
use Rattle.record_read.specs.declared.fault.BitcodeFault.{BitcodeFault}
use Rattle.record_read.specs.declared.fault.BitcodeFault.TheVariants as bitcode_faults
use Rattle.record_table.specs.Records.{Spells, fault_in, record_fault}
use Rattle.record_table.specs.Spelling.{spelling}
use Rattle.run_rules.specs.Same.{RunAlike}
use Rattle.record_law.specs.Alone.Laws.{ModulesAreSpelledAlone}
use Rattle.entry_verify.specs.declared.types.fault.VerifyFault.{VerifyFault}
use Rattle.entry_verify.specs.declared.types.fault.VerifyFault.TheVariants as verdicts
use Rattle.tool_output.specs.declared.ends.ended.Ended.{Ended}
use Rattle.tool_output.specs.declared.ends.ended.Ended.TheVariants as ends
use Rattle.tool_output.specs.Outputs.{Outputs}
use Rattle.tool_output.specs.Written.{written}
use Rattle.tool_output.specs.declared.format.OutputFormat.{OutputFormat}
use Rattle.tool_output.specs.declared.format.OutputFormat.TheVariants.{CanonicalText, Bitcode}
use Rattle.tool_cli.specs.Headline.{AreReadable, StandForOne, RunsAsParts, ComesTo, RunsLinked}
use Rattle.tool_cli.specs.Inputs.{inputs_of, texts_read}
use Rattle.tool_cli.specs.Judged.{is_bitcode, IsBitcodeFault, IsBitcodeRefused, IsFirstRefusal, IsPartRefused, IsTextRefused, IsVerdict}
use Rattle.tool_cli.specs.Made.{AreParts, IsPart, RunsLike, StandsFor, format_of}
use Rattle.tool_cli.specs.Output.{IsShown, IsWritten, IsWrittenOf}
use Rattle.tool_cli.specs.Told.{IsLinking, IsOutcome, IsTold, link_end}
use Rattle.tool_cli.proofs.Begins.{canon_begins, spelling_begins}
use Rattle.tool_cli.proofs.Outcomes.{same_command}
use Rattle.tool_cli.proofs.Spelled.{spells_once}

-- ---- parts

-- what follows where two inputs are both bitcode, and where they are both texts
pub two_by : (bitcode : Bool) (P Q R S T : Type 0) → (P → R → T) → (Q → S → T) → MatchBool bitcode P Q → MatchBool bitcode R S → T
two_by true P Q R S T of_bitcode of_text p r = of_bitcode p r
two_by false P Q R S T of_bitcode of_text q s = of_text q s

-- a module that is accepted is not refused
unjudged : (m : Module) (fault : VerifyFault) → first_too_large m ≡ None → IsValid m → IsVerdict m fault → ⊥
unjudged m verdicts.Memory sized valid refused = absurd refused
unjudged m (verdicts.FunctionTooLarge name size) sized valid refused = none≢some (sym (ap (option_map told_of) sized) ∙ refused)
unjudged m (verdicts.Invalid rule entity) sized valid refused = none_fails (demands m) (entity_view entity) rule valid refused.1

-- nor is its text
pub unrefused_text : (name text : List ℕ) (m : Module) (ended : Ended) → first_too_large m ≡ None → IsValid m → Reads text m → IsTextRefused name text ended → ⊥
unrefused_text name text m ended sized valid reads (inl none) =
    let bad = refused_bad text none.fault none.refused in
    items_not_bad text reads.items bad.0 reads.has_items bad.1
unrefused_text name text m ended sized valid reads (inr (inl none)) =
    let same = one_items text reads.items none.items reads.has_items none.has_items in
    none≢some (sym reads.resolves.unbroken ∙ ap first_break (sym same) ∙ none.breaks)
unrefused_text name text m ended sized valid reads (inr (inr bad)) =
    let same : bad.meant ≡ m = bad.resolves.joined ∙ ap module_of_items (one_items text reads.items bad.items reads.has_items bad.has_items) ∙ sym reads.resolves.joined in
    unjudged m bad.fault sized valid (subst (λ (n : Module). IsVerdict n bad.fault) same bad.refused)

-- bytes that spell a module are not refused as bitcode
pub spells_something : (bytes : List ℕ) (m : Module) (fault : BitcodeFault) → Spells bytes m → IsBitcodeFault bytes fault → ⊥
spells_something bytes m (bitcode_faults.Bit bit) spells refused = none≢some (sym (tree_no_fault bytes spells.tree spells.is_tree) ∙ refused)
spells_something bytes m bitcode_faults.Memory spells refused = absurd refused
spells_something bytes m fault spells refused =
    let same = one_tree bytes refused.tree spells.tree refused.is_tree spells.is_tree in
    none≢some (sym (ap record_fault same ∙ ap fault_in spells.stands) ∙ refused.is_told)

-- nor where that is accepted
pub unrefused_bitcode : (name bytes : List ℕ) (m : Module) (ended : Ended) → first_too_large m ≡ None → IsValid m → Spells bytes m → IsBitcodeRefused name bytes ended → ⊥
unrefused_bitcode name bytes m ended sized valid spells (inl none) = spells_something bytes m none.fault spells none.refused
unrefused_bitcode name bytes m ended sized valid spells (inr bad) =
    unjudged m bad.fault sized valid (subst (λ (n : Module). IsVerdict n bad.fault) (spells_once bytes bad.meant m bad.spelled spells) bad.refused)

-- nor is an input that stands for it
pub unrefused : (name bytes : List ℕ) (m : Module) (ended : Ended) → IsPart bytes m → IsPartRefused name bytes ended → ⊥
unrefused name bytes m ended is refused =
    two_by (is_bitcode bytes) (Spells bytes m) (Reads bytes m) (IsBitcodeRefused name bytes ended) (IsTextRefused name bytes ended) ⊥
    (λ spells bad. unrefused_bitcode name bytes m ended is.sized is.valid spells bad) (λ reads bad. unrefused_text name bytes m ended is.sized is.valid reads bad) is.stands refused

pub none_refused : (names texts : List (List ℕ)) (parts : List Module) (ended : Ended) → AreParts texts parts → IsFirstRefusal names texts ended → ⊥
none_refused [] [] parts ended are refused = absurd refused
none_refused [] (text ∷ texts) parts ended are refused = absurd refused
none_refused (name ∷ names) [] parts ended are refused = absurd refused
none_refused (name ∷ names) (text ∷ texts) [] ended are refused = absurd are
none_refused (name ∷ names) (text ∷ texts) (m ∷ parts) ended are (inl bad) = unrefused name text m ended are.0 bad
none_refused (name ∷ names) (text ∷ texts) (m ∷ parts) ended are (inr later) = none_refused names texts parts ended are.1 later.1

-- an input stands for one module
pub stands_once : ReadsOnce → (bytes : List ℕ) (m n : Module) → StandsFor bytes m → StandsFor bytes n → m ≡ n
stands_once once bytes m n one other =
    two_by (is_bitcode bytes) (Spells bytes m) (Reads bytes m) (Spells bytes n) (Reads bytes n) (m ≡ n) (λ r s. spells_once bytes m n r s) (λ r s. once bytes m n r s) one other

-- inputs stand for their parts alone
pub same_parts : ReadsOnce → (texts : List (List ℕ)) (ps qs : List Module) → AreParts texts ps → AreParts texts qs → ps ≡ qs
same_parts once [] [] [] are others = refl
same_parts once [] [] (q ∷ qs) are others = absurd others
same_parts once [] (p ∷ ps) qs are others = absurd are
same_parts once (text ∷ texts) [] qs are others = absurd are
same_parts once (text ∷ texts) (p ∷ ps) [] are others = absurd others
same_parts once (text ∷ texts) (p ∷ ps) (q ∷ qs) are others =
    let head : p ≡ q = stands_once once text p q are.0.stands others.0.stands in
    let tail : ps ≡ qs = same_parts once texts ps qs are.1 others.1 in
    ap (λ (x : Module). x ∷ ps) head ∙ ap (λ (xs : List Module). q ∷ xs) tail

-- of no part a function is too large
pub all_sized : (texts : List (List ℕ)) (parts : List Module) → AreParts texts parts → AllByRecursion (λ m. first_too_large m ≡ None) parts
all_sized [] [] are = tt
all_sized [] (m ∷ parts) are = absurd are
all_sized (text ∷ texts) [] are = absurd are
all_sized (text ∷ texts) (m ∷ parts) are = (are.0.sized, all_sized texts parts are.1)

-- ---- what is put

-- an input that is no bitcode stands for what its text reads to
text_stands : (bytes : List ℕ) (n : Module) (P : Type 0) → is_bitcode bytes ≡ false → (Reads bytes n ↔ P) → StandsFor bytes n ↔ P
text_stands bytes n P text reads = subst (λ (bitcode : Bool). MatchBool bitcode (Spells bytes n) (Reads bytes n) ↔ P) (sym text) reads

-- and bitcode for what it spells
bitcode_stands : (bytes : List ℕ) (n : Module) (P : Type 0) → is_bitcode bytes ≡ true → (Spells bytes n ↔ P) → StandsFor bytes n ↔ P
bitcode_stands bytes n P bitcode spells = subst (λ (bitcode : Bool). MatchBool bitcode (Spells bytes n) (Reads bytes n) ↔ P) (sym bitcode) spells

-- what is written of a module that is well formed and valid stands for it alone
stand_for_one : IsReadBack → ModulesAreSpelledAlone → (format : OutputFormat) (m : Module) → IsWellFormed m → IsValid m → StandForOne format (written format m) m
unfolding written
stand_for_one back alone CanonicalText m good valid = λ readable n. text_stands (canon m) n (n ≡ m) (canon_begins m) (back m (record { well_formed = good; valid = valid }) n)
stand_for_one back alone Bitcode m good valid = λ few n. bitcode_stands (spelling m) n (n ≡ m) (spelling_begins m ((alone m good valid few m).1 refl)) (alone m good valid few n)

-- what stands for a module alone, given to `lli`, runs as that does
runs_again : (format : OutputFormat) (bytes : List ℕ) (m : Module) (parts : List Module) → StandForOne format bytes m → first_too_large m ≡ None → IsValid m → RunAlike (m ∷ []) parts → AreReadable format bytes → RunsLike bytes parts
runs_again format bytes m parts stand sized valid runs readable = record { meant = m; is_part = record { stands = (stand readable m).1 refl; sized = sized; valid = valid }; runs = runs }

module _ (once : ReadsOnce) (back : IsReadBack) (alone : ModulesAreSpelledAlone) where
  -- where parts are linked, what is put runs as they do
  put_runs : (inputs texts : List (List ℕ)) (output : OutputName) (text : Bool) (parts : List Module) (before now : Outputs) → AreParts texts parts → IsWritten (Link inputs output text) texts before now ends.Ok → RunsAsParts parts output (format_of text) before now
  put_runs inputs texts output text parts before now are wrote =
      let m = wrote.1.0 in
      let links = wrote.1.1 in
      let same : links.parts ≡ parts = same_parts once texts links.parts parts links.are_parts are in
      let stand : StandForOne (format_of text) wrote.0 m = subst (λ (bytes : List ℕ). StandForOne (format_of text) bytes m) (sym wrote.1.2) (stand_for_one back alone (format_of text) m links.linked.well_formed links.linked.valid) in
      let runs : RunAlike (m ∷ []) parts = subst (λ (ps : List Module). RunAlike (m ∷ []) ps) same links.linked.runs in
      record {
        whole = m;
        well_formed = links.linked.well_formed;
        valid = links.linked.valid;
        sized = links.linked.sized;
        runs = runs;
        bytes = wrote.0;
        spelled = wrote.1.2;
        stand = stand;
        again = runs_again (format_of text) wrote.0 m parts stand links.linked.sized links.linked.valid runs;
        put = wrote.2;
      }

  comes_by : (inputs texts : List (List ℕ)) (output : OutputName) (text : Bool) (parts : List Module) (conflict : Option FoundConflict) (count : Option Count) (before now : Outputs) (ended : Ended) → AreParts texts parts → ended ≡ link_end inputs conflict count → IsWritten (Link inputs output text) texts before now ended → ComesTo inputs parts output (format_of text) conflict count before now ended
  comes_by inputs texts output text parts (Some conflict) count before now ended are told wrote =
      (told, subst (λ (e : Ended). IsWritten (Link inputs output text) texts before now e) told wrote)
  comes_by inputs texts output text parts None (Some count) before now ended are told wrote =
      (told, subst (λ (e : Ended). IsWritten (Link inputs output text) texts before now e) told wrote)
  comes_by inputs texts output text parts None None before now ended are told wrote =
      (told, put_runs inputs texts output text parts before now are (subst (λ (e : Ended). IsWritten (Link inputs output text) texts before now e) told wrote))

  comes_to : (inputs texts : List (List ℕ)) (output : OutputName) (text : Bool) (parts : List Module) (before now : Outputs) (ended : Ended) → AreParts texts parts → IsLinking inputs texts ended → IsWritten (Link inputs output text) texts before now ended → ComesTo inputs parts output (format_of text) (first_conflict parts) (too_many parts) before now ended
  comes_to inputs texts output text parts before now ended are (inl refused) wrote = absurd (none_refused inputs texts parts ended are refused)
  comes_to inputs texts output text parts before now ended are (inr accepted) wrote =
      let by = accepted.1 in
      let told = subst (λ (ps : List Module). ended ≡ link_end inputs (first_conflict ps) (too_many ps)) (same_parts once texts by.parts parts by.are_parts are) by.told in
      comes_by inputs texts output text parts (first_conflict parts) (too_many parts) before now ended are told wrote

  pub headline : (words : List (List ℕ)) (held : Named) (stdin : List ℕ) (before now : Outputs) (ended : Ended) (stopped : Type 0) → IsTold words held stdin ended ⊎ stopped → IsShown words held stdin before now ended → RunsLinked words held stdin before now ended stopped
  headline words held stdin before now ended stopped (inr gave_up) shown = λ inputs texts output text links parts are. inr gave_up
  headline words held stdin before now ended stopped (inl (inl usage)) shown = λ inputs texts output text links parts are. absurd (links.read.fine usage.0 usage.1.0 usage.1.1.is)
  headline words held stdin before now ended stopped (inl (inr told)) shown = λ inputs texts output text links parts are.
      let P : Result (List (List ℕ)) Ended → Type 0 = λ r. IsOutcome (Link inputs output text) stdin r ended in
      let Q : Command → Type 0 = λ c. IsOutcome c stdin (texts_read held stdin 0 (inputs_of c)) ended in
      let W : Result (List (List ℕ)) Ended → Type 0 = λ r. IsWrittenOf (Link inputs output text) r before now ended in
      let linking = subst P links.given (subst Q (same_command words told.0 (Link inputs output text) told.1 links.read) told.2) in
      let wrote = subst W links.given (shown (Link inputs output text) links.read refl) in
      inl (comes_to inputs texts output text parts before now ended are linking wrote)
