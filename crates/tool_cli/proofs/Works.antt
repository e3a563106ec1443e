-- The work on one text.
use Rattle.std.proofs.Common.{◌≡◌, ◌⊎◌, inl, inr, ℕ, Bool, true, ◌&&◌, List, [], ◌∷◌, length, codes, Option, Some, Result, Ok, Err, refl, sym, ap, ◌∙◌, subst, arith, true≢false}
use Rattle.std.specs.Prelude.{slice_get}
use Rattle.ir_base.specs.Files.{Named}
use Rattle.command_line.specs.declared.command.Command.{Command}
use Rattle.command_line.specs.declared.command.Command.TheVariants.{Assemble, Disassemble, Extract, Lli, Analyze}
use Rattle.command_line.specs.declared.command.OutputName.{OutputName}
use Rattle.command_line.specs.declared.command.OutputName.TheVariants.{Standard}
use Rattle.command_line.specs.declared.command.SelectionWords.{SelectionWords}
use Rattle.command_line.specs.declared.command.UsageKind.{UsageKind}
use Rattle.command_line.specs.Options.{is_dash}
use Rattle.bit_dump.specs.Text.{dump_text}
use Rattle.tool_output.specs.Outputs.{Outputs, outputs}
use Rattle.tool_output.specs.declared.ends.ended.Ended.{Ended}
use Rattle.tool_output.specs.declared.ends.ended.Ended.TheVariants.{Usage, CannotRead, CannotWrite, InputTooLarge, Memory}
use Rattle.tool_output.specs.declared.ends.ended.Ended.TheVariants as ends
use Rattle.tool_cli.specs.Inputs.{inputs_of}
use Rattle.tool_cli.specs.Causes.{RefusesOne}
use Rattle.tool_cli.specs.Analyzed.{IsAnalysis, IsDumped, IsBeforeWork}
use Rattle.tool_cli.specs.Output.{output_of, IsUnwritten, FailsToWrite, IsWritten, IsWrittenOf}
use Rattle.tool_cli.specs.Told.{IsWork, IsOfTexts, IsOfWork, IsOfRun}
use Rattle.tool_cli.specs.World.{found_input}
use Rattle.tool_cli.proofs.Delivered.{fails_wider}

some_same : {a b : List ℕ} → Some a ≡ Some b → a ≡ b
some_same e = cc

-- one text, and it alone
one_alone : (texts : List (List ℕ)) (text : List ℕ) → length texts ≡ 1 → slice_get texts 0 ≡ Some text → texts ≡ text ∷ []
one_alone [] text one first = absurd (omega (arith, one))
one_alone (t ∷ []) text one first = ap (λ (x : List ℕ). x ∷ []) (some_same first)
one_alone (t ∷ u ∷ texts) text one first = absurd (omega (arith, one))

pub only_text : (command : Command) (input : List ℕ) (output : OutputName) (texts : List (List ℕ)) (text : List ℕ) → command ≡ Assemble input output → length texts ≡ length (inputs_of command) → slice_get texts 0 ≡ Some text → texts ≡ text ∷ []
only_text command input output texts text is count first = one_alone texts text (rw is at count) first

pub only_bitcode : (command : Command) (input : List ℕ) (output : OutputName) (texts : List (List ℕ)) (bytes : List ℕ) → command ≡ Disassemble input output → length texts ≡ length (inputs_of command) → slice_get texts 0 ≡ Some bytes → texts ≡ bytes ∷ []
only_bitcode command input output texts bytes is count first = one_alone texts bytes (rw is at count) first

pub only_input : (command : Command) (input : List ℕ) (output : OutputName) (text : Bool) (selection : SelectionWords) (texts : List (List ℕ)) (bytes : List ℕ) → command ≡ Extract input output text selection → length texts ≡ length (inputs_of command) → slice_get texts 0 ≡ Some bytes → texts ≡ bytes ∷ []
only_input command input output text selection texts bytes is count first = one_alone texts bytes (rw is at count) first

pub only_program : (command : Command) (input : List ℕ) (bound : ℕ) (arguments texts : List (List ℕ)) (bytes : List ℕ) → command ≡ Lli input bound arguments → length texts ≡ length (inputs_of command) → slice_get texts 0 ≡ Some bytes → texts ≡ bytes ∷ []
only_program command input bound arguments texts bytes is count first = one_alone texts bytes (rw is at count) first

one_stream : (input : List ℕ) (dump : Bool) (texts : List (List ℕ)) (bytes : List ℕ) (ended : Ended) → length texts ≡ 1 → slice_get texts 0 ≡ Some bytes → IsAnalysis input bytes ended → IsWork (Analyze input dump) texts ended
one_stream input dump [] bytes ended one first told = absurd (omega (arith, one))
one_stream input dump (t ∷ []) bytes ended one first told = rw (some_same first) told
one_stream input dump (t ∷ u ∷ texts) bytes ended one first told = absurd (omega (arith, one))

pub analysis_work : (command : Command) (input : List ℕ) (dump : Bool) (texts : List (List ℕ)) (bytes : List ℕ) (o w : Type 0) (ended : Ended) → command ≡ Analyze input dump → length texts ≡ length (inputs_of command) → slice_get texts 0 ≡ Some bytes → IsAnalysis input bytes ended ⊎ FailsToWrite (Some Standard) o ⊥ ended → IsWork command texts ended ⊎ FailsToWrite (output_of command) o w ended
analysis_work command input dump texts bytes o w ended is count first (inl told) =
    inl (rw is (one_stream input dump texts bytes ended (rw is at count) first told))
analysis_work command input dump texts bytes o w ended is count first (inr stopped) =
    inr (rw is (fails_wider (Some Standard) o o ⊥ w ended (λ x. x) (λ x. absurd x) stopped))

-- what was told of a stream, and nothing else
dumped_written : (input bytes : List ℕ) (dump : Bool) (taken taken_now : Option (List ℕ)) (contents : Option Named) (ended : Ended) → IsDumped bytes dump taken taken_now ended → IsWritten (Analyze input dump) (bytes ∷ []) (outputs taken contents) (outputs taken_now contents) ended
dumped_written input bytes dump taken taken_now contents ends.Ok told = (dump_text told.0 dump, (told.0, told.1, refl), (told.2, refl))
dumped_written input bytes dump taken taken_now contents (CannotWrite name) front = (dump_text front.tree dump, (front.tree, front.stream, refl), ((front.count, front.added), refl))
dumped_written input bytes dump taken taken_now contents Memory (inl same) = inl (ap (λ (t : Option (List ℕ)). outputs t contents) same)
dumped_written input bytes dump taken taken_now contents Memory (inr front) = inr (refl, (dump_text front.tree dump, (front.tree, front.stream, refl), ((front.count, front.added), refl)))
dumped_written input bytes dump taken taken_now contents ended same = ap (λ (t : Option (List ℕ)). outputs t contents) same

one_dumped : (input : List ℕ) (dump : Bool) (texts : List (List ℕ)) (bytes : List ℕ) (taken taken_now : Option (List ℕ)) (contents : Option Named) (ended : Ended) → length texts ≡ 1 → slice_get texts 0 ≡ Some bytes → IsDumped bytes dump taken taken_now ended → IsWritten (Analyze input dump) texts (outputs taken contents) (outputs taken_now contents) ended
one_dumped input dump [] bytes taken taken_now contents ended one first shown = absurd (omega (arith, one))
one_dumped input dump (t ∷ []) bytes taken taken_now contents ended one first shown = rw (some_same first) (dumped_written input bytes dump taken taken_now contents ended shown)
one_dumped input dump (t ∷ u ∷ texts) bytes taken taken_now contents ended one first shown = absurd (omega (arith, one))

pub analysis_written : (command : Command) (input : List ℕ) (dump : Bool) (texts : List (List ℕ)) (bytes : List ℕ) (taken taken_now : Option (List ℕ)) (contents : Option Named) (ended : Ended) → command ≡ Analyze input dump → length texts ≡ length (inputs_of command) → slice_get texts 0 ≡ Some bytes → IsDumped bytes dump taken taken_now ended → IsWritten command texts (outputs taken contents) (outputs taken_now contents) ended
analysis_written command input dump texts bytes taken taken_now contents ended is count first shown =
    rw is (one_dumped input dump texts bytes taken taken_now contents ended (rw is at count) first shown)

-- standard output could not be written, or memory ran out, and nothing else
pub analysis_cause : (command : Command) (input : List ℕ) (dump : Bool) (o w : Type 0) (name : List ℕ) → command ≡ Analyze input dump → (name ≡ codes "-") × o → IsUnwritten (output_of command) o w name
analysis_cause command input dump o w name is cause = rw is cause

-- The work that writes nothing.

pub texts_written : (ended : Ended) → IsOfTexts ended → (name : List ℕ) → ended ≡ CannotWrite name → ⊥
texts_written (CannotWrite other) of name e = of
texts_written ended of name e = (let h = e in cc)

pub texts_of_work : (ended : Ended) → IsOfTexts ended → IsOfWork ended
texts_of_work ends.Ok of = absurd of
texts_of_work (CannotWrite name) of = absurd of
texts_of_work ended of = of

-- Ends before the work.

abbrev pub IsEarly : Ended → Type 0
IsEarly ends.Ok = ⊥
IsEarly (CannotWrite name) = ⊥
IsEarly ended = Unit {0}

nothing_written : (command : Command) (texts : List (List ℕ)) (before now : Outputs) (ended : Ended) → IsEarly ended → now ≡ before → IsWritten command texts before now ended
nothing_written command texts before now ends.Ok early same = absurd early
nothing_written command texts before now (CannotWrite name) early same = absurd early
nothing_written command texts before now Memory early same = inl same
nothing_written command texts before now ended early same = same

pub nothing_shown : (command : Command) (given : Result (List (List ℕ)) Ended) (before now : Outputs) (ended : Ended) → IsEarly ended → now ≡ before → IsWrittenOf command given before now ended
nothing_shown command (Ok texts) before now ended early same = nothing_written command texts before now ended early same
nothing_shown command (Err refusal) before now ended early same = same

pub early_refusal : (contents : Option Named) (left : Option (List ℕ)) (i f : Type 0) (names : List (List ℕ)) (ended : Ended) → RefusesOne (found_input contents left i f) names ended → IsEarly ended
early_refusal contents left i f names ends.Ok why = why
early_refusal contents left i f names (CannotWrite name) why = why
early_refusal contents left i f names ended why = tt

pub not_before_work : (ended : Ended) (hears : Bool) → IsOfRun ended hears → IsBeforeWork hears ended → ⊥
not_before_work (Usage kind k) hears of early = of
not_before_work (CannotRead name) hears of early = (let dash : (hears && is_dash name) ≡ true = rw (of.0, of.1) refl in true≢false (sym dash ∙ early))
not_before_work (InputTooLarge name limit) hears of early = of
not_before_work ended hears of early = early

-- no end of work tells that
pub run_no_usage : (ended : Ended) (hears : Bool) (kind : UsageKind) (k : ℕ) → IsOfRun ended hears → ended ≡ Usage kind k → ⊥
run_no_usage ended hears kind k of e = subst (λ (x : Ended). IsOfRun x hears) e of

pub run_no_large : (ended : Ended) (hears : Bool) (name : List ℕ) (limit : ℕ) → IsOfRun ended hears → ended ≡ InputTooLarge name limit → ⊥
run_no_large ended hears name limit of e = subst (λ (x : Ended). IsOfRun x hears) e of
