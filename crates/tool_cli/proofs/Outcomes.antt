-- The end of a run, by its words and by what its inputs give.
use Rattle.std.proofs.Common.{◌≡◌, ◌⊎◌, inl, inr, ℕ, Bool, true, false, List, Option, Result, Ok, Err, refl, sym, ap, ◌∙◌, subst}
use Rattle.std.specs.Prelude.{IsErrAnd}
use Rattle.std.specs.Bool.{MatchBool}
use Rattle.std.specs.List.{IsAmong}
use Rattle.ir_base.specs.Files.{Named}
use Rattle.command_line.specs.declared.command.Command.{Command}
use Rattle.command_line.specs.declared.command.OutputName.{OutputName}
use Rattle.command_line.specs.declared.command.UsageKind.{UsageKind}
use Rattle.command_line.specs.declared.command.WordsFault.{WordsFault}
use Rattle.command_line.specs.declared.command.WordsFault.TheVariants as faults
use Rattle.command_line.specs.Commands.{IsReadAs, IsUnlessMemory}
use Rattle.command_line.specs.Options.{is_dash}
use Rattle.tool_output.specs.Outputs.{Outputs}
use Rattle.tool_output.specs.declared.ends.ended.Ended.{Ended}
use Rattle.tool_output.specs.declared.ends.ended.Ended.TheVariants.{Usage, CannotRead, CannotWrite, InputTooLarge, Memory}
use Rattle.tool_cli.specs.Inputs.{inputs_of, inputs_behind, inputs_named, runs_program, texts_read}
use Rattle.tool_cli.specs.Causes.{GaveUp, Stopped, IsUnread, IsPassed, RefusesOne}
use Rattle.tool_cli.specs.Analyzed.{is_analysis, is_analysis_behind, analyzes}
use Rattle.tool_cli.specs.Output.{output_of, output_behind, output_named, FailsToWrite, IsWritten, IsWrittenOf, IsShown}
use Rattle.tool_cli.specs.Told.{IsEndOf, IsOutcome, IsTold, IsAfterReading}
use Rattle.tool_cli.specs.World.{failures, found_input}

pub inputs_are : (words : List (List ℕ)) (command : Command) → IsReadAs words command → inputs_named words ≡ inputs_of command
unfolding inputs_named
inputs_are words command read = ap inputs_behind read.is

outcome : (command : Command) (names : List (List ℕ)) (held : Named) (stdin : List ℕ) (given : Result (List (List ℕ)) Ended) (ended : Ended) → names ≡ inputs_of command → given ≡ texts_read held stdin 0 names → IsOutcome command stdin given ended → IsOutcome command stdin (texts_read held stdin 0 (inputs_of command)) ended
outcome command names held stdin given ended are e is =
    let P : Result (List (List ℕ)) Ended → Type 0 = λ r. IsOutcome command stdin r ended in
    subst P (e ∙ ap (λ ns. texts_read held stdin 0 ns) are) is

pub output_is : (words : List (List ℕ)) (command : Command) → IsReadAs words command → output_named words ≡ output_of command
unfolding output_named
output_is words command read = ap output_behind read.is

gave_wider : (i f : Type 0) (ended : Ended) → GaveUp i ⊥ ended → GaveUp i f ended
gave_wider i f (CannotRead name) why = by (is_dash name) why
  where
    by : (dash : Bool) → MatchBool dash i ⊥ → MatchBool dash i f
    by true why = why
    by false why = absurd why
gave_wider i f Memory why = tt
gave_wider i f ended why = absurd why

stopped_so : (words : List (List ℕ)) (command : Command) (i f o w : Type 0) (ended : Ended) → IsReadAs words command → Stopped (output_of command) (failures i ⊥ o w) ended → Stopped (output_named words) (failures i f o w) ended
stopped_so words command i f o w ended read (inl why) = inl (gave_wider i f ended why)
stopped_so words command i f o w ended read (inr fails) = inr (subst (λ (output : Option OutputName). FailsToWrite output o w ended) (sym (output_is words command read)) fails)

-- `i` and `f` say what rose before the texts were there, `i'`, `f'`, `o` and `w` what rose in all
pub told_ok : (words : List (List ℕ)) (command : Command) (names texts : List (List ℕ)) (held : Named) (stdin : List ℕ) (ended : Ended) (i i' f f' o w : Type 0) → IsReadAs words command → names ≡ inputs_of command → (Ok texts ≡ texts_read held stdin 0 names) ⊎ IsErrAnd {T = List (List ℕ)} (Ok texts) (GaveUp i f) → IsEndOf command stdin texts ended ⊎ Stopped (output_of command) (failures i' ⊥ o w) ended → IsTold words held stdin ended ⊎ Stopped (output_named words) (failures i' f' o w) ended
told_ok words command names texts held stdin ended i i' f f' o w read are (inl e) (inl work) = inl (inr (command, read, outcome command names held stdin (Ok texts) ended are e work))
told_ok words command names texts held stdin ended i i' f f' o w read are (inr never) work = absurd never
told_ok words command names texts held stdin ended i i' f f' o w read are (inl e) (inr stopped) = inr (stopped_so words command i' f' o w ended read stopped)

pub told_err : (words : List (List ℕ)) (command : Command) (names : List (List ℕ)) (held : Named) (stdin : List ℕ) (ended : Ended) (i f o w : Type 0) → IsReadAs words command → names ≡ inputs_of command → (Err ended ≡ texts_read held stdin 0 names) ⊎ GaveUp i f ended → IsTold words held stdin ended ⊎ Stopped (output_named words) (failures i f o w) ended
told_err words command names held stdin ended i f o w read are (inl e) = inl (inr (command, read, outcome command names held stdin (Err ended) ended are e refl))
told_err words command names held stdin ended i f o w read are (inr gave_up) = inr (inl gave_up)

pub cause_of_unread : (own : List ℕ → Type 0) (named names : List (List ℕ)) (contents : Option Named) (left : Option (List ℕ)) (i f : Type 0) (ended : Ended) → named ≡ names → RefusesOne (found_input contents left i f) names ended → (name : List ℕ) → ended ≡ CannotRead name → (IsAmong named name ⊎ own name) × IsUnread contents i f name
cause_of_unread own named names contents left i f ended same why name e =
    let cause : RefusesOne (found_input contents left i f) named (CannotRead name) = rw same (rw e at why) in
    (inl cause.0, cause.1)

pub cause_of_large : (named names : List (List ℕ)) (contents : Option Named) (left : Option (List ℕ)) (i f : Type 0) (ended : Ended) → named ≡ names → RefusesOne (found_input contents left i f) names ended → (name : List ℕ) (limit : ℕ) → ended ≡ InputTooLarge name limit → IsAmong named name × IsPassed contents left named name limit
cause_of_large named names contents left i f ended same why name limit e = rw same (rw e at why)

-- what refuses an input tells of no output
pub never_unwritten : (names : List (List ℕ)) (contents : Option Named) (left : Option (List ℕ)) (i f : Type 0) (ended : Ended) → RefusesOne (found_input contents left i f) names ended → (name : List ℕ) → ended ≡ CannotWrite name → ⊥
never_unwritten names contents left i f ended why name e = subst (λ (x : Ended). RefusesOne (found_input contents left i f) names x) e why

-- nor of words
pub never_usage : (names : List (List ℕ)) (contents : Option Named) (left : Option (List ℕ)) (i f : Type 0) (ended : Ended) → RefusesOne (found_input contents left i f) names ended → (kind : UsageKind) (k : ℕ) → ended ≡ Usage kind k → ⊥
never_usage names contents left i f ended why kind k e = subst (λ (x : Ended). RefusesOne (found_input contents left i f) names x) e why

-- and comes before all were read
pub never_after : (names : List (List ℕ)) (contents : Option Named) (left : Option (List ℕ)) (i f : Type 0) (ended : Ended) → RefusesOne (found_input contents left i f) names ended → IsAfterReading ended → ⊥
never_after names contents left i f (CannotRead name) why after = after
never_after names contents left i f (InputTooLarge name limit) why after = after
never_after names contents left i f Memory why after = after
never_after names contents left i f ended why after = absurd why

-- of words that have a first fault, that is told
pub fault_told : (fault : WordsFault) (kind other : UsageKind) (word k : ℕ) → fault ≡ faults.Usage kind word → IsUnlessMemory (Err fault) (Err (faults.Usage other k)) → (Usage kind word ≡ Usage other k) ⊎ (Usage kind word ≡ Memory)
fault_told fault kind other word k is (inl same) = inl (let e = same in let f = is in cc)
fault_told fault kind other word k is (inr none) = absurd (let e = none in let f = is in cc)

pub analyzes_is : (words : List (List ℕ)) (command : Command) → IsReadAs words command → analyzes words ≡ is_analysis command
unfolding analyzes
analyzes_is words command read = ap is_analysis_behind read.is

-- words are read as one command
pub same_command : (words : List (List ℕ)) (one other : Command) → IsReadAs words one → IsReadAs words other → one ≡ other
same_command words one other r s = (let e = r.is in let f = s.is in cc)

pub given_ok : (given : Result (List (List ℕ)) Ended) (i f : Type 0) (texts : List (List ℕ)) → (Ok texts ≡ given) ⊎ IsErrAnd {T = List (List ℕ)} (Ok texts) (GaveUp i f) → Ok texts ≡ given
given_ok given i f texts (inl e) = e
given_ok given i f texts (inr never) = absurd never

pub shown_ok : (words : List (List ℕ)) (command : Command) (names texts : List (List ℕ)) (held : Named) (stdin : List ℕ) (before now : Outputs) (ended : Ended) (i f : Type 0) → IsReadAs words command → names ≡ inputs_of command → (Ok texts ≡ texts_read held stdin 0 names) ⊎ IsErrAnd {T = List (List ℕ)} (Ok texts) (GaveUp i f) → (runs_program command ≡ false → IsWritten command texts before now ended) → IsShown words held stdin before now ended
shown_ok words command names texts held stdin before now ended i f read are given written = λ other read_other plain.
    let P : Result (List (List ℕ)) Ended → Type 0 = λ r. IsWrittenOf command r before now ended in
    let Q : Command → Type 0 = λ c. IsWrittenOf c (texts_read held stdin 0 (inputs_of c)) before now ended in
    let same = same_command words command other read read_other in
    subst Q same
    (subst P (given_ok (texts_read held stdin 0 names) i f texts given ∙ ap (λ ns. texts_read held stdin 0 ns) are) (written (ap runs_program same ∙ plain)))
