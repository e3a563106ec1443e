-- Commands that may run a program: what is told of the end and of standard input, whichever they are.
use Rattle.std.proofs.Common.{◌≡◌, ◌⊎◌, inl, inr, ℕ, zero, suc, ◌<◌, Bool, true, false, not, ◌||◌, List, [], ◌∷◌, get_or, codes, Option, Some, Result, Ok, Err, refl, sym, ap, ◌∙◌, subst, arith, true≢false}
use Rattle.std.specs.Prelude.{IsErrAnd}
use Rattle.std.specs.List.{IsAmong}
use Rattle.ir_base.specs.Files.{Named}
use Rattle.ir_base.specs.Outside.{Rose, Lost}
use Rattle.command_line.specs.declared.command.Command.{Command}
use Rattle.command_line.specs.declared.command.Command.TheVariants.{Lli}
use Rattle.command_line.specs.declared.command.OutputName.{OutputName}
use Rattle.command_line.specs.Commands.{IsReadAs}
use Rattle.command_line.specs.Options.{is_dash}
use Rattle.run_rules.specs.Clauses.{Outside, outside}
use Rattle.ir_run.proofs.Mains.{false_if, true_if}
use Rattle.tool_output.specs.declared.ends.ended.Ended.{Ended}
use Rattle.tool_output.specs.declared.ends.ended.Ended.TheVariants.{CannotRead, CannotWrite, Memory}
use Rattle.tool_cli.specs.Causes.{GaveUp, Stopped, IsUnread, IsStdinOrMemory, RefusesOne}
use Rattle.tool_cli.specs.Inputs.{input_read, inputs_of, has_stdin, hears, hears_behind, listens, read_on, runs, runs_behind, runs_program, texts_read}
use Rattle.tool_cli.specs.Output.{output_of, FailsToWrite, IsUnwritten, IsUnwrittenOrMemory}
use Rattle.tool_cli.specs.Reads.{LeavesInput, LosesInput}
use Rattle.tool_cli.specs.Running.{IsRan, IsRanBy, IsBeforeRun, IsPlayed, IsPlayedOf, IsQuiet, IsUnbegun, IsUnreadOf, without_input}
use Rattle.tool_cli.specs.Told.{IsEndOf, IsOfRun, IsOfWork, IsWork}
use Rattle.tool_cli.specs.World.{failures, found_input}
use Rattle.tool_cli.proofs.Outcomes.{same_command, given_ok}
use Rattle.tool_cli.proofs.Programs.{ran_told, ran_input, ran_lost, ran_of_run, ran_output_fault, ran_unread, ran_unwritten, ran_played, lost_none, quiet_after}

-- ---- the words

pub listens_is : (words : List (List ℕ)) (command : Command) → IsReadAs words command → listens words ≡ hears command
unfolding listens
listens_is words command read = ap hears_behind read.is

pub runs_is : (words : List (List ℕ)) (command : Command) → IsReadAs words command → runs words ≡ runs_program command
unfolding runs
runs_is words command read = ap runs_behind read.is

file_alone : (dash : Bool) → not dash ≡ true → (dash || false) ≡ false
file_alone true e = absurd (true≢false (sym e))
file_alone false e = refl

-- a program that has standard input for its own comes from a file
pub hears_no_stdin : (command : Command) → hears command ≡ true → has_stdin (inputs_of command) ≡ false
hears_no_stdin (Lli input bound arguments) own = file_alone (is_dash input) own
hears_no_stdin command own = absurd (true≢false (sym own))

by_stdin : (stdin hears : Bool) → (hears ≡ true → stdin ≡ false) → stdin ≡ true → hears ≡ false
by_stdin stdin true never e = absurd (true≢false (sym e ∙ never refl))
by_stdin stdin false never e = refl

pub stdin_unheard : (command : Command) → has_stdin (inputs_of command) ≡ true → hears command ≡ false
stdin_unheard command one = by_stdin (has_stdin (inputs_of command)) (hears command) (hears_no_stdin command) one

-- ---- the end

-- what is said of the input that was run is said of the command
pub program_is : (command : Command) (name : List ℕ) (bound : ℕ) (words texts : List (List ℕ)) (bytes : List ℕ) (before after : Outside) (ended : Ended) → command ≡ Lli name bound words → texts ≡ bytes ∷ [] → IsRan name bound words bytes before after ended → IsRanBy command texts before after ended
program_is command name bound words texts bytes before after ended is one ran =
    subst (λ (ts : List (List ℕ)). IsRanBy command ts before after ended) (sym one) (subst (λ (c : Command). IsRanBy c (bytes ∷ []) before after ended) (sym is) ran)

-- and so are its end, the failed writes, and what came before it began
pub lli_of_run : (command : Command) (name : List ℕ) (bound : ℕ) (words texts : List (List ℕ)) (bytes : List ℕ) (before after : Outside) (ended : Ended) → command ≡ Lli name bound words → texts ≡ bytes ∷ [] → IsRan name bound words bytes before after ended → IsOfRun ended (hears command)
lli_of_run command name bound words texts bytes before after ended is one ran = subst (λ (c : Command). IsOfRun ended (hears c)) (sym is) (ran_of_run name bound words bytes before after ended ran)

pub lli_unwritten : (command : Command) (name : List ℕ) (bound : ℕ) (words texts : List (List ℕ)) (bytes : List ℕ) (before after : Outside) (w : Type 0) (ended : Ended) → command ≡ Lli name bound words → texts ≡ bytes ∷ [] → IsRan name bound words bytes before after ended → (told : List ℕ) → ended ≡ CannotWrite told → IsUnwritten (output_of command) (Rose before.write_faults after.write_faults) w told
lli_unwritten command name bound words texts bytes before after w ended is one ran = λ told e.
    subst (λ (c : Command). IsUnwritten (output_of c) (Rose before.write_faults after.write_faults) w told) (sym is) (ran_unwritten name bound words bytes before after ended ran told e)

pub lli_output_fault : (command : Command) (name : List ℕ) (bound : ℕ) (words texts : List (List ℕ)) (bytes : List ℕ) (before after : Outside) (ended : Ended) → command ≡ Lli name bound words → texts ≡ bytes ∷ [] → IsRan name bound words bytes before after ended → before.write_faults < after.write_faults → IsUnwrittenOrMemory ended
lli_output_fault command name bound words texts bytes before after ended is one ran = ran_output_fault name bound words bytes before after ended ran

pub lli_unread : {A : Type 0} (command : Command) (name : List ℕ) (bound : ℕ) (words : List (List ℕ)) (before now : A) → command ≡ Lli name bound words → (is_dash name ≡ true → now ≡ before) → hears command ≡ false → now ≡ before
lli_unread command name bound words before now is unread quiet = unread (true_if (is_dash name) (sym (ap hears is) ∙ quiet))

pub lli_not_begun : (P : Type 0) (command : Command) (name : List ℕ) (bound : ℕ) (words : List (List ℕ)) (ended : Ended) → command ≡ Lli name bound words → (IsBeforeRun name ended → P) → IsUnbegun command ended → P
lli_not_begun P command name bound words ended is early unbegun = early (subst (λ (c : Command). IsUnbegun c ended) is unbegun)

pub work_of_run : (ended : Ended) (hears : Bool) → IsOfWork ended → IsOfRun ended hears
work_of_run (CannotRead name) hears of = absurd of
work_of_run ended hears of = of

stops : (done : Type 0) (output : Option OutputName) (i f o w : Type 0) (ended : Ended) → done ⊎ FailsToWrite output o w ended → done ⊎ Stopped output (failures i f o w) ended
stops done output i f o w ended (inl work) = inl work
stops done output i f o w ended (inr fails) = inr (inr fails)

pub end_over : (command : Command) (texts : List (List ℕ)) (stdin : List ℕ) (before after : Outside) (w : Type 0) (ended : Ended) → (hears command ≡ true → before.left ≡ Some stdin) → (runs_program command ≡ false → IsWork command texts ended ⊎ FailsToWrite (output_of command) (Rose before.write_faults after.write_faults) w ended) → IsRanBy command texts before after ended → IsEndOf command stdin texts ended ⊎ Stopped (output_of command) (failures (Rose before.read_faults after.read_faults) ⊥ (Rose before.write_faults after.write_faults) w) ended
end_over (Lli name bound words) [] stdin before after w ended left work ran = absurd ran
end_over (Lli name bound words) (bytes ∷ []) stdin before after w ended left work ran = ran_told name bound words bytes stdin before after w ended (λ file. left (ap not file)) ran
end_over (Lli name bound words) (bytes ∷ other ∷ texts) stdin before after w ended left work ran = absurd ran
end_over command texts stdin before after w ended left work ran =
    stops (IsWork command texts ended) (output_of command) (Rose before.read_faults after.read_faults) ⊥ (Rose before.write_faults after.write_faults) w ended (work refl)

-- ---- the causes of its end

pub unread_cause : (command : Command) (texts : List (List ℕ)) (before after : Outside) (ended : Ended) → IsOfRun ended (hears command) → IsRanBy command texts before after ended → (name : List ℕ) → ended ≡ CannotRead name → (hears command ≡ true) × ((name ≡ codes "-") × Rose before.read_faults after.read_faults)
unread_cause command texts before after ended of ran = λ name e.
    let told : IsOfRun (CannotRead name) (hears command) = subst (λ (x : Ended). IsOfRun x (hears command)) e of in
    (told.0, (told.1, rose command texts told.0 ran name e))
  where
    rose : (command : Command) (texts : List (List ℕ)) → hears command ≡ true → IsRanBy command texts before after ended → (name : List ℕ) → ended ≡ CannotRead name → Rose before.read_faults after.read_faults
    rose (Lli input bound words) [] own ran name e = absurd ran
    rose (Lli input bound words) (bytes ∷ []) own ran name e = ran_unread input bound words bytes before after ended (false_if (is_dash input) own) ran name e
    rose (Lli input bound words) (bytes ∷ other ∷ texts) own ran name e = absurd ran
    rose command texts own ran name e = absurd (true≢false (sym own))

-- the same of an input whose name it is
pub unread_told : (contents : Option Named) (i f : Type 0) (name : List ℕ) → name ≡ codes "-" → i → IsUnread contents i f name
unread_told contents i f name is rose = rw is rose

same_less : (a b : ℕ) → b ≡ a → a < b → ⊥
same_less a b e h = omega (arith, e, h)

-- what is read where the program has standard input for its own, and which faults there were
abbrev pub Heard : Outside → Outside → Ended → Type 0
Heard before after ended =
    ((heard : List ℕ) × Lost before.left after.left heard)
    × ((after.read_faults ≡ before.read_faults) ⊎ ((ended ≡ CannotRead (codes "-")) × Rose before.read_faults after.read_faults))

pub heard : (command : Command) (texts : List (List ℕ)) (before after : Outside) (ended : Ended) → IsRanBy command texts before after ended → hears command ≡ true → Heard before after ended
heard (Lli input bound words) [] before after ended ran own = absurd ran
heard (Lli input bound words) (bytes ∷ []) before after ended ran own =
    let file = false_if (is_dash input) own in
    (ran_lost input bound words bytes before after ended file ran, ran_input input bound words bytes before after ended file ran)
heard (Lli input bound words) (bytes ∷ other ∷ texts) before after ended ran own = absurd ran
heard command texts before after ended ran own = absurd (true≢false (sym own))

pub input_cause : (hears : Bool) (before after : Outside) (ended : Ended) → (hears ≡ false → after.read_faults ≡ before.read_faults) → (hears ≡ true → Heard before after ended) → before.read_faults < after.read_faults → IsStdinOrMemory ended
input_cause true before after ended quiet own rose = by (own refl).1
  where
    by : (after.read_faults ≡ before.read_faults) ⊎ ((ended ≡ CannotRead (codes "-")) × Rose before.read_faults after.read_faults) → IsStdinOrMemory ended
    by (inl same) = absurd (same_less before.read_faults after.read_faults same rose)
    by (inr told) = subst (λ (e : Ended). IsStdinOrMemory e) (sym told.0) refl
input_cause false before after ended quiet own rose = absurd (same_less before.read_faults after.read_faults (quiet refl) rose)

-- ---- what standard input loses

pub loses_none : (hears : Bool) (left : Option (List ℕ)) (count : ℕ) → LosesInput hears left left count count
loses_none true left count = record { front = []; lost = lost_none left; few = λ e. omega arith; later = inl refl }
loses_none false left count = record { front = []; lost = lost_none left; few = λ e. omega arith; later = omega arith }

pub loses_read : (hears : Bool) (left_before left_now : Option (List ℕ)) (before now : ℕ) → LeavesInput left_before left_now before now → (hears ≡ true → now ≡ before) → LosesInput hears left_before left_now before now
loses_read true left_before left_now before now leaves same = record { front = leaves.lost.front; lost = leaves.lost.lost; few = λ e. leaves.lost.few; later = inl (same refl) }
loses_read false left_before left_now before now leaves same = record { front = leaves.lost.front; lost = leaves.lost.lost; few = λ e. leaves.lost.few; later = leaves.later }

rose_or_not : (ended : Ended) (before now : ℕ) → (now ≡ before) ⊎ ((ended ≡ CannotRead (codes "-")) × Rose before now) → (now ≡ before) ⊎ Rose before now
rose_or_not ended before now (inl same) = inl same
rose_or_not ended before now (inr told) = inr told.1

-- inputs were read, and then a program ran
pub loses_after : (hears : Bool) (left_before : Option (List ℕ)) (count : ℕ) (mid after : Outside) (ended : Ended) → LeavesInput left_before mid.left count mid.read_faults → mid.read_faults ≡ count → (hears ≡ true → mid.left ≡ left_before) → (hears ≡ false → (after.left ≡ mid.left) × (after.read_faults ≡ mid.read_faults)) → (hears ≡ true → Heard mid after ended) → LosesInput hears left_before after.left count after.read_faults
loses_after true left_before count mid after ended leaves fine unread quiet own = record {
  front = (own refl).0.0;
  lost = sym (unread refl) ∙ (own refl).0.1;
  few = λ e. absurd (true≢false e);
  later = subst (λ (n : ℕ). (after.read_faults ≡ n) ⊎ Rose n after.read_faults) fine (rose_or_not ended mid.read_faults after.read_faults (own refl).1);
}
loses_after false left_before count mid after ended leaves fine unread quiet own = record {
  front = leaves.lost.front;
  lost = subst (λ (left : Option (List ℕ)). Lost left_before left leaves.lost.front) (sym (quiet refl).0) leaves.lost.lost;
  few = λ e. leaves.lost.few;
  later = (let same = (quiet refl).1 in let later = leaves.later in omega (arith, same, later));
}

-- ---- what is printed

err_same : (a b : Ended) (given : Result (List (List ℕ)) Ended) → Err a ≡ given → given ≡ Err b → a ≡ b
err_same a b given e f = cc

only_one : (name other : List ℕ) → IsAmong (name ∷ []) other → other ≡ name
only_one name other among = by among.0 among.1.0 among.1.1
  where
    by : (i : ℕ) → i < 1 → other ≡ get_or (name ∷ []) i other → other ≡ name
    by zero h e = e
    by (suc i) h e = absurd (omega (arith, h))

-- nothing happened
pub nothing_played : (name : List ℕ) (bound : ℕ) (arguments : List (List ℕ)) (given : Result (List ℕ) Ended) (now : Outside) → IsPlayedOf name bound arguments given now now Memory
nothing_played name bound arguments (Ok bytes) now = inl (inr (inr refl), quiet_after name now now now (λ file. refl) refl refl)
nothing_played name bound arguments (Err refusal) now = (inr (inr refl), quiet_after name now now now (λ file. refl) refl refl)

-- one input was refused, for what is outside of it
unread_of : (contents : Option Named) (left : Option (List ℕ)) (i f : Type 0) (name : List ℕ) (ended : Ended) → GaveUp i f ended → RefusesOne (found_input contents left i f) (name ∷ []) ended → IsUnreadOf name ended
unread_of contents left i f name (CannotRead other) gave_up why = inl (ap CannotRead (only_one name other why.0))
unread_of contents left i f name Memory gave_up why = inr refl
unread_of contents left i f name ended gave_up why = absurd gave_up

-- or as what it gives
refused_played : (contents : Option Named) (left : Option (List ℕ)) (i f : Type 0) (name : List ℕ) (bound : ℕ) (arguments : List (List ℕ)) (given : Result (List ℕ) Ended) (before after : Outside) (ended : Ended) → (Err ended ≡ read_on given (λ text. Ok [])) ⊎ GaveUp i f ended → RefusesOne (found_input contents left i f) (name ∷ []) ended → IsQuiet name before after → IsPlayedOf name bound arguments given before after ended
refused_played contents left i f name bound arguments (Ok bytes) before after ended (inl e) why quiet = absurd (let h : Err ended ≡ Ok (bytes ∷ []) = e in cc)
refused_played contents left i f name bound arguments (Ok bytes) before after ended (inr gave_up) why quiet = inl (inr (unread_of contents left i f name ended gave_up why), quiet)
refused_played contents left i f name bound arguments (Err refusal) before after ended (inl e) why quiet = (inl (err_same ended refusal (Err refusal) e refl), quiet)
refused_played contents left i f name bound arguments (Err refusal) before after ended (inr gave_up) why quiet = (inr (unread_of contents left i f name ended gave_up why), quiet)

-- an input was refused before
pub played_err : (words : List (List ℕ)) (command : Command) (names : List (List ℕ)) (contents : Option Named) (left : Option (List ℕ)) (i f : Type 0) (held : Named) (stdin : List ℕ) (before after : Outside) (ended : Ended) → IsReadAs words command → names ≡ inputs_of command → (Err ended ≡ texts_read held stdin 0 names) ⊎ GaveUp i f ended → RefusesOne (found_input contents left i f) names ended → (has_stdin names ≡ false → after ≡ before) → without_input after ≡ without_input before → IsPlayed words held stdin before after ended
played_err words command names contents left i f held stdin before after ended read are given why unread same_output = λ name bound arguments is.
    let one : names ≡ name ∷ [] = are ∙ ap inputs_of (same_command words command (Lli name bound arguments) read is) in
    let Given : List (List ℕ) → Type 0 = λ ns. (Err ended ≡ texts_read held stdin 0 ns) ⊎ GaveUp i f ended in
    let Why : List (List ℕ) → Type 0 = λ ns. RefusesOne (found_input contents left i f) ns ended in
    let file : is_dash name ≡ false → after ≡ before = λ e. unread (ap has_stdin one ∙ ap (λ dash. dash || false) e) in
    refused_played contents left i f name bound arguments (input_read held stdin 0 name) before after ended (subst Given one given) (subst Why one why) (quiet_after name after before after file same_output refl)

-- the outside with the same input
pub same_outside : (left left' : Option (List ℕ)) (reads reads' : ℕ) (taken : Option (List ℕ)) (writes : ℕ) → left' ≡ left → reads' ≡ reads → outside left' reads' taken writes ≡ outside left reads taken writes
same_outside left left' reads reads' taken writes e f = ap (λ (l : Option (List ℕ)). outside l reads' taken writes) e ∙ ap (λ (n : ℕ). outside left n taken writes) f

ok_same : (a b : List (List ℕ)) (given : Result (List (List ℕ)) Ended) → Ok a ≡ given → given ≡ Ok b → a ≡ b
ok_same a b given e f = cc

-- what one input gave
one_given : (given : Result (List ℕ) Ended) (texts : List (List ℕ)) → Ok texts ≡ read_on given (λ text. Ok []) → (bytes : List ℕ) × (given ≡ Ok bytes) × (texts ≡ bytes ∷ [])
one_given (Ok bytes) texts e = (bytes, refl, ok_same texts (bytes ∷ []) (Ok (bytes ∷ [])) e refl)
one_given (Err refusal) texts e = absurd (let h : Ok texts ≡ Err refusal = e in cc)

pub played_ok : (words : List (List ℕ)) (command : Command) (names texts : List (List ℕ)) (held : Named) (stdin : List ℕ) (mid before after : Outside) (ended : Ended) (i f : Type 0) → IsReadAs words command → names ≡ inputs_of command → (Ok texts ≡ texts_read held stdin 0 names) ⊎ IsErrAnd {T = List (List ℕ)} (Ok texts) (GaveUp i f) → (hears command ≡ true → mid ≡ before) → without_input mid ≡ without_input before → IsRanBy command texts mid after ended → IsPlayed words held stdin before after ended
played_ok words command names texts held stdin mid before after ended i f read are given own same_output ran = λ name bound arguments is.
    let same : command ≡ Lli name bound arguments = same_command words command (Lli name bound arguments) read is in
    let one = one_given (input_read held stdin 0 name) texts (given_ok (texts_read held stdin 0 names) i f texts given ∙ ap (λ ns. texts_read held stdin 0 ns) (are ∙ ap inputs_of same)) in
    let Own : Command → Type 0 = λ c. hears c ≡ true → mid ≡ before in
    let Ran : Command → Type 0 = λ c. IsRanBy c (one.0 ∷ []) mid after ended in
    let Played : Result (List ℕ) Ended → Type 0 = λ r. IsPlayedOf name bound arguments r before after ended in
    subst Played (sym one.1)
    (ran_played name bound arguments one.0 mid before after ended (λ file. subst Own same own (ap not file)) same_output
    (subst Ran same (subst (λ (ts : List (List ℕ)). IsRanBy command ts mid after ended) one.2 ran)))
