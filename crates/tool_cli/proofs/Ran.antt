-- A module that stands in an input is run: from what is told of the end, and what is printed.
use Rattle.std.proofs.Common.{◌≡◌, ◌⊎◌, inl, inr, ℕ, Bool, true, false, not, List, [], ◌∷◌, cond, Some, Result, Ok, Err, refl, sym, ap, ◌∙◌, subst}
use Rattle.std.specs.Bool.{MatchBool}
use Rattle.ir_base.specs.Files.{Named}
use Rattle.ir_base.specs.Outside.{Added}
use Rattle.command_line.specs.declared.command.Command.{Command}
use Rattle.command_line.specs.declared.command.Command.TheVariants.{Lli}
use Rattle.command_line.specs.Options.{is_dash}
use Rattle.module_arena.specs.Module.{Module}
use Rattle.name_rules.specs.Laws.{ReadsOnce}
use Rattle.run_rules.specs.Played.Played.{Plays, Program, outcome_of}
use Rattle.run_rules.specs.Clauses.{Outside}
use Rattle.run_rules.specs.Same.{RunAlike}
use Rattle.run_rules.specs.Side.{Side}
use Rattle.run_rules.specs.Step.{Outcome}
use Rattle.run_rules.specs.declared.end.End.{End}
use Rattle.run_rules.specs.declared.fault.RunFault.{RunFault}
use Rattle.run_rules.specs.declared.fault.RunFault.TheVariants as faults
use Rattle.tool_output.specs.declared.ends.ended.Ended.{Ended}
use Rattle.tool_output.specs.declared.ends.ended.Ended.TheVariants.{Memory}
use Rattle.tool_cli.specs.Inputs.{inputs_of, listens, read_on, texts_read}
use Rattle.tool_cli.specs.Judged.{IsPartRefused}
use Rattle.tool_cli.specs.Made.{IsPart}
use Rattle.tool_cli.specs.Running.{end_told, end_of, program_of, program_input, without_input, AnswerTold, ComesOut, IsBeforeRun, IsPlayed, IsPlayedOf, IsRunFrom, IsRunTo, IsUnreadOf, RunsModule}
use Rattle.tool_cli.specs.Told.{IsOutcome, IsRun, IsTold}
use Rattle.tool_cli.proofs.Commands.{listens_is}
use Rattle.tool_cli.proofs.Headline.{stands_once, unrefused}
use Rattle.tool_cli.proofs.Outcomes.{same_command}
use Rattle.tool_cli.proofs.Programs.{IsEnd, end_begun, printed_over, refused_before, told_is_end}

-- ---- its end

run_end : ReadsOnce → (name : List ℕ) (bound : ℕ) (words : List (List ℕ)) (stdin bytes : List ℕ) (m : Module) (ended : Ended) → IsPart bytes m → IsRun name bound words stdin bytes ended → ended ≡ end_of name bound words stdin m
run_end once name bound words stdin bytes m ended part (inl refused) = absurd (unrefused name bytes m ended part refused)
run_end once name bound words stdin bytes m ended part (inr run) = run.2 ∙ ap (λ (n : Module). end_of name bound words stdin n) (stands_once once bytes run.0 m run.1.stands part.stands)

-- ---- its output

put_by : (p : Program) (before after : Outside) (ended : Ended) (input : List ℕ) (answer : Result End RunFault) → before.left ≡ Some input → IsEnd ended → AnswerTold answer ended → Plays p answer before after → Added before.taken after.taken (outcome_of p input).output
put_by p before after ended input (Ok end) left is told plays = subst (λ (o : Outcome). Added before.taken after.taken o.output) (sym (printed_over p before after input (Ok end) left plays)) plays.added
put_by p before after ended input (Err faults.ReadFault) left is told plays = absurd (subst (λ (e : Ended). IsEnd e) told is)
put_by p before after ended input (Err faults.WriteFault) left is told plays = absurd (subst (λ (e : Ended). IsEnd e) told is)
put_by p before after ended input (Err faults.Memory) left is told plays = absurd (subst (λ (e : Ended). IsEnd e) told is)

put_from : (p : Program) (dash : Bool) (before after : Outside) (ended : Ended) (stdin : List ℕ) → (dash ≡ false → before.left ≡ Some stdin) → IsEnd ended → MatchBool dash (IsRunTo p (without_input before) (without_input after) ended) (IsRunTo p before after ended) → Added before.taken after.taken (outcome_of p (cond dash [] stdin)).output
put_from p true before after ended stdin left is runs = put_by p (without_input before) (without_input after) ended [] runs.0 refl is runs.1 runs.2
put_from p false before after ended stdin left is runs = put_by p before after ended stdin runs.0 (left refl) is runs.1 runs.2

-- where it is not run the end comes before it has begun
early_by : (name bytes : List ℕ) (ended : Ended) → IsPartRefused name bytes ended ⊎ IsUnreadOf name ended → IsBeforeRun name ended ⊎ (ended ≡ Memory)
early_by name bytes ended (inl refused) = refused_before name bytes ended refused
early_by name bytes ended (inr (inl e)) = inl (subst (λ (x : Ended). IsBeforeRun name x) (sym e) refl)
early_by name bytes ended (inr (inr none)) = inr none

-- it has begun, since this is an end of its own
unbegun : (name : List ℕ) (end : End) (ended : Ended) → ended ≡ end_told end → IsBeforeRun name ended ⊎ (ended ≡ Memory) → ⊥
unbegun name end ended told (inl early) = end_begun name end (subst (λ (e : Ended). IsBeforeRun name e) told early)
unbegun name end ended told (inr none) = subst (λ (e : Ended). IsEnd e) (sym told ∙ none) (told_is_end end)

put_of : ReadsOnce → (name : List ℕ) (bound : ℕ) (words : List (List ℕ)) (stdin bytes : List ℕ) (m : Module) (before after : Outside) (ended : Ended) → (is_dash name ≡ false → before.left ≡ Some stdin) → IsPart bytes m → ended ≡ end_of name bound words stdin m → IsPlayedOf name bound words (Ok bytes) before after ended → Added before.taken after.taken (outcome_of (program_of bound words m) (program_input name stdin)).output
put_of once name bound words stdin bytes m before after ended left part told (inl early) =
    absurd (unbegun name (outcome_of (program_of bound words m) (program_input name stdin)).end ended told (early_by name bytes ended early.0))
put_of once name bound words stdin bytes m before after ended left part told (inr runs) =
    let same : runs.meant ≡ m = stands_once once bytes runs.meant m runs.is_part.stands part.stands in
    let run : IsRunFrom name (program_of bound words m) before after ended = subst (λ (n : Module). IsRunFrom name (program_of bound words n) before after ended) same runs.runs in
    let end : End = (outcome_of (program_of bound words m) (program_input name stdin)).end in
    put_from (program_of bound words m) (is_dash name) before after ended stdin left (subst (λ (e : Ended). IsEnd e) (sym told) (told_is_end end)) run

-- what stands for a module that runs as parts do comes to their end, with their output
comes_out : (name : List ℕ) (bound : ℕ) (words : List (List ℕ)) (stdin : List ℕ) (m : Module) (parts : List Module) (before after : Outside) (ended : Ended) → RunAlike (m ∷ []) parts → ComesOut (outcome_of (program_of bound words m) (program_input name stdin)) before after ended → ComesOut (Side parts words (program_input name stdin) bound) before after ended
comes_out name bound words stdin m parts before after ended alike out = subst (λ (o : Outcome). ComesOut o before after ended) (alike words (program_input name stdin) bound) out

pub ran_module : ReadsOnce → (words : List (List ℕ)) (held : Named) (stdin : List ℕ) (before after : Outside) (ended : Ended) (stopped : Type 0) → (listens words ≡ true → before.left ≡ Some stdin) → IsTold words held stdin ended ⊎ stopped → IsPlayed words held stdin before after ended → RunsModule words held stdin before after ended stopped
ran_module once words held stdin before after ended stopped left (inr gave_up) played = λ name bound arguments bytes is parts like. inr gave_up
ran_module once words held stdin before after ended stopped left (inl (inl usage)) played = λ name bound arguments bytes is parts like. absurd (is.read.fine usage.0 usage.1.0 usage.1.1.is)
ran_module once words held stdin before after ended stopped left (inl (inr told)) played = λ name bound arguments bytes is parts like.
    let m = like.meant in
    let Given : Result (List ℕ) Ended → Type 0 = λ r. IsOutcome (Lli name bound arguments) stdin (read_on r (λ text. Ok [])) ended in
    let Played : Result (List ℕ) Ended → Type 0 = λ r. IsPlayedOf name bound arguments r before after ended in
    let Q : Command → Type 0 = λ c. IsOutcome c stdin (texts_read held stdin 0 (inputs_of c)) ended in
    let run = subst Given is.given (subst Q (same_command words told.0 (Lli name bound arguments) told.1 is.read) told.2) in
    let came = subst Played is.given (played name bound arguments is.read) in
    let end = run_end once name bound arguments stdin bytes m ended like.is_part run in
    let own : is_dash name ≡ false → before.left ≡ Some stdin = λ file. left (listens_is words (Lli name bound arguments) is.read ∙ ap not file) in
    inl (comes_out name bound arguments stdin m parts before after ended like.runs (end, put_of once name bound arguments stdin bytes m before after ended own like.is_part end came))
