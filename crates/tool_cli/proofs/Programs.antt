-- A program that is run: its end, told, and what may have come before it began.
use Rattle.std.proofs.Common.{◌≡◌, ◌⊎◌, inl, inr, ℕ, ◌<◌, Bool, true, false, not, List, [], codes, cond, Option, Some, None, Result, Ok, Err, refl, sym, ap, ◌∙◌, subst, arith, append-nil, true≢false}
use Rattle.std.specs.Bool.{MatchBool}
use Rattle.ir_base.specs.Outside.{Rose, Lost}
use Rattle.command_line.specs.Options.{is_dash}
use Rattle.command_line.specs.declared.command.OutputName.TheVariants.{Standard}
use Rattle.ir_syntax.specs.declared.read.SyntaxFault.{SyntaxFault}
use Rattle.ir_syntax.specs.declared.read.SyntaxFault.TheVariants as syntax_faults
use Rattle.module_arena.specs.Module.{Module}
use Rattle.name_rules.specs.declared.fault.ResolveFault.{ResolveFault}
use Rattle.name_rules.specs.declared.fault.ResolveFault.TheVariants as breaks
use Rattle.run_rules.specs.Played.Played.{HasPrinted, Plays, Program, outcome_of}
use Rattle.run_rules.proofs.OnPlayed.Whole.{left_behind}
use Rattle.run_rules.specs.Clauses.{Outside}
use Rattle.run_rules.specs.Step.{Outcome}
use Rattle.run_rules.specs.declared.end.End.{End}
use Rattle.run_rules.specs.declared.end.End.TheVariants as stops
use Rattle.run_rules.specs.declared.fault.RunFault.{RunFault}
use Rattle.run_rules.specs.declared.fault.RunFault.TheVariants as faults
use Rattle.record_read.specs.declared.fault.BitcodeFault.{BitcodeFault}
use Rattle.record_read.specs.declared.fault.BitcodeFault.TheVariants as bitcode_faults
use Rattle.entry_verify.specs.declared.types.fault.VerifyFault.{VerifyFault}
use Rattle.entry_verify.specs.declared.types.fault.VerifyFault.TheVariants as verdicts
use Rattle.tool_output.specs.declared.ends.ended.Ended.{Ended}
use Rattle.tool_output.specs.declared.ends.ended.Ended.TheVariants.{CannotRead, CannotWrite, Memory}
use Rattle.tool_cli.specs.Causes.{Stopped}
use Rattle.tool_cli.specs.Judged.{is_bitcode, bitcode_told, refusal_told, break_told, verdict_told, IsBitcodeRefused, IsPartRefused, IsTextRefused}
use Rattle.tool_cli.specs.Made.{IsPart}
use Rattle.tool_cli.specs.Output.{IsUnwrittenOrMemory}
use Rattle.tool_cli.specs.Running.{end_told, program_of, end_of, AnswerTold, IsRunTo, IsRunFrom, IsRan, IsBeforeRun, IsPlayedOf, IsQuiet, without_input}
use Rattle.tool_cli.specs.Told.{IsRun, IsOfRun}
use Rattle.tool_cli.specs.World.{failures}

-- ---- the answer of a run

-- an end for whose name memory was wanted is told as want of memory
wanted : (p : Program) (before after : Outside) (end : End) → Plays p (Ok end) before after → Plays p (Err faults.Memory) before after
wanted p before after end plays = record {
  heard = plays.heard;
  put = plays.put;
  lost = plays.lost;
  added = plays.added;
  faulted = plays.faulted;
  over = plays.over;
  at_end = plays.at_end;
  printed = λ rest ends. ([], ap (λ (o : Outcome). o.output) (plays.printed rest ends) ∙ sym (append-nil plays.put));
  early = plays.early;
}

-- what was printed over the input that is told
pub printed_over : (p : Program) (before after : Outside) (input : List ℕ) (answer : Result End RunFault) → before.left ≡ Some input → (plays : Plays p answer before after) → HasPrinted p input plays.heard plays.put answer
printed_over p before after input answer left plays =
    let lost : Lost (Some input) after.left plays.heard = subst (λ (o : Option (List ℕ)). Lost o after.left plays.heard) left plays.lost in
    let behind = left_behind plays.over after.left plays.heard input lost plays.at_end in
    subst (λ (bytes : List ℕ). HasPrinted p bytes plays.heard plays.put answer) (sym behind.1) (plays.printed behind.0 behind.2)

pub ended_run : (p : Program) (before after : Outside) (end : End) (ended : Ended) → Plays p (Ok end) before after → (ended ≡ end_told end) ⊎ (ended ≡ Memory) → IsRunTo p before after ended
ended_run p before after end ended plays (inl told) = (Ok end, told, plays)
ended_run p before after end ended plays (inr none) = (Err faults.Memory, none, wanted p before after end plays)

-- ---- where it has the input for its own, and where it has none

never_rose : Rose 0 0 → ⊥
never_rose (inl h) = omega (arith, h)
never_rose (inr h) = omega (arith, h)

run_by : (p : Program) (dash : Bool) (before after : Outside) (ended : Ended) → MatchBool dash (IsRunTo p (without_input before) (without_input after) ended) (IsRunTo p before after ended) → dash ≡ false → IsRunTo p before after ended
run_by p true before after ended runs e = absurd (true≢false e)
run_by p false before after ended runs e = runs

pub run_from_nothing : (name : List ℕ) (p : Program) (before after : Outside) (ended : Ended) → is_dash name ≡ true → IsRunTo p (without_input before) (without_input after) ended → IsRunFrom name p before after ended
run_from_nothing name p before after ended e runs = subst (λ (dash : Bool). MatchBool dash (IsRunTo p (without_input before) (without_input after) ended) (IsRunTo p before after ended)) (sym e) runs

pub run_from_input : (name : List ℕ) (p : Program) (before after : Outside) (ended : Ended) → is_dash name ≡ false → IsRunTo p before after ended → IsRunFrom name p before after ended
run_from_input name p before after ended e runs = subst (λ (dash : Bool). MatchBool dash (IsRunTo p (without_input before) (without_input after) ended) (IsRunTo p before after ended)) (sym e) runs

-- ---- its end, where the input is told

stopped_wider : (i i' f f' o w : Type 0) (ended : Ended) → (i → i') → (f → f') → Stopped (Some Standard) (failures i f o w) ended → Stopped (Some Standard) (failures i' f' o w) ended
stopped_wider i i' f f' o w (CannotRead name) g h (inl why) = inl (wider (is_dash name) why)
  where
    wider : (dash : Bool) → MatchBool dash i f → MatchBool dash i' f'
    wider true why = g why
    wider false why = h why
stopped_wider i i' f f' o w Memory g h (inl why) = inl tt
stopped_wider i i' f f' o w ended g h (inl why) = absurd why
stopped_wider i i' f f' o w ended g h (inr fails) = inr fails

end_by : (p : Program) (before after : Outside) (w : Type 0) (ended : Ended) (input : List ℕ) (answer : Result End RunFault) → before.left ≡ Some input → AnswerTold answer ended → Plays p answer before after → (ended ≡ end_told (outcome_of p input).end) ⊎ Stopped (Some Standard) (failures (Rose before.read_faults after.read_faults) ⊥ (Rose before.write_faults after.write_faults) w) ended
end_by p before after w ended input (Ok end) left told plays = inl (told ∙ ap (λ (o : Outcome). end_told o.end) (sym (printed_over p before after input (Ok end) left plays)))
end_by p before after w ended input (Err faults.ReadFault) left told plays = inr (inl (rw told plays.faulted.0))
end_by p before after w ended input (Err faults.WriteFault) left told plays = inr (inr (rw told (refl, plays.faulted.0)))
end_by p before after w ended input (Err faults.Memory) left told plays = inr (inr (rw told tt))

end_from : (p : Program) (dash : Bool) (before after : Outside) (w : Type 0) (ended : Ended) (stdin : List ℕ) → (dash ≡ false → before.left ≡ Some stdin) → MatchBool dash (IsRunTo p (without_input before) (without_input after) ended) (IsRunTo p before after ended) → (ended ≡ end_told (outcome_of p (cond dash [] stdin)).end) ⊎ Stopped (Some Standard) (failures (Rose before.read_faults after.read_faults) ⊥ (Rose before.write_faults after.write_faults) w) ended
end_from p true before after w ended stdin left runs = with_faults (end_by p (without_input before) (without_input after) w ended [] runs.0 refl runs.1 runs.2)
  where
    with_faults : (ended ≡ end_told (outcome_of p []).end) ⊎ Stopped (Some Standard) (failures (Rose 0 0) ⊥ (Rose before.write_faults after.write_faults) w) ended → (ended ≡ end_told (outcome_of p []).end) ⊎ Stopped (Some Standard) (failures (Rose before.read_faults after.read_faults) ⊥ (Rose before.write_faults after.write_faults) w) ended
    with_faults (inl told) = inl told
    with_faults (inr stopped) = inr (stopped_wider (Rose 0 0) (Rose before.read_faults after.read_faults) ⊥ ⊥ (Rose before.write_faults after.write_faults) w ended (λ rose. absurd (never_rose rose)) (λ x. x) stopped)
end_from p false before after w ended stdin left runs = end_by p before after w ended stdin runs.0 (left refl) runs.1 runs.2

-- ---- refused inputs

-- what holds of each end that tells a refusal of a text
text_is : (P : Ended → Type 0) (name text : List ℕ) (ended : Ended) → ((fault : SyntaxFault) → P (refusal_told name fault)) → ((fault : ResolveFault) → P (break_told name fault)) → ((fault : VerifyFault) → P (verdict_told name fault)) → IsTextRefused name text ended → P ended
text_is P name text ended f g h (inl none) = subst P (sym none.told) (f none.fault)
text_is P name text ended f g h (inr (inl none)) = subst P (sym none.told) (g none.fault)
text_is P name text ended f g h (inr (inr bad)) = subst P (sym bad.told) (h bad.fault)

-- of bitcode
bitcode_is : (P : Ended → Type 0) (name bytes : List ℕ) (ended : Ended) → ((fault : BitcodeFault) → P (bitcode_told name fault)) → ((fault : VerifyFault) → P (verdict_told name fault)) → IsBitcodeRefused name bytes ended → P ended
bitcode_is P name bytes ended f h (inl none) = subst P (sym none.told) (f none.fault)
bitcode_is P name bytes ended f h (inr bad) = subst P (sym bad.told) (h bad.fault)

-- of either
refused_by : (P : Ended → Type 0) (bitcode : Bool) (name bytes : List ℕ) (ended : Ended) → (IsBitcodeRefused name bytes ended → P ended) → (IsTextRefused name bytes ended → P ended) → MatchBool bitcode (IsBitcodeRefused name bytes ended) (IsTextRefused name bytes ended) → P ended
refused_by P true name bytes ended b t refused = b refused
refused_by P false name bytes ended b t refused = t refused

refused_is : (P : Ended → Type 0) (name bytes : List ℕ) (ended : Ended) → ((fault : SyntaxFault) → P (refusal_told name fault)) → ((fault : ResolveFault) → P (break_told name fault)) → ((fault : VerifyFault) → P (verdict_told name fault)) → ((fault : BitcodeFault) → P (bitcode_told name fault)) → IsPartRefused name bytes ended → P ended
refused_is P name bytes ended f g h k refused =
    refused_by P (is_bitcode bytes) name bytes ended (λ bad. bitcode_is P name bytes ended k h bad) (λ bad. text_is P name bytes ended f g h bad) refused

refusal_before : (name : List ℕ) (fault : SyntaxFault) → IsBeforeRun name (refusal_told name fault) ⊎ (refusal_told name fault ≡ Memory)
refusal_before name syntax_faults.Memory = inr refl
refusal_before name fault = inl tt

break_before : (name : List ℕ) (fault : ResolveFault) → IsBeforeRun name (break_told name fault) ⊎ (break_told name fault ≡ Memory)
break_before name breaks.Memory = inr refl
break_before name fault = inl tt

verdict_before : (name : List ℕ) (fault : VerifyFault) → IsBeforeRun name (verdict_told name fault) ⊎ (verdict_told name fault ≡ Memory)
verdict_before name verdicts.Memory = inr refl
verdict_before name fault = inl tt

bitcode_before : (name : List ℕ) (fault : BitcodeFault) → IsBeforeRun name (bitcode_told name fault) ⊎ (bitcode_told name fault ≡ Memory)
bitcode_before name bitcode_faults.Memory = inr refl
bitcode_before name fault = inl tt

pub refused_before : (name bytes : List ℕ) (ended : Ended) → IsPartRefused name bytes ended → IsBeforeRun name ended ⊎ (ended ≡ Memory)
refused_before name bytes ended refused =
    let P : Ended → Type 0 = λ e. IsBeforeRun name e ⊎ (e ≡ Memory) in
    refused_is P name bytes ended (refusal_before name) (break_before name) (verdict_before name) (bitcode_before name) refused

refusal_of : (name : List ℕ) (hears : Bool) (fault : SyntaxFault) → IsOfRun (refusal_told name fault) hears
refusal_of name hears syntax_faults.Memory = tt
refusal_of name hears fault = tt

break_of : (name : List ℕ) (hears : Bool) (fault : ResolveFault) → IsOfRun (break_told name fault) hears
break_of name hears breaks.Memory = tt
break_of name hears fault = tt

verdict_of : (name : List ℕ) (hears : Bool) (fault : VerifyFault) → IsOfRun (verdict_told name fault) hears
verdict_of name hears verdicts.Memory = tt
verdict_of name hears fault = tt

bitcode_of : (name : List ℕ) (hears : Bool) (fault : BitcodeFault) → IsOfRun (bitcode_told name fault) hears
bitcode_of name hears bitcode_faults.Memory = tt
bitcode_of name hears fault = tt

refused_of : (name bytes : List ℕ) (hears : Bool) (ended : Ended) → IsPartRefused name bytes ended → IsOfRun ended hears
refused_of name bytes hears ended refused =
    let P : Ended → Type 0 = λ e. IsOfRun e hears in
    refused_is P name bytes ended (refusal_of name hears) (break_of name hears) (verdict_of name hears) (bitcode_of name hears) refused

-- ---- what running an input comes to

pub refused_ran : (name : List ℕ) (bound : ℕ) (words : List (List ℕ)) (bytes : List ℕ) (now : Outside) (ended : Ended) → IsPartRefused name bytes ended ⊎ (ended ≡ Memory) → IsRan name bound words bytes now now ended
refused_ran name bound words bytes now ended refused = inl (refused, refl)

pub program_ran : (name : List ℕ) (bound : ℕ) (words : List (List ℕ)) (bytes : List ℕ) (m : Module) (before after : Outside) (ended : Ended) → IsPart bytes m → IsRunFrom name (program_of bound words m) before after ended → IsRan name bound words bytes before after ended
program_ran name bound words bytes m before after ended is runs = inr (record { meant = m; is_part = is; runs = runs })

-- where it was begun, its end is none that comes before
pub end_begun : (name : List ℕ) (end : End) → IsBeforeRun name (end_told end) → ⊥
end_begun name (stops.Exit status) early = early
end_begun name (stops.Undefined kind) early = early
end_begun name stops.StepsUsed early = early
end_begun name stops.StackLimit early = early
end_begun name stops.MemoryLimit early = early
end_begun name (stops.Unresolved symbol) early = early
end_begun name stops.NoMain early = early

begun_by : (name : List ℕ) (p : Program) (before after : Outside) (ended : Ended) (answer : Result End RunFault) → (Rose before.read_faults after.read_faults → codes "-" ≡ name → ⊥) → AnswerTold answer ended → Plays p answer before after → IsBeforeRun name ended → ⊥
begun_by name p before after ended (Ok end) other told plays early = end_begun name end (subst (λ (e : Ended). IsBeforeRun name e) told early)
begun_by name p before after ended (Err faults.ReadFault) other told plays early = other plays.faulted.0 (subst (λ (e : Ended). IsBeforeRun name e) told early)
begun_by name p before after ended (Err faults.WriteFault) other told plays early = subst (λ (e : Ended). IsBeforeRun name e) told early
begun_by name p before after ended (Err faults.Memory) other told plays early = subst (λ (e : Ended). IsBeforeRun name e) told early

pub begun_from_input : (name : List ℕ) (p : Program) (before after : Outside) (ended : Ended) → is_dash name ≡ false → IsRunTo p before after ended → IsBeforeRun name ended → ⊥
begun_from_input name p before after ended file runs = begun_by name p before after ended runs.0 (λ rose same. true≢false (ap is_dash same ∙ file)) runs.1 runs.2

pub begun_from_nothing : (name : List ℕ) (p : Program) (before after : Outside) (ended : Ended) → IsRunTo p (without_input before) (without_input after) ended → IsBeforeRun name ended → ⊥
begun_from_nothing name p before after ended runs = begun_by name p (without_input before) (without_input after) ended runs.0 (λ rose same. never_rose rose) runs.1 runs.2

-- ---- what is told of it

pub ran_told : (name : List ℕ) (bound : ℕ) (words : List (List ℕ)) (bytes stdin : List ℕ) (before after : Outside) (w : Type 0) (ended : Ended) → (is_dash name ≡ false → before.left ≡ Some stdin) → IsRan name bound words bytes before after ended → IsRun name bound words stdin bytes ended ⊎ Stopped (Some Standard) (failures (Rose before.read_faults after.read_faults) ⊥ (Rose before.write_faults after.write_faults) w) ended
ran_told name bound words bytes stdin before after w ended left (inl (inl refused, same)) = inl (inl refused)
ran_told name bound words bytes stdin before after w ended left (inl (inr none, same)) = inr (inr (rw none tt))
ran_told name bound words bytes stdin before after w ended left (inr runs) = with_end (end_from (program_of bound words runs.meant) (is_dash name) before after w ended stdin left runs.runs)
  where
    with_end : (ended ≡ end_of name bound words stdin runs.meant) ⊎ Stopped (Some Standard) (failures (Rose before.read_faults after.read_faults) ⊥ (Rose before.write_faults after.write_faults) w) ended → IsRun name bound words stdin bytes ended ⊎ Stopped (Some Standard) (failures (Rose before.read_faults after.read_faults) ⊥ (Rose before.write_faults after.write_faults) w) ended
    with_end (inl told) = inl (inr (runs.meant, runs.is_part, told))
    with_end (inr stopped) = inr stopped

-- an end that a run may have
end_is_of : (hears : Bool) (end : End) → IsOfRun (end_told end) hears
end_is_of hears (stops.Exit status) = tt
end_is_of hears (stops.Undefined kind) = tt
end_is_of hears stops.StepsUsed = tt
end_is_of hears stops.StackLimit = tt
end_is_of hears stops.MemoryLimit = tt
end_is_of hears (stops.Unresolved symbol) = tt
end_is_of hears stops.NoMain = tt

of_by : (hears : Bool) (p : Program) (before after : Outside) (ended : Ended) (answer : Result End RunFault) → (Rose before.read_faults after.read_faults → hears ≡ true) → AnswerTold answer ended → Plays p answer before after → IsOfRun ended hears
of_by hears p before after ended (Ok end) own told plays = subst (λ (e : Ended). IsOfRun e hears) (sym told) (end_is_of hears end)
of_by hears p before after ended (Err faults.ReadFault) own told plays = subst (λ (e : Ended). IsOfRun e hears) (sym told) (own plays.faulted.0, refl)
of_by hears p before after ended (Err faults.WriteFault) own told plays = subst (λ (e : Ended). IsOfRun e hears) (sym told) tt
of_by hears p before after ended (Err faults.Memory) own told plays = subst (λ (e : Ended). IsOfRun e hears) (sym told) tt

of_from : (p : Program) (dash : Bool) (before after : Outside) (ended : Ended) → MatchBool dash (IsRunTo p (without_input before) (without_input after) ended) (IsRunTo p before after ended) → IsOfRun ended (not dash)
of_from p true before after ended runs = of_by false p (without_input before) (without_input after) ended runs.0 (λ rose. absurd (never_rose rose)) runs.1 runs.2
of_from p false before after ended runs = of_by true p before after ended runs.0 (λ rose. refl) runs.1 runs.2

pub ran_of_run : (name : List ℕ) (bound : ℕ) (words : List (List ℕ)) (bytes : List ℕ) (before after : Outside) (ended : Ended) → IsRan name bound words bytes before after ended → IsOfRun ended (not (is_dash name))
ran_of_run name bound words bytes before after ended (inl (inl refused, same)) = refused_of name bytes (not (is_dash name)) ended refused
ran_of_run name bound words bytes before after ended (inl (inr none, same)) = subst (λ (e : Ended). IsOfRun e (not (is_dash name))) (sym none) tt
ran_of_run name bound words bytes before after ended (inr runs) = of_from (program_of bound words runs.meant) (is_dash name) before after ended runs.runs

-- ---- ends of programs

-- neither a fault nor want of memory
abbrev pub IsEnd : Ended → Type 0
IsEnd (CannotRead name) = ⊥
IsEnd (CannotWrite name) = ⊥
IsEnd Memory = ⊥
IsEnd ended = Unit {0}

pub told_is_end : (end : End) → IsEnd (end_told end)
told_is_end (stops.Exit status) = tt
told_is_end (stops.Undefined kind) = tt
told_is_end stops.StepsUsed = tt
told_is_end stops.StackLimit = tt
told_is_end stops.MemoryLimit = tt
told_is_end (stops.Unresolved symbol) = tt
told_is_end stops.NoMain = tt

-- ---- its faults

same_less : (a b : ℕ) → b ≡ a → a < b → ⊥
same_less a b e h = omega (arith, e, h)

-- what faults a run had of its output
output_by : (p : Program) (before after : Outside) (ended : Ended) (answer : Result End RunFault) → AnswerTold answer ended → Plays p answer before after → (after.write_faults ≡ before.write_faults) ⊎ ((ended ≡ CannotWrite (codes "-")) × Rose before.write_faults after.write_faults)
output_by p before after ended (Ok end) told plays = inl plays.faulted.1
output_by p before after ended (Err faults.ReadFault) told plays = inl plays.faulted.1
output_by p before after ended (Err faults.WriteFault) told plays = inr (told, plays.faulted.0)
output_by p before after ended (Err faults.Memory) told plays = inl plays.faulted.1

output_from : (p : Program) (dash : Bool) (before after : Outside) (ended : Ended) → MatchBool dash (IsRunTo p (without_input before) (without_input after) ended) (IsRunTo p before after ended) → (after.write_faults ≡ before.write_faults) ⊎ ((ended ≡ CannotWrite (codes "-")) × Rose before.write_faults after.write_faults)
output_from p true before after ended runs = output_by p (without_input before) (without_input after) ended runs.0 runs.1 runs.2
output_from p false before after ended runs = output_by p before after ended runs.0 runs.1 runs.2

ran_output : (name : List ℕ) (bound : ℕ) (words : List (List ℕ)) (bytes : List ℕ) (before after : Outside) (ended : Ended) → IsRan name bound words bytes before after ended → (after.write_faults ≡ before.write_faults) ⊎ ((ended ≡ CannotWrite (codes "-")) × Rose before.write_faults after.write_faults)
ran_output name bound words bytes before after ended (inl (early, same)) = inl (ap (λ (o : Outside). o.write_faults) same)
ran_output name bound words bytes before after ended (inr runs) = output_from (program_of bound words runs.meant) (is_dash name) before after ended runs.runs

pub ran_output_fault : (name : List ℕ) (bound : ℕ) (words : List (List ℕ)) (bytes : List ℕ) (before after : Outside) (ended : Ended) → IsRan name bound words bytes before after ended → before.write_faults < after.write_faults → IsUnwrittenOrMemory ended
ran_output_fault name bound words bytes before after ended ran rose = by (ran_output name bound words bytes before after ended ran)
  where
    by : (after.write_faults ≡ before.write_faults) ⊎ ((ended ≡ CannotWrite (codes "-")) × Rose before.write_faults after.write_faults) → IsUnwrittenOrMemory ended
    by (inl same) = absurd (same_less before.write_faults after.write_faults same rose)
    by (inr told) = subst (λ (e : Ended). IsUnwrittenOrMemory e) (sym told.0) refl

-- a write that failed is told by the name of standard output
unwritten_by : (name : List ℕ) (p : Program) (before after : Outside) (ended : Ended) (answer : Result End RunFault) → AnswerTold answer ended → Plays p answer before after → ended ≡ CannotWrite name → (name ≡ codes "-") × Rose before.write_faults after.write_faults
unwritten_by name p before after ended (Ok end) told plays e = absurd (subst (λ (x : Ended). IsEnd x) (sym told ∙ e) (told_is_end end))
unwritten_by name p before after ended (Err faults.ReadFault) told plays e = absurd (let h : CannotRead (codes "-") ≡ CannotWrite name = sym told ∙ e in cc)
unwritten_by name p before after ended (Err faults.WriteFault) told plays e =
    let h : CannotWrite (codes "-") ≡ CannotWrite name = sym told ∙ e in
    let same : name ≡ codes "-" = cc in
    (same, plays.faulted.0)
unwritten_by name p before after ended (Err faults.Memory) told plays e = absurd (let h : Memory ≡ CannotWrite name = sym told ∙ e in cc)

unwritten_from : (name : List ℕ) (p : Program) (dash : Bool) (before after : Outside) (ended : Ended) → MatchBool dash (IsRunTo p (without_input before) (without_input after) ended) (IsRunTo p before after ended) → ended ≡ CannotWrite name → (name ≡ codes "-") × Rose before.write_faults after.write_faults
unwritten_from name p true before after ended runs e = unwritten_by name p (without_input before) (without_input after) ended runs.0 runs.1 runs.2 e
unwritten_from name p false before after ended runs e = unwritten_by name p before after ended runs.0 runs.1 runs.2 e

no_write_before : (input name : List ℕ) (ended : Ended) → IsBeforeRun input ended ⊎ (ended ≡ Memory) → ended ≡ CannotWrite name → ⊥
no_write_before input name ended (inl early) e = subst (λ (x : Ended). IsBeforeRun input x) e early
no_write_before input name ended (inr none) e = absurd (let h : Memory ≡ CannotWrite name = sym none ∙ e in cc)

pub ran_unwritten : (input : List ℕ) (bound : ℕ) (words : List (List ℕ)) (bytes : List ℕ) (before after : Outside) (ended : Ended) → IsRan input bound words bytes before after ended → (name : List ℕ) → ended ≡ CannotWrite name → (name ≡ codes "-") × Rose before.write_faults after.write_faults
ran_unwritten input bound words bytes before after ended (inl (inl refused, same)) = λ name e. absurd (no_write_before input name ended (refused_before input bytes ended refused) e)
ran_unwritten input bound words bytes before after ended (inl (inr none, same)) = λ name e. absurd (no_write_before input name ended (inr none) e)
ran_unwritten input bound words bytes before after ended (inr runs) = λ name e. unwritten_from name (program_of bound words runs.meant) (is_dash input) before after ended runs.runs e

-- a read that failed is told by the name of standard input
unread_by : (name : List ℕ) (p : Program) (before after : Outside) (ended : Ended) (answer : Result End RunFault) → AnswerTold answer ended → Plays p answer before after → ended ≡ CannotRead name → Rose before.read_faults after.read_faults
unread_by name p before after ended (Ok end) told plays e = absurd (subst (λ (x : Ended). IsEnd x) (sym told ∙ e) (told_is_end end))
unread_by name p before after ended (Err faults.ReadFault) told plays e = plays.faulted.0
unread_by name p before after ended (Err faults.WriteFault) told plays e = absurd (let h : CannotWrite (codes "-") ≡ CannotRead name = sym told ∙ e in cc)
unread_by name p before after ended (Err faults.Memory) told plays e = absurd (let h : Memory ≡ CannotRead name = sym told ∙ e in cc)

no_read : (name : List ℕ) (ended : Ended) → IsOfRun ended false → ended ≡ CannotRead name → ⊥
no_read name ended of e = true≢false (sym (subst (λ (x : Ended). IsOfRun x false) e of).0)

pub ran_unread : (input : List ℕ) (bound : ℕ) (words : List (List ℕ)) (bytes : List ℕ) (before after : Outside) (ended : Ended) → is_dash input ≡ false → IsRan input bound words bytes before after ended → (name : List ℕ) → ended ≡ CannotRead name → Rose before.read_faults after.read_faults
ran_unread input bound words bytes before after ended file (inl (inl refused, same)) = λ name e. absurd (no_read name ended (refused_of input bytes false ended refused) e)
ran_unread input bound words bytes before after ended file (inl (inr none, same)) = λ name e. absurd (let h : Memory ≡ CannotRead name = sym none ∙ e in cc)
ran_unread input bound words bytes before after ended file (inr runs) =
    let run = run_by (program_of bound words runs.meant) (is_dash input) before after ended runs.runs file in
    λ name e. unread_by name (program_of bound words runs.meant) before after ended run.0 run.1 run.2 e

-- what faults it had of its input, where that is its own
input_by : (p : Program) (before after : Outside) (ended : Ended) (answer : Result End RunFault) → AnswerTold answer ended → Plays p answer before after → (after.read_faults ≡ before.read_faults) ⊎ ((ended ≡ CannotRead (codes "-")) × Rose before.read_faults after.read_faults)
input_by p before after ended (Ok end) told plays = inl plays.faulted.0
input_by p before after ended (Err faults.ReadFault) told plays = inr (told, plays.faulted.0)
input_by p before after ended (Err faults.WriteFault) told plays = inl plays.faulted.1
input_by p before after ended (Err faults.Memory) told plays = inl plays.faulted.0

pub ran_input : (name : List ℕ) (bound : ℕ) (words : List (List ℕ)) (bytes : List ℕ) (before after : Outside) (ended : Ended) → is_dash name ≡ false → IsRan name bound words bytes before after ended → (after.read_faults ≡ before.read_faults) ⊎ ((ended ≡ CannotRead (codes "-")) × Rose before.read_faults after.read_faults)
ran_input name bound words bytes before after ended file (inl (early, same)) = inl (ap (λ (o : Outside). o.read_faults) same)
ran_input name bound words bytes before after ended file (inr runs) =
    let run = run_by (program_of bound words runs.meant) (is_dash name) before after ended runs.runs file in
    input_by (program_of bound words runs.meant) before after ended run.0 run.1 run.2

pub lost_none : (left : Option (List ℕ)) → Lost left left []
lost_none None = refl
lost_none (Some bytes) = refl

-- and what it read of it
pub ran_lost : (name : List ℕ) (bound : ℕ) (words : List (List ℕ)) (bytes : List ℕ) (before after : Outside) (ended : Ended) → is_dash name ≡ false → IsRan name bound words bytes before after ended → (heard : List ℕ) × Lost before.left after.left heard
ran_lost name bound words bytes before after ended file (inl (early, same)) = ([], rw same (lost_none before.left))
ran_lost name bound words bytes before after ended file (inr runs) =
    let run = run_by (program_of bound words runs.meant) (is_dash name) before after ended runs.runs file in
    (run.2.heard, run.2.lost)

-- ---- for the whole tool

-- where it begins with the same input, if that is its own
pub from_before : (name : List ℕ) (p : Program) (mid before after : Outside) (ended : Ended) → (is_dash name ≡ false → mid ≡ before) → without_input mid ≡ without_input before → IsRunFrom name p mid after ended → IsRunFrom name p before after ended
from_before name p mid before after ended same same_output runs = by (is_dash name) same runs
  where
    by : (dash : Bool) → (dash ≡ false → mid ≡ before) → MatchBool dash (IsRunTo p (without_input mid) (without_input after) ended) (IsRunTo p mid after ended) → MatchBool dash (IsRunTo p (without_input before) (without_input after) ended) (IsRunTo p before after ended)
    by true same runs = subst (λ (o : Outside). IsRunTo p o (without_input after) ended) same_output runs
    by false same runs = subst (λ (o : Outside). IsRunTo p o after ended) (same refl) runs

-- all was quiet before, and so it stays
quiet_by : (dash : Bool) (mid before after : Outside) → (dash ≡ false → mid ≡ before) → without_input mid ≡ without_input before → after ≡ mid → MatchBool dash (without_input after ≡ without_input before) (after ≡ before)
quiet_by true mid before after same same_output quiet = ap without_input quiet ∙ same_output
quiet_by false mid before after same same_output quiet = quiet ∙ same refl

pub quiet_after : (name : List ℕ) (mid before after : Outside) → (is_dash name ≡ false → mid ≡ before) → without_input mid ≡ without_input before → after ≡ mid → IsQuiet name before after
quiet_after name mid before after same same_output quiet = quiet_by (is_dash name) mid before after same same_output quiet

pub ran_played : (name : List ℕ) (bound : ℕ) (words : List (List ℕ)) (bytes : List ℕ) (mid before after : Outside) (ended : Ended) → (is_dash name ≡ false → mid ≡ before) → without_input mid ≡ without_input before → IsRan name bound words bytes mid after ended → IsPlayedOf name bound words (Ok bytes) before after ended
ran_played name bound words bytes mid before after ended same same_output (inl (inl refused, quiet)) =
    inl (inl refused, quiet_after name mid before after same same_output quiet)
ran_played name bound words bytes mid before after ended same same_output (inl (inr none, quiet)) =
    inl (inr (inr none), quiet_after name mid before after same same_output quiet)
ran_played name bound words bytes mid before after ended same same_output (inr runs) =
    inr (record { meant = runs.meant; is_part = runs.is_part; runs = from_before name (program_of bound words runs.meant) mid before after ended same same_output runs.runs })
