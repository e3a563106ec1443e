use Rattle.std.proofs.Common.{◌≡◌, ◌⊎◌, inl, inr, ℕ, ◌<◌, Bool, true, false, List, codes, Option, Some, Err, refl, sym, ap, ◌∙◌, subst, arith}
use Rattle.ir_base.specs.Files.{Named}
use Rattle.ir_base.specs.Outside.{Rose}
use Rattle.command_line.specs.declared.command.Command.{Command}
use Rattle.command_line.specs.declared.command.OutputName.{OutputName}
use Rattle.command_line.specs.declared.command.WordsFault.{WordsFault}
use Rattle.tool_output.specs.declared.ends.ended.Ended.TheVariants.{Memory, Usage}
use Rattle.tool_output.specs.Outputs.{outputs}
use Rattle.tool_cli.specs.Analyzed.{IsBeforeWork}
use Rattle.tool_cli.specs.Causes.{IsEmptied, Stopped}
use Rattle.tool_cli.specs.Inputs.{has_stdin, hears, input_read, inputs_of, inputs_named, listens, texts_read, TellsRun}
use Rattle.tool_cli.specs.Order.{IsRefusedInFront}
use Rattle.tool_cli.specs.Output.{output_of, IsFileUnwritten, IsUnwritten, IsWritten}
use Rattle.tool_cli.specs.Reads.{LosesInput}
use Rattle.tool_cli.specs.Running.{IsUnbegun}
use Rattle.tool_cli.specs.Told.{IsEndOf}
use Rattle.tool_cli.specs.World.{failures, streams}
use Rattle.tool_cli.proofs.Works.{nothing_shown, early_refusal, not_before_work, run_no_large, run_no_usage}
use Rattle.tool_cli.proofs.Delivered.{leaves_after, leaves_none, leaves_read}
use Rattle.tool_cli.proofs.Outcomes.{inputs_are, analyzes_is, output_is, same_command, shown_ok, told_ok, told_err, cause_of_unread, cause_of_large, fault_told, never_after, never_unwritten, never_usage}
use Rattle.tool_cli.proofs.Commands.{end_over, heard, hears_no_stdin, input_cause, listens_is, loses_after, loses_none, loses_read, nothing_played, played_err, played_ok, runs_is, same_outside, stdin_unheard, unread_cause, unread_told}
use Rattle.tool_cli.proofs.OneEnd.{complete_by, one_end}
use Rattle.tool_cli.proofs.Reported.{succeeds_by}
use Rattle.tool_cli.proofs.Steps.{words_fit}
use Rattle.tool_cli.proofs.Order.{work_keeps}
use Rattle.tool_cli.proofs.tool_run.ended_of.Goals as goal

-- the command is what the words are read as, and its steps fit
pub work-requires-clause-steps : goal.work-requires-clause-steps
work-requires-clause-steps g c = words_fit c.args.words.now c.in-Ok.command c.in-Ok.ensures.command

-- the words have a first fault
pub returns-in-Err-Usage : goal.returns-in-Err-Usage
returns-in-Err-Usage g c =
    let fault = c.in-Err-Usage.ensures.usage c.in-Err-Usage.kind c.in-Err-Usage.word (ap (λ (fault : WordsFault). Err fault) c.in-Err-Usage.field-0-is) in
    record {
      usage = λ kind k told. c.in-Err-Usage.ensures.usage kind k (let e = told in let f = c.in-Err-Usage.field-0-is in cc);
      is_usage = λ kind k first. rw c.in-Err-Usage.field-0-is (fault_told c.in-Err-Usage.field-0 c.in-Err-Usage.kind kind c.in-Err-Usage.word k c.in-Err-Usage.field-0-is (c.in-Err-Usage.ensures.is_usage kind k first));
      told = λ held stdin tells. rw c.in-Err-Usage.field-0-is (inl (inl (c.in-Err-Usage.kind, (c.in-Err-Usage.word, fault, refl))));
      complete = λ held stdin tells end is. rw c.in-Err-Usage.field-0-is (inl (one_end c.args.words.now held stdin (Usage c.in-Err-Usage.kind c.in-Err-Usage.word) end (inl (c.in-Err-Usage.kind, (c.in-Err-Usage.word, fault, refl))) is));
      succeeds = λ held stdin tells has. absurd (has.read.fine c.in-Err-Usage.kind c.in-Err-Usage.word fault.is);
      causes = record {
        cannot_read = λ name told. absurd (let e = told in cc);
        too_large = λ name limit told. absurd (let e = told in cc);
        cannot_write = λ name told. absurd (let e = told in cc);
        output_fault = λ (rose : g.O.Sink.faults c.args.output.now < g.O.Sink.faults c.args.output.now). absurd (omega (arith, rose));
        write_fault = λ (rose : g.F.Files.write_faults c.args.files.now < g.F.Files.write_faults c.args.files.now). absurd (omega (arith, rose));
      };
      before_reading = λ kind k first. (refl, refl, refl);
      order = λ name refused early. refl;
      turn = λ held refusal told first. refl;
      in_turn = λ command read held refusal told first. absurd (read.fine c.in-Err-Usage.kind c.in-Err-Usage.word fault.is);
      untouched = record { unread = λ both. refl; files_unread = λ both. refl };
      whole = λ never one. absurd never;
      leaves = record {
        input_fault = λ (rose : g.I.Source.faults c.args.input.now < g.I.Source.faults c.args.input.now). absurd (omega (arith, rose));
        file_fault = λ (rose : g.F.Files.read_faults c.args.files.now < g.F.Files.read_faults c.args.files.now). absurd (omega (arith, rose));
        input = loses_none _ _ _;
        files = leaves_none _ _ _ _ _;
      };
      shown = λ held stdin tells command read plain. absurd (read.fine c.in-Err-Usage.kind c.in-Err-Usage.word fault.is);
      unwritten = λ none plain early. refl;
      before_work = λ early. refl;
      not_begun = λ command read early. (λ own. refl, refl);
      played = λ held stdin tells name bound arguments is. absurd (is.fine c.in-Err-Usage.kind c.in-Err-Usage.word fault.is);
    }

-- memory ran out while they were read
pub returns-in-Err-Memory : goal.returns-in-Err-Memory
returns-in-Err-Memory g c = record {
  usage = λ kind k told. absurd (let e = told in cc);
  is_usage = λ kind k first. inr refl;
  told = λ held stdin tells. inr (inl tt);
  complete = λ held stdin tells end is. inr (inl tt);
  succeeds = λ held stdin tells has. inr (inl tt);
  causes = record {
    cannot_read = λ name told. absurd (let e = told in cc);
    too_large = λ name limit told. absurd (let e = told in cc);
    cannot_write = λ name told. absurd (let e = told in cc);
    output_fault = λ (rose : g.O.Sink.faults c.args.output.now < g.O.Sink.faults c.args.output.now). absurd (omega (arith, rose));
    write_fault = λ (rose : g.F.Files.write_faults c.args.files.now < g.F.Files.write_faults c.args.files.now). absurd (omega (arith, rose));
  };
  before_reading = λ kind k first. (refl, refl, refl);
  order = λ name refused early. refl;
  turn = λ held refusal told first. refl;
  in_turn = λ command read held refusal told first. inr tt;
  untouched = record { unread = λ both. refl; files_unread = λ both. refl };
  whole = λ never one. absurd never;
  leaves = record {
    input_fault = λ (rose : g.I.Source.faults c.args.input.now < g.I.Source.faults c.args.input.now). absurd (omega (arith, rose));
    file_fault = λ (rose : g.F.Files.read_faults c.args.files.now < g.F.Files.read_faults c.args.files.now). absurd (omega (arith, rose));
    input = loses_none _ _ _;
    files = leaves_none _ _ _ _ _;
  };
  shown =
      let same = outputs (g.O.Sink.taken c.args.output.now) (g.F.Files.contents c.args.files.now) in
      λ held stdin tells command read plain. nothing_shown command (texts_read held stdin 0 (inputs_of command)) same same Memory tt refl;
  unwritten = λ none plain early. refl;
  before_work = λ early. refl;
  not_begun = λ command read early. (λ own. refl, refl);
  played =
      let now = streams g.I.Source g.O.Sink c.args.input.now c.args.output.now in
      λ held stdin tells name bound arguments is. nothing_played name bound arguments (input_read held stdin 0 name) now;
}

-- the work was done over inputs that were read
pub returns-in-Ok-read_inputs : goal.returns-in-Ok-read_inputs
returns-in-Ok-read_inputs g c =
    let left = g.I.Source.left in
    let faults = g.I.Source.faults in
    let taken = g.O.Sink.taken in
    let sinks = g.O.Sink.faults in
    let contents = g.F.Files.contents in
    let reads = g.F.Files.read_faults in
    let writes = g.F.Files.write_faults in
    let before = streams g.I.Source g.O.Sink c.args.input.now c.args.output.now in
    let mid = streams g.I.Source g.O.Sink c.read_inputs.new.input c.args.output.now in
    let after = streams g.I.Source g.O.Sink c.work.new.input c.work.new.output in
    let input_rose = Rose (faults c.args.input.now) (faults c.read_inputs.new.input) in
    let files_rose = Rose (reads c.args.files.now) (reads c.read_inputs.new.files) in
    let same = inputs_are c.args.words.now c.in-Ok.command c.in-Ok.ensures.command ∙ sym c.inputs_of.ensures in
    let listening = listens_is c.args.words.now c.in-Ok.command c.in-Ok.ensures.command in
    let place = output_is c.args.words.now c.in-Ok.command c.in-Ok.ensures.command in
    let told =
    let Done : List ℕ → ℕ → ℕ → Type 0 = λ stdin i w. IsEndOf c.in-Ok.command stdin c.in-Ok-read_inputs.texts c.work.result ⊎ Stopped (output_of c.in-Ok.command) (failures (Rose i (faults c.work.new.input)) ⊥ (Rose (sinks c.args.output.now) (sinks c.work.new.output)) (Rose w (writes c.work.new.files))) c.work.result in
    λ (held : Named) (stdin : List ℕ) (tells : TellsRun c.args.words.now (contents c.args.files.now) (left c.args.input.now) held stdin).
    -- a program that has standard input for its own finds it as it was
    let own : hears c.in-Ok.command ≡ true → left c.read_inputs.new.input ≡ Some stdin = λ own. ap left (c.in-Ok-read_inputs.ensures.untouched.unread (ap has_stdin c.inputs_of.ensures ∙ hears_no_stdin c.in-Ok.command own)) ∙ tells.heard (listening ∙ own) in
    let done : Done stdin (faults c.read_inputs.new.input) (writes c.read_inputs.new.files) = end_over c.in-Ok.command c.in-Ok-read_inputs.texts stdin mid after (Rose (writes c.read_inputs.new.files) (writes c.work.new.files)) c.work.result own c.work.ensures.work c.work.ensures.ran in
    -- nothing failed, and no write was counted, while inputs were read
    let work : Done stdin (faults c.args.input.now) (writes c.args.files.now) = subst (λ (n : ℕ). Done stdin (faults c.args.input.now) n) c.in-Ok-read_inputs.ensures.leaves.files.writes (subst (λ (n : ℕ). Done stdin n (writes c.read_inputs.new.files)) c.in-Ok-read_inputs.ensures.leaves.input_fine done) in
    told_ok c.args.words.now c.in-Ok.command c.inputs_of.result.now c.in-Ok-read_inputs.texts held stdin c.work.result
    input_rose (Rose (faults c.args.input.now) (faults c.work.new.input)) files_rose (Rose (reads c.args.files.now) (reads c.work.new.files)) (Rose (sinks c.args.output.now) (sinks c.work.new.output)) (Rose (writes c.args.files.now) (writes c.work.new.files))
    c.in-Ok.ensures.command c.inputs_of.ensures (c.in-Ok-read_inputs.ensures.told held stdin (rw same at tells.inputs)) work
    in
    record {
      usage = λ kind k told. absurd (run_no_usage c.work.result (hears c.in-Ok.command) kind k c.work.ensures.of_work told);
      is_usage = λ kind k first. absurd (c.in-Ok.ensures.command.fine kind k first.is);
      told = told;
      complete = λ held stdin tells end is. complete_by c.args.words.now held stdin c.work.result (told held stdin tells) end is;
      succeeds = λ held stdin tells has. succeeds_by c.args.words.now held stdin c.work.result (told held stdin tells) has;
      causes = record {
        cannot_read = λ name told.
            let cause = unread_cause c.in-Ok.command c.in-Ok-read_inputs.texts mid after c.work.result c.work.ensures.of_work c.work.ensures.ran name told in
            let rose = subst (λ (n : ℕ). Rose n (faults c.work.new.input)) c.in-Ok-read_inputs.ensures.leaves.input_fine cause.1.1 in
            (inr (listening ∙ cause.0, cause.1.0), unread_told (contents c.args.files.now) (Rose (faults c.args.input.now) (faults c.work.new.input)) (Rose (reads c.args.files.now) (reads c.work.new.files)) name cause.1.0 rose);
        too_large = λ name limit told. absurd (run_no_large c.work.result (hears c.in-Ok.command) name limit c.work.ensures.of_work told);
        cannot_write = λ name told.
            subst (λ (output : Option OutputName). IsUnwritten output (Rose (sinks c.args.output.now) (sinks c.work.new.output)) (Rose (writes c.args.files.now) (writes c.work.new.files)) name) (sym place)
            (subst (λ (n : ℕ). IsUnwritten (output_of c.in-Ok.command) (Rose (sinks c.args.output.now) (sinks c.work.new.output)) (Rose n (writes c.work.new.files)) name) c.in-Ok-read_inputs.ensures.leaves.files.writes (c.work.ensures.leaves.cannot_write name told));
        output_fault = c.work.ensures.leaves.output_fault;
        write_fault = λ (rose : writes c.args.files.now < writes c.work.new.files).
            subst (λ (output : Option OutputName). IsFileUnwritten output c.work.result) (sym place)
            (c.work.ensures.leaves.write_fault (subst (λ (n : ℕ). n < writes c.work.new.files) (sym c.in-Ok-read_inputs.ensures.leaves.files.writes) rose));
      };
      before_reading = λ kind k first. absurd (c.in-Ok.ensures.command.fine kind k first.is);
      order = work_keeps (inputs_named c.args.words.now) c.args.input.now c.work.new.input c.work.result (hears c.in-Ok.command) c.work.ensures.of_work;
      turn = λ held refusal told first. absurd (c.in-Ok-read_inputs.ensures.fine_front held refusal told (subst (λ (names : List (List ℕ)). IsRefusedInFront held names refusal) same first));
      in_turn = λ command read held refusal told first.
          let same = ap inputs_of (same_command c.args.words.now command c.in-Ok.command read c.in-Ok.ensures.command) ∙ sym c.inputs_of.ensures in
          absurd (c.in-Ok-read_inputs.ensures.fine_front held refusal told (subst (λ (names : List (List ℕ)). IsRefusedInFront held names refusal) same first));
      untouched = record {
        unread = λ both. c.work.ensures.unread (rw listening at both.1) ∙ c.in-Ok-read_inputs.ensures.untouched.unread (rw same at both.0);
        files_unread = λ both. c.work.ensures.leaves.files_unwritten (rw place at both.1) ∙ c.in-Ok-read_inputs.ensures.untouched.files_unread (rw same at both.0);
      };
      whole = λ _ one.
          let quiet = stdin_unheard c.in-Ok.command (rw (inputs_are c.args.words.now c.in-Ok.command c.in-Ok.ensures.command) at one) in
          subst (λ (left : Option (List ℕ)). IsEmptied left) (sym (ap g.I.Source.left (c.work.ensures.unread quiet))) (c.in-Ok-read_inputs.ensures.emptied (rw same at one));
      leaves =
          let none : hears c.in-Ok.command ≡ true → has_stdin c.inputs_of.result.now ≡ false = λ own. ap has_stdin c.inputs_of.ensures ∙ hears_no_stdin c.in-Ok.command own in
          let own_input = heard c.in-Ok.command c.in-Ok-read_inputs.texts mid after c.work.result c.work.ensures.ran in
          let file_fine : reads c.read_inputs.new.files ≡ reads c.args.files.now = c.in-Ok-read_inputs.ensures.leaves.file_fine in
          record {
            input_fault = λ (rose : faults c.args.input.now < faults c.work.new.input).
                input_cause (hears c.in-Ok.command) mid after c.work.result (λ quiet. ap faults (c.work.ensures.unread quiet)) own_input
                (subst (λ (n : ℕ). n < faults c.work.new.input) (sym c.in-Ok-read_inputs.ensures.leaves.input_fine) rose);
            file_fault = λ (rose : reads c.args.files.now < reads c.work.new.files). absurd (omega (arith, rose, c.work.ensures.leaves.reads, file_fine));
            input =
                subst (λ (b : Bool). LosesInput b (left c.args.input.now) (left c.work.new.input) (faults c.args.input.now) (faults c.work.new.input)) (sym listening)
                (loses_after (hears c.in-Ok.command) (left c.args.input.now) (faults c.args.input.now) mid after c.work.result c.in-Ok-read_inputs.ensures.leaves.input c.in-Ok-read_inputs.ensures.leaves.input_fine (λ own. ap left (c.in-Ok-read_inputs.ensures.untouched.unread (none own))) (λ quiet. (ap left (c.work.ensures.unread quiet), ap faults (c.work.ensures.unread quiet)))
                own_input);
            files = rw place (leaves_after _ _ _ _ _ _ _ _ _ _ _ c.in-Ok-read_inputs.ensures.leaves.files c.work.ensures.leaves.files);
          };
      shown = λ held stdin tells.
          shown_ok c.args.words.now c.in-Ok.command c.inputs_of.result.now c.in-Ok-read_inputs.texts held stdin (outputs (taken c.args.output.now) (contents c.args.files.now)) (outputs (taken c.work.new.output) (contents c.work.new.files)) c.work.result
          input_rose files_rose
          c.in-Ok.ensures.command c.inputs_of.ensures (c.in-Ok-read_inputs.ensures.told held stdin (rw same at tells))
          -- no file changed while inputs were read
          (λ plain. subst (λ (before : Option Named). IsWritten c.in-Ok.command c.in-Ok-read_inputs.texts (outputs (taken c.args.output.now) before) (outputs (taken c.work.new.output) (contents c.work.new.files)) c.work.result) c.in-Ok-read_inputs.ensures.leaves.files.contents (c.work.ensures.written plain));
      unwritten = λ none plain early. c.work.ensures.unwritten (rw (analyzes_is c.args.words.now c.in-Ok.command c.in-Ok.ensures.command) at none) (rw (runs_is c.args.words.now c.in-Ok.command c.in-Ok.ensures.command) at plain) (rw place at early);
      before_work = λ early. absurd (not_before_work c.work.result (hears c.in-Ok.command) c.work.ensures.of_work (subst (λ (b : Bool). IsBeforeWork b c.work.result) listening early));
      not_begun = λ command read early.
          let same = same_command c.args.words.now command c.in-Ok.command read c.in-Ok.ensures.command in
          let left = c.work.ensures.not_begun (subst (λ (one : Command). IsUnbegun one c.work.result) same early) in
          (λ own. left.0 ∙ c.in-Ok-read_inputs.ensures.untouched.unread (ap has_stdin c.inputs_of.ensures ∙ hears_no_stdin c.in-Ok.command (sym listening ∙ own)), left.1);
      played =
          let own : hears c.in-Ok.command ≡ true → mid ≡ before = λ h.
          let kept = c.in-Ok-read_inputs.ensures.untouched.unread (ap has_stdin c.inputs_of.ensures ∙ hears_no_stdin c.in-Ok.command h) in
          same_outside (left c.args.input.now) (left c.read_inputs.new.input) (faults c.args.input.now) (faults c.read_inputs.new.input) (taken c.args.output.now) (sinks c.args.output.now) (ap left kept) (ap faults kept) in
          λ held stdin tells.
          played_ok c.args.words.now c.in-Ok.command c.inputs_of.result.now c.in-Ok-read_inputs.texts held stdin mid before after c.work.result input_rose files_rose c.in-Ok.ensures.command c.inputs_of.ensures (c.in-Ok-read_inputs.ensures.told held stdin (rw same at tells)) own refl c.work.ensures.ran;
    }

-- an input was refused
pub returns : goal.returns
returns g c =
    let left = g.I.Source.left in
    let faults = g.I.Source.faults in
    let taken = g.O.Sink.taken in
    let sinks = g.O.Sink.faults in
    let contents = g.F.Files.contents in
    let reads = g.F.Files.read_faults in
    let writes = g.F.Files.write_faults in
    let input_rose = Rose (faults c.args.input.now) (faults c.read_inputs.new.input) in
    let files_rose = Rose (reads c.args.files.now) (reads c.read_inputs.new.files) in
    let same = inputs_are c.args.words.now c.in-Ok.command c.in-Ok.ensures.command ∙ sym c.inputs_of.ensures in
    let listening = listens_is c.args.words.now c.in-Ok.command c.in-Ok.ensures.command in
    let told = λ (held : Named) (stdin : List ℕ) (tells : TellsRun c.args.words.now (contents c.args.files.now) (left c.args.input.now) held stdin).
    told_err c.args.words.now c.in-Ok.command c.inputs_of.result.now held stdin c.in-Err.ended
    input_rose files_rose (Rose (sinks c.args.output.now) (sinks c.args.output.now)) (Rose (writes c.args.files.now) (writes c.read_inputs.new.files))
    c.in-Ok.ensures.command c.inputs_of.ensures (c.in-Err.ensures.told held stdin (rw same at tells.inputs))
    in
    record {
      usage = λ kind k told. absurd (never_usage c.inputs_of.result.now (contents c.args.files.now) (left c.args.input.now) input_rose files_rose c.in-Err.ended c.in-Err.ensures.refused kind k told);
      is_usage = λ kind k first. absurd (c.in-Ok.ensures.command.fine kind k first.is);
      told = told;
      complete = λ held stdin tells end is. complete_by c.args.words.now held stdin c.in-Err.ended (told held stdin tells) end is;
      succeeds = λ held stdin tells has. succeeds_by c.args.words.now held stdin c.in-Err.ended (told held stdin tells) has;
      causes =
          let none : writes c.read_inputs.new.files ≡ writes c.args.files.now = c.in-Err.ensures.leaves.files.writes in
          record {
            cannot_read = cause_of_unread (λ name. (listens c.args.words.now ≡ true) × (name ≡ codes "-")) (inputs_named c.args.words.now) c.inputs_of.result.now (contents c.args.files.now) (left c.args.input.now) input_rose files_rose c.in-Err.ended same c.in-Err.ensures.refused;
            too_large = cause_of_large (inputs_named c.args.words.now) c.inputs_of.result.now (contents c.args.files.now) (left c.args.input.now) input_rose files_rose c.in-Err.ended same c.in-Err.ensures.refused;
            cannot_write = λ name told. absurd (never_unwritten c.inputs_of.result.now (contents c.args.files.now) (left c.args.input.now) input_rose files_rose c.in-Err.ended c.in-Err.ensures.refused name told);
            output_fault = λ (rose : sinks c.args.output.now < sinks c.args.output.now). absurd (omega (arith, rose));
            write_fault = λ (rose : writes c.args.files.now < writes c.read_inputs.new.files). absurd (omega (arith, rose, none));
          };
      before_reading = λ kind k first. absurd (c.in-Ok.ensures.command.fine kind k first.is);
      order = rw same c.in-Err.ensures.order;
      turn = λ held refusal told first. c.in-Err.ensures.turn held refusal told (subst (λ (names : List (List ℕ)). IsRefusedInFront held names refusal) same first);
      in_turn = λ command read held refusal told first.
          let same = ap inputs_of (same_command c.args.words.now command c.in-Ok.command read c.in-Ok.ensures.command) ∙ sym c.inputs_of.ensures in
          c.in-Err.ensures.in_turn held refusal told (subst (λ (names : List (List ℕ)). IsRefusedInFront held names refusal) same first);
      untouched = record {
        unread = λ both. c.in-Err.ensures.untouched.unread (rw same at both.0);
        files_unread = λ both. c.in-Err.ensures.untouched.files_unread (rw same at both.0);
      };
      whole = λ after one. absurd (never_after c.inputs_of.result.now (contents c.args.files.now) (left c.args.input.now) input_rose files_rose c.in-Err.ended c.in-Err.ensures.refused after);
      leaves = record {
        input_fault = c.in-Err.ensures.leaves.input_fault;
        file_fault = c.in-Err.ensures.leaves.file_fault;
        input =
            subst (λ (b : Bool). LosesInput b (left c.args.input.now) (left c.read_inputs.new.input) (faults c.args.input.now) (faults c.read_inputs.new.input)) (sym listening)
            (loses_read (hears c.in-Ok.command) (left c.args.input.now) (left c.read_inputs.new.input) (faults c.args.input.now) (faults c.read_inputs.new.input) c.in-Err.ensures.leaves.input (λ own. ap faults (c.in-Err.ensures.untouched.unread (ap has_stdin c.inputs_of.ensures ∙ hears_no_stdin c.in-Ok.command own))));
        files = leaves_read _ _ _ _ _ _ _ _ c.in-Err.ensures.leaves.files;
      };
      shown = λ held stdin tells command read plain.
          nothing_shown command (texts_read held stdin 0 (inputs_of command)) (outputs (taken c.args.output.now) (contents c.args.files.now)) (outputs (taken c.args.output.now) (contents c.read_inputs.new.files)) c.in-Err.ended
          (early_refusal (contents c.args.files.now) (left c.args.input.now) input_rose files_rose c.inputs_of.result.now c.in-Err.ended c.in-Err.ensures.refused) (ap (λ (now : Option Named). outputs (taken c.args.output.now) now) c.in-Err.ensures.leaves.files.contents);
      unwritten = λ none plain early. refl;
      before_work = λ early. refl;
      not_begun = λ command read early.
          (λ own. c.in-Err.ensures.untouched.unread (ap has_stdin c.inputs_of.ensures ∙ hears_no_stdin c.in-Ok.command (sym listening ∙ own)), refl);
      played =
          let before = streams g.I.Source g.O.Sink c.args.input.now c.args.output.now in
          let after = streams g.I.Source g.O.Sink c.read_inputs.new.input c.args.output.now in
          let kept : has_stdin c.inputs_of.result.now ≡ false → after ≡ before = λ none.
          let unread = c.in-Err.ensures.untouched.unread none in
          same_outside (left c.args.input.now) (left c.read_inputs.new.input) (faults c.args.input.now) (faults c.read_inputs.new.input) (taken c.args.output.now) (sinks c.args.output.now) (ap left unread) (ap faults unread) in
          λ held stdin tells.
          played_err c.args.words.now c.in-Ok.command c.inputs_of.result.now (g.F.Files.contents c.args.files.now) (left c.args.input.now) input_rose files_rose held stdin before after
          c.in-Err.ended c.in-Ok.ensures.command c.inputs_of.ensures (c.in-Err.ensures.told held stdin (rw same at tells)) c.in-Err.ensures.refused kept refl;
    }
