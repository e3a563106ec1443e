use Rattle.std.proofs.Common.{◌≡◌, ◌⊎◌, ◌<◌, ℕ, List, length, refl, true≢false, arith}
use Rattle.command_line.specs.declared.command.Command.{Command}
use Rattle.ir_base.specs.Outside.{Rose}
use Rattle.tool_output.specs.Outputs.{outputs}
use Rattle.tool_cli.specs.Output.{output_of, FailsToWrite, IsWritten}
use Rattle.tool_cli.specs.Told.{IsWork}
use Rattle.tool_cli.proofs.Judging.{short_first}
use Rattle.tool_cli.specs.Inputs.{hears}
use Rattle.tool_cli.specs.World.{streams}
use Rattle.tool_cli.proofs.Works.{analysis_work, analysis_written, analysis_cause, only_text, only_bitcode, only_input, only_program}
use Rattle.tool_cli.proofs.Commands.{lli_not_begun, lli_of_run, lli_output_fault, lli_unread, lli_unwritten, program_is, work_of_run}
use Rattle.tool_cli.proofs.Delivered.{leaves_none, link_is, assemble_is}
use Rattle.tool_cli.proofs.Extracting.{extract_is}
use Rattle.tool_cli.proofs.Spelled.{disassemble_is}
use Rattle.tool_cli.proofs.work.work.Goals as goal

pub analyze-requires : goal.analyze-requires
analyze-requires g c = rw c.bytes.ensures (short_first _ _ c.requires.short c.at.ensures)

pub returns-in-Analyze-clause-work : goal.returns-in-Analyze-clause-work
returns-in-Analyze-clause-work g c = λ plain. analysis_work _ _ _ _ _ _ _ _ c.in-Analyze.is c.requires.count c.at.ensures (rw c.bytes.ensures at c.analyze.ensures.analysis)

pub returns-in-Analyze-clause-leaves : goal.returns-in-Analyze-clause-leaves
returns-in-Analyze-clause-leaves g c =
    let writes = g.F.Files.write_faults c.args.files.now in
    record {
      cannot_write = λ name told. analysis_cause _ _ _ _ _ name c.in-Analyze.is (c.analyze.ensures.cannot_write name told);
      output_fault = c.analyze.ensures.output_fault;
      write_fault = λ (rose : writes < writes). absurd (omega (arith, rose));
      files = leaves_none _ _ _ _ _;
      reads = refl;
      files_unwritten = λ early. refl;
    }

pub returns-in-Analyze-clause-written : goal.returns-in-Analyze-clause-written
returns-in-Analyze-clause-written g c = λ plain. analysis_written _ _ _ _ _ _ _ _ _ c.in-Analyze.is c.requires.count c.at.ensures (rw c.bytes.ensures at c.analyze.ensures.shown)

pub first_text-requires : goal.first_text-requires
first_text-requires g c = (let one : length c.args.texts ≡ 1 = rw c.in-Assemble.is at c.requires.count in omega (arith, one))

pub assemble-requires : goal.assemble-requires
assemble-requires g c = short_first _ _ c.requires.short c.first_text.ensures

pub returns-in-Assemble-clause-work : goal.returns-in-Assemble-clause-work
returns-in-Assemble-clause-work g c =
    let P : Command → List (List ℕ) → Type 0 = λ command texts.
    IsWork command texts c.assemble.result
    ⊎ FailsToWrite (output_of command) (Rose (g.O.Sink.faults c.args.output.now) (g.O.Sink.faults c.assemble.new.output)) (Rose (g.F.Files.write_faults c.args.files.now) (g.F.Files.write_faults c.assemble.new.files)) c.assemble.result in
    λ plain.
    assemble_is P _ _ _ _ _ c.in-Assemble.is (only_text _ _ _ _ _ c.in-Assemble.is c.requires.count c.first_text.ensures) c.assemble.ensures.work

pub returns-in-Assemble-clause-written : goal.returns-in-Assemble-clause-written
returns-in-Assemble-clause-written g c =
    let P : Command → List (List ℕ) → Type 0 = λ command texts.
    IsWritten command texts (outputs (g.O.Sink.taken c.args.output.now) (g.F.Files.contents c.args.files.now)) (outputs (g.O.Sink.taken c.assemble.new.output) (g.F.Files.contents c.assemble.new.files)) c.assemble.result in
    λ plain.
    assemble_is P _ _ _ _ _ c.in-Assemble.is (only_text _ _ _ _ _ c.in-Assemble.is c.requires.count c.first_text.ensures) c.assemble.ensures.written

pub returns-in-Assemble-clause-leaves : goal.returns-in-Assemble-clause-leaves
returns-in-Assemble-clause-leaves g c = rw c.in-Assemble.is c.assemble.ensures.leaves

pub returns-in-Assemble-clause-unwritten : goal.returns-in-Assemble-clause-unwritten
returns-in-Assemble-clause-unwritten g c = rw c.in-Assemble.is (λ analysis plain early. c.assemble.ensures.unwritten early)

pub returns-in-Link-clause-work : goal.returns-in-Link-clause-work
returns-in-Link-clause-work g c =
    let P : Command → List (List ℕ) → Type 0 = λ command texts.
    IsWork command texts c.link.result
    ⊎ FailsToWrite (output_of command) (Rose (g.O.Sink.faults c.args.output.now) (g.O.Sink.faults c.link.new.output)) (Rose (g.F.Files.write_faults c.args.files.now) (g.F.Files.write_faults c.link.new.files)) c.link.result in
    λ plain.
    link_is P _ _ _ c.args.texts c.args.texts _ _ c.in-Link.is c.as_slice.ensures refl c.link.ensures.work

pub returns-in-Link-clause-written : goal.returns-in-Link-clause-written
returns-in-Link-clause-written g c =
    let P : Command → List (List ℕ) → Type 0 = λ command texts.
    IsWritten command texts (outputs (g.O.Sink.taken c.args.output.now) (g.F.Files.contents c.args.files.now)) (outputs (g.O.Sink.taken c.link.new.output) (g.F.Files.contents c.link.new.files)) c.link.result in
    λ plain.
    link_is P _ _ _ c.args.texts c.args.texts _ _ c.in-Link.is c.as_slice.ensures refl c.link.ensures.written

pub returns-in-Link-clause-leaves : goal.returns-in-Link-clause-leaves
returns-in-Link-clause-leaves g c = rw c.in-Link.is c.link.ensures.leaves

pub returns-in-Link-clause-unwritten : goal.returns-in-Link-clause-unwritten
returns-in-Link-clause-unwritten g c = rw c.in-Link.is (λ analysis plain early. c.link.ensures.unwritten early)

pub first_text-source-requires : goal.first_text-source-requires
first_text-source-requires g c = (let one : length c.args.texts ≡ 1 = rw c.in-Extract.is at c.requires.count in omega (arith, one))

pub extract_part-requires : goal.extract_part-requires
extract_part-requires g c = short_first _ _ c.requires.short c.first_text-source.ensures

pub returns-in-Extract-clause-work : goal.returns-in-Extract-clause-work
returns-in-Extract-clause-work g c =
    let P : Command → List (List ℕ) → Type 0 = λ command texts.
    IsWork command texts c.extract_part.result
    ⊎ FailsToWrite (output_of command) (Rose (g.O.Sink.faults c.args.output.now) (g.O.Sink.faults c.extract_part.new.output)) (Rose (g.F.Files.write_faults c.args.files.now) (g.F.Files.write_faults c.extract_part.new.files)) c.extract_part.result in
    λ plain.
    extract_is P _ _ _ _ _ _ _ c.in-Extract.is (only_input _ _ _ _ _ _ _ c.in-Extract.is c.requires.count c.first_text-source.ensures) c.extract_part.ensures.work

pub returns-in-Extract-clause-written : goal.returns-in-Extract-clause-written
returns-in-Extract-clause-written g c =
    let P : Command → List (List ℕ) → Type 0 = λ command texts.
    IsWritten command texts (outputs (g.O.Sink.taken c.args.output.now) (g.F.Files.contents c.args.files.now)) (outputs (g.O.Sink.taken c.extract_part.new.output) (g.F.Files.contents c.extract_part.new.files)) c.extract_part.result in
    λ plain.
    extract_is P _ _ _ _ _ _ _ c.in-Extract.is (only_input _ _ _ _ _ _ _ c.in-Extract.is c.requires.count c.first_text-source.ensures) c.extract_part.ensures.written

pub returns-in-Extract-clause-leaves : goal.returns-in-Extract-clause-leaves
returns-in-Extract-clause-leaves g c = rw c.in-Extract.is c.extract_part.ensures.leaves

pub returns-in-Extract-clause-unwritten : goal.returns-in-Extract-clause-unwritten
returns-in-Extract-clause-unwritten g c = rw c.in-Extract.is (λ analysis plain early. c.extract_part.ensures.unwritten early)

pub returns-in-Analyze-clause-of_work : goal.returns-in-Analyze-clause-of_work
returns-in-Analyze-clause-of_work g c = work_of_run c.analyze.result (hears c.args.command.now) c.analyze.ensures.of_work

pub returns-in-Analyze-clause-unwritten : goal.returns-in-Analyze-clause-unwritten
returns-in-Analyze-clause-unwritten g c = rw c.in-Analyze.is (λ analysis plain early. absurd (true≢false analysis))

pub returns-in-Analyze-clause-ran : goal.returns-in-Analyze-clause-ran
returns-in-Analyze-clause-ran g c = rw c.in-Analyze.is tt

pub returns-in-Analyze-clause-not_begun : goal.returns-in-Analyze-clause-not_begun
returns-in-Analyze-clause-not_begun g c = rw c.in-Analyze.is (λ never. absurd never)

pub returns-in-Assemble-clause-of_work : goal.returns-in-Assemble-clause-of_work
returns-in-Assemble-clause-of_work g c = work_of_run c.assemble.result (hears c.args.command.now) c.assemble.ensures.of_work

pub returns-in-Assemble-clause-ran : goal.returns-in-Assemble-clause-ran
returns-in-Assemble-clause-ran g c = rw c.in-Assemble.is tt

pub returns-in-Assemble-clause-not_begun : goal.returns-in-Assemble-clause-not_begun
returns-in-Assemble-clause-not_begun g c = rw c.in-Assemble.is (λ never. absurd never)

pub returns-in-Link-clause-of_work : goal.returns-in-Link-clause-of_work
returns-in-Link-clause-of_work g c = work_of_run c.link.result (hears c.args.command.now) c.link.ensures.of_work

pub returns-in-Link-clause-ran : goal.returns-in-Link-clause-ran
returns-in-Link-clause-ran g c = rw c.in-Link.is tt

pub returns-in-Link-clause-not_begun : goal.returns-in-Link-clause-not_begun
returns-in-Link-clause-not_begun g c = rw c.in-Link.is (λ never. absurd never)

pub returns-in-Extract-clause-of_work : goal.returns-in-Extract-clause-of_work
returns-in-Extract-clause-of_work g c = work_of_run c.extract_part.result (hears c.args.command.now) c.extract_part.ensures.of_work

pub returns-in-Extract-clause-ran : goal.returns-in-Extract-clause-ran
returns-in-Extract-clause-ran g c = rw c.in-Extract.is tt

pub returns-in-Extract-clause-not_begun : goal.returns-in-Extract-clause-not_begun
returns-in-Extract-clause-not_begun g c = rw c.in-Extract.is (λ never. absurd never)

pub first_text-program-requires : goal.first_text-program-requires
first_text-program-requires g c = (let one : length c.args.texts ≡ 1 = rw c.in-Lli.is at c.requires.count in omega (arith, one))

pub run_bytes-requires-clause-short : goal.run_bytes-requires-clause-short
run_bytes-requires-clause-short g c = short_first _ _ c.requires.short c.first_text-program.ensures

pub run_bytes-requires-clause-steps : goal.run_bytes-requires-clause-steps
run_bytes-requires-clause-steps g c = rw c.in-Lli.is at c.requires.steps

pub returns-in-Lli-clause-ran : goal.returns-in-Lli-clause-ran
returns-in-Lli-clause-ran g c =
    let before = streams g.I.Source g.O.Sink c.args.input.now c.args.output.now in
    let after = streams g.I.Source g.O.Sink c.run_bytes.new.input c.run_bytes.new.output in
    let one = only_program c.args.command.now _ _ _ c.args.texts _ c.in-Lli.is c.requires.count c.first_text-program.ensures in
    program_is c.args.command.now _ _ _ c.args.texts _ before after c.run_bytes.result c.in-Lli.is one c.run_bytes.ensures.ran

pub returns-in-Lli-clause-of_work : goal.returns-in-Lli-clause-of_work
returns-in-Lli-clause-of_work g c =
    let before = streams g.I.Source g.O.Sink c.args.input.now c.args.output.now in
    let after = streams g.I.Source g.O.Sink c.run_bytes.new.input c.run_bytes.new.output in
    let one = only_program c.args.command.now _ _ _ c.args.texts _ c.in-Lli.is c.requires.count c.first_text-program.ensures in
    lli_of_run c.args.command.now _ _ _ c.args.texts _ before after c.run_bytes.result c.in-Lli.is one c.run_bytes.ensures.ran

pub returns-in-Lli-clause-leaves : goal.returns-in-Lli-clause-leaves
returns-in-Lli-clause-leaves g c =
    let before = streams g.I.Source g.O.Sink c.args.input.now c.args.output.now in
    let after = streams g.I.Source g.O.Sink c.run_bytes.new.input c.run_bytes.new.output in
    let writes = g.F.Files.write_faults c.args.files.now in
    let one = only_program c.args.command.now _ _ _ c.args.texts _ c.in-Lli.is c.requires.count c.first_text-program.ensures in
    record {
      cannot_write = lli_unwritten c.args.command.now _ _ _ c.args.texts _ before after (Rose writes writes) c.run_bytes.result c.in-Lli.is one c.run_bytes.ensures.ran;
      output_fault = lli_output_fault c.args.command.now _ _ _ c.args.texts _ before after c.run_bytes.result c.in-Lli.is one c.run_bytes.ensures.ran;
      write_fault = λ (rose : writes < writes). absurd (omega (arith, rose));
      files = leaves_none _ _ _ _ _;
      reads = refl;
      files_unwritten = λ early. refl;
    }

pub returns-in-Lli-clause-work : goal.returns-in-Lli-clause-work
returns-in-Lli-clause-work g c = rw c.in-Lli.is (λ plain. absurd (true≢false plain))

pub returns-in-Lli-clause-written : goal.returns-in-Lli-clause-written
returns-in-Lli-clause-written g c = rw c.in-Lli.is (λ plain. absurd (true≢false plain))

pub returns-in-Lli-clause-unwritten : goal.returns-in-Lli-clause-unwritten
returns-in-Lli-clause-unwritten g c = rw c.in-Lli.is (λ analysis plain early. absurd (true≢false plain))

pub returns-in-Lli-clause-unread : goal.returns-in-Lli-clause-unread
returns-in-Lli-clause-unread g c = lli_unread c.args.command.now _ _ _ c.args.input.now c.run_bytes.new.input c.in-Lli.is c.run_bytes.ensures.unread

pub returns-in-Lli-clause-not_begun : goal.returns-in-Lli-clause-not_begun
returns-in-Lli-clause-not_begun g c = lli_not_begun _ c.args.command.now _ _ _ c.run_bytes.result c.in-Lli.is c.run_bytes.ensures.not_begun

pub disassemble-requires : goal.disassemble-requires
disassemble-requires g c = rw c.bytes-in-Disassemble.ensures (short_first _ _ c.requires.short c.at-in-Disassemble.ensures)

pub returns-in-Disassemble-clause-work : goal.returns-in-Disassemble-clause-work
returns-in-Disassemble-clause-work g c =
    let P : Command → List (List ℕ) → Type 0 = λ command texts.
    IsWork command texts c.disassemble.result
    ⊎ FailsToWrite (output_of command) (Rose (g.O.Sink.faults c.args.output.now) (g.O.Sink.faults c.disassemble.new.output)) (Rose (g.F.Files.write_faults c.args.files.now) (g.F.Files.write_faults c.disassemble.new.files)) c.disassemble.result in
    λ plain.
    disassemble_is P _ _ _ _ _ c.in-Disassemble.is (only_bitcode _ _ _ _ _ c.in-Disassemble.is c.requires.count c.at-in-Disassemble.ensures) (rw c.bytes-in-Disassemble.ensures at c.disassemble.ensures.work)

pub returns-in-Disassemble-clause-written : goal.returns-in-Disassemble-clause-written
returns-in-Disassemble-clause-written g c =
    let P : Command → List (List ℕ) → Type 0 = λ command texts.
    IsWritten command texts (outputs (g.O.Sink.taken c.args.output.now) (g.F.Files.contents c.args.files.now)) (outputs (g.O.Sink.taken c.disassemble.new.output) (g.F.Files.contents c.disassemble.new.files)) c.disassemble.result in
    λ plain.
    disassemble_is P _ _ _ _ _ c.in-Disassemble.is (only_bitcode _ _ _ _ _ c.in-Disassemble.is c.requires.count c.at-in-Disassemble.ensures) (rw c.bytes-in-Disassemble.ensures at c.disassemble.ensures.written)

pub returns-in-Disassemble-clause-leaves : goal.returns-in-Disassemble-clause-leaves
returns-in-Disassemble-clause-leaves g c = rw c.in-Disassemble.is c.disassemble.ensures.leaves

pub returns-in-Disassemble-clause-unwritten : goal.returns-in-Disassemble-clause-unwritten
returns-in-Disassemble-clause-unwritten g c = rw c.in-Disassemble.is (λ analysis plain early. c.disassemble.ensures.unwritten early)

pub returns-in-Disassemble-clause-of_work : goal.returns-in-Disassemble-clause-of_work
returns-in-Disassemble-clause-of_work g c = work_of_run c.disassemble.result (hears c.args.command.now) c.disassemble.ensures.of_work

pub returns-in-Disassemble-clause-ran : goal.returns-in-Disassemble-clause-ran
returns-in-Disassemble-clause-ran g c = rw c.in-Disassemble.is tt

pub returns-in-Disassemble-clause-not_begun : goal.returns-in-Disassemble-clause-not_begun
returns-in-Disassemble-clause-not_begun g c = rw c.in-Disassemble.is (λ never. absurd never)
