use Rattle.std.proofs.Common.{◌<◌, Some, Err, ap, arith}
use Rattle.ir_base.specs.Outside.{Rose}
use Rattle.module_arena.specs.View.{module_of}
use Rattle.tool_output.specs.Outputs.{outputs}
use Rattle.tool_output.specs.Written.{written}
use Rattle.tool_cli.proofs.Delivered.{failed_put, failed_counts, unput, unput_counts, unwritten_here, told_unwritten, sink_unwritten, file_unwritten, none_rose, none_rose_without_memory, leaves_put, leaves_partly_put, leaves_unput, kept_standard, kept_named}
use Rattle.tool_cli.proofs.delivery.deliver.Goals as goal

pub returns-in-Ok-clause-leaves : goal.returns-in-Ok-clause-leaves
returns-in-Ok-clause-leaves g c =
    let so = g.O.Sink.faults c.args.output.now in
    let sn = g.O.Sink.faults c.write_module.new.sink in
    let fo = g.F.Files.write_faults c.args.files.now in
    let fn = g.F.Files.write_faults c.write_module.new.files in
    let none = none_rose c.args.place.now so sn fo fn c.in-Ok.ensures.counts in
    record {
      cannot_write = λ name told. absurd (let e = told in cc);
      output_fault = λ (rose : so < sn). absurd (omega (arith, rose, none.0));
      write_fault = λ (rose : fo < fn). absurd (omega (arith, rose, none.1));
      files = leaves_put _ _ _ _ _ _ _ _ _ _ c.in-Ok.ensures.put c.in-Ok.ensures.reads c.in-Ok.ensures.counts;
      reads = c.in-Ok.ensures.reads;
      files_unwritten = kept_named _ _ _ _ (λ file early. early) c.in-Ok.ensures.files_unused;
    }

pub returns-in-Ok-clause-unwritten : goal.returns-in-Ok-clause-unwritten
returns-in-Ok-clause-unwritten g c = kept_standard _ _ _ _ (λ early. early) c.in-Ok.ensures.sink_unused

pub returns-in-Err-CannotWrite-clause-leaves : goal.returns-in-Err-CannotWrite-clause-leaves
returns-in-Err-CannotWrite-clause-leaves g c =
    let so = g.O.Sink.faults c.args.output.now in
    let sn = g.O.Sink.faults c.write_module.new.sink in
    let fo = g.F.Files.write_faults c.args.files.now in
    let fn = g.F.Files.write_faults c.write_module.new.files in
    let before = outputs (g.O.Sink.taken c.args.output.now) (g.F.Files.contents c.args.files.now) in
    let now = outputs (g.O.Sink.taken c.write_module.new.sink) (g.F.Files.contents c.write_module.new.files) in
    let put = failed_put c.args.place.now _ (written c.args.format (module_of c.args.checked.now)) before now c.in-Err-CannotWrite.field-0 c.in-Err-CannotWrite.field-0-is c.in-Err-CannotWrite.ensures.put in
    let counts = failed_counts c.args.place.now _ so sn fo fn c.in-Err-CannotWrite.field-0 c.in-Err-CannotWrite.field-0-is c.in-Err-CannotWrite.ensures.counts in
    record {
      cannot_write = told_unwritten (Some c.args.place.now) (Rose so sn) (Rose fo fn) _ (unwritten_here c.args.place.now _ so sn fo fn put.0 counts);
      output_fault = sink_unwritten c.args.place.now _ so sn fo fn put.0 counts;
      write_fault = file_unwritten c.args.place.now _ so sn fo fn put.0 counts;
      files = leaves_partly_put c.args.place.now _ (written c.args.format (module_of c.args.checked.now)) before now _ _ so sn fo fn put c.in-Err-CannotWrite.ensures.reads counts;
      reads = c.in-Err-CannotWrite.ensures.reads;
      files_unwritten = kept_named _ _ _ _ (λ file early. early) c.in-Err-CannotWrite.ensures.files_unused;
    }

pub returns-in-Err-CannotWrite-clause-unwritten : goal.returns-in-Err-CannotWrite-clause-unwritten
returns-in-Err-CannotWrite-clause-unwritten g c = kept_standard _ _ _ _ (λ early. early) c.in-Err-CannotWrite.ensures.sink_unused

pub returns-in-Err-Memory-clause-leaves : goal.returns-in-Err-Memory-clause-leaves
returns-in-Err-Memory-clause-leaves g c =
    let so = g.O.Sink.faults c.args.output.now in
    let sn = g.O.Sink.faults c.write_module.new.sink in
    let fo = g.F.Files.write_faults c.args.files.now in
    let fn = g.F.Files.write_faults c.write_module.new.files in
    let before = outputs (g.O.Sink.taken c.args.output.now) (g.F.Files.contents c.args.files.now) in
    let now = outputs (g.O.Sink.taken c.write_module.new.sink) (g.F.Files.contents c.write_module.new.files) in
    let same = unput c.args.place.now (written c.args.format (module_of c.args.checked.now)) before now c.in-Err-Memory.field-0 c.in-Err-Memory.field-0-is c.in-Err-Memory.ensures.put in
    let counts = unput_counts c.args.place.now so sn fo fn c.in-Err-Memory.field-0 c.in-Err-Memory.field-0-is c.in-Err-Memory.ensures.counts in
    let none = none_rose_without_memory c.args.place.now so sn fo fn counts in
    record {
      cannot_write = λ name told. absurd (let e = told in cc);
      output_fault = λ rose. tt;
      write_fault = λ (rose : fo < fn). absurd (omega (arith, rose, none.1));
      files = leaves_unput c.args.place.now before now _ _ so sn fo fn same c.in-Err-Memory.ensures.reads counts;
      reads = c.in-Err-Memory.ensures.reads;
      files_unwritten = kept_named _ _ _ _ (λ file early. early) c.in-Err-Memory.ensures.files_unused;
    }

pub returns-in-Err-Memory-clause-unwritten : goal.returns-in-Err-Memory-clause-unwritten
returns-in-Err-Memory-clause-unwritten g c = λ _. c.in-Err-Memory.ensures.memory (ap Err c.in-Err-Memory.field-0-is)
