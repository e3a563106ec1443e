use Rattle.std.proofs.Common.{ap, length, arith}
use Rattle.std.proofs.lemmas.List.{length-append}
use Rattle.run_rules.specs.Access.{string_at}
use Rattle.run_rules.specs.Host.{counts}
use Rattle.run_names.proofs.OnHost.Lengths.{counted}
use Rattle.run_names.proofs.OnHost.Refusals.{refusal_writes}
use Rattle.run_names.proofs.host.counted.string_length.Goals as goal

pub take_back-count-requires : goal.take_back-count-requires
take_back-count-requires c =
    let read = c.in-Ok.ensures in
    omega (arith, ap length read.2, length-append c.args.written.now.items read.0, c.push_string.new.into.ok.0, c.args.written.now.ok.0, c.len-before.ensures)

pub returns-in-Ok : goal.returns-in-Ok
returns-in-Ok c =
    let m = c.args.memory.now in
    let read = c.in-Ok.ensures in
    counted m (string_at m c.args.string) c.args.written.now.items c.push_string.new.into.items c.take_back-count.new.written.items read.0 c.len-before.result c.take_back-count.result c.one_leaf.result
    read.1 read.2 (omega (arith, c.len-before.ensures, c.args.written.now.ok.0)) (omega (arith, c.take_back-count.ensures.count, c.push_string.new.into.ok.0)) c.one_leaf.ensures
    c.take_back-count.ensures.items

pub returns-in-Err : goal.returns-in-Err
returns-in-Err c =
    let m = c.args.memory.now in
    let string = string_at m c.args.string in
    refusal_writes (counts m string) m string c.args.written.now.items c.push_string.new.into.items c.in-Err.fault c.refused.result (λ kind e. ap (counts m) e) c.in-Err.ensures c.refused.ensures
