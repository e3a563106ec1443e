use Rattle.std.proofs.Common.{ap, subst, sym}
use Rattle.run_rules.specs.Access.{string_at}
use Rattle.run_rules.specs.Host.{puts_line}
use Rattle.run_names.specs.Host.Answers.{Writes}
use Rattle.run_names.proofs.OnHost.Refusals.{refusal_writes}
use Rattle.run_names.proofs.host.written.put_line.Goals as goal

pub returns-in-Ok : goal.returns-in-Ok
returns-in-Ok c =
    let m = c.args.memory.now in
    let old = c.args.written.now.items in
    let read = c.in-Ok.ensures in
    subst (λ s. Writes (puts_line m s) m old c.end_line.new.written.items c.end_line.result) (sym read.1) (c.end_line.ensures m old read.0 read.2)

pub returns-in-Err : goal.returns-in-Err
returns-in-Err c =
    let m = c.args.memory.now in
    let string = string_at m c.args.string in
    refusal_writes (puts_line m string) m string c.args.written.now.items c.push_string.new.into.items c.in-Err.fault c.refused.result (λ kind e. ap (puts_line m) e) c.in-Err.ensures c.refused.ensures
