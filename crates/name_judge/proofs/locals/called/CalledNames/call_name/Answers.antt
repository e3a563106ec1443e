use Rattle.std.proofs.Common.{ap, sym, ◌∙◌, Some, bytes_eq, cond}
use Rattle.type_table.specs.Names.Entries.{value_of}
use Rattle.name_judge.proofs.OnLocals.Calls.{name_called}
use Rattle.name_judge.proofs.locals.called.CalledNames.call_name.Goals as goal

pub returns : goal.returns
returns c =
    let old = c.args.self.now in
    let name = c.args.name.now in
    name_called _ _ name (ap (value_of old.names) (sym c.bytes.ensures.bytes) ∙ sym c.in_default.ensures) (λ j. old.next)
    (λ other. c.in_ok-put.ensures.put other ∙ ap (λ key. cond (bytes_eq other key) (Some name.place) (value_of old.names other)) c.bytes-2.ensures.bytes)
