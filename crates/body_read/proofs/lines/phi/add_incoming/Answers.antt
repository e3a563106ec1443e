use Rattle.std.proofs.Common.{◌≡◌, ◌++◌, Option, OnOk, subst}
use Rattle.std.specs.Prelude.{option_to_list}
use Rattle.module_arena.specs.declared.instruction.Incoming.{Incoming}
use Rattle.body_read.proofs.lines.phi.add_incoming.Goals as goal

pub returns : goal.returns
returns c =
    subst (λ (o : Option Incoming). OnOk c.push_incoming.result (c.push_incoming.new.all.items ≡ c.args.all.now.items ++ option_to_list o)) c.incoming_of.ensures c.push_incoming.ensures
