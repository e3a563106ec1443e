use Rattle.std.proofs.Common.{length, map, sym, subst}
use Rattle.std.specs.Prelude.{zip}
use Rattle.ir_memory.specs.Answer.{Keeps}
use Rattle.ir_memory.specs.Given.{IsAddress}
use Rattle.ir_memory.specs.Memory.{Blocks}
use Rattle.typed_runs.specs.States.{AreStored}
use Rattle.run_actions.specs.Operands.{leaf_of}
use Rattle.run_actions.specs.Accesses.Done.{IsStoredAt}
use Rattle.run_actions.proofs.accesses.stores.put_value.Goals as goal

pub returns-then-put_integer-clause-stored : goal.returns-then-put_integer-clause-stored
returns-then-put_integer-clause-stored c = c.put_integer.ensures.stored c.if-put_integer.true

pub put_further-requires-clause-address : goal.put_further-requires-clause-address
put_further-requires-clause-address c =
    let same = c.put_integer.ensures.unchanged c.if-put_integer.false in
    subst (λ (m : Blocks). IsAddress m.list c.args.address) (sym same) c.requires.address

pub put_further-requires-clause-values : goal.put_further-requires-clause-values
put_further-requires-clause-values c =
    let a = c.args in
    let same = c.put_integer.ensures.unchanged c.if-put_integer.false in
    subst (λ (m : Blocks). AreStored (length m.list) (zip a.slots.now (map (leaf_of a.stack.now) a.value.now))) (sym same) c.requires.values

pub returns-clause-stored : goal.returns-clause-stored
returns-clause-stored c =
    let a = c.args in
    let same = c.put_integer.ensures.unchanged c.if-put_integer.false in
    subst (λ (m : Blocks). IsStoredAt {T = Unit {0}} a.address a.align (zip a.slots.now (map (leaf_of a.stack.now) a.value.now)) c.put_further.result m c.put_further.new.memory) same c.put_further.ensures.stored

pub returns-clause-kept : goal.returns-clause-kept
returns-clause-kept c =
    let same = c.put_integer.ensures.unchanged c.if-put_integer.false in
    subst (λ (m : Blocks). Keeps m c.put_further.new.memory) same c.put_further.ensures.kept
