use Rattle.std.proofs.Common.{subst, sym}
use Rattle.ir_tables.specs.declared.opcode.Opcode.{Opcode}
use Rattle.record_read.specs.Fields.{texts_of}
use Rattle.type_read.proofs.OnArena.Lasting.{ok_by}
use Rattle.body_read.specs.Calls.Calls.{ReadsLine}
use Rattle.body_read.proofs.OnCalls.Lines.{giving_is}
use Rattle.body_read.proofs.calls.line.read_instruction.Goals as goal

pub returns-in-Call : goal.returns-in-Call
returns-in-Call c =
    ok_by c.read_call.result _ _ c.read_call.ensures
    (λ x h. subst (λ (o : Opcode). ReadsLine (texts_of c.args.texts.now) c.args.defined c.args.own o c.args.m.now c.read_call.new.m x) (sym c.in-Call.is) h)

pub returns-in-Store : goal.returns-in-Store
returns-in-Store c =
    ok_by c.read_store_line.result _ _ (c.read_store_line.ensures (texts_of c.args.texts.now) c.args.defined c.args.own)
    (λ x h. subst (λ (o : Opcode). ReadsLine (texts_of c.args.texts.now) c.args.defined c.args.own o c.args.m.now c.read_store_line.new.m x) (sym c.in-Store.is) h)

pub read_named-requires : goal.read_named-requires
read_named-requires c = giving_is c.args.opcode c.requires c.in_default.not-Call c.in_default.not-Store
