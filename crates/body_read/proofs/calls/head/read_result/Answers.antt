use Rattle.std.proofs.Common.{Bool, None, subst, sym}
use Rattle.record_read.specs.Fields.{texts_of}
use Rattle.type_read.proofs.OnArena.Lasting.{ok_by}
use Rattle.body_read.specs.Calls.Calls.{NamesResult}
use Rattle.body_read.proofs.OnCalls.Heads.{names_result, no_result}
use Rattle.body_read.proofs.calls.head.read_result.Goals as goal

pub returns-then-is_void : goal.returns-then-is_void
returns-then-is_void c =
    let texts = texts_of c.args.texts.now in
    subst (λ (b : Bool). NamesResult texts c.args.own b c.args.m.now c.args.m.now None) (sym c.if-is_void.true) (no_result texts c.args.own c.args.m.now)

pub returns : goal.returns
returns c =
    let texts = texts_of c.args.texts.now in
    ok_by c.read_label.result _ _ c.read_label.ensures
    (λ x h. subst (λ (b : Bool). NamesResult texts c.args.own b c.args.m.now (record c.args.m.now { reader = c.read_label.new.reader }) x) (sym c.if-is_void.false) (names_result c.args.texts.now c.args.own c.args.m.now c.read_label.new.reader x h))
