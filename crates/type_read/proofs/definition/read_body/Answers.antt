use Rattle.std.proofs.Common.{◌≡◌, subst}
use Rattle.record_table.specs.Walk.{ask}
use Rattle.type_read.proofs.Bodies.{body_some, body_none}
use Rattle.type_read.proofs.definition.read_body.Goals as goal

pub returns-in-Some : goal.returns-in-Some
returns-in-Some c =
    let asked = subst (λ b. c.ask.new.self ≡ record c.read_fields.new.reader { walk = ask 3 b c.read_fields.new.reader.walk }) c.may_have.ensures c.ask.ensures in
    body_some c.args.count _ _ _ _ _ _ _ c.read_below-code.ensures c.number-size.ensures asked _ _ (rw c.in-Some.is at c.in_ok-fields.ensures) c.body_of.ensures

pub returns-in-None : goal.returns-in-None
returns-in-None c =
    let asked = subst (λ b. c.ask.new.self ≡ record c.read_fields.new.reader { walk = ask 3 b c.read_fields.new.reader.walk }) c.may_have.ensures c.ask.ensures in
    body_none c.args.count _ _ _ _ _ _ _ c.read_below-code.ensures c.number-size.ensures asked (rw c.in-None.is at c.in_ok-fields.ensures)
