use Rattle.std.proofs.Common.{◌≡◌, Some, refl, ap, ◌∙◌, arith}
use Rattle.std.proofs.lemmas.Bool.{or_parts, or_from}
use Rattle.bit_dump.specs.declared.walk.event.Event.TheVariants.{Begun, Ended, Defined, Held}
use Rattle.record_read.specs.Reader.{Reader}
use Rattle.record_read.proofs.Closing.{inside_one}
use Rattle.record_read.proofs.Passing.{passes_on, passes_none}
use Rattle.record_read.proofs.reader.RecordReader.pass_block.Goals as goal

pub pieces-init : goal.pieces-init
pieces-init c = (record { spent = (or_parts c.self.inside.overrun c.self.inside.walker.spent (ap (λ (r : Reader). r.spent) c.self.view_is ∙ c.requires)).1; fewer = omega arith; closes = λ t others h. inside_one t _ others h }, refl, c.self.invariant, (or_parts c.self.inside.overrun c.self.inside.walker.spent (ap (λ (r : Reader). r.spent) c.self.view_is ∙ c.requires)).0)

pub invariant_of-self : goal.invariant_of-self
invariant_of-self c = c.pieces.invariant.2

pub invariant_of-self-in_err-next : goal.invariant_of-self-in_err-next
invariant_of-self-in_err-next c = c.pieces.invariant.2

pub invariant_of-self-in_err-unclosed-in-Some-Begun : goal.invariant_of-self-in_err-unclosed-in-Some-Begun
invariant_of-self-in_err-unclosed-in-Some-Begun c = c.pieces.invariant.2

pub pieces-preserved-in-Some-Begun : goal.pieces-preserved-in-Some-Begun
pieces-preserved-in-Some-Begun c =
    let is : c.in_ok-next.field-0 ≡ Some (Begun c.in-Some-Begun.field-0-0) = cc in
    (passes_on _ _ _ _ c.pieces.unclosed _ _ (Begun c.in-Some-Begun.field-0-0) c.pieces.invariant.0 (omega arith) c.in_ok-next.ensures.walks is c.in_ok-unclosed-in-Some-Begun.ensures.more, c.pieces.invariant.1, c.pieces.invariant.2, c.in_ok-unclosed-in-Some-Begun.ensures.stays ∙ c.pieces.invariant.3)

pub pieces-preserved-in-Some-Ended : goal.pieces-preserved-in-Some-Ended
pieces-preserved-in-Some-Ended c =
    let is : c.in_ok-next.field-0 ≡ Some Ended = cc in
    (passes_on _ _ _ _ c.pieces.unclosed _ _ Ended c.pieces.invariant.0 (omega arith) c.in_ok-next.ensures.walks is refl, c.pieces.invariant.1, c.pieces.invariant.2, c.pieces.invariant.3)

pub pieces-preserved-in-Some-Held : goal.pieces-preserved-in-Some-Held
pieces-preserved-in-Some-Held c =
    let is : c.in_ok-next.field-0 ≡ Some (Held c.in-Some-Held.field-0-0) = cc in
    (passes_on _ _ _ _ c.pieces.unclosed _ _ (Held c.in-Some-Held.field-0-0) c.pieces.invariant.0 (omega arith) c.in_ok-next.ensures.walks is refl, c.pieces.invariant.1, c.pieces.invariant.2, c.pieces.invariant.3)

pub pieces-preserved : goal.pieces-preserved
pieces-preserved c =
    let is : c.in_ok-next.field-0 ≡ Some (Defined c.in-Some-Defined.field-0-0) = cc in
    (passes_on _ _ _ _ c.pieces.unclosed _ _ (Defined c.in-Some-Defined.field-0-0) c.pieces.invariant.0 (omega arith) c.in_ok-next.ensures.walks is refl, c.pieces.invariant.1, c.pieces.invariant.2, c.pieces.invariant.3)

pub invariant_of-self-in-None : goal.invariant_of-self-in-None
invariant_of-self-in-None c = c.pieces.invariant.2

pub returns-in-None : goal.returns-in-None
returns-in-None c =
    let none = passes_none _ _ _ _ c.pieces.unclosed _ c.pieces.invariant.0 (omega arith) c.in_ok-next.ensures.walks c.in-None.is in
    rw (← c.self.view_is) (or_from _ _ c.pieces.invariant.3 none.0, c.pieces.invariant.1, none.1, λ inside others before. none.2 before.tree others before.left_is)
