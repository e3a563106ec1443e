use Rattle.std.proofs.Common.{inl, inr}
use Rattle.ir_syntax.specs.View.{items_view}
use Rattle.ir_syntax.proofs.Refusals.{one_refusal, refused_bad}
use Rattle.ir_syntax.proofs.Results.{answer_items, answer_bad, one_items, items_not_bad}
use Rattle.ir_syntax.proofs.Sizes.{items_few}
use Rattle.ir_syntax.proofs.Formed.{items_formed}
use Rattle.ir_syntax.proofs.read.read_items.Goals as goal

pub returns-in-Ok-clause-items : goal.returns-in-Ok-clause-items
returns-in-Ok-clause-items c =
    rw c.from_vec.ensures (answer_items c.args.text.now (items_view c.in-Ok.items.items) (rw c.new-cursor.ensures.start at c.in-Ok.ensures).0)

pub returns-in-Ok-clause-one : goal.returns-in-Ok-clause-one
returns-in-Ok-clause-one c =
    rw c.from_vec.ensures (λ others h. one_items c.args.text.now (items_view c.in-Ok.items.items) others (answer_items c.args.text.now (items_view c.in-Ok.items.items) (rw c.new-cursor.ensures.start at c.in-Ok.ensures).0) h)

pub returns-in-Ok-clause-count : goal.returns-in-Ok-clause-count
returns-in-Ok-clause-count c =
    rw c.from_vec.ensures (items_few c.args.text.now (items_view c.in-Ok.items.items) c.new-cursor.ensures.few c.requires (answer_items c.args.text.now (items_view c.in-Ok.items.items) (rw c.new-cursor.ensures.start at c.in-Ok.ensures).0))

pub returns-in-Ok-clause-shape : goal.returns-in-Ok-clause-shape
returns-in-Ok-clause-shape c =
    rw c.from_vec.ensures (items_formed c.args.text.now (items_view c.in-Ok.items.items) (answer_items c.args.text.now (items_view c.in-Ok.items.items) (rw c.new-cursor.ensures.start at c.in-Ok.ensures).0))

pub returns-in-Ok-clause-only_refused : goal.returns-in-Ok-clause-only_refused
returns-in-Ok-clause-only_refused c =
    λ fault r. absurd (let b = refused_bad c.args.text.now fault r in items_not_bad c.args.text.now (items_view c.in-Ok.items.items) b.0 (answer_items c.args.text.now (items_view c.in-Ok.items.items) (rw c.new-cursor.ensures.start at c.in-Ok.ensures).0) b.1)

pub refusal-requires-clause-first_bad : goal.refusal-requires-clause-first_bad
refusal-requires-clause-first_bad c = answer_bad c.args.text.now _ (rw (c.in-Err-Refused.field-0-is, c.new-cursor.ensures.start) at c.in-Err-Refused.ensures).0

pub returns-in-Err-Refused-clause-only : goal.returns-in-Err-Refused-clause-only
returns-in-Err-Refused-clause-only c =
    λ items h. elim c.refusal.ensures [
      | inl r ↦ absurd (let b = refused_bad c.args.text.now c.refusal.result r in items_not_bad c.args.text.now items b.0 h b.1)
      | inr e ↦ e
    ]

pub returns-in-Err-Refused-clause-only_refused : goal.returns-in-Err-Refused-clause-only_refused
returns-in-Err-Refused-clause-only_refused c =
    λ fault r. elim c.refusal.ensures [ inl q ↦ inl (one_refusal c.args.text.now c.refusal.result fault q r) | inr e ↦ inr e ]
