use Rattle.std.proofs.Common.{◌≡◌, suc, Some, length, refl, sym, ap, ◌∙◌, arith}
use Rattle.std.proofs.lemmas.Bool.{eq-eqb, ne_eqb, or_parts, or_from}
use Rattle.bit_dump.specs.declared.walk.event.Event.TheVariants.{Begun, Ended, Defined, Held}
use Rattle.record_read.specs.Reader.{Reader}
use Rattle.record_read.proofs.Passing.{gave_event, gave_none, fewer}
use Rattle.record_read.proofs.Advancing.{gives_block, gives_record, gives_end, gives_whole, past_definition, past_info}
use Rattle.record_read.proofs.reader.RecordReader.next.Goals as goal

pub entries-preserved-then-head-eq0 : goal.entries-preserved-then-head-eq0
entries-preserved-then-head-eq0 c =
    let view = c.self.view_is in
    let kept = c.entries.invariant in
    let sound = or_parts c.self.inside.overrun c.self.inside.walker.spent (ap (λ (r : Reader). r.spent) view ∙ kept.0) in
    let unspent = sound.1 in
    let left : c.self.inside.walker.left ≡ c.entries.self.left = ap (λ (r : Reader). r.left) view in
    let at : c.self.inside.at ≡ c.args.self.now.at = ap (λ (r : Reader). r.at) view ∙ kept.1 in
    let size : length c.self.inside.walker.left ≡ length c.entries.self.left = ap length left in
    let is : c.in_ok-head.field-0 ≡ Some (Begun c.in-Some-Begun.head) = cc in
    let g = gave_event _ c.self.inside.walker c.next.new.self c.in_ok-head.field-0 (Begun c.in-Some-Begun.head) unspent c.in_ok-head.ensures.walks is in
    let less = fewer c.self.inside.walker c.next.new.self (Begun c.in-Some-Begun.head) g in
    let p = c.in_ok-pass_block-in-Some-Begun.ensures in
    (p.0, p.1 ∙ at, omega (arith, p.2, less, size, kept.2), λ all others h. past_info c.entries.self.left c.next.new.self.left c.pass_block.new.self.left c.next.new.self.left all others _ _ _ (kept.3 all others h) (sym left ∙ g.1) (eq-eqb c.in-Some-Begun.head.id 0 c.if-head-eq0.true) refl p.3)

pub returns-in-Some-Begun-2 : goal.returns-in-Some-Begun-2
returns-in-Some-Begun-2 c =
    let view = c.self.view_is in
    let kept = c.entries.invariant in
    let sound = or_parts c.self.inside.overrun c.self.inside.walker.spent (ap (λ (r : Reader). r.spent) view ∙ kept.0) in
    let unspent = sound.1 in
    let left : c.self.inside.walker.left ≡ c.entries.self.left = ap (λ (r : Reader). r.left) view in
    let at : c.self.inside.at ≡ c.args.self.now.at = ap (λ (r : Reader). r.at) view ∙ kept.1 in
    let size : length c.self.inside.walker.left ≡ length c.entries.self.left = ap length left in
    let is : c.in_ok-head.field-0 ≡ Some (Begun c.in-Some-Begun.head) = cc in
    let g = gave_event _ c.self.inside.walker c.next.new.self c.in_ok-head.field-0 (Begun c.in-Some-Begun.head) unspent c.in_ok-head.ensures.walks is in
    let less = fewer c.self.inside.walker c.next.new.self (Begun c.in-Some-Begun.head) g in
    (or_from _ _ sound.0 g.0, omega (arith, less, size, kept.2), λ all others h. gives_block c.args.self.now _ c.entries.self.left c.next.new.self.left all others _ _ _ (kept.3 all others h) (sym left ∙ g.1) (ne_eqb c.in-Some-Begun.head.id 0 c.if-head-eq0.false) refl at)

pub returns-in-Some-Held : goal.returns-in-Some-Held
returns-in-Some-Held c =
    let view = c.self.view_is in
    let kept = c.entries.invariant in
    let sound = or_parts c.self.inside.overrun c.self.inside.walker.spent (ap (λ (r : Reader). r.spent) view ∙ kept.0) in
    let unspent = sound.1 in
    let left : c.self.inside.walker.left ≡ c.entries.self.left = ap (λ (r : Reader). r.left) view in
    let at : c.self.inside.at ≡ c.args.self.now.at = ap (λ (r : Reader). r.at) view ∙ kept.1 in
    let size : length c.self.inside.walker.left ≡ length c.entries.self.left = ap length left in
    let is : c.in_ok-head.field-0 ≡ Some (Held c.in-Some-Held.head) = cc in
    let g = gave_event _ c.self.inside.walker c.next.new.self c.in_ok-head.field-0 (Held c.in-Some-Held.head) unspent c.in_ok-head.ensures.walks is in
    let less = fewer c.self.inside.walker c.next.new.self (Held c.in-Some-Held.head) g in
    let one : c.in_ok-self-inside-in-Some-Held.field-0 ≡ suc c.args.self.now.at = omega (arith, c.in_ok-self-inside-in-Some-Held.ensures.more, at) in
    (or_from _ _ (c.in_ok-self-inside-in-Some-Held.ensures.stays ∙ sound.0) g.0, omega (arith, less, size, kept.2), λ all others h. gives_record c.args.self.now _ c.entries.self.left c.next.new.self.left all others _ _ _ _ _ (kept.3 all others h) (sym left ∙ g.1) refl one refl)

pub entries-preserved : goal.entries-preserved
entries-preserved c =
    let view = c.self.view_is in
    let kept = c.entries.invariant in
    let sound = or_parts c.self.inside.overrun c.self.inside.walker.spent (ap (λ (r : Reader). r.spent) view ∙ kept.0) in
    let unspent = sound.1 in
    let left : c.self.inside.walker.left ≡ c.entries.self.left = ap (λ (r : Reader). r.left) view in
    let at : c.self.inside.at ≡ c.args.self.now.at = ap (λ (r : Reader). r.at) view ∙ kept.1 in
    let size : length c.self.inside.walker.left ≡ length c.entries.self.left = ap length left in
    let is : c.in_ok-head.field-0 ≡ Some (Defined c.in-Some-Defined.field-0-0) = cc in
    let g = gave_event _ c.self.inside.walker c.next.new.self c.in_ok-head.field-0 (Defined c.in-Some-Defined.field-0-0) unspent c.in_ok-head.ensures.walks is in
    let less = fewer c.self.inside.walker c.next.new.self (Defined c.in-Some-Defined.field-0-0) g in
    (or_from _ _ sound.0 g.0, at, omega (arith, less, size, kept.2), λ all others h. past_definition c.entries.self.left c.next.new.self.left c.next.new.self.left all others _ _ (kept.3 all others h) (sym left ∙ g.1) refl)

pub returns-in-Some-Ended : goal.returns-in-Some-Ended
returns-in-Some-Ended c =
    let view = c.self.view_is in
    let kept = c.entries.invariant in
    let sound = or_parts c.self.inside.overrun c.self.inside.walker.spent (ap (λ (r : Reader). r.spent) view ∙ kept.0) in
    let unspent = sound.1 in
    let left : c.self.inside.walker.left ≡ c.entries.self.left = ap (λ (r : Reader). r.left) view in
    let at : c.self.inside.at ≡ c.args.self.now.at = ap (λ (r : Reader). r.at) view ∙ kept.1 in
    let size : length c.self.inside.walker.left ≡ length c.entries.self.left = ap length left in
    let is : c.in_ok-head.field-0 ≡ Some Ended = cc in
    let g = gave_event _ c.self.inside.walker c.next.new.self c.in_ok-head.field-0 Ended unspent c.in_ok-head.ensures.walks is in
    let less = fewer c.self.inside.walker c.next.new.self Ended g in
    (or_from _ _ sound.0 g.0, tt, λ all others h. gives_end c.args.self.now _ c.entries.self.left c.next.new.self.left all others (kept.3 all others h) (sym left ∙ g.1) refl at)

pub returns-in-None : goal.returns-in-None
returns-in-None c =
    let view = c.self.view_is in
    let kept = c.entries.invariant in
    let sound = or_parts c.self.inside.overrun c.self.inside.walker.spent (ap (λ (r : Reader). r.spent) view ∙ kept.0) in
    let unspent = sound.1 in
    let left : c.self.inside.walker.left ≡ c.entries.self.left = ap (λ (r : Reader). r.left) view in
    let at : c.self.inside.at ≡ c.args.self.now.at = ap (λ (r : Reader). r.at) view ∙ kept.1 in
    let size : length c.self.inside.walker.left ≡ length c.entries.self.left = ap length left in
    let g = gave_none _ c.self.inside.walker c.next.new.self c.in_ok-head.field-0 unspent c.in_ok-head.ensures.walks c.in-None.is in
    (or_from _ _ sound.0 g.0, tt, λ all others h. gives_whole c.args.self.now _ c.entries.self.left all others (kept.3 all others h) (sym left ∙ g.1) g.2 at)
