use Rattle.std.proofs.Common.{◌≡◌, ◌+◌, ◌-◌, sym, ap, ◌∙◌, length, arith, refl, Bool, true, false}
use Rattle.std.specs.Prelude.{if◌then◌else◌}
use Rattle.ir_memory.specs.Masked.Masked.{is_marked}
use Rattle.ir_memory.proofs.OnMasked.Puts.{length-masked, put-copied}
use Rattle.ir_memory.proofs.masked.masked.MaskedBytes.copy_within.Goals as goal

either : (t x : Bool) → x ≡ (if t then x else x)
either true x = refl
either false x = refl

pub move_bytes-requires-clause-target : goal.move_bytes-requires-clause-target
move_bytes-requires-clause-target c = let long = sym (length-masked _ _) ∙ ap length c.self.view_is in omega (arith, long, c.self.inside.bytes.ok.0, c.self.inside.bytes.small)

pub move_bytes-requires-clause-source : goal.move_bytes-requires-clause-source
move_bytes-requires-clause-source c = let long = sym (length-masked _ _) ∙ ap length c.self.view_is in omega (arith, long, c.self.inside.bytes.ok.0, c.self.inside.bytes.small)

pub move_marks-requires-clause-within : goal.move_marks-requires-clause-within
move_marks-requires-clause-within c = let long = sym (length-masked _ _) ∙ ap length c.self.view_is in omega (arith, long, c.self.inside.bytes.ok.0, c.self.inside.bytes.small)

pub move_marks-requires-clause-small : goal.move_marks-requires-clause-small
move_marks-requires-clause-small c = let long = sym (length-masked _ _) ∙ ap length c.self.view_is in omega (arith, long, c.self.inside.bytes.ok.0, c.self.inside.bytes.small)

pub move_marks-requires-clause-others : goal.move_marks-requires-clause-others
move_marks-requires-clause-others c = let long = sym (length-masked _ _) ∙ ap length c.self.view_is in omega (arith, long, c.self.inside.bytes.ok.0, c.self.inside.bytes.small)

pub move_marks-requires-clause-others_small : goal.move_marks-requires-clause-others_small
move_marks-requires-clause-others_small c = let long = sym (length-masked _ _) ∙ ap length c.self.view_is in omega (arith, long, c.self.inside.bytes.ok.0, c.self.inside.bytes.small)

pub move_bytes-requires-2-clause-target : goal.move_bytes-requires-2-clause-target
move_bytes-requires-2-clause-target c = let long = sym (length-masked _ _) ∙ ap length c.self.view_is in omega (arith, long, c.self.inside.bytes.ok.0, c.self.inside.bytes.small)

pub move_bytes-requires-2-clause-source : goal.move_bytes-requires-2-clause-source
move_bytes-requires-2-clause-source c = let long = sym (length-masked _ _) ∙ ap length c.self.view_is in omega (arith, long, c.self.inside.bytes.ok.0, c.self.inside.bytes.small)

pub returns-then-self : goal.returns-then-self
returns-then-self c =
    let long = sym (length-masked _ _) ∙ ap length c.self.view_is in
    let words = c.self.inside.marks in
    let none = c.self.invariant.1 c.if-self.true in
    rw (← c.self.view_is, c.move_bytes.ensures.items)
    (put-copied words words c.self.inside.bytes.items words c.self.inside.bytes.items c.args.at c.args.from c.args.count (λ k. is_marked words k) (omega (arith, long)) (omega (arith, long)) (λ k. either _ (is_marked words k))
    (λ k h. none (c.args.at + k) ∙ sym (none (c.args.from + k))))

pub returns : goal.returns
returns c =
    let long = sym (length-masked _ _) ∙ ap length c.self.view_is in
    let marks = c.self.inside.marks in
    rw (← c.self.view_is, c.move_bytes-2.ensures.items)
    (put-copied _ _ c.self.inside.bytes.items marks c.self.inside.bytes.items c.args.at c.args.from c.args.count (λ k. is_marked marks (c.args.from + (k - c.args.at))) (omega (arith, long)) (omega (arith, long)) c.move_marks.ensures.marks
    (λ k h. let e : c.args.from + (c.args.at + k - c.args.at) ≡ c.args.from + k = omega arith in ap (λ n. is_marked marks n) e))
