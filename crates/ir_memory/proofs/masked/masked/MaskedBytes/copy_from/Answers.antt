use Rattle.std.proofs.Common.{◌≡◌, ◌+◌, ◌-◌, sym, ap, ◌∙◌, length, arith, false}
use Rattle.ir_memory.specs.Masked.Masked.{is_marked}
use Rattle.ir_memory.proofs.OnMasked.Puts.{length-masked, put-copied}
use Rattle.ir_memory.proofs.masked.masked.MaskedBytes.copy_from.Goals as goal

pub clear-requires-clause-within : goal.clear-requires-clause-within
clear-requires-clause-within c =
    let long = sym (length-masked _ _) ∙ ap length c.self.view_is in
    let other = sym (length-masked _ _) ∙ ap length c.other.view_is in
    omega (arith, long, other, c.self.inside.bytes.ok.0, c.self.inside.bytes.small, c.other.inside.bytes.ok.0, c.other.inside.bytes.small)

pub clear-requires-clause-small : goal.clear-requires-clause-small
clear-requires-clause-small c =
    let long = sym (length-masked _ _) ∙ ap length c.self.view_is in
    let other = sym (length-masked _ _) ∙ ap length c.other.view_is in
    omega (arith, long, other, c.self.inside.bytes.ok.0, c.self.inside.bytes.small, c.other.inside.bytes.ok.0, c.other.inside.bytes.small)

pub overflow_add-from : goal.overflow_add-from
overflow_add-from c =
    let long = sym (length-masked _ _) ∙ ap length c.self.view_is in
    let other = sym (length-masked _ _) ∙ ap length c.other.view_is in
    omega (arith, long, other, c.self.inside.bytes.ok.0, c.self.inside.bytes.small, c.other.inside.bytes.ok.0, c.other.inside.bytes.small)

pub slice_bounds-put_bytes-end : goal.slice_bounds-put_bytes-end
slice_bounds-put_bytes-end c =
    let long = sym (length-masked _ _) ∙ ap length c.self.view_is in
    let other = sym (length-masked _ _) ∙ ap length c.other.view_is in
    omega (arith, long, other, c.self.inside.bytes.ok.0, c.self.inside.bytes.small, c.other.inside.bytes.ok.0, c.other.inside.bytes.small)

pub put_bytes-requires : goal.put_bytes-requires
put_bytes-requires c =
    let long = sym (length-masked _ _) ∙ ap length c.self.view_is in
    let other = sym (length-masked _ _) ∙ ap length c.other.view_is in
    omega (arith, long, other, c.self.inside.bytes.ok.0, c.self.inside.bytes.small, c.other.inside.bytes.ok.0, c.other.inside.bytes.small)

pub copy_marks-requires-clause-within : goal.copy_marks-requires-clause-within
copy_marks-requires-clause-within c =
    let long = sym (length-masked _ _) ∙ ap length c.self.view_is in
    let other = sym (length-masked _ _) ∙ ap length c.other.view_is in
    omega (arith, long, other, c.self.inside.bytes.ok.0, c.self.inside.bytes.small, c.other.inside.bytes.ok.0, c.other.inside.bytes.small)

pub copy_marks-requires-clause-small : goal.copy_marks-requires-clause-small
copy_marks-requires-clause-small c =
    let long = sym (length-masked _ _) ∙ ap length c.self.view_is in
    let other = sym (length-masked _ _) ∙ ap length c.other.view_is in
    omega (arith, long, other, c.self.inside.bytes.ok.0, c.self.inside.bytes.small, c.other.inside.bytes.ok.0, c.other.inside.bytes.small)

pub copy_marks-requires-clause-others : goal.copy_marks-requires-clause-others
copy_marks-requires-clause-others c =
    let long = sym (length-masked _ _) ∙ ap length c.self.view_is in
    let other = sym (length-masked _ _) ∙ ap length c.other.view_is in
    omega (arith, long, other, c.self.inside.bytes.ok.0, c.self.inside.bytes.small, c.other.inside.bytes.ok.0, c.other.inside.bytes.small)

pub copy_marks-requires-clause-others_small : goal.copy_marks-requires-clause-others_small
copy_marks-requires-clause-others_small c =
    let long = sym (length-masked _ _) ∙ ap length c.self.view_is in
    let other = sym (length-masked _ _) ∙ ap length c.other.view_is in
    omega (arith, long, other, c.self.inside.bytes.ok.0, c.self.inside.bytes.small, c.other.inside.bytes.ok.0, c.other.inside.bytes.small)

pub overflow_add-from-2 : goal.overflow_add-from-2
overflow_add-from-2 c =
    let long = sym (length-masked _ _) ∙ ap length c.self.view_is in
    let other = sym (length-masked _ _) ∙ ap length c.other.view_is in
    omega (arith, long, other, c.self.inside.bytes.ok.0, c.self.inside.bytes.small, c.other.inside.bytes.ok.0, c.other.inside.bytes.small)

pub slice_bounds-put_bytes-end-2 : goal.slice_bounds-put_bytes-end-2
slice_bounds-put_bytes-end-2 c =
    let long = sym (length-masked _ _) ∙ ap length c.self.view_is in
    let other = sym (length-masked _ _) ∙ ap length c.other.view_is in
    omega (arith, long, other, c.self.inside.bytes.ok.0, c.self.inside.bytes.small, c.other.inside.bytes.ok.0, c.other.inside.bytes.small)

pub put_bytes-requires-2 : goal.put_bytes-requires-2
put_bytes-requires-2 c =
    let long = sym (length-masked _ _) ∙ ap length c.self.view_is in
    let other = sym (length-masked _ _) ∙ ap length c.other.view_is in
    omega (arith, long, other, c.self.inside.bytes.ok.0, c.self.inside.bytes.small, c.other.inside.bytes.ok.0, c.other.inside.bytes.small)

pub returns-then-other : goal.returns-then-other
returns-then-other c =
    let long = sym (length-masked _ _) ∙ ap length c.self.view_is in
    let other = sym (length-masked _ _) ∙ ap length c.other.view_is in
    rw (← c.self.view_is, ← c.other.view_is, c.put_bytes.ensures.items, c.deref.ensures.value)
    (put-copied _ _ c.self.inside.bytes.items c.other.inside.marks c.other.inside.bytes.items c.args.at c.args.from c.args.count (λ k. false) (omega (arith, long)) (omega (arith, other)) c.clear.ensures.marks (λ k h. sym (c.other.invariant.1 c.if-other.true (c.args.from + k))))

pub returns : goal.returns
returns c =
    let long = sym (length-masked _ _) ∙ ap length c.self.view_is in
    let other = sym (length-masked _ _) ∙ ap length c.other.view_is in
    let marks = c.other.inside.marks in
    rw (← c.self.view_is, ← c.other.view_is, c.put_bytes-2.ensures.items, c.deref-2.ensures.value)
    (put-copied _ _ c.self.inside.bytes.items marks c.other.inside.bytes.items c.args.at c.args.from c.args.count (λ k. is_marked marks (c.args.from + (k - c.args.at))) (omega (arith, long)) (omega (arith, other)) c.copy_marks.ensures.marks
    (λ k h. let e : c.args.from + (c.args.at + k - c.args.at) ≡ c.args.from + k = omega arith in ap (λ n. is_marked marks n) e))
