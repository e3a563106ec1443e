use Rattle.std.proofs.Common.{◌≤◌, sym, ◌∙◌, arith, length}
use Rattle.std.proofs.lemmas.List.{get_or_default, same_lists}
use Rattle.type_table.specs.Measures.{opaque_measure}
use Rattle.type_table.proofs.settle.are_same.Goals as goal

pub returns : goal.returns
returns c = λ e.
    let same = c.if-one-other.false in
    let all : length c.args.one.now ≤ c.loop-i.i = omega arith in
    same_lists c.args.one.now c.args.other.now same
    (λ k d lt.
    get_or_default c.args.one.now k d opaque_measure lt
    ∙ c.loop-i.invariant k (omega (arith, all, lt))
    ∙ sym (get_or_default c.args.other.now k d opaque_measure (omega (arith, same, lt))))
