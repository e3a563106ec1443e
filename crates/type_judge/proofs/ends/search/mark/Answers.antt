use Rattle.std.proofs.Common.{◌≡◌, sym, subst, List, ℕ, Bool, get_or, set, true}
use Rattle.type_judge.specs.Ends.Reach.{AreMarks}
use Rattle.type_judge.proofs.OnEnds.Searching.{one_marked}
use Rattle.type_judge.proofs.ends.search.mark.Goals as goal

pub returns-clause-marks : goal.returns-clause-marks
returns-clause-marks c =
    let marks = c.args.search.now.marks.items in
    let new = sym (subst (λ (b : Bool). b ≡ get_or marks c.args.number b) c.if-index.false c.index.ensures) in
    subst (λ (queue : List ℕ). AreMarks (set marks c.args.number true) queue) (sym c.in_ok-push.ensures.items)
    (one_marked marks c.args.search.now.queue.items c.args.number c.requires.marks c.requires.within new)
