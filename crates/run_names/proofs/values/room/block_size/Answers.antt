use Rattle.std.proofs.Common.{◌≡◌, ◌*◌, Some, sym, ap, ◌∙◌, arith}
use Rattle.run_rules.specs.Access.{has_room}
use Rattle.run_names.proofs.OnValues.Fitting.{fitting}
use Rattle.run_names.proofs.values.room.block_size.Goals as goal

pub returns-then-size-eq0-clause-value : goal.returns-then-size-eq0-clause-value
returns-then-size-eq0-clause-value c =
    let none : c.args.count * c.args.size ≡ 0 = rw c.if-size-eq0.true (omega arith) in
    ap Some (sym none)
    ∙ fitting (λ n. has_room n c.args.memory.now) c.room_left-left.result c.room_left-left.ensures.left (c.args.count * c.args.size) (omega (arith, none))
