use Rattle.std.proofs.Common.{ℕ, Option, subst, sym}
use Rattle.record_table.specs.Constants.{by_code, value}
use Rattle.type_read.specs.Arena.Growing.{IsConstant}
use Rattle.type_read.specs.Arena.Kept.{IsKnownType, IsRead, tree_at}
use Rattle.type_read.proofs.OnArena.Steps.{still_known}
use Rattle.body_read.specs.Constants.Made.{inner_of}
use Rattle.body_read.proofs.OnConstants.Making.{goes_number}
use Rattle.body_read.specs.Operands.Found.{Finds, HasValue, value_in}
use Rattle.body_read.proofs.OnOperands.Leaves.{local_value_found, known_value_found}
use Rattle.body_read.proofs.operands.value.read_value.Goals as goal

pub read_coded-requires : goal.read_coded-requires
read_coded-requires c =
    let m0 = c.args.m.now in
    let m1 = record m0 { reader = c.number-code.new.self } in
    subst (IsKnownType m1) (sym c.same.ensures) (still_known m0 m1 c.args.ty.now (goes_number m0 c.number-code.new.self c.number-code.result c.number-code.ensures) c.requires)

pub returns-then-code-eq0 : goal.returns-then-code-eq0
returns-then-code-eq0 c =
    let m0 = c.args.m.now in
    let t = tree_at m0.growing.arena.table c.args.ty.now in
    subst (Finds HasValue value_in (λ k. (value k t).read) m0 c.read_local-id.new.m) (sym c.local_value.ensures)
    (local_value_found t m0 c.number-code.new.self c.read_local-id.new.m c.number-code.result c.read_local-id.result c.number-code.ensures c.if-code-eq0.true c.read_local-id.ensures.takes c.read_local-id.ensures.reads)

pub returns : goal.returns
returns c =
    let m0 = c.args.m.now in
    let r = c.number-code.new.self in
    let t = tree_at m0.growing.arena.table c.args.ty.now in
    subst (Finds HasValue value_in (λ k. (value k t).read) m0 c.read_coded.new.m) (sym c.known_value.ensures)
    (known_value_found t m0 r c.read_coded.new.m c.number-code.result c.in_ok-id.id c.number-code.ensures c.if-code-eq0.false c.in_ok-id.ensures.keeps
    (λ k n. subst (λ (o : Option ℕ). IsRead k IsConstant (by_code k (inner_of k 64) c.number-code.result (tree_at m0.growing.arena.table o) r.walk) (record m0 { reader = r }) c.read_coded.new.m c.in_ok-id.id) c.same.ensures (c.in_ok-id.ensures.reads k n)))
