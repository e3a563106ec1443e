use Rattle.std.proofs.Common.{arith, subst, sym}
use Rattle.record_table.specs.Constants.{constant}
use Rattle.record_table.specs.Layout.{option}
use Rattle.type_read.specs.Arena.Kept.{tree_at}
use Rattle.type_read.proofs.OnArena.Steps.{still_known}
use Rattle.body_read.proofs.OnConstants.Making.{goes_number}
use Rattle.body_read.specs.Operands.Found.{Finds}
use Rattle.body_read.proofs.OnOperands.Leaves.{const_found}
use Rattle.bitcode_read.specs.Entry.Entries.{HasHeld, held_in}
use Rattle.bitcode_read.proofs.OnEntry.Initialisers.{initialiser_none, initialiser_some, initialiser_stopped}
use Rattle.bitcode_read.proofs.entry.holding.read_initialiser.Goals as goal

pub returns-in-0 : goal.returns-in-0
returns-in-0 c = initialiser_none (tree_at c.args.m.now.growing.arena.table c.args.ty) c.args.m.now c.number.new.self c.number.result c.number.ensures c.in-0.is

pub returns-in_ok-constant-in-1 : goal.returns-in_ok-constant-in-1
returns-in_ok-constant-in-1 c =
    let t = tree_at c.args.m.now.growing.arena.table c.args.ty in
    subst (Finds HasHeld held_in (λ k. (option (constant k t)).read) c.args.m.now c.read_constant.new.m) (sym c.written.ensures)
    (initialiser_some t c.args.m.now c.number.new.self c.read_constant.new.m c.number.result c.in_ok-constant-in-1.constant c.number.ensures c.in-1.is
    (const_found (λ k. (constant k t).read) (record c.args.m.now { reader = c.number.new.self }) c.read_constant.new.m c.in_ok-constant-in-1.constant c.in_ok-constant-in-1.ensures.keeps c.in_ok-constant-in-1.ensures.reads))

pub returns-in_default : goal.returns-in_default
returns-in_default c =
    initialiser_stopped (tree_at c.args.m.now.growing.arena.table c.args.ty) c.args.m.now c.number.new.self c.stop.new.self c.number.result c.number.ensures (omega arith) c.stop.ensures c.stops_where_broken.ensures

pub read_constant-requires : goal.read_constant-requires
read_constant-requires c =
    let m0 = c.args.m.now in
    still_known m0 (record m0 { reader = c.number.new.self }) c.args.ty (goes_number m0 c.number.new.self c.number.result c.number.ensures) c.requires
