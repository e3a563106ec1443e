use Rattle.std.proofs.Common.{sym}
use Rattle.ir_memory.specs.Seen.{at}
use Rattle.ir_memory.proofs.Answering.{known-within}
use Rattle.ir_memory.proofs.Plain.{access-there, end-small, room-there}
use Rattle.ir_memory.proofs.access.plain_access.Goals as goal

pub offset_of-requires : goal.offset_of-requires
offset_of-requires c =
    let within = known-within (at c.args._pieces.now) c.args.kept.now c.args.pointer c.in_ok-index.index c.requires.known c.in_ok-index.was in
    end-small (at c.args._pieces.now) c.args.kept.now c.requires.sound.0 c.in_ok-index.index c.in_ok-block.block.now c.requires.sound.1 within c.in_ok-block.ensures

pub returns-clause-value : goal.returns-clause-value
returns-clause-value c = λ next sealed.
    let within = known-within (at c.args._pieces.now) c.args.kept.now c.args.pointer c.in_ok-index.index c.requires.known c.in_ok-index.was in
    access-there (at c.args._pieces.now) c.args.kept.now c.requires.sound.0 c.in_ok-index.index c.in_ok-block.block.now c.requires.sound.1 within c.in_ok-block.ensures
    c.args.pointer c.args.asked.count c.in_ok-offset.offset c.in_ok-index.was c.requires.some c.in_ok-offset.ensures.0 c.in_ok-offset.ensures.1
    next sealed c.args.asked.align c.args.asked.writes (sym c.if-is_fixed.ensures) (sym c.if-not-is_aligned.ensures)

pub returns-clause-room : goal.returns-clause-room
returns-clause-room c =
    let within = known-within (at c.args._pieces.now) c.args.kept.now c.args.pointer c.in_ok-index.index c.requires.known c.in_ok-index.was in
    room-there (at c.args._pieces.now) c.args.kept.now c.requires.sound.0 c.in_ok-index.index c.in_ok-block.block.now c.requires.sound.1 within c.in_ok-block.ensures
    c.args.pointer c.args.asked.count c.in_ok-offset.offset c.in_ok-index.was c.requires.some c.in_ok-offset.ensures.0 c.in_ok-offset.ensures.1
