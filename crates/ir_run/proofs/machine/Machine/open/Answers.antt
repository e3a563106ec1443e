use Rattle.ir_run.specs.Seen.{the_machine}
use Rattle.ir_run.proofs.Begun.{ended_so, ready_so}
use Rattle.ir_run.proofs.Valid.{open_run_so}
use Rattle.ir_run.proofs.machine.Machine.open.Goals as goal

-- the run is over before it has begun
pub returns-in-Err : goal.returns-in-Err
returns-in-Err c = ended_so c.args.program.now c.in_ok-names.names c.args.words.now c.in_ok-opened.field-0 c.in-Err.end c.in_ok-names.ensures c.in_ok-opened.ensures c.in-Err.is

-- or it can begin
pub inside_of-requires : goal.inside_of-requires
inside_of-requires c =
    open_run_so c.args.program.now c.in_ok-names.names c.args.words.now c.in_ok-functions.functions c.in_ok-opened.field-0 c.in-Ok.opened c.arena-arena.ensures.well_formed c.arena-arena.ensures.valid c.see_words.ensures
    c.in_ok-names.ensures c.in_ok-opened.ensures c.in-Ok.is c.in_ok-functions.ensures

pub returns : goal.returns
returns c =
    ready_so c.args.program.now c.in_ok-names.names c.args.words.now c.in_ok-functions.functions c.in_ok-opened.field-0 c.in-Ok.opened (the_machine c.in_ok-inside.inside) c.in_ok-names.ensures c.in_ok-opened.ensures c.in-Ok.is c.in_ok-functions.ensures
    c.in_ok-inside.ensures
