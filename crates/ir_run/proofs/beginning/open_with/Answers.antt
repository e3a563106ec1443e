use Rattle.std.proofs.Common.{◌≡◌, Ok, subst}
use Rattle.run_acts.specs.Dues.{due_of}
use Rattle.run_initial.specs.Contents.Placed.{Fills}
use Rattle.run_names.specs.Entry.Mains.{main_seen}
use Rattle.run_names.specs.Told.{alone}
use Rattle.module_arena.specs.View.{module_of}
use Rattle.ir_memory.specs.Memory.{no_blocks}
use Rattle.run_rules.specs.Opening.{with_main, with_variables}
use Rattle.run_rules.specs.Plan.{plan}
use Rattle.ir_run.specs.Arguments.{KeepsBlocks, MakesMain}
use Rattle.ir_run.proofs.BehindVariables.{placed_later}
use Rattle.ir_run.proofs.OpenedRun.{all_placed, variables_full, words_full}
use Rattle.ir_run.proofs.beginning.open_with.Goals as goal

pub returns-then-not-all : goal.returns-then-not-all
returns-then-not-all c =
    let p = plan (alone (module_of c.args.names.now)) in
    variables_full p (main_seen c.args.main) c.args.words.now (subst (λ b. Fills b (with_variables p.variables no_blocks) c.place_all.new.memory) c.if-not-all.true c.in_ok-all.ensures.placed)

pub place_main-requires : goal.place_main-requires
place_main-requires c =
    let all = c.if-not-all.false in
    record {
      unsealed = (c.in_ok-all.ensures.fresh all).unsealed;
      next = c.in_ok-all.ensures.near all;
    }

pub returns-in_default : goal.returns-in_default
returns-in_default c =
    let p = plan (alone (module_of c.args.names.now)) in
    let m = c.place_all.new.memory in
    let made = subst (λ b. Fills b (with_variables p.variables no_blocks) m) c.if-not-all.false c.in_ok-all.ensures.placed in
    words_full p (main_seen c.args.main) c.args.words.now m made
    (subst (λ o. MakesMain (with_main (main_seen c.args.main) c.args.words.now m) o m c.place_main.new.memory) c.in_default.is c.in_ok-call.ensures)

pub put_contents-requires : goal.put_contents-requires
put_contents-requires c =
    let m = c.place_all.new.memory in
    let n = c.place_main.new.memory in
    let fresh = c.in_ok-all.ensures.fresh c.if-not-all.false in
    let has : (with_main (main_seen c.args.main) c.args.words.now m ≡ Ok (n, due_of c.in-Some.call)) × KeepsBlocks m n = subst (λ o. MakesMain (with_main (main_seen c.args.main) c.args.words.now m) o m n) c.in-Some.is c.in_ok-call.ensures in
    placed_later c.args.names.now m n fresh has.1

pub returns : goal.returns
returns c =
    let p = plan (alone (module_of c.args.names.now)) in
    let m = c.place_all.new.memory in
    let n = c.place_main.new.memory in
    let o = c.put_contents.new.memory in
    let made = subst (λ b. Fills b (with_variables p.variables no_blocks) m) c.if-not-all.false c.in_ok-all.ensures.placed in
    let has : (with_main (main_seen c.args.main) c.args.words.now m ≡ Ok (n, due_of c.in-Some.call)) × KeepsBlocks m n = subst (λ o. MakesMain (with_main (main_seen c.args.main) c.args.words.now m) o m n) c.in-Some.is c.in_ok-call.ensures in
    all_placed p (main_seen c.args.main) c.args.words.now m made n o c.seal_constants.new.self (due_of c.in-Some.call) c.in_ok-due.due has.0 c.in_ok-put_contents.ensures.stored c.seal_constants.ensures c.in_ok-due.ensures
