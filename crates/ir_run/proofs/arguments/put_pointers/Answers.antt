use Rattle.std.proofs.Common.{◌≡◌, ℕ, length, refl, sym, subst, arith}
use Rattle.ir_memory.specs.Given.{IsBlock}
use Rattle.run_initial.specs.Initial.Fresh.{put}
use Rattle.run_initial.proofs.OnInitial.Puts.{kept_on}
use Rattle.ir_run.proofs.Blocks.{known_at}
use Rattle.ir_run.proofs.Rows.{null_stored, pointer_read, pointer_refused, row_from}
use Rattle.ir_run.proofs.arguments.put_pointers.Goals as goal

pub pointers-init : goal.pointers-init
pointers-init c = record { put = refl; kept = (refl, refl) }

pub put_pointer-requires : goal.put_pointer-requires
put_pointer-requires c =
    let count = c.pointers.invariant.kept.0 in
    record {
      within = omega (arith, c.pointers-test.true, c.requires.few);
      block = subst (λ (n : ℕ). IsBlock n c.args.block.block) (sym count) c.requires.block;
      pointer = known_at c.args.memory.now.list c.pointers.memory.list c.args.pointers.now c.pointers.place _ count c.requires.known c.pointers-test.true;
    }

pub pointers-preserved : goal.pointers-preserved
pointers-preserved c =
    let i = c.pointers.invariant in
    record {
      put = pointer_read c.args.block c.args.pointers.now c.pointers.place c.pointers.memory c.put_pointer.new.memory (put c.args.block (row_from 0 c.args.pointers.now) c.args.memory.now) _ i.put c.pointers-test.true c.in_ok-put_pointer.ensures.put;
      kept = kept_on c.args.memory.now c.pointers.memory c.put_pointer.new.memory i.kept c.in_ok-put_pointer.ensures.kept;
    }

pub returns-in_err-put_pointer-clause-put : goal.returns-in_err-put_pointer-clause-put
returns-in_err-put_pointer-clause-put c =
    pointer_refused c.args.block c.args.pointers.now c.pointers.place c.pointers.memory c.put_pointer.new.memory (put c.args.block (row_from 0 c.args.pointers.now) c.args.memory.now) _ c.from_residual.result _ c.pointers.invariant.put c.pointers-test.true
    c.from_residual.ensures.0 c.from_residual.ensures.1 c.in_err-put_pointer.ensures.put

pub put_pointer-requires-2 : goal.put_pointer-requires-2
put_pointer-requires-2 c =
    let count = c.pointers.invariant.kept.0 in
    record {
      within = omega (arith, c.requires.few);
      block = subst (λ (n : ℕ). IsBlock n c.args.block.block) (sym count) c.requires.block;
      pointer = tt;
    }

pub returns-clause-put : goal.returns-clause-put
returns-clause-put c =
    let ps = c.args.pointers.now in
    let e : c.pointers.place ≡ length ps = omega (arith, c.pointers-test.false, c.pointers.auto.place-end) in
    null_stored c.args.block ps c.pointers.place c.pointers.memory c.put_pointer-2.new.memory (put c.args.block (row_from 0 ps) c.args.memory.now) c.pointers.invariant.put e c.put_pointer-2.result c.put_pointer-2.ensures.put
