use Rattle.std.proofs.Common.{◌≡◌, ◌<◌, ◌+◌, ℕ, length, get_or, set, slice_get, Some, arith, sym, ap, ◌∙◌, subst}
use Rattle.std.specs.Prelude.{slice_index_or}
use Rattle.std.proofs.lemmas.List.{length-set}
use Rattle.std.proofs.lemmas.Option.{slice_get-get_or}
use Rattle.module_arena.specs.declared.instruction.Incoming.{Incoming}
use Rattle.instruction_verify.specs.Uses.Agreeing.{agree_at}
use Rattle.instruction_verify.proofs.OnUses.Agreed.{AreLast, fails_kept, lasts_kept, told_by}
use Rattle.instruction_verify.proofs.uses.agreeing.do_entries_agree.Goals as goal

pub entries-preserved : goal.entries-preserved
entries-preserved c =
    let incoming = c.args.incoming.now in
    let classes = c.args.classes.now in
    let i = c.entries.number in
    let last = c.entries.last in
    let d = c.index-incoming-number.result in
    let y : Incoming = get_or incoming i d in
    let lt : i < length incoming = omega arith in
    let at : slice_get incoming i ≡ Some y = slice_get-get_or incoming i d lt in
    let known : y.block < length last = omega (arith, c.requires.blocks i d lt, c.entries.invariant.len) in
    let check : c.agrees_with-agree.result ≡ agree_at classes incoming (slice_index_or last y.block 0) i = c.agrees_with-agree.ensures ∙ ap (λ (k : ℕ). agree_at classes incoming (get_or last k 0) i) c.number-block.ensures in
    record {
      len = omega (arith, length-set last c.number-block.result i, c.entries.invariant.len);
      lasts = λ e. subst (λ (k : ℕ). AreLast classes incoming (i + 1) (set last k i)) (sym c.number-block.ensures) (lasts_kept classes incoming i y at last known c.entries.agree c.agrees_with-agree.result check c.entries.invariant.lasts e);
      fails = fails_kept classes incoming i y at last known c.entries.agree c.agrees_with-agree.result check c.entries.invariant.fails;
    }

pub returns-clause-agree : goal.returns-clause-agree
returns-clause-agree c =
    let incoming = c.args.incoming.now in
    let i : c.entries.number ≡ length incoming = omega arith in
    told_by c.args.classes.now incoming c.entries.last c.entries.agree
    (λ e. subst (λ (k : ℕ). AreLast c.args.classes.now incoming k c.entries.last) i (c.entries.invariant.lasts e)) c.entries.invariant.fails
