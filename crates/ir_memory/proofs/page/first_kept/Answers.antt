use Rattle.std.proofs.Common.{◌<◌, length, refl, sym, ◌∙◌, below_more, arith, inl, inr}
use Rattle.std.proofs.lemmas.Bool.{cases_lt}
use Rattle.std.proofs.lemmas.List.{get_or_default}
use Rattle.ir_memory.specs.Seen.{ended_block}
use Rattle.ir_memory.proofs.Paged.{row_past}
use Rattle.ir_memory.proofs.page.first_kept.Goals as goal

pub blocks-2-preserved : goal.blocks-2-preserved
blocks-2-preserved c =
    let rows = c.args.rows.now in
    let i = c.blocks-2.place in
    let lt : i < length rows = c.blocks-2-test.true in
    below_more _ _ c.blocks-2.invariant (get_or_default rows i ended_block c.index-rows-place.result lt ∙ sym c.index-rows-place.is ∙ c.if-not-is_gone.ensures.gone refl)

pub returns-clause-ended : goal.returns-clause-ended
returns-clause-ended c = λ _ k. elim (cases_lt k (length c.args.rows.now)) [
  | inl lt ↦ c.blocks-2.invariant k (omega (arith, lt, c.blocks-2-test.false))
  | inr le ↦ row_past c.args.rows.now k le
]
