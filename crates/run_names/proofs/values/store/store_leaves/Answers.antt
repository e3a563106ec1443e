use Rattle.std.proofs.Common.{◌∙◌, length, refl, arith}
use Rattle.std.specs.Prelude.{zip}
use Rattle.run_rules.specs.Access.{stored_slots}
use Rattle.run_names.proofs.OnValues.Leaves.{one_is}
use Rattle.run_names.proofs.OnValues.Refusals.{stores_refused}
use Rattle.run_names.proofs.OnValues.Stored.{all_stored, fits_at, known_at, none_further, one_stored, pair_at, zip_long}
use Rattle.run_names.proofs.values.store.store_leaves.Goals as goal

pub slots-init : goal.slots-init
slots-init c = record { part = refl; kept = (refl, refl); alignment = c.requires.align }

pub store-requires-clause-fits : goal.store-requires-clause-fits
store-requires-clause-fits c =
    fits_at c.args.slots.now c.args.leaves.now c.requires.count c.slots.index c.index-slots-index.result c.slots-test.true c.index-slots-index.is
    (length c.args.memory.now.list) _ c.leaf.result c.requires.leaves c.leaf.ensures

pub store-requires-clause-known : goal.store-requires-clause-known
store-requires-clause-known c =
    known_at c.args.slots.now c.args.leaves.now c.requires.count c.slots.index c.index-slots-index.result c.slots-test.true c.index-slots-index.is
    c.slots.memory.list (length c.args.memory.now.list) _ c.requires.leaves c.slots.invariant.kept.0

pub slots-preserved : goal.slots-preserved
slots-preserved c = record {
  part =
      one_stored c.args.pointer c.args.align (zip c.args.slots.now c.args.leaves.now) c.args.memory.now c.slots.index c.slots.asked c.slots.memory c.store.new.self c.index-slots-index.result _
      c.offset.result c.behind.result c.leaf.result c.slots.invariant.part
      (pair_at c.args.slots.now c.args.leaves.now c.requires.count c.slots.index c.index-slots-index.result c.slots-test.true c.index-slots-index.is _) c.offset.ensures c.behind.ensures c.leaf.ensures
      c.in_ok-store.ensures.answer;
  kept = (c.in_ok-store.ensures.kept.0 ∙ c.slots.invariant.kept.0, c.in_ok-store.ensures.kept.1 ∙ c.slots.invariant.kept.1);
  alignment = one_is;
}

pub returns-in_err-store-clause-value : goal.returns-in_err-store-clause-value
returns-in_err-store-clause-value c =
    stores_refused (stored_slots c.args.pointer c.args.align (zip c.args.slots.now c.args.leaves.now) c.args.memory.now) _ _ _ c.store.new.self c.from_residual.result _ c.from_residual.ensures.0
    c.from_residual.ensures.1 c.in_err-store.ensures.answer
    (none_further c.args.pointer c.args.align (zip c.args.slots.now c.args.leaves.now) c.args.memory.now c.slots.index c.slots.asked c.slots.memory c.index-slots-index.result _ c.offset.result
    c.behind.result c.leaf.result c.slots.invariant.part
    (pair_at c.args.slots.now c.args.leaves.now c.requires.count c.slots.index c.index-slots-index.result c.slots-test.true c.index-slots-index.is _) c.offset.ensures c.behind.ensures
    c.leaf.ensures)

pub returns-clause-value : goal.returns-clause-value
returns-clause-value c =
    all_stored c.args.pointer c.args.align (zip c.args.slots.now c.args.leaves.now) c.args.memory.now c.slots.index c.slots.asked c.slots.memory c.slots.invariant.part
    (omega (arith, zip_long c.args.slots.now c.args.leaves.now c.requires.count))
