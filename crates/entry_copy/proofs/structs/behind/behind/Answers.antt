use Rattle.std.proofs.Common.{◌<◌, ℕ, All, take, subst, arith}
use Rattle.std.proofs.lemmas.List.{take_all}
use Rattle.std.proofs.lemmas.List.Elements.{All-more, All-weaker}
use Rattle.item_build.proofs.OnTypes.Staying.{at_item}
use Rattle.entry_copy.proofs.structs.behind.behind.Goals as goal

pub loop-field-preserved : goal.loop-field-preserved
loop-field-preserved c =
    let xs = c.args.fields.now in
    let i = c.loop-field.field-index in
    let x = c.field-item.result in
    let test = c.loop-field-test.true in
    let below = at_item (λ (id : ℕ). id < c.args.count) xs i x test c.field-item.is c.requires in
    let old = c.loop-field.invariant.upto in
    let most = c.farther-behind.ensures in
    let P : ℕ → Type 0 = λ id. id < c.farther-behind.result in
    record {
      upto = omega (arith, below, old, most);
      past = All-more P xs i x test (All-weaker (λ (id : ℕ). id < c.loop-field.behind) P (λ id lt. omega (arith, lt, most)) (take i xs) c.loop-field.invariant.past)
          (subst P c.field-item.is (omega (arith, most)));
      least = λ fewer all. (
          let under = at_item (λ (id : ℕ). id < fewer) xs i x test c.field-item.is all in
          let before = c.loop-field.invariant.least fewer all in
          omega (arith, under, before, most)
          );
    }

pub returns-clause-past : goal.returns-clause-past
returns-clause-past c =
    let P : ℕ → Type 0 = λ id. id < c.loop-field.behind in
    subst (All P) (take_all c.loop-field.field-index c.args.fields.now (omega arith)) c.loop-field.invariant.past
