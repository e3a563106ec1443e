use Rattle.std.proofs.Common.{sym, subst, ap, ◌∙◌, arith}
use Rattle.item_build.proofs.OnTypes.Growing.{grows_on}
use Rattle.item_build.proofs.OnTypes.Staying.{structs_stay}
use Rattle.entry_copy.specs.Copies.{AllFit}
use Rattle.entry_copy.specs.Tables.{with_types}
use Rattle.entry_copy.proofs.copier.Copier.copy_types.Goals as goal

pub copy_type-requires-clause-copies : goal.copy_type-requires-clause-copies
copy_type-requires-clause-copies c =
    let can = c.requires.copies in
    let same = structs_stay c.args.into.now.arena c.types.into.arena c.types.invariant.grows in
    (can.0, c.types.invariant.copies can.0 can.1, subst (λ ss. AllFit can.0 ss c.args.from.now) (sym same) can.2)

pub types-preserved : goal.types-preserved
types-preserved c =
    let old = c.types.invariant in
    let step = c.in_ok-copy_type.ensures in
    let here = old.here in
    let past = old.past in
    let upto = old.upto in
    let one = step.one in
    let more = c.types-test.true in
    record {
      here = omega (arith, here, one);
      past = omega (arith, past);
      upto = omega (arith, more);
      grows = grows_on c.args.into.now.arena c.types.into.arena c.copy_type.new.into.arena old.grows step.grows;
      others = step.others ∙ ap (λ t. with_types t c.copy_type.new.self.types) old.others;
      copies = λ naming h. step.copies naming (old.copies naming h);
      within = λ naming whole h fit all. step.within naming whole (old.copies naming h) fit (old.within naming whole h fit all);
    }
