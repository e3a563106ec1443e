use Rattle.std.proofs.Common.{length, sym, subst, ap, ◌∙◌, arith}
use Rattle.item_build.proofs.OnTypes.Growing.{grows_on}
use Rattle.entry_copy.specs.Copies.{CopiesTypes}
use Rattle.entry_copy.specs.Tables.{with_constants}
use Rattle.entry_copy.proofs.TypesCopied.{types_still, types_kept}
use Rattle.entry_copy.proofs.copier.Copier.copy_constants.Goals as goal

pub copy_constant-requires-clause-copies : goal.copy_constant-requires-clause-copies
copy_constant-requires-clause-copies c =
    let can = c.requires.copies in
    (can.0, can.1, c.constants.invariant.types can.0 can.2, c.constants.invariant.copies can.0 can.1 can.2 can.3)

pub constants-preserved : goal.constants-preserved
constants-preserved c =
    let a = c.args.from.now in
    let old = c.constants.invariant in
    let step = c.in_ok-copy_constant.ensures in
    let new = c.copy_constant.new.into.arena in
    let here = old.here in
    let one = step.one in
    let more = c.constants-test.true in
    let many = c.const_count-number-end.ensures in
    record {
      here = omega (arith, here, one);
      upto = omega (arith, more, many);
      grows = grows_on c.args.into.now.arena c.constants.into.arena new old.grows step.grows;
      others = step.others ∙ ap (λ t. with_constants t c.copy_constant.new.self.constants) old.others;
      types = λ naming h.
          subst (CopiesTypes naming a new) (sym step.others)
          (types_kept naming a new c.constants.self c.copy_constant.new.self.constants (types_still naming a c.constants.into.arena c.constants.self (old.types naming h) new step.grows));
      copies = λ naming calling types constants. step.copies naming calling (old.types naming types) (old.copies naming calling types constants);
    }

pub returns-clause-copies : goal.returns-clause-copies
returns-clause-copies c naming calling types constants =
    let all = c.constants.invariant in
    let here = all.here in
    let upto = all.upto in
    let past = c.constants-test.false in
    let many = c.const_count-number-end.ensures in
    record {
      types = all.types naming types;
      constants = all.copies naming calling types constants;
      all_types = ap (λ t. length t.types) all.others ∙ c.requires.all_types;
      all_constants = omega (arith, here, upto, past, many);
    }
