use Rattle.std.proofs.Common.{arith}
use Rattle.std.proofs.lemmas.Option.{slice_get_within}
use Rattle.item_build.proofs.OnTypes.Growing.{grows_on}
use Rattle.module_linker.proofs.ids.constants.copy_constants.Goals as goal

pub parts-preserved : goal.parts-preserved
parts-preserved c =
    let step = c.in_ok-copy_of_part.ensures in
    record {
      upto = omega arith;
      grows = grows_on c.args.into.now.arena c.parts.into.arena c.copy_of_part.new.into.arena c.parts.invariant.grows step.grows;
      copied = step.copied;
    }

pub returns-clause-copied : goal.returns-clause-copied
returns-clause-copied c =
    let h = c.parts.invariant.copied in
    record {
      count = h.types.count;
      each = λ i a t one two.
          let lt = slice_get_within c.args.parts.now i a one in
          let past = c.parts-test.false in
          h.through i a t (omega (arith, lt, past)) one two;
    }
