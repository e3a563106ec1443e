use Rattle.std.proofs.Common.{◌≡◌, Some, slice_get, subst, arith}
use Rattle.module_linker.specs.Filling.Filling.{IsFilling}
use Rattle.module_linker.proofs.filling.filling.define_first.Goals as goal

pub origin_at-origin-requires : goal.origin_at-origin-requires
origin_at-origin-requires c = omega (arith, c.requires.many, c.requires.upto, c.numbers-test.true)

pub define_symbol-requires-clause-origin : goal.define_symbol-requires-clause-origin
define_symbol-requires-clause-origin c = c.requires.origins c.numbers.number c.origin_at-origin.result.now c.origin_at-origin.ensures

pub define_symbol-requires-clause-id : goal.define_symbol-requires-clause-id
define_symbol-requires-clause-id c = subst (λ l. slice_get l c.numbers.number ≡ Some c.id_at-id.result) c.requires.ids c.id_at-id.ensures

pub returns : goal.returns
returns c =
    let end : c.numbers.number ≡ c.args.count = omega (arith, c.numbers-test.false, c.numbers.auto.number-end) in
    subst (λ n. IsFilling c.args.parts.now n c.numbers.into.arena c.args.copiers.now) end c.numbers.invariant
