use Rattle.std.proofs.Common.{◌≡◌, [], Some, Contains, IsSome, slice_get, sym, subst, ◌∙◌, true≢false}
use Rattle.std.proofs.lemmas.Option.{get_or_from_slice_get}
use Rattle.type_table.specs.Limits.{IsWithinLimits}
use Rattle.type_table.specs.Shape.{shape}
use Rattle.type_table.specs.Tree.{named}
use Rattle.type_table.specs.Types.{names, structs}
use Rattle.item_build.proofs.OnTypes.Staying.{names_same}
use Rattle.item_build.proofs.types.builder.Builder.add_named.Goals as goal

pub unreachable-requires : goal.unreachable-requires
unreachable-requires c =
    let t = c.args.self.now.arena.table in
    let here = subst (λ ns. Contains ns c.args.name.now.name) (names_same t) c.requires.1 in
    let same = subst (λ n. Contains (names t) n) (sym c.in_ok-name.ensures) here in
    true≢false (sym (subst IsSome c.in_default.is (c.struct_of.ensures.present.1 (subst (λ u. Contains (names u) c.in_ok-name.name) (sym c.types.ensures) same))))

pub keep_type-requires-clause-fits : goal.keep_type-requires-clause-fits
keep_type-requires-clause-fits c =
    let t = c.args.self.now.arena.table in
    let found : slice_get (names t) c.in-Some.id ≡ Some c.in_ok-name.name = subst (λ u. slice_get (names u) c.in-Some.id ≡ Some c.in_ok-name.name) c.types.ensures c.in-Some.ensures.found in
    subst (λ n. IsWithinLimits (shape (structs t) (named n))) (sym (get_or_from_slice_get (names t) c.in-Some.id c.in_ok-name.name [] found ∙ c.in_ok-name.ensures)) c.requires.0
