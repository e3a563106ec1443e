use Rattle.std.proofs.Common.{◌≡◌, [], ◌∷◌, ◌++◌, Some, slice_get, ap, sym, ◌∙◌}
use Rattle.type_table.specs.Types.{names}
use Rattle.entry_verify.specs.Types.TypeFlags.{flag_of}
use Rattle.entry_verify.proofs.OnTypes.Flags.{flags_next}
use Rattle.entry_verify.proofs.types.types.flags_of.Goals as goal

pub loop-number-preserved : goal.loop-number-preserved
loop-number-preserved c =
    let t = c.args.types.now in
    let flags = c.loop-number.flags.items in
    let ty = c.get-ty.result.now in
    let at : slice_get t.types c.loop-number.number ≡ Some ty = ap (λ k. slice_get t.types k) (sym c.new.ensures) ∙ c.get-ty.ensures in
    let flag = c.flag_of-flag.ensures ∙ ap (λ fs. flag_of c.args.void_passes c.args.name_passes fs ty) c.deref.ensures.value in
    c.in_ok-push.ensures.items
    ∙ ap (λ f. flags ++ f ∷ []) flag
    ∙ flags_next c.args.void_passes c.args.name_passes (names t) t.types c.loop-number.number ty flags at c.loop-number.invariant
