use Rattle.std.proofs.Common.{◌<◌, ℕ, List, length, Some, slice_get, sym, ap, ◌∙◌, arith}
use Rattle.std.proofs.lemmas.Option.{slice_get-get_or}
use Rattle.tool_cli.proofs.work.first_text.Goals as goal

pub swap_remove-requires : goal.swap_remove-requires
swap_remove-requires c = omega (arith, c.requires, ap length c.into_vec-all.ensures, c.into_vec-all.result.ok.0)

pub returns : goal.returns
returns c =
    let all = c.into_vec-all.result.items in
    let lt : 0 < length all = omega (arith, c.requires, ap length c.into_vec-all.ensures) in
    ap (λ (texts : List (List ℕ)). slice_get texts 0) (sym c.into_vec-all.ensures) ∙ slice_get-get_or all 0 c.swap_remove.result lt ∙ ap (λ (text : List ℕ). Some text) (sym c.swap_remove.ensures.value)
