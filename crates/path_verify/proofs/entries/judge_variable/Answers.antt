use Rattle.std.proofs.Common.{true, sym, ◌&&◌, List, [], ◌∷◌, ap, ◌∙◌, subst}
use Rattle.std.specs.Option.{option_map_or}
use Rattle.module_arena.specs.Constants.{fits}
use Rattle.module_arena.specs.Changes.{variable_in}
use Rattle.module_arena.specs.EntryRules.{linkage_suits, variable_types_suit}
use Rattle.module_arena.specs.Valid.{Demand, Global}
use Rattle.entry_verify.proofs.OnConstants.ConstantsKnown.{own_structs}
use Rattle.entry_verify.specs.Types.Judged.{Judged, asks}
use Rattle.path_verify.proofs.Asked.{demand}
use Rattle.entry_verify.proofs.OnEntries.EntriesFound.{some-map}
use Rattle.path_verify.proofs.entries.judge_variable.Goals as goal

pub returns : goal.returns
returns c =
    let a = c.args.judge.now in
    let v = c.args.variable.now in
    let linked = c.linkage_suits-linked.ensures ∙ ap (λ b. linkage_suits b v.linkage) (c.is_some.ensures ∙ some-map _ v.initialiser) in
    subst (λ (ds : List Demand). Judged ds c.judge_global.result)
    (ap (asks (Global v.name)) (λ j. c.asked.ensures j ∷ c.asked-2.ensures j ∷ c.asked-3.ensures j ∷ c.asked-4.ensures j ∷ c.asked-5.ensures j ∷ c.asked-6.ensures j ∷ c.asked-7.ensures j ∷ [])
    ∙ (λ j.
    demand (Global v.name) 2 (linked j)
    ∷ demand (Global v.name) 3 (c.common_suits-common.ensures j)
    ∷ demand (Global v.name) 4 (c.appending_suits-appending.ensures j)
    ∷ demand (Global v.name) 5 (c.variable_name_suits.ensures j && c.initialiser_takes_no_intrinsic.ensures j)
    ∷ demand (Global v.name) 6 ((c.variable_types_suit.ensures ∙ ap (λ s. variable_types_suit s (variable_in a v)) (sym (own_structs a))) j)
    ∷ demand (Global v.name) 7 (c.alignment_suits.ensures j)
    ∷ demand (Global v.name) 18 ((c.initialiser_fits.ensures ∙ ap (λ s. option_map_or (fits s (variable_in a v).ty) (variable_in a v).initialiser true) (sym (own_structs a))) j)
    ∷ []))
    c.judge_global.ensures
