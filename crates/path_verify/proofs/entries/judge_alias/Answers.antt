use Rattle.std.proofs.Common.{not, List, [], ◌∷◌, length, sym, ap, ◌∙◌, subst}
use Rattle.module_arena.specs.Changes.{alias_in}
use Rattle.module_arena.specs.EntryRules.{alias_names_suit, alias_suits, alias_types_suit}
use Rattle.module_arena.specs.Known.{KnowsAlias, counts}
use Rattle.module_arena.specs.Lists.{Lists}
use Rattle.module_arena.specs.Valid.{Demand, Global}
use Rattle.module_arena.specs.View.{module_of}
use Rattle.entry_verify.proofs.OnConstants.ConstantsKnown.{own_structs}
use Rattle.entry_verify.specs.Types.Judged.{Judged, asks}
use Rattle.path_verify.proofs.Asked.{demand}
use Rattle.path_verify.proofs.entries.judge_alias.Goals as goal

pub alias_names_suit-requires : goal.alias_names_suit-requires
alias_names_suit-requires c = subst (λ (b : Lists). KnowsAlias (length b.table.types) (counts b) c.args.alias.now) (sym c.arena-arena.ensures) c.requires

pub alias_suits-requires : goal.alias_suits-requires
alias_suits-requires c = subst (λ (b : Lists). KnowsAlias (length b.table.types) (counts b) c.args.alias.now) (sym c.arena-arena.ensures) c.requires

pub returns : goal.returns
returns c =
    let a = c.args.judge.now in
    let x = c.args.alias.now in
    let named = c.alias_names_suit.ensures ∙ ap (λ (b : Lists). alias_names_suit (module_of b) (alias_in b x)) c.arena-arena.ensures in
    let aimed = c.alias_suits.ensures ∙ ap (λ (b : Lists). alias_suits (module_of b) (alias_in b x)) c.arena-arena.ensures in
    subst (λ (ds : List Demand). Judged ds c.judge_global.result)
    (ap (asks (Global x.name)) (λ j. c.asked.ensures j ∷ c.asked-2.ensures j ∷ c.asked-3.ensures j ∷ c.asked-4.ensures j ∷ c.asked-5.ensures j ∷ c.asked-6.ensures j ∷ [])
    ∙ (λ j.
    demand (Global x.name) 2 (c.linkage_suits.ensures j)
    ∷ demand (Global x.name) 3 (not (c.is_common.ensures j))
    ∷ demand (Global x.name) 4 (not (c.is_appending.ensures j))
    ∷ demand (Global x.name) 5 (named j)
    ∷ demand (Global x.name) 6 ((c.alias_types_suit.ensures ∙ ap (λ s. alias_types_suit s (alias_in a x).ty) (sym (own_structs a))) j)
    ∷ demand (Global x.name) 19 (aimed j)
    ∷ []))
    c.judge_global.ensures
