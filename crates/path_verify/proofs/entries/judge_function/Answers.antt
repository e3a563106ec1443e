use Rattle.std.proofs.Common.{◌≡◌, not, List, [], ◌∷◌, length, Some, slice_get, sym, ap, ◌∙◌, subst}
use Rattle.std.proofs.lemmas.Option.{same_Some}
use Rattle.module_arena.specs.Changes.{function_in}
use Rattle.module_arena.specs.EntryRules.{linkage_suits, function_types_suit}
use Rattle.module_arena.specs.Known.{KnowsFunction}
use Rattle.module_arena.specs.Lists.{Lists}
use Rattle.module_arena.specs.Valid.{Demand, Global}
use Rattle.module_arena.specs.View.{module_of}
use Rattle.module_arena.specs.declared.entry.Function as the_function
use Rattle.entry_verify.proofs.OnConstants.ConstantsKnown.{own_structs}
use Rattle.entry_verify.specs.Types.Judged.{Judged, asks}
use Rattle.path_verify.specs.Heads.{head_demands}
use Rattle.path_verify.proofs.Asked.{demand}
use Rattle.entry_verify.proofs.OnEntries.EntriesFound.{function_at, function_known, some-map}
use Rattle.path_verify.proofs.entries.judge_function.Goals as goal

pub function_types_suit-requires : goal.function_types_suit-requires
function_types_suit-requires c =
    let b = c.arena-arena.result.now in
    subst (λ (a : Lists). KnowsFunction (length a.table.types) (length a.constants) c.function-function.result.now) c.arena-arena.ensures
    (function_known b c.variable_count-count.ensures.good c.args.id c.function-function.result.now c.function-function.ensures)

pub returns : goal.returns
returns c g at =
    let a = c.args.judge.now in
    let f = c.function-function.result.now in
    let here : slice_get a.functions c.args.id ≡ Some f = ap (λ (b : Lists). slice_get b.functions c.args.id) (sym c.arena-arena.ensures) ∙ c.function-function.ensures in
    let linked = c.linkage_suits.ensures ∙ ap (λ s. linkage_suits s f.linkage) (c.is_some.ensures ∙ some-map _ f.body) in
    let there = ap (λ (b : Lists). slice_get (module_of b).functions c.args.id) c.arena-arena.ensures ∙ function_at a c.args.id f here in
    subst (λ (h : the_function.Function). Judged (head_demands (module_of a) (function_in a h)) c.judge_global.result) (same_Some f g (sym here ∙ at))
    (subst (λ (ds : List Demand). Judged ds c.judge_global.result)
    (ap (asks (Global f.name)) (λ j. c.asked.ensures j ∷ c.asked-2.ensures j ∷ c.asked-3.ensures j ∷ c.asked-4.ensures j ∷ c.asked-5.ensures j ∷ [])
    ∙ (λ j.
    demand (Global f.name) 2 (linked j)
    ∷ demand (Global f.name) 3 (not (c.is_common.ensures j))
    ∷ demand (Global f.name) 4 (not (c.is_appending.ensures j))
    ∷ demand (Global f.name) 5 (c.function_name_suits.ensures (function_in a f) there j)
    ∷ demand (Global f.name) 6 ((c.function_types_suit.ensures ∙ ap (λ s. function_types_suit s (function_in a f)) (sym (own_structs a))) j)
    ∷ []))
    c.judge_global.ensures)
