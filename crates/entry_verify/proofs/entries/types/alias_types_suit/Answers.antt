use Rattle.std.proofs.Common.{ℕ, ◌<◌, ◌&&◌, List, All, length, subst, sym, ap, ◌∙◌}
use Rattle.std.specs.List.{list_all}
use Rattle.std.proofs.lemmas.List.Elements.{All-tail}
use Rattle.std.proofs.lemmas.List.Folds.{list_all-map}
use Rattle.type_table.specs.Types.{Types, tree, trees, structs}
use Rattle.module_arena.specs.EntryRules.{alias_types_suit, return_suits}
use Rattle.module_arena.specs.Known.{alias_types}
use Rattle.module_arena.specs.TypeTests.{is_free_of_void, is_passable}
use Rattle.module_arena.specs.View.{alias_type_view, type_at}
use Rattle.entry_verify.proofs.entries.types.alias_types_suit.Goals as goal

pub are_passable-taken-requires : goal.are_passable-taken-requires
are_passable-taken-requires c =
    let t = c.args.judge.now.table in
    subst (λ (ts : List ℕ). All (λ ty. ty < length c.types-types.result.now.types) ts) (sym c.as_slice.ensures)
    (subst (λ (u : Types). All (λ ty. ty < length u.types) c.in-Function.parameters) (sym c.types-types.ensures)
    (All-tail (λ ty. ty < length t.types) c.in-Function.returns c.in-Function.parameters (subst (λ x. All (λ ty. ty < length t.types) (alias_types x)) c.in-Function.is c.requires.types_known)))

pub returns-in-Plain : goal.returns-in-Plain
returns-in-Plain c =
    let t = c.args.judge.now.table in
    c.is_free_of_void.ensures
    ∙ ap (λ (u : Types). is_free_of_void (tree u c.in-Plain.ty)) c.types-types.ensures
    ∙ ap (λ x. alias_types_suit (structs t) (alias_type_view (trees t) x)) (sym c.in-Plain.is)

pub returns-in-Function : goal.returns-in-Function
returns-in-Function c =
    let t = c.args.judge.now.table in
    let taken = c.are_passable-taken.ensures
    ∙ ap (λ (ts : List ℕ). list_all (λ ty. is_passable (structs c.types-types.result.now) (tree c.types-types.result.now ty)) ts) c.as_slice.ensures
    ∙ ap (λ (u : Types). list_all (λ ty. is_passable (structs u) (tree u ty)) c.in-Function.parameters) c.types-types.ensures
    ∙ sym (list_all-map (is_passable (structs t)) (type_at (trees t)) c.in-Function.parameters) in
    let returned = c.return_suits.ensures ∙ ap (λ (u : Types). return_suits (structs u) (tree u c.in-Function.returns)) c.types-types.ensures in
    (λ j. taken j && returned j) ∙ ap (λ x. alias_types_suit (structs t) (alias_type_view (trees t) x)) (sym c.in-Function.is)
