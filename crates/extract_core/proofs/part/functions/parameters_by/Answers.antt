use Rattle.std.proofs.Common.{◌<◌, length, map, All, sym, subst}
use Rattle.std.proofs.lemmas.List.Elements.{All-map}
use Rattle.type_table.specs.Types.{trees}
use Rattle.module_arena.specs.declared.entry.Parameter as the_parameter
use Rattle.module_arena.specs.View.{parameter_view}
use Rattle.module_arena.specs.Renamed.{own}
use Rattle.item_build.specs.Types.Parameters.{AreParameters}
use Rattle.extract_core.specs.Fates.Fates.{parameters_as}
use Rattle.extract_core.proofs.OnPart.Numbering.{own_parameters, declared_parameters}
use Rattle.extract_core.proofs.part.functions.parameters_by.Goals as goal

pub returns-in_ok-own-in-Kept : goal.returns-in_ok-own-in-Kept
returns-in_ok-own-in-Kept c = λ a b h known.
    let ps = c.args.parameters.now in
    subst (λ f. AreParameters b c.in_ok-own-in-Kept.own (parameters_as f (map (parameter_view (trees a.table)) ps))) (sym c.in-Kept.is)
    (own_parameters b c.in_ok-own-in-Kept.own (map (parameter_view (trees a.table)) ps)
    (c.in_ok-own-in-Kept.ensures.are own a b h.copies (subst (λ n. All (λ (p : the_parameter.Parameter). p.ty < n) ps) (sym h.all) known)))

pub returns-in_ok-numbered-in_default : goal.returns-in_ok-numbered-in_default
returns-in_ok-numbered-in_default c = λ a b h known.
    let ps = c.args.parameters.now in
    let types = c.in_ok-types-in_default.types in
    let are = c.in_ok-types-in_default.ensures in
    declared_parameters a b c.args.fate ps types c.in_ok-numbered-in_default.numbered c.in_default.not-Kept are
    (c.in_ok-numbered-in_default.ensures a b h
    (subst (All (λ id. id < length a.table.types)) (sym are) (All-map (λ id. id < length a.table.types) (λ (p : the_parameter.Parameter). p.ty) ps known)))
