use Rattle.std.proofs.Common.{arith, ap, ◌∙◌, ◌++◌, ◌∷◌, [], Contains, length, refl, false}
use Rattle.type_table.specs.Tree.{body_of}
use Rattle.type_table.specs.Types.{Types, names, trees, structs}
use Rattle.type_table.proofs.Flags.{table_named, table_moved}
use Rattle.type_table.proofs.Named.{trees-named, bodies-named}
use Rattle.type_table.proofs.table.TypeTable.name_struct.Goals as goal

pub invariant_of-self-2 : goal.invariant_of-self-2
invariant_of-self-2 c =
    let absent : Contains (names (record { types = c.self.inside.types.items; structs = c.self.inside.structs.entries })) c.args.name → ⊥ = λ h. (let t = c.has_name.ensures.1 h in cc) in
    let few = ap (λ (t : Types). length t.structs) c.self.view_is in
    let named = table_named _ _ _ _ c.self.invariant c.args.name (omega (arith, few)) absent in
    table_moved _ _ _ _ _ _ _ _ _ _ refl c.in_ok-add_struct.ensures.added (c.push_into_room.ensures ∙ (λ j. c.in_ok-reserve.ensures.items j ++ c.opaque.ensures j ∷ [])) refl
    (c.push_into_room-2.ensures ∙ (λ j. c.in_ok-reserve-2.ensures.items j ++ false ∷ [])) named

pub returns-clause-trees : goal.returns-clause-trees
returns-clause-trees c =
    ap (λ es. trees (record { types = c.self.inside.types.items; structs = es })) c.in_ok-add_struct.ensures.added
    ∙ trees-named _ c.self.invariant.kept.measured.good c.args.name
    ∙ ap trees c.self.view_is

pub returns-clause-bodies : goal.returns-clause-bodies
returns-clause-bodies c =
    ap (λ es. body_of (structs (record { types = c.self.inside.types.items; structs = es }))) c.in_ok-add_struct.ensures.added
    ∙ bodies-named _ c.self.invariant.kept.measured.good c.args.name
    ∙ ap (λ t. body_of (structs t)) c.self.view_is
