use Rattle.std.proofs.Common.{◌≡◌, ℕ, [], ◌∷◌, Option, length, ap, sym, subst, ◌∙◌}
use Rattle.std.specs.Prelude.{unwrap_or}
use Rattle.std.proofs.lemmas.List.{length-map}
use Rattle.type_table.specs.Types.{tree}
use Rattle.module_arena.specs.Lists.{Lists}
use Rattle.module_arena.specs.Same.{same_type}
use Rattle.module_arena.specs.View.{module_of}
use Rattle.record_table.specs.Layout.{place}
use Rattle.record_table.specs.Mentions.{mentioned}
use Rattle.record_write.specs.Order.Order.{listed_trees, place_of}
use Rattle.record_write.proofs.OnOperands.Numbers.{type_place}
use Rattle.record_write.proofs.operands.numbering.Numbering.type_index.Goals as goal

pub returns : goal.returns
returns c =
    let o = c.self.inside.types in
    let a = c.self.inside.arena.now in
    let many : length (listed_trees o) ≡ length c.listed.result.now = length-map o.listed (tree o.types) ∙ ap length (sym c.listed.ensures.same) in
    let here : place same_type (mentioned (module_of a)) (tree a.table c.args.id) ≡ c.unwrap_or.result =
    type_place a o c.self.inside.texts c.args.id c.self.invariant
    ∙ ap (λ (n : ℕ). unwrap_or (place_of o c.args.id) n) many
    ∙ ap (λ (p : Option ℕ). unwrap_or p (length c.listed.result.now)) (sym c.place.ensures)
    ∙ sym c.unwrap_or.ensures in
    subst (λ (x : Lists). place same_type (mentioned (module_of x)) (tree x.table c.args.id) ∷ [] ≡ c.unwrap_or.result ∷ []) c.self.view_is (ap (λ (n : ℕ). n ∷ []) here)
