use Rattle.std.proofs.Common.{arith, subst, sym, ap, ◌∙◌, ◌<◌, ◌≤◌, length, get_or, refl, ℕ}
use Rattle.type_table.specs.declared.measure.Measure.{Measure}
use Rattle.type_table.specs.Kept.{IsKept}
use Rattle.type_table.specs.Measures.{opaque_measure}
use Rattle.type_table.specs.Types.{Types}
use Rattle.type_table.proofs.Walked.{part_below, measures_told, walked_heads, walked_counts, walked_part, walked_same}
use Rattle.type_table.proofs.table.TypeTable.+shape_eq.Goals as goal
use Rattle.type_table.proofs.table.TypeTable.+shape_eq.Goals.{After-measure_at-other_measure}

-- what holds of both tables
own : (t : ℕ) (c : After-measure_at-other_measure t) → IsKept c.args.self.now c.self.inside.measures.structs.items c.self.inside.measures.types.items
own t c = subst (λ (x : Types). IsKept x c.self.inside.measures.structs.items c.self.inside.measures.types.items) c.self.view_is c.self.invariant.kept

others : (t : ℕ) (c : After-measure_at-other_measure t) → IsKept c.args.other.now c.other.inside.measures.structs.items c.other.inside.measures.types.items
others t c = subst (λ (x : Types). IsKept x c.other.inside.measures.structs.items c.other.inside.measures.types.items) c.other.view_is c.other.invariant.kept

pub returns-then-measure-other_measure : goal.returns-then-measure-other_measure
returns-then-measure-other_measure t c =
    let at = (goal.at.returns-then-measure-other_measure t c).After-measure_at-other_measure in (
      λ f. cc,
      λ e.
          (let told = measures_told _ _ _ _ _ _ (own t at) (others t at) c.args.ty c.args.other_ty c.requires.own c.requires.others e in
          let measure = c.measure_at-measure.ensures ∙ (λ j. get_or (c.deref.ensures.value j) (c.number.ensures j) opaque_measure) in
          let other = c.measure_at-other_measure.ensures ∙ (λ j. get_or (c.deref-2.ensures.value j) (c.number-2.ensures j) opaque_measure) in
          absurd (c.if-measure-other_measure.true (ap (λ (m : Measure). m.parts) (measure ∙ told ∙ sym other)))),
    )

pub returns-then-not-is_same : goal.returns-then-not-is_same
returns-then-not-is_same t c =
    let at = (goal.at.returns-then-not-is_same t c).After-measure_at-other_measure in (
      λ f. cc,
      λ e.
          (let told = walked_heads _ _ _ _ _ _ (own t at) (others t at) c.args.ty c.args.other_ty c.requires.own c.requires.others e in
          let same = c.is_same.ensures.1 (c.head.ensures ∙ told ∙ sym c.head-2.ensures) in
          cc),
    )

pub returns-then-parts-other_parts : goal.returns-then-parts-other_parts
returns-then-parts-other_parts t c =
    let at = (goal.at.returns-then-parts-other_parts t c).After-measure_at-other_measure in (
      λ f. cc,
      λ e. absurd (c.if-parts-other_parts.true
          (walked_counts _ _ _ _ _ _ (own t at) (others t at) c.args.ty c.args.other_ty c.requires.own c.requires.others _ _ c.parts-parts.ensures c.parts-other_parts.ensures e)),
    )

pub shape_eq-requires : goal.shape_eq-requires
shape_eq-requires t c =
    let at = (goal.at.shape_eq-requires t c).After-measure_at-other_measure in
    let within : c.loop-i.i < length c.parts-parts.result.now = omega arith in
    let other_within : c.loop-i.i < length c.parts-other_parts.result.now = omega arith in
    let below = part_below _ _ _ (own t at) c.args.ty c.requires.own _ c.parts-parts.ensures c.loop-i.i c.index-parts-i.result within c.index-parts-i.is in
    let other_below = part_below _ _ _ (others t at) c.args.other_ty c.requires.others _ c.parts-other_parts.ensures c.loop-i.i c.index-other_parts-i.result other_within c.index-other_parts-i.is in
    (omega (arith, below.1, c.decreases), (below.0, other_below.0))

pub returns-then-not-shape_eq : goal.returns-then-not-shape_eq
returns-then-not-shape_eq t c =
    let at = (goal.at.returns-then-not-shape_eq t c).After-measure_at-other_measure in (
      λ f. cc,
      λ e.
          (let within : c.loop-i.i < length c.parts-parts.result.now = omega arith in
          let told = walked_part _ _ _ _ _ _ (own t at) (others t at) c.args.ty c.args.other_ty c.requires.own c.requires.others _ _ c.parts-parts.ensures c.parts-other_parts.ensures e
          c.loop-i.i c.index-parts-i.result c.index-other_parts-i.result within c.index-parts-i.is c.index-other_parts-i.is in
          let same = c.shape_eq.ensures.1 told in
          cc),
    )

pub returns : goal.returns
returns t c =
    let at = (goal.at.returns t c).After-measure_at-other_measure in
    let all : length c.parts-parts.result.now ≤ c.loop-i.i = omega arith in (
      λ f. walked_same _ _ _ _ _ _ (own t at) (others t at) c.args.ty c.args.other_ty c.requires.own c.requires.others _ _ c.parts-parts.ensures c.parts-other_parts.ensures
          (sym c.head.ensures ∙ c.is_same.ensures.0 c.if-not-is_same.false ∙ c.head-2.ensures) c.if-parts-other_parts.false
          (λ k l. c.loop-i.invariant k (omega (arith, all, l))),
      λ e. refl,
    )
