-- Two types that are walked together: what tells their shapes apart, and what makes them equal.
use Rattle.std.proofs.Common.{◌≡◌, ℕ, ◌<◌, List, length, get_or, ap, sym, ◌∙◌, arith}
use Rattle.std.proofs.lemmas.List.{get_or_read}
use Rattle.type_table.specs.declared.measure.Measure.{Measure}
use Rattle.type_table.specs.Kept.{IsKept}
use Rattle.type_table.specs.Measures.{opaque_measure}
use Rattle.type_table.specs.Outline.{head_of, parts_of, type_nesting}
use Rattle.type_table.specs.Types.{Types, shape}
use Rattle.type_table.proofs.Laid.{type_shaped, type_measure_is}
use Rattle.type_table.proofs.Outlined.{heads_told, count_told, part_told, same_by_parts, parts_known, part_nesting}

-- a part of a type is in the table and nests less deep
pub part_below : (t : Types) (ks kt : List Measure) → IsKept t ks kt → (ty : ℕ) → ty < length t.types → (ps : List ℕ) → ps ≡ parts_of t ty → (i x : ℕ) → i < length ps → x ≡ get_or ps i x
    → (x < length t.types) × (type_nesting t x < type_nesting t ty)
part_below t ks kt is ty lt ps p i x l read =
    let many = ap length p in
    let place : i < length (parts_of t ty) = omega (arith, many, l) in
    let here = get_or_read ps i x l read 0 ∙ ap (λ qs. get_or qs i 0) p in
    let known : get_or (parts_of t ty) i 0 < length t.types = parts_known t is.measured.good ty lt i 0 place in
    let deep = part_nesting t is.measured.good ty lt (type_shaped t ks kt is ty lt) i place in
    let same = ap (type_nesting t) here in
    (omega (arith, here, known), omega (arith, same, deep))

module _ (t u : Types) (ks kt ls lu : List Measure) (is : IsKept t ks kt) (other : IsKept u ls lu) (ty uy : ℕ) (lt : ty < length t.types) (ult : uy < length u.types) where
  pub measures_told : shape t ty ≡ shape u uy → get_or kt ty opaque_measure ≡ get_or lu uy opaque_measure
  measures_told e =
      let shaped = type_shaped t ks kt is ty lt in
      sym (type_measure_is t ks kt is ty lt shaped.0 shaped.1) ∙ type_measure_is u ls lu other uy ult shaped.0 (sym e ∙ shaped.1)

  pub walked_heads : shape t ty ≡ shape u uy → head_of t ty ≡ head_of u uy
  walked_heads = heads_told t u is.measured.good other.measured.good ty uy lt ult (type_shaped t ks kt is ty lt) (type_shaped u ls lu other uy ult)

  module _ (ps qs : List ℕ) (p : ps ≡ parts_of t ty) (q : qs ≡ parts_of u uy) where
    pub walked_counts : shape t ty ≡ shape u uy → length ps ≡ length qs
    walked_counts e = ap length p ∙ count_told t u is.measured.good other.measured.good ty uy lt ult (type_shaped t ks kt is ty lt) (type_shaped u ls lu other uy ult) e ∙ sym (ap length q)

    pub walked_part : shape t ty ≡ shape u uy → (i x y : ℕ) → i < length ps → x ≡ get_or ps i x → y ≡ get_or qs i y → shape t x ≡ shape u y
    walked_part e i x y l read other_read =
        let many = ap length p in
        let counts = walked_counts e in
        ap (shape t) (get_or_read ps i x l read 0 ∙ ap (λ rs. get_or rs i 0) p)
        ∙ part_told t u is.measured.good other.measured.good ty uy lt ult (type_shaped t ks kt is ty lt) (type_shaped u ls lu other uy ult) e i (omega (arith, many, l))
        ∙ ap (shape u) (sym (get_or_read qs i y (omega (arith, counts, l)) other_read 0 ∙ ap (λ rs. get_or rs i 0) q))

    pub walked_same : head_of t ty ≡ head_of u uy → length ps ≡ length qs → ((k : ℕ) → k < length ps → shape t (get_or ps k 0) ≡ shape u (get_or qs k 0)) → shape t ty ≡ shape u uy
    walked_same h many each =
        same_by_parts t u is.measured.good other.measured.good ty uy lt ult (type_shaped t ks kt is ty lt) (type_shaped u ls lu other uy ult) h
        (sym (ap length p) ∙ many ∙ ap length q)
        (λ k l. ap (λ rs. shape t (get_or rs k 0)) (sym p) ∙ each k (omega (arith, ap length p, l)) ∙ ap (λ rs. shape u (get_or rs k 0)) q)
