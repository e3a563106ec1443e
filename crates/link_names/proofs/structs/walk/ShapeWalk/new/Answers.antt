use Rattle.std.proofs.Common.{◌≡◌, ℕ, zero, suc, List, length, Option, Some, None, slice_get, replicate, sym, ap, ◌∙◌, rules}
use Rattle.std.proofs.lemmas.List.{length-replicate}
use Rattle.type_table.specs.Shape.{Shape}
use Rattle.link_names.specs.Structs.Shapes.{struct_shape, type_shape}
use Rattle.link_names.specs.Structs.Walked.{AreOf}
use Rattle.link_names.proofs.structs.walk.ShapeWalk.new.Goals as goal

none_here : (k : ℕ) → Some None ≡ Some (Some k) → ⊥
none_here k e = cc

-- of some unknown numbers none is known
none_known : (n id number : ℕ) → slice_get (replicate n None) id ≡ Some (Some number) → ⊥
none_known zero id number e = cc
none_known (suc n) zero number e = none_here number e
none_known (suc n) (suc id) number e = none_known n id number e

none_remembered : (all : List Shape) (shape : ℕ → Option Shape) (n : ℕ) (found : List (Option ℕ)) → found ≡ replicate n None → AreOf all shape found
none_remembered all shape n found are id number e = absurd (none_known n id number (ap (λ (l : List (Option ℕ)). slice_get l id) (sym are) ∙ e))

pub returns : goal.returns
returns c =
    let from = c.args.from.now in
    let types = c.in_ok-vec.ensures.items_if_clones_equal (λ y e. search rules) in
    let structs = c.in_ok-vec-2.ensures.items_if_clones_equal (λ y e. search rules) in
    λ shapes. record {
      good = c.type_count.ensures.good;
      within = c.type_count.ensures.within;
      type_count = ap length types ∙ length-replicate c.type_count.result None ∙ c.type_count.ensures.count;
      struct_count = ap length structs ∙ length-replicate c.struct_count.result None ∙ c.struct_count.ensures;
      types = none_remembered shapes (type_shape from) c.type_count.result c.in_ok-vec.field-0.items types;
      structs = none_remembered shapes (struct_shape from) c.struct_count.result c.in_ok-vec-2.field-0.items structs;
    }
