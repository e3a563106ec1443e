-- How deep the fields of a struct nest.
use Rattle.std.proofs.Common.{◌≡◌, ℕ, zero, suc, ◌<◌, ◌≤◌, Bool, List, [], ◌∷◌, length, get_or, Option, Some, None, sym, subst, arith}
use Rattle.std.specs.Prelude.{All, max, unwrap_or}
use Rattle.std.specs.Option.{option_map_or}
use Rattle.std.proofs.lemmas.List.Elements.{All-head, All-tail}
use Rattle.type_table.specs.Outline.{type_nesting}
use Rattle.type_table.specs.Shape.{Label, Shape, void_leaf, struct_of, Shapes, nesting}
use Rattle.type_table.specs.Types.{Types, shape}
use Rattle.run_names.specs.Shapes.Shapes.{shape_in}

-- how deep the deepest of some types nests
abbrev pub deepest_of : Types → List ℕ → ℕ
deepest_of t [] = 0
deepest_of t (ty ∷ tys) = max (type_nesting t ty) (deepest_of t tys)

-- each of them nests no deeper
pub nests_within : (t : Types) (tys : List ℕ) (k d : ℕ) → k < length tys → type_nesting t (get_or tys k d) ≤ deepest_of t tys
nests_within t [] k d lt = absurd (omega arith)
nests_within t (ty ∷ tys) zero d lt = omega arith
nests_within t (ty ∷ tys) (suc k) d lt = let rest = nests_within t tys k d (omega arith) in omega (arith, rest)

-- and all of them less deep than a type than which each nests less deep
pub all_less : (t : Types) (ty : ℕ) (tys : List ℕ) → 1 ≤ type_nesting t ty → All (λ part. type_nesting t part < type_nesting t ty) tys → deepest_of t tys < type_nesting t ty
all_less t ty [] some h = omega arith
all_less t ty (part ∷ parts) some h =
    let P : ℕ → Type 0 = λ part. type_nesting t part < type_nesting t ty in
    let first = All-head P part parts h in
    let rest = all_less t ty parts some (All-tail P part parts h) in
    omega (arith, first, rest)

-- a struct with a body nests
pub struct_nests : (t : Types) (ty : ℕ) (label : Label) (packed : Bool) (ss : Shapes) → shape_in t ty ≡ struct_of label packed ss → 1 ≤ type_nesting t ty
struct_nests t ty label packed ss e = go (shape t ty) e
  where
    go : (o : Option Shape) → unwrap_or o void_leaf ≡ struct_of label packed ss → 1 ≤ option_map_or nesting o 0
    go None h = cc
    go (Some s) h = subst (λ (x : Shape). 1 ≤ nesting x) (sym h) (omega arith)
