-- Says how the code of `leaf_of` reads: where the indices of a `getelementptr` have led to so far, and how far one leads.
use Rattle.std.specs.Prelude.{◌≡◌, ℕ, ◌<◌, true, ⊤, length, ℤ, Option, unwrap_or}
use Rattle.ir_eval.specs.declared.value.Scalar.{Scalar}
use Rattle.module_arena.specs.declared.constant.TypedConst.{TypedConst}
use Rattle.module_arena.specs.Lists.{Lists}
use Rattle.module_arena.specs.TypeTests.{lies_in_memory}
use Rattle.type_table.specs.Shape.{Shape, void_leaf, array_of}
use Rattle.type_table.specs.Types.{Types, structs, tree}
use Rattle.run_rules.specs.Action.{Known, Term}
use Rattle.run_rules.specs.Constant.{constant_value, one_leaf, width_of}
use Rattle.run_rules.specs.Displace.{TermIndex, known, reach}
use Rattle.run_names.specs.Shapes.Shapes.{offset_in, shape_in}
use Rattle.run_initial.specs.declared.constants.distance.PathPlace.{PathPlace}
use Rattle.run_initial.specs.declared.constants.distance.PathPlace.TheVariants.{Whole, Inside, Nowhere}
use Rattle.run_initial.specs.Constants.Sound.{constant_of, names_of}

-- the shape into which the next index leads. The first counts whole values, as if these were the elements of an array
abbrev pub shape_at : Types → PathPlace → Shape
shape_at t (Whole ty) = array_of 0 (shape_in t ty)
shape_at t (Inside ty) = shape_in t ty
shape_at t Nowhere = void_leaf

-- a type of the table that lies in memory, if any
abbrev pub IsPlace : Types → PathPlace → Type 0
IsPlace t (Whole ty) = (ty < length t.types) × (lies_in_memory (structs t) (tree t ty) ≡ true)
IsPlace t (Inside ty) = (ty < length t.types) × (lies_in_memory (structs t) (tree t ty) ≡ true)
IsPlace t Nowhere = ⊤

-- an index that is known
abbrev pub index_at : Scalar → ℕ → TermIndex
index_at leaf width = record { origin = Known leaf; width = width }

-- where a field begins; 0 where there is none
abbrev pub offset_at : Shape → ℕ → ℕ
offset_at s index = unwrap_or (offset_in s index) 0

-- how far a term with a known index leads
abbrev pub term_reach : Term → Option ℤ
term_reach t = reach (known t.index) t.width t.size

-- a constant as an index
abbrev pub index_of : Lists → TypedConst → TermIndex
index_of a part = index_at (one_leaf (constant_value (names_of a) (tree a.table part.ty) (constant_of a part.value))) (width_of (names_of a) (tree a.table part.ty))
