-- What a type or a constant is, from what its parts are.
use Rattle.std.proofs.Common.{◌≡◌, ℕ, List, [], ◌∷◌, map, refl, sym, ap, ◌∙◌}
use Rattle.ir_phrases.specs.Constants.Tree.{TypeTree, types, TypedConstantTree, constants}
use Rattle.type_table.specs.Tree.{Tree, more_trees, Trees, no_trees}
use Rattle.type_table.specs.Types.{trees, trees_at}
use Rattle.module_arena.specs.declared.constant.TypedConst.{TypedConst}
use Rattle.module_arena.specs.Constants.{constants_listed}
use Rattle.module_arena.specs.Lists.{Lists}
use Rattle.module_arena.specs.Module.{Constant}
use Rattle.module_arena.specs.Module.Constants.{more_constants}
use Rattle.module_arena.specs.View.{type_at, constant_at, constants_at, constants_of}
use Rattle.name_rules.specs.Written.{type_in, types_in, constants_in}
use Rattle.item_build.specs.Types.Stands.{AreTypes, typed_at, AreTyped, IsTyped}
use Rattle.item_build.specs.Types.Typed.{typed_in}

-- these types, one behind the other
abbrev pub trees_listed : List Tree → Trees
trees_listed [] = no_trees
trees_listed (t ∷ ts) = more_trees t (trees_listed ts)

pub map_twice : {X Y Z : Type 0} (f : X → Y) (g : Y → Z) (xs : List X) → map g (map f xs) ≡ map (λ x. g (f x)) xs
map_twice f g [] = refl
map_twice f g (x ∷ xs) = ap (λ ys. g (f x) ∷ ys) (map_twice f g xs)

pub trees_at-listed : (done : List Tree) (ids : List ℕ) → trees_at done ids ≡ trees_listed (map (type_at done) ids)
trees_at-listed done [] = refl
trees_at-listed done (id ∷ ids) = ap (more_trees (type_at done id)) (trees_at-listed done ids)

pub types_in-listed : (ts : List TypeTree) → types_in (types ts) ≡ trees_listed (map type_in ts)
types_in-listed [] = refl
types_in-listed (t ∷ ts) = ap (more_trees (type_in t)) (types_in-listed ts)

pub constants_at-listed : (a : Lists) (ids : List TypedConst) → constants_at (trees a.table) (constants_of a) ids ≡ constants_listed (map (typed_at a) ids)
constants_at-listed a [] = refl
constants_at-listed a (id ∷ ids) = ap (more_constants (type_at (trees a.table) id.ty) (constant_at (constants_of a) id.value)) (constants_at-listed a ids)

pub constants_in-listed : (cs : List TypedConstantTree) → constants_in (constants cs) ≡ constants_listed (map typed_in cs)
constants_in-listed [] = refl
constants_in-listed (c ∷ cs) = ap (more_constants (typed_in c).0 (typed_in c).1) (constants_in-listed cs)

-- the fields of a struct
pub fields_made : {X : Type 0} (view : X → TypeTree) (a : Lists) (ids : List ℕ) (xs : List X) → AreTypes a ids (map (λ x. type_in (view x)) xs) → trees_at (trees a.table) ids ≡ types_in (types (map view xs))
fields_made view a ids xs h = trees_at-listed (trees a.table) ids ∙ ap trees_listed (h.trees ∙ sym (map_twice view type_in xs)) ∙ sym (types_in-listed (map view xs))

-- the elements of a list of constants
pub elements_made : {X : Type 0} (view : X → TypedConstantTree) (a : Lists) (ids : List TypedConst) (xs : List X) → AreTyped a ids (map (λ x. typed_in (view x)) xs)
    → constants_at (trees a.table) (constants_of a) ids ≡ constants_in (constants (map view xs))
elements_made view a ids xs h = constants_at-listed a ids ∙ ap constants_listed (h.constants ∙ sym (map_twice view typed_in xs)) ∙ sym (constants_in-listed (map view xs))

pub typed_is : (a : Lists) (id : TypedConst) (c : Tree × Constant) → IsTyped a id c → typed_at a id ≡ c
typed_is a id c h = λ j. (h.ty.tree j, h.value.constant j)
