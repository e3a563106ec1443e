-- What constants write, by ids.
use Rattle.std.proofs.Common.{◌≡◌, ℕ, suc, Bool, true, false, ◌&&◌, List, [], ◌∷◌, map, length, refl, ap}
use Rattle.type_table.specs.Tree.{Tree, Structs}
use Rattle.type_table.specs.Types.{trees, trees_at}
use Rattle.module_arena.specs.declared.constant.Const as the_const
use Rattle.module_arena.specs.declared.constant.Const.TheVariants as const
use Rattle.module_arena.specs.declared.constant.TypedConst.{TypedConst}
use Rattle.module_arena.specs.declared.entry.GlobalId.{GlobalId}
use Rattle.module_arena.specs.Constants.{index_constants, written_number, element_operands_fit}
use Rattle.module_arena.specs.EntryRules.{constant_types}
use Rattle.module_arena.specs.Lists.{Lists}
use Rattle.module_arena.specs.Mentions.{typed_in}
use Rattle.module_arena.specs.Module.{Bytes, Constant}
use Rattle.module_arena.specs.View.{type_at, constants_at, constant_view, constants_of}
use Rattle.module_arena.specs.Changes.{constant_in}
use Rattle.entry_verify.specs.Constants.ConstantParts.{typed_list, parts_in, are_types, typed_at, index_at, written_in, are_element_operands}

-- the types before constants
pub types_listed : (ts : List Tree) (cs : List Constant) (xs : List TypedConst) → constant_types (constants_at ts cs xs) ≡ map (λ (x : TypedConst). type_at ts x.ty) xs
types_listed ts cs [] = refl
types_listed ts cs (x ∷ xs) = ap (λ us. type_at ts x.ty ∷ us) (types_listed ts cs xs)

pub typed_listed : (a : Lists) (xs : List TypedConst) → typed_list (constants_at (trees a.table) (constants_of a) xs) ≡ map (typed_at a) xs
typed_listed a [] = refl
typed_listed a (x ∷ xs) = ap (λ us. typed_at a x ∷ us) (typed_listed a xs)

-- the constants in a constant
pub parts_listed : (a : Lists) (c : the_const.Const) → parts_in (constant_in a c) ≡ map (typed_at a) (typed_in c)
parts_listed a (const.Integer n) = refl
parts_listed a (const.Truth b) = refl
parts_listed a const.Null = refl
parts_listed a const.Undef = refl
parts_listed a const.Poison = refl
parts_listed a const.ZeroInitializer = refl
parts_listed a (const.Address g) = refl
parts_listed a (const.ByteString bytes) = refl
parts_listed a (const.Aggregate round es) = typed_listed a es
parts_listed a (const.ElementAddress f address) = typed_listed a address.operands
parts_listed a (const.Cast o x to) = refl
parts_listed a (const.Binary o f pair) = refl

-- the number that a constant writes
pub number_written : (ts : List Tree) (ns : GlobalId → Bytes) (cs : List Constant) (c : the_const.Const) → written_number (constant_view ts ns cs c) ≡ written_in c
number_written ts ns cs (const.Integer n) = refl
number_written ts ns cs (const.Truth b) = refl
number_written ts ns cs const.Null = refl
number_written ts ns cs const.Undef = refl
number_written ts ns cs const.Poison = refl
number_written ts ns cs const.ZeroInitializer = refl
number_written ts ns cs (const.Address g) = refl
number_written ts ns cs (const.ByteString bytes) = refl
number_written ts ns cs (const.Aggregate round es) = refl
number_written ts ns cs (const.ElementAddress f address) = refl
number_written ts ns cs (const.Cast o x to) = refl
number_written ts ns cs (const.Binary o f pair) = refl

-- constants as indices
pub indices_listed : (a : Lists) (xs : List TypedConst) → index_constants (constants_at (trees a.table) (constants_of a) xs) ≡ map (index_at a) xs
indices_listed a [] = refl
indices_listed a (x ∷ xs) = ap (λ us. index_at a x ∷ us) (indices_listed a xs)

pub operands_listed : (a : Lists) (s : Structs) (source : Tree) (xs : List TypedConst) → element_operands_fit s source (constants_at (trees a.table) (constants_of a) xs) ≡ are_element_operands s source (map (index_at a) xs)
operands_listed a s source [] = refl
operands_listed a s source (x ∷ xs) = ap (λ us. are_element_operands s source (index_at a x ∷ us)) (indices_listed a xs)

-- lists of unlike lengths
pub other_count : (ts : List Tree) (ids : List ℕ) (us : List Tree) → (length ids ≡ length us → ⊥) → are_types (trees_at ts ids) us ≡ false
other_count ts [] [] other = absurd (other refl)
other_count ts [] (u ∷ us) other = refl
other_count ts (id ∷ ids) [] other = refl
other_count ts (id ∷ ids) (u ∷ us) other = by (other_count ts ids us (λ e. other (ap suc e))) _
  where
    by : are_types (trees_at ts ids) us ≡ false → (b : Bool) → (b && are_types (trees_at ts ids) us) ≡ false
    by e true = e
    by e false = refl
