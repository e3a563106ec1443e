-- For `type_order`, and `note`, `note_all` and `place` of `TypeOrder`: the types that a module mentions, in the making.
use Rattle.std.specs.Prelude.{◌≡◌, ℕ, Bool, true, List, [], ◌∷◌, map, ⊤, Option, Some, None, if◌then◌else◌}
use Rattle.std.specs.List.{fold, list_any}
use Rattle.type_table.specs.Tree.{Tree, int, ptr, void, array, struct, named, Trees, no_trees, more_trees}
use Rattle.type_table.specs.Types.{Types, tree}
use Rattle.module_arena.specs.Same.{same_type}
use Rattle.record_table.specs.Layout.{place}
use Rattle.record_table.specs.Mentions.{with_new, with_tree}

-- the types that are listed so far, in their order, and which constants were gone through
pub record Order : Type 0 where
  pub types : Types
  pub listed : List ℕ
  pub gone : List Bool

-- the listed types, written out
abbrev pub listed_trees : Order → List Tree
listed_trees o = map (tree o.types) o.listed

-- whether a type is one of these
abbrev pub has_tree : List Tree → Tree → Bool
has_tree all t = list_any (same_type t) all

-- where a type stands among these, if it does
abbrev pub place_in : List Tree → Tree → Option ℕ
place_in all t = if has_tree all t then Some (place same_type all t) else None

-- where a type stands among those that are listed, if it does
abbrev pub place_of : Order → ℕ → Option ℕ
place_of o ty = place_in (listed_trees o) (tree o.types ty)

-- each of some types is one of these
abbrev pub AreListed : List Tree → Trees → Type 0
AreListed all no_trees = ⊤
AreListed all (more_trees t ts) = (has_tree all t ≡ true) × AreListed all ts

-- the parts of a type are among these
abbrev pub HasParts : List Tree → Tree → Type 0
HasParts all (int w) = ⊤
HasParts all ptr = ⊤
HasParts all void = ⊤
HasParts all (array n t) = has_tree all t ≡ true
HasParts all (struct packed ts) = AreListed all ts
HasParts all (named name) = ⊤

-- the parts of each of these types are among them
abbrev pub IsClosed : List Tree → Type 0
IsClosed all = (t : Tree) → has_tree all t ≡ true → HasParts all t

-- each of some types is one of these
abbrev pub AllListed : List Tree → List Tree → Type 0
AllListed all [] = ⊤
AllListed all (t ∷ ts) = (has_tree all t ≡ true) × AllListed all ts

-- one more type is listed, where it is new
pub record Adds (old new : Order) (t : Tree) : Type 0 where
  pub types : new.types ≡ old.types
  pub gone : new.gone ≡ old.gone
  pub listed : listed_trees new ≡ with_new t (listed_trees old)

-- so many more types were mentioned, one behind the other
pub record Notes (old new : Order) (written : List Tree) : Type 0 where
  pub types : new.types ≡ old.types
  pub gone : new.gone ≡ old.gone
  pub listed : listed_trees new ≡ fold (λ all t. with_tree t all) (listed_trees old) written
