-- The types that a module mentions: each that it writes is there, behind its parts.
use Rattle.std.proofs.Common.{◌≡◌, Bool, true, false, List, [], ◌∷◌, ◌++◌, inl, inr}
use Rattle.std.specs.List.{AllByRecursion, list_any, fold}
use Rattle.std.proofs.lemmas.Bool.{cases_Bool, or_cases, or_left, false≢true}
use Rattle.type_table.specs.Tree.{Tree, int, ptr, void, array, struct, named, Trees, no_trees, more_trees}
use Rattle.module_arena.specs.Module.{Module}
use Rattle.module_arena.specs.Same.{same_type}
use Rattle.module_arena.proofs.SameValues.{type_is, type_self}
use Rattle.record_table.specs.Listed.{IsType}
use Rattle.record_law.proofs.OnTypes.Places.{is_listed, in_front, in_rest}
use Rattle.record_table.specs.Mentions.{tree_list, with_new, with_tree, with_trees, written_types, mentioned}
use Rattle.record_table.specs.Spelling.{numbering}

abbrev pub has : List Tree → Tree → Bool
has all t = list_any (same_type t) all

-- the types that stand in a type
abbrev pub parts_in : Tree → List Tree
parts_in (int w) = []
parts_in ptr = []
parts_in void = []
parts_in (array n t) = t ∷ []
parts_in (struct packed ts) = tree_list ts
parts_in (named name) = []

abbrev pub AreThere : List Tree → List Tree → Type 0
AreThere all ts = AllByRecursion (λ t. has all t ≡ true) ts

-- each type is new where it stands, and its parts stand in front of it
pub data IsInOrder : List Tree → Type 0 where
  no_types : IsInOrder []
  one_more : (all : List Tree) (t : Tree) → IsInOrder all → AreThere all (parts_in t) → has all t ≡ false → IsInOrder (all ++ t ∷ [])

-- a list that has these, and what another has
pub record Adds (before ts after : List Tree) : Type 0 where
  pub ordered : IsInOrder after
  pub there : AreThere after ts
  pub kept : (s : Tree) → has before s ≡ true → has after s ≡ true

with_new_adds : (t : Tree) (all : List Tree) → IsInOrder all → AreThere all (parts_in t) → Adds all (t ∷ []) (with_new t all)
with_new_adds t all ordered parts = elim (cases_Bool (has all t)) [
  | inl is ↦ rw is (record { ordered = ordered; there = (is, tt); kept = λ s h. h })
  | inr new ↦ rw new (record {
    ordered = one_more all t ordered parts new;
    there = (in_rest same_type type_is type_self all (t ∷ []) t (or_left (same_type t t) false (type_self t)), tt);
    kept = λ s h. in_front same_type type_is type_self all (t ∷ []) s h;
  })
]

-- what adds to a list that adds to another
then_adds : (before ts middle us after : List Tree) → Adds before ts middle → Adds middle us after → Adds before us after
then_adds before ts middle us after first second = record { ordered = second.ordered; there = second.there; kept = λ s h. second.kept s (first.kept s h) }

mutual
  tree_adds : (t : Tree) (all : List Tree) → IsInOrder all → Adds all (t ∷ []) (with_tree t all)
  tree_adds (int w) all ordered = with_new_adds (int w) all ordered tt
  tree_adds ptr all ordered = with_new_adds ptr all ordered tt
  tree_adds void all ordered = with_new_adds void all ordered tt
  tree_adds (array n t) all ordered =
      let part = tree_adds t all ordered in
      then_adds all (t ∷ []) (with_tree t all) (array n t ∷ []) (with_new (array n t) (with_tree t all)) part (with_new_adds (array n t) (with_tree t all) part.ordered part.there)
  tree_adds (struct packed ts) all ordered =
      let parts = trees_add ts all ordered in
      then_adds all (tree_list ts) (with_trees ts all) (struct packed ts ∷ []) (with_new (struct packed ts) (with_trees ts all)) parts (with_new_adds (struct packed ts) (with_trees ts all) parts.ordered parts.there)
  tree_adds (named name) all ordered = with_new_adds (named name) all ordered tt

  trees_add : (ts : Trees) (all : List Tree) → IsInOrder all → Adds all (tree_list ts) (with_trees ts all)
  trees_add no_trees all ordered = record { ordered = ordered; there = tt; kept = λ s h. h }
  trees_add (more_trees t ts) all ordered =
      let first = tree_adds t all ordered in
      let others = trees_add ts (with_tree t all) first.ordered in
      record { ordered = others.ordered; there = (others.kept t first.there.0, others.there); kept = λ s h. others.kept s (first.kept s h) }

all_add : (written all : List Tree) → IsInOrder all → Adds all written (fold (λ all t. with_tree t all) all written)
all_add [] all ordered = record { ordered = ordered; there = tt; kept = λ s h. h }
all_add (t ∷ written) all ordered =
    let first = tree_adds t all ordered in
    let others = all_add written (with_tree t all) first.ordered in
    record { ordered = others.ordered; there = (others.kept t first.there.0, others.there); kept = λ s h. others.kept s (first.kept s h) }

pub mentioned_in_order : (m : Module) → IsInOrder (mentioned m)
mentioned_in_order m = (all_add (written_types m) [] no_types).ordered

-- each type that a module writes is there
pub written_there : (m : Module) → AreThere (mentioned m) (written_types m)
written_there m = (all_add (written_types m) [] no_types).there

one_of : (all ts : List Tree) (t : Tree) → AreThere all ts → has ts t ≡ true → has all t ≡ true
one_of all [] t there h = absurd (false≢true h)
one_of all (s ∷ ts) t there h = elim (or_cases (same_type t s) (has ts t) h) [
  | inl is ↦ rw (type_is t s is) there.0
  | inr later ↦ one_of all ts t there.1 later
]

-- a type that a module writes is one of its types
pub is_type : (m : Module) (t : Tree) → has (written_types m) t ≡ true → IsType (numbering m) t
is_type m t h = is_listed same_type type_is type_self (mentioned m) void t (one_of (mentioned m) (written_types m) t (written_there m) h)
