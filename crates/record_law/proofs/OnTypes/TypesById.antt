-- A type that stands behind its parts is read of its record, as the type that it is.
use Rattle.std.proofs.Common.{◌≡◌, suc, true, false, ◌&&◌, List, [], ◌∷◌, ◌++◌, length, None, refl, ap, inl, inr}
use Rattle.std.specs.Prelude.{nat_lt, nat_le, flat_map, slice_index_or, ⊤}
use Rattle.std.proofs.lemmas.Bool.{cases_Bool, false≢true}
use Rattle.type_table.specs.Tree.{Tree, int, ptr, void, array, struct, named, Trees, no_trees, more_trees, index_of}
use Rattle.type_table.specs.Types.{tree_of, trees_at}
use Rattle.module_arena.specs.Module.{Bytes}
use Rattle.module_arena.specs.Same.{same_type}
use Rattle.module_arena.proofs.SameValues.{type_is, type_self}
use Rattle.record_table.specs.Walk.{going, next}
use Rattle.record_table.specs.Layout.{place, many, judged}
use Rattle.record_table.specs.TypeRecords.{earlier, ir_type, kind_of}
use Rattle.record_table.specs.Mentions.{tree_list}
use Rattle.record_table.specs.Spelling.{places, by_ids}
use Rattle.record_law.proofs.OnTypes.Places.{is_listed, further}
use Rattle.record_law.proofs.OnTypes.TypesInOrder.{has, parts_in, AreThere}

-- a width from 1 to 128
abbrev pub IsWide : Tree → Type 0
IsWide (int w) = (nat_le 1 w && nat_le w 128) ≡ true
IsWide ptr = ⊤
IsWide void = ⊤
IsWide (array n t) = ⊤
IsWide (struct packed ts) = ⊤
IsWide (named name) = ⊤

-- a struct by one of these names
abbrev pub IsNamedBy : List Bytes → Tree → Type 0
IsNamedBy names (named name) = (nat_lt (index_of names name) (length names) ≡ true) × (slice_index_or names (index_of names name) [] ≡ name)
IsNamedBy names (int w) = ⊤
IsNamedBy names ptr = ⊤
IsNamedBy names void = ⊤
IsNamedBy names (array n t) = ⊤
IsNamedBy names (struct packed ts) = ⊤

module _ (done rest : List Tree) where
  in_done : (t : Tree) → has done t ≡ true → (nat_lt (place same_type done t) (length done) ≡ true) × (slice_index_or done (place same_type done t) void ≡ t)
  in_done t there = let listed = is_listed same_type type_is type_self done void t there in (listed.inside, listed.found)

-- the place of what is in front is that in front
place_front : (done rest : List Tree) (t : Tree) → has done t ≡ true → place same_type (done ++ rest) t ≡ place same_type done t
unfolding place
place_front [] rest t there = absurd (false≢true there)
place_front (s ∷ done) rest t there = elim (cases_Bool (same_type s t)) [
  | inl is ↦ rw is refl
  | inr differs ↦ rw differs (ap suc (place_front done rest t (further same_type type_is type_self s done t differs there)))
]

module _ (done rest : List Tree) (names : List Bytes) where
  abbrev all : List Tree
  all = done ++ rest

  place_is : (t : Tree) → has done t ≡ true → (nat_lt (place same_type all t) (length done) ≡ true) × (slice_index_or done (place same_type all t) void ≡ t)
  place_is t there = rw (place_front done rest t there) (in_done done rest t there)

  pub trees_again : (ts : Trees) → AreThere done (tree_list ts) → trees_at done (places all ts) ≡ ts
  trees_again no_trees there = refl
  trees_again (more_trees t ts) there = rw ((place_is t there.0).1, trees_again ts there.1) refl

  -- the type of the ids that are written
  pub tree_again : (t : Tree) → AreThere done (parts_in t) → IsNamedBy names t → tree_of names done (by_ids all names t) ≡ t
  tree_again (int w) there known = refl
  tree_again ptr there known = refl
  tree_again void there known = refl
  tree_again (array n t) there known = ap (array n) (place_is t there.0).1
  tree_again (struct packed ts) there known = ap (struct packed) (trees_again ts there)
  tree_again (named name) there known = ap named known.1

  -- places in front of a type
  parts_judged : (ts : Trees) → AreThere done (tree_list ts)
      → many (earlier (length done)).read (length (flat_map (earlier (length done)).spell (places all ts))) (going (flat_map (earlier (length done)).spell (places all ts)) None) ≡ (places all ts, going [] None)
  unfolding many next
  parts_judged no_trees there = refl
  parts_judged (more_trees t ts) there = rw ((place_is t there.0).0, parts_judged ts there.1) refl

  -- its record
  pub type_judged : (t : Tree) → AreThere done (parts_in t) → IsWide t → IsNamedBy names t
      → judged (ir_type (length done) (length names) (kind_of (by_ids all names t))) ((ir_type 0 0 (kind_of (by_ids all names t))).spell (by_ids all names t)) ≡ (by_ids all names t, None)
  unfolding next
  type_judged (int w) there wide known = rw wide refl
  type_judged ptr there wide known = refl
  type_judged void there wide known = refl
  type_judged (array n t) there wide known = rw (place_is t there.0).0 refl
  type_judged (struct true ts) there wide known = rw (parts_judged ts there) refl
  type_judged (struct false ts) there wide known = rw (parts_judged ts there) refl
  type_judged (named name) there wide known = rw known.0 refl
