-- Each type that a well-formed module mentions is a good one: within the limits, of a width that there is, and a struct of the module.
use Rattle.std.proofs.Common.{◌≡◌, ℕ, suc, ◌+◌, ◌/◌, ◌^◌, ◌<◌, ◌≤◌, Bool, true, false, ◌||◌, cond, List, [], ◌∷◌, length, map, refl, subst, arith, inl, inr}
use Rattle.std.specs.Prelude.{nat_le, nat_lt, bytes_eq, slice_index_or}
use Rattle.std.specs.Int.{next_multiple_of}
use Rattle.std.specs.List.{list_all, list_any, fold}
use Rattle.std.proofs.lemmas.Bool.{and_parts, and_from, cases_Bool, false≢true, lt-ltb, ltb-true, leb-true}
use Rattle.std.proofs.lemmas.Slice.Eq.{bytes_eq-Decides}
use Rattle.type_table.specs.Layout.{int_align, int_size}
use Rattle.type_table.specs.Limits.{IsWithinLimits}
use Rattle.type_table.specs.Shape.{shape}
use Rattle.type_table.specs.Tree.{Tree, int, ptr, void, array, struct, named, Trees, no_trees, more_trees, TreeBody, Structs, index_of}
use Rattle.module_arena.specs.Module.{Bytes, Module}
use Rattle.module_arena.specs.Same.{same_type}
use Rattle.module_arena.specs.WellFormed.{IsWellFormed, is_within_limits, is_good_type, are_good_types}
use Rattle.module_arena.proofs.WithinLimits.{within_limits_decides}
use Rattle.record_table.specs.Mentions.{with_new, with_tree, with_trees, written_types, mentioned}
use Rattle.record_law.proofs.OnTypes.Tests.{all_both}
use Rattle.record_law.proofs.OnTypes.TypesById.{IsWide, IsNamedBy}
use Rattle.record_law.proofs.OnTypes.GoodWritten.{AreGood, written_good}

-- ---- types without parts are within the limits
small_align : (a b c d : Bool) → (0 < cond a 1 (cond b 2 (cond c 4 (cond d 8 16)))) × (cond a 1 (cond b 2 (cond c 4 (cond d 8 16))) ≤ 16)
small_align true b c d = (omega arith, omega arith)
small_align false true c d = (omega arith, omega arith)
small_align false false true d = (omega arith, omega arith)
small_align false false false true = (omega arith, omega arith)
small_align false false false false = (omega arith, omega arith)

small_multiple : (x y : ℕ) → 0 < y → next_multiple_of x y ≤ x + y
small_multiple x y lt = omega arith

small_size : (w : ℕ) → w ≤ 128 → int_size w ≤ 2 ^ 40
small_size w le =
    let a = small_align (nat_le w 8) (nat_le w 16) (nat_le w 32) (nat_le w 64) in
    let m = small_multiple ((w + 7) / 8) (int_align w) a.0 in
    let some = a.1 in
    let x : (w + 7) / 8 ≤ 16 = omega arith in
    omega (arith, m, some, x)

int_fits : (ss : Structs) (w : ℕ) → w ≤ 128 → IsWithinLimits (shape ss (int w))
int_fits ss w le = record { nests = omega arith; parts_fit = omega arith; length_fits = omega arith; size_fits = λ e. small_size w le }

-- ---- structs by their names
abbrev names_of : Structs → List Bytes
names_of structs = map (λ s. s.0) structs

one_further : (place count : ℕ) → nat_lt place count ≡ true → nat_lt (suc place) (suc count) ≡ true
one_further place count h = let less : place < count = ltb-true place count h in lt-ltb (suc place) (suc count) (omega (arith, less))

pub named_by : (structs : Structs) (name : Bytes) → list_any (λ (s : Bytes × TreeBody). bytes_eq s.0 name) structs ≡ true
    → (nat_lt (index_of (names_of structs) name) (length (names_of structs)) ≡ true) × (slice_index_or (names_of structs) (index_of (names_of structs) name) [] ≡ name)
named_by [] name h = absurd (false≢true h)
named_by (s ∷ structs) name h = elim (cases_Bool (bytes_eq s.0 name)) [
  | inl is ↦ rw is (lt-ltb 0 (suc (length (names_of structs))) (omega arith), (bytes_eq-Decides s.0 name).0 is)
  | inr differs ↦
      let later = named_by structs name (subst (λ (x : Bool). (x || list_any (λ (s : Bytes × TreeBody). bytes_eq s.0 name) structs) ≡ true) differs h) in
      rw differs (one_further (index_of (names_of structs) name) (length (names_of structs)) later.0, later.1)
]

module _ (structs : Structs) where
  -- what a good type keeps
  pub record IsGoodTree (t : Tree) : Type 0 where
    pub within : is_within_limits (shape structs t) ≡ true
    pub wide : IsWide t
    pub known : IsNamedBy (names_of structs) t

  pub good_tree : (t : Tree) → is_good_type structs t ≡ true → IsGoodTree t
  good_tree (int w) e = record {
    within = (within_limits_decides (shape structs (int w))).1 (int_fits structs w (leb-true w 128 (and_parts (nat_le 1 w) (nat_le w 128) e).1));
    wide = e;
    known = tt;
  }
  good_tree ptr e = record { within = refl; wide = tt; known = tt }
  good_tree void e = record { within = refl; wide = tt; known = tt }
  good_tree (array n t) e = record { within = (and_parts (is_good_type structs t) (is_within_limits (shape structs (array n t))) e).1; wide = tt; known = tt }
  good_tree (struct packed ts) e = record { within = (and_parts (are_good_types structs ts) (is_within_limits (shape structs (struct packed ts))) e).1; wide = tt; known = tt }
  good_tree (named name) e =
      let p = and_parts (list_any (λ (s : Bytes × TreeBody). bytes_eq s.0 name) structs) (is_within_limits (shape structs (named name))) e in
      record { within = p.1; wide = tt; known = named_by structs name p.0 }

-- ---- all that are mentioned
module _ (m : Module) where
  with_new_good : (t : Tree) (all : List Tree) → is_good_type m.structs t ≡ true → AreGood m all → AreGood m (with_new t all)
  with_new_good t all g h = elim (cases_Bool (list_any (same_type t) all)) [
    | inl there ↦ rw there h
    | inr new ↦ rw new (all_both (is_good_type m.structs) all (t ∷ []) h (and_from (is_good_type m.structs t) true g refl))
  ]

  mutual
    with_tree_good : (t : Tree) (all : List Tree) → is_good_type m.structs t ≡ true → AreGood m all → AreGood m (with_tree t all)
    with_tree_good (int w) all g h = with_new_good (int w) all g h
    with_tree_good ptr all g h = with_new_good ptr all g h
    with_tree_good void all g h = with_new_good void all g h
    with_tree_good (array n t) all g h =
        with_new_good (array n t) (with_tree t all) g (with_tree_good t all (and_parts (is_good_type m.structs t) (is_within_limits (shape m.structs (array n t))) g).0 h)
    with_tree_good (struct packed ts) all g h =
        with_new_good (struct packed ts) (with_trees ts all) g (with_trees_good ts all (and_parts (are_good_types m.structs ts) (is_within_limits (shape m.structs (struct packed ts))) g).0 h)
    with_tree_good (named name) all g h = with_new_good (named name) all g h

    with_trees_good : (ts : Trees) (all : List Tree) → are_good_types m.structs ts ≡ true → AreGood m all → AreGood m (with_trees ts all)
    with_trees_good no_trees all g h = h
    with_trees_good (more_trees t ts) all g h =
        let p = and_parts (is_good_type m.structs t) (are_good_types m.structs ts) g in
        with_trees_good ts (with_tree t all) p.1 (with_tree_good t all p.0 h)

  folded_good : (ts all : List Tree) → AreGood m ts → AreGood m all → AreGood m (fold (λ all t. with_tree t all) all ts)
  folded_good [] all g h = h
  folded_good (t ∷ ts) all g h =
      let p = and_parts (is_good_type m.structs t) (list_all (is_good_type m.structs) ts) g in
      folded_good ts (with_tree t all) p.1 (with_tree_good t all p.0 h)

  pub mentioned_good : IsWellFormed m → AreGood m (mentioned m)
  mentioned_good well = folded_good (written_types m) [] (written_good m well) refl
