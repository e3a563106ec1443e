-- Lists of constants behind each other, as those of an appended array in the linked module.
use Rattle.std.proofs.Common.{◌≡◌, ℕ, ◌+◌, ◌-◌, ◌<◌, Bool, true, false, List, [], ◌∷◌, ◌++◌, Option, Some, None, refl, sym, ap, ap₂, ◌∙◌, subst, option_map, flat_map, nat_lt, arith, eqb-true, ltb-true, lt-ltb}
use Rattle.std.specs.List.{list_any, list_all}
use Rattle.std.proofs.lemmas.Bool.{and_from, and_parts}
use Rattle.std.proofs.lemmas.Option.{same_Some}
use Rattle.std.proofs.lemmas.List.{append_assoc}
use Rattle.std.proofs.lemmas.List.Concat.{flat_map-append}
use Rattle.type_table.specs.Tree.{Tree, int, ptr, void, array, struct, named, Trees, no_trees, more_trees, Structs}
use Rattle.type_table.specs.Shape.{Shape, int_leaf, ptr_leaf, void_leaf, opaque_leaf, array_of, struct_of, Shapes, no_shapes, more_shapes, with_first, expanded, all_expanded}
use Rattle.module_arena.specs.Module.{Bytes, Constants, Module}
use Rattle.module_arena.specs.Module.Constants.{no_constants, more_constants}
use Rattle.module_arena.specs.Renamed.{renamed_tree, renamed_constant, renamed_constants}
use Rattle.module_arena.specs.Same.{same_type}
use Rattle.module_arena.specs.TypeTests.{is_free_of_void, is_free_of_names, are_free_of_names}
use Rattle.module_arena.specs.Constants.{constants_in, constants_of, address_in, each, parts_fit, fits}
use Rattle.module_arena.specs.EntryRules.{is_only_called, constant_types, types_written_suit, is_constructor, are_constructors, constructor_type}
use Rattle.linkage_rules.specs.Contents.Contents.{ContentPiece, pieces_of_constants}
use Rattle.link_rules.specs.Rename.{new_global}
use Rattle.link_rules.specs.Structs.{new_struct}
use Rattle.link_rules.specs.Linked.{linked_pieces}
use Rattle.link_rules.proofs.Symbols.{any_append}

abbrev pub after : Constants → Constants → Constants
after no_constants ds = ds
after (more_constants t c cs) ds = more_constants t c (after cs ds)

pub linked_after : (parts : List Module) (i : ℕ) (cs : Constants) (ps : List ContentPiece) → linked_pieces parts (pieces_of_constants i cs ++ ps) ≡ after (renamed_constants (new_struct parts i) (new_global parts i) cs) (linked_pieces parts ps)
linked_after parts i no_constants ps = refl
linked_after parts i (more_constants t c cs) ps = ap (more_constants (renamed_tree (new_struct parts i) t) (renamed_constant (new_struct parts i) (new_global parts i) c)) (linked_after parts i cs ps)

all_append : {A : Type 0} (p : A → Bool) (xs ys : List A) → list_all p xs ≡ true → list_all p ys ≡ true → list_all p (xs ++ ys) ≡ true
all_append p [] ys h k = k
all_append p (x ∷ xs) ys h k =
    let both = and_parts (p x) (list_all p xs) h in
    and_from (p x) _ both.0 (all_append p xs ys both.1 k)

pub constants_after : (cs ds : Constants) → constants_of (after cs ds) ≡ constants_of cs ++ constants_of ds
constants_after no_constants ds = refl
constants_after (more_constants t c cs) ds = ap (λ l. constants_in t c ++ l) (constants_after cs ds) ∙ sym (append_assoc (constants_in t c) (constants_of cs) (constants_of ds))

types_after : (cs ds : Constants) → constant_types (after cs ds) ≡ constant_types cs ++ constant_types ds
types_after no_constants ds = refl
types_after (more_constants t c cs) ds = ap (λ l. t ∷ l) (types_after cs ds)

fit_after : (structs : Structs) (n k : ℕ) (t : Tree) (cs ds : Constants) → parts_fit structs (each n t) cs ≡ true → parts_fit structs (each k t) ds ≡ true → parts_fit structs (each (n + k) t) (after cs ds) ≡ true
fit_after structs n k t no_constants ds h g =
    let none : n ≡ 0 = eqb-true n 0 h in
    let same : k ≡ n + k = omega arith in
    subst (λ j. parts_fit structs (each j t) ds ≡ true) same g
fit_after structs n k t (more_constants u c cs) ds h g =
    let one = and_parts (nat_lt 0 n) _ h in
    let two = and_parts (same_type t u) _ one.1 in
    let three = and_parts (fits structs u c) _ two.1 in
    let some = ltb-true 0 n one.0 in
    let more : 0 < n + k = omega arith in
    let less : (n - 1) + k ≡ (n + k) - 1 = omega arith in
    and_from _ _ (lt-ltb 0 (n + k) more) (and_from _ _ two.0 (and_from _ _ three.0
    (subst (λ j. parts_fit structs (each j t) (after cs ds) ≡ true) less (fit_after structs (n - 1) k t cs ds three.1 g))))

pub constructors_after : (m : Module) (cs ds : Constants) → are_constructors m cs ≡ true → are_constructors m ds ≡ true → are_constructors m (after cs ds) ≡ true
constructors_after m no_constants ds h g = g
constructors_after m (more_constants t c cs) ds h g =
    let one = and_parts (same_type t constructor_type) _ h in
    let two = and_parts (is_constructor m c) _ one.1 in
    and_from _ _ one.0 (and_from _ _ two.0 (constructors_after m cs ds two.1 g))

-- so many constants of a type, which may stand in an initialiser
pub record AreElements (m : Module) (t : Tree) (n : ℕ) (cs : Constants) : Type 0 where
  pub no_intrinsic : list_any (is_only_called m) (flat_map address_in (constants_of cs)) ≡ false
  pub types : list_all (types_written_suit m.structs) (constants_of cs) ≡ true
  pub void_free : list_all is_free_of_void (constant_types cs) ≡ true
  pub fit : parts_fit m.structs (each n t) cs ≡ true

pub no_elements : (m : Module) (t : Tree) → AreElements m t 0 no_constants
no_elements m t = record { no_intrinsic = refl; types = refl; void_free = refl; fit = refl }

pub elements_after : (m : Module) (t : Tree) (n k : ℕ) (cs ds : Constants) → AreElements m t n cs → AreElements m t k ds → AreElements m t (n + k) (after cs ds)
elements_after m t n k cs ds a b = record {
  no_intrinsic = ap (list_any (is_only_called m)) (ap (flat_map address_in) (constants_after cs ds) ∙ flat_map-append address_in (constants_of cs) (constants_of ds)) ∙ any_append (is_only_called m) (flat_map address_in (constants_of cs)) (flat_map address_in (constants_of ds)) a.no_intrinsic b.no_intrinsic;
  types = ap (list_all (types_written_suit m.structs)) (constants_after cs ds) ∙ all_append (types_written_suit m.structs) (constants_of cs) (constants_of ds) a.types b.types;
  void_free = ap (list_all is_free_of_void) (types_after cs ds) ∙ all_append is_free_of_void (constant_types cs) (constant_types ds) a.void_free b.void_free;
  fit = fit_after m.structs n k t cs ds a.fit b.fit;
}

-- TYPES WITHOUT NAMES ARE TOLD BY THEIR SHAPES

abbrev mutual
  plain_shape : Tree → Shape
  plain_shape (int w) = int_leaf w
  plain_shape ptr = ptr_leaf
  plain_shape void = void_leaf
  plain_shape (array n t) = array_of n (plain_shape t)
  plain_shape (struct packed ts) = struct_of None packed (plain_shapes ts)
  plain_shape (named name) = void_leaf

  plain_shapes : Trees → Shapes
  plain_shapes no_trees = no_shapes
  plain_shapes (more_trees t ts) = more_shapes (plain_shape t) (plain_shapes ts)

abbrev mutual
  plain_tree : Shape → Tree
  plain_tree (int_leaf w) = int w
  plain_tree ptr_leaf = ptr
  plain_tree void_leaf = void
  plain_tree (opaque_leaf label) = void
  plain_tree (array_of n s) = array n (plain_tree s)
  plain_tree (struct_of label packed ss) = struct packed (plain_trees ss)

  plain_trees : Shapes → Trees
  plain_trees no_shapes = no_trees
  plain_trees (more_shapes s ss) = more_trees (plain_tree s) (plain_trees ss)

mutual
  back_again : (t : Tree) → is_free_of_names t ≡ true → plain_tree (plain_shape t) ≡ t
  back_again (int w) h = refl
  back_again ptr h = refl
  back_again void h = refl
  back_again (array n t) h = ap (array n) (back_again t h)
  back_again (struct packed ts) h = ap (struct packed) (all_back_again ts h)
  back_again (named name) h = cc

  all_back_again : (ts : Trees) → are_free_of_names ts ≡ true → plain_trees (plain_shapes ts) ≡ ts
  all_back_again no_trees h = refl
  all_back_again (more_trees t ts) h =
      let both = and_parts (is_free_of_names t) (are_free_of_names ts) h in
      ap₂ more_trees (back_again t both.0) (all_back_again ts both.1)

module _ (look : Bytes → Option Shape) where
  mutual
    expands : (t : Tree) → is_free_of_names t ≡ true → expanded look t ≡ Some (plain_shape t)
    expands (int w) h = refl
    expands ptr h = refl
    expands void h = refl
    expands (array n t) h = ap (option_map (array_of n)) (expands t h)
    expands (struct packed ts) h = ap (option_map (struct_of None packed)) (all_expand ts h)
    expands (named name) h = cc

    all_expand : (ts : Trees) → are_free_of_names ts ≡ true → all_expanded look ts ≡ Some (plain_shapes ts)
    all_expand no_trees h = refl
    all_expand (more_trees t ts) h =
        let both = and_parts (is_free_of_names t) (are_free_of_names ts) h in
        ap₂ with_first (expands t both.0) (all_expand ts both.1)

pub nameless_equal : (look there : Bytes → Option Shape) (t u : Tree) → is_free_of_names t ≡ true → is_free_of_names u ≡ true → expanded look t ≡ expanded there u → t ≡ u
nameless_equal look there t u f g h =
    let shapes = same_Some (plain_shape t) (plain_shape u) (sym (expands look t f) ∙ h ∙ expands there u g) in
    sym (back_again t f) ∙ ap plain_tree shapes ∙ back_again u g
