-- For `layout`, `offset` and `shape_eq`: the shape of a type, its tree with each struct's name replaced by the struct's body, down to the leaves.
use Rattle.std.specs.Prelude.{ℕ, zero, suc, ◌+◌, max, Bool, List, Option, Some, None}
use Rattle.std.specs.Option.{option_map}
use Rattle.type_table.specs.declared.measure.TheConstants.{NESTING_LIMIT}
use Rattle.type_table.specs.Tree.{Tree, int, ptr, void, array, struct, named, Trees, no_trees, more_trees, TreeBody, opaque_body, fields, Structs, body_of}

-- the name that a struct had, where it is kept
abbrev pub Label : Type 0
Label = Option (List ℕ)

mutual
  -- an opaque struct and one that is not defined yet are one leaf
  pub data Shape : Type 0 where
    int_leaf : ℕ → Shape
    ptr_leaf : Shape
    void_leaf : Shape
    opaque_leaf : Label → Shape
    array_of : ℕ → Shape → Shape
    struct_of : Label → Bool → Shapes → Shape

  -- shapes, one after another
  pub data Shapes : Type 0 where
    no_shapes : Shapes
    more_shapes : Shape → Shapes → Shapes

-- a list of shapes, where the first and the others are there
abbrev pub with_first : Option Shape → Option Shapes → Option Shapes
with_first None rest = None
with_first (Some s) None = None
with_first (Some s) (Some ss) = Some (more_shapes s ss)

module _ (look : List ℕ → Option Shape) where
  abbrev mutual
    -- the shape of a tree, where `look` gives those of the names
    pub expanded : Tree → Option Shape
    expanded (int w) = Some (int_leaf w)
    expanded ptr = Some ptr_leaf
    expanded void = Some void_leaf
    expanded (array n t) = option_map (array_of n) (expanded t)
    expanded (struct packed ts) = option_map (struct_of None packed) (all_expanded ts)
    expanded (named n) = look n

    -- the shapes of several trees, where each has one
    pub all_expanded : Trees → Option Shapes
    all_expanded no_trees = Some no_shapes
    all_expanded (more_trees t ts) = with_first (expanded t) (all_expanded ts)

  -- the shape of a struct with that body, under a label
  abbrev pub body_shape : Label → TreeBody → Option Shape
  body_shape label opaque_body = Some (opaque_leaf label)
  body_shape label (fields packed ts) = option_map (struct_of label packed) (all_expanded ts)

module _ (label : List ℕ → Label) (bodies : List ℕ → TreeBody) where
  -- the shape of a named struct in which names stand in names at most `room` deep
  unfoldable pub name_shape : ℕ → List ℕ → Option Shape
  name_shape zero name = None
  name_shape (suc room) name = body_shape (name_shape room) (label name) (bodies name)

-- Types nest no deeper than the limit. So a type has a shape unless it nests deeper, or holds a struct that contains itself
abbrev pub shape : Structs → Tree → Option Shape
shape structs t = expanded (name_shape (λ _. None) (body_of structs) NESTING_LIMIT) t

-- the same, with its own name kept at each struct
abbrev pub named_shape : Structs → Tree → Option Shape
named_shape structs t = expanded (name_shape (λ name. Some name) (body_of structs) NESTING_LIMIT) t

abbrev mutual
  -- how deep a shape nests: an array or a struct is one more than its deepest part
  pub nesting : Shape → ℕ
  nesting (int_leaf w) = 0
  nesting ptr_leaf = 0
  nesting void_leaf = 0
  nesting (opaque_leaf label) = 1
  nesting (array_of n s) = nesting s + 1
  nesting (struct_of label packed ss) = deepest ss + 1

  -- how deep the deepest of some shapes nests
  pub deepest : Shapes → ℕ
  deepest no_shapes = 0
  deepest (more_shapes s ss) = max (nesting s) (deepest ss)

abbrev mutual
  -- how many nodes a shape has
  pub parts : Shape → ℕ
  parts (int_leaf w) = 1
  parts ptr_leaf = 1
  parts void_leaf = 1
  parts (opaque_leaf label) = 1
  parts (array_of n s) = 1 + parts s
  parts (struct_of label packed ss) = 1 + all_parts ss

  -- how many nodes some shapes have together
  pub all_parts : Shapes → ℕ
  all_parts no_shapes = 0
  all_parts (more_shapes s ss) = parts s + all_parts ss
