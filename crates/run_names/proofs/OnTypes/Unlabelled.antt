-- The shapes of the types of a table keep no struct's name.
use Rattle.std.proofs.Common.{◌≡◌, ℕ, zero, suc, Bool, List, Option, Some, None, unwrap_or, refl, sym, ap, ◌∙◌}
use Rattle.std.specs.Option.{option_map}
use Rattle.type_table.specs.Shape.{Label, Shape, int_leaf, ptr_leaf, void_leaf, opaque_leaf, array_of, struct_of, Shapes, expanded, all_expanded, body_shape, name_shape}
use Rattle.type_table.specs.Tree.{Tree, int, ptr, void, array, struct, named, TreeBody, opaque_body, fields, body_of}
use Rattle.type_table.specs.Types.{Types, structs, tree}
use Rattle.run_names.specs.Shapes.Shapes.{shape_in}

-- the name that is kept at a struct with a body
abbrev pub label_of : Shape → Label
label_of (int_leaf width) = None
label_of ptr_leaf = None
label_of void_leaf = None
label_of (opaque_leaf label) = None
label_of (array_of n s) = None
label_of (struct_of label packed ss) = label

of_fields : (packed : Bool) (o : Option Shapes) → label_of (unwrap_or (option_map (struct_of None packed) o) void_leaf) ≡ None
of_fields packed None = refl
of_fields packed (Some ss) = refl

of_elements : (n : ℕ) (o : Option Shape) → label_of (unwrap_or (option_map (array_of n) o) void_leaf) ≡ None
of_elements n None = refl
of_elements n (Some s) = refl

of_body : (look : List ℕ → Option Shape) (b : TreeBody) → label_of (unwrap_or (body_shape look None b) void_leaf) ≡ None
of_body look opaque_body = refl
of_body look (fields packed ts) = of_fields packed (all_expanded look ts)

of_name : (bodies : List ℕ → TreeBody) (room : ℕ) (name : List ℕ) → label_of (unwrap_or (name_shape (λ _. None) bodies room name) void_leaf) ≡ None
unfolding name_shape
of_name bodies zero name = refl
of_name bodies (suc room) name = of_body (name_shape (λ _. None) bodies room) (bodies name)

of_tree : (look : List ℕ → Option Shape) (T : Tree) → ((name : List ℕ) → label_of (unwrap_or (look name) void_leaf) ≡ None) → label_of (unwrap_or (expanded look T) void_leaf) ≡ None
of_tree look (int width) h = refl
of_tree look ptr h = refl
of_tree look void h = refl
of_tree look (array n T) h = of_elements n (expanded look T)
of_tree look (struct packed Ts) h = of_fields packed (all_expanded look Ts)
of_tree look (named name) h = h name

-- a type that is a struct has no name in its shape
pub unlabelled : (t : Types) (ty : ℕ) (label : Label) (packed : Bool) (ss : Shapes) → shape_in t ty ≡ struct_of label packed ss → label ≡ None
unlabelled t ty label packed ss is = sym (ap label_of is) ∙ of_tree (name_shape (λ _. None) (body_of (structs t)) 64) (tree t ty) (λ name. of_name (body_of (structs t)) 64 name)
