-- A struct that has a shape does not contain itself.
use Rattle.std.proofs.Common.{◌≡◌, ℕ, zero, suc, ◌≤◌, List, Some, None, refl, sym, ap, ◌∙◌, arith}
use Rattle.type_table.specs.Contains.{Holds, holds_as_itself, holds_in_array, holds_in_struct, holds_in_body, SomeHolds, first_holds, later_holds, BodyHolds, ContainsItself}
use Rattle.type_table.specs.Shape.{Shape, array_of, struct_of, Shapes, Label, expanded, all_expanded, body_shape, name_shape, shape, nesting, deepest}
use Rattle.type_table.specs.Tree.{Tree, named, Trees, TreeBody, opaque_body, fields, Structs, body_of}
use Rattle.type_table.proofs.Outlined.{name_keeps}
use Rattle.type_table.proofs.Rooms.{name_shape-zero, name_shape-suc, unmapped, unjoined}

abbrev unlabelled : List ℕ → Label
unlabelled name = None

-- the struct has a shape within that room, and nests at most so deep
abbrev Nests : (List ℕ → TreeBody) → List ℕ → ℕ → ℕ → Type 0
Nests bodies name room most = (y : Shape) × (name_shape unlabelled bodies room name ≡ Some y) × (nesting y ≤ most)

module _ (bodies : List ℕ → TreeBody) (name : List ℕ) where
  more_room : (room m n : ℕ) → m ≤ n → Nests bodies name room m → Nests bodies name (suc room) n
  more_room room m n le h = let deep = h.2 in (h.0, name_keeps unlabelled bodies room name h.0 h.1, omega (arith, le, deep))

  mutual
    held : (room : ℕ) {t : Tree} → Holds bodies name t → (x : Shape) → expanded (name_shape unlabelled bodies room) t ≡ Some x → Nests bodies name room (nesting x)
    held room holds_as_itself x e = (x, e, omega arith)
    held room (holds_in_array {n = n} {t = t} h) x e =
        let inside = unmapped (array_of n) (expanded (name_shape unlabelled bodies room) t) x e in
        let deep = held room h inside.0 inside.1 in
        let same = ap nesting (sym inside.2) in
        let le = deep.2 in
        (deep.0, deep.1, omega (arith, same, le))
    held room (holds_in_struct {packed = packed} {ts = ts} some) x e =
        let inside = unmapped (struct_of None packed) (all_expanded (name_shape unlabelled bodies room) ts) x e in
        let deep = some_held room some inside.0 inside.1 in
        let same = ap nesting (sym inside.2) in
        let le = deep.2 in
        (deep.0, deep.1, omega (arith, same, le))
    held zero (holds_in_body {outer = outer} {packed = packed} {ts = ts} is some) x e = let none = name_shape-zero unlabelled bodies outer in absurd cc
    held (suc room) (holds_in_body {outer = outer} {packed = packed} {ts = ts} is some) x e =
        let whole = sym (name_shape-suc unlabelled bodies room outer ∙ ap (body_shape (name_shape unlabelled bodies room) None) is) ∙ e in
        let inside = unmapped (struct_of None packed) (all_expanded (name_shape unlabelled bodies room) ts) x whole in
        let deep = some_held room some inside.0 inside.1 in
        let same = ap nesting (sym inside.2) in
        more_room room (deepest inside.0) (nesting x) (omega (arith, same)) deep

    some_held : (room : ℕ) {ts : Trees} → SomeHolds bodies name ts → (xs : Shapes) → all_expanded (name_shape unlabelled bodies room) ts ≡ Some xs → Nests bodies name room (deepest xs)
    some_held room (first_holds {t = t} {ts = ts} h) xs e =
        let inside = unjoined (expanded (name_shape unlabelled bodies room) t) (all_expanded (name_shape unlabelled bodies room) ts) xs e in
        let deep = held room h inside.0 inside.2 in
        let same = ap deepest (sym inside.4) in
        let le = deep.2 in
        (deep.0, deep.1, omega (arith, same, le))
    some_held room (later_holds {t = t} {ts = ts} some) xs e =
        let inside = unjoined (expanded (name_shape unlabelled bodies room) t) (all_expanded (name_shape unlabelled bodies room) ts) xs e in
        let deep = some_held room some inside.1 inside.3 in
        let same = ap deepest (sym inside.4) in
        let le = deep.2 in
        (deep.0, deep.1, omega (arith, same, le))

  in_itself : (room : ℕ) (x : Shape) → name_shape unlabelled bodies (suc room) name ≡ Some x → BodyHolds bodies name (bodies name) → ⊥
  in_itself room x e h = by (bodies name) refl h
    where
      by : (body : TreeBody) → bodies name ≡ body → BodyHolds bodies name body → ⊥
      by opaque_body is holds = holds
      by (fields packed ts) is holds =
          let whole = sym (name_shape-suc unlabelled bodies room name ∙ ap (body_shape (name_shape unlabelled bodies room) None) is) ∙ e in
          let inside = unmapped (struct_of None packed) (all_expanded (name_shape unlabelled bodies room) ts) x whole in
          let deep = some_held room holds inside.0 inside.1 in
          let kept = name_keeps unlabelled bodies room name deep.0 deep.1 in
          let one : deep.0 ≡ x = (let q = sym kept ∙ e in cc) in
          let same = ap nesting (sym inside.2) in
          let le = deep.2 in
          let turn = ap nesting one in
          omega (arith, same, le, turn)

pub ended : (part : Structs) (name : List ℕ) (x : Shape) → shape part (named name) ≡ Some x → ContainsItself part name → ⊥
ended part name x e h = in_itself (body_of part) name 63 x e h
