-- A struct that contains itself has no shape, so that it is past every limit.
use Rattle.std.proofs.Common.{◌≡◌, ◌<◌, ◌≤◌, ℕ, zero, suc, List, Option, Some, None, refl, sym, ap, ◌∙◌, arith}
use Rattle.type_table.specs.Contains.{Holds, SomeHolds, BodyHolds, holds_as_itself, holds_in_array, holds_in_struct, holds_in_body, first_holds, later_holds}
use Rattle.type_table.specs.Shape.{Shape, Shapes, array_of, struct_of, expanded, all_expanded, body_shape, name_shape}
use Rattle.type_table.specs.Tree.{Tree, Trees, TreeBody, opaque_body, fields}
use Rattle.type_table.proofs.Rooms.{unmapped, unjoined, name_shape-zero, name_shape-suc}

module _ (bodies : List ℕ → TreeBody) (name : List ℕ) where
  abbrev look : ℕ → List ℕ → Option Shape
  look room = name_shape (λ _. None) bodies room

  -- the struct has a shape in no more than that room
  abbrev Within : ℕ → Type 0
  Within room = (less : ℕ) × (x : Shape) × (less ≤ room) × (look less name ≡ Some x)

  wider : (room more : ℕ) → room ≤ more → Within room → Within more
  wider room more le w = (w.0, w.1, omega (arith, w.2), w.3)

  mutual
    -- what holds a struct, and has a shape, holds one that has a shape
    held : (room : ℕ) {t : Tree} (x : Shape) → expanded (look room) t ≡ Some x → Holds bodies name t → Within room
    held room x e holds_as_itself = (room, x, omega arith, e)
    held room x e (holds_in_array {n = n} {t = t} h) = let inside = unmapped (array_of n) (expanded (look room) t) x e in held room inside.0 inside.1 h
    held room x e (holds_in_struct {packed = packed} {ts = ts} hs) = let inside = unmapped (struct_of None packed) (all_expanded (look room) ts) x e in some_held room inside.0 inside.1 hs
    held zero x e (holds_in_body {outer = outer} {packed = packed} {ts = ts} is hs) = absurd (cc (name_shape-zero (λ _. None) bodies outer, e))
    held (suc room) x e (holds_in_body {outer = outer} {packed = packed} {ts = ts} is hs) =
        let f : body_shape (look room) None (fields packed ts) ≡ Some x = ap (body_shape (look room) None) (sym is) ∙ (sym (name_shape-suc (λ _. None) bodies room outer) ∙ e) in
        let inside = unmapped (struct_of None packed) (all_expanded (look room) ts) x f in
        wider room (suc room) (omega arith) (some_held room inside.0 inside.1 hs)

    some_held : (room : ℕ) {ts : Trees} (xs : Shapes) → all_expanded (look room) ts ≡ Some xs → SomeHolds bodies name ts → Within room
    some_held room xs e (first_holds {t = t} {ts = ts} h) = let inside = unjoined (expanded (look room) t) (all_expanded (look room) ts) xs e in held room inside.0 inside.2 h
    some_held room xs e (later_holds {t = t} {ts = ts} hs) = let inside = unjoined (expanded (look room) t) (all_expanded (look room) ts) xs e in some_held room inside.1 inside.3 hs

  -- a body that holds its own struct gives it a shape in less room
  nearer : (room : ℕ) (body : TreeBody) (x : Shape) → bodies name ≡ body → BodyHolds bodies name body → look (suc room) name ≡ Some x → Within room
  nearer room opaque_body x is h e = absurd h
  nearer room (fields packed ts) x is h e =
      let f : body_shape (look room) None (fields packed ts) ≡ Some x = ap (body_shape (look room) None) (sym is) ∙ (sym (name_shape-suc (λ _. None) bodies room name) ∙ e) in
      let inside = unmapped (struct_of None packed) (all_expanded (look room) ts) x f in
      some_held room inside.0 inside.1 h

  endless : (fuel room : ℕ) (x : Shape) → room < fuel → BodyHolds bodies name (bodies name) → look room name ≡ Some x → ⊥
  endless zero room x lt h e = absurd (omega arith)
  endless (suc fuel) zero x lt h e = absurd (cc (name_shape-zero (λ _. None) bodies name, e))
  endless (suc fuel) (suc room) x lt h e =
      let w = nearer room (bodies name) x refl h e in
      endless fuel w.0 w.1 (omega (arith, w.2)) h w.3

  pub no_shape : (room : ℕ) → BodyHolds bodies name (bodies name) → look room name ≡ None
  no_shape room h = by_case (look room name) refl
    where
      by_case : (o : Option Shape) → look room name ≡ o → o ≡ None
      by_case None e = refl
      by_case (Some x) e = absurd (endless (suc room) room x (omega arith) h e)
