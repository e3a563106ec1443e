-- The structs of a module are read of their records, one behind the other, behind its types.
use Rattle.std.proofs.Common.{◌≡◌, ◌⊎◌, ℕ, zero, suc, true, false, List, [], ◌∷◌, ◌++◌, length, Some, refl, sym, ap, ◌∙◌, append-nil, inl, inr}
use Rattle.std.specs.Prelude.{map, nat_lt, slice_index_or, set, ⊤}
use Rattle.std.specs.List.{AllByRecursion}
use Rattle.type_table.specs.Tree.{Tree, Trees, no_trees, more_trees, TreeBody, opaque_body, fields}
use Rattle.type_table.specs.Types as table
use Rattle.type_table.specs.declared.ir_type.StructBody.{StructBody}
use Rattle.type_table.specs.declared.ir_type.StructBody.TheVariants as bodies
use Rattle.module_arena.specs.Same.{same_type}
use Rattle.module_arena.proofs.SameValues.{type_is, type_self}
use Rattle.record_table.specs.Fields.{Texts, is_name}
use Rattle.record_table.specs.Lays.{Lays}
use Rattle.record_table.proofs.Layouts.{lays_both, lays_asking, lays_tested, lays_counted, lays_mapped, lays_as}
use Rattle.record_table.specs.TypeRecords.{body_code, body_fields, body_by, may_have, struct_body, definition}
use Rattle.record_table.specs.Mentions.{tree_list}
use Rattle.record_table.specs.Spelling.{places, body_by_ids}
use Rattle.record_law.proofs.OnTypes.Places.{is_listed}
use Rattle.record_law.proofs.OnTypes.TypesInOrder.{AreThere}
use Rattle.record_law.proofs.OnTypes.TypesById.{trees_again}

-- what a struct is, with fields in range
lays_body : (count : ℕ) → Lays (λ body. AllByRecursion (λ n. nat_lt n count ≡ true) (body_fields body)) (struct_body count)
lays_body count = lays_as is (lays_mapped (λ (code, ts). body_by code ts) (λ body. (body_code body, body_fields body))
    (lays_asking 3 may_have (lays_both (lays_tested 3 (λ n. nat_lt n 3)) (lays_counted (lays_tested 2 (λ n. nat_lt n count))))))
  where
    is : (body : StructBody) → AllByRecursion (λ n. nat_lt n count ≡ true) (body_fields body)
        → (((nat_lt (body_code body) 3 ≡ true) × AllByRecursion (λ n. nat_lt n count ≡ true) (body_fields body)) × (may_have (body_code body, body_fields body) ≡ true)) × (body_by (body_code body) (body_fields body) ≡ body)
    is (bodies.Plain ts) fit = (((refl, fit), refl), refl)
    is (bodies.Packed ts) fit = (((refl, fit), refl), refl)
    is bodies.Opaque fit = (((refl, fit), refl), refl)

-- DEFINE
pub lays_definition : (texts : Texts) → Lays (λ text. texts.holds text ≡ true) texts.last → (count : ℕ)
    → Lays (λ x. AllByRecursion (λ n. nat_lt n count ≡ true) (body_fields x.0) × ((texts.holds x.1 ≡ true) × (is_name x.1 ≡ true))) (definition texts count)
lays_definition texts lays_last count = lays_both (lays_body count) (lays_asking 4 is_name lays_last)

-- one of a list is set
pub set_behind : {A : Type 0} (xs : List A) (y : A) (ys : List A) (z : A) → set (xs ++ y ∷ ys) (length xs) z ≡ xs ++ z ∷ ys
set_behind [] y ys z = refl
set_behind (x ∷ xs) y ys z = ap (λ all. x ∷ all) (set_behind xs y ys z)

pub found_behind : {A : Type 0} (xs : List A) (y : A) (ys : List A) (d : A) → slice_index_or (xs ++ y ∷ ys) (length xs) d ≡ y
found_behind [] y ys d = refl
found_behind (x ∷ xs) y ys d = found_behind xs y ys d

module _ (all : List Tree) where
  fields_there : (ts : Trees) → AreThere all (tree_list ts) → AllByRecursion (λ n. nat_lt n (length all) ≡ true) (places all ts)
  fields_there no_trees there = tt
  fields_there (more_trees t ts) there = ((is_listed same_type type_is type_self all t t there.0).inside, fields_there ts there.1)

  -- the fields of a body are types of the module
  abbrev pub BodyIsThere : TreeBody → Type 0
  BodyIsThere opaque_body = ⊤
  BodyIsThere (fields packed ts) = AreThere all (tree_list ts)

  pub body_fields_there : (body : TreeBody) → BodyIsThere body → AllByRecursion (λ n. nat_lt n (length all) ≡ true) (body_fields (body_by_ids all body))
  body_fields_there opaque_body there = tt
  body_fields_there (fields true ts) there = fields_there ts there
  body_fields_there (fields false ts) there = fields_there ts there

  -- the body that was written
  pub body_again : (body : TreeBody) → BodyIsThere body → table.tree_body all (Some (body_by_ids all body)) ≡ body
  body_again opaque_body there = refl
  body_again (fields true ts) there = ap (fields true) (ap (λ xs. table.trees_at all (places xs ts)) (sym (append-nil all)) ∙ trees_again all [] [] ts there)
  body_again (fields false ts) there = ap (fields false) (ap (λ xs. table.trees_at all (places xs ts)) (sym (append-nil all)) ∙ trees_again all [] [] ts there)

-- bodies of which the later ones are opaque yet
pub opaque_later : (front back : List TreeBody) (id : ℕ)
    → (slice_index_or (front ++ map (λ (b : TreeBody). opaque_body) back) id opaque_body ≡ slice_index_or (front ++ back) id opaque_body) ⊎ (slice_index_or (front ++ map (λ (b : TreeBody). opaque_body) back) id opaque_body ≡ opaque_body)
opaque_later [] [] id = inl refl
opaque_later [] (b ∷ back) zero = inr refl
opaque_later [] (b ∷ back) (suc id) = opaque_later [] back id
opaque_later (b ∷ front) back zero = inl refl
opaque_later (b ∷ front) back (suc id) = opaque_later front back id
