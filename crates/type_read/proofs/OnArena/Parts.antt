-- What a list is made of at a type, by what stands in the table.
use Rattle.std.proofs.Common.{◌≡◌, ◌<◌, ℕ, zero, suc, Bool, true, false, List, [], ◌∷◌, Option, Some, None, length, get_or, slice_get, All, IfSome, refl, sym, ap, subst, ◌∙◌, arith}
use Rattle.std.specs.Prelude.{nat_eq, is_some}
use Rattle.std.proofs.lemmas.Bool.{eqb-true}
use Rattle.std.proofs.lemmas.List.{length-map}
use Rattle.std.proofs.lemmas.List.Elements.{All-head, All-tail}
use Rattle.std.proofs.lemmas.Option.{get_or_from_slice_get, slice_get_within}
use Rattle.type_table.specs.declared.ir_type.IrType.{IrType}
use Rattle.type_table.specs.declared.ir_type.IrType.TheVariants as type
use Rattle.type_table.specs.declared.ir_type.StructBody.{StructBody}
use Rattle.type_table.specs.declared.ir_type.StructBody.TheVariants.{Opaque, Plain, Packed}
use Rattle.type_table.specs.Tree.{Tree, void, no_trees, body_of}
use Rattle.type_table.specs.Types.{Types, IsGood, Knows, KnowsBody, bodies, names, structs, trees, trees_at, tree_of, tree_body, tree}
use Rattle.type_table.proofs.Outlined.{tree-is, type_known}
use Rattle.type_table.proofs.UnderIds.{body_of-place, index_of-at}
use Rattle.type_table.proofs.Added.{All-below}
use Rattle.record_table.specs.Constants.{Parts, alike, these, no_parts, has_parts, how_many, first_part, parts_of, body_parts}
use Rattle.type_read.specs.Arena.Kept.{tree_at}
use Rattle.type_read.specs.Arena.ListParts.{IsMadeOf, PartIds, alike_of, these_of, nothing, body_ids, nth_part, parts_at}

-- ---- by ids

body_known : (count : ℕ) (bs : List (Option StructBody)) (id : ℕ) → All (KnowsBody count) bs → KnowsBody count (get_or bs id None)
body_known count [] id all = tt
body_known count (b ∷ bs) zero all = All-head (KnowsBody count) b bs all
body_known count (b ∷ bs) (suc id) all = body_known count bs id (All-tail (KnowsBody count) b bs all)

body_made : (t : Types) (body : Option StructBody) → KnowsBody (length t.types) body → IsMadeOf t (body_ids body) (body_parts (tree_body (trees t) body))
body_made t None known = refl
body_made t (Some Opaque) known = refl
body_made t (Some (Plain parts)) known = (refl, known)
body_made t (Some (Packed parts)) known = (refl, known)

module _ (t : Types) (good : IsGood t) (ty : ℕ) (x : IrType) (at : slice_get t.types ty ≡ Some x) where
  tree_by : (y : IrType) → x ≡ y → tree t ty ≡ tree_of (names t) (trees t) y
  tree_by y is = tree-is t good ty (slice_get_within t.types ty x at) ∙ (ap (tree_of (names t) (trees t)) (get_or_from_slice_get t.types ty x type.Void at) ∙ ap (tree_of (names t) (trees t)) is)

  knows : (y : IrType) → x ≡ y → Knows ty (length t.structs) y
  knows y is = subst (Knows ty (length t.structs)) (get_or_from_slice_get t.types ty x type.Void at ∙ is) (type_known t good ty (slice_get_within t.types ty x at))

  pub made_of_integer : (w : ℕ) → x ≡ type.Int w → IsMadeOf t nothing (parts_at t (Some ty))
  made_of_integer w is = ap (parts_of (structs t)) (tree_by (type.Int w) is)

  pub made_of_pointer : x ≡ type.Ptr → IsMadeOf t nothing (parts_at t (Some ty))
  made_of_pointer is = ap (parts_of (structs t)) (tree_by type.Ptr is)

  pub made_of_void : x ≡ type.Void → IsMadeOf t nothing (parts_at t (Some ty))
  made_of_void is = ap (parts_of (structs t)) (tree_by type.Void is)

  pub made_of_array : (n part : ℕ) → x ≡ type.Array n part → IsMadeOf t (alike_of n part) (parts_at t (Some ty))
  made_of_array n part is =
      let known : part < ty = knows (type.Array n part) is in
      let lt = slice_get_within t.types ty x at in
      (ap (parts_of (structs t)) (tree_by (type.Array n part) is), omega (arith, known, lt))

  pub made_of_struct : (packed : Bool) (parts : List ℕ) → x ≡ type.Struct packed parts → IsMadeOf t (these_of packed parts) (parts_at t (Some ty))
  made_of_struct packed parts is =
      let lt = slice_get_within t.types ty x at in
      (ap (parts_of (structs t)) (tree_by (type.Struct packed parts) is), All-below ty (length t.types) parts (omega (arith, lt)) (knows (type.Struct packed parts) is))

  pub named_within : (id : ℕ) → x ≡ type.Named id → id < length t.structs
  named_within id is = knows (type.Named id) is

  pub made_of_named : (id : ℕ) (ids : PartIds) (body : Option StructBody) → x ≡ type.Named id → slice_get (bodies t) id ≡ Some body → ids ≡ body_ids body → IsMadeOf t ids (parts_at t (Some ty))
  made_of_named id ids body is there made =
      let many = length-map t.structs (λ (s : List ℕ × Option StructBody). s.0) in
      let within = named_within id is in
      let place = index_of-at (names t) id good.distinct (omega (arith, many, within)) in
      let here : get_or (bodies t) id None ≡ body = get_or_from_slice_get (bodies t) id body None there in
      let whole : body_of (structs t) (get_or (names t) id []) ≡ tree_body (trees t) body =
      body_of-place t (get_or (names t) id []) ∙ (ap (λ i. tree_body (trees t) (get_or (bodies t) i None)) place ∙ ap (tree_body (trees t)) here) in
      let known : KnowsBody (length t.types) body = subst (KnowsBody (length t.types)) here (body_known (length t.types) (bodies t) id good.known_bodies) in
      let parts : parts_at t (Some ty) ≡ body_parts (tree_body (trees t) body) = ap (parts_of (structs t)) (tree_by (type.Named id) is) ∙ ap body_parts whole in
      subst (λ (i : PartIds). IsMadeOf t i (parts_at t (Some ty))) (sym made) (subst (IsMadeOf t (body_ids body)) (sym parts) (body_made t body known))

-- ---- how many, and which brackets

how_many_at : (done : List Tree) (ids : List ℕ) → how_many (trees_at done ids) ≡ length ids
how_many_at done [] = refl
how_many_at done (id ∷ ids) = ap suc (how_many_at done ids)

pub many_these : (t : Types) (packed : Bool) (ids : List ℕ) (ps : Parts) (count : ℕ) → IsMadeOf t (these_of packed ids) ps → nat_eq (length ids) count ≡ has_parts ps count
many_these t packed ids ps count made = ap (λ n. nat_eq n count) (sym (how_many_at (trees t) ids)) ∙ ap (λ (qs : Parts). has_parts qs count) (sym made.0)

-- ---- the part at a place

part_past : (packed : Bool) (place : ℕ) → first_part (nth_part place (these packed no_trees)) ≡ void
part_past packed zero = refl
part_past packed (suc place) = part_past packed place

part_of_fields : (t : Types) (packed : Bool) (ids : List ℕ) (place : ℕ) → tree_at t (slice_get ids place) ≡ first_part (nth_part place (these packed (trees_at (trees t) ids)))
part_of_fields t packed [] place = sym (part_past packed place)
part_of_fields t packed (id ∷ ids) zero = refl
part_of_fields t packed (id ∷ ids) (suc place) = part_of_fields t packed ids place

part_of_array : (n : ℕ) (u : Tree) (place : ℕ) → u ≡ first_part (nth_part place (alike n u))
part_of_array n u zero = refl
part_of_array n u (suc place) = part_of_array n u place

part_of_nothing : (place : ℕ) → void ≡ first_part (nth_part place no_parts)
part_of_nothing zero = refl
part_of_nothing (suc place) = part_of_nothing place

-- what is told of a part that is looked up
pub record IsPart (t : Types) (ps : Parts) (place : ℕ) (part : Option ℕ) : Type 0 where
  pub tree_is : tree_at t part ≡ first_part (nth_part place ps)
  pub known : IfSome part (λ id. id < length t.types)
  pub there : (count : ℕ) → place < count → has_parts ps count ≡ true → is_some part ≡ true

pub part_alike : (t : Types) (n part : ℕ) (ps : Parts) (place : ℕ) → IsMadeOf t (alike_of n part) ps → IsPart t ps place (Some part)
part_alike t n part ps place made = record {
  tree_is = part_of_array n (tree t part) place ∙ ap (λ (qs : Parts). first_part (nth_part place qs)) (sym made.0);
  known = made.1;
  there = λ count lt has. refl;
}

fields_known : (t : Types) (ids : List ℕ) (place : ℕ) → All (λ part. part < length t.types) ids → IfSome (slice_get ids place) (λ id. id < length t.types)
fields_known t [] place all = tt
fields_known t (id ∷ ids) zero all = All-head (λ part. part < length t.types) id ids all
fields_known t (id ∷ ids) (suc place) all = fields_known t ids place (All-tail (λ part. part < length t.types) id ids all)

field_there : (ids : List ℕ) (place : ℕ) → place < length ids → is_some (slice_get ids place) ≡ true
field_there [] place lt = absurd (omega arith)
field_there (id ∷ ids) zero lt = refl
field_there (id ∷ ids) (suc place) lt = field_there ids place (omega arith)

pub part_these : (t : Types) (packed : Bool) (ids : List ℕ) (ps : Parts) (place : ℕ) (part : Option ℕ) → IsMadeOf t (these_of packed ids) ps → part ≡ slice_get ids place → IsPart t ps place part
part_these t packed ids ps place part made is = subst (IsPart t ps place) (sym is) (record {
  tree_is = part_of_fields t packed ids place ∙ ap (λ (qs : Parts). first_part (nth_part place qs)) (sym made.0);
  known = fields_known t ids place made.1;
  there = λ count lt has.
      let many : length ids ≡ count = eqb-true (length ids) count (many_these t packed ids ps count made ∙ has) in
      field_there ids place (omega (arith, many, lt));
})

pub part_nothing : (t : Types) (ps : Parts) (place : ℕ) → IsMadeOf t nothing ps → IsPart t ps place None
part_nothing t ps place made = record {
  tree_is = part_of_nothing place ∙ ap (λ (qs : Parts). first_part (nth_part place qs)) (sym made);
  known = tt;
  there = λ count lt has. let none : has_parts ps count ≡ false = ap (λ (qs : Parts). has_parts qs count) made in absurd (cc);
}
