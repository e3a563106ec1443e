-- The types of a part that is well formed name its structs, and each struct has a shape.
use Rattle.std.proofs.Common.{◌≡◌, ℕ, zero, suc, ◌+◌, true, ◌&&◌, ◌⊎◌, inl, inr, List, [], ◌∷◌, map, Option, Some, None, refl, sym, ap, ap₂, ◌∙◌, subst, option_map, bytes_eq, arith}
use Rattle.std.specs.Prelude.{slice_index_or, is_some}
use Rattle.std.specs.List.{list_any, AllByRecursion}
use Rattle.std.proofs.lemmas.Bool.{and_parts, and_from, or_left, or_right, or_cases}
use Rattle.std.proofs.lemmas.Cmp.{nat_eq_equiv}
use Rattle.type_table.specs.Tree.{Tree, int, ptr, void, array, struct, named, Trees, no_trees, more_trees, TreeBody, opaque_body, fields, Structs, index_of, body_of}
use Rattle.type_table.specs.Shape.{Label, Shape, array_of, struct_of, Shapes, with_first, expanded, all_expanded, body_shape, name_shape, shape}
use Rattle.type_table.proofs.Rooms.{name_shape-zero, name_shape-suc}
use Rattle.module_arena.specs.Module.{Bytes, Module, empty_module}
use Rattle.module_arena.specs.WellFormed.{IsWellFormed, is_within_limits, is_good_type, are_good_types, is_good_body}
use Rattle.linkage_rules.specs.declared.symbol.Symbol.{Symbol}
use Rattle.linkage_rules.specs.declared.symbol.Symbol.TheVariants.{Local}
use Rattle.linkage_rules.specs.Entries.{same_symbol, part_at, structs_at}
use Rattle.linkage_rules.proofs.Entries.{all_follow}
use Rattle.linkage_rules.specs.SymbolLaws.{name_exact, name_self}
use Rattle.link_rules.specs.Structs.{structs_from, struct_symbols}
use Rattle.link_rules.specs.Known.{KnownTree, KnownTrees}
use Rattle.link_rules.proofs.SameShapes.{KnownBody, StructsFine}
use Rattle.link_rules.proofs.Parts.{all_true, structs_by}
use Rattle.link_rules.proofs.Agreed.{any_left, any_right}

in_structs : (j : ℕ) (name : Bytes) (ss : Structs) → list_any (λ s. bytes_eq s.0 name) ss ≡ true → list_any (same_symbol (Local j name)) (map (λ (s : Bytes × TreeBody). Local j s.0) ss) ≡ true
in_structs j name [] h = cc
in_structs j name (s ∷ ss) h = go (or_cases (bytes_eq s.0 name) _ h) (in_structs j name ss)
  where
    go : (bytes_eq s.0 name ≡ true) ⊎ (list_any (λ (t : Bytes × TreeBody). bytes_eq t.0 name) ss ≡ true) → (list_any (λ (t : Bytes × TreeBody). bytes_eq t.0 name) ss ≡ true → list_any (same_symbol (Local j name)) (map (λ (t : Bytes × TreeBody). Local j t.0) ss) ≡ true)
        → list_any (same_symbol (Local j name)) (map (λ (t : Bytes × TreeBody). Local j t.0) (s ∷ ss)) ≡ true
    go (inl k) more = or_left _ _ (and_from _ _ (nat_eq_equiv.refl j) (subst (λ n. bytes_eq name n ≡ true) (sym (name_exact s.0 name k)) (name_self name)))
    go (inr k) more = or_right _ _ (more k)

structs_there : (ms : List Module) (j i : ℕ) (name : Bytes) → list_any (λ s. bytes_eq s.0 name) (slice_index_or ms i empty_module).structs ≡ true → list_any (same_symbol (Local (j + i) name)) (structs_from j ms) ≡ true
structs_there [] j i name h = cc
structs_there (m ∷ ms) j zero name h =
    let same : j + 0 ≡ j = omega arith in
    subst (λ n. list_any (same_symbol (Local n name)) (structs_from j (m ∷ ms)) ≡ true) (sym same) (any_left (same_symbol (Local j name)) (map {B = Symbol} (λ (s : Bytes × TreeBody). Local j s.0) m.structs) (structs_from (suc j) ms) (in_structs j name m.structs h))
structs_there (m ∷ ms) j (suc i) name h =
    let same : j + suc i ≡ suc j + i = omega arith in
    subst (λ n. list_any (same_symbol (Local n name)) (structs_from j (m ∷ ms)) ≡ true) (sym same) (any_right (same_symbol (Local (suc j + i) name)) (map {B = Symbol} (λ (s : Bytes × TreeBody). Local j s.0) m.structs) (structs_from (suc j) ms) (structs_there ms (suc j) i name h))

module _ (parts : List Module) (i : ℕ) where
  struct_known : (name : Bytes) → list_any (λ s. bytes_eq s.0 name) (structs_at parts i) ≡ true → list_any (same_symbol (Local i name)) (struct_symbols parts) ≡ true
  struct_known name h =
      let same : 0 + i ≡ i = omega arith in
      subst (λ n. list_any (same_symbol (Local n name)) (struct_symbols parts) ≡ true) same (structs_there parts 0 i name h)

  mutual
    pub tree_known : (t : Tree) → is_good_type (structs_at parts i) t ≡ true → KnownTree parts i t
    tree_known (int w) h = tt
    tree_known ptr h = tt
    tree_known void h = tt
    tree_known (array n t) h = tree_known t (and_parts (is_good_type (structs_at parts i) t) _ h).0
    tree_known (struct packed ts) h = trees_known ts (and_parts (are_good_types (structs_at parts i) ts) _ h).0
    tree_known (named name) h = struct_known name (and_parts (list_any (λ s. bytes_eq s.0 name) (structs_at parts i)) _ h).0

    trees_known : (ts : Trees) → are_good_types (structs_at parts i) ts ≡ true → KnownTrees parts i ts
    trees_known no_trees h = tt
    trees_known (more_trees t ts) h = let halves = and_parts (is_good_type (structs_at parts i) t) _ h in (tree_known t halves.0, trees_known ts halves.1)

  body_known : (b : TreeBody) → is_good_body (structs_at parts i) b ≡ true → KnownBody parts i b
  body_known opaque_body h = tt
  body_known (fields packed ts) h = trees_known ts h

-- SHAPES WITH AND WITHOUT NAMES

mapped_some : {A B : Type 0} (f g : A → B) (o p : Option A) → is_some o ≡ is_some p → is_some (option_map f o) ≡ is_some (option_map g p)
mapped_some f g None None h = h
mapped_some f g (Some a) (Some b) h = h
mapped_some f g None (Some b) h = h
mapped_some f g (Some a) None h = h

first_some : (o : Option Shape) (p : Option Shapes) → is_some (with_first o p) ≡ (is_some o && is_some p)
first_some None p = refl
first_some (Some s) None = refl
first_some (Some s) (Some ss) = refl

module _ (one other : Bytes → Option Shape) (same : (name : Bytes) → is_some (one name) ≡ is_some (other name)) where
  mutual
    tree_some : (t : Tree) → is_some (expanded one t) ≡ is_some (expanded other t)
    tree_some (int w) = refl
    tree_some ptr = refl
    tree_some void = refl
    tree_some (array n t) = mapped_some (array_of n) (array_of n) (expanded one t) (expanded other t) (tree_some t)
    tree_some (struct packed ts) = mapped_some (struct_of None packed) (struct_of None packed) (all_expanded one ts) (all_expanded other ts) (trees_some ts)
    tree_some (named name) = same name

    trees_some : (ts : Trees) → is_some (all_expanded one ts) ≡ is_some (all_expanded other ts)
    trees_some no_trees = refl
    trees_some (more_trees t ts) =
        first_some (expanded one t) (all_expanded one ts) ∙ ap₂ (λ b c. b && c) (tree_some t) (trees_some ts) ∙ sym (first_some (expanded other t) (all_expanded other ts))

  body_some : (a b : Label) (body : TreeBody) → is_some (body_shape one a body) ≡ is_some (body_shape other b body)
  body_some a b opaque_body = refl
  body_some a b (fields packed ts) = mapped_some (struct_of a packed) (struct_of b packed) (all_expanded one ts) (all_expanded other ts) (trees_some ts)

abbrev kept : Bytes → Label
kept name = Some name

abbrev unnamed : Bytes → Label
unnamed name = None

name_some : (bodies : Bytes → TreeBody) (room : ℕ) (name : Bytes) → is_some (name_shape kept bodies room name) ≡ is_some (name_shape unnamed bodies room name)
name_some bodies zero name = ap is_some (name_shape-zero kept bodies name ∙ sym (name_shape-zero unnamed bodies name))
name_some bodies (suc room) name =
    ap is_some (name_shape-suc kept bodies room name)
    ∙ body_some (name_shape kept bodies room) (name_shape unnamed bodies room) (name_some bodies room) (kept name) (unnamed name) (bodies name)
    ∙ sym (ap is_some (name_shape-suc unnamed bodies room name))

pub within_some : (o : Option Shape) → is_within_limits o ≡ true → is_some o ≡ true
within_some None h = h
within_some (Some s) h = refl

any_index : {A : Type 0} (P : A → Type 0) (xs : List A) (k : ℕ) (d : A) → AllByRecursion P xs → P d → P (slice_index_or xs k d)
any_index P [] k d a h = h
any_index P (x ∷ xs) zero d a h = a.0
any_index P (x ∷ xs) (suc k) d a h = any_index P xs k d a.1 h

module _ (parts : List Module) (formed : AllByRecursion IsWellFormed parts) where
  abbrev bodies_of : ℕ → List TreeBody
  bodies_of i = map (λ (s : Bytes × TreeBody). s.1) (structs_at parts i)

  bodies_known : (i : ℕ) → IsWellFormed (part_at parts i) → AllByRecursion (KnownBody parts i) (bodies_of i)
  bodies_known i w = go (structs_at parts i) (all_true _ (structs_at parts i) w.structs)
    where
      go : (ss : Structs) → AllByRecursion (λ (s : Bytes × TreeBody). (is_good_body (structs_at parts i) s.1 && is_good_type (structs_at parts i) (named s.0)) ≡ true) ss → AllByRecursion (KnownBody parts i) (map (λ (s : Bytes × TreeBody). s.1) ss)
      go [] a = tt
      go (s ∷ ss) a = (body_known parts i s.1 (and_parts (is_good_body (structs_at parts i) s.1) _ a.0).0, go ss a.1)

  pub structs_fine : StructsFine parts
  structs_fine = record {
    shaped = structs_by IsWellFormed (λ i name. is_some (name_shape kept (body_of (structs_at parts i)) 64 name) ≡ true) parts formed
        (λ i w. all_follow _ _ (structs_at parts i)
        (λ s h. name_some (body_of (structs_at parts i)) 64 s.0 ∙ within_some _ (and_parts _ (is_within_limits (shape (structs_at parts i) (named s.0))) (and_parts (is_good_body (structs_at parts i) s.1) _ h).1).1)
        (all_true _ (structs_at parts i) w.structs));
    closed = structs_by IsWellFormed (λ i name. KnownBody parts i (body_of (structs_at parts i) name)) parts formed
        (λ i w. all_follow _ _ (structs_at parts i)
        (λ s h. any_index (KnownBody parts i) (bodies_of i) (index_of (map (λ (t : Bytes × TreeBody). t.0) (structs_at parts i)) s.0) opaque_body (bodies_known i w) tt)
        (all_true _ (structs_at parts i) w.structs));
  }
