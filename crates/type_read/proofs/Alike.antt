-- Shapes do not depend on what structs are called: two tables of the same types and bodies, each with distinct names, have the same shapes.
use Rattle.std.proofs.Common.{◌≡◌, ◌≢◌, ◌<◌, ◌+◌, ℕ, zero, suc, Bool, true, false, List, [], ◌∷◌, ◌++◌, Option, Some, None, map, length, get_or, AllPairs, refl, sym, ap, subst, ◌∙◌, arith}
use Rattle.std.specs.List.{fold}
use Rattle.std.specs.Option.{option_map}
use Rattle.std.proofs.lemmas.List.{length-map}
use Rattle.type_table.specs.declared.ir_type.IrType.{IrType}
use Rattle.type_table.specs.declared.ir_type.IrType.TheVariants.{Int, Ptr, Void, Array, Struct, Named}
use Rattle.type_table.specs.declared.ir_type.StructBody.{StructBody}
use Rattle.type_table.specs.declared.ir_type.StructBody.TheVariants.{Opaque, Plain, Packed}
use Rattle.type_table.specs.Tree.{Tree, int, ptr, void, array, struct, named, Trees, no_trees, more_trees, body_of}
use Rattle.type_table.specs.Types.{Types, names, bodies, trees, trees_at, tree_of, grow, tree_body, structs, Knows, AllKnown}
use Rattle.type_table.specs.Shape.{Shape, array_of, struct_of, with_first, expanded, all_expanded, body_shape, name_shape, shape}
use Rattle.type_table.specs.Limits.{all_shapes}
use Rattle.type_table.proofs.UnderIds.{index_of-at, body_of-place}
use Rattle.type_table.proofs.Rooms.{name_shape-zero, name_shape-suc}

-- two trees that are the same but for what their structs are called: each by its place among the names
module _ (ns os : List (List ℕ)) where
  mutual
    pub data Alike : Tree → Tree → Type 0 where
      alike_int : {w : ℕ} → Alike (int w) (int w)
      alike_ptr : Alike ptr ptr
      alike_void : Alike void void
      alike_array : {n : ℕ} {t u : Tree} → Alike t u → Alike (array n t) (array n u)
      alike_struct : {packed : Bool} {ts us : Trees} → AreAlike ts us → Alike (struct packed ts) (struct packed us)
      alike_named : {i : ℕ} → i < length ns → Alike (named (get_or ns i [])) (named (get_or os i []))

    pub data AreAlike : Trees → Trees → Type 0 where
      none_alike : AreAlike no_trees no_trees
      more_alike : {t u : Tree} {ts us : Trees} → Alike t u → AreAlike ts us → AreAlike (more_trees t ts) (more_trees u us)

  -- lists of such trees
  abbrev pub AllAlike : List Tree → List Tree → Type 0
  AllAlike [] [] = Unit {0}
  AllAlike (t ∷ ts) (u ∷ us) = Alike t u × AllAlike ts us
  AllAlike _ _ = ⊥

  at_alike : (ts us : List Tree) (i : ℕ) → AllAlike ts us → Alike (get_or ts i void) (get_or us i void)
  at_alike [] [] i h = alike_void
  at_alike [] (u ∷ us) i h = absurd h
  at_alike (t ∷ ts) [] i h = absurd h
  at_alike (t ∷ ts) (u ∷ us) zero h = h.0
  at_alike (t ∷ ts) (u ∷ us) (suc i) h = at_alike ts us i h.1

  ids_alike : (ts us : List Tree) (ids : List ℕ) → AllAlike ts us → AreAlike (trees_at ts ids) (trees_at us ids)
  ids_alike ts us [] h = none_alike
  ids_alike ts us (id ∷ ids) h = more_alike (at_alike ts us id h) (ids_alike ts us ids h)

  type_alike : (count : ℕ) (ts us : List Tree) (ty : IrType) → Knows count (length ns) ty → AllAlike ts us → Alike (tree_of ns ts ty) (tree_of os us ty)
  type_alike count ts us (Int w) k h = alike_int
  type_alike count ts us Ptr k h = alike_ptr
  type_alike count ts us Void k h = alike_void
  type_alike count ts us (Array n part) k h = alike_array (at_alike ts us part h)
  type_alike count ts us (Struct packed parts) k h = alike_struct (ids_alike ts us parts h)
  type_alike count ts us (Named id) k h = alike_named k

  all_push : (ts us : List Tree) (t u : Tree) → AllAlike ts us → Alike t u → AllAlike (ts ++ t ∷ []) (us ++ u ∷ [])
  all_push [] [] t u h k = (k, tt)
  all_push [] (v ∷ us) t u h k = absurd h
  all_push (v ∷ ts) [] t u h k = absurd h
  all_push (v ∷ ts) (w ∷ us) t u h k = (h.0, all_push ts us t u h.1 k)

  trees_alike : (count : ℕ) (ts us : List Tree) (types : List IrType) → AllKnown count (length ns) types → AllAlike ts us → AllAlike (fold (grow ns) ts types) (fold (grow os) us types)
  trees_alike count ts us [] all h = h
  trees_alike count ts us (ty ∷ types) all h =
      trees_alike (count + 1) (grow ns ts ty) (grow os us ty) types all.1 (all_push ts us (tree_of ns ts ty) (tree_of os us ty) h (type_alike count ts us ty all.0 h))

  -- names look alike: each place gives one shape
  module _ (look mark : List ℕ → Option Shape) (same : (i : ℕ) → i < length ns → look (get_or ns i []) ≡ mark (get_or os i [])) where
    mutual
      expanded_alike : {t u : Tree} → Alike t u → expanded look t ≡ expanded mark u
      expanded_alike alike_int = refl
      expanded_alike alike_ptr = refl
      expanded_alike alike_void = refl
      expanded_alike (alike_array {n = n} h) = ap (option_map (array_of n)) (expanded_alike h)
      expanded_alike (alike_struct {packed = packed} h) = ap (option_map (struct_of None packed)) (all_expanded_alike h)
      expanded_alike (alike_named {i = i} lt) = same i lt

      all_expanded_alike : {ts us : Trees} → AreAlike ts us → all_expanded look ts ≡ all_expanded mark us
      all_expanded_alike none_alike = refl
      all_expanded_alike (more_alike h hs) = λ j. with_first (expanded_alike h j) (all_expanded_alike hs j)

    body_alike : (ts us : List Tree) (body : Option StructBody) → AllAlike ts us → body_shape look None (tree_body ts body) ≡ body_shape mark None (tree_body us body)
    body_alike ts us None h = refl
    body_alike ts us (Some Opaque) h = refl
    body_alike ts us (Some (Plain ids)) h = ap (option_map (struct_of None false)) (all_expanded_alike (ids_alike ts us ids h))
    body_alike ts us (Some (Packed ids)) h = ap (option_map (struct_of None true)) (all_expanded_alike (ids_alike ts us ids h))

-- two tables that differ in what structs are called alone
module _ (t u : Types) (types_are : t.types ≡ u.types) (bodies_are : bodies t ≡ bodies u) (known : AllKnown 0 (length t.structs) t.types)
    (apart : AllPairs (λ a b. a ≢ b) (names t)) (distinct : AllPairs (λ a b. a ≢ b) (names u)) where
  as_many : length (names t) ≡ length (names u)
  as_many = length-map t.structs (λ s. s.0) ∙ (sym (length-map t.structs (λ s. s.1)) ∙ (ap length bodies_are ∙ (length-map u.structs (λ s. s.1) ∙ sym (length-map u.structs (λ s. s.0)))))

  known_by_names : AllKnown 0 (length (names t)) t.types
  known_by_names = subst (λ n. AllKnown 0 n t.types) (sym (length-map t.structs (λ s. s.0))) known

  all_alike : AllAlike (names t) (names u) (trees t) (trees u)
  all_alike = subst (λ types. AllAlike (names t) (names u) (trees t) (fold (grow (names u)) [] types)) types_are (trees_alike (names t) (names u) 0 [] [] t.types known_by_names tt)

  body_at : (i : ℕ) → i < length (names t) → body_of (structs t) (get_or (names t) i []) ≡ tree_body (trees t) (get_or (bodies t) i None)
  body_at i lt = body_of-place t (get_or (names t) i []) ∙ ap (λ k. tree_body (trees t) (get_or (bodies t) k None)) (index_of-at (names t) i apart lt)

  body_there : (i : ℕ) → i < length (names t) → body_of (structs u) (get_or (names u) i []) ≡ tree_body (trees u) (get_or (bodies t) i None)
  body_there i lt =
      body_of-place u (get_or (names u) i [])
      ∙ (ap (λ k. tree_body (trees u) (get_or (bodies u) k None)) (index_of-at (names u) i distinct (omega (arith, as_many)))
      ∙ ap (λ bs. tree_body (trees u) (get_or bs i None)) (sym bodies_are))

  abbrev look_of : Types → ℕ → List ℕ → Option Shape
  look_of x room = name_shape (λ _. None) (body_of (structs x)) room

  names_alike : (room i : ℕ) → i < length (names t) → look_of t room (get_or (names t) i []) ≡ look_of u room (get_or (names u) i [])
  names_alike zero i lt = name_shape-zero (λ _. None) (body_of (structs t)) (get_or (names t) i []) ∙ sym (name_shape-zero (λ _. None) (body_of (structs u)) (get_or (names u) i []))
  names_alike (suc room) i lt =
      name_shape-suc (λ _. None) (body_of (structs t)) room (get_or (names t) i [])
      ∙ (ap (body_shape (look_of t room) None) (body_at i lt)
      ∙ (body_alike (names t) (names u) (look_of t room) (look_of u room) (names_alike room) (trees t) (trees u) (get_or (bodies t) i None) all_alike
      ∙ (ap (body_shape (look_of u room) None) (sym (body_there i lt))
      ∙ sym (name_shape-suc (λ _. None) (body_of (structs u)) room (get_or (names u) i [])))))

  shapes_of : (ts us : List Tree) → AllAlike (names t) (names u) ts us → map (shape (structs t)) ts ≡ map (shape (structs u)) us
  shapes_of [] [] h = refl
  shapes_of [] (v ∷ us) h = absurd h
  shapes_of (v ∷ ts) [] h = absurd h
  shapes_of (v ∷ ts) (w ∷ us) h = λ j. expanded_alike (names t) (names u) (look_of t 64) (look_of u 64) (names_alike 64) h.0 j ∷ shapes_of ts us h.1 j

  -- by their places
  named_alike : (k : ℕ) (ms ls : List (List ℕ)) → length ms ≡ length ls → ((i : ℕ) → i < length ms → (get_or ms i [] ≡ get_or (names t) (k + i) []) × (get_or ls i [] ≡ get_or (names u) (k + i) [])) → k + length ms ≡ length (names t)
      → AllAlike (names t) (names u) (map named ms) (map named ls)
  named_alike k [] [] e is all = tt
  named_alike k [] (l ∷ ls) e is all = absurd (omega arith)
  named_alike k (m ∷ ms) [] e is all = absurd (omega arith)
  named_alike k (m ∷ ms) (l ∷ ls) e is all =
      let here = is 0 (omega arith) in
      let one : Alike (names t) (names u) (named (get_or (names t) (k + 0) [])) (named (get_or (names u) (k + 0) [])) = alike_named (omega (arith, all)) in (
        subst (λ (p : List ℕ × List ℕ). Alike (names t) (names u) (named p.0) (named p.1)) (λ j. (sym here.0 j, sym here.1 j)) one,
        named_alike (suc k) ms ls (omega arith) (λ i lt. shifted i (is (suc i) (omega arith))) (omega (arith, all)),
      )
    where
      shifted : (i : ℕ) → (get_or (m ∷ ms) (suc i) [] ≡ get_or (names t) (k + suc i) []) × (get_or (l ∷ ls) (suc i) [] ≡ get_or (names u) (k + suc i) []) → (get_or ms i [] ≡ get_or (names t) (suc k + i) []) × (get_or ls i [] ≡ get_or (names u) (suc k + i) [])
      shifted i p =
          let same : k + suc i ≡ suc k + i = omega arith in
          (p.0 ∙ ap (λ n. get_or (names t) n []) same, p.1 ∙ ap (λ n. get_or (names u) n []) same)

  all_append : (ts us vs ws : List Tree) → AllAlike (names t) (names u) ts us → AllAlike (names t) (names u) vs ws → AllAlike (names t) (names u) (ts ++ vs) (us ++ ws)
  all_append [] [] vs ws h k = k
  all_append [] (x ∷ us) vs ws h k = absurd h
  all_append (x ∷ ts) [] vs ws h k = absurd h
  all_append (x ∷ ts) (y ∷ us) vs ws h k = (h.0, all_append ts us vs ws h.1 k)

  pub same_shapes : all_shapes t ≡ all_shapes u
  same_shapes =
      shapes_of (trees t ++ map named (names t)) (trees u ++ map named (names u))
      (all_append (trees t) (trees u) (map named (names t)) (map named (names u)) all_alike
      (named_alike 0 (names t) (names u) as_many (λ i lt. (ap (λ n. get_or (names t) n []) (from_zero i), ap (λ n. get_or (names u) n []) (from_zero i))) (omega arith)))
    where
      from_zero : (n : ℕ) → n ≡ 0 + n
      from_zero n = omega arith
