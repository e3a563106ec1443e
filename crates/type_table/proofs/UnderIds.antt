-- What the table keeps under ids is what its trees measure.
use Rattle.std.proofs.Common.{◌≡◌, ◌≢◌, ℕ, zero, suc, ◌<◌, Bool, true, false, cond, List, [], ◌∷◌, ◌++◌, Option, Some, None, map, length, get_or, bytes_eq, ap, refl, sym, ◌∙◌, subst, arith, Contains, All, AllPairs}
use Rattle.std.specs.List.{fold}
use Rattle.std.specs.Cmp.Lexicographic.{bytes_decides}
use Rattle.std.proofs.lemmas.List.{length_push, map-append}
use Rattle.std.proofs.lemmas.List.Elements.{All-head, All-tail}
use Rattle.type_table.specs.declared.ir_type.IrType.{IrType}
use Rattle.type_table.specs.declared.ir_type.IrType.TheVariants.{Int, Ptr, Void, Array, Struct, Named}
use Rattle.type_table.specs.declared.ir_type.StructBody.{StructBody}
use Rattle.type_table.specs.declared.ir_type.StructBody.TheVariants.{Opaque, Plain, Packed}
use Rattle.type_table.specs.declared.measure.Measure.{Measure}
use Rattle.type_table.specs.Tree.{Tree, void, TreeBody, opaque_body, index_of, body_of}
use Rattle.type_table.specs.Types.{Types, names, bodies, trees, trees_at, tree_of, grow, tree_body, tree_struct, structs, Knows, AllKnown, KnowsBody}
use Rattle.type_table.specs.Measures.{opaque_measure, array_measure, struct_measure, measures_at, type_measure, type_measures, push_measure, body_measure, measure_of, tree_measure, tree_measures}
use Rattle.type_table.proofs.Settled.{pass_measure}

-- the place of a name
tail_distinct : (n : List ℕ) (ns : List (List ℕ)) → AllPairs (λ a b. a ≢ b) (n ∷ ns) → AllPairs (λ a b. a ≢ b) ns
tail_distinct n ns apart i j d lt le = apart (suc i) (suc j) d (omega arith) (omega arith)

pub index_of-at : (ns : List (List ℕ)) (i : ℕ) → AllPairs (λ a b. a ≢ b) ns → i < length ns → index_of ns (get_or ns i []) ≡ i
index_of-at [] i apart lt = absurd (omega arith)
index_of-at (n ∷ ns) zero apart lt = ap (λ b. cond b 0 (suc (index_of ns n))) ((bytes_decides n n).1 refl)
index_of-at (n ∷ ns) (suc i) apart lt =
    by (index_of-at ns i (tail_distinct n ns apart) (omega arith)) (bytes_eq n (get_or ns i [])) refl
  where
    by : index_of ns (get_or ns i []) ≡ i → (b : Bool) → bytes_eq n (get_or ns i []) ≡ b → cond b 0 (suc (index_of ns (get_or ns i []))) ≡ suc i
    by rest true e = absurd (apart 0 (suc i) [] (omega arith) lt ((bytes_decides n (get_or ns i [])).0 e))
    by rest false e = ap suc rest

pub index_of-found : (ns : List (List ℕ)) (n : List ℕ) → index_of ns n < length ns → get_or ns (index_of ns n) [] ≡ n
index_of-found [] n lt = absurd (omega arith)
index_of-found (m ∷ ns) n lt = by (index_of-found ns n) (bytes_eq m n) refl lt
  where
    by : (index_of ns n < length ns → get_or ns (index_of ns n) [] ≡ n) → (b : Bool) → bytes_eq m n ≡ b → cond b 0 (suc (index_of ns n)) < suc (length ns) → get_or (m ∷ ns) (cond b 0 (suc (index_of ns n))) [] ≡ n
    by rest true e l = (bytes_decides m n).0 e
    by rest false e l = rest (omega arith)

pub index_of-absent : (ns : List (List ℕ)) (n : List ℕ) → (Contains ns n → ⊥) → index_of ns n ≡ length ns
index_of-absent [] n missing = refl
index_of-absent (m ∷ ns) n missing = by (index_of-absent ns n (λ h. missing (suc h.0, omega arith, h.2))) (bytes_eq m n) refl
  where
    by : index_of ns n ≡ length ns → (b : Bool) → bytes_eq m n ≡ b → cond b 0 (suc (index_of ns n)) ≡ suc (length ns)
    by rest true e = absurd (missing (0, omega arith, (bytes_decides m n).0 e))
    by rest false e = ap suc rest

-- the names and bodies of structs
pub tree_names : (done : List Tree) (es : List (List ℕ × Option StructBody)) → map (λ (s : List ℕ × TreeBody). s.0) (map (tree_struct done) es) ≡ map (λ (s : List ℕ × Option StructBody). s.0) es
tree_names done [] = refl
tree_names done (e ∷ es) = ap (λ l. e.0 ∷ l) (tree_names done es)

pub tree_bodies : (done : List Tree) (es : List (List ℕ × Option StructBody)) → map (λ (s : List ℕ × TreeBody). s.1) (map (tree_struct done) es) ≡ map (tree_body done) (map (λ (s : List ℕ × Option StructBody). s.1) es)
tree_bodies done [] = refl
tree_bodies done (e ∷ es) = ap (λ l. tree_body done e.1 ∷ l) (tree_bodies done es)

pub get_or-map : {A B : Type 0} (f : A → B) (xs : List A) (i : ℕ) (a : A) → get_or (map f xs) i (f a) ≡ f (get_or xs i a)
get_or-map f [] i a = refl
get_or-map f (x ∷ xs) zero a = refl
get_or-map f (x ∷ xs) (suc i) a = get_or-map f xs i a

-- what a name stands for, by its place
pub body_of-place : (t : Types) (name : List ℕ) → body_of (structs t) name ≡ tree_body (trees t) (get_or (bodies t) (index_of (names t) name) None)
body_of-place t name =
    (λ j. get_or (tree_bodies (trees t) t.structs j) (index_of (tree_names (trees t) t.structs j) name) opaque_body)
    ∙ get_or-map (tree_body (trees t)) (bodies t) (index_of (names t) name) None

-- what is kept of a name, by its id
pub measure_of-at : (ns : List (List ℕ)) (ks : List Measure) (i : ℕ) → AllPairs (λ a b. a ≢ b) ns → i < length ns → measure_of ns ks (get_or ns i []) ≡ get_or ks i opaque_measure
measure_of-at ns ks i apart lt = ap (λ k. get_or ks k opaque_measure) (index_of-at ns i apart lt)

module _ (look : List ℕ → Measure) (ns : List (List ℕ)) (ks : List Measure) (agree : (i : ℕ) → i < length ns → look (get_or ns i []) ≡ get_or ks i opaque_measure) where
  pub tree_at : (done : List Tree) (i : ℕ) → i < length done → tree_measure look (get_or done i void) ≡ get_or (map (tree_measure look) done) i opaque_measure
  tree_at [] i lt = absurd (omega arith)
  tree_at (t ∷ done) zero lt = refl
  tree_at (t ∷ done) (suc i) lt = tree_at done i (omega arith)

  trees_at-measures : (done : List Tree) (parts : List ℕ) → All (λ part. part < length done) parts → tree_measures look (trees_at done parts) ≡ measures_at (map (tree_measure look) done) parts
  trees_at-measures done [] known = refl
  trees_at-measures done (p ∷ ps) known =
      let P : ℕ → Type 0 = λ part. part < length done in
      λ j. tree_at done p (All-head P p ps known) j ∷ trees_at-measures done ps (All-tail P p ps known) j

  pub tree_of-measure : (done : List Tree) (ty : IrType) → Knows (length done) (length ns) ty → tree_measure look (tree_of ns done ty) ≡ type_measure ks (map (tree_measure look) done) ty
  tree_of-measure done (Int w) k = refl
  tree_of-measure done Ptr k = refl
  tree_of-measure done Void k = refl
  tree_of-measure done (Array n part) k = ap (array_measure n) (tree_at done part k)
  tree_of-measure done (Struct packed parts) k = ap (struct_measure packed) (trees_at-measures done parts k)
  tree_of-measure done (Named id) k = agree id k

  trees_from : (done : List Tree) (types : List IrType) → AllKnown (length done) (length ns) types
      → map (tree_measure look) (fold (grow ns) done types) ≡ fold (push_measure ks) (map (tree_measure look) done) types
  trees_from done [] all = refl
  trees_from done (ty ∷ types) all =
      let one = length_push done (tree_of ns done ty) in
      trees_from (grow ns done ty) types (subst (λ n. AllKnown n (length ns) types) (sym one) all.1)
      ∙ ap (λ ms. fold (push_measure ks) ms types)
      (map-append (tree_measure look) done (tree_of ns done ty ∷ []) ∙ (λ j. map (tree_measure look) done ++ tree_of-measure done ty all.0 j ∷ []))

  -- the measures of the types are those of their trees
  pub trees-measures : (types : List IrType) → AllKnown 0 (length ns) types → map (tree_measure look) (fold (grow ns) [] types) ≡ type_measures ks types
  trees-measures types all = trees_from [] types all

  -- the measure of a body is that of its trees
  pub tree_body-measure : (done : List Tree) (had : Measure) (body : Option StructBody) → KnowsBody (length done) body
      → pass_measure look had (tree_body done body) ≡ body_measure (map (tree_measure look) done) had body
  tree_body-measure done had None known = refl
  tree_body-measure done had (Some Opaque) known = refl
  tree_body-measure done had (Some (Plain parts)) known = ap (struct_measure false) (trees_at-measures done parts known)
  tree_body-measure done had (Some (Packed parts)) known = ap (struct_measure true) (trees_at-measures done parts known)
