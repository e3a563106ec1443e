-- extractvalue and insertvalue: the leaves of a part stand one after another among those of the whole.
use Rattle.std.proofs.Common.{◌≡◌, ℕ, suc, ◌+◌, List, [], ◌∷◌, ◌++◌, length, take, drop, refl, sym, ap, subst, arith, true, Option, Some, None, is_some, append_assoc, true≢false}
use Rattle.ir_memory.specs.declared.leaf.Leaf.{Leaf}
use Rattle.type_table.specs.Layout.{leaves}
use Rattle.type_table.specs.Tree.{Tree}
use Rattle.module_arena.specs.Module.{Value}
use Rattle.module_arena.specs.Same.{same_type}
use Rattle.module_arena.specs.TypeTests.{is_type, part_at}
use Rattle.module_arena.specs.WellFormed.{is_good_type, are_good_structs}
use Rattle.module_arena.proofs.SameValues.{type_is}
use Rattle.run_rules.specs.Action.{Origin, Action}
use Rattle.run_rules.specs.Constant.{shape_of}
use Rattle.run_rules.specs.Leaves.{part, leaves_before_part}
use Rattle.run_rules.specs.Scope.{FunctionScope, value_in}
use Rattle.typed_runs.specs.Actions.{Typing, AreOrigins, IsResult, IsPlace, IsTypedAction}
use Rattle.typed_runs.specs.Kinds.{kinds_of}
use Rattle.typed_runs.proofs.OnLook.Opened.{parts_have_shapes}
use Rattle.typed_runs.proofs.OnLook.Widths.{kinds_length}
use Rattle.typed_runs.proofs.OnTypes.Sound.{has_shape}
use Rattle.typed_runs.proofs.OnTypes.Within.{StandsIn, kinds_within}
use Rattle.typed_runs.specs.Action.Asked.{HasLeaves}

module _ (t : Typing) (look : ℕ → ℕ → ℕ → Action) (n : ℕ) where
  -- the first of some leaves, and those behind others
  first_had : (ks back : List Leaf) (xs : List Origin) → AreOrigins t look n (ks ++ back) xs → AreOrigins t look n ks (take (length ks) xs)
  first_had [] back xs h = tt
  first_had (k ∷ ks) back [] h = absurd h
  first_had (k ∷ ks) back (x ∷ xs) h = (h.0, first_had ks back xs h.1)

  middle_had : (front ks back : List Leaf) (xs : List Origin) → AreOrigins t look n (front ++ (ks ++ back)) xs → AreOrigins t look n ks (take (length ks) (drop (length front) xs))
  middle_had [] ks back xs h = first_had ks back xs h
  middle_had (f ∷ front) ks back [] h = absurd h
  middle_had (f ∷ front) ks back (x ∷ xs) h = middle_had front ks back xs h.1

  -- other leaves in place of the first, and in place of those behind others
  first_put : (ks back : List Leaf) (xs new : List Origin) → AreOrigins t look n (ks ++ back) xs → AreOrigins t look n ks new → AreOrigins t look n (ks ++ back) (new ++ drop (length ks) xs)
  first_put [] back xs [] h g = h
  first_put [] back xs (x ∷ new) h g = absurd g
  first_put (k ∷ ks) back [] new h g = absurd h
  first_put (k ∷ ks) back (x ∷ xs) [] h g = absurd g
  first_put (k ∷ ks) back (x ∷ xs) (y ∷ new) h g = (g.0, first_put ks back xs new h.1 g.1)

  middle_put : (front ks back : List Leaf) (xs new : List Origin) (m : ℕ) → length front + length ks ≡ m → AreOrigins t look n (front ++ (ks ++ back)) xs → AreOrigins t look n ks new
      → AreOrigins t look n (front ++ (ks ++ back)) (take (length front) xs ++ (new ++ drop m xs))
  middle_put [] ks back xs new m e h g =
      let same : length ks ≡ m = omega (arith, e) in
      subst (λ j. AreOrigins t look n (ks ++ back) (new ++ drop j xs)) same (first_put ks back xs new h g)
  middle_put (f ∷ front) ks back [] new m e h g = absurd h
  middle_put (f ∷ front) ks back (x ∷ xs) new m e h g =
      let same : suc (length front + length ks) ≡ m = omega (arith, e) in
      subst (λ j. AreOrigins t look n (f ∷ (front ++ (ks ++ back))) (x ∷ (take (length front) xs ++ (new ++ drop j (x ∷ xs))))) same
      (h.0, middle_put front ks back xs new (length front + length ks) refl h.1 g)

  -- the same for what stands in a whole
  part_had : (whole inner : List Leaf) (behind count : ℕ) (xs : List Origin) → StandsIn whole inner behind → length inner ≡ count → AreOrigins t look n whole xs → AreOrigins t look n inner (take count (drop behind xs))
  part_had whole inner behind count xs s e h =
      subst (λ j. AreOrigins t look n inner (take j (drop behind xs))) e
      (subst (λ j. AreOrigins t look n inner (take (length inner) (drop j xs))) s.long
      (middle_had s.front inner s.back xs (subst (λ ks. AreOrigins t look n ks xs) s.made h)))

  part_put : (whole inner : List Leaf) (behind count : ℕ) (xs new : List Origin) → StandsIn whole inner behind → length inner ≡ count → AreOrigins t look n whole xs → AreOrigins t look n inner new
      → AreOrigins t look n whole (take behind xs ++ new ++ drop (behind + count) xs)
  part_put whole inner behind count xs new s e h g =
      let long = s.long in
      let sum : length s.front + length inner ≡ behind + count = omega (arith, long, e) in
      subst (AreOrigins t look n whole) (sym (append_assoc (take behind xs) new (drop (behind + count) xs)))
      (subst (λ ks. AreOrigins t look n ks (take behind xs ++ (new ++ drop (behind + count) xs))) (sym s.made)
      (subst (λ j. AreOrigins t look n (s.front ++ (inner ++ s.back)) (take j xs ++ (new ++ drop (behind + count) xs))) s.long
      (middle_put s.front inner s.back xs new (behind + count) sum (subst (λ ks. AreOrigins t look n ks xs) s.made h) g)))

  module _ (sc : FunctionScope) (good : are_good_structs sc.names.structs ≡ true) where
    pub extract_typed : (ty : Tree) (v : Value) (indices : List ℕ) (to k p : ℕ) → is_some (part_at sc.names.structs ty indices) ≡ true → is_good_type sc.names.structs ty ≡ true → HasLeaves t look n sc ty v
        → IsResult t look n to (kinds_of (part (shape_of sc.names ty) indices)) → IsPlace t look n k (p + 1)
        → IsTypedAction t look n k p (Action.Gather to (take (leaves (part (shape_of sc.names ty) indices)) (drop (leaves_before_part (shape_of sc.names ty) indices) (value_in sc ty v))))
    extract_typed ty v indices to k p h g has at next = go (part_at sc.names.structs ty indices) refl h
      where
        inner : List Leaf
        inner = kinds_of (part (shape_of sc.names ty) indices)

        go : (o : Option Tree) → part_at sc.names.structs ty indices ≡ o → is_some o ≡ true
            → IsTypedAction t look n k p (Action.Gather to (take (leaves (part (shape_of sc.names ty) indices)) (drop (leaves_before_part (shape_of sc.names ty) indices) (value_in sc ty v))))
        go None e q = absurd (true≢false (sym q))
        go (Some u) e q = (
          (
            inner,
            part_had (kinds_of (shape_of sc.names ty)) inner (leaves_before_part (shape_of sc.names ty) indices) (leaves (part (shape_of sc.names ty) indices)) (value_in sc ty v)
                (kinds_within sc.names.structs indices ty u (has_shape sc.names.structs good ty g) e) (kinds_length (part (shape_of sc.names ty) indices)) has,
            at,
          ),
          next,
        )

    typed_as : (ty : Tree) (o : Option Tree) → is_type (same_type ty) o ≡ true → o ≡ Some ty
    typed_as ty None h = absurd (true≢false (sym h))
    typed_as ty (Some u) h = ap (λ (x : Tree). Some x) (sym (type_is ty u h))

    pub insert_typed : (ty inner : Tree) (v w : Value) (indices : List ℕ) (to k p : ℕ) → is_type (same_type inner) (part_at sc.names.structs ty indices) ≡ true → is_good_type sc.names.structs ty ≡ true
        → HasLeaves t look n sc ty v → HasLeaves t look n sc inner w → IsResult t look n to (kinds_of (shape_of sc.names ty)) → IsPlace t look n k (p + 1)
        → IsTypedAction t look n k p
        (Action.Gather to
        (take (leaves_before_part (shape_of sc.names ty) indices) (value_in sc ty v)
        ++ value_in sc inner w
        ++ drop (leaves_before_part (shape_of sc.names ty) indices + leaves (part (shape_of sc.names ty) indices)) (value_in sc ty v)))
    insert_typed ty inner v w indices to k p h g has new at next =
        let there = typed_as inner (part_at sc.names.structs ty indices) h in
        let some = has_shape sc.names.structs good ty g in
        let same = parts_have_shapes sc.names ty inner indices some there in (
          (
            kinds_of (shape_of sc.names ty),
            part_put (kinds_of (shape_of sc.names ty)) (kinds_of (part (shape_of sc.names ty) indices)) (leaves_before_part (shape_of sc.names ty) indices) (leaves (part (shape_of sc.names ty) indices)) (value_in sc ty v) (value_in sc inner w)
                (kinds_within sc.names.structs indices ty inner some there) (kinds_length (part (shape_of sc.names ty) indices)) has
                (subst (λ s. AreOrigins t look n (kinds_of s) (value_in sc inner w)) (sym same) new),
            at,
          ),
          next,
        )
