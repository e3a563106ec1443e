-- Structs in an order in which each stands behind those that it writes: these have measures, each found from those before it.
-- Those that are left out, where each of them writes one that is left out, have none.
use Rattle.std.specs.Prelude.{◌≡◌, refl, ℕ, zero, suc, ◌+◌, ◌⊎◌, List, [], ◌∷◌, length, Option, Some, None, option_map}
use Rattle.std.proofs.Common.{ap, sym, subst, ◌∙◌, arith, inl, inr}
use Rattle.type_table.specs.declared.measure.Measure.{Measure}
use Rattle.type_table.specs.Measures.{opaque_measure, array_measure, struct_measure}
use Rattle.type_table.specs.Tree.{Tree, int, ptr, void, array, struct, named, Trees, no_trees, more_trees, TreeBody, opaque_body, fields, Structs, body_of}
use Rattle.module_arena.specs.Module.{Bytes}
use Rattle.name_rules.specs.Measured.{joined, tree_measured, all_measured, body_measured, names_in, all_names_in, body_names}
use Rattle.name_rules.proofs.Levels.{level, level_next, stays}
use Rattle.name_rules.proofs.Cycles.{Has, in_first, in_second, lacking_body}
use Rattle.name_rules.proofs.Walks.{Mentions, at_first}

abbrev pub IsThere : Option Measure → Type 0
IsThere o = (m : Measure) × (o ≡ Some m)

joined_there : (a : Option Measure) (b : Option (List Measure)) → IsThere a → ((ms : List Measure) × (b ≡ Some ms)) → (ms : List Measure) × (joined a b ≡ Some ms)
joined_there a b x y = (x.0 ∷ y.0, λ j. joined (x.1 j) (y.1 j))

module _ (f : Bytes → Option Measure) where
  mutual
    -- a type all of whose names have measures has one
    tree_there : (t : Tree) → ((z : Bytes) → Has z (names_in t) → IsThere (f z)) → IsThere (tree_measured f t)
    tree_there (int w) all = (_, refl)
    tree_there ptr all = (_, refl)
    tree_there void all = (_, refl)
    tree_there (array n t) all = let r = tree_there t all in (array_measure n r.0, ap (option_map (array_measure n)) r.1)
    tree_there (struct packed ts) all = let r = trees_there ts all in (struct_measure packed r.0, ap (option_map (struct_measure packed)) r.1)
    tree_there (named n) all = all n (inl refl)

    trees_there : (ts : Trees) → ((z : Bytes) → Has z (all_names_in ts) → IsThere (f z)) → (ms : List Measure) × (all_measured f ts ≡ Some ms)
    trees_there no_trees all = ([], refl)
    trees_there (more_trees t ts) all =
        joined_there (tree_measured f t) (all_measured f ts)
        (tree_there t (λ z h. all z (in_first z (names_in t) (all_names_in ts) h)))
        (trees_there ts (λ z h. all z (in_second z (names_in t) (all_names_in ts) h)))

  body_there : (body : TreeBody) → ((z : Bytes) → Has z (body_names body) → IsThere (f z)) → IsThere (body_measured f body)
  body_there opaque_body all = (opaque_measure, refl)
  body_there (fields packed ts) all = let r = trees_there ts all in (struct_measure packed r.0, ap (option_map (struct_measure packed)) r.1)

module _ (structs : Structs) where
  -- each of these writes only what stands before it, or what has a measure from the first
  abbrev pub Follows : List Bytes → List Bytes → Type 0
  Follows before [] = Unit {0}
  Follows before (y ∷ more) = ((z : Bytes) → Mentions structs y z → Has z before ⊎ IsThere (level structs zero z)) × Follows (y ∷ before) more

  from_first : (n : ℕ) (z : Bytes) → IsThere (level structs zero z) → IsThere (level structs n z)
  from_first zero z t = t
  from_first (suc n) z t = let r = from_first n z t in (r.0, stays structs n z r.0 r.1)

  abbrev pub AllThere : ℕ → List Bytes → Type 0
  AllThere n names = (z : Bytes) → Has z names → IsThere (level structs n z)

  next_there : (n : ℕ) (before : List Bytes) (y : Bytes) → AllThere n before → ((z : Bytes) → Mentions structs y z → Has z before ⊎ IsThere (level structs zero z)) → AllThere (suc n) (y ∷ before)
  next_there n before y there writes z (inr h) = let r = there z h in (r.0, stays structs n z r.0 r.1)
  next_there n before y there writes z (inl e) =
      let r = body_there (level structs n) (body_of structs y) (λ w m. by w (writes w m)) in
      subst (λ x. IsThere (level structs (suc n) x)) (sym e) (r.0, level_next structs n y ∙ r.1)
    where
      by : (w : Bytes) → Has w before ⊎ IsThere (level structs zero w) → IsThere (level structs n w)
      by w (inl h) = there w h
      by w (inr t) = from_first n w t

  no_more : (a : ℕ) → a ≡ a + 0
  no_more a = omega arith

  one_more : (a k : ℕ) → suc (a + k) ≡ a + suc k
  one_more a k = omega arith

  -- as many levels as stand in the order suffice for all of them
  pub order_there : (n : ℕ) (before order : List Bytes) → AllThere n before → Follows before order → (y : Bytes) → Has y order → IsThere (level structs (n + length order) y)
  order_there n before [] there follows y h = absurd h
  order_there n before (x ∷ order) there follows y h = subst (λ k. IsThere (level structs k y)) (sum n (length order)) (by h (λ k. order_there (suc n) (x ∷ before) order (next_there n before x there follows.0) follows.1 y k))
    where
      sum : (a b : ℕ) → suc a + b ≡ a + suc b
      sum a b = omega arith

      later : (k : ℕ) (z : Bytes) → IsThere (level structs (suc n) z) → IsThere (level structs (suc n + k) z)
      later zero z t = subst (λ k. IsThere (level structs k z)) (no_more (suc n)) t
      later (suc k) z t = let r = later k z t in subst (λ j. IsThere (level structs j z)) (one_more (suc n) k) (r.0, stays structs (suc n + k) z r.0 r.1)

      by : Has y (x ∷ order) → (Has y order → IsThere (level structs (suc n + length order) y)) → IsThere (level structs (suc n + length order) y)
      by (inl e) rest = later (length order) y (next_there n before x there follows.0 y (inl e))
      by (inr k) rest = rest k

  -- a measure that was found is that of the body, from those that were found
  pub is_fixed : (n : ℕ) (y : Bytes) (m : Measure) → level structs n y ≡ Some m → body_measured (level structs n) (body_of structs y) ≡ Some m
  is_fixed n y m e = sym (level_next structs n y) ∙ stays structs n y m e

  -- what is left out never has one
  pub left_out : (Left : Bytes → Type 0) → ((y : Bytes) → Left y → (z : Bytes) × Mentions structs y z × Left z) → (n : ℕ) (y : Bytes) → Left y → level structs n y ≡ None
  left_out Left writes zero y l = let w = writes y l in at_first structs y w.0 w.1
  left_out Left writes (suc n) y l =
      let w = writes y l in
      level_next structs n y ∙ lacking_body (level structs n) (body_of structs y) w.0 w.1 (left_out Left writes n w.0 w.2)
