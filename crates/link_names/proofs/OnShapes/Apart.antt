-- Shapes that are kept once have one number: equal shapes have equal parts, and these have one number each.
use Rattle.std.proofs.Common.{◌≡◌, ℕ, zero, suc, ◌<◌, List, [], ◌∷◌, length, slice_get, slice_index_or, Some, None, refl, sym, ap, ap₂, ◌∙◌, arith}
use Rattle.std.specs.List.{AllByRecursion}
use Rattle.std.proofs.lemmas.List.Elements.{recursion_from_All}
use Rattle.type_table.specs.Shape.{Label, Shape, void_leaf}
use Rattle.type_table.specs.declared.ir_type.IrType.{IrType}
use Rattle.type_table.specs.declared.ir_type.IrType.TheVariants.{Int, Ptr, Void, Array, Struct, Named}
use Rattle.link_names.specs.Shapes.Shapes.{shapes_at, labelled, IsKnownHead, AreApart}

-- a shape below the length is there
there : (all : List Shape) (k : ℕ) → k < length all → slice_get all k ≡ Some (slice_index_or all k void_leaf)
there [] k lt = absurd (omega (arith, lt))
there (s ∷ all) zero lt = refl
there (s ∷ all) (suc k) lt = there all k (omega (arith, lt))

module _ (done : List Shape) (apart : AreApart done) where
  -- two numbers below the length with one shape are one
  one_number : (m n : ℕ) → m < length done → n < length done → slice_index_or done m void_leaf ≡ slice_index_or done n void_leaf → m ≡ n
  one_number m n lm ln e = apart m n (slice_index_or done n void_leaf) (there done m lm ∙ ap Some e) (there done n ln)

  -- equal lists of shapes have equal numbers
  same_numbers : (ms ns : List ℕ) → AllByRecursion (λ m. m < length done) ms → AllByRecursion (λ n. n < length done) ns → shapes_at done ms ≡ shapes_at done ns → ms ≡ ns
  same_numbers [] [] km kn e = refl
  same_numbers [] (n ∷ ns) km kn e = cc
  same_numbers (m ∷ ms) [] km kn e = cc
  same_numbers (m ∷ ms) (n ∷ ns) km kn e =
      let first : slice_index_or done m void_leaf ≡ slice_index_or done n void_leaf = cc in
      let rest : shapes_at done ms ≡ shapes_at done ns = cc in
      ap₂ (λ k ks. k ∷ ks) (one_number m n km.0 kn.0 first) (same_numbers ms ns km.1 kn.1 rest)

  -- what has an equal shape is written alike
  pub same_written : (l m : Label) (h k : IrType) → IsKnownHead (length done) l h → IsKnownHead (length done) m k → labelled done l h ≡ labelled done m k → (l ≡ m) × (h ≡ k)
  same_written l m (Int v) (Int w) known also e =
      let same : v ≡ w = cc in
      (known ∙ sym also, ap Int same)
  same_written l m (Int v) Ptr known also e = cc
  same_written l None (Int v) Void known also e = cc
  same_written l (Some s) (Int v) Void known also e = cc
  same_written l m (Int v) (Array k y) known also e = cc
  same_written l m (Int v) (Struct q ys) known also e = cc
  same_written l m (Int v) (Named j) known also e = absurd also
  same_written l m Ptr (Int w) known also e = cc
  same_written l m Ptr Ptr known also e = (known ∙ sym also, refl)
  same_written l None Ptr Void known also e = cc
  same_written l (Some s) Ptr Void known also e = cc
  same_written l m Ptr (Array k y) known also e = cc
  same_written l m Ptr (Struct q ys) known also e = cc
  same_written l m Ptr (Named j) known also e = absurd also
  same_written None m Void (Int w) known also e = cc
  same_written (Some r) m Void (Int w) known also e = cc
  same_written None m Void Ptr known also e = cc
  same_written (Some r) m Void Ptr known also e = cc
  same_written None None Void Void known also e = (refl, refl)
  same_written None (Some s) Void Void known also e = cc
  same_written (Some r) None Void Void known also e = cc
  same_written (Some r) (Some s) Void Void known also e =
      let same : r ≡ s = cc in
      (ap Some same, refl)
  same_written None m Void (Array k y) known also e = cc
  same_written (Some r) m Void (Array k y) known also e = cc
  same_written None m Void (Struct q ys) known also e = cc
  same_written (Some r) m Void (Struct q ys) known also e = cc
  same_written l m Void (Named j) known also e = absurd also
  same_written l m (Array n x) (Int w) known also e = cc
  same_written l m (Array n x) Ptr known also e = cc
  same_written l None (Array n x) Void known also e = cc
  same_written l (Some s) (Array n x) Void known also e = cc
  same_written l m (Array n x) (Array k y) known also e =
      let lengths : n ≡ k = cc in
      let elements : slice_index_or done x void_leaf ≡ slice_index_or done y void_leaf = cc in
      (known.0 ∙ sym also.0, ap₂ Array lengths (one_number x y known.1 also.1 elements))
  same_written l m (Array n x) (Struct q ys) known also e = cc
  same_written l m (Array n x) (Named j) known also e = absurd also
  same_written l m (Struct p xs) (Int w) known also e = cc
  same_written l m (Struct p xs) Ptr known also e = cc
  same_written l None (Struct p xs) Void known also e = cc
  same_written l (Some s) (Struct p xs) Void known also e = cc
  same_written l m (Struct p xs) (Array k y) known also e = cc
  same_written l m (Struct p xs) (Struct q ys) known also e =
      let labels : l ≡ m = cc in
      let packs : p ≡ q = cc in
      let fields : shapes_at done xs ≡ shapes_at done ys = cc in
      (labels, ap₂ Struct packs (same_numbers xs ys (recursion_from_All (λ m. m < length done) xs known) (recursion_from_All (λ m. m < length done) ys also) fields))
  same_written l m (Struct p xs) (Named j) known also e = absurd also
  same_written l m (Named i) (Int w) known also e = absurd known
  same_written l m (Named i) Ptr known also e = absurd known
  same_written l m (Named i) Void known also e = absurd known
  same_written l m (Named i) (Array k y) known also e = absurd known
  same_written l m (Named i) (Struct q ys) known also e = absurd known
  same_written l m (Named i) (Named j) known also e = absurd known
