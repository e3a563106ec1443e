-- The shapes of keys, one key after another.
use Rattle.std.proofs.Common.{◌≡◌, ◌⊎◌, inl, inr, ℕ, zero, suc, ◌+◌, ◌<◌, ◌≤◌, Bool, true, false, List, [], ◌∷◌, ◌++◌, length, length-append, slice_get, slice_index_or, Some, refl, sym, ap, ap₂, ◌∙◌, subst, append-nil, append_assoc, arith, if◌then◌else◌}
use Rattle.std.specs.List.{AllByRecursion, IsDistinct, fold, list_any}
use Rattle.std.proofs.lemmas.Bool.{both_ways}
use Rattle.std.proofs.lemmas.List.Elements.{All-from_recursion, recursion_from_All}
use Rattle.std.proofs.lemmas.Option.{same_Some, slice_get_within}
use Rattle.type_table.specs.Shape.{Label, Shape, void_leaf, array_of, struct_of, more_shapes}
use Rattle.type_table.specs.declared.ir_type.IrType.{IrType}
use Rattle.type_table.specs.declared.ir_type.IrType.TheVariants.{Int, Ptr, Void, Array, Struct, Named}
use Rattle.link_names.specs.declared.shapes.labelled.Labelled.{Labelled}
use Rattle.link_names.specs.Shapes.Keys.{labels_decide, same_labelled}
use Rattle.link_names.specs.Shapes.Shapes.{AreApart, AreKnownShapes, IsKnownHead, IsKnownShape, grow, labelled, shape_in, shapes_at, shapes_of}
use Rattle.link_names.proofs.OnShapes.Apart.{same_written}

-- SHAPES IN FRONT OF OTHERS

in_front : (done rest : List Shape) (n : ℕ) → n < length done → slice_index_or (done ++ rest) n void_leaf ≡ slice_index_or done n void_leaf
in_front [] rest n lt = absurd (omega (arith, lt))
in_front (s ∷ done) rest zero lt = refl
in_front (s ∷ done) rest (suc n) lt = in_front done rest n (omega (arith, lt))

all_in_front : (done rest : List Shape) (numbers : List ℕ) → AllByRecursion (λ n. n < length done) numbers → shapes_at (done ++ rest) numbers ≡ shapes_at done numbers
all_in_front done rest [] below = refl
all_in_front done rest (n ∷ numbers) below = ap₂ more_shapes (in_front done rest n below.0) (all_in_front done rest numbers below.1)

-- a shape is told by those in front of it
pub told_in_front : (done rest : List Shape) (label : Label) (head : IrType) → IsKnownHead (length done) label head → labelled (done ++ rest) label head ≡ labelled done label head
told_in_front done rest label (Int width) known = refl
told_in_front done rest label Ptr known = refl
told_in_front done rest label Void known = refl
told_in_front done rest label (Array n element) known = ap (array_of n) (in_front done rest element known.1)
told_in_front done rest label (Struct packed fields) known = ap (struct_of label packed) (all_in_front done rest fields (recursion_from_All (λ n. n < length done) fields known))
told_in_front done rest label (Named id) known = refl

all_below : (m n : ℕ) (numbers : List ℕ) → m ≤ n → AllByRecursion (λ k. k < m) numbers → AllByRecursion (λ k. k < n) numbers
all_below m n [] le a = tt
all_below m n (k ∷ numbers) le a = (omega (arith, le, a.0), all_below m n numbers le a.1)

-- what is known with fewer shapes is known with more
known_with_more : (m n : ℕ) (label : Label) (head : IrType) → m ≤ n → IsKnownHead m label head → IsKnownHead n label head
known_with_more m n label (Int width) le known = known
known_with_more m n label Ptr le known = known
known_with_more m n label Void le known = known
known_with_more m n label (Array k element) le known = (known.0, omega (arith, le, known.1))
known_with_more m n label (Struct packed fields) le known = All-from_recursion (λ k. k < n) fields (all_below m n fields le (recursion_from_All (λ k. k < m) fields known))
known_with_more m n label (Named id) le known = known

-- ONE KEY MORE

grown_more : (keys : List Labelled) (key : Labelled) (done : List Shape) → fold grow done (keys ++ key ∷ []) ≡ grow (fold grow done keys) key
grown_more [] key done = refl
grown_more (k ∷ keys) key done = grown_more keys key (grow done k)

one_longer : (done : List Shape) (s : Shape) → length (done ++ s ∷ []) ≡ length done + 1
one_longer done s = length-append done (s ∷ [])

grown_length : (keys : List Labelled) (done : List Shape) → length (fold grow done keys) ≡ length done + length keys
grown_length [] done = omega arith
grown_length (k ∷ keys) done = let r = grown_length keys (grow done k) in omega (arith, r, one_longer done (shape_in done k))

-- as many shapes as keys
pub as_many : (keys : List Labelled) → length (shapes_of keys) ≡ length keys
as_many keys = let r = grown_length keys [] in omega (arith, r)

known_more : (keys : List Labelled) (count : ℕ) (key : Labelled) → AreKnownShapes count keys → IsKnownShape (count + length keys) key → AreKnownShapes count (keys ++ key ∷ [])
known_more [] count key known more = let e : count + 0 ≡ count = omega arith in (subst (λ n. IsKnownShape n key) e more, tt)
known_more (k ∷ keys) count key known more =
    let e : count + suc (length keys) ≡ count + 1 + length keys = omega arith in
    (known.0, known_more keys (count + 1) key known.1 (subst (λ n. IsKnownShape n key) e more))

-- EACH KEY HAS ITS SHAPE

at_end : (done rest : List Shape) (s : Shape) → slice_get (done ++ s ∷ rest) (length done) ≡ Some s
at_end [] rest s = refl
at_end (d ∷ done) rest s = at_end done rest s

pub still_at : (done rest : List Shape) (n : ℕ) (s : Shape) → slice_get done n ≡ Some s → slice_get (done ++ rest) n ≡ Some s
still_at [] rest n s h = cc
still_at (d ∷ done) rest zero s h = h
still_at (d ∷ done) rest (suc n) s h = still_at done rest n s h

-- what stands among some and one more
pub split_at : {A : Type 0} (xs : List A) (x y : A) (n : ℕ) → slice_get (xs ++ x ∷ []) n ≡ Some y → (slice_get xs n ≡ Some y) ⊎ ((n ≡ length xs) × (x ≡ y))
split_at [] x y zero h = inr (refl, same_Some x y h)
split_at [] x y (suc n) h = cc
split_at (z ∷ xs) x y zero h = inl h
split_at (z ∷ xs) x y (suc n) h = later (split_at xs x y n h)
  where
    later : (slice_get xs n ≡ Some y) ⊎ ((n ≡ length xs) × (x ≡ y)) → (slice_get (z ∷ xs) (suc n) ≡ Some y) ⊎ ((suc n ≡ suc (length xs)) × (x ≡ y))
    later (inl e) = inl e
    later (inr e) = inr (ap suc e.0, e.1)

found_at : {A : Type 0} (xs : List A) (n : ℕ) → n < length xs → (x : A) × (slice_get xs n ≡ Some x)
found_at [] n lt = absurd (omega (arith, lt))
found_at (x ∷ xs) zero lt = (x, refl)
found_at (x ∷ xs) (suc n) lt = found_at xs n (omega (arith, lt))

-- the shapes of some keys, under the keys' numbers
pub record AreOf (keys : List Labelled) (done : List Shape) : Type 0 where
  pub many : length keys ≡ length done
  pub apart : AreApart done
  pub each : (n : ℕ) (key : Labelled) → slice_get keys n ≡ Some key → IsKnownShape (length done) key × (slice_get done n ≡ Some (shape_in done key))

distinct_front : (before keys : List Labelled) (key : Labelled) (n : ℕ) (b : Labelled) → IsDistinct same_labelled (before ++ key ∷ keys) → slice_get before n ≡ Some b → same_labelled b key ≡ false
unfolding IsDistinct
distinct_front [] keys key n b d h = cc
distinct_front (x ∷ before) keys key zero b d h = subst (λ z. same_labelled z key ≡ false) (same_Some x b h) (clear before d.0)
  where
    clear : (ks : List Labelled) → AllByRecursion (λ y. same_labelled x y ≡ false) (ks ++ key ∷ keys) → same_labelled x key ≡ false
    clear [] a = a.0
    clear (k ∷ ks) a = clear ks a.1
distinct_front (x ∷ before) keys key (suc n) b d h = distinct_front before keys key n b d.1 h

module _ (before : List Labelled) (done : List Shape) (are : AreOf before done) (key : Labelled) (known : IsKnownShape (length done) key) (new : (n : ℕ) (b : Labelled) → slice_get before n ≡ Some b → same_labelled b key ≡ false) where
  not_there : (n : ℕ) → slice_get done n ≡ Some (shape_in done key) → ⊥
  not_there n h =
      let far : n < length before = omega (arith, are.many, slice_get_within done n (shape_in done key) h) in
      let b = found_at before n far in
      let own = are.each n b.0 b.1 in
      let shapes : shape_in done b.0 ≡ shape_in done key = same_Some (shape_in done b.0) (shape_in done key) (sym own.1 ∙ h) in
      let alike = same_written done are.apart b.0.label key.label b.0.head key.head own.0 known shapes in
      let same : b.0 ≡ key = λ j. record { label = alike.0 j; head = alike.1 j } in
      both_ways (same_labelled b.0 key) (new n b.0 b.1) ((labels_decide b.0 key).1 same)

  still_apart : AreApart (grow done key)
  still_apart one other s h k = go (split_at done (shape_in done key) s one h) (split_at done (shape_in done key) s other k)
    where
      go : (slice_get done one ≡ Some s) ⊎ ((one ≡ length done) × (shape_in done key ≡ s)) → (slice_get done other ≡ Some s) ⊎ ((other ≡ length done) × (shape_in done key ≡ s)) → one ≡ other
      go (inl a) (inl b) = are.apart one other s a b
      go (inl a) (inr b) = absurd (not_there one (a ∙ ap Some (sym b.1)))
      go (inr a) (inl b) = absurd (not_there other (b ∙ ap Some (sym a.1)))
      go (inr a) (inr b) = a.0 ∙ sym b.0

  longer : length (grow done key) ≡ length done + 1
  longer = one_longer done (shape_in done key)

  more_known : (label : Label) (head : IrType) → IsKnownHead (length done) label head → IsKnownHead (length (grow done key)) label head
  more_known label head k = known_with_more (length done) (length (grow done key)) label head (omega (arith, longer)) k

  pub are_more : AreOf (before ++ key ∷ []) (grow done key)
  are_more = record {
    many = omega (arith, are.many, longer, length-append before (key ∷ []));
    apart = still_apart;
    each = λ n k h. go n k (split_at before key k n h);
  }
    where
      go : (n : ℕ) (k : Labelled) → (slice_get before n ≡ Some k) ⊎ ((n ≡ length before) × (key ≡ k)) → IsKnownShape (length (grow done key)) k × (slice_get (grow done key) n ≡ Some (shape_in (grow done key) k))
      go n k (inl h) =
          let own = are.each n k h in
          (more_known k.label k.head own.0, still_at done (shape_in done key ∷ []) n (shape_in done k) own.1 ∙ ap Some (sym (told_in_front done (shape_in done key ∷ []) k.label k.head own.0)))
      go n k (inr e) =
          subst (λ z. IsKnownShape (length (grow done key)) z × (slice_get (grow done key) n ≡ Some (shape_in (grow done key) z))) e.1 (
            more_known key.label key.head known,
            ap (slice_get (grow done key)) (e.0 ∙ are.many) ∙ at_end done [] (shape_in done key) ∙ ap Some (sym (told_in_front done (shape_in done key ∷ []) key.label key.head known)),
          )

grown_are : (keys before : List Labelled) (done : List Shape) → AreOf before done → AreKnownShapes (length done) keys → IsDistinct same_labelled (before ++ keys) → AreOf (before ++ keys) (fold grow done keys)
grown_are [] before done are known d = subst (λ ks. AreOf ks done) (sym (append-nil before)) are
grown_are (key ∷ keys) before done are known d =
    let joined = append_assoc before (key ∷ []) keys in
    subst (λ ks. AreOf ks (fold grow (grow done key) keys)) joined
    (grown_are keys (before ++ key ∷ []) (grow done key) (are_more before done are key known.0 (λ n b h. distinct_front before keys key n b d h))
    (subst (λ n. AreKnownShapes n keys) (sym (one_longer done (shape_in done key))) known.1) (subst (IsDistinct same_labelled) (sym joined) d))

nothing : (xs : List Shape) (one other : ℕ) (s : Shape) → xs ≡ [] → slice_get xs one ≡ Some s → one ≡ other
nothing [] one other s e h = cc
nothing (x ∷ xs) one other s e h = cc

no_key : (ks : List Labelled) (n : ℕ) (key : Labelled) → ks ≡ [] → slice_get ks n ≡ Some key → IsKnownShape 0 key × (slice_get [] n ≡ Some (shape_in [] key))
no_key [] n key e h = cc
no_key (k ∷ ks) n key e h = cc

none_are : AreOf [] []
none_are = record { many = refl; apart = λ one other s h k. nothing [] one other s refl h; each = λ n key h. no_key [] n key refl h }

-- the shapes of distinct keys
pub keys_are : (keys : List Labelled) → AreKnownShapes 0 keys → IsDistinct same_labelled keys → AreOf keys (shapes_of keys)
keys_are keys known d = grown_are keys [] [] none_are known d

-- ONE KEY IS PUT IN

module _ (keys now : List Labelled) (key : Labelled) (put : now ≡ (if list_any (same_labelled key) keys then keys else keys ++ key ∷ [])) (known : AreKnownShapes 0 keys) (own : IsKnownShape (length keys) key) where
  fits : IsKnownShape (length (shapes_of keys)) key
  fits = subst (λ n. IsKnownShape n key) (sym (as_many keys)) own

  pub put_known : AreKnownShapes 0 now
  put_known = go (list_any (same_labelled key) keys) put
    where
      go : (b : Bool) → now ≡ (if b then keys else keys ++ key ∷ []) → AreKnownShapes 0 now
      go true e = subst (AreKnownShapes 0) (sym e) known
      go false e = subst (AreKnownShapes 0) (sym e) (known_more keys 0 key known (subst (λ n. IsKnownShape n key) count own))
        where
          count : length keys ≡ 0 + length keys
          count = omega arith

  pub put_adds : (shapes_of now ≡ shapes_of keys) ⊎ (shapes_of now ≡ shapes_of keys ++ shape_in (shapes_of keys) key ∷ [])
  put_adds = go (list_any (same_labelled key) keys) put
    where
      go : (b : Bool) → now ≡ (if b then keys else keys ++ key ∷ []) → (shapes_of now ≡ shapes_of keys) ⊎ (shapes_of now ≡ shapes_of keys ++ shape_in (shapes_of keys) key ∷ [])
      go true e = inl (ap shapes_of e)
      go false e = inr (ap shapes_of e ∙ grown_more keys key [])

  pub put_at : IsDistinct same_labelled now → (number : ℕ) (k : Labelled) → slice_get now number ≡ Some k → same_labelled key k ≡ true → slice_get (shapes_of now) number ≡ Some (shape_in (shapes_of keys) key)
  put_at d number k at same =
      let is : slice_get now number ≡ Some key = at ∙ ap Some (sym ((labels_decide key k).0 same)) in
      ((keys_are now put_known d).each number key is).1 ∙ ap Some (go put_adds)
    where
      go : (shapes_of now ≡ shapes_of keys) ⊎ (shapes_of now ≡ shapes_of keys ++ shape_in (shapes_of keys) key ∷ []) → shape_in (shapes_of now) key ≡ shape_in (shapes_of keys) key
      go (inl e) = ap (λ l. shape_in l key) e
      go (inr e) = ap (λ l. shape_in l key) e ∙ told_in_front (shapes_of keys) (shape_in (shapes_of keys) key ∷ []) key.label key.head fits
