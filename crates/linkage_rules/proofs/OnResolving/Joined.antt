-- What is gathered from the definitions of a symbol, one after another.
use Rattle.std.proofs.Common.{◌≡◌, ℕ, zero, suc, ◌+◌, ◌*◌, ◌≤◌, ◌<◌, ◌⊎◌, inl, inr, Bool, true, false, cond, ◌&&◌, List, [], ◌∷◌, ◌++◌, map, filter, take, Option, Some, None, refl, sym, ap, ◌∙◌, arith, append-nil}
use Rattle.std.specs.Prelude.{slice_get, filter_map, min, max}
use Rattle.std.proofs.Common.{leb}
use Rattle.std.proofs.lemmas.Bool.Decides.{leb_tells}
use Rattle.std.proofs.Math.Nat.{min-eq_left, min-eq_right, max-eq_left, max-eq_right, max_comm, le-mul_of_pos_right}
use Rattle.module_arena.specs.Module.{Module}
use Rattle.linkage_rules.specs.declared.entry.EntryId.{EntryId}
use Rattle.linkage_rules.specs.Entries.{Entry}
use Rattle.linkage_rules.specs.Globals.{linkage_of, stated}
use Rattle.linkage_rules.specs.Ids.{seen}
use Rattle.linkage_rules.specs.Linkages.{is_common}
use Rattle.linkage_rules.specs.Lists.{greatest_from, greatest}
use Rattle.linkage_rules.specs.Addresses.{greatest_stated, greatest_common, commons, alignment_in}
use Rattle.linkage_rules.specs.Winner.{is_definition}
use Rattle.linkage_rules.proofs.Filed.{map_joined}
use Rattle.linkage_rules.proofs.Steps.{map_step, filter_more}
use Rattle.linkage_rules.specs.Resolving.Extents.{common_of, stated_of, or_greater}
use Rattle.linkage_rules.specs.Resolving.Places.{greater}

-- NUMBERS

pub clamp_mul : (m a b : ℕ) → min (min a m * b) m ≡ min (a * b) m
clamp_mul m a zero = let none : min a m * 0 ≡ a * 0 = omega arith in ap (λ n. min n m) none
clamp_mul m a (suc b) = by (leb_tells a m)
  where
    by : ((leb a m ≡ true) × (a ≤ m)) ⊎ ((leb a m ≡ false) × (m < a)) → min (min a m * suc b) m ≡ min (a * suc b) m
    by (inl h) = ap (λ n. min (n * suc b) m) (min-eq_left h.1)
    by (inr h) =
        let over = h.1 in
        let once : m ≤ m * suc b = le-mul_of_pos_right m (omega arith) in
        let more : a ≤ a * suc b = le-mul_of_pos_right a (omega arith) in
        ap (λ n. min (n * suc b) m) (min-eq_right (omega (arith, over))) ∙ min-eq_right once ∙ sym (min-eq_right (omega (arith, over, more)))

-- ONE DEFINITION MORE

module _ (parts : List Module) (ids : List EntryId) (k : ℕ) (x : EntryId) (at : slice_get ids k ≡ Some x) where
  more : filter is_definition (map (seen parts) (take (k + 1) ids)) ≡ filter is_definition (map (seen parts) (take k ids)) ++ cond (is_definition (seen parts x)) (seen parts x ∷ []) []
  more = ap (filter is_definition) (map_step (seen parts) ids k x at) ∙ filter_more is_definition (map (seen parts) (take k ids)) (seen parts x)

  pub kept : is_definition (seen parts x) ≡ true → filter is_definition (map (seen parts) (take (k + 1) ids)) ≡ filter is_definition (map (seen parts) (take k ids)) ++ seen parts x ∷ []
  kept t = more ∙ ap (λ b. filter is_definition (map (seen parts) (take k ids)) ++ cond b (seen parts x ∷ []) []) t

  pub skipped : is_definition (seen parts x) ≡ false → filter is_definition (map (seen parts) (take (k + 1) ids)) ≡ filter is_definition (map (seen parts) (take k ids))
  skipped t = more ∙ ap (λ b. filter is_definition (map (seen parts) (take k ids)) ++ cond b (seen parts x ∷ []) []) t ∙ append-nil _

-- THE GREATEST

max_joined : (l g m : ℕ) → max l (max g m) ≡ max (max l g) m
max_joined l g m = by (leb_tells l g) (leb_tells g m)
  where
    by : ((leb l g ≡ true) × (l ≤ g)) ⊎ ((leb l g ≡ false) × (g < l)) → ((leb g m ≡ true) × (g ≤ m)) ⊎ ((leb g m ≡ false) × (m < g)) → max l (max g m) ≡ max (max l g) m
    by (inl h) (inl i) =
        let one = h.1 in
        let two = i.1 in
        ap (max l) (max-eq_right two) ∙ max-eq_right (omega (arith, one, two)) ∙ sym (ap (λ n. max n m) (max-eq_right one) ∙ max-eq_right two)
    by (inl h) (inr i) =
        let one = h.1 in
        let two = i.1 in
        ap (max l) (max-eq_left (omega (arith, two))) ∙ max-eq_right one ∙ sym (ap (λ n. max n m) (max-eq_right one) ∙ max-eq_left (omega (arith, two)))
    by (inr h) (inl i) =
        let one = h.1 in
        ap (max l) (max-eq_right i.1) ∙ sym (ap (λ n. max n m) (max-eq_left (omega (arith, one))))
    by (inr h) (inr i) =
        let one = h.1 in
        let two = i.1 in
        ap (max l) (max-eq_left (omega (arith, two))) ∙ max-eq_left (omega (arith, one)) ∙ sym (ap (λ n. max n m) (max-eq_left (omega (arith, one))) ∙ max-eq_left (omega (arith, one, two)))

greatest_from_more : (n : ℕ) (ns : List ℕ) (m : ℕ) → greatest_from n (ns ++ m ∷ []) ≡ max (greatest_from n ns) m
greatest_from_more n [] m = max_comm m n
greatest_from_more n (l ∷ ns) m = ap (max l) (greatest_from_more n ns m) ∙ max_joined l (greatest_from n ns) m

pub greatest_more : (ns : List ℕ) (m : ℕ) → greatest (ns ++ m ∷ []) ≡ greater (greatest ns) m
greatest_more [] m = refl
greatest_more (n ∷ ns) m = ap Some (greatest_from_more n ns m)

stated_joined : (es : List Entry) (e : Entry) → filter_map (λ (d : Entry). stated d.global) (es ++ e ∷ []) ≡ filter_map (λ (d : Entry). stated d.global) es ++ filter_map (λ (d : Entry). stated d.global) (e ∷ [])
stated_joined [] e = refl
stated_joined (d ∷ es) e = go (stated d.global) refl (stated_joined es e)
  where
    go : (o : Option ℕ) → stated d.global ≡ o → filter_map (λ (d : Entry). stated d.global) (es ++ e ∷ []) ≡ filter_map (λ (d : Entry). stated d.global) es ++ filter_map (λ (d : Entry). stated d.global) (e ∷ [])
        → filter_map (λ (d : Entry). stated d.global) (d ∷ es ++ e ∷ []) ≡ filter_map (λ (d : Entry). stated d.global) (d ∷ es) ++ filter_map (λ (d : Entry). stated d.global) (e ∷ [])
    go None t h = rw t h
    go (Some n) t h = rw t (ap (λ l. n ∷ l) h)

pub stated_more : (es : List Entry) (e : Entry) (n : ℕ) → stated e.global ≡ Some n → greatest_stated (es ++ e ∷ []) ≡ greater (greatest_stated es) n
stated_more es e n h = ap greatest (stated_joined es e ∙ ap (λ l. filter_map (λ (d : Entry). stated d.global) es ++ l) one) ∙ greatest_more (filter_map (λ (d : Entry). stated d.global) es) n
  where
    one : filter_map (λ (d : Entry). stated d.global) (e ∷ []) ≡ n ∷ []
    one = rw h refl

pub stated_same : (es : List Entry) (e : Entry) → stated e.global ≡ None → greatest_stated (es ++ e ∷ []) ≡ greatest_stated es
stated_same es e h = ap greatest (stated_joined es e ∙ ap (λ l. filter_map (λ (d : Entry). stated d.global) es ++ l) one ∙ append-nil _)
  where
    one : filter_map (λ (d : Entry). stated d.global) (e ∷ []) ≡ []
    one = rw h refl

pub common_more : (parts : List Module) (es : List Entry) (e : Entry) → is_common (linkage_of e.global) ≡ true → greatest_common parts (es ++ e ∷ []) ≡ greater (greatest_common parts es) (alignment_in parts e)
common_more parts es e h =
    ap (λ l. greatest (map (alignment_in parts) l)) (filter_more (λ (d : Entry). is_common (linkage_of d.global)) es e ∙ ap (λ b. commons es ++ cond b (e ∷ []) []) h)
    ∙ ap greatest (map_joined (alignment_in parts) (commons es) (e ∷ [])) ∙ greatest_more (map (alignment_in parts) (commons es)) (alignment_in parts e)

pub common_same : (parts : List Module) (es : List Entry) (e : Entry) → is_common (linkage_of e.global) ≡ false → greatest_common parts (es ++ e ∷ []) ≡ greatest_common parts es
common_same parts es e h =
    ap (λ l. greatest (map (alignment_in parts) l)) (filter_more (λ (d : Entry). is_common (linkage_of d.global)) es e ∙ ap (λ b. commons es ++ cond b (e ∷ []) []) h ∙ append-nil _)

-- ONE ENTRY MORE

module _ (parts : List Module) (ids : List EntryId) (k : ℕ) (x : EntryId) (at : slice_get ids k ≡ Some x) where
  pub stated_step : greatest_stated (filter is_definition (map (seen parts) (take (k + 1) ids))) ≡ or_greater (greatest_stated (filter is_definition (map (seen parts) (take k ids)))) (stated_of (seen parts x))
  stated_step = go (is_definition (seen parts x)) refl
    where
      e : Entry
      e = seen parts x

      before : List Entry
      before = filter is_definition (map (seen parts) (take k ids))

      by : (o : Option ℕ) → stated e.global ≡ o → greatest_stated (before ++ e ∷ []) ≡ or_greater (greatest_stated before) o
      by None s = stated_same before e s
      by (Some n) s = stated_more before e n s

      go : (b : Bool) → is_definition e ≡ b → greatest_stated (filter is_definition (map (seen parts) (take (k + 1) ids))) ≡ or_greater (greatest_stated before) (cond b (stated e.global) None)
      go false t = ap greatest_stated (skipped parts ids k x at t)
      go true t = ap greatest_stated (kept parts ids k x at t) ∙ by (stated e.global) refl

  pub common_step : greatest_common parts (filter is_definition (map (seen parts) (take (k + 1) ids))) ≡ or_greater (greatest_common parts (filter is_definition (map (seen parts) (take k ids)))) (common_of parts (seen parts x))
  common_step = go (is_definition (seen parts x)) (is_common (linkage_of (seen parts x).global)) refl refl
    where
      e : Entry
      e = seen parts x

      before : List Entry
      before = filter is_definition (map (seen parts) (take k ids))

      go : (b c : Bool) → is_definition e ≡ b → is_common (linkage_of e.global) ≡ c
          → greatest_common parts (filter is_definition (map (seen parts) (take (k + 1) ids))) ≡ or_greater (greatest_common parts before) (cond (b && c) (Some (alignment_in parts e)) None)
      go false c t s = ap (greatest_common parts) (skipped parts ids k x at t)
      go true true t s = ap (greatest_common parts) (kept parts ids k x at t) ∙ common_more parts before e s
      go true false t s = ap (greatest_common parts) (kept parts ids k x at t) ∙ common_same parts before e s
