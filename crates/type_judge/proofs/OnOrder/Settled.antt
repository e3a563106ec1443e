-- Measures found along an order of dependency are the measures of the structs.
use Rattle.std.specs.Prelude.{◌≡◌, refl, ◌⊎◌, ℕ, zero, suc, ◌+◌, ◌<◌, Bool, true, false, ◌||◌, List, [], ◌∷◌, length, nat_eq, bytes_eq, cond, ◌-◌, Option, Some, None, option_map}
use Rattle.std.proofs.Common.{ap, sym, subst, ◌∙◌, arith, get_or, set, inl, inr, length-set}
use Rattle.std.proofs.lemmas.Bool.{eqb-true, eqb-false, eq-eqb}
use Rattle.std.proofs.lemmas.List.{get_or-set_same, get_or-set_other, length-map}
use Rattle.std.proofs.lemmas.Map.Steps.{length-le_from_distinct_below}
use Rattle.type_table.specs.declared.measure.Measure.{Measure}
use Rattle.type_table.specs.Measures.{opaque_measure, array_measure, struct_measure}
use Rattle.type_table.specs.Tree.{Tree, int, ptr, void, array, struct, named, Trees, no_trees, more_trees, TreeBody, opaque_body, fields, Structs, index_of, body_of}
use Rattle.module_arena.specs.Module.{Bytes}
use Rattle.type_table.specs.Names.Entries.{value_of}
use Rattle.name_rules.specs.Measured.{joined, tree_measured, all_measured, body_measured, names_in, all_names_in, body_names, names_of, look_in, measures_within, struct_measures}
use Rattle.name_rules.proofs.Levels.{level, stays}
use Rattle.name_rules.proofs.Cycles.{in_first, in_second}
use Rattle.name_rules.proofs.Ordered.{Follows, order_there, is_fixed, left_out, IsThere}
use Rattle.type_judge.specs.Order.Order.{stands_in}
use Rattle.type_judge.specs.Order.Dependency.{HasName, NamesOther, name_at, names_at, Follow, IsDependencyOrder}
use Rattle.type_judge.specs.Order.Mentions.{number_from, AreNumbers}
use Rattle.type_judge.specs.Order.Measuring.{measure_at, found_in, bodies_of, with_measure, with_measures}
use Rattle.type_judge.proofs.OnOrder.Named.{found_at, from_names, in_names, has_at}

-- equal measures of the names give equal measures of what names them
module _ (f g : Bytes → Option Measure) where
  mutual
    tree_same : (t : Tree) → ((n : Bytes) → HasName n (names_in t) → f n ≡ g n) → tree_measured f t ≡ tree_measured g t
    tree_same (int w) h = refl
    tree_same ptr h = refl
    tree_same void h = refl
    tree_same (array n t) h = ap (option_map (array_measure n)) (tree_same t h)
    tree_same (struct packed ts) h = ap (option_map (struct_measure packed)) (trees_same ts h)
    tree_same (named n) h = h n (inl refl)

    trees_same : (ts : Trees) → ((n : Bytes) → HasName n (all_names_in ts) → f n ≡ g n) → all_measured f ts ≡ all_measured g ts
    trees_same no_trees h = refl
    trees_same (more_trees t ts) h = λ j. joined (tree_same t (λ n k. h n (in_first n (names_in t) (all_names_in ts) k)) j) (trees_same ts (λ n k. h n (in_second n (names_in t) (all_names_in ts) k)) j)

  body_same : (body : TreeBody) → ((n : Bytes) → HasName n (body_names body) → f n ≡ g n) → body_measured f body ≡ body_measured g body
  body_same opaque_body h = refl
  body_same (fields packed ts) h = ap (option_map (struct_measure packed)) (trees_same ts h)

-- a name of no struct stands behind all
index_none : (structs : Structs) (name : Bytes) (next : ℕ) → number_from next structs name ≡ None → index_of (names_of structs) name ≡ length structs
index_none [] name next e = refl
index_none (s ∷ structs) name next e = by (bytes_eq s.0 name) e (λ q. index_none structs name (suc next) q)
  where
    by : (b : Bool) → cond b (Some next) (number_from (suc next) structs name) ≡ None → (number_from (suc next) structs name ≡ None → index_of (names_of structs) name ≡ length structs)
        → cond b 0 (suc (index_of (names_of structs) name)) ≡ suc (length structs)
    by true q again = absurd cc
    by false q again = ap suc (again q)

past_end : {A : Type 0} (xs : List A) (d : A) (i : ℕ) → length xs ≡ i → get_or xs i d ≡ d
past_end [] d i e = refl
past_end (x ∷ xs) d zero e = absurd cc
past_end (x ∷ xs) d (suc i) e = past_end xs d i (let k : length xs ≡ i = omega (arith, e) in k)

module _ (structs : Structs) (numbers : List (Bytes × ℕ)) (are : AreNumbers numbers structs) where
  abbrev count : ℕ
  count = length structs

  length_within : (n : ℕ) → length (measures_within structs n) ≡ length structs
  unfolding measures_within
  length_within zero = length-map structs (λ s. None)
  length_within (suc n) = length-map structs (λ s. body_measured (look_in structs (measures_within structs n)) s.1)

  -- a name of no struct counts as an opaque struct
  no_struct : (n : ℕ) (name : Bytes) → number_from 0 structs name ≡ None → level structs n name ≡ Some opaque_measure
  no_struct n name e = past_end (measures_within structs n) (Some opaque_measure) (index_of (names_of structs) name) (length_within n ∙ sym (index_none structs name 0 e))

  outside : (name : Bytes) → (HasName name (names_of structs) → ⊥) → number_from 0 structs name ≡ None
  outside name out = by (number_from 0 structs name) refl
    where
      by : (o : Option ℕ) → number_from 0 structs name ≡ o → number_from 0 structs name ≡ None
      by None e = e
      by (Some n) e = let r = found_at 0 structs name n e in absurd (out (subst (λ k. HasName k (names_of structs)) r.4 (has_at (names_of structs) r.0 (omega (arith, r.2, length-map structs (λ (s : Bytes × TreeBody). s.0))))))

  follows : (before order : List Bytes) → Follow structs before order → Follows structs before order
  follows before [] f = tt
  follows before (y ∷ more) f = ((λ z h. by z (f.0 z h)), follows (y ∷ before) more f.1)
    where
      by : (z : Bytes) → HasName z before ⊎ (HasName z (names_of structs) → ⊥) → HasName z before ⊎ IsThere (level structs zero z)
      by z (inl h) = inl h
      by z (inr out) = inr (opaque_measure, no_struct zero z (outside z out))

  stays_more : (k n : ℕ) (name : Bytes) (m : Measure) → level structs n name ≡ Some m → level structs (k + n) name ≡ Some m
  stays_more zero n name m e = subst (λ i. level structs i name ≡ Some m) (zero_in_front n) e
    where
      zero_in_front : (i : ℕ) → i ≡ 0 + i
      zero_in_front i = omega arith
  stays_more (suc k) n name m e = subst (λ i. level structs i name ≡ Some m) (one_in_front k n) (stays structs (k + n) name m (stays_more k n name m e))
    where
      one_in_front : (i j : ℕ) → suc (i + j) ≡ suc i + j
      one_in_front i j = omega arith

  -- what stands in the order has a measure
  has_measure : (order : List ℕ) → IsDependencyOrder structs order → (name : Bytes) → HasName name (names_at structs order) → IsThere (level structs count name)
  has_measure order is name h =
      let few = length-le_from_distinct_below order count is.distinct is.within in
      let r = order_there structs 0 [] (names_at structs order) (λ z k. absurd k) (follows [] (names_at structs order) is.follow) name h in
      let all : (count - length order) + (0 + length (names_at structs order)) ≡ count = omega (arith, few, length-map order (name_at structs)) in
      (r.0, subst (λ n. level structs n name ≡ Some r.0) all (stays_more (count - length order) (0 + length (names_at structs order)) name r.0 r.1))

  by_body : (name : Bytes) → IsThere (level structs count name) → body_measured (level structs count) (body_of structs name) ≡ level structs count name
  by_body name (m, e) = is_fixed structs count name m e ∙ sym e

  -- so far those before have their measures, and the others none
  record IsFound (before : List ℕ) (measures : List (Option Measure)) : Type 0 where
    size : length measures ≡ length structs
    done : (n : ℕ) → n < count → stands_in before n ≡ true → get_or measures n (Some opaque_measure) ≡ level structs count (name_at structs n)
    rest : (n : ℕ) → n < count → stands_in before n ≡ false → get_or measures n (Some opaque_measure) ≡ None

  module _ (order : List ℕ) (is : IsDependencyOrder structs order) where
    look_before : (before : List ℕ) (measures : List (Option Measure)) → IsFound before measures → ((n : ℕ) → stands_in before n ≡ true → stands_in order n ≡ true)
        → (other : Bytes) → HasName other (names_at structs before) ⊎ (HasName other (names_of structs) → ⊥) → found_in numbers measures other ≡ level structs count other
    look_before before measures found sub other (inl h) =
        let r = from_names structs before other h in
        let within = is.within r.0 (sub r.0 r.1) in
        let first = is.first r.0 (sub r.0 r.1) in
        let number : value_of numbers other ≡ Some r.0 = number_is other r.0 (sym (ap (index_of (names_of structs)) r.2) ∙ first) within in
        ap (measure_at measures) number ∙ found.done r.0 within r.1 ∙ ap (level structs count) r.2
      where
        number_is : (other : Bytes) (n : ℕ) → index_of (names_of structs) other ≡ n → n < count → value_of numbers other ≡ Some n
        number_is other n e less = by (number_from 0 structs other) refl
          where
            by : (o : Option ℕ) → number_from 0 structs other ≡ o → value_of numbers other ≡ Some n
            by (Some m) q =
                let f = found_at 0 structs other m q in
                let same : m ≡ n = (let i = f.1 in let j : f.0 ≡ n = sym f.3 ∙ e in omega (arith, i, j)) in
                are.each other ∙ q ∙ ap Some same
            by None q = let past = index_none structs other 0 q in absurd (let same : n ≡ length structs = sym e ∙ past in omega (arith, same, less))
    look_before before measures found sub other (inr out) =
        let none = outside other out in
        ap (measure_at measures) (are.each other ∙ none) ∙ sym (no_struct count other none)

    own_body : (number : ℕ) → stands_in order number ≡ true → get_or (bodies_of structs) number opaque_body ≡ body_of structs (name_at structs number)
    own_body number here = ap (λ i. get_or (bodies_of structs) i opaque_body) (sym (is.first number here))

    measure_is : (before : List ℕ) (measures : List (Option Measure)) (number : ℕ) → IsFound before measures → ((n : ℕ) → stands_in before n ≡ true → stands_in order n ≡ true) → stands_in order number ≡ true
        → ((other : Bytes) → NamesOther structs (name_at structs number) other → HasName other (names_at structs before) ⊎ (HasName other (names_of structs) → ⊥))
        → body_measured (found_in numbers measures) (get_or (bodies_of structs) number opaque_body) ≡ level structs count (name_at structs number)
    measure_is before measures number found sub here follow =
        ap (body_measured (found_in numbers measures)) (own_body number here)
        ∙ body_same (found_in numbers measures) (level structs count) (body_of structs (name_at structs number)) (λ other h. look_before before measures found sub other (follow other h))
        ∙ by_body (name_at structs number) (has_measure order is (name_at structs number) (in_names structs order number here))

    or_parts : (a b : Bool) → (a || b) ≡ false → (a ≡ false) × (b ≡ false)
    or_parts true b e = absurd cc
    or_parts false b e = (refl, e)

    step : (before : List ℕ) (measures : List (Option Measure)) (number : ℕ) → IsFound before measures → ((n : ℕ) → stands_in before n ≡ true → stands_in order n ≡ true) → stands_in order number ≡ true
        → ((other : Bytes) → NamesOther structs (name_at structs number) other → HasName other (names_at structs before) ⊎ (HasName other (names_of structs) → ⊥))
        → IsFound (number ∷ before) (with_measure numbers (bodies_of structs) measures number)
    step before measures number found sub here follow = record {
      size = length-set measures number value ∙ found.size;
      done = λ n less q. done n less q (nat_eq n number) refl;
      rest = λ n less q. let p = or_parts (nat_eq n number) (stands_in before n) q in get_or-set_other measures number n value (Some opaque_measure) (eqb-false n number p.0) ∙ found.rest n less p.1;
    }
      where
        value : Option Measure
        value = body_measured (found_in numbers measures) (get_or (bodies_of structs) number opaque_body)

        done : (n : ℕ) → n < count → stands_in (number ∷ before) n ≡ true → (b : Bool) → nat_eq n number ≡ b
            → get_or (set measures number (body_measured (found_in numbers measures) (get_or (bodies_of structs) number opaque_body))) n (Some opaque_measure) ≡ level structs count (name_at structs n)
        done n less q true e =
            let same = eqb-true n number e in
            let within : number < length measures = (let w = is.within number here in omega (arith, w, found.size)) in
            ap (λ k. get_or (set measures number (body_measured (found_in numbers measures) (get_or (bodies_of structs) number opaque_body))) k (Some opaque_measure)) same
            ∙ get_or-set_same measures number (body_measured (found_in numbers measures) (get_or (bodies_of structs) number opaque_body)) (Some opaque_measure) within
            ∙ measure_is before measures number found sub here follow
            ∙ ap (λ k. level structs count (name_at structs k)) (sym same)
        done n less q false e =
            get_or-set_other measures number n (body_measured (found_in numbers measures) (get_or (bodies_of structs) number opaque_body)) (Some opaque_measure) (eqb-false n number e)
            ∙ found.done n less (sym (ap (λ b. b || stands_in before n) e) ∙ q)

    record Ends (before rest : List ℕ) (measures : List (Option Measure)) : Type 0 where
      behind : List ℕ
      are_both : (n : ℕ) → stands_in behind n ≡ (stands_in rest n || stands_in before n)
      found : IsFound behind measures

    moved : (a b c : Bool) → (b || (a || c)) ≡ ((a || b) || c)
    moved true true c = refl
    moved true false c = refl
    moved false b c = refl

    first_is : (number : ℕ) (more : List ℕ) → stands_in (number ∷ more) number ≡ true
    first_is number more = ap (λ b. b || stands_in more number) (eq-eqb number number refl)

    or_second : (a b : Bool) → b ≡ true → (a || b) ≡ true
    or_second true b e = refl
    or_second false b e = e

    along : (before rest : List ℕ) (measures : List (Option Measure)) → IsFound before measures → ((n : ℕ) → stands_in before n ≡ true → stands_in order n ≡ true) → ((n : ℕ) → stands_in rest n ≡ true → stands_in order n ≡ true)
        → Follow structs (names_at structs before) (names_at structs rest) → Ends before rest (with_measures numbers (bodies_of structs) measures rest)
    along before [] measures found sub all follow = record { behind = before; are_both = λ n. refl; found = found }
    along before (number ∷ more) measures found sub all follow =
        let here = all number (first_is number more) in
        let next = along (number ∷ before) more (with_measure numbers (bodies_of structs) measures number) (step before measures number found sub here follow.0)
        (λ n q. known n q (nat_eq n number) refl) (λ n q. all n (or_second (nat_eq n number) (stands_in more n) q)) follow.1 in
        record { behind = next.behind; are_both = λ n. next.are_both n ∙ moved (nat_eq n number) (stands_in more n) (stands_in before n); found = next.found }
      where
        known : (n : ℕ) → stands_in (number ∷ before) n ≡ true → (b : Bool) → nat_eq n number ≡ b → stands_in order n ≡ true
        known n q true e = ap (stands_in order) (eqb-true n number e) ∙ all number (first_is number more)
        known n q false e = sub n (sym (ap (λ b. b || stands_in before n) e) ∙ q)

    abbrev IsLeft : Bytes → Type 0
    IsLeft name = HasName name (names_of structs) × (HasName name (names_at structs order) → ⊥)

    left_none : (name : Bytes) → IsLeft name → level structs count name ≡ None
    left_none name l = left_out structs IsLeft (λ y k. let r = is.left y k.0 k.1 in (r.0, r.1, (r.2, r.3))) count name l

    -- where nothing was measured, measuring along the order measures each struct
    pub all_found : (none : List (Option Measure)) → length none ≡ length structs → ((n : ℕ) → n < length structs → get_or none n (Some opaque_measure) ≡ None)
        → (name : Bytes) → found_in numbers (with_measures numbers (bodies_of structs) none order) name ≡ look_in structs (struct_measures structs) name
    all_found none size each name = by (number_from 0 structs name) refl
      where
        ends : Ends [] order (with_measures numbers (bodies_of structs) none order)
        ends = along [] order none (record { size = size; done = λ n less q. absurd cc; rest = λ n less q. each n less }) (λ n q. absurd cc) (λ n q. q) is.follow

        or_false : (b : Bool) → (b || false) ≡ b
        or_false true = refl
        or_false false = refl

        by : (o : Option ℕ) → number_from 0 structs name ≡ o → found_in numbers (with_measures numbers (bodies_of structs) none order) name ≡ level structs count name
        by None e = ap (measure_at (with_measures numbers (bodies_of structs) none order)) (are.each name ∙ e) ∙ sym (no_struct count name e)
        by (Some n) e = ap (measure_at (with_measures numbers (bodies_of structs) none order)) (are.each name ∙ e) ∙ stand (stands_in order n) refl
          where
            f : (i : ℕ) × (n ≡ 0 + i) × (i < length structs) × (index_of (names_of structs) name ≡ i) × (name_at structs i ≡ name)
            f = found_at 0 structs name n e

            stand : (b : Bool) → stands_in order n ≡ b → get_or (with_measures numbers (bodies_of structs) none order) n (Some opaque_measure) ≡ level structs count name
            stand true q = let r = found_at 0 structs name n e in let same : r.0 ≡ n = omega (arith, r.1) in
                ends.found.done n (omega (arith, same, r.2)) (ends.are_both n ∙ or_false (stands_in order n) ∙ q) ∙ ap (level structs count) (ap (name_at structs) (sym same) ∙ r.4)
            stand false q = let r = found_at 0 structs name n e in let same : r.0 ≡ n = omega (arith, r.1) in
                ends.found.rest n (omega (arith, same, r.2)) (ends.are_both n ∙ or_false (stands_in order n) ∙ q)
                ∙ sym (left_none name (
                  subst (λ k. HasName k (names_of structs)) r.4 (has_at (names_of structs) r.0 (omega (arith, r.2, length-map structs (λ (s : Bytes × TreeBody). s.0)))),
                  λ h.
                      (let g = from_names structs order name h in
                      let first = is.first g.0 g.1 in
                      let here : g.0 ≡ n = sym first ∙ ap (index_of (names_of structs)) g.2 ∙ r.3 ∙ same in
                      let there : stands_in order n ≡ true = ap (stands_in order) (sym here) ∙ g.1 in
                      absurd cc),
                ))
