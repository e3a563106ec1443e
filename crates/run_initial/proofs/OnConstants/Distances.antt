-- How far indices lead, one after another.
use Rattle.std.proofs.Common.{◌≡◌, ℕ, zero, suc, ◌+◌, ◌-◌, ◌*◌, ◌^◌, ◌<◌, ◌≤◌, List, [], ◌∷◌, length, drop, get_or, Option, Some, None, ℤ, pos, ◌+ℤ◌, refl, sym, ap, ◌∙◌, subst, arith}
use Rattle.std.specs.Prelude.{IfSome, nat_abs}
use Rattle.std.proofs.Math.IntN.{+ℤ_assoc, +ℤ_idl, +ℤ_idr}
use Rattle.std.proofs.lemmas.Int.{ints}
use Rattle.std.proofs.lemmas.List.{at_drop_more, at_drop_all}
use Rattle.type_table.specs.Shape.{Shape, int_leaf, ptr_leaf, void_leaf, opaque_leaf, array_of, struct_of, Shapes, no_shapes, more_shapes, nesting, deepest}
use Rattle.type_table.specs.Types.{Types}
use Rattle.module_arena.specs.declared.constant.TypedConst.{TypedConst}
use Rattle.module_arena.specs.Lists.{Lists}
use Rattle.run_actions.specs.Accesses.Near.{IsNear}
use Rattle.run_rules.specs.Constant.{constant_indices}
use Rattle.run_rules.specs.Displace.{TermIndex, inner_term, inner_terms, known, number_in, reach_of, sum_of, terms_of}
use Rattle.run_rules.specs.Leaves.{element, field}
use Rattle.run_initial.specs.declared.constants.distance.PathPlace.TheVariants.{Whole}
use Rattle.run_initial.specs.declared.constants.distance.Reached.{Reached}
use Rattle.run_names.specs.Shapes.Shapes.{shape_in}
use Rattle.run_initial.specs.Constants.Places.{IsPlace, shape_at, term_reach}
use Rattle.run_initial.specs.Constants.Sound.{constants_with_types, names_of}

-- ---- sums

sum_assoc : (a b c : Option ℤ) → sum_of (sum_of a b) c ≡ sum_of a (sum_of b c)
sum_assoc (Some a) (Some b) (Some c) = ap (λ (z : ℤ). Some z) (+ℤ_assoc a b c)
sum_assoc (Some a) (Some b) None = refl
sum_assoc (Some a) None c = refl
sum_assoc None b c = refl

sum_start : (a : Option ℤ) → sum_of (Some (pos 0)) a ≡ a
sum_start (Some a) = ap (λ (z : ℤ). Some z) (+ℤ_idl a)
sum_start None = refl

sum_end : (a : Option ℤ) → sum_of a (Some (pos 0)) ≡ a
sum_end (Some a) = ap (λ (z : ℤ). Some z) (+ℤ_idr a)
sum_end None = refl

near_sum : (a b : ℤ) (x y : ℕ) → nat_abs a ≤ x → nat_abs b ≤ y → nat_abs (a +ℤ b) ≤ x + y
near_sum a b x y h k = omega (arith, ints, h, k)

sum_near : (a b : Option ℤ) (x y : ℕ) → IfSome a (IsNear x) → IfSome b (IsNear y) → IfSome (sum_of a b) (IsNear (x + y))
sum_near (Some a) (Some b) x y h k = near_sum a b x y h k
sum_near (Some a) None x y h k = tt
sum_near None b x y h k = tt

pub near_weaker : (a : Option ℤ) (x y : ℕ) → x ≤ y → IfSome a (IsNear x) → IfSome a (IsNear y)
near_weaker (Some a) x y le h = omega (arith, le, h)
near_weaker None x y le h = tt

-- ---- parts nest less deep

field_nests : (ss : Shapes) (k : ℕ) → nesting (field ss k) ≤ deepest ss
field_nests no_shapes k = omega arith
field_nests (more_shapes s ss) zero = omega arith
field_nests (more_shapes s ss) (suc k) = let rest = field_nests ss k in omega (arith, rest)

pub element_nests : (s : Shape) (k : ℕ) → nesting (element s k) ≤ nesting s
element_nests (int_leaf w) k = omega arith
element_nests ptr_leaf k = omega arith
element_nests void_leaf k = omega arith
element_nests (opaque_leaf label) k = omega arith
element_nests (array_of n s) k = omega arith
element_nests (struct_of label packed ss) k = let most = field_nests ss k in omega (arith, most)

less_times : (n k m : ℕ) → k < n → m ≤ (n - k) * m
less_times n k m lt = go (n - suc k) (omega (arith, lt))
  where
    go : (d : ℕ) → n - k ≡ suc d → m ≤ (n - k) * m
    go d e =
        let whole : (n - k) * m ≡ suc d * m = ap (λ (j : ℕ). j * m) e in
        let parts : suc d * m ≡ m + d * m = omega arith in
        omega (arith, whole, parts)

no_distance : (r : Option ℤ) (x : ℕ) → r ≡ Some (pos 0) → IfSome r (IsNear x)
no_distance r x e = subst (λ (o : Option ℤ). IfSome o (IsNear x)) (sym e) (omega arith)

-- an index leads further only into a part
step_near : (s : Shape) (i : TermIndex) (m : ℕ) (r : Option ℤ) → r ≡ term_reach (inner_term s i) → IfSome r (IsNear m) → IfSome r (IsNear ((nesting s - nesting (element s (number_in i))) * m))
step_near (int_leaf w) i m r e h = no_distance r _ e
step_near ptr_leaf i m r e h = no_distance r _ e
step_near void_leaf i m r e h = no_distance r _ e
step_near (opaque_leaf label) i m r e h = no_distance r _ e
step_near (array_of n s) i m r e h = near_weaker r m _ (less_times (nesting s + 1) (nesting s) m (omega arith)) h
step_near (struct_of label packed ss) i m r e h =
    let most = field_nests ss (number_in i) in
    near_weaker r m _ (less_times (deepest ss + 1) (nesting (field ss (number_in i))) m (omega (arith, most))) h

-- ---- along the indices

-- the indices so far have led so far that the others lead as far as all do
pub record IsOnTheWay (t : Types) (most : ℕ) (r : Reached) (rest : List TermIndex) (whole : Option ℤ) : Type 0 where
  pub place : IsPlace t r.place
  pub nests : nesting (shape_at t r.place) ≤ 65
  pub near : IfSome r.distance (IsNear ((65 - nesting (shape_at t r.place)) * most))
  pub sum : sum_of r.distance (reach_of known (inner_terms (shape_at t r.place) rest)) ≡ whole

split : (n k m : ℕ) → k ≤ n → n ≤ 65 → (65 - n) * m + (n - k) * m ≡ (65 - k) * m
split n k m le bound = go (65 - n) (n - k) (omega (arith, le, bound))
  where
    go : (x y : ℕ) → 65 - k ≡ x + y → x * m + y * m ≡ (65 - k) * m
    go x y e = let parts : (x + y) * m ≡ x * m + y * m = omega arith in sym parts ∙ ap (λ (z : ℕ). z * m) (sym e)

-- one index more
pub one_further : (t : Types) (most : ℕ) (r q : Reached) (i : TermIndex) (rest : List TermIndex) (whole : Option ℤ) → IsOnTheWay t most r (i ∷ rest) whole
    → IsPlace t q.place → shape_at t q.place ≡ element (shape_at t r.place) (number_in i) → q.distance ≡ sum_of r.distance (term_reach (inner_term (shape_at t r.place) i))
    → IfSome (term_reach (inner_term (shape_at t r.place) i)) (IsNear most) → IsOnTheWay t most q rest whole
one_further t most r q i rest whole way placed shape summed near =
    let s = shape_at t r.place in
    let term = term_reach (inner_term s i) in
    let less = element_nests s (number_in i) in
    let here : nesting (shape_at t q.place) ≡ nesting (element s (number_in i)) = ap nesting shape in
    let bound = way.nests in
    let both = sum_near r.distance term ((65 - nesting s) * most) ((nesting s - nesting (element s (number_in i))) * most) way.near (step_near s i most term refl near) in
    record {
      place = placed;
      nests = omega (arith, less, here, bound);
      near =
          subst (λ (o : Option ℤ). IfSome o (IsNear ((65 - nesting (shape_at t q.place)) * most))) (sym summed)
          (subst (λ (x : ℕ). IfSome (sum_of r.distance term) (IsNear x)) (split (nesting s) (nesting (element s (number_in i))) most less bound ∙ ap (λ (x : ℕ). (65 - x) * most) (sym here)) both);
      sum =
          ap (λ (o : Option ℤ). sum_of o (reach_of known (inner_terms (shape_at t q.place) rest))) summed
          ∙ ap (λ (u : Shape). sum_of (sum_of r.distance term) (reach_of known (inner_terms u rest))) shape
          ∙ sum_assoc r.distance term (reach_of known (inner_terms (element s (number_in i)) rest))
          ∙ way.sum;
    }

-- before the first index
pub at_first : (t : Types) (most ty : ℕ) (r : Reached) (is : List TermIndex) → IsPlace t (Whole ty) → nesting (shape_in t ty) ≤ 64 → r ≡ record { place = Whole ty; distance = Some (pos 0) } → IsOnTheWay t most r is (reach_of known (terms_of (shape_in t ty) is))
at_first t most ty r is placed few e =
    subst (λ (q : Reached). IsOnTheWay t most q is (reach_of known (terms_of (shape_in t ty) is))) (sym e)
    (record { place = placed; nests = omega (arith, few); near = omega arith; sum = sum_start (reach_of known (inner_terms (array_of 0 (shape_in t ty)) is)) ∙ ap (reach_of known) (as_elements is) })
  where
    as_elements : (is : List TermIndex) → inner_terms (array_of 0 (shape_in t ty)) is ≡ terms_of (shape_in t ty) is
    as_elements [] = refl
    as_elements (i ∷ is) = refl

-- behind the last
pub at_the_end : (t : Types) (most : ℕ) (r : Reached) (rest : List TermIndex) (whole : Option ℤ) → rest ≡ [] → IsOnTheWay t most r rest whole → r.distance ≡ whole
at_the_end t most r rest whole none way = sym (sum_end r.distance) ∙ ap (λ (is : List TermIndex). sum_of r.distance (reach_of known (inner_terms (shape_at t r.place) is))) (sym none) ∙ way.sum

-- what is reached so far is near enough for a sum
pub so_far : (t : Types) (r : Reached) (rest : List TermIndex) (whole : Option ℤ) → IsOnTheWay t (2 ^ 63 * 2 ^ 40) r rest whole → IfSome r.distance (IsNear (2 ^ 125))
so_far t r rest whole way = near_weaker r.distance _ (2 ^ 125) (bound (65 - nesting (shape_at t r.place)) (omega arith)) way.near
  where
    bound : (n : ℕ) → n ≤ 65 → n * (2 ^ 63 * 2 ^ 40) ≤ 2 ^ 125
    bound n le = omega (arith, le)

-- ---- the indices of a constant

-- what constants are as indices
abbrev pub indices_of : Lists → List TypedConst → List TermIndex
indices_of a parts = constant_indices (names_of a) (constants_with_types a parts)

pub indices_from : (a : Lists) (parts : List TypedConst) (k : ℕ) (part : TypedConst) → k < length parts → part ≡ get_or parts k part → indices_of a (drop k parts) ≡ indices_of a (part ∷ drop (k + 1) parts)
indices_from a parts k part lt is = at_drop_more (indices_of a) parts k part lt ∙ ap (λ (x : TypedConst). indices_of a (x ∷ drop (k + 1) parts)) (sym is)

pub no_indices : (a : Lists) (parts : List TypedConst) (k : ℕ) → length parts ≤ k → indices_of a (drop k parts) ≡ []
no_indices a parts k le = at_drop_all (indices_of a) parts k le
