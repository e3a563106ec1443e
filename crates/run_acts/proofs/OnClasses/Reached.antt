-- How far terms reach together, one after another.
use Rattle.std.proofs.Common.{◌≡◌, ℕ, suc, ◌+◌, ◌*◌, ◌^◌, ◌<◌, ◌≤◌, Bool, true, false, List, length, map, drop, get_or, Option, Some, None, ℤ, pos, negsuc, ◌+ℤ◌, refl, sym, ap, ◌∙◌, arith}
use Rattle.std.specs.Prelude.{FitsSigned, IfSome, if◌then◌else◌, nat_abs}
use Rattle.std.specs.Int.{w128}
use Rattle.std.proofs.Math.IntN.{+ℤ_assoc, +ℤ_idr, sub_ℕ}
use Rattle.std.proofs.lemmas.Bool.{false≢true}
use Rattle.std.proofs.lemmas.List.{drop_all, drop_more}
use Rattle.ir_eval.specs.declared.value.Scalar.{Scalar}
use Rattle.run_rules.specs.Action as actions
use Rattle.run_rules.specs.Displace.{reach, reach_of, sum_of}
use Rattle.run_actions.specs.declared.stack.origin.Origin.{Origin}
use Rattle.run_actions.specs.declared.stack.origin.Origin.TheVariants as origin
use Rattle.run_actions.specs.Stack.Origins.{IsIn, origin_of}
use Rattle.run_actions.specs.Accesses.Near.{IsNear}
use Rattle.run_decode.specs.declared.flat.action.Term.{Term}
use Rattle.run_decode.specs.declared.flat.leaf.LeafAt.{LeafAt}
use Rattle.run_decode.specs.declared.flat.leaf.LeafAt.TheVariants.{Held, Known}
use Rattle.run_decode.specs.declared.flat.pools.Pools.{Pools}
use Rattle.run_decode.specs.Flat.Flat.{leaf_of, others_reach, term_of}
use Rattle.run_acts.specs.Classes.May.{HasPlace}

-- ---- distances

pub near_more : (o : Option ℤ) (m n : ℕ) → m ≤ n → IfSome o (IsNear m) → IfSome o (IsNear n)
near_more (Some d) m n le h = omega (arith, h, le)
near_more None m n le h = tt

-- a near distance is a number of 128 bits
pub near_fits : (d : ℤ) → IsNear (2 ^ 124) d → FitsSigned w128 d
near_fits (pos n) h = record { sfits = omega (arith, h) }
near_fits (negsuc n) h = record { sfits = omega (arith, h) }

less_near : (a b : ℕ) → nat_abs (sub_ℕ a b) ≤ a + b
less_near a b = grind arith

both_near : (a b : ℤ) → nat_abs (a +ℤ b) ≤ nat_abs a + nat_abs b
both_near (pos a) (pos b) = omega arith
both_near (pos a) (negsuc b) = less_near a (suc b)
both_near (negsuc a) (pos b) = let le = less_near b (suc a) in omega (arith, le)
both_near (negsuc a) (negsuc b) = omega arith

pub sum_near : (a b : Option ℤ) (m n : ℕ) → IfSome a (IsNear m) → IfSome b (IsNear n) → IfSome (sum_of a b) (IsNear (m + n))
sum_near (Some a) (Some b) m n h k = let le = both_near a b in omega (arith, le, h, k)
sum_near (Some a) None m n h k = tt
sum_near None b m n h k = tt

sum_assoc : (a b c : Option ℤ) → sum_of (sum_of a b) c ≡ sum_of a (sum_of b c)
sum_assoc (Some a) (Some b) (Some c) = ap (λ (z : ℤ). Some z) (+ℤ_assoc a b c)
sum_assoc (Some a) (Some b) None = refl
sum_assoc (Some a) None c = refl
sum_assoc None b c = refl

-- no more is no further
pub sum_end : (a : Option ℤ) → sum_of a (Some (pos 0)) ≡ a
sum_end (Some a) = ap (λ (z : ℤ). Some z) (+ℤ_idr a)
sum_end None = refl

-- of no more than a million terms the sum has room in 128 bits
pub near_enough : (all : Option ℤ) (k n : ℕ) → k < n → n ≤ 2 ^ 20 → IfSome all (IsNear (2 ^ 124 + k * 2 ^ 103)) → IfSome all (IsNear (2 ^ 125))
near_enough all k n lt few h = near_more all (2 ^ 124 + k * 2 ^ 103) (2 ^ 125) (omega (arith, lt, few)) h

pub near_still : (all : Option ℤ) (k : ℕ) → IfSome all (IsNear (2 ^ 124 + k * 2 ^ 103 + 2 ^ 103)) → IfSome all (IsNear (2 ^ 124 + (k + 1) * 2 ^ 103))
near_still all k h = near_more all (2 ^ 124 + k * 2 ^ 103 + 2 ^ 103) (2 ^ 124 + (k + 1) * 2 ^ 103) (omega arith) h

-- ---- an operand

pub there_from : (p : Pools) (n : ℕ) (o : Origin) (l : LeafAt) → origin_of o ≡ leaf_of p l → HasPlace n l → IsIn n o
there_from p n (origin.Held place) (Held at) e h = let same : place ≡ at = cc in omega (arith, same, h)
there_from p n (origin.Held place) (Known at) e h = cc
there_from p n (origin.Known v) l e h = tt

-- ---- one term more

step : (gathered : Bool) (before after r rest : Option ℤ) → after ≡ (if gathered then before else sum_of before r) → sum_of after rest ≡ sum_of before (if gathered then rest else sum_of r rest)
step true before after r rest e = ap (λ (x : Option ℤ). sum_of x rest) e
step false before after r rest e = ap (λ (x : Option ℤ). sum_of x rest) e ∙ sum_assoc before r rest

pub reached_more : (p : Pools) (read : actions.Origin → Scalar) (ts : List Term) (k : ℕ) (d : Term) (before after : Option ℤ) → k < length ts
    → after ≡ (if (get_or ts k d).gathered then before else sum_of before (reach (read (leaf_of p (get_or ts k d).index)) (get_or ts k d).width (get_or ts k d).size))
    → sum_of after (others_reach p read (drop (k + 1) ts)) ≡ sum_of before (others_reach p read (drop k ts))
reached_more p read ts k d before after lt e =
    let t = get_or ts k d in
    step t.gathered before after (reach (read (leaf_of p t.index)) t.width t.size) (others_reach p read (drop (k + 1) ts)) e
    ∙ ap (λ (xs : List Term). sum_of before (others_reach p read xs)) (sym (drop_more ts k d lt))

-- ---- by whether a term is in the sum already

pub is_gathered : (gathered : Bool) (x y : Option ℤ) → gathered ≡ true → x ≡ (if gathered then x else y)
is_gathered true x y e = refl
is_gathered false x y e = absurd (false≢true e)

pub not_gathered : (gathered : Bool) (x y : Option ℤ) → gathered ≡ false → y ≡ (if gathered then x else y)
not_gathered true x y e = absurd (false≢true (sym e))
not_gathered false x y e = refl

-- ---- all of them

pub reached_all : (p : Pools) (read : actions.Origin → Scalar) (listed ts : List Term) (k : ℕ) (all : Option ℤ) (first total : ℤ) → length listed ≤ k → listed ≡ ts → first ≡ total
    → sum_of all (others_reach p read (drop k listed)) ≡ sum_of (Some first) (others_reach p read listed) → reach_of read (map (term_of p) ts) ≡ sum_of (Some total) (others_reach p read ts) → all ≡ reach_of read (map (term_of p) ts)
reached_all p read listed ts k all first total past here same so_far gathered =
    sym (sum_end all) ∙ ap (λ (xs : List Term). sum_of all (others_reach p read xs)) (sym (drop_all k listed past)) ∙ so_far
    ∙ (λ i. sum_of (Some (same i)) (others_reach p read (here i))) ∙ sym gathered
