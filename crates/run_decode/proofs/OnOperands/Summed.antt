-- Terms of which those are gathered whose index is known, and how far they reach.
use Rattle.std.proofs.Common.{◌≡◌, ℕ, suc, ◌+◌, ◌-◌, ◌*◌, ◌%◌, ◌^◌, ◌<◌, ◌≤◌, Bool, List, [], ◌∷◌, ◌++◌, All, length, take, drop, get_or, map, Option, Some, None, ℤ, pos, ◌+ℤ◌, inl, inr, refl, sym, ap, ◌∙◌, subst, arith, zero-add}
use Rattle.std.specs.Prelude.{slice_get, if◌then◌else◌, ◌-ℤ◌, ◌*ℤ◌, nat_abs}
use Rattle.std.specs.Option.{option_map_or}
use Rattle.std.proofs.Math.IntN.{+ℤ_assoc, +ℤ_comm}
use Rattle.std.proofs.Math.Pow.{pow_mono}
use Rattle.std.proofs.Math.Seq.{take-suc}
use Rattle.std.proofs.lemmas.Bool.{cases_lt, le-ltb, lt-ltb}
use Rattle.std.proofs.lemmas.List.{at_drop_all, at_drop_more, length-append, map-append}
use Rattle.std.proofs.lemmas.List.Elements.{All-push}
use Rattle.ir_eval.specs.Value.{reduced, signed}
use Rattle.ir_eval.specs.declared.value.Scalar.{Scalar}
use Rattle.ir_eval.specs.declared.value.Scalar.TheVariants as scalar
use Rattle.type_table.specs.declared.measure.TheConstants.{SIZE_LIMIT}
use Rattle.run_rules.specs.Action as actions
use Rattle.run_rules.specs.Displace.{reach, reach_of, sum_of}
use Rattle.run_actions.specs.declared.stack.origin.Origin.{Origin}
use Rattle.run_actions.specs.declared.stack.origin.Origin.TheVariants.{Held, Known}
use Rattle.run_actions.specs.Stack.Origins.{origin_of}
use Rattle.run_decode.specs.declared.operands.counted.TheConstants.{NO_SIGN_BELOW}
use Rattle.run_decode.specs.declared.operands.steps.Step.{Step}
use Rattle.run_decode.specs.Operands.Steps as steps
use Rattle.run_decode.specs.declared.flat.action.TheConstants.{TERMS}
use Rattle.run_decode.specs.declared.flat.action.Term.{Term}
use Rattle.run_decode.specs.declared.flat.leaf.Span.{Span}
use Rattle.run_decode.specs.declared.flat.pools.Pools.{Pools}
use Rattle.run_decode.specs.Flat.Flat.{IsGathered, IsTermIn, leaf_of, others_reach, term_of}
use Rattle.run_decode.specs.Flat.Grown.{AreTerms, Grows}
use Rattle.run_decode.specs.Flat.Spans.{IsBetween}
use Rattle.run_decode.proofs.OnFlat.Growth.{adds_then, sums_add, terms_add, terms_in_stay, terms_same}
use Rattle.run_decode.proofs.OnFlat.Spanned.{between_in, spanned_more}
use Rattle.run_decode.specs.Operands.Open.{AreOpen, IsOpen, count_at, index_count, is_counted, led, led_by}
use Rattle.run_decode.proofs.OnOperands.Stands.{pushed_at}

-- ---- sums of distances

sums_joined : (m k : ℕ) (o : Option ℤ) → sum_of (Some (pos m)) (sum_of (Some (pos k)) o) ≡ sum_of (Some (pos (m + k))) o
sums_joined m k (Some z) = ap (λ (x : ℤ). Some x) (sym (+ℤ_assoc (pos m) (pos k) z))
sums_joined m k None = refl

sums_turned : (a : ℤ) (r o : Option ℤ) → sum_of r (sum_of (Some a) o) ≡ sum_of (Some a) (sum_of r o)
sums_turned a (Some r) (Some o) = ap (λ (x : ℤ). Some x) (sym (+ℤ_assoc r a o) ∙ ap (λ (x : ℤ). x +ℤ o) (+ℤ_comm r a) ∙ +ℤ_assoc a r o)
sums_turned a (Some r) None = refl
sums_turned a None (Some o) = refl
sums_turned a None None = refl

-- ---- how far a step leads whose index is known

pub led_some : (s : Step) (n : ℕ) → count_at s.index s.width ≡ Some n → led s ≡ n * s.size
unfolding led
led_some s n e = ap (λ (o : Option ℕ). option_map_or (λ (count : ℕ). count * s.size) o 0) e

pub led_none : (s : Step) → count_at s.index s.width ≡ None → led s ≡ 0
unfolding led
led_none s e = ap (λ (o : Option ℕ). option_map_or (λ (count : ℕ). count * s.size) o 0) e

-- a number without a sign, of at most 64 bits, counts as it is
counted : (n width size : ℕ) → n < NO_SIGN_BELOW → 32 ≤ width → reach (scalar.Int n) width size ≡ Some (pos (n * size))
counted n width size small wide =
    let enough : 31 ≤ width - 1 = omega (arith, wide) in
    let most : 2 ^ 31 ≤ 2 ^ (width - 1) = pow_mono enough in
    let first = lt-ltb n (2 ^ (width - 1)) (omega (arith, small, most)) in
    let whole : n % 2 ^ 64 ≡ n = omega (arith, small) in
    let again = lt-ltb n (2 ^ 63) (omega (arith, small)) in
    ap (λ (b : Bool). Some (signed 64 (reduced 64 (if b then pos n else pos n -ℤ pos (2 ^ width))) *ℤ pos size)) first
    ∙ ap (λ (m : ℕ). Some (signed 64 m *ℤ pos size)) whole
    ∙ ap (λ (b : Bool). Some ((if b then pos n else pos n -ℤ pos (2 ^ 64)) *ℤ pos size)) again

module _ (read : actions.Origin → Scalar) (known : (leaf : Scalar) → read (actions.Known leaf) ≡ leaf) where
  wide_reach : (index : Origin) (width size n : ℕ) → 32 ≤ width → index_count index ≡ Some n → reach (read (origin_of index)) width size ≡ Some (pos (n * size))
  wide_reach (Held place) width size n wide e = absurd (cc)
  wide_reach (Known (scalar.Int m)) width size n wide e =
      elim (cases_lt m NO_SIGN_BELOW) [
        | inl small ↦
            let h = rw (lt-ltb m NO_SIGN_BELOW small) at e in
            let same : m ≡ n = cc in
            ap (λ (v : Scalar). reach v width size) (known (scalar.Int m)) ∙ counted m width size small wide ∙ ap (λ (k : ℕ). Some (pos (k * size))) same
        | inr large ↦ let h = rw (le-ltb m NO_SIGN_BELOW large) at e in absurd (cc)
      ]
  wide_reach (Known (scalar.Ptr p)) width size n wide e = absurd (cc)
  wide_reach (Known scalar.Poison) width size n wide e = absurd (cc)

  count_reach : (index : Origin) (width size n : ℕ) → count_at index width ≡ Some n → reach (read (origin_of index)) width size ≡ Some (pos (n * size))
  count_reach index width size n e =
      elim (cases_lt width 32) [
        | inl narrow ↦ let h = rw (lt-ltb width 32 narrow) at e in absurd (cc)
        | inr wide ↦ wide_reach index width size n wide (rw (le-ltb width 32 wide) at e)
      ]

-- ---- terms of which those are gathered whose index is known

module _ (p : Pools) (read : actions.Origin → Scalar) (known : (leaf : Scalar) → read (actions.Known leaf) ≡ leaf) where
  other_more : (s : Step) (t : Term) (ts : List Term) (rest : ℕ) (count : Option ℕ) → term_of p t ≡ steps.term_of s → count_at s.index s.width ≡ count → t.gathered ≡ is_counted count
      → reach_of read (map (term_of p) ts) ≡ sum_of (Some (pos rest)) (others_reach p read ts) → reach_of read (map (term_of p) (t ∷ ts)) ≡ sum_of (Some (pos (led s + rest))) (others_reach p read (t ∷ ts))
  other_more s t ts rest None means count gathered e =
      let r = reach (read (leaf_of p t.index)) t.width t.size in
      let total : rest ≡ led s + rest = sym (zero-add rest) ∙ ap (λ (k : ℕ). k + rest) (sym (led_none s count)) in
      ap (sum_of r) e
      ∙ sums_turned (pos rest) r (others_reach p read ts)
      ∙ ap (λ (k : ℕ). sum_of (Some (pos k)) (sum_of r (others_reach p read ts))) total
      ∙ ap (λ (b : Bool). sum_of (Some (pos (led s + rest))) (if b then others_reach p read ts else sum_of r (others_reach p read ts))) (sym gathered)
  other_more s t ts rest (Some n) means count gathered e =
      let r = reach (read (leaf_of p t.index)) t.width t.size in
      let there : r ≡ Some (pos (n * s.size)) = ap (λ (x : actions.Term). reach (read x.index) x.width x.size) means ∙ count_reach read known s.index s.width s.size n count in
      let total : n * s.size + rest ≡ led s + rest = ap (λ (k : ℕ). k + rest) (sym (led_some s n count)) in
      (λ i. sum_of (there i) (e i))
      ∙ sums_joined (n * s.size) rest (others_reach p read ts)
      ∙ ap (λ (k : ℕ). sum_of (Some (pos k)) (others_reach p read ts)) total
      ∙ ap (λ (b : Bool). sum_of (Some (pos (led s + rest))) (if b then others_reach p read ts else sum_of r (others_reach p read ts))) (sym gathered)

  others_all : (ss : List Step) (ts : List Term) → map (term_of p) ts ≡ map steps.term_of ss → map (λ (t : Term). t.gathered) ts ≡ map (λ (s : Step). is_counted (count_at s.index s.width)) ss
      → reach_of read (map (term_of p) ts) ≡ sum_of (Some (pos (led_by ss))) (others_reach p read ts)
  others_all [] [] e g = refl
  others_all (s ∷ ss) [] e g = cc
  others_all [] (t ∷ ts) e g = cc
  others_all (s ∷ ss) (t ∷ ts) e g =
      let means : term_of p t ≡ steps.term_of s = cc in
      let more : map (term_of p) ts ≡ map steps.term_of ss = cc in
      let gathered : t.gathered ≡ is_counted (count_at s.index s.width) = cc in
      let others : map (λ (t : Term). t.gathered) ts ≡ map (λ (s : Step). is_counted (count_at s.index s.width)) ss = cc in
      other_more s t ts (led_by ss) (count_at s.index s.width) means refl gathered (others_all ss ts more others)

open_gathered : (p : Pools) (ss : List Step) (ts : List Term) → map (term_of p) ts ≡ map steps.term_of ss → map (λ (t : Term). t.gathered) ts ≡ map (λ (s : Step). is_counted (count_at s.index s.width)) ss → IsGathered p ts (pos (led_by ss))
open_gathered p ss ts e g = λ read known. others_all p read known ss ts e g

-- one step more
pub led_more : (ss : List Step) (k : ℕ) (x d : Step) (all bytes : ℕ) → k < length ss → x ≡ get_or ss k d → bytes ≡ led x → all + led_by (drop k ss) ≡ led_by ss → all + bytes + led_by (drop (k + 1) ss) ≡ led_by ss
led_more ss k x d all bytes lt is e h =
    let behind : led_by (drop k ss) ≡ led (get_or ss k d) + led_by (drop (k + 1) ss) = at_drop_more led_by ss k d lt in
    let same : bytes ≡ led (get_or ss k d) = e ∙ ap led is in
    omega (arith, behind, same, h)

-- no step more
pub led_all : (ss : List Step) (k all : ℕ) → length ss ≤ k → all + led_by (drop k ss) ≡ led_by ss → all ≡ led_by ss
led_all ss k all past h = let none : led_by (drop k ss) ≡ 0 = at_drop_all led_by ss k past in omega (arith, none, h)

-- one more
pub open_more : (p q : Pools) (ss : List Step) (k : ℕ) (x d : Step) (ts : List Term) (t : Term) → Grows p q → k < length ss → x ≡ get_or ss k d → IsOpen q x t → AreOpen p (take k ss) ts → AreOpen q (take (k + 1) ss) (ts ++ t ∷ [])
open_more p q ss k x d ts t g lt is o h =
    let count : k + 1 ≡ suc k = omega arith in
    let front : take (k + 1) ss ≡ take k ss ++ x ∷ [] = ap (λ (n : ℕ). take n ss) count ∙ take-suc ss k d lt ∙ ap (λ (y : Step). take k ss ++ y ∷ []) (sym is) in
    record {
      within = All-push (IsTermIn q) ts t (terms_in_stay p q g ts h.within) o.within;
      means =
          map-append (term_of q) ts (t ∷ [])
          ∙ (λ j. (terms_same p q g ts h.within ∙ h.means) j ++ o.means j ∷ [])
          ∙ sym (ap (map steps.term_of) front ∙ map-append steps.term_of (take k ss) (x ∷ []));
      apart =
          map-append (λ (y : Term). y.gathered) ts (t ∷ [])
          ∙ (λ j. h.apart j ++ o.apart j ∷ [])
          ∙ sym (ap (map (λ (y : Step). is_counted (count_at y.index y.width))) front ∙ map-append (λ (y : Step). is_counted (count_at y.index y.width)) (take k ss) (x ∷ []));
      small = All-push (λ (y : Term). y.size ≤ SIZE_LIMIT) ts t h.small o.small;
    }

pub open_none : (p : Pools) (ss : List Step) → AreOpen p (take 0 ss) []
open_none p ss = record { within = λ k d lt. absurd (omega (arith, lt)); means = refl; apart = refl; small = λ k d lt. absurd (omega (arith, lt)) }

-- terms that were put, with the sum of those that are gathered
pub terms_put : (p : Pools) (all : List Term) (sums : List ℤ) (total : ℤ) (ss : List Step) (terms : List Term) (span : Span) (sum : ℕ) (meant : List actions.Term) → AreOpen p ss terms → all ≡ p.terms ++ terms → IsBetween (length p.terms) (length all) span
    → sums ≡ p.sums ++ total ∷ [] → total ≡ pos (led_by ss) → led_by ss ≤ TERMS * (NO_SIGN_BELOW * SIZE_LIMIT) → sum ≡ length p.sums → length terms ≤ TERMS → map steps.term_of ss ≡ meant → AreTerms (record p { terms = all; sums = sums }) span sum meant
terms_put p all sums total ss terms span sum meant o e between last is small place few same =
    let q : Pools = record p { terms = all; sums = sums } in
    let middle : Pools = record p { terms = all } in
    let grown = (adds_then p middle q (terms_add p all (terms, e)) (sums_add middle sums (total ∷ [], last))).grows in
    let here = spanned_more p.terms terms all span e between in
    let many = ap length e ∙ length-append p.terms terms in
    let begins = between.begins in
    let ends = between.ends in
    let reached : IsGathered q terms (pos (led_by ss)) = open_gathered q ss terms (terms_same p q grown terms o.within ∙ o.means) o.apart in
    let far : nat_abs (pos (led_by ss)) ≤ 2 ^ 124 = omega (arith, small) in
    record {
      within = record {
        total = total;
        total_there = ap (λ (l : List ℤ). slice_get l sum) last ∙ pushed_at p.sums total sum place;
        terms_there = between_in all (length p.terms) span between;
        leaves = subst (All (IsTermIn q)) (sym here) (terms_in_stay p q grown terms o.within);
        gathered = subst (λ (ts : List Term). IsGathered q ts total) (sym here) (subst (IsGathered q terms) (sym is) reached);
        near = subst (λ (z : ℤ). nat_abs z ≤ 2 ^ 124) (sym is) far;
        few = omega (arith, many, begins, ends, few);
        sizes = subst (All (λ (t : Term). t.size ≤ SIZE_LIMIT)) (sym here) o.small;
      };
      means = ap (map (term_of q)) here ∙ terms_same p q grown terms o.within ∙ o.means ∙ same;
    }
