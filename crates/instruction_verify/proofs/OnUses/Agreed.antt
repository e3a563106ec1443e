-- Entries for one block are equal where each is equal to the last one before it.
use Rattle.std.proofs.Common.{◌≡◌, ◌≢◌, ℕ, suc, ◌+◌, ◌<◌, Bool, true, false, not, ◌&&◌, ◌||◌, List, [], ◌∷◌, length, set, get_or, slice_get, Some, refl, sym, ap, ◌∙◌, subst, inl, inr, arith}
use Rattle.std.specs.Prelude.{nat_lt, slice_index_or}
use Rattle.std.specs.List.{list_all}
use Rattle.std.proofs.lemmas.Bool.{and_parts, cases_eq, cases_lt, eq-eqb, eqb-true, ne_eqb, lt-ltb, ltb-true, false≢true}
use Rattle.std.proofs.lemmas.Grind.{get_or-set_at}
use Rattle.std.proofs.lemmas.List.{get_or-set_other}
use Rattle.std.proofs.lemmas.List.Folds.{list_all_at}
use Rattle.std.proofs.lemmas.Option.{slice_get-get_or, slice_get_within, get_or_from_slice_get, same_Some}
use Rattle.module_arena.specs.declared.instruction.Incoming.{Incoming}
use Rattle.module_arena.specs.declared.instruction.Value.{Value}
use Rattle.module_arena.specs.declared.instruction.Value.TheVariants as value
use Rattle.instruction_verify.specs.Uses.Agreeing.{agree_at, agree_both, agree_by, entries_agree_by, same_by}

-- ---- values

same_self : (cs : List ℕ) (v : Value) → same_by cs v v ≡ true
same_self cs (value.Local a) = eq-eqb a a refl
same_self cs (value.Known a) = eq-eqb (slice_index_or cs a 0) (slice_index_or cs a 0) refl

same_both : (cs : List ℕ) (x a b : Value) → same_by cs x a ≡ true → same_by cs x b ≡ true → same_by cs a b ≡ true
same_both cs (value.Local x) (value.Local a) (value.Local b) p q = eq-eqb a b (sym (eqb-true x a p) ∙ eqb-true x b q)
same_both cs (value.Local x) (value.Local a) (value.Known b) p q = absurd (false≢true q)
same_both cs (value.Local x) (value.Known a) b p q = absurd (false≢true p)
same_both cs (value.Known x) (value.Local a) b p q = absurd (false≢true p)
same_both cs (value.Known x) (value.Known a) (value.Local b) p q = absurd (false≢true q)
same_both cs (value.Known x) (value.Known a) (value.Known b) p q =
    let c = λ (k : ℕ). slice_index_or cs k 0 in
    eq-eqb (c a) (c b) (sym (eqb-true (c x) (c a) p) ∙ eqb-true (c x) (c b) q)

-- ---- lists

all_from : {X : Type 0} (p : X → Bool) (xs : List X) → ((k : ℕ) (x : X) → slice_get xs k ≡ Some x → p x ≡ true) → list_all p xs ≡ true
all_from p [] each = refl
all_from p (x ∷ xs) each = λ j. each 0 x refl j && all_from p xs (λ k y at. each (suc k) y at) j

module _ (classes : List ℕ) (incoming : List Incoming) where
  -- the entry with that number stands before, is for the same block, and has the same value
  abbrev pub IsLast : ℕ → ℕ → Incoming → Type 0
  IsLast bound k e = (k < bound) × (x : Incoming) × (slice_get incoming k ≡ Some x) × (x.block ≡ e.block) × (same_by classes x.value e.value ≡ true)

  -- each of the first entries has such a one for its block
  abbrev pub AreLast : ℕ → List ℕ → Type 0
  AreLast bound last = (j : ℕ) (e : Incoming) → j < bound → slice_get incoming j ≡ Some e → IsLast bound (slice_index_or last e.block 0) e

  same_checked : (k i : ℕ) (x y : Incoming) → k < i → slice_get incoming k ≡ Some x → slice_get incoming i ≡ Some y → x.block ≡ y.block
      → agree_at classes incoming k i ≡ same_by classes x.value y.value
  same_checked k i x y l p q same =
      (λ j. not (lt-ltb k i l j) || agree_both classes (p j) (q j)) ∙ ap (λ (t : Bool). not t || same_by classes x.value y.value) (eq-eqb x.block y.block same)

  broken : (k i : ℕ) (x y : Incoming) → slice_get incoming k ≡ Some x → slice_get incoming i ≡ Some y → agree_by classes x y ≡ false → entries_agree_by classes incoming ≡ false
  broken k i x y p q e =
      list_all_at (λ (a : Incoming). list_all (agree_by classes a) incoming) incoming k x (slice_get_within incoming k x p)
      (ap (λ (a : Incoming). list_all (agree_by classes a) incoming) (get_or_from_slice_get incoming k x x p)
      ∙ list_all_at (agree_by classes x) incoming i y (slice_get_within incoming i y q) (ap (agree_by classes x) (get_or_from_slice_get incoming i y y q) ∙ e))

  -- an entry that does not agree with an earlier one
  pub not_checked : (k i : ℕ) (y : Incoming) → slice_get incoming i ≡ Some y → agree_at classes incoming k i ≡ false → entries_agree_by classes incoming ≡ false
  not_checked k i y q e = by (nat_lt k i) refl
    where
      by : (t : Bool) → nat_lt k i ≡ t → entries_agree_by classes incoming ≡ false
      by false n = absurd (false≢true (sym e ∙ ap (λ (t : Bool). not t || agree_both classes (slice_get incoming k) (slice_get incoming i)) n))
      by true n =
          let here = ltb-true k i n in
          let within = slice_get_within incoming i y q in
          let p = slice_get-get_or incoming k y (omega (arith, here, within)) in
          broken k i (get_or incoming k y) y p q (sym (λ j. not (n j) || agree_both classes (p j) (q j)) ∙ e)

  module _ (i : ℕ) (y : Incoming) (at : slice_get incoming i ≡ Some y) (last : List ℕ) (known : y.block < length last) where
    -- one entry more agrees
    pub last_next : AreLast i last → agree_at classes incoming (slice_index_or last y.block 0) i ≡ true → AreLast (i + 1) (set last y.block i)
    last_next before checks j e l here = elim (cases_eq e.block y.block) [
      | inl same ↦
          let placed : get_or (set last y.block i) e.block 0 ≡ i = get_or-set_at last y.block e.block i 0 same known in
          subst (λ k. IsLast (i + 1) k e) (sym placed) (omega arith, y, at, sym same, equal same)
      | inr other ↦
          let placed : get_or (set last y.block i) e.block 0 ≡ get_or last e.block 0 = get_or-set_other last y.block e.block i 0 other in
          subst (λ k. IsLast (i + 1) k e) (sym placed) (kept other)
    ]
      where
        equal : e.block ≡ y.block → same_by classes y.value e.value ≡ true
        equal same = elim (cases_lt j i) [
          | inl less ↦
              let r = before j e less here in
              let k : slice_index_or last e.block 0 ≡ slice_index_or last y.block 0 = ap (λ n. slice_index_or last n 0) same in
              let s = same_checked (slice_index_or last e.block 0) i r.1 y r.0 r.2 at (r.3 ∙ same) in
              same_both classes r.1.value y.value e.value (sym s ∙ ap (λ n. agree_at classes incoming n i) k ∙ checks) r.4
          | inr more ↦
              let is : j ≡ i = omega (arith, l, more) in
              let own : y ≡ e = same_Some y e (sym at ∙ ap (slice_get incoming) (sym is) ∙ here) in
              ap (λ (z : Incoming). same_by classes y.value z.value) (sym own) ∙ same_self classes y.value
        ]

        kept : e.block ≢ y.block → IsLast (i + 1) (slice_index_or last e.block 0) e
        kept other = elim (cases_lt j i) [
          | inl less ↦ let r = before j e less here in (omega (arith, r.0), r.1, r.2, r.3, r.4)
          | inr more ↦
              let is : j ≡ i = omega (arith, l, more) in
              let own : y ≡ e = same_Some y e (sym at ∙ ap (slice_get incoming) (sym is) ∙ here) in
              absurd (other (ap (λ (z : Incoming). z.block) (sym own)))
        ]

    -- the same, for the answer so far
    pub lasts_kept : (agree check : Bool) → check ≡ agree_at classes incoming (slice_index_or last y.block 0) i → (agree ≡ true → AreLast i last) → (agree && check) ≡ true → AreLast (i + 1) (set last y.block i)
    lasts_kept agree check is before e =
        let p = and_parts agree check e in
        last_next (before p.0) (sym is ∙ p.1)

    pub fails_kept : (agree check : Bool) → check ≡ agree_at classes incoming (slice_index_or last y.block 0) i → (agree ≡ false → entries_agree_by classes incoming ≡ false) → (agree && check) ≡ false → entries_agree_by classes incoming ≡ false
    fails_kept true check is before e = not_checked (slice_index_or last y.block 0) i y at (sym is ∙ e)
    fails_kept false check is before e = before refl

  -- where all agree, entries for one block are equal
  pub all_agree : (last : List ℕ) → AreLast (length incoming) last → entries_agree_by classes incoming ≡ true
  all_agree last lasts =
      all_from (λ (a : Incoming). list_all (agree_by classes a) incoming) incoming (λ p a at_a.
      all_from (agree_by classes a) incoming (λ q b at_b. pair p a at_a q b at_b))
    where
      pair : (p : ℕ) (a : Incoming) → slice_get incoming p ≡ Some a → (q : ℕ) (b : Incoming) → slice_get incoming q ≡ Some b → agree_by classes a b ≡ true
      pair p a at_a q b at_b = elim (cases_eq a.block b.block) [
        | inl same ↦
            let r = lasts p a (slice_get_within incoming p a at_a) at_a in
            let s = lasts q b (slice_get_within incoming q b at_b) at_b in
            let one : r.1 ≡ s.1 = same_Some r.1 s.1 (sym r.2 ∙ ap (λ n. slice_get incoming (slice_index_or last n 0)) same ∙ s.2) in
            let equal = same_both classes s.1.value a.value b.value (ap (λ (z : Incoming). same_by classes z.value a.value) (sym one) ∙ r.4) s.4 in
            (λ j. not (eq-eqb a.block b.block same j) || equal j)
        | inr other ↦ ap (λ (t : Bool). not t || same_by classes a.value b.value) (ne_eqb a.block b.block other)
      ]

-- what the answer on all tells
pub told_by : (classes : List ℕ) (incoming : List Incoming) (last : List ℕ) (agree : Bool) → (agree ≡ true → AreLast classes incoming (length incoming) last) → (agree ≡ false → entries_agree_by classes incoming ≡ false)
    → agree ≡ entries_agree_by classes incoming
told_by classes incoming last true lasts fails = sym (all_agree classes incoming last (lasts refl))
told_by classes incoming last false lasts fails = sym (fails refl)
