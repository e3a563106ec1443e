-- Bodies that pend: that they stay fit, which is the first that does not, and one more of them.
use Rattle.std.proofs.Common.{◌≡◌, ◌⊎◌, inl, inr, ◌+◌, ◌≤◌, ◌<◌, ◌==◌, ℕ, suc, true, false, true≢false, List, [], ◌∷◌, ◌++◌, Some, None, length, slice_get, refl, sym, ap, subst, ◌∙◌, arith, All}
use Rattle.std.specs.Prelude.{Ok}
use Rattle.std.proofs.lemmas.Bool.{cases_lt, ne_eqb}
use Rattle.std.proofs.lemmas.List.{length_push, length-map}
use Rattle.std.proofs.lemmas.List.Elements.{All-push}
use Rattle.std.proofs.lemmas.Option.{slice_get_within}
use Rattle.type_table.specs.declared.ir_type.StructBody.{StructBody}
use Rattle.type_table.specs.Types.{Types, IsKnownBody, bodies, with_body}
use Rattle.type_table.specs.Batch.{StaysWithin, with_bodies}
use Rattle.type_table.proofs.Given.{bodies_behind}
use Rattle.module_arena.specs.Changes.{with_table}
use Rattle.module_arena.specs.Lists.{Lists}
use Rattle.record_table.specs.TypeRecords.{all_fit}
use Rattle.type_read.specs.declared.pending.Pending.{Pending}
use Rattle.type_read.specs.Listed.{IsUndefined}
use Rattle.type_read.specs.Pending.{ArePending, Gives, HoldsFit, HoldsMore, HoldsUnfit, IsFirstUnfit, IsPending, StaysFit, held}
use Rattle.type_read.proofs.Fits.{within_fits}

none_more : (n : ℕ) → n ≡ n + 0
none_more n = omega arith

one_later : (n m : ℕ) → suc n + m ≡ n + suc m
one_later n m = omega arith

-- what stays within the limits stays fit
pub stays_fit : (t : Types) (first : ℕ) (given : List StructBody) → StaysWithin t first given → StaysFit t first given
stays_fit t first [] w = tt
stays_fit t first (body ∷ given) w = (within_fits (with_body t first body) w.0, stays_fit (with_body t first body) (suc first) given w.1)

-- ---- one body more

bodies_push : (t : Types) (first : ℕ) (given : List StructBody) (body : StructBody)
    → with_bodies t first (given ++ body ∷ []) ≡ with_body (with_bodies t first given) (first + length given) body
bodies_push t first [] body = ap (λ n. with_body t n body) (none_more first)
bodies_push t first (b ∷ given) body =
    bodies_push (with_body t first b) (suc first) given body
    ∙ ap (λ n. with_body (with_bodies (with_body t first b) (suc first) given) n body) (one_later first (length given))

fits_push : (t : Types) (first : ℕ) (given : List StructBody) (body : StructBody) → StaysFit t first (given ++ body ∷ [])
    → StaysFit t first given × (all_fit (with_body (with_bodies t first given) (first + length given) body) ≡ true)
fits_push t first [] body s = (tt, subst (λ n. all_fit (with_body t n body) ≡ true) (none_more first) s.0)
fits_push t first (b ∷ given) body s =
    let rest = fits_push (with_body t first b) (suc first) given body s.1 in (
      (s.0, rest.0),
      subst (λ n. all_fit (with_body (with_bodies (with_body t first b) (suc first) given) n body) ≡ true) (one_later first (length given)) rest.1,
    )

unfit_push : (t : Types) (first : ℕ) (given : List StructBody) (body : StructBody) (at index : ℕ) → IsFirstUnfit t first (given ++ body ∷ []) at index
    → IsFirstUnfit t first given at index ⊎ (StaysFit t first given × (all_fit (with_body (with_bodies t first given) (first + length given) body) ≡ false) × (index ≡ at + length given))
unfit_push t first [] body at index (inl u) = inr (tt, subst (λ n. all_fit (with_body t n body) ≡ false) (none_more first) u.0, u.1 ∙ none_more at)
unfit_push t first [] body at index (inr u) = absurd u.1
unfit_push t first (b ∷ given) body at index (inl u) = inl (inl u)
unfit_push t first (b ∷ given) body at index (inr u) = by (unfit_push (with_body t first b) (suc first) given body (suc at) index u.1)
  where
    by : IsFirstUnfit (with_body t first b) (suc first) given (suc at) index
        ⊎ (StaysFit (with_body t first b) (suc first) given × (all_fit (with_body (with_bodies (with_body t first b) (suc first) given) (suc first + length given) body) ≡ false) × (index ≡ suc at + length given))
        → IsFirstUnfit t first (b ∷ given) at index
        ⊎ (StaysFit t first (b ∷ given) × (all_fit (with_body (with_bodies t first (b ∷ given)) (first + length (b ∷ given)) body) ≡ false) × (index ≡ at + length (b ∷ given)))
    by (inl w) = inl (inr (u.0, w))
    by (inr w) = inr (
      (u.0, w.0),
      subst (λ n. all_fit (with_body (with_bodies (with_body t first b) (suc first) given) n body) ≡ false) (one_later first (length given)) w.1,
      w.2 ∙ one_later at (length given),
    )

module _ (a : Lists) (before now : Pending) (body : StructBody) (more : HoldsMore before body now) where
  abbrev next : ℕ
  next = before.first + length before.bodies.items

  pub held_more : held a now ≡ with_table a (with_body (held a before).table next body)
  held_more =
      (λ j. with_table a (with_bodies a.table (more.first j) (more.bodies_are j)))
      ∙ ap (with_table a) (bodies_push a.table before.first before.bodies.items body)

  pub fits_more : HoldsFit a now → HoldsFit a before × (all_fit (with_body (held a before).table next body) ≡ true)
  fits_more h =
      fits_push a.table before.first before.bodies.items body
      (subst (λ n. StaysFit a.table n (before.bodies.items ++ body ∷ [])) more.first (subst (StaysFit a.table now.first) more.bodies_are h))

  pub unfit_more : (index : ℕ) → HoldsUnfit a now index
      → HoldsUnfit a before index ⊎ (HoldsFit a before × (all_fit (with_body (held a before).table next body) ≡ false) × (index ≡ before.at + length before.bodies.items))
  unfit_more index h =
      unfit_push a.table before.first before.bodies.items body before.at index
      (subst (λ n. IsFirstUnfit a.table before.first (before.bodies.items ++ body ∷ []) n index) more.at
      (subst (λ n. IsFirstUnfit a.table n (before.bodies.items ++ body ∷ []) now.at index) more.first
      (subst (λ bs. IsFirstUnfit a.table now.first bs now.at index) more.bodies_are h)))

  pub pending_more : IsPending a before → IsUndefined (held a before) next → IsKnownBody a.table body → IsPending a now
  pending_more p u known =
      let one = ap length more.bodies_are in
      let push = length_push before.bodies.items body in
      let first = more.first in
      record {
        known = subst (All (IsKnownBody a.table)) (sym more.bodies_are) (All-push (IsKnownBody a.table) before.bodies.items body p.known known);
        undefined = λ k le lt. by k (omega (arith, first, le)) (omega (arith, one, push, first, lt)) (cases_lt k next);
      }
    where
      by : (k : ℕ) → before.first ≤ k → k < suc next → (k < next) ⊎ (next ≤ k) → slice_get (bodies a.table) k ≡ Some None
      by k le lt (inl within) = p.undefined k le within
      by k le lt (inr past) =
          let same : k ≡ next = omega (arith, lt, past) in
          sym (bodies_behind a.table before.first before.bodies.items k past) ∙ ap (slice_get (bodies (held a before).table)) same ∙ u.1

-- nothing pends
pub gives_none : (a : Lists) (p : Pending) → p.bodies.items ≡ [] → Gives a p (Ok tt) a
gives_none a p none =
    (sym (ap (λ bs. with_table a (with_bodies a.table p.first bs)) none), subst (StaysFit a.table p.first) (sym none) tt)

-- where something pends, there are structs for all of it
pub fits_pending : (t : Types) (first : ℕ) (given : List StructBody) → (given ≡ [] → ⊥) → ArePending t first given → first + length given ≤ length t.structs
fits_pending t first [] some h = absurd (some refl)
fits_pending t first (body ∷ later) some h =
    let last = slice_get_within (bodies t) (first + length later) None (h.undefined (first + length later) (omega arith) (omega arith)) in
    let many = length-map t.structs (λ s. s.1) in
    omega (arith, last, many)

-- whether something pends
pub none_left : (given : List StructBody) → (length given == 0) ≡ true → given ≡ []
none_left [] e = refl
none_left (body ∷ later) e = absurd (true≢false (sym e ∙ ne_eqb (length (body ∷ later)) 0 (λ z. omega (arith, z))))

pub some_left : (given : List StructBody) → (length given == 0) ≡ false → given ≡ [] → ⊥
some_left given e none = true≢false (sym (ap (λ l. length l == 0) none) ∙ e)
