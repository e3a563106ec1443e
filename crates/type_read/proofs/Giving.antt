-- Bodies that are given to their structs one after another.
use Rattle.std.proofs.Common.{◌≡◌, inl, inr, ◌+◌, ◌≤◌, ℕ, suc, true, false, List, [], ◌∷◌, None, length, refl, sym, subst, arith}
use Rattle.std.proofs.lemmas.List.{length-map}
use Rattle.std.proofs.lemmas.List.Elements.{All-head, All-tail}
use Rattle.std.proofs.lemmas.Option.{slice_get_within}
use Rattle.type_table.specs.declared.ir_type.StructBody.{StructBody}
use Rattle.type_table.specs.Types.{Types, IsKnownBody, bodies, with_body}
use Rattle.type_table.specs.Batch.{with_bodies}
use Rattle.type_table.proofs.Given.{still_undefined}
use Rattle.module_arena.specs.Changes.{with_table}
use Rattle.module_arena.specs.Lists.{Lists}
use Rattle.record_table.specs.TypeRecords.{all_fit}
use Rattle.type_read.specs.declared.pending.Pending.{Pending}
use Rattle.type_read.specs.Listed.{IsUndefined}
use Rattle.type_read.specs.Pending.{ArePending, HoldsFit, HoldsUnfit, IsFirstUnfit, IsPending, StaysFit, held}

-- from this number and record on, these are still to be given
pub record IsGiving (a0 : Lists) (p : Pending) (a : Lists) (number index : ℕ) (rest : List StructBody) : Type 0 where
  pub same : with_table a (with_bodies a.table number rest) ≡ held a0 p
  pub stays : StaysFit a.table number rest → HoldsFit a0 p
  pub unfit : (k : ℕ) → IsFirstUnfit a.table number rest index k → HoldsUnfit a0 p k
  pub pending : ArePending a.table number rest
  pub few : index + length rest ≡ p.at + length p.bodies.items

pub giving_starts : (a : Lists) (p : Pending) (rest : List StructBody) → rest ≡ p.bodies.items → IsPending a p → IsGiving a p a p.first p.at rest
giving_starts a p rest is pends =
    subst (IsGiving a p a p.first p.at) (sym is) (record { same = refl; stays = λ h. h; unfit = λ k u. u; pending = pends; few = refl })

pending_next : (t : Types) (first : ℕ) (body : StructBody) (later : List StructBody) → ArePending t first (body ∷ later) → ArePending (with_body t first body) (suc first) later
pending_next t first body later h = record {
  known = All-tail (IsKnownBody t) body later h.known;
  undefined = still_undefined t first body (length later) h.undefined;
}

module _ (a0 : Lists) (p : Pending) (a : Lists) (number index : ℕ) (body : StructBody) (later : List StructBody) where
  giving_core : IsGiving a0 p a number index (body ∷ later) → all_fit (with_body a.table number body) ≡ true
      → IsGiving a0 p (with_table a (with_body a.table number body)) (suc number) (suc index) later
  giving_core g fits =
      let few = g.few in
      record {
        same = g.same;
        stays = λ h. g.stays (fits, h);
        unfit = λ k u. g.unfit k (inr (fits, u));
        pending = pending_next a.table number body later g.pending;
        few = omega (arith, few);
      }

  module _ (rest : List StructBody) (taken : rest ≡ body ∷ later) (g : IsGiving a0 p a number index rest) where
    here : IsGiving a0 p a number index (body ∷ later)
    here = subst (IsGiving a0 p a number index) taken g

    pub giving_next : (new : Lists) → new ≡ with_table a (with_body a.table number body) → all_fit (with_body a.table number body) ≡ true → IsGiving a0 p new (number + 1) (index + 1) later
    giving_next new is fits =
        let m : suc number ≡ number + 1 = omega arith in
        let n : suc index ≡ index + 1 = omega arith in
        subst (λ x. IsGiving a0 p x (number + 1) (index + 1) later) (sym is)
        (subst (λ k. IsGiving a0 p (with_table a (with_body a.table number body)) k (index + 1) later) m
        (subst (λ k. IsGiving a0 p (with_table a (with_body a.table number body)) (suc number) k later) n (giving_core here fits)))

    pub giving_known : IsKnownBody a.table body
    giving_known = All-head (IsKnownBody a.table) body later here.pending.known

    pub giving_undefined : IsUndefined a number
    giving_undefined =
        let none = here.pending.undefined number (omega arith) (omega arith) in
        let within = slice_get_within (bodies a.table) number None none in
        let many = length-map a.table.structs (λ s. s.1) in
        (omega (arith, within, many), none)

    -- the next record is no further than the last
    pub giving_few : index + 1 ≤ p.at + length p.bodies.items
    giving_few = let few = here.few in omega (arith, few)

    pub giving_unfit : all_fit (with_body a.table number body) ≡ false → HoldsUnfit a0 p index
    giving_unfit unfits = here.unfit index (inl (unfits, refl))

-- all are given
pub giving_ends : (a0 : Lists) (p : Pending) (a : Lists) (number index : ℕ) (rest : List StructBody) → length rest ≡ 0 → IsGiving a0 p a number index rest → (a ≡ held a0 p) × HoldsFit a0 p
giving_ends a0 p a number index [] none g = (g.same, g.stays tt)
giving_ends a0 p a number index (body ∷ later) none g = absurd (omega (arith, none))
