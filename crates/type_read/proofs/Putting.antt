-- The record of a struct: its body pends, or the record is refused, or what pends already.
use Rattle.std.proofs.Common.{◌≡◌, ◌⊎◌, inl, inr, ◌-◌, ◌+◌, ℕ, suc, Bool, true, false, List, [], ◌∷◌, Option, Some, None, length, refl, sym, ap, subst, ◌∙◌, arith}
use Rattle.std.specs.Prelude.{nat_lt, is_some, Result, Ok, Err}
use Rattle.std.proofs.lemmas.List.{length_push}
use Rattle.type_table.specs.declared.ir_type.StructBody.{StructBody}
use Rattle.type_table.specs.Types.{Types, IsGood, IsKnownBody, KnowsBody, with_body}
use Rattle.module_arena.specs.Changes.{with_table}
use Rattle.module_arena.specs.Lists.{Lists}
use Rattle.module_arena.specs.Module.{Bytes}
use Rattle.record_table.specs.Fields.{Texts}
use Rattle.record_table.specs.Walk.{Walk, going, stopped, told}
use Rattle.record_table.specs.Layout.{judged}
use Rattle.record_table.specs.Faults.{Answer, BadRecord, also, types_id, unless_broken}
use Rattle.record_table.specs.TypeRecords.{Listed, all_fit, definition, struct_record}
use Rattle.record_read.specs.Reader.{FinishesBy, IsBrokenBy, Reader, also_asked, is_broken}
use Rattle.record_read.specs.Faults.{Answers, Finishes}
use Rattle.record_read.specs.declared.fault.BitcodeFault.{BitcodeFault}
use Rattle.record_read.specs.declared.fault.BitcodeFault.TheVariants as fault
use Rattle.type_read.specs.declared.definition.StructDefinition.{StructDefinition}
use Rattle.type_read.specs.declared.pending.Pending.{Pending}
use Rattle.type_read.specs.declared.structs.StructNames.{StructNames}
use Rattle.type_read.specs.Fields.{IsDefinition}
use Rattle.type_read.specs.Listed.{AddsType, AreSoFar, IsMore, IsOn, IsUndefined, NamesNext}
use Rattle.type_read.specs.Pending.{HoldsFit, HoldsMore, HoldsUnfit, IsCounted, IsPending, Puts, PutsBody, PutsRecord, asked_fit, held}
use Rattle.type_read.proofs.Holding.{fits_more, held_more, pending_more, unfit_more}
use Rattle.type_read.proofs.Recording.{struct_after, struct_held, struct_none, struct_some}

-- ---- what finishing a record tells

-- the refusals of the record in front
abbrev tells : Reader → ℕ → BitcodeFault → Type 0
tells r rule given = given ≡ fault.BadRecord types_id (r.at - 1) rule

told_none : (P : ℕ → BitcodeFault → Type 0) (o : Option ℕ) (done : Unit {0}) → FinishesBy P o (Ok done) → o ≡ None
told_none P None done f = refl
told_none P (Some r) done f = absurd f

pub finished_none : (r : Reader) → Finishes types_id r (Ok tt) → told r.walk ≡ None
finished_none r fin = told_none (tells r) (told r.walk) tt fin

-- what is broken is told, also where all fits
still_told : (P : ℕ → BitcodeFault → Type 0) (b : Bool) (w : Walk) (done : Unit {0}) → is_broken w ≡ true → FinishesBy P (told (also_asked 7 b w)) (Ok done) → ⊥
still_told P true (going [] None) done e f = absurd (cc)
still_told P true (going [] (Some r)) done e f = f
still_told P true (going (n ∷ rest) None) done e f = f
still_told P true (going (n ∷ rest) (Some r)) done e f = f
still_told P true (stopped None) done e f = absurd (cc)
still_told P true (stopped (Some r)) done e f = f
still_told P false (going [] None) done e f = f
still_told P false (going [] (Some r)) done e f = f
still_told P false (going (n ∷ rest) None) done e f = f
still_told P false (going (n ∷ rest) (Some r)) done e f = f
still_told P false (stopped None) done e f = f
still_told P false (stopped (Some r)) done e f = f

-- an operand that is left is told, also where not all fits
spent_too : (P : ℕ → BitcodeFault → Type 0) (b : Bool) (w : Walk) (given : BitcodeFault) → is_broken w ≡ false → FinishesBy P (told w) (Err given) → FinishesBy P (told (also_asked 7 b w)) (Err given)
spent_too P true w given e f = f
spent_too P false (going [] None) given e f = absurd f
spent_too P false (going [] (Some r)) given e f = absurd (cc)
spent_too P false (going (n ∷ rest) None) given e f = f
spent_too P false (going (n ∷ rest) (Some r)) given e f = absurd (cc)
spent_too P false (stopped None) given e f = absurd f
spent_too P false (stopped (Some r)) given e f = absurd (cc)

module _ (old : Lists) (p : Pending) (number : ℕ) (body : StructBody) (r : Reader) where
  -- a record that broke a rule before it was asked what fits
  pub put_broken : (r3 : Reader) (mid new : Lists) (now : Pending) (result : Result (Unit {0}) BitcodeFault) → mid ≡ held old p → HoldsFit old p → is_broken r.walk ≡ true
      → AddsType (with_body mid.table number body) mid r (Ok tt) new r3 → Finishes types_id r3 result → PutsBody old p number body r result new now
  put_broken r3 mid new now (Ok done) is fit broken add fin =
      absurd (still_told (tells r) (all_fit (with_body mid.table number body)) r.walk done broken (subst (λ (x : Reader). Finishes types_id x (Ok done)) add.1 fin))
  put_broken r3 mid new now (Err given) is fit broken add fin =
      inr (fit, subst (λ (m : Lists). Finishes types_id (asked_fit m number body r) (Err given)) is (subst (λ (x : Reader). Finishes types_id x (Err given)) add.1 fin))

  -- a record that broke none, and of which an operand is left
  pub put_spent : (new : Lists) (now : Pending) (given : BitcodeFault) → HoldsFit old p → is_broken r.walk ≡ false → Finishes types_id r (Err given) → PutsBody old p number body r (Err given) new now
  put_spent new now given fit whole fin = inr (fit, spent_too (tells r) (all_fit (with_body (held old p).table number body)) r.walk given whole fin)

-- ---- what is answered

pub answers_err : {A B C : Type 0} (M : B → A → Type 0) (N : C → A → Type 0) (answer : Answer A) (given : BitcodeFault) → Answers M answer (Err given) → Answers N answer (Err given)
answers_err M N (Ok v) given h = h
answers_err M N (Err told) given h = h

never_ok : {A : Type 0} (answer : Answer A) (done : Unit {0}) → Answers {A = A} {B = Unit {0}} (λ _ _. ⊥) answer (Ok done) → ⊥
never_ok (Ok v) done h = h
never_ok (Err told) done h = h

module _ (old : Lists) (p : Pending) (found : StructNames) (all later : List Bytes) (s : Listed) (operands : List ℕ) (r0 r1 : Reader) (on : IsOn (held old p) found all r0 operands s) (good : IsGood (held old p).table)
    (count number : ℕ) (made : StructDefinition) (counts : count ≡ length (held old p).table.types) (place_is : number ≡ length s.names)
    (read : r1 ≡ record r0 { walk = ((definition s.texts count).read r0.walk).1 }) (kept : IsDefinition s.texts count r0.walk made)
    (so_far : AreSoFar found all s ((judged (definition s.texts (length s.types.types)) operands).0.1 ∷ later))
    (named counted : Reader) (asks : NamesNext found number (is_some made.name) r1 named) (is : counted ≡ record named { walk = also_asked 7 (nat_lt number 0x4_0000) named.walk }) (at : counted.at ≡ suc s.at) where
  abbrev answer : Answer Listed
  answer = struct_record s (judged (definition s.texts (length s.types.types)) operands)

  -- no body was read
  pub put_none : (result : Result (Unit {0}) BitcodeFault) (new : Lists) (now : Pending) → made.body ≡ None → IsBrokenBy 3 ((definition s.texts (length s.types.types)).read (going operands None)).1 → HoldsFit old p
      → Finishes types_id counted result → Puts (λ _. number + 1) old p found all later s answer result new now
  put_none result new now has low fit fin =
      by result (struct_none (held old p) (held old p) found all later s operands r0 r1 r0 r0 on good count number made counts place_is read kept so_far named counted result has asks is at low fin)
    where
      by : (result : Result (Unit {0}) BitcodeFault) → Answers {B = Unit {0}} (λ _ _. ⊥) answer result → Puts (λ _. number + 1) old p found all later s answer result new now
      by (Ok done) h = absurd (never_ok answer done h)
      by (Err given) h = inr (fit, h)

  module _ (body : StructBody) (has : made.body ≡ Some body) (known : IsKnownBody old.table body) (pends : IsPending old p) (undefined : IsUndefined (held old p) number)
      (numbers : IsCounted p number (r0.at - 1)) where
    abbrev after : Lists
    after = with_table (held old p) (with_body (held old p).table number body)

    abbrev u : Listed
    u = struct_after (held old p) after found all later s operands r0 r1 r0 r0 on good count number made counts place_is read kept so_far

    number_is : number ≡ p.first + length p.bodies.items
    number_is = numbers.number

    held_now : (now : Pending) → HoldsMore p body now → held old now ≡ after
    held_now now more = held_more old p now body more ∙ ap (λ n. with_table old (with_body (held old p).table n body)) (sym number_is)

    put_more : (now : Pending) → HoldsMore p body now → told counted.walk ≡ None → PutsRecord old old p now found all later s answer (number + 1)
    put_more now more none =
        let step = struct_held (held old p) after found all later s operands r0 r1 r0 r0 on good count number made counts place_is read kept so_far named counted body has asks is refl none in
        let one = ap length more.bodies_are in
        let push = length_push p.bodies.items body in
        let names = length_push s.names (judged (definition s.texts (length s.types.types)) operands).0.1 in
        let place = numbers.place in
        let first = more.first in
        let start = more.at in
        let front = on.at in
        record {
          u = u;
          more = subst (λ x. IsMore x found all later s u) (sym (held_now now more)) step.0;
          pending = pending_more old p now body more pends (subst (IsUndefined (held old p)) number_is undefined) known;
          counted = record { number = omega (arith, number_is, one, push, first); place = omega (arith, place, front, one, push, start) };
          number = omega (arith, names, place_is);
          fits = λ h. (let f = fits_more old p now body more h in (f.0, step.1 ∙ ap (λ b. unless_broken types_id s.at (also 7 b None) u) (subst (λ n. all_fit (with_body (held old p).table n body) ≡ true) (sym number_is) f.1)));
          unfit = λ index h. told_so index (unfit_more old p now body more index h) step.1;
        }
      where
        told_so : (index : ℕ) → HoldsUnfit old p index ⊎ (HoldsFit old p × (all_fit (with_body (held old p).table (p.first + length p.bodies.items) body) ≡ false) × (index ≡ p.at + length p.bodies.items))
            → answer ≡ unless_broken types_id s.at (also 7 (all_fit (with_body (held old p).table number body)) None) u
            → HoldsUnfit old p index ⊎ (HoldsFit old p × (answer ≡ Err (BadRecord types_id index 7)))
        told_so index (inl before) same = inl before
        told_so index (inr here) same =
            let place = numbers.place in
            let front = on.at in
            let index_is : s.at ≡ index = omega (arith, here.2, place, front) in
            let unfits = subst (λ n. all_fit (with_body (held old p).table n body) ≡ false) (sym number_is) here.1 in
            inr (here.0, same ∙ ap (λ b. unless_broken types_id s.at (also 7 b None) u) unfits ∙ ap (λ n. Err (BadRecord types_id n 7)) index_is)

    -- one was read
    pub put_record : (result : Result (Unit {0}) BitcodeFault) (new : Lists) (now : Pending) → PutsBody old p number body counted result new now → Puts (λ _. number + 1) old p found all later s answer result new now
    put_record (Ok done) new now puts = subst (λ x. PutsRecord old x p now found all later s answer (number + 1)) (sym puts.0) (put_more now puts.1 puts.2)
    put_record (Err given) new now (inl refuses) = inl refuses
    put_record (Err given) new now (inr h) =
        inr (
          h.0,
          answers_err (λ _ listed. IsMore after found all later s listed) (λ _ _. ⊥) answer given
              (struct_some (held old p) after found all later s operands r0 r1 r0 (asked_fit (held old p) number body counted) on good count number made counts place_is read kept so_far named counted body (Err given) has asks is
              ((λ e. refl), refl) at h.1),
        )

-- the fields of a body that was read are types of the table
pub known_body : (t : Texts) (count : ℕ) (w : Walk) (made : StructDefinition) (body : StructBody) (table : Types) → count ≡ length table.types → made.body ≡ Some body → IsDefinition t count w made → IsKnownBody table body
known_body t count w made body table counts has kept = subst (λ n. KnowsBody n (Some body)) counts ((rw has at kept.body).1)
