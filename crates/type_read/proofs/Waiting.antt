-- A block of types in the reading, while definitions pend.
use Rattle.std.proofs.Common.{◌≡◌, ◌⊎◌, inl, inr, ℕ, suc, List, [], ◌∷◌, Some, length, refl, sym, ap, subst, ◌∙◌, arith}
use Rattle.std.specs.Prelude.{Result, Ok, Err}
use Rattle.bit_tree.specs.Pieces.{Piece, ended}
use Rattle.module_arena.specs.Lists.{Lists}
use Rattle.module_arena.specs.Module.{Bytes}
use Rattle.record_table.specs.Fields.{Texts}
use Rattle.record_table.specs.Layout.{judged}
use Rattle.record_table.specs.Faults.{Answer, ◌>>=◌, BadRecord, Records, types_id}
use Rattle.record_table.specs.TypeRecords.{Listed, TypeKind, definition, kind_of_code, kinds, listed, listed_by, listed_from, names_in, of_kind, struct_record}
use Rattle.record_read.specs.declared.texts.Texts as the_texts
use Rattle.record_read.specs.declared.entry.NextEntry.TheVariants.{Block, End}
use Rattle.record_read.specs.declared.fault.BitcodeFault.{BitcodeFault}
use Rattle.record_read.specs.Entries.{Gives as GivesEntry, IsBefore}
use Rattle.record_read.specs.Fields.{texts_of}
use Rattle.record_read.specs.Faults.{Answers, IsMisplaced}
use Rattle.record_read.specs.Reader.{Reader}
use Rattle.type_read.specs.declared.pending.Pending.{Pending}
use Rattle.type_read.specs.declared.structs.StructNames.{StructNames}
use Rattle.type_read.specs.Listed.{AreNames, AreSoFar, IsListed, IsMore, IsNamedAs}
use Rattle.type_read.specs.Pending.{Gives, HoldsFit, HoldsUnfit, IsCounted, IsFirstUnfit, IsPending, PutsRecord, RefusesHeld, held}
use Rattle.type_read.proofs.Holding.{gives_none}
use Rattle.type_read.proofs.Putting.{answers_err}
use Rattle.type_read.proofs.Reading.{IsReading, IsStep, block_refused, names_counted, reading_ends, reading_starts, step_refused, then_ok}
use Rattle.type_read.proofs.Walks.{out_of_memory}

-- Where what pends stays fit, so was read; else the first that does not is refused.
pub record IsWaiting (t : Texts) (at : ℕ) (inside : Records) (others : List Piece) (found : StructNames) (a : Lists) (p : Pending) (r : Reader) (defined : ℕ) : Type 0 where
  pub whole : Answer Listed
  pub reading : IsReading t whole inside others found (held a p) r defined
  pub reads : HoldsFit a p → listed t at inside ≡ whole
  pub told : (index : ℕ) → HoldsUnfit a p index → listed t at inside ≡ Err (BadRecord types_id index 7)
  pub pending : IsPending a p
  pub counted : IsCounted p defined r.at

-- nothing pends
none_unfit : (a : Lists) (p : Pending) → p.bodies.items ≡ [] → (index : ℕ) → HoldsUnfit a p index → ⊥
none_unfit a p none index u = subst (λ bs. IsFirstUnfit a.table p.first bs p.at index) none u

none_pending : (a : Lists) (p : Pending) → p.bodies.items ≡ [] → IsPending a p
none_pending a p none =
    let many = ap length none in
    record { known = λ k d lt. absurd (omega (arith, many, lt)); undefined = λ k le lt. absurd (omega (arith, many, le, lt)) }

pub waiting_starts : (x : the_texts.Texts) (inside : Records) (others : List Piece) (found : StructNames) (a : Lists) (p : Pending) (r : Reader) → p.first ≡ 0 → p.at ≡ r.at → p.bodies.items ≡ []
    → IsBefore r.left inside (ended ∷ others) → AreNames (texts_of x) inside found → IsNamedAs found (names_in (texts_of x) inside) a → IsWaiting (texts_of x) r.at inside others found a p r 0
waiting_starts x inside others found a p r first at none before are named =
    let many = ap length none in
    record {
      whole = listed (texts_of x) r.at inside;
      reading = subst (λ b. IsReading (texts_of x) (listed (texts_of x) r.at inside) inside others found b r 0) (gives_none a p none).0 (reading_starts x inside others found a r before are named);
      reads = λ h. refl;
      told = λ index u. absurd (none_unfit a p none index u);
      pending = none_pending a p none;
      counted = record { number = omega (arith, first, many); place = omega (arith, at, many) };
    }

module _ (t : Texts) (at : ℕ) (inside : Records) (others : List Piece) (found : StructNames) (a : Lists) (p : Pending) (r : Reader) (defined : ℕ) (h : IsWaiting t at inside others found a p r defined) where
  -- what pends was refused
  pub held_refused : (M : Unit {0} → Listed → Type 0) (given : BitcodeFault) → RefusesHeld a p given → Answers M (listed t at inside) (Err given)
  held_refused M given (inl memory) = out_of_memory M (listed t at inside) given memory
  held_refused M given (inr u) = rw (h.told u.0 u.1, u.2) refl

  -- a block among the types is refused
  pub waiting_block : (M : Unit {0} → Listed → Type 0) (now : Reader) (id : ℕ) (given : BitcodeFault) → ((all : Records) (rest : List Piece) → IsBefore r.left all rest → GivesEntry all r (Block id) now rest)
      → HoldsFit a p → IsMisplaced id now.at given → Answers M (listed t at inside) (Err given)
  waiting_block M now id given gives fit bad =
      subst (λ o. Answers M o (Err given)) (sym (h.reads fit)) (block_refused t h.whole inside others found (held a p) r now defined id given M h.reading gives bad)

  -- the end of the block
  pub waiting_ends : (new : Lists) (now : Reader) (result : Result (Unit {0}) BitcodeFault) → ((all : Records) (rest : List Piece) → IsBefore r.left all rest → GivesEntry all r End now rest) → Gives a p result new
      → Answers {B = Unit {0}} (λ _ u. IsListed new found (names_in t inside) u × (now.left ≡ others) × (now.at ≡ u.at)) (listed t at inside) result
  waiting_ends new now (Ok done) gives g =
      subst (λ o. Answers {B = Unit {0}} (λ _ u. IsListed new found (names_in t inside) u × (now.left ≡ others) × (now.at ≡ u.at)) o (Ok done)) (sym (h.reads g.1))
      (subst (λ x. Answers {B = Unit {0}} (λ _ u. IsListed x found (names_in t inside) u × (now.left ≡ others) × (now.at ≡ u.at)) h.whole (Ok done)) (sym g.0)
      (reading_ends t h.whole inside others found (held a p) r now defined h.reading gives))
  waiting_ends new now (Err given) gives g = held_refused (λ _ u. IsListed new found (names_in t inside) u × (now.left ≡ others) × (now.at ≡ u.at)) given g

  -- one record further
  module _ (code : ℕ) (now : Reader) (st : IsStep t h.whole inside others found (held a p) now defined code) where
    abbrev answer : Answer Listed
    answer = listed_by st.s code st.operands (kind_of_code code kinds)

    pub waiting_refused : (M : Unit {0} → Listed → Type 0) (given : BitcodeFault) → RefusesHeld a p given ⊎ (HoldsFit a p × Answers {B = Unit {0}} (λ _ _. ⊥) answer (Err given)) → Answers M (listed t at inside) (Err given)
    waiting_refused M given (inl refused) = held_refused M given refused
    waiting_refused M given (inr answers) =
        step_refused M (λ _ _. ⊥) (listed t at inside) answer (λ u. listed_from u st.behind) given (h.reads answers.0 ∙ st.same) answers.1

    pub waiting_goes : (new : Lists) (later : Pending) (after : Reader) (number : ℕ) → PutsRecord a new p later found (names_in t inside) (names_in t st.behind) st.s answer number → after.left ≡ now.left → after.at ≡ now.at
        → IsWaiting t at inside others found new later after number
    waiting_goes new later after number puts left place =
        let more = puts.more in
        let place_is : puts.u.at ≡ after.at = more.at ∙ sym st.on.at ∙ sym place in
        record {
          whole = listed_from puts.u st.behind;
          reading = record {
            s = puts.u;
            rest = st.behind;
            before = subst (λ l. IsBefore l st.behind (ended ∷ others)) (sym left) st.before;
            same = refl;
            texts = more.texts ∙ st.texts;
            place = sym place_is;
            number = puts.number;
            listed_is = more.listed_is;
            so_far = more.so_far;
          };
          reads = λ fit. (let f = puts.fits fit in h.reads f.0 ∙ (st.same ∙ then_ok answer puts.u (λ u. listed_from u st.behind) f.1));
          told = λ index u. told_so index (puts.unfit index u);
          pending = puts.pending;
          counted = subst (IsCounted later number) place_is puts.counted;
        }
      where
        told_so : (index : ℕ) → HoldsUnfit a p index ⊎ (HoldsFit a p × (answer ≡ Err (BadRecord types_id index 7))) → listed t at inside ≡ Err (BadRecord types_id index 7)
        told_so index (inl u) = h.told index u
        told_so index (inr e) = h.reads e.0 ∙ (st.same ∙ ap (λ o. o >>= λ u. listed_from u st.behind) e.1)

-- ---- one record, as one of the block

pub as_struct : (s : Listed) (code : ℕ) (operands : List ℕ) (M : Answer Listed → Type 0) → code ≡ 7 → M (struct_record s (judged (definition s.texts (length s.types.types)) operands)) → M (listed_by s code operands (kind_of_code code kinds))
as_struct s code operands M is h = rw is h

pub as_type : (s : Listed) (code : ℕ) (operands : List ℕ) (kind : TypeKind) (M : Answer Listed → Type 0) → kind_of_code code kinds ≡ Some kind → M (of_kind s operands kind) → M (listed_by s code operands (kind_of_code code kinds))
as_type s code operands kind M is h = rw is h

-- a type was read, behind all that pended, and nothing pends then
pub type_put : (old new : Lists) (before now : Pending) (found : StructNames) (all later : List Bytes) (s : Listed) (answer : Answer Listed) (defined : ℕ) → HoldsFit old before → AreSoFar found all s later → defined ≡ length s.names
    → now.first ≡ defined → now.at ≡ suc s.at → now.bodies.items ≡ [] → Answers {B = Unit {0}} (λ _ u. IsMore new found all later s u) answer (Ok tt) → PutsRecord old new before now found all later s answer defined
type_put old new before now found all later s (Ok u) defined fit so_far many first at none more =
    let count = names_counted all s.names u.names later later 0 so_far.all_is more.so_far.all_is (omega arith) in
    let empty = ap length none in
    let place = more.at in
    record {
      u = u;
      more = subst (λ x. IsMore x found all later s u) (gives_none new now none).0 more;
      pending = none_pending new now none;
      counted = record { number = omega (arith, first, empty); place = omega (arith, at, empty, place) };
      number = omega (arith, count, many);
      fits = λ h. (fit, refl);
      unfit = λ index h. absurd (none_unfit new now none index h);
    }
type_put old new before now found all later s (Err told) defined fit so_far many first at none more = absurd more

-- a type was refused, behind all that pended
pub type_refused : (old : Lists) (before : Pending) (M : Unit {0} → Listed → Type 0) (answer : Answer Listed) (given : BitcodeFault) → HoldsFit old before → Answers M answer (Err given)
    → RefusesHeld old before given ⊎ (HoldsFit old before × Answers {B = Unit {0}} (λ _ _. ⊥) answer (Err given))
type_refused old before M answer given fit h = inr (fit, answers_err M (λ _ _. ⊥) answer given h)
