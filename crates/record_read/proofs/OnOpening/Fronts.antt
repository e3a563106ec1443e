-- The producer's block, entry by entry.
use Rattle.std.proofs.Common.{◌≡◌, ℕ, suc, Bool, true, false, ◌&&◌, cond, List, [], ◌∷◌, Option, Some, None, bytes_eq, nat_eq, refl, sym, ap, subst, ◌∙◌}
use Rattle.std.specs.Prelude.{OnOk, Result, Ok, Err}
use Rattle.bit_tree.specs.Pieces.{Piece, ended}
use Rattle.record_table.specs.Faults.{Answer, ◌>>=◌, ForeignProducer, Records, also, is_block_id, no_more, a_block, a_record, misplaced}
use Rattle.record_table.specs.Fields.{byte}
use Rattle.record_table.specs.Layout.{judged, many, times}
use Rattle.record_table.specs.Records.{is_ours, producer, producer_from}
use Rattle.record_table.specs.Walk.{going, told}
use Rattle.record_read.specs.declared.entry.NextEntry.{NextEntry}
use Rattle.record_read.specs.declared.entry.NextEntry.TheVariants.{Block, Record, End}
use Rattle.record_read.specs.declared.fault.BitcodeFault.{BitcodeFault}
use Rattle.record_read.specs.declared.fault.BitcodeFault.TheVariants as fault
use Rattle.record_read.specs.Entries.{Gives, IsBefore}
use Rattle.record_read.specs.Faults.{Answers, Finishes, IsMisplaced}
use Rattle.record_read.specs.Reader.{Reader, also_asked}
use Rattle.record_read.specs.Opening.Producer.{FindsFront, IsBehind, IsEnded, another, behind_first, first_block, is_producer_block, noted_or, producer_of}
use Rattle.record_read.proofs.OnOpening.Answering.{finished, misplaced_so, never_none, never_ok, told_also}

-- ---- another record

-- a record of another code
pub another_code : (code : ℕ) (operands : List ℕ) → nat_eq code 1 ≡ false → Answers {A = ℕ} {B = Unit {0}} (λ done more. ⊥) (another code operands) (Err (fault.UnknownRecord 13 code))
another_code code operands other = rw other refl

-- a record that names it again
pub another_name : (code : ℕ) (operands : List ℕ) (old mid r : Reader) (result : Result (Unit {0}) BitcodeFault) → nat_eq code 1 ≡ true → old.walk ≡ going operands None → old.at ≡ 2
    → mid ≡ record old { walk = (many byte.read 17 old.walk).1 } → r ≡ record mid { walk = also_asked 5 false mid.walk } → Finishes 13 r result
    → Answers {A = ℕ} {B = Unit {0}} (λ done more. ⊥) (another code operands) result
another_name code operands old mid r result is walk two read also_is f =
    let rules = also 5 false (judged (times 17 byte) operands).1 in
    let mid_walk : mid.walk ≡ (many byte.read 17 (going operands None)).1 = ap (λ (x : Reader). x.walk) read ∙ ap (λ w. (many byte.read 17 w).1) walk in
    let told_is : told r.walk ≡ rules = ap (λ (x : Reader). told x.walk) also_is ∙ (told_also 5 false mid.walk ∙ ap (λ w. also 5 false (told w)) mid_walk) in
    let place : r.at ≡ 2 = ap (λ (x : Reader). x.at) also_is ∙ (ap (λ (x : Reader). x.at) read ∙ two) in
    rw is (finished (λ done more. ⊥) 13 1 r rules 1 result place told_is f (λ none. never_none 5 (judged (times 17 byte) operands).1 none))

-- ---- behind the one record

-- another record is refused
pub more_refused : (rest : Records) (others : List Piece) (old now new : Reader) (code : ℕ) (result : Result (Unit {0}) BitcodeFault) → Gives rest old (Record code) now (ended ∷ others)
    → ((operands : List ℕ) → now.walk ≡ going operands None → Answers {A = ℕ} {B = Unit {0}} (λ done more. ⊥) (another code operands) result)
    → Answers {A = ℕ} {B = Unit {0}} (λ done at. IsEnded new others at) (producer_from 1 rest) result
more_refused no_more others old now new code result g answers = absurd g
more_refused (a_block id held behind) others old now new code result g answers = absurd g
more_refused (a_record other operands behind) others old now new code result g answers =
    never_ok (λ done at. IsEnded new others at) (another other operands) result (subst (λ c. Answers {A = ℕ} {B = Unit {0}} (λ done more. ⊥) (another c operands) result) g.0 (answers operands g.2))

pub block_refused : (rest : Records) (others : List Piece) (old now new : Reader) (id : ℕ) (given : BitcodeFault) → Gives rest old (Block id) now (ended ∷ others) → old.at ≡ 1 → IsMisplaced id now.at given
    → Answers {A = ℕ} {B = Unit {0}} (λ done at. IsEnded new others at) (producer_from 1 rest) (Err given)
block_refused no_more others old now new id given g one bad = absurd g
block_refused (a_record code operands behind) others old now new id given g one bad = absurd g
block_refused (a_block other held behind) others old now new id given g one bad =
    let there : IsMisplaced other 1 given = subst (λ (p : ℕ × ℕ). IsMisplaced p.0 p.1 given) (λ j. (g.0 j, (g.1 ∙ one) j)) bad in
    misplaced_so other 1 given (λ done at. IsEnded new others at) there

pub ends : (rest : Records) (others : List Piece) (old now : Reader) → Gives rest old End now (ended ∷ others) → old.at ≡ 1 → Answers {A = ℕ} {B = Unit {0}} (λ done at. IsEnded now others at) (producer_from 1 rest) (Ok tt)
ends no_more others old now g one = record { left = g.1; at_is = g.0 ∙ one }
ends (a_block id held behind) others old now g one = absurd g
ends (a_record code operands behind) others old now g one = absurd g

-- ---- what stands in front

-- the first block, where there may be one before these
abbrev pub noted_block : Option ℕ → Records → Option ℕ
noted_block (Some id) rest = Some id
noted_block None rest = first_block rest

-- blocks were passed over so far, and these are to come
pub record IsGoing (inside : Records) (others : List Piece) (first : Reader) (block : Option ℕ) (r : Reader) : Type 0 where
  pub rest : Records
  pub before : IsBefore r.left rest (ended ∷ others)
  pub ours : is_ours inside ≡ is_ours rest
  pub behind : behind_first inside ≡ behind_first rest
  pub noted : noted_block block rest ≡ first_block inside
  pub at : r.at ≡ first.at

pub goes_begin : (inside : Records) (others : List Piece) (r : Reader) → IsBefore r.left inside (ended ∷ others) → IsGoing inside others r None r
goes_begin inside others r before = record { rest = inside; before = before; ours = refl; behind = refl; noted = refl; at = refl }

noted_on : (block : Option ℕ) (id : ℕ) (held behind : Records) → noted_block (noted_or block id) behind ≡ noted_block block (a_block id held behind)
noted_on None id held behind = refl
noted_on (Some first) id held behind = refl

pub goes_on : (inside : Records) (others : List Piece) (first r now after : Reader) (block : Option ℕ) (id : ℕ) → IsGoing inside others first block r
    → ((all : Records) (rest : List Piece) → IsBefore r.left all rest → Gives all r (Block id) now rest)
    → ((held : Records) (rest : List Piece) → IsBefore now.left held (ended ∷ rest) → after.left ≡ rest) → after.at ≡ now.at
    → IsGoing inside others first (noted_or block id) after
goes_on inside others first r now after block id h gives passes stays = by_rest h.rest h.ours h.behind h.noted (gives h.rest (ended ∷ others) h.before)
  where
    by_rest : (rest : Records) → is_ours inside ≡ is_ours rest → behind_first inside ≡ behind_first rest → noted_block block rest ≡ first_block inside → Gives rest r (Block id) now (ended ∷ others)
        → IsGoing inside others first (noted_or block id) after
    by_rest no_more ours behind noted g = absurd g
    by_rest (a_record code operands later) ours behind noted g = absurd g
    by_rest (a_block other held later) ours behind noted g =
        let in_front = g.2 in
        let left : after.left ≡ in_front.pieces = passes held in_front.pieces in_front.inside in
        record {
          rest = later;
          before = subst (λ l. IsBefore l later (ended ∷ others)) (sym left) in_front.behind;
          ours = ours;
          behind = behind;
          noted = ap (λ n. noted_block (noted_or block n) later) g.0 ∙ (noted_on block other held later ∙ noted);
          at = stays ∙ (g.1 ∙ h.at);
        }

-- the first record
pub front_found : (inside : Records) (others : List Piece) (first r now after : Reader) (block : Option ℕ) (code : ℕ) (ours : Bool) → IsGoing inside others first block r
    → ((all : Records) (rest : List Piece) → IsBefore r.left all rest → Gives all r (Record code) now rest)
    → ((operands : List ℕ) → now.walk ≡ going operands None → ours ≡ (nat_eq code 1 && bytes_eq operands producer)) → after ≡ record now { walk = after.walk }
    → FindsFront inside others (record { is_ours = ours; block = block }) first after
front_found inside others first r now after block code ours h gives is rest_is = by_rest h.rest h.ours h.behind h.noted (gives h.rest (ended ∷ others) h.before)
  where
    by_block : (b : Option ℕ) (code : ℕ) (operands : List ℕ) (later : Records) → noted_block b (a_record code operands later) ≡ first_block inside → b ≡ first_block inside
    by_block None code operands later e = e
    by_block (Some id) code operands later e = e

    by_rest : (rest : Records) → is_ours inside ≡ is_ours rest → behind_first inside ≡ behind_first rest → noted_block block rest ≡ first_block inside → Gives rest r (Record code) now (ended ∷ others)
        → FindsFront inside others (record { is_ours = ours; block = block }) first after
    by_rest no_more same behind noted g = absurd g
    by_rest (a_block id held later) same behind noted g = absurd g
    by_rest (a_record other operands later) same behind noted g = record {
      ours = is operands g.2 ∙ (ap (λ c. nat_eq c 1 && bytes_eq operands producer) g.0 ∙ sym same);
      block = by_block block other operands later noted;
      before = λ o. subst (λ (rs : Records). IsBefore after.left rs (ended ∷ others)) (sym behind) (subst (λ l. IsBefore l later (ended ∷ others)) (sym (ap (λ (x : Reader). x.left) rest_is)) g.3);
      at = λ o. ap (λ (x : Reader). x.at) rest_is ∙ (g.1 ∙ ap suc h.at);
    }

-- there is none
pub front_missing : (inside : Records) (others : List Piece) (first r now : Reader) (block : Option ℕ) → IsGoing inside others first block r
    → ((all : Records) (rest : List Piece) → IsBefore r.left all rest → Gives all r End now rest)
    → FindsFront inside others (record { is_ours = false; block = block }) first now
front_missing inside others first r now block h gives = by_rest h.rest h.ours h.noted (gives h.rest (ended ∷ others) h.before)
  where
    by_block : (b : Option ℕ) → noted_block b no_more ≡ first_block inside → b ≡ first_block inside
    by_block None e = e
    by_block (Some id) e = e

    by_rest : (rest : Records) → is_ours inside ≡ is_ours rest → noted_block block rest ≡ first_block inside → Gives rest r End now (ended ∷ others)
        → FindsFront inside others (record { is_ours = false; block = block }) first now
    by_rest (a_block id held later) same noted g = absurd g
    by_rest (a_record code operands later) same noted g = absurd g
    by_rest no_more same noted g = record { ours = sym same; block = by_block block noted; before = λ o. absurd (cc); at = λ o. absurd (cc) }

-- ---- the whole block

-- the first entry is no block of the producer
pub foreign_entry : (all : Records) (old now : Reader) (given : NextEntry) → Gives all old given now [] → is_producer_block given ≡ false → producer_of all ≡ Err ForeignProducer
foreign_entry no_more old now given g other = refl
foreign_entry (a_record code operands behind) old now given g other = refl
foreign_entry (a_block id inside behind) old now (Block given) g other = ap (λ b. cond {A = Answer (ℕ × Records)} (b && is_ours inside) (producer_from 0 inside >>= λ at. Ok (at, behind)) (Err ForeignProducer)) (ap (λ n. nat_eq n 13) (sym g.0) ∙ other)
foreign_entry (a_block id inside behind) old now (Record code) g other = absurd g
foreign_entry (a_block id inside behind) old now End g other = absurd g

-- the first entry is one: what is in it, and what is behind it
pub record IsEntered (all : Records) (now : Reader) : Type 0 where
  pub inside : Records
  pub behind : Records
  pub pieces : List Piece
  pub before : IsBefore now.left inside (ended ∷ pieces)
  pub later : IsBefore pieces behind []
  pub is : producer_of all ≡ cond {A = Answer (ℕ × Records)} (is_ours inside) (producer_from 0 inside >>= λ at. Ok (at, behind)) (Err ForeignProducer)

pub entered : (all : Records) (old now : Reader) (given : NextEntry) → Gives all old given now [] → is_producer_block given ≡ true → IsEntered all now × (now.at ≡ old.at)
entered no_more old now End g is = absurd (cc)
entered no_more old now (Block given) g is = absurd g
entered no_more old now (Record code) g is = absurd g
entered (a_record code operands behind) old now End g is = absurd g
entered (a_record code operands behind) old now (Block given) g is = absurd g
entered (a_record code operands behind) old now (Record other) g is = absurd (cc)
entered (a_block id inside behind) old now End g is = absurd g
entered (a_block id inside behind) old now (Record code) g is = absurd g
entered (a_block id inside behind) old now (Block given) g is = (
  record {
    inside = inside;
    behind = behind;
    pieces = g.2.pieces;
    before = g.2.inside;
    later = g.2.behind;
    is = ap (λ b. cond {A = Answer (ℕ × Records)} (b && is_ours inside) (producer_from 0 inside >>= λ at. Ok (at, behind)) (Err ForeignProducer)) (ap (λ n. nat_eq n 13) (sym g.0) ∙ is);
  },
  g.1,
)

-- a producer's block that is not this producer's
pub foreign : (all : Records) (now : Reader) (e : IsEntered all now) (ours : Bool) → ours ≡ is_ours e.inside → ours ≡ false → producer_of all ≡ Err ForeignProducer
foreign all now e ours same other = e.is ∙ ap (λ b. cond {A = Answer (ℕ × Records)} b (producer_from 0 e.inside >>= λ at. Ok (at, e.behind)) (Err ForeignProducer)) (sym same ∙ other)

-- one that is, behind its first record; a block in front of it is refused
pub ours_is : (all : Records) (now : Reader) (e : IsEntered all now) (ours : Bool) → ours ≡ is_ours e.inside → ours ≡ true → producer_of all ≡ (producer_from 0 e.inside >>= λ at. Ok (at, e.behind))
ours_is all now e ours same this = e.is ∙ ap (λ b. cond {A = Answer (ℕ × Records)} b (producer_from 0 e.inside >>= λ at. Ok (at, e.behind)) (Err ForeignProducer)) (sym same ∙ this)

misplaced_on : {A B : Type 0} (id at : ℕ) (f : A → Answer B) → (misplaced {A = A} id at >>= f) ≡ misplaced {A = B} id at
misplaced_on {A} {B} id at f = by_id (is_block_id id) refl
  where
    by_id : (b : Bool) → is_block_id id ≡ b → (misplaced {A = A} id at >>= f) ≡ misplaced {A = B} id at
    by_id true e = rw e refl
    by_id false e = rw e refl

-- the block that stands in front of the record
pub front_block : (inside behind : Records) (id : ℕ) → Some id ≡ first_block inside → (producer_from 0 inside >>= λ at. Ok (at, behind)) ≡ misplaced {A = ℕ × Records} id 0
front_block no_more behind id e = absurd (cc)
front_block (a_record code operands later) behind id e = absurd (cc)
front_block (a_block other held later) behind id e =
    let same : id ≡ other = cc in
    misplaced_on other 0 (λ at. Ok (at, behind)) ∙ ap (λ n. misplaced {A = ℕ × Records} n 0) (sym same)

-- none stands in front: what is behind the record is judged
pub front_record : (inside : Records) → None ≡ first_block inside → is_ours inside ≡ true → producer_from 0 inside ≡ producer_from 1 (behind_first inside)
front_record no_more e ours = absurd (cc)
front_record (a_block id held later) e ours = absurd (cc)
front_record (a_record code operands later) e ours = by (nat_eq code 1) (bytes_eq operands producer) refl ours
  where
    by : (b c : Bool) → nat_eq code 1 ≡ b → (b && c) ≡ true → producer_from 0 (a_record code operands later) ≡ producer_from 1 later
    by true c is h = rw is refl
    by false c is h = absurd (cc)

-- the rest of the block, and what is behind it
pub behind_it : (all behind : Records) (pieces : List Piece) (new : Reader) (read : Answer ℕ) (result : Result (Unit {0}) BitcodeFault) → producer_of all ≡ (read >>= λ at. Ok (at, behind)) → IsBefore pieces behind []
    → Answers {A = ℕ} {B = Unit {0}} (λ done at. IsEnded new pieces at) read result → Answers {A = ℕ × Records} {B = Unit {0}} (λ done read. IsBehind new read) (producer_of all) result
behind_it all behind pieces new (Ok at) (Ok done) is later h = rw is (record { at = h.at_is; before = subst (λ l. IsBefore l behind []) (sym h.left) later })
behind_it all behind pieces new (Ok at) (Err given) is later h = rw is h
behind_it all behind pieces new (Err told) (Ok done) is later h = absurd h
behind_it all behind pieces new (Err told) (Err given) is later h = rw is h

-- ---- what holds of a reader behind a record

pub record_at : (rest : Records) (others : List Piece) (old now : Reader) (code : ℕ) → Gives rest old (Record code) now others → now.at ≡ suc old.at
record_at no_more others old now code g = absurd g
record_at (a_block id held behind) others old now code g = absurd g
record_at (a_record other operands behind) others old now code g = g.1

pub block_at : (rest : Records) (others : List Piece) (old now : Reader) (id : ℕ) → Gives rest old (Block id) now others → now.at ≡ old.at
block_at no_more others old now id g = absurd g
block_at (a_record code operands behind) others old now id g = absurd g
block_at (a_block other held behind) others old now id g = g.1

-- a refusal is no success
pub never_done : {A : Type 0} (P : Type 0) (a : Answer A) (result : Result (Unit {0}) BitcodeFault) → Answers {A = A} {B = Unit {0}} (λ done more. ⊥) a result → OnOk result P
never_done P (Ok v) (Ok done) h = absurd h
never_done P (Err told) (Ok done) h = absurd h
never_done P a (Err given) h = tt

pub more_done : (P : Type 0) (rest : Records) (others : List Piece) (old now : Reader) (code : ℕ) (result : Result (Unit {0}) BitcodeFault) → Gives rest old (Record code) now others
    → ((operands : List ℕ) → now.walk ≡ going operands None → Answers {A = ℕ} {B = Unit {0}} (λ done more. ⊥) (another code operands) result) → OnOk result P
more_done P no_more others old now code result g answers = absurd g
more_done P (a_block id held behind) others old now code result g answers = absurd g
more_done P (a_record other operands behind) others old now code result g answers = never_done P (another code operands) result (answers operands g.2)
