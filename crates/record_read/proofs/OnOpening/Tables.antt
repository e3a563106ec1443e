-- The table's block, and the way into the module's, entry by entry.
use Rattle.std.proofs.Common.{◌≡◌, ◌-◌, ℕ, suc, Bool, true, false, cond, List, [], ◌∷◌, Option, Some, None, nat_eq, refl, sym, ap, subst, ◌∙◌}
use Rattle.std.specs.Prelude.{OnOk, Result, Ok, Err}
use Rattle.bit_tree.specs.Pieces.{Piece, ended}
use Rattle.record_table.specs.Faults.{Answer, ◌>>=◌, BadRecord, Records, UnknownRecord, also, no_more, a_block, a_record, unless_broken}
use Rattle.record_table.specs.Fields.{byte}
use Rattle.record_table.specs.Layout.{judged, to_end}
use Rattle.record_table.specs.Records.{ReadTable, table, table_ended}
use Rattle.record_table.specs.Walk.{Walk, going, stopped, told}
use Rattle.record_read.specs.declared.entry.NextEntry.TheVariants.{Block, Record, End}
use Rattle.record_read.specs.declared.fault.BitcodeFault.{BitcodeFault}
use Rattle.record_read.specs.declared.fault.BitcodeFault.TheVariants as fault
use Rattle.record_read.specs.Entries.{Gives, IsBefore, IsInBlock}
use Rattle.record_read.specs.Faults.{Answers, Finishes, IsFault, IsMisplaced}
use Rattle.record_read.specs.Fields.{AreBytesKept, ReadsBytes}
use Rattle.record_read.specs.Reader.{FinishesBy, IsBrokenBy, Reader, also_asked}
use Rattle.record_read.specs.Opening.Table.{HasBytes, IsTable, KeepsTable}
use Rattle.record_read.proofs.OnOpening.Answering.{fault_is, finished, misplaced_so, never_none, never_ok, out_of_memory, told_also}
use Rattle.record_read.proofs.OnOpening.Fronts.{never_done}

-- ---- another record

pub more_code : (t : ReadTable) (code : ℕ) (operands : List ℕ) → nat_eq code 1 ≡ false → Answers {A = ReadTable} {B = Unit {0}} (λ done more. ⊥) (table_ended t (a_record code operands no_more)) (Err (fault.UnknownRecord 23 code))
more_code t code operands other = rw other refl

pub more_bytes : (t : ReadTable) (code : ℕ) (operands : List ℕ) (old mid r : Reader) (bytes : Option (List ℕ)) (result : Result (Unit {0}) BitcodeFault) → nat_eq code 1 ≡ true → old.walk ≡ going operands None → old.at ≡ suc t.at
    → ReadsBytes (to_end byte) old mid bytes → r ≡ record mid { walk = also_asked 5 false mid.walk } → Finishes 23 r result
    → Answers {A = ReadTable} {B = Unit {0}} (λ done more. ⊥) (table_ended t (a_record code operands no_more)) result
more_bytes t code operands old mid r bytes result is walk place read also_is f =
    let rules = also 5 false (judged (to_end byte) operands).1 in
    let mid_walk : mid.walk ≡ ((to_end byte).read (going operands None)).1 = ap (λ (x : Reader). x.walk) read.reader ∙ ap (λ w. ((to_end byte).read w).1) walk in
    let told_is : told r.walk ≡ rules = ap (λ (x : Reader). told x.walk) also_is ∙ (told_also 5 false mid.walk ∙ ap (λ w. also 5 false (told w)) mid_walk) in
    let at : r.at ≡ suc t.at = ap (λ (x : Reader). x.at) also_is ∙ (ap (λ (x : Reader). x.at) read.reader ∙ place) in
    rw is (finished (λ done more. ⊥) 23 t.at r rules t result at told_is f (λ none. never_none 5 (judged (to_end byte) operands).1 none))

-- ---- the one record

pub other_code : (at code : ℕ) (operands : List ℕ) → nat_eq code 1 ≡ false → Answers {A = ReadTable} {B = List ℕ} (HasBytes (suc at)) (table at (a_record code operands no_more)) (Err (fault.UnknownRecord 23 code))
other_code at code operands other = rw other refl

-- a record that is finished breaks no rule
finished_none : (id : ℕ) (r : Reader) (done : Unit {0}) → Finishes id r (Ok done) → told r.walk ≡ None
finished_none id r done f = by (told r.walk) f
  where
    by : (o : Option ℕ) → FinishesBy {E = BitcodeFault} (λ rule given. given ≡ fault.BadRecord id (r.at - 1) rule) o (Ok done) → o ≡ None
    by None f = refl
    by (Some rule) f = absurd f

broken_told : (limit : ℕ) (w : Walk) → IsBrokenBy limit w → told w ≡ None → ⊥
broken_told limit (going [] None) h e = h
broken_told limit (going [] (Some r)) h e = cc
broken_told limit (going (n ∷ rest) None) h e = h
broken_told limit (going (n ∷ rest) (Some r)) h e = cc
broken_told limit (stopped None) h e = h
broken_told limit (stopped (Some r)) h e = cc

-- a record that breaks no rule has bytes alone
pub never_lost : (old mid : Reader) (bytes : Option (List ℕ)) (done : Unit {0}) → ReadsBytes (to_end byte) old mid bytes → bytes ≡ None → Finishes 23 mid (Ok done) → ⊥
never_lost old mid bytes done read none f =
    let lost = subst (λ o. AreBytesKept o ((to_end byte).read old.walk).0 mid.walk) none read.kept in
    broken_told 3 mid.walk lost.1 (finished_none 23 mid done f)

-- a refusal in front is one of the whole
err_behind : {A B C : Type 0} (means : C → B → Type 0) (a : Answer A) (f : A → Answer B) (given : BitcodeFault) → Answers {A = A} {B = Unit {0}} (λ done x. Unit {0}) a (Err given) → Answers means (a >>= f) (Err given)
err_behind means (Ok x) f given h = out_of_memory means (f x) given h
err_behind means (Err told) f given h = h

module _ (at code : ℕ) (operands : List ℕ) (old mid : Reader) (bytes : Option (List ℕ)) (is : nat_eq code 1 ≡ true) (walk : old.walk ≡ going operands None) (place : old.at ≡ suc at) (read : ReadsBytes (to_end byte) old mid bytes) where
  abbrev made : ReadTable
  made = record { at = suc at; bytes = (judged (to_end byte) operands).0 }

  told_is : told mid.walk ≡ (judged (to_end byte) operands).1
  told_is = ap (λ (x : Reader). told x.walk) read.reader ∙ ap (λ w. told ((to_end byte).read w).1) walk

  mid_at : mid.at ≡ suc at
  mid_at = ap (λ (x : Reader). x.at) read.reader ∙ place

  pub one_refused : (given : BitcodeFault) → Finishes 23 mid (Err given) → Answers {A = ReadTable} {B = List ℕ} (HasBytes (suc at)) (table at (a_record code operands no_more)) (Err given)
  one_refused given f =
      rw is (err_behind (HasBytes (suc at)) (unless_broken 23 at (judged (to_end byte) operands).1 made) (λ t. Ok t) given
      (finished (λ done x. Unit {0}) 23 at mid (judged (to_end byte) operands).1 made (Err given) mid_at told_is f (λ none. tt)))

  pub one_read : (done : Unit {0}) (kept : List ℕ) → bytes ≡ Some kept → Finishes 23 mid (Ok done) → Answers {A = ReadTable} {B = List ℕ} (HasBytes (suc at)) (table at (a_record code operands no_more)) (Ok kept)
  one_read done kept some f =
      let none : (judged (to_end byte) operands).1 ≡ None = sym told_is ∙ finished_none 23 mid done f in
      let there : kept ≡ ((to_end byte).read old.walk).0 = subst (λ o. AreBytesKept o ((to_end byte).read old.walk).0 mid.walk) some read.kept in
      rw (is, none) (record { bytes_are = there ∙ ap (λ w. ((to_end byte).read w).0) walk; at_is = refl })

-- ---- behind it

pub more_refused : (t : ReadTable) (rest : Records) (others : List Piece) (old now new : Reader) (code : ℕ) (result : Result (Unit {0}) BitcodeFault) → Gives rest old (Record code) now (ended ∷ others) → old.at ≡ t.at
    → ((operands : List ℕ) → now.walk ≡ going operands None → now.at ≡ suc t.at → Answers {A = ReadTable} {B = Unit {0}} (λ done more. ⊥) (table_ended t (a_record code operands no_more)) result)
    → Answers {A = ReadTable} {B = Unit {0}} (λ done kept. KeepsTable new others t kept) (table_ended t rest) result
more_refused t no_more others old now new code result g place answers = absurd g
more_refused t (a_block id held behind) others old now new code result g place answers = absurd g
more_refused t (a_record other operands behind) others old now new code result g place answers =
    never_ok (λ done kept. KeepsTable new others t kept) (table_ended t (a_record other operands no_more)) result
    (subst (λ c. Answers {A = ReadTable} {B = Unit {0}} (λ done more. ⊥) (table_ended t (a_record c operands no_more)) result) g.0 (answers operands g.2 (g.1 ∙ ap suc place)))

pub block_refused : (t : ReadTable) (rest : Records) (others : List Piece) (old now new : Reader) (id : ℕ) (given : BitcodeFault) → Gives rest old (Block id) now (ended ∷ others) → old.at ≡ t.at → IsMisplaced id now.at given
    → Answers {A = ReadTable} {B = Unit {0}} (λ done kept. KeepsTable new others t kept) (table_ended t rest) (Err given)
block_refused t no_more others old now new id given g place bad = absurd g
block_refused t (a_record code operands behind) others old now new id given g place bad = absurd g
block_refused t (a_block other held behind) others old now new id given g place bad =
    let there : IsMisplaced other t.at given = subst (λ (p : ℕ × ℕ). IsMisplaced p.0 p.1 given) (λ j. (g.0 j, (g.1 ∙ place) j)) bad in
    misplaced_so other t.at given (λ done kept. KeepsTable new others t kept) there

pub ends : (t : ReadTable) (rest : Records) (others : List Piece) (old now : Reader) → Gives rest old End now (ended ∷ others) → old.at ≡ t.at
    → Answers {A = ReadTable} {B = Unit {0}} (λ done kept. KeepsTable now others t kept) (table_ended t rest) (Ok tt)
ends t no_more others old now g place = record { same = refl; left = g.1; at_is = g.0 ∙ place }
ends t (a_block id held behind) others old now g place = absurd g
ends t (a_record code operands behind) others old now g place = absurd g

-- ---- the whole block

abbrev made_of : ℕ → List ℕ → ReadTable
made_of at operands = record { at = suc at; bytes = (judged (to_end byte) operands).0 }

table_by : (at code : ℕ) (operands : List ℕ) (behind : Records) (b : Bool) (o : Option ℕ) → nat_eq code 1 ≡ b → (judged (to_end byte) operands).1 ≡ o
    → table at (a_record code operands behind) ≡ cond {A = Answer ReadTable} b (unless_broken 23 at o (made_of at operands) >>= λ t. table_ended t behind) (Err (UnknownRecord 23 code))
table_by at code operands behind b o is broken =
    ap (λ c. cond {A = Answer ReadTable} c (unless_broken 23 at (judged (to_end byte) operands).1 (made_of at operands) >>= λ t. table_ended t behind) (Err (UnknownRecord 23 code))) is
    ∙ ap (λ p. cond {A = Answer ReadTable} b (unless_broken 23 at p (made_of at operands) >>= λ t. table_ended t behind) (Err (UnknownRecord 23 code))) broken

-- the bytes that were read, and then what is behind them
pub record IsRead (at code : ℕ) (operands : List ℕ) (behind : Records) (bytes : List ℕ) : Type 0 where
  pub t : ReadTable
  pub has : HasBytes (suc at) bytes t
  pub is : table at (a_record code operands behind) ≡ table_ended t behind

pub bytes_read : (at code : ℕ) (operands : List ℕ) (behind : Records) (bytes : List ℕ) → Answers {A = ReadTable} {B = List ℕ} (HasBytes (suc at)) (table at (a_record code operands no_more)) (Ok bytes) → IsRead at code operands behind bytes
bytes_read at code operands behind bytes h = by (nat_eq code 1) (judged (to_end byte) operands).1 refl refl
  where
    by : (b : Bool) (o : Option ℕ) → nat_eq code 1 ≡ b → (judged (to_end byte) operands).1 ≡ o → IsRead at code operands behind bytes
    by true None is broken =
        let made : HasBytes (suc at) bytes (made_of at operands) = rw (table_by at code operands no_more true None is broken) at h in
        record { t = made_of at operands; has = made; is = table_by at code operands behind true None is broken }
    by true (Some rule) is broken = absurd (rw (table_by at code operands no_more true (Some rule) is broken) at h)
    by false o is broken = absurd (rw (table_by at code operands no_more false o is broken) at h)

pub bytes_failed : (at code : ℕ) (operands : List ℕ) (behind : Records) (given : BitcodeFault) (means : List ℕ → ReadTable → Type 0) → Answers {A = ReadTable} {B = List ℕ} (HasBytes (suc at)) (table at (a_record code operands no_more)) (Err given)
    → Answers {A = ReadTable} {B = List ℕ} means (table at (a_record code operands behind)) (Err given)
bytes_failed at code operands behind given means h = by (nat_eq code 1) (judged (to_end byte) operands).1 refl refl
  where
    by : (b : Bool) (o : Option ℕ) → nat_eq code 1 ≡ b → (judged (to_end byte) operands).1 ≡ o → Answers {A = ReadTable} {B = List ℕ} means (table at (a_record code operands behind)) (Err given)
    by true None is broken =
        let memory : given ≡ fault.Memory = rw (table_by at code operands no_more true None is broken) at h in
        out_of_memory means (table at (a_record code operands behind)) given memory
    by true (Some rule) is broken =
        let told : IsFault given (BadRecord 23 at rule) = rw (table_by at code operands no_more true (Some rule) is broken) at h in
        rw (table_by at code operands behind true (Some rule) is broken) told
    by false o is broken =
        let told : IsFault given (UnknownRecord 23 code) = rw (table_by at code operands no_more false o is broken) at h in
        rw (table_by at code operands behind false o is broken) told

pub table_whole : (at code : ℕ) (operands : List ℕ) (behind : Records) (others : List Piece) (bytes : List ℕ) (new : Reader) (i : IsRead at code operands behind bytes)
    → Answers {A = ReadTable} {B = Unit {0}} (λ done kept. KeepsTable new others i.t kept) (table_ended i.t behind) (Ok tt) → Answers {A = ReadTable} {B = List ℕ} (IsTable new others) (table at (a_record code operands behind)) (Ok bytes)
table_whole at code operands behind others bytes new i h = rw i.is (by (table_ended i.t behind) h)
  where
    by : (a : Answer ReadTable) → Answers {A = ReadTable} {B = Unit {0}} (λ done kept. KeepsTable new others i.t kept) a (Ok tt) → Answers {A = ReadTable} {B = List ℕ} (IsTable new others) a (Ok bytes)
    by (Ok kept) k = record { bytes_are = i.has.bytes_are ∙ ap (λ (x : ReadTable). x.bytes) (sym k.same); at_is = k.at_is ∙ ap (λ (x : ReadTable). x.at) (sym k.same); left = k.left }
    by (Err told) k = absurd k

pub table_failed : (at code : ℕ) (operands : List ℕ) (behind : Records) (others : List Piece) (bytes : List ℕ) (new after : Reader) (given : BitcodeFault) (i : IsRead at code operands behind bytes)
    → Answers {A = ReadTable} {B = Unit {0}} (λ done kept. KeepsTable new others i.t kept) (table_ended i.t behind) (Err given) → Answers {A = ReadTable} {B = List ℕ} (IsTable after others) (table at (a_record code operands behind)) (Err given)
table_failed at code operands behind others bytes new after given i h = rw i.is (by (table_ended i.t behind) h)
  where
    by : (a : Answer ReadTable) → Answers {A = ReadTable} {B = Unit {0}} (λ done kept. KeepsTable new others i.t kept) a (Err given) → Answers {A = ReadTable} {B = List ℕ} (IsTable after others) a (Err given)
    by (Ok kept) k = k
    by (Err told) k = k

pub more_done : (P : Type 0) (rest : Records) (others : List Piece) (old now : Reader) (code : ℕ) (result : Result (Unit {0}) BitcodeFault) → Gives rest old (Record code) now others
    → ((t : ReadTable) (operands : List ℕ) → now.walk ≡ going operands None → now.at ≡ suc t.at → Answers {A = ReadTable} {B = Unit {0}} (λ done more. ⊥) (table_ended t (a_record code operands no_more)) result) → OnOk result P
more_done P no_more others old now code result g answers = absurd g
more_done P (a_block id held behind) others old now code result g answers = absurd g
more_done P (a_record other operands behind) others old now code result g answers =
    let t : ReadTable = record { at = old.at; bytes = [] } in
    never_done P (table_ended t (a_record code operands no_more)) result (answers t operands g.2 g.1)

-- a record in front, with its operands
pub record IsRecord (rest : Records) (others : List Piece) (old now : Reader) (code : ℕ) : Type 0 where
  pub operands : List ℕ
  pub behind : Records
  pub is : rest ≡ a_record code operands behind
  pub walk : now.walk ≡ going operands None
  pub at : now.at ≡ suc old.at
  pub before : IsBefore now.left behind others

pub record_given : (rest : Records) (others : List Piece) (old now : Reader) (code : ℕ) → Gives rest old (Record code) now others → IsRecord rest others old now code
record_given no_more others old now code g = absurd g
record_given (a_block id held behind) others old now code g = absurd g
record_given (a_record other operands behind) others old now code g =
    record { operands = operands; behind = behind; is = ap (λ c. a_record c operands behind) (sym g.0); walk = g.2; at = g.1; before = g.3 }

-- a block in its place, or the end, is refused
pub table_block : (rest : Records) (others : List Piece) (old now new : Reader) (id : ℕ) (given : BitcodeFault) → Gives rest old (Block id) now (ended ∷ others) → IsMisplaced id now.at given
    → Answers {A = ReadTable} {B = List ℕ} (IsTable new others) (table old.at rest) (Err given)
table_block no_more others old now new id given g bad = absurd g
table_block (a_record code operands behind) others old now new id given g bad = absurd g
table_block (a_block other held behind) others old now new id given g bad =
    misplaced_so other old.at given (IsTable new others) (subst (λ (p : ℕ × ℕ). IsMisplaced p.0 p.1 given) (λ j. (g.0 j, g.1 j)) bad)

pub table_missing : (rest : Records) (others : List Piece) (old now new : Reader) (given : BitcodeFault) → Gives rest old End now (ended ∷ others) → given ≡ fault.BadRecord 23 now.at 5
    → Answers {A = ReadTable} {B = List ℕ} (IsTable new others) (table old.at rest) (Err given)
table_missing no_more others old now new given g is = fault_is given (BadRecord 23 old.at 5) (is ∙ ap (λ n. fault.BadRecord 23 n 5) g.0)
table_missing (a_block id held behind) others old now new given g is = absurd g
table_missing (a_record code operands behind) others old now new given g is = absurd g

-- behind the record, the rest of the block is to come
pub still_begun : (rest : Records) (others : List Piece) (old now after : Reader) (code : ℕ) → Gives rest old (Record code) now (ended ∷ others) → after.left ≡ now.left → IsInBlock after.left
still_begun rest others old now after code g same =
    let r = record_given rest (ended ∷ others) old now code g in
    record { inside = r.behind; others = others; before = subst (λ l. IsBefore l r.behind (ended ∷ others)) (sym same) r.before }

-- what the record tells, and what is behind it
pub bytes_told : (rest : Records) (others : List Piece) (old now after : Reader) (code : ℕ) (given : BitcodeFault) → Gives rest old (Record code) now (ended ∷ others)
    → ((at : ℕ) (operands : List ℕ) → now.walk ≡ going operands None → now.at ≡ suc at → Answers {A = ReadTable} {B = List ℕ} (HasBytes (suc at)) (table at (a_record code operands no_more)) (Err given))
    → Answers {A = ReadTable} {B = List ℕ} (IsTable after others) (table old.at rest) (Err given)
bytes_told rest others old now after code given g answers =
    let r = record_given rest (ended ∷ others) old now code g in
    subst (λ (rs : Records). Answers {A = ReadTable} {B = List ℕ} (IsTable after others) (table old.at rs) (Err given)) (sym r.is) (bytes_failed old.at code r.operands r.behind given (IsTable after others) (answers old.at r.operands r.walk r.at))

-- the bytes, where the block ends behind them
abbrev pub with_bytes : List ℕ → Result (Unit {0}) BitcodeFault → Result (List ℕ) BitcodeFault
with_bytes bytes (Ok done) = Ok bytes
with_bytes bytes (Err given) = Err given

-- the record was read: what is behind it answers for the table
pub rest_answers : (rest : Records) (others : List Piece) (old now after new : Reader) (code : ℕ) (bytes : List ℕ) (result : Result (Unit {0}) BitcodeFault) → Gives rest old (Record code) now (ended ∷ others)
    → ((at : ℕ) (operands : List ℕ) → now.walk ≡ going operands None → now.at ≡ suc at → Answers {A = ReadTable} {B = List ℕ} (HasBytes (suc at)) (table at (a_record code operands no_more)) (Ok bytes))
    → after.left ≡ now.left → after.at ≡ now.at
    → ((t : ReadTable) (behind : Records) (pieces : List Piece) → IsBefore after.left behind (ended ∷ pieces) → after.at ≡ t.at → Answers {A = ReadTable} {B = Unit {0}} (λ done kept. KeepsTable new pieces t kept) (table_ended t behind) result)
    → Answers {A = ReadTable} {B = List ℕ} (IsTable new others) (table old.at rest) (with_bytes bytes result)
rest_answers rest others old now after new code bytes result g answers left at ends =
    let r = record_given rest (ended ∷ others) old now code g in
    let i = bytes_read old.at code r.operands r.behind bytes (answers old.at r.operands r.walk r.at) in
    let told = ends i.t r.behind others (subst (λ l. IsBefore l r.behind (ended ∷ others)) (sym left) r.before) (at ∙ (r.at ∙ sym i.has.at_is)) in
    subst (λ (rs : Records). Answers {A = ReadTable} {B = List ℕ} (IsTable new others) (table old.at rs) (with_bytes bytes result)) (sym r.is) (by result i told)
  where
    by : (result : Result (Unit {0}) BitcodeFault) → (i : IsRead old.at code (record_given rest (ended ∷ others) old now code g).operands (record_given rest (ended ∷ others) old now code g).behind bytes)
        → Answers {A = ReadTable} {B = Unit {0}} (λ done kept. KeepsTable new others i.t kept) (table_ended i.t (record_given rest (ended ∷ others) old now code g).behind) result
        → Answers {A = ReadTable} {B = List ℕ} (IsTable new others) (table old.at (a_record code (record_given rest (ended ∷ others) old now code g).operands (record_given rest (ended ∷ others) old now code g).behind)) (with_bytes bytes result)
    by (Ok done) i told = table_whole old.at code (record_given rest (ended ∷ others) old now code g).operands (record_given rest (ended ∷ others) old now code g).behind others bytes new i told
    by (Err given) i told = table_failed old.at code (record_given rest (ended ∷ others) old now code g).operands (record_given rest (ended ∷ others) old now code g).behind others bytes new new given i told
