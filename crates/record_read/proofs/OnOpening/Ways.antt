-- The way into the module's block, entry by entry.
use Rattle.std.proofs.Common.{◌≡◌, ℕ, true, false, cond, List, [], ◌∷◌, nat_eq, refl, sym, ap, subst, ◌∙◌}
use Rattle.std.specs.Prelude.{Result, Ok, Err, ⊤}
use Rattle.bit_tree.specs.Pieces.{Piece, ended}
use Rattle.module_arena.specs.Module.{Module}
use Rattle.record_table.specs.Faults.{Answer, ◌>>=◌, BadRecord, Records, no_more, a_block, a_record, misplaced}
use Rattle.record_table.specs.Fields.{Texts, version_1}
use Rattle.record_table.specs.Records.{Sofar, ReadTable, nothing_behind, table}
use Rattle.record_table.specs.StringTable.{read_only}
use Rattle.record_read.specs.declared.entry.NextEntry.{NextEntry}
use Rattle.record_read.specs.declared.entry.NextEntry.TheVariants.{Block, Record, End}
use Rattle.record_read.specs.declared.fault.BitcodeFault.{BitcodeFault}
use Rattle.record_read.specs.declared.fault.BitcodeFault.TheVariants as fault
use Rattle.record_read.specs.declared.texts.Texts as the_texts
use Rattle.record_read.specs.declared.texts.Texts.TheVariants as kind
use Rattle.record_read.specs.Entries.{Gives, IsBefore}
use Rattle.record_read.specs.Faults.{Answers, IsMisplaced}
use Rattle.record_read.specs.Fields.{texts_of}
use Rattle.record_read.specs.Reader.{Reader}
use Rattle.record_read.specs.Opening.Entering.{Entered, EntersModule, IsIn, block_of, is_table_block, module_in}
use Rattle.record_read.specs.Opening.Table.{IsTable}
use Rattle.record_read.proofs.OnOpening.Answering.{fault_is, misplaced_so, out_of_memory}

-- the entry is the module's block
pub enters : (texts : the_texts.Texts) (t : Texts) (at : ℕ) (rest : Records) (old now : Reader) (given : NextEntry) (done : Unit {0}) → Gives rest old given now [] → texts_of texts ≡ t → old.at ≡ at → EntersModule given at (Ok done)
    → Answers {A = Entered} {B = the_texts.Texts} (IsIn now) (block_of t at rest) (Ok texts)
enters texts t at rest old now End done g same place e = absurd e
enters texts t at rest old now (Record code) done g same place e = absurd e
enters texts t at no_more old now (Block id) done g same place e = absurd g
enters texts t at (a_record code operands behind) old now (Block id) done g same place e = absurd g
enters texts t at (a_block other inside behind) old now (Block id) done g same place e =
    rw (ap (λ n. nat_eq n 8) (sym g.0) ∙ e) (record { texts_are = same; at_is = g.1 ∙ place; pieces = g.2.pieces; inside = g.2.inside; behind = g.2.behind })

-- another is
pub refused : (t : Texts) (at : ℕ) (rest : Records) (old now after : Reader) (given : NextEntry) (told : BitcodeFault) → Gives rest old given now [] → EntersModule given at (Err told)
    → Answers {A = Entered} {B = the_texts.Texts} (IsIn after) (block_of t at rest) (Err told)
refused t at no_more old now after End told g e = fault_is told (BadRecord 8 at 5) e
refused t at no_more old now after (Record code) told g e = absurd g
refused t at no_more old now after (Block id) told g e = absurd g
refused t at (a_record code operands behind) old now after End told g e = absurd g
refused t at (a_record code operands behind) old now after (Block id) told g e = absurd g
refused t at (a_record code operands behind) old now after (Record other) told g e = fault_is told (BadRecord 8 at 5) e
refused t at (a_block other inside behind) old now after End told g e = absurd g
refused t at (a_block other inside behind) old now after (Record code) told g e = absurd g
refused t at (a_block other inside behind) old now after (Block id) told g e =
    subst (λ b. Answers {A = Entered} {B = the_texts.Texts} (IsIn after) (cond {A = Answer Entered} b (Ok (record { texts = t; at = at; inside = inside; behind = behind })) (misplaced other at)) (Err told)) (sym (ap (λ n. nat_eq n 8) (sym g.0) ∙ e.0))
    (misplaced_so other at told (IsIn after) (subst (λ n. IsMisplaced n at told) g.0 e.1))

-- without a table
pub without_table : (at : ℕ) (all : Records) (old now : Reader) (given : NextEntry) → Gives all old given now [] → is_table_block given ≡ false → module_in at all ≡ block_of version_1 at all
without_table at no_more old now given g e = refl
without_table at (a_record code operands behind) old now given g e = refl
without_table at (a_block id inside behind) old now End g e = absurd g
without_table at (a_block id inside behind) old now (Record code) g e = absurd g
without_table at (a_block id inside behind) old now (Block given) g e =
    ap (λ b. cond {A = Answer Entered} b (table at inside >>= λ t. block_of (read_only t.bytes) t.at behind) (block_of version_1 at (a_block id inside behind))) (ap (λ n. nat_eq n 23) (sym g.0) ∙ e)

-- with one
pub record IsBegun (at : ℕ) (all : Records) (now : Reader) : Type 0 where
  pub inside : Records
  pub behind : Records
  pub pieces : List Piece
  pub before : IsBefore now.left inside (ended ∷ pieces)
  pub later : IsBefore pieces behind []
  pub is : module_in at all ≡ (table at inside >>= λ t. block_of (read_only t.bytes) t.at behind)

pub begun : (at : ℕ) (all : Records) (old now : Reader) (given : NextEntry) → Gives all old given now [] → is_table_block given ≡ true → IsBegun at all now × (now.at ≡ old.at)
begun at no_more old now End g e = absurd (cc)
begun at no_more old now (Record code) g e = absurd g
begun at no_more old now (Block id) g e = absurd g
begun at (a_record code operands behind) old now End g e = absurd g
begun at (a_record code operands behind) old now (Block id) g e = absurd g
begun at (a_record code operands behind) old now (Record other) g e = absurd (cc)
begun at (a_block id inside behind) old now End g e = absurd g
begun at (a_block id inside behind) old now (Record code) g e = absurd g
begun at (a_block id inside behind) old now (Block given) g e = (
  record {
    inside = inside;
    behind = behind;
    pieces = g.2.pieces;
    before = g.2.inside;
    later = g.2.behind;
    is = ap (λ b. cond {A = Answer Entered} b (table at inside >>= λ t. block_of (read_only t.bytes) t.at behind) (block_of version_1 at (a_block id inside behind))) (ap (λ n. nat_eq n 23) (sym g.0) ∙ e);
  },
  g.1,
)

-- the table stands behind no record of the stream's
pub table_at : (old now : Reader) (new : Reader) (pieces : List Piece) (result : Result (List ℕ) BitcodeFault) → (inside : Records) → now.at ≡ old.at → Answers {A = ReadTable} {B = List ℕ} (IsTable new pieces) (table now.at inside) result
    → Answers {A = ReadTable} {B = List ℕ} (IsTable new pieces) (table old.at inside) result
table_at old now new pieces result inside same h = subst (λ n. Answers {A = ReadTable} {B = List ℕ} (IsTable new pieces) (table n inside) result) same h

-- the table is refused
pub table_refused : (at : ℕ) (all : Records) (now after new : Reader) (given : BitcodeFault) (b : IsBegun at all now) → Answers {A = ReadTable} {B = List ℕ} (IsTable after b.pieces) (table at b.inside) (Err given)
    → Answers {A = Entered} {B = the_texts.Texts} (IsIn new) (module_in at all) (Err given)
table_refused at all now after new given b h = rw b.is (by (table at b.inside) h)
  where
    by : (a : Answer ReadTable) → Answers {A = ReadTable} {B = List ℕ} (IsTable after b.pieces) a (Err given) → Answers {A = Entered} {B = the_texts.Texts} (IsIn new) (a >>= λ t. block_of (read_only t.bytes) t.at b.behind) (Err given)
    by (Ok t) k = out_of_memory (IsIn new) (block_of (read_only t.bytes) t.at b.behind) given k
    by (Err told) k = k

-- the table was read: then comes the module's block
pub record IsTabled (at : ℕ) (all : Records) (bytes : List ℕ) (after : Reader) : Type 0 where
  pub t : ReadTable
  pub behind : Records
  pub before : IsBefore after.left behind []
  pub bytes_are : bytes ≡ t.bytes
  pub at_is : after.at ≡ t.at
  pub is : module_in at all ≡ block_of (read_only t.bytes) t.at behind

pub tabled : (at : ℕ) (all : Records) (now after : Reader) (bytes : List ℕ) (b : IsBegun at all now) → Answers {A = ReadTable} {B = List ℕ} (IsTable after b.pieces) (table at b.inside) (Ok bytes) → IsTabled at all bytes after
tabled at all now after bytes b h = by (table at b.inside) refl h
  where
    by : (a : Answer ReadTable) → table at b.inside ≡ a → Answers {A = ReadTable} {B = List ℕ} (IsTable after b.pieces) a (Ok bytes) → IsTabled at all bytes after
    by (Err told) is k = absurd k
    by (Ok t) is k = record {
      t = t;
      behind = b.behind;
      before = subst (λ l. IsBefore l b.behind []) (sym k.left) b.later;
      bytes_are = k.bytes_are;
      at_is = k.at_is;
      is = b.is ∙ ap (λ a. a >>= λ t. block_of (read_only t.bytes) t.at b.behind) is;
    }

-- ---- behind the module's block

pub over : (s : Sofar) (behind : Records) (old now : Reader) → Gives behind old End now [] → Answers {A = Module} {B = Unit {0}} (λ done m. ⊤) (nothing_behind s behind) (Ok tt)
over s no_more old now g = tt
over s (a_block id inside later) old now g = absurd g
over s (a_record code operands later) old now g = absurd g

pub block_behind : (s : Sofar) (behind : Records) (old now : Reader) (id : ℕ) (given : BitcodeFault) → Gives behind old (Block id) now [] → old.at ≡ s.at → IsMisplaced id old.at given
    → Answers {A = Module} {B = Unit {0}} (λ done m. ⊤) (nothing_behind s behind) (Err given)
block_behind s no_more old now id given g place bad = absurd g
block_behind s (a_record code operands later) old now id given g place bad = absurd g
block_behind s (a_block other inside later) old now id given g place bad =
    misplaced_so other s.at given (λ done m. ⊤) (subst (λ (p : ℕ × ℕ). IsMisplaced p.0 p.1 given) (λ j. (g.0 j, place j)) bad)

pub record_behind : (s : Sofar) (behind : Records) (old now : Reader) (code : ℕ) (given : BitcodeFault) → Gives behind old (Record code) now [] → given ≡ fault.BadRecord 8 s.at 5
    → Answers {A = Module} {B = Unit {0}} (λ done m. ⊤) (nothing_behind s behind) (Err given)
record_behind s no_more old now code given g is = absurd g
record_behind s (a_block id inside later) old now code given g is = absurd g
record_behind s (a_record other operands later) old now code given g is = fault_is given (BadRecord 8 s.at 5) is

-- ---- the answers

-- an entry that is no table's is the module's block, or refused
pub answers_inline : (all : Records) (old now : Reader) (given : NextEntry) (done : Unit {0}) → Gives all old given now [] → is_table_block given ≡ false → EntersModule given old.at (Ok done)
    → Answers {A = Entered} {B = the_texts.Texts} (IsIn now) (module_in old.at all) (Ok kind.Inline)
answers_inline all old now given done g other e = rw (without_table old.at all old now given g other) (enters kind.Inline version_1 old.at all old now given done g refl refl e)

pub refuses_inline : (all : Records) (old now after : Reader) (given : NextEntry) (told : BitcodeFault) (here : ℕ) → Gives all old given now [] → is_table_block given ≡ false → here ≡ old.at → EntersModule given here (Err told)
    → Answers {A = Entered} {B = the_texts.Texts} (IsIn after) (module_in old.at all) (Err told)
refuses_inline all old now after given told here g other is e =
    rw (without_table old.at all old now given g other) (refused version_1 old.at all old now after given told g (subst (λ n. EntersModule given n (Err told)) is e))

-- an entry behind a table is the module's block, or refused
pub answers_tabled : (at : ℕ) (all : Records) (bytes : List ℕ) (after now : Reader) (given : NextEntry) (done : Unit {0}) (i : IsTabled at all bytes after) → Gives i.behind after given now [] → EntersModule given after.at (Ok done)
    → Answers {A = Entered} {B = the_texts.Texts} (IsIn now) (module_in at all) (Ok (kind.Table bytes))
answers_tabled at all bytes after now given done i g e =
    rw i.is (enters (kind.Table bytes) (read_only i.t.bytes) i.t.at i.behind after now given done g (ap read_only i.bytes_are) i.at_is (subst (λ n. EntersModule given n (Ok done)) i.at_is e))

pub refuses_tabled : (at : ℕ) (all : Records) (bytes : List ℕ) (after now new : Reader) (given : NextEntry) (told : BitcodeFault) (here : ℕ) (i : IsTabled at all bytes after) → Gives i.behind after given now [] → here ≡ after.at
    → EntersModule given here (Err told)
    → Answers {A = Entered} {B = the_texts.Texts} (IsIn new) (module_in at all) (Err told)
refuses_tabled at all bytes after now new given told here i g is e =
    rw i.is (refused (read_only i.t.bytes) i.t.at i.behind after now new given told g (subst (λ n. EntersModule given n (Err told)) (is ∙ i.at_is) e))
