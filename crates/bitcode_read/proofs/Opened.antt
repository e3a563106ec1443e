-- A stream whose module's block was entered, and what the rest of it answers.
use Rattle.std.proofs.Common.{◌≡◌, ℕ, Bool, true, false, ◌&&◌, cond, [], ◌∷◌, nat_eq, refl, sym, ap, subst, ◌∙◌}
use Rattle.std.specs.Prelude.{Ok, Err, ⊤}
use Rattle.std.proofs.lemmas.Bool.{eqb-true}
use Rattle.bit_tree.specs.Pieces.{ended}
use Rattle.bit_tree.specs.Stream.{StreamTree}
use Rattle.module_arena.specs.Lists.{Lists}
use Rattle.module_arena.specs.Module.{Module}
use Rattle.record_table.specs.Faults.{Answer, ◌>>=◌, BadRecord, ForeignProducer, Records, UnknownRecord, a_block, a_record, is_block_id, no_more, records}
use Rattle.record_table.specs.Fields.{Texts, version_1}
use Rattle.record_table.specs.Records.{Sofar, at_first, is_ours, module_behind, module_from, module_of, nothing_behind, producer_from, read, table}
use Rattle.record_table.specs.StringTable.{read_only}
use Rattle.record_read.specs.declared.fault.BitcodeFault.{BitcodeFault}
use Rattle.record_read.specs.declared.fault.BitcodeFault.TheVariants as fault
use Rattle.record_read.specs.declared.texts.Texts as the_texts
use Rattle.record_read.specs.Entries.{IsBefore}
use Rattle.record_read.specs.Faults.{Answers}
use Rattle.record_read.specs.Fields.{texts_of}
use Rattle.record_read.specs.Reader.{Reader}
use Rattle.bitcode_read.specs.Head.Ahead.{IsAhead, first_module}
use Rattle.bitcode_read.specs.declared.head.ahead.ModuleAhead.{ModuleAhead}
use Rattle.record_read.specs.Opening.Entering.{Entered, IsIn, block_of, module_in}
use Rattle.record_read.specs.Opening.Producer.{IsBehind, IsWholeStream, producer_of}
use Rattle.record_read.proofs.OnOpening.Answering.{out_of_memory}
use Rattle.record_law.proofs.OnFormed.Records.{never_misplaced, then_ok}
use Rattle.bitcode_read.specs.Answers.{IsModule}
use Rattle.bitcode_read.specs.Opening.{IsOpened, Opens}
use Rattle.bitcode_read.proofs.Chained.{entered_module, module_is, read_is}

-- what is kept means what is answered
pub record IsMeant {A B : Type 0} (means : B → A → Type 0) (a : Answer A) (kept : B) : Type 0 where
  pub value : A
  pub is : a ≡ Ok value
  pub meant : means kept value

pub meant_by : {A B : Type 0} (means : B → A → Type 0) (a : Answer A) (kept : B) → Answers means a (Ok kept) → IsMeant means a kept
meant_by means (Ok value) kept h = record { value = value; is = refl; meant = h }
meant_by means (Err told) kept h = absurd h

-- a refusal in front is one of the whole
pub refused_in_front : {A B C D : Type 0} (means : C → A → Type 0) (other : D → B → Type 0) (a : Answer A) (f : A → Answer B) (given : BitcodeFault) → Answers {A = A} {B = C} means a (Err given) → Answers {A = B} {B = D} other (a >>= f) (Err given)
refused_in_front means other (Ok x) f given h = out_of_memory other (f x) given h
refused_in_front means other (Err told) f given h = h

pub refused_so : {A B C : Type 0} (means : B → A → Type 0) (other : C → A → Type 0) (a : Answer A) (given : BitcodeFault) → Answers {A = A} {B = B} means a (Err given) → Answers {A = A} {B = C} other a (Err given)
refused_so means other (Ok value) given h = h
refused_so means other (Err told) given h = h

-- ---- the module's block is the first of its id

-- one answer has one value
pub same_ok : {A : Type 0} (x y : A) (a : Answer A) → a ≡ Ok x → a ≡ Ok y → x ≡ y
same_ok x y a e f = cc

first_behind : (all : Records) (p : ℕ × Records) → producer_of all ≡ Ok p → first_module all ≡ first_module p.1
first_behind no_more p e = absurd (cc)
first_behind (a_record code operands behind) p e = absurd (cc)
first_behind (a_block id inside behind) p e = by (nat_eq id 13) (is_ours inside) refl e
  where
    there : (b c : Bool) → nat_eq id 13 ≡ true → (producer_from 0 inside >>= λ at. Ok (at, behind)) ≡ Ok p → first_module (a_block id inside behind) ≡ first_module p.1
    there b c is e =
        let x = then_ok (producer_from 0 inside) (λ at. Ok (at, behind)) p e in
        ap (λ n. first_module (a_block n inside behind)) (eqb-true id 13 is) ∙ ap (λ (q : ℕ × Records). first_module q.1) (same_ok {A = ℕ × Records} (x.0, behind) p (Ok (x.0, behind)) refl x.1.1)

    by : (b c : Bool) → nat_eq id 13 ≡ b → cond {A = Answer (ℕ × Records)} (b && c) (producer_from 0 inside >>= λ at. Ok (at, behind)) (Err ForeignProducer) ≡ Ok p → first_module (a_block id inside behind) ≡ first_module p.1
    by true true is e = there true true is e
    by true false is e = absurd (cc)
    by false c is e = absurd (cc)

first_block : (t : Texts) (at : ℕ) (all : Records) (e : Entered) → block_of t at all ≡ Ok e → first_module all ≡ e.inside
first_block t at no_more e h = absurd (cc)
first_block t at (a_record code operands behind) e h = absurd (cc)
first_block t at (a_block id inside behind) e h = by (nat_eq id 8) refl h
  where
    made : Entered
    made = record { texts = t; at = at; inside = inside; behind = behind }

    by : (b : Bool) → nat_eq id 8 ≡ b → cond {A = Answer Entered} b (Ok made) (cond {A = Answer Entered} (is_block_id id) (Err (BadRecord id at 5)) (Err (UnknownRecord id 0))) ≡ Ok e → cond b inside (first_module behind) ≡ e.inside
    by true is h = ap (λ (x : Entered). x.inside) (same_ok made e (Ok made) refl h)
    by false is h = absurd (never_misplaced id at (is_block_id id) e h)

entered_first : (at : ℕ) (all : Records) (e : Entered) → module_in at all ≡ Ok e → first_module all ≡ e.inside
entered_first at no_more e h = absurd (cc)
entered_first at (a_record code operands behind) e h = absurd (cc)
entered_first at (a_block id inside behind) e h = by (nat_eq id 23) refl h
  where
    by : (b : Bool) → nat_eq id 23 ≡ b → cond {A = Answer Entered} b (table at inside >>= λ t. block_of (read_only t.bytes) t.at behind) (block_of version_1 at (a_block id inside behind)) ≡ Ok e → first_module (a_block id inside behind) ≡ e.inside
    by true is h =
        let x = then_ok (table at inside) (λ t. block_of (read_only t.bytes) t.at behind) e h in
        ap (λ n. first_module (a_block n inside behind)) (eqb-true id 23 is) ∙ first_block (read_only x.0.bytes) x.0.at behind e x.1.1
    by false is h = first_block version_1 at (a_block id inside behind) e h

-- ---- the stream so far

-- the reader stands in the module's block
pub record IsEntered (tree : StreamTree) (texts : the_texts.Texts) (r : Reader) : Type 0 where
  pub p : ℕ × Records
  pub producer : producer_of (records tree) ≡ Ok p
  pub e : Entered
  pub is : module_in p.0 p.1 ≡ Ok e
  pub is_in : IsIn r texts e

pub entered : (tree : StreamTree) (texts : the_texts.Texts) (behind r : Reader) → Answers {A = ℕ × Records} {B = Unit {0}} (λ done read. IsBehind behind read) (producer_of (records tree)) (Ok tt)
    → ((all : Records) → IsBefore behind.left all [] → Answers {A = Entered} {B = the_texts.Texts} (IsIn r) (module_in behind.at all) (Ok texts)) → IsEntered tree texts r
entered tree texts behind r h enters =
    let x = meant_by {A = ℕ × Records} {B = Unit {0}} (λ done read. IsBehind behind read) (producer_of (records tree)) tt h in
    let y = meant_by {A = Entered} {B = the_texts.Texts} (IsIn r) (module_in behind.at x.value.1) texts (enters x.value.1 x.meant.before) in
    record { p = x.value; producer = x.is; e = y.value; is = ap (λ n. module_in n x.value.1) (sym x.meant.at) ∙ y.is; is_in = y.meant }

module _ (tree : StreamTree) (texts : the_texts.Texts) (r : Reader) (o : IsEntered tree texts r) where
  inside_is : first_module (records tree) ≡ o.e.inside
  inside_is = first_behind (records tree) o.p o.producer ∙ entered_first o.p.0 o.p.1 o.e o.is

  -- the reader is in front of what is in the block
  before_inside : IsBefore r.left (first_module (records tree)) (ended ∷ o.is_in.pieces)
  before_inside = subst (λ rs. IsBefore r.left rs (ended ∷ o.is_in.pieces)) (sym inside_is) o.is_in.inside

  -- what the stream answers
  read_opened : read (records tree) ≡ entered_module o.e
  read_opened =
      read_is (records tree)
      ∙ (ap (λ (a : Answer (ℕ × Records)). a >>= λ p. module_behind p.0 p.1) o.producer
      ∙ (module_is o.p.0 o.p.1 ∙ ap (λ (a : Answer Entered). a >>= entered_module) o.is))

  -- what the block answers
  abbrev in_block : Answer Sofar
  in_block = module_from (at_first (texts_of texts) r.at (first_module (records tree))) (first_module (records tree))

  block_is : in_block ≡ module_from (at_first o.e.texts o.e.at o.e.inside) o.e.inside
  block_is = λ j. module_from (at_first (o.is_in.texts_are j) (o.is_in.at_is j) (inside_is j)) (inside_is j)

  read_on : read (records tree) ≡ (in_block >>= λ s. nothing_behind s o.e.behind)
  read_on = read_opened ∙ ap (λ (a : Answer Sofar). a >>= λ s. nothing_behind s o.e.behind) (sym block_is)

  pub opens : (known : ModuleAhead) → IsAhead (texts_of texts) (first_module (records tree)) known → IsOpened tree texts r known
  opens known ahead = record { others = o.is_in.pieces; behind = o.e.behind; before = before_inside; later = o.is_in.behind; is_known = ahead; from = read_on }

-- nothing stands behind the block: the module is that of what was read
module_last : (s : Sofar) (behind : Records) (m : Module) → nothing_behind s behind ≡ Ok m → module_of s ≡ m
module_last s no_more m e = cc
module_last s (a_block id inside behind) m e = absurd (never_misplaced id s.at (is_block_id id) m e)
module_last s (a_record code operands behind) m e = absurd (cc)

pub module_read : (s : Sofar) (behind : Records) (arena : Lists) → Answers {A = Module} {B = Unit {0}} (λ done m. ⊤) (nothing_behind s behind) (Ok tt) → IsModule arena (module_of s)
    → Answers {A = Module} {B = Lists} IsModule (nothing_behind s behind) (Ok arena)
module_read s behind arena h is = by (nothing_behind s behind) refl h
  where
    by : (a : Answer Module) → nothing_behind s behind ≡ a → Answers {A = Module} {B = Unit {0}} (λ done m. ⊤) a (Ok tt) → Answers {A = Module} {B = Lists} IsModule a (Ok arena)
    by (Ok m) e k = is ∙ module_last s behind m e
    by (Err told) e k = absurd k

-- a whole stream is left behind the producer's block
pub rest_is_whole : (all : Records) (behind : Reader) → Answers {A = ℕ × Records} {B = Unit {0}} (λ done read. IsBehind behind read) (producer_of all) (Ok tt) → IsWholeStream behind.left
rest_is_whole all behind h =
    let x = meant_by {A = ℕ × Records} {B = Unit {0}} (λ done read. IsBehind behind read) (producer_of all) tt h in
    record { all = x.value.1; before = x.meant.before }

-- want of memory
pub opens_nothing : (tree : StreamTree) (given : BitcodeFault) → given ≡ fault.Memory → Opens tree (Err given)
opens_nothing tree given is = out_of_memory {A = Module} {B = Lists} IsModule (read (records tree)) given is

-- a refusal of the producer, or in front of the module's block
pub producer_refused : (all : Records) (behind : Reader) (given : BitcodeFault) → Answers {A = ℕ × Records} {B = Unit {0}} (λ done read. IsBehind behind read) (producer_of all) (Err given) → Answers {A = Module} {B = Lists} IsModule (read all) (Err given)
producer_refused all behind given h = subst (λ (a : Answer Module). Answers {A = Module} {B = Lists} IsModule a (Err given)) (sym (read_is all)) (refused_in_front _ IsModule (producer_of all) (λ p. module_behind p.0 p.1) given h)

pub texts_refused : (all : Records) (behind r : Reader) (given : BitcodeFault) → Answers {A = ℕ × Records} {B = Unit {0}} (λ done read. IsBehind behind read) (producer_of all) (Ok tt)
    → ((rest : Records) → IsBefore behind.left rest [] → Answers {A = Entered} {B = the_texts.Texts} (IsIn r) (module_in behind.at rest) (Err given)) → Answers {A = Module} {B = Lists} IsModule (read all) (Err given)
texts_refused all behind r given h refused =
    let x = meant_by {A = ℕ × Records} {B = Unit {0}} (λ done read. IsBehind behind read) (producer_of all) tt h in
    let told = subst (λ n. Answers {A = Entered} {B = the_texts.Texts} (IsIn r) (module_in n x.value.1) (Err given)) x.meant.at (refused x.value.1 x.meant.before) in
    subst (λ (a : Answer Module). Answers {A = Module} {B = Lists} IsModule a (Err given))
    (sym (read_is all ∙ (ap (λ (a : Answer (ℕ × Records)). a >>= λ p. module_behind p.0 p.1) x.is ∙ module_is x.value.0 x.value.1)))
    (refused_in_front _ IsModule (module_in x.value.0 x.value.1) entered_module given told)
