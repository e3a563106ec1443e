-- A body as it is read, record by record.
use Rattle.std.proofs.Common.{◌≡◌, ◌<◌, ℕ, suc, false, List, ◌∷◌, length, None, refl, sym, ap, subst, ◌∙◌, arith}
use Rattle.std.specs.Prelude.{Ok, Err}
use Rattle.std.proofs.lemmas.List.{length-append}
use Rattle.bit_tree.specs.Pieces.{Piece, ended, flat}
use Rattle.record_table.specs.Bodies as bodies
use Rattle.record_table.specs.Bodies.{Labels, at_first, body, body_from, labels, with_record}
use Rattle.record_table.specs.Faults.{Answer, ◌>>=◌, Records, no_more, a_block, a_record}
use Rattle.record_table.specs.Fields.{Numbering}
use Rattle.record_table.specs.Walk.{going}
use Rattle.record_law.proofs.OnLabels.Ahead.{IsAhead, first_ahead, record_step, value_ahead}
use Rattle.record_read.specs.declared.entry.NextEntry.{NextEntry}
use Rattle.record_read.specs.declared.entry.NextEntry.TheVariants.{Block, Record, End}
use Rattle.record_read.specs.declared.fault.BitcodeFault.{BitcodeFault}
use Rattle.record_read.specs.declared.texts.Texts as the_texts
use Rattle.record_read.specs.Entries.{IsBefore, IsNearer, Gives}
use Rattle.record_read.specs.Faults.{Answers, IsMisplaced}
use Rattle.record_read.specs.Fields.{texts_of}
use Rattle.record_read.specs.Reader.{Reader}
use Rattle.type_read.specs.declared.arena.module_reader.ModuleReader.{ModuleReader}
use Rattle.type_read.specs.Arena.Numbered.{Numbers, IsDeclared}
use Rattle.type_read.proofs.OnArena.Kept.{grows_self, grows_two}
use Rattle.body_read.specs.Operands.Found.{Always}
use Rattle.body_read.specs.Ahead.Ahead.{AreCounts}
use Rattle.body_read.specs.declared.blocks.begun.Begun.{Begun}
use Rattle.body_read.specs.Blocks.Begun.{Follows, Has, IsBody, Means, Passes, StartsEmpty}
use Rattle.body_read.proofs.OnBlocks.Parametered.{texts_sound}
use Rattle.body_read.specs.Whole.{AreCounted, IsRead, IsRefused, KeepsCounts, NumbersOutside, numbering_in}
use Rattle.body_read.proofs.Started.{declared_on, empty_follows, empty_has, empty_means, numbers_on}
use Rattle.body_read.proofs.Told.{misplaced_so, step_refused}

-- ---- what is kept whatever is read

-- an entry was given, with what is left
abbrev pub Gone : Reader → NextEntry → Reader → Type 0
Gone old entry new = (new.spent ≡ false) × IsNearer entry old.left new.left × ((all : Records) (others : List Piece) → IsBefore old.left all others → Gives all old entry new others)

pub gone : (old new : Reader) (given entry : NextEntry) → Gone old given new → given ≡ entry → Gone old entry new
gone old new given entry h is = subst (λ x. Gone old x new) is h

pub keeps_none : (m : ModuleReader) → KeepsCounts m m
keeps_none m = record { grows = grows_self m.growing; globals = refl; locals = refl }

-- a record was passed
pub keeps_on : (first now new : ModuleReader) (r : Reader) → KeepsCounts first now → Passes (record now { reader = r }) new → KeepsCounts first new
keeps_on first now new r h p = record {
  grows = grows_two first.growing now.growing new.growing h.grows p.grows;
  globals = p.globals ∙ h.globals;
  locals = p.locals ∙ h.locals;
}

-- another entry was given
pub keeps_given : (first now : ModuleReader) (r : Reader) → KeepsCounts first now → KeepsCounts first (record now { reader = r })
keeps_given first now r h = record { grows = h.grows; globals = h.globals; locals = h.locals }

-- something of the block, and its end, are to come
pub record IsLeft (others : List Piece) (left : List Piece) : Type 0 where
  pub rest : Records
  pub before : IsBefore left rest (ended ∷ others)

pub left_after : (others r q : List Piece) → q ≡ r → IsLeft others r → IsLeft others q
left_after others r q is h = subst (IsLeft others) (sym is) h

-- a record was given
pub left_on : (others : List Piece) (r q : Reader) (code : ℕ) → IsLeft others r.left → ((all : Records) (rest : List Piece) → IsBefore r.left all rest → Gives all r (Record code) q rest) → (0 < q.at) × IsLeft others q.left
left_on others r q code h gives = by h.rest (gives h.rest (ended ∷ others) h.before)
  where
    some : (n m : ℕ) → n ≡ suc m → 0 < n
    some n m e = omega (arith, e)

    by : (rest : Records) → Gives rest r (Record code) q (ended ∷ others) → (0 < q.at) × IsLeft others q.left
    by no_more g = absurd g
    by (a_block id held behind) g = absurd g
    by (a_record other operands behind) g = (some q.at r.at g.1, record { rest = behind; before = g.3 })

-- the end was given
pub left_ends : (others : List Piece) (r q : Reader) → IsLeft others r.left → ((all : Records) (rest : List Piece) → IsBefore r.left all rest → Gives all r End q rest) → q.left ≡ others
left_ends others r q h gives = by h.rest (gives h.rest (ended ∷ others) h.before)
  where
    by : (rest : Records) → Gives rest r End q (ended ∷ others) → q.left ≡ others
    by no_more g = g.1
    by (a_block id held behind) g = absurd g
    by (a_record code operands behind) g = absurd g

-- less is left behind a block
pub fewer : (left : List Piece) (inside : Records) (others : List Piece) → IsBefore left inside (ended ∷ others) → length others < length left
fewer left inside others before =
    let size = ap length before.left_is in
    let parts = length-append (flat before.tree) (ended ∷ others) in
    omega (arith, size, parts)

-- ---- what is read

module _ (x : the_texts.Texts) (k : Numbering) (count : ℕ) (inside : Records) (others : List Piece) (first : ModuleReader) where
  abbrev pub all : Labels
  all = labels (texts_of x) k count inside

  -- what indices stand for in the body
  abbrev pub q : Numbering
  q = numbering_in x k count inside

  -- so far this is read, and `rest` is to come
  pub record IsReading (now : ModuleReader) (b : Begun) : Type 0 where
    pub rest : Records
    pub s : bodies.Begun
    pub before : IsBefore now.reader.left rest (ended ∷ others)
    pub same : body (texts_of x) k count first.reader.at inside ≡ body_from (texts_of x) q count s rest
    pub ahead : IsAhead (texts_of x) k count all s s.due rest
    pub follows : Follows count b s
    pub place : now.reader.at ≡ s.at
    pub keeps : KeepsCounts first now
    pub numbers : Numbers first q
    pub has : Always now.growing (λ a. Has now.locals a count b)
    pub means : IsDeclared first k → Always now.growing (λ a. Means a q b s)

  pub reading_starts : (b : Begun) → StartsEmpty b → IsBefore first.reader.left inside (ended ∷ others) → NumbersOutside first k → AreCounts first.locals all → IsReading first b
  reading_starts b e before outside counts = record {
    rest = inside;
    s = at_first first.reader.at;
    before = before;
    same = refl;
    ahead = first_ahead (texts_of x) k count first.reader.at inside;
    follows = empty_follows count first.reader.at b e;
    place = refl;
    keeps = keeps_none first;
    numbers = outside all.values all.blocks (sym counts.values) (sym counts.blocks);
    has = λ later g. empty_has first.locals later.arena count b e;
    means = λ declared later g. empty_means q later.arena first.reader.at b e;
  }

  -- a record that is in front
  pub record IsStep (now : ModuleReader) (b : Begun) (code : ℕ) : Type 0 where
    pub s : bodies.Begun
    pub operands : List ℕ
    pub behind : Records
    pub walk : now.reader.walk ≡ going operands None
    pub at : now.reader.at ≡ suc s.at
    pub before : IsBefore now.reader.left behind (ended ∷ others)
    pub same : body (texts_of x) k count first.reader.at inside ≡ (with_record (texts_of x) q count s code operands >>= λ u. body_from (texts_of x) q count u behind)
    pub ahead : IsAhead (texts_of x) k count all s s.due (a_record code operands behind)
    pub follows : Follows count b s
    pub keeps : KeepsCounts first now
    pub numbers : Numbers first q
    pub has : Always now.growing (λ a. Has now.locals a count b)
    pub means : IsDeclared first k → Always now.growing (λ a. Means a q b s)

  pub step : (now : ModuleReader) (r : Reader) (b : Begun) (code : ℕ) → IsReading now b → ((every : Records) (rest : List Piece) → IsBefore now.reader.left every rest → Gives every now.reader (Record code) r rest) → IsStep (record now { reader = r }) b code
  step now r b code h gives = by h.rest h.same h.ahead (gives h.rest (ended ∷ others) h.before)
    where
      by : (rest : Records) → body (texts_of x) k count first.reader.at inside ≡ body_from (texts_of x) q count h.s rest → IsAhead (texts_of x) k count all h.s h.s.due rest → Gives rest now.reader (Record code) r (ended ∷ others)
          → IsStep (record now { reader = r }) b code
      by no_more same ahead g = absurd g
      by (a_block id held behind) same ahead g = absurd g
      by (a_record other operands behind) same ahead g = record {
        s = h.s;
        operands = operands;
        behind = behind;
        walk = g.2;
        at = g.1 ∙ ap suc h.place;
        before = g.3;
        same = same ∙ ap (λ c. with_record (texts_of x) q count h.s c operands >>= λ u. body_from (texts_of x) q count u behind) (sym g.0);
        ahead = subst (λ c. IsAhead (texts_of x) k count all h.s h.s.due (a_record c operands behind)) (sym g.0) ahead;
        follows = h.follows;
        keeps = keeps_given first now r h.keeps;
        numbers = h.numbers;
        has = h.has;
        means = h.means;
      }

  module _ (now : ModuleReader) (b : Begun) (code : ℕ) (h : IsStep now b code) where
    -- what is asked of the record
    pub step_numbers : Numbers now q
    step_numbers = numbers_on first now q h.keeps.grows h.keeps.globals h.keeps.locals h.numbers

    pub step_counted : AreCounted x q h.s code h.operands
    step_counted = λ o not is end line unbroken name named.
        (value_ahead (texts_of x) k count (texts_sound x) all all.values all.blocks h.s code h.operands h.behind o name not is end line h.ahead unbroken named).1

    -- the record was read
    pub step_goes : (new : ModuleReader) (after : Begun) (done : Unit {0}) → Answers {B = Unit {0}} (λ done u. IsBody q count now new b after h.s u) (with_record (texts_of x) q count h.s code h.operands) (Ok done) → IsReading new after
    step_goes new after done answer = by (with_record (texts_of x) q count h.s code h.operands) refl answer
      where
        by : (o : Answer bodies.Begun) → with_record (texts_of x) q count h.s code h.operands ≡ o → Answers {B = Unit {0}} (λ done u. IsBody q count now new b after h.s u) o (Ok done) → IsReading new after
        by (Ok u) is g = record {
          rest = h.behind;
          s = u;
          before = subst (λ l. IsBefore l h.behind (ended ∷ others)) (sym g.passes.left) h.before;
          same = h.same ∙ ap (λ (o : Answer bodies.Begun). o >>= λ v. body_from (texts_of x) q count v h.behind) is;
          ahead = record_step (texts_of x) k count (texts_sound x) all all.values all.blocks h.s u code h.operands h.behind h.ahead is;
          follows = g.follows;
          place = g.passes.at ∙ (h.at ∙ sym g.at);
          keeps = keeps_on first now new now.reader h.keeps g.passes;
          numbers = h.numbers;
          has = g.has h.has;
          means = λ declared. g.means (declared_on first now q h.keeps.grows h.keeps.globals declared) (h.means declared);
        }
        by (Err told) is g = absurd g

    -- the record was refused, and so is the body
    pub record_refused : (new : ModuleReader) (after : Begun) (given : BitcodeFault)
        → Answers {B = Unit {0}} (λ done u. IsBody q count now new b after h.s u) (with_record (texts_of x) q count h.s code h.operands) (Err given)
        → IsRefused (body (texts_of x) k count first.reader.at inside) given
    record_refused new after given answer =
        step_refused {E = Unit {0}} (λ done u. IsBody q count now new b after h.s u) (body (texts_of x) k count first.reader.at inside) (with_record (texts_of x) q count h.s code h.operands) (λ u. body_from (texts_of x) q count u h.behind) given h.same answer

  -- a block in the body is refused
  pub block_refused : (now : ModuleReader) (r : Reader) (b : Begun) (id : ℕ) (given : BitcodeFault) → IsReading now b
      → ((every : Records) (rest : List Piece) → IsBefore now.reader.left every rest → Gives every now.reader (Block id) r rest) → IsMisplaced id r.at given → IsRefused (body (texts_of x) k count first.reader.at inside) given
  block_refused now r b id given h gives bad = by h.rest h.same (gives h.rest (ended ∷ others) h.before)
    where
      by : (rest : Records) → body (texts_of x) k count first.reader.at inside ≡ body_from (texts_of x) q count h.s rest → Gives rest now.reader (Block id) r (ended ∷ others)
          → IsRefused (body (texts_of x) k count first.reader.at inside) given
      by no_more same g = absurd g
      by (a_record code operands behind) same g = absurd g
      by (a_block other held behind) same g =
          let there : IsMisplaced other h.s.at given = subst (λ (p : ℕ × ℕ). IsMisplaced p.0 p.1 given) (λ j. (g.0 j, (g.1 ∙ h.place) j)) bad in
          subst (λ (o : Answer bodies.Begun). IsRefused o given) (sym same) (misplaced_so other h.s.at given there)

  -- the end of the block: all records were read
  pub reading_ends : (now : ModuleReader) (r : Reader) (b : Begun) → IsReading now b → ((every : Records) (rest : List Piece) → IsBefore now.reader.left every rest → Gives every now.reader End r rest)
      → IsRead x k count inside first (record now { reader = r }) b
  reading_ends now r b h gives = by h.rest h.same (gives h.rest (ended ∷ others) h.before)
    where
      by : (rest : Records) → body (texts_of x) k count first.reader.at inside ≡ body_from (texts_of x) q count h.s rest → Gives rest now.reader End r (ended ∷ others) → IsRead x k count inside first (record now { reader = r }) b
      by no_more same g = record { s = h.s; same = same; follows = h.follows; at = g.0 ∙ h.place; has = h.has; means = h.means }
      by (a_block id held behind) same g = absurd g
      by (a_record code operands behind) same g = absurd g
