-- What the block of a body answers.
use Rattle.std.proofs.Common.{◌≡◌, ℕ, true, false, List, ◌∷◌, ◌++◌, [], length, slice_get, Some, refl, sym, ap, subst, ◌∙◌}
use Rattle.std.specs.Prelude.{Result, Ok, Err}
use Rattle.bit_tree.specs.Pieces.{Piece, ended}
use Rattle.module_arena.specs.declared.entry.Body as the_body
use Rattle.module_arena.specs.declared.entry.Function as the_function
use Rattle.module_arena.specs.Lists.{Lists}
use Rattle.record_table.specs.Bodies.{Begun, body, labels}
use Rattle.record_table.specs.Faults.{Answer, ◌>>=◌, Records, a_block}
use Rattle.record_table.specs.Fields.{Numbering, Texts}
use Rattle.record_table.specs.Records as records
use Rattle.record_table.specs.Records.{give_body, may_follow}
use Rattle.record_read.specs.declared.fault.BitcodeFault.{BitcodeFault}
use Rattle.record_read.specs.Entries.{IsBefore}
use Rattle.record_read.specs.Faults.{Answers}
use Rattle.type_read.specs.declared.arena.counts.LocalCounts.{LocalCounts}
use Rattle.type_read.specs.declared.arena.module_reader.ModuleReader.{ModuleReader}
use Rattle.body_read.specs.Ahead.Ahead.{AreCounts}
use Rattle.body_read.specs.Whole.{IsWhole, KeepsCounts, NumbersOutside}
use Rattle.bitcode_read.specs.declared.head.ahead.ModuleAhead.{ModuleAhead}
use Rattle.record_read.specs.Order.Due.{due_at}
use Rattle.bitcode_read.specs.declared.sofar.Sofar.{Sofar}
use Rattle.bitcode_read.specs.Sofar.{IsNextCounts, IsOut, IsSofar}
use Rattle.bitcode_read.proofs.Bodies.{counts_inside, numbers_outside}
use Rattle.bitcode_read.proofs.BodyBlocks.{ahead, body_is, body_sofar, first, first_long, there}
use Rattle.bitcode_read.proofs.Opened.{refused_in_front}

-- the body's function is in the arena: so many parameters it has
pub count_here : (texts : Texts) (all : Records) (known : ModuleAhead) (old : ModuleReader) (b : Sofar) (s : records.Sofar) (inside behind : Records) (h : IsSofar texts all known old b s (a_block 12 inside behind)) (may : may_follow b.last 9 ≡ true) (number : ℕ)
    (found : due_at b.defined.items (length b.bodies.items) 0 ≡ Some number) (a : Lists) (count : ℕ) → a ≡ old.growing.arena → ((f : the_function.Function) → slice_get a.functions number ≡ Some f → count ≡ length f.parameters)
    → count ≡ length (first texts all known old b s inside behind h may number found).h.parameters
count_here texts all known old b s inside behind h may number found a count same counted =
    let i = first texts all known old b s inside behind h may number found in
    counted i.f (ap (λ (x : Lists). slice_get x.functions number) same ∙ there texts all known old b s inside behind h may number found) ∙ first_long texts all known old b s inside behind h may number found

module _ (texts : Texts) (all : Records) (known : ModuleAhead) (old : ModuleReader) (b : Sofar) (s : records.Sofar) (inside behind : Records) (others : List Piece) (h : IsSofar texts all known old b s (a_block 12 inside behind)) (may : may_follow b.last 9 ≡ true)
    (before : IsBefore old.reader.left inside (ended ∷ others)) (at : old.reader.at ≡ s.at) (number : ℕ) (found : due_at b.defined.items (length b.bodies.items) 0 ≡ Some number) (counts : LocalCounts) (is : IsNextCounts b counts) (count : ℕ)
    (count_is : count ≡ length (first texts all known old b s inside behind h may number found).h.parameters) (read : ModuleReader) (result : Result the_body.Body BitcodeFault)
    (answers : (k : Numbering) → NumbersOutside (record old { locals = counts }) k → AreCounts counts (labels texts k count inside) → Answers (IsWhole k count (record old { locals = counts }) read) (body texts k count old.reader.at inside) result) where
  -- what the records of the body answer
  told : (c : Begun) → Answers (IsWhole s.k count (record old { locals = counts }) read) (body s.texts s.k count s.at inside) result
  told c =
      let n = ahead texts all known old b s inside behind h may number found c in
      let inside_counts = counts_inside b s (first texts all known old b s inside behind h may number found).h inside behind n counts count is count_is in
      subst (λ p. Answers (IsWhole s.k count (record old { locals = counts }) read) (body s.texts s.k count p inside) result) at
      (subst (λ (t : Texts). Answers (IsWhole s.k count (record old { locals = counts }) read) (body t s.k count old.reader.at inside) result) (sym h.texts_are)
      (answers s.k (numbers_outside old counts s.k h.numbers) (subst (λ (t : Texts). AreCounts counts (labels t s.k count inside)) h.texts_are inside_counts)))

  whole : records.block_in s 12 inside ≡ (body s.texts s.k count s.at inside >>= λ c. Ok (record s { at = c.at; last = 9; functions = give_body c s.functions }))
  whole =
      body_is texts all known old b s inside behind h may number found
      ∙ ap (λ k. body s.texts s.k k s.at inside >>= λ c. Ok (record s { at = c.at; last = 9; functions = give_body c s.functions })) (sym count_is)

  pub body_refused : (c : Begun) (given : BitcodeFault) (M : Unit {0} → records.Sofar → Type 0) → result ≡ Err given → Answers {A = records.Sofar} {B = Unit {0}} M (records.block_in s 12 inside) (Err given)
  body_refused c given M bad =
      subst (λ (a : Answer records.Sofar). Answers {A = records.Sofar} {B = Unit {0}} M a (Err given)) (sym whole)
      (refused_in_front (IsWhole s.k count (record old { locals = counts }) read) M (body s.texts s.k count s.at inside) (λ c. Ok (record s { at = c.at; last = 9; functions = give_body c s.functions })) given
      (subst (λ (r : Result the_body.Body BitcodeFault). Answers (IsWhole s.k count (record old { locals = counts }) read) (body s.texts s.k count s.at inside) r) bad (told c)))

  module _ (c0 : Begun) (new : ModuleReader) (b2 : Sofar) (kept : the_body.Body) (keeps : KeepsCounts (record old { locals = counts }) read) (new_is : new ≡ record read { locals = record { values = 0; blocks = 0 } })
      (more : b2.bodies.items ≡ b.bodies.items ++ kept ∷ []) (last : 9 ≡ b2.last) (rest : b2 ≡ record b { bodies = b2.bodies; last = b2.last }) (spent : read.reader.spent ≡ false) (left : read.reader.left ≡ others) where
    pub body_answers : result ≡ Ok kept → Answers {A = records.Sofar} {B = Unit {0}} (λ done t. IsSofar texts all known new b2 t behind × IsOut new others t) (records.block_in s 12 inside) (Ok tt)
    body_answers good =
        subst (λ (a : Answer records.Sofar). Answers {A = records.Sofar} {B = Unit {0}} (λ done t. IsSofar texts all known new b2 t behind × IsOut new others t) a (Ok tt)) (sym whole)
        (by (body s.texts s.k count s.at inside) refl (subst (λ (r : Result the_body.Body BitcodeFault). Answers (IsWhole s.k count (record old { locals = counts }) read) (body s.texts s.k count s.at inside) r) good (told c0)))
      where
        by : (a : Answer Begun) → body s.texts s.k count s.at inside ≡ a → Answers (IsWhole s.k count (record old { locals = counts }) read) a (Ok kept)
            → Answers {A = records.Sofar} {B = Unit {0}} (λ done t. IsSofar texts all known new b2 t behind × IsOut new others t) (a >>= λ c. Ok (record s { at = c.at; last = 9; functions = give_body c s.functions })) (Ok tt)
        by (Err fault) e w = absurd w
        by (Ok c) e w = (
          body_sofar texts all known old b s inside behind h may number found counts read new b2 kept c count count_is e keeps w new_is more last rest,
          record {
            spent = ap (λ (x : ModuleReader). x.reader.spent) new_is ∙ spent;
            left = ap (λ (x : ModuleReader). x.reader.left) new_is ∙ left;
            at = ap (λ (x : ModuleReader). x.reader.at) new_is ∙ w.at;
          },
        )
