-- What the block of types answers.
use Rattle.std.proofs.Common.{◌≡◌, true, false, List, [], length, map, inl, inr, refl, sym, ap, subst, ◌∙◌}
use Rattle.std.specs.Prelude.{Ok, Err}
use Rattle.bit_tree.specs.Pieces.{Piece}
use Rattle.type_table.specs.Types.{structs, trees}
use Rattle.type_table.specs.Types as tables
use Rattle.module_arena.specs.Known.{AreDistinct, IsGood}
use Rattle.module_arena.specs.Lists.{Lists}
use Rattle.record_table.specs.Faults.{Answer, ◌>>=◌, Records, a_block}
use Rattle.record_table.specs.Fields.{Numbering, Texts}
use Rattle.record_table.specs.Records as records
use Rattle.record_table.specs.Records.{may_follow}
use Rattle.record_table.specs.TypeRecords.{Listed, listed, names_in}
use Rattle.record_read.specs.declared.fault.BitcodeFault.{BitcodeFault}
use Rattle.record_read.specs.declared.texts.Texts as the_texts
use Rattle.record_read.specs.declared.texts.Texts.TheVariants as kind
use Rattle.record_read.specs.Faults.{Answers}
use Rattle.record_read.specs.Fields.{texts_of}
use Rattle.record_read.specs.Reader.{Reader}
use Rattle.type_read.specs.declared.arena.module_reader.ModuleReader.{ModuleReader}
use Rattle.type_read.specs.Arena.Growing.{Growing, IsOver}
use Rattle.body_read.specs.declared.ahead.ahead.BodyAhead.{BodyAhead}
use Rattle.bitcode_read.specs.declared.head.ahead.ModuleAhead.{ModuleAhead}
use Rattle.bitcode_read.specs.Ahead.Bodies.{Foresees, names_given}
use Rattle.bitcode_read.specs.Ahead.Entries.{Declares}
use Rattle.record_law.proofs.OnFormed.Good.{AreTexts}
use Rattle.record_law.proofs.OnFormed.Texts.{texts_hold}
use Rattle.type_read.specs.declared.structs.StructNames.{StructNames}
use Rattle.type_read.specs.Listed.{AreGathered, AreNames, IsListed}
use Rattle.bitcode_read.specs.declared.sofar.Sofar.{Sofar}
use Rattle.bitcode_read.specs.Sofar.{AreBytesHeld, IsOut, IsSofar}
use Rattle.bitcode_read.proofs.Opened.{meant_by, refused_in_front}
use Rattle.bitcode_read.proofs.Types.{block_is, types_sofar}

-- a table of texts is made of bytes
pub texts_held : (x : the_texts.Texts) → AreBytesHeld x → AreTexts (texts_of x)
texts_held kind.Inline h = inl refl
texts_held (kind.Table bytes) h = inr (bytes, h, refl)

pub names_of_gathered : (t : Texts) (inside : Records) (a : Lists) (found : StructNames) → AreGathered a found (names_in t inside) → AreNames t inside found
names_of_gathered t inside a found g = record { count = g.count; few = g.few; first_bad = g.first_bad }

module _ (x : the_texts.Texts) (held : AreBytesHeld x) (all : Records) (known later : ModuleAhead) (old : ModuleReader) (b : Sofar) (s : records.Sofar) (inside behind : Records) (others : List Piece)
    (h : IsSofar (texts_of x) all known old b s (a_block 17 inside behind)) (may : may_follow b.last 5 ≡ true) (at : old.reader.at ≡ s.at) where
  whole : records.block_in s 17 inside ≡ (listed (texts_of x) old.reader.at inside >>= λ l. Ok (record s { at = l.at; last = 5; k = record s.k { types = trees l.types; structs = structs l.types } }))
  whole =
      block_is (texts_of x) all known later old b s inside behind h may
      ∙ (λ j. listed (h.texts_are j) (sym at j) inside >>= λ l. Ok (record s { at = l.at; last = 5; k = record s.k { types = trees l.types; structs = structs l.types } }))

  pub types_refused : (given : BitcodeFault) (N : Unit {0} → Listed → Type 0) (M : Unit {0} → records.Sofar → Type 0) → Answers {A = Listed} {B = Unit {0}} N (listed (texts_of x) old.reader.at inside) (Err given)
      → Answers {A = records.Sofar} {B = Unit {0}} M (records.block_in s 17 inside) (Err given)
  types_refused given N M told =
      subst (λ (a : Answer records.Sofar). Answers {A = records.Sofar} {B = Unit {0}} M a (Err given)) (sym whole)
      (refused_in_front {A = Listed} {C = Unit {0}} N M (listed (texts_of x) old.reader.at inside) (λ l. Ok (record s { at = l.at; last = 5; k = record s.k { types = trees l.types; structs = structs l.types } })) given told)

  module _ (found : StructNames) (names_are : AreNames (texts_of x) inside found) (plain base : Lists) (r : Reader) (heads : List BodyAhead) (growing : Growing) (b2 : Sofar)
      (told : Answers {A = Listed} {B = Unit {0}} (λ done l. IsListed plain found (names_in (texts_of x) inside) l × (r.left ≡ others) × (r.at ≡ l.at)) (listed (texts_of x) old.reader.at inside) (Ok tt)) (spent : r.spent ≡ false)
      (declares : Declares (texts_of x) (length plain.table.types) base (map names_given heads) plain all) (foresees : (k : Numbering) → k.types ≡ trees plain.table → Foresees (texts_of x) k (length plain.table.types) [] heads all)
      (good : IsGood base) (good_types : tables.IsGood base.table) (distinct : AreDistinct base) (over : IsOver base growing) (ahead_is : b2.ahead.items ≡ heads) (last : 5 ≡ b2.last) (rest : b2 ≡ record b { ahead = b2.ahead; last = b2.last }) where
    pub types_answers : Answers {A = records.Sofar} {B = Unit {0}} (λ done t. IsSofar (texts_of x) all later (record old { reader = r; growing = growing }) b2 t behind × IsOut (record old { reader = r; growing = growing }) others t) (records.block_in s 17 inside) (Ok tt)
    types_answers =
        let y = meant_by {A = Listed} {B = Unit {0}} (λ done l. IsListed plain found (names_in (texts_of x) inside) l × (r.left ≡ others) × (r.at ≡ l.at)) (listed (texts_of x) old.reader.at inside) tt told in
        let l = y.value in
        let is = whole ∙ ap (λ (a : Answer Listed). a >>= λ l. Ok (record s { at = l.at; last = 5; k = record s.k { types = trees l.types; structs = structs l.types } })) y.is in
        let read : listed (texts_of x) s.at inside ≡ Ok l = ap (λ n. listed (texts_of x) n inside) (sym at) ∙ y.is in
        subst (λ (a : Answer records.Sofar). Answers {A = records.Sofar} {B = Unit {0}} (λ done t. IsSofar (texts_of x) all later (record old { reader = r; growing = growing }) b2 t behind × IsOut (record old { reader = r; growing = growing }) others t) a (Ok tt)) (sym is) (
          types_sofar (texts_of x) all known later old b s inside behind h may l found plain base (texts_hold (texts_of x) (texts_held x held)) read names_are y.meant.0 heads declares foresees good good_types distinct growing over r b2 ahead_is last rest,
          record { spent = spent; left = y.meant.1; at = y.meant.2 },
        )
