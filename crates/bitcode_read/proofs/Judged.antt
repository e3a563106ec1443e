-- A stream in whose module's block the reader stands: the block, and what stands behind it.
use Rattle.std.proofs.Common.{◌≡◌, ℕ, List, [], ◌∷◌, refl, sym, ap, subst, ◌∙◌}
use Rattle.std.specs.Prelude.{Result, Ok, Err, ⊤}
use Rattle.bit_tree.specs.Pieces.{ended}
use Rattle.bit_tree.specs.Stream.{Stream, StreamTree}
use Rattle.module_arena.specs.Lists.{Lists}
use Rattle.module_arena.specs.Module.{Module}
use Rattle.record_table.specs.Faults.{Answer, ◌>>=◌, Records, records}
use Rattle.record_table.specs.Records.{Sofar, at_first, module_from, nothing_behind, read}
use Rattle.record_read.specs.declared.fault.BitcodeFault.{BitcodeFault}
use Rattle.record_read.specs.declared.texts.Texts as the_texts
use Rattle.record_read.specs.Entries.{IsBefore}
use Rattle.record_read.specs.Faults.{Answers}
use Rattle.record_read.specs.Fields.{texts_of}
use Rattle.record_read.specs.Reader.{Reader}
use Rattle.type_read.specs.declared.arena.module_reader.ModuleReader.{ModuleReader}
use Rattle.bitcode_read.specs.Head.Ahead.{first_module}
use Rattle.bitcode_read.specs.declared.head.ahead.ModuleAhead.{ModuleAhead}
use Rattle.bitcode_read.specs.Answers.{IsModule}
use Rattle.bitcode_read.specs.Opening.{IsOpened}
use Rattle.bitcode_read.specs.declared.sofar.Sofar as the_sofar
use Rattle.bitcode_read.specs.Sofar.{AreRead, AreSettable, IsBegunOver, IsModuleBegun, IsWhole}
use Rattle.bitcode_read.proofs.Opened.{IsMeant, meant_by, refused_in_front, refused_so}

-- what stands behind the block answers
pub end_refused : (s : Sofar) (behind : Records) (given : BitcodeFault) → Answers {A = Module} {B = Unit {0}} (λ done n. ⊤) (nothing_behind s behind) (Err given) → Answers {A = Module} {B = Lists} IsModule (nothing_behind s behind) (Err given)
end_refused s behind given told = refused_so {A = Module} {B = Unit {0}} {C = Lists} (λ done n. ⊤) IsModule (nothing_behind s behind) given told

module _ (bytes : List ℕ) (tree : StreamTree) (stream : Stream bytes tree) (texts : the_texts.Texts) (r : Reader) (known : ModuleAhead) (o : IsOpened tree texts r known) (m : ModuleReader) (b : IsBegunOver r known m) where
  -- what stands in the block answers
  abbrev pub block_answer : Answer Sofar
  block_answer = module_from (at_first (texts_of texts) m.reader.at (first_module (records tree))) (first_module (records tree))

  pub before_block : IsBefore m.reader.left (first_module (records tree)) (ended ∷ o.others)
  before_block = subst (λ (q : Reader). IsBefore q.left (first_module (records tree)) (ended ∷ o.others)) (sym b.reader_is) o.before

  pub block_begun : IsModuleBegun bytes (texts_of texts) m known
  block_begun = record {
    tree = tree;
    is_tree = stream;
    others = o.others;
    before = before_block;
    is_known = o.is_known;
    over = record { reader_is = refl; globals_are = b.globals_are; outside = b.outside; over = b.over };
  }

  read_block : read (records tree) ≡ (block_answer >>= λ s. nothing_behind s o.behind)
  read_block =
      o.from
      ∙ ap (λ (q : Reader). module_from (at_first (texts_of texts) q.at (first_module (records tree))) (first_module (records tree)) >>= λ s. nothing_behind s o.behind) (sym b.reader_is)

  pub block_refused : (new : ModuleReader) (given : BitcodeFault) → Answers {A = Sofar} {B = the_sofar.Sofar} (IsWhole new o.others) block_answer (Err given) → Answers {A = Module} {B = Lists} IsModule (read (records tree)) (Err given)
  block_refused new given h =
      subst (λ (a : Answer Module). Answers {A = Module} {B = Lists} IsModule a (Err given)) (sym read_block) (refused_in_front (IsWhole new o.others) IsModule block_answer (λ s. nothing_behind s o.behind) given h)

  module _ (new : ModuleReader) (sofar : the_sofar.Sofar) (h : Answers {A = Sofar} {B = the_sofar.Sofar} (IsWhole new o.others) block_answer (Ok sofar)) where
    meant : IsMeant {A = Sofar} {B = the_sofar.Sofar} (IsWhole new o.others) block_answer sofar
    meant = meant_by {A = Sofar} {B = the_sofar.Sofar} (IsWhole new o.others) block_answer sofar h

    -- what entries hold can be set
    pub block_settable : AreSettable new.growing.arena sofar
    block_settable = meant.meant.settable

    read_rest : read (records tree) ≡ nothing_behind meant.value o.behind
    read_rest = read_block ∙ ap (λ (a : Answer Sofar). a >>= λ s. nothing_behind s o.behind) meant.is

    -- in front of what stands behind the block
    before_rest : IsBefore new.reader.left o.behind []
    before_rest = subst (λ l. IsBefore l o.behind []) (sym meant.meant.left) o.later

    pub stream_read : (result : Result Lists BitcodeFault)
        → ((s : Sofar) (behind : Records) → IsBefore new.reader.left behind [] → new.reader.at ≡ s.at → AreRead new.growing.arena sofar s → Answers {A = Module} {B = Lists} IsModule (nothing_behind s behind) result)
        → Answers {A = Module} {B = Lists} IsModule (read (records tree)) result
    stream_read result ends = subst (λ (a : Answer Module). Answers {A = Module} {B = Lists} IsModule a result) (sym read_rest) (ends meant.value o.behind before_rest meant.meant.at meant.meant.are)
