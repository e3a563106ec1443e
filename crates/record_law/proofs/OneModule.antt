-- A tree stands for one module, or a record of it is refused.
use Rattle.std.proofs.Common.{◌≡◌, ◌⊎◌, Some, Ok, Err, refl, sym, ap, ◌∙◌, inl, inr}
use Rattle.std.specs.List.{AllByRecursion}
use Rattle.bit_tree.specs.Stream.{StreamTree}
use Rattle.bit_tree.specs.Written.{no_more}
use Rattle.module_arena.specs.Module.{Module}
use Rattle.record_table.specs.Listed.{AreBytes}
use Rattle.record_table.specs.StringTable.{read_only}
use Rattle.record_table.specs.Faults.{RecordFault, Answer, records, module_id}
use Rattle.record_table.specs.Records.{StandFor, record_fault, fault_in, module_block, read}
use Rattle.record_table.specs.Spelling.{put_block, put_module, written_module, records_put, string_table, texts_of, texts_in}
use Rattle.record_law.proofs.OpeningBack.{opening_back, table_of_bytes}

by_answer : (answer : Answer Module) → ((m : Module) × (answer ≡ Ok m)) ⊎ ((fault : RecordFault) × (fault_in answer ≡ Some fault))
by_answer (Ok m) = inl (m, refl)
by_answer (Err fault) = inr (fault, refl)

pub read_or_refused : (tree : StreamTree) → ((m : Module) × StandFor tree m) ⊎ ((fault : RecordFault) × (record_fault tree ≡ Some fault))
read_or_refused tree = by_answer (read (records tree))

-- what is read, or else this
unfoldable or_else : Module → Answer Module → Module
or_else m (Ok n) = n
or_else m (Err fault) = m

same_answer : (m n : Module) → Path (Answer Module) (Ok m) (Ok n) → m ≡ n
unfolding or_else
same_answer m n e = ap (or_else m) e

pub one_module : (tree : StreamTree) (m n : Module) → StandFor tree m → StandFor tree n → m ≡ n
one_module tree m n one other = same_answer m n (sym one ∙ other)

pub openings_back : (m : Module) → AllByRecursion AreBytes (texts_of m)
    → read (records_put (written_module m)) ≡ module_block (read_only (string_table m)) 2 (records_put (put_block module_id (put_module (texts_in m) m) no_more))
openings_back m fit = opening_back m (table_of_bytes m fit)
