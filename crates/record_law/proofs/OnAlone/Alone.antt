-- What is written of a well-formed and valid module spells it and no other.
use Rattle.std.proofs.Common.{◌≡◌, ℕ, ◌<◌, ◌/◌, ◌^◌, List, length, sym, subst}
use Rattle.bit_stream.specs.Writer.{begun}
use Rattle.bit_tree.specs.Written.{tree_of}
use Rattle.bit_tree.proofs.OneTree.{one_tree}
use Rattle.bit_tree.proofs.Back.{written_is_read}
use Rattle.module_arena.specs.Module.{Module}
use Rattle.module_arena.specs.Valid.{IsValid}
use Rattle.module_arena.specs.WellFormed.{IsWellFormed}
use Rattle.record_table.specs.Records.{Spells, StandFor}
use Rattle.record_table.specs.Spelling.{written_module, spelling, IsSpelledAlone}
use Rattle.record_law.proofs.OneModule.{one_module}
use Rattle.record_law.proofs.OnFits.ModulesFit.{module_fits, tree_stands}
use Rattle.record_law.proofs.OnAlone.Bytes.{bytes_are, few_bits}
use Rattle.record_law.proofs.OnAlone.WholeModule.{all_allowed}

-- bytes spell one module alone
one_spelled : (bytes : List ℕ) (m n : Module) → Spells bytes m → Spells bytes n → m ≡ n
one_spelled bytes m n one other =
    one_module one.tree m n one.stands (subst (λ tree. StandFor tree n) (sym (one_tree bytes one.tree other.tree one.is_tree other.is_tree)) other.stands)

it_spells : (m : Module) → IsWellFormed m → IsValid m → length (spelling m) / 4 < 2 ^ 32 → Spells (spelling m) m
it_spells m well valid few = record {
  tree = tree_of begun (written_module m);
  is_tree = written_is_read (written_module m) (spelling m) (all_allowed m well (module_fits m well valid) (few_bits m few)) (bytes_are m);
  stands = tree_stands m well valid;
}

pub spelled_alone : (m : Module) → IsWellFormed m → IsValid m → length (spelling m) / 4 < 2 ^ 32 → IsSpelledAlone m
spelled_alone m well valid few n =
    let own = it_spells m well valid few in
    (λ spells. one_spelled (spelling m) n m spells own, λ same. subst (Spells (spelling m)) (sym same) own)
