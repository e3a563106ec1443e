use Rattle.std.proofs.Common.{◌≡◌, true, false, length}
use Rattle.instruction_verify.specs.Uses.Agreeing.{entries_agree_by}
use Rattle.instruction_verify.proofs.OnUses.Agreed.{AreLast}
use Rattle.instruction_verify.proofs.uses.agreeing.do_entries_agree.Given as goal

-- the last entry so far of each block is kept, and entries before it are equal to it
abbrev pub invariant-entries : goal.invariant-entries
invariant-entries l = record {
  len : length l.last ≡ length l.initial.last;
  lasts : l.agree ≡ true → AreLast l.classes l.incoming l.number l.last;
  fails : l.agree ≡ false → entries_agree_by l.classes l.incoming ≡ false;
}
