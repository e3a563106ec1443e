-- A text that was read, against what its record stands for.
use Rattle.std.proofs.Common.{◌≡◌, ℕ, suc, Option, List, sym, ap, subst, ◌∙◌}
use Rattle.module_arena.specs.Module.{Bytes}
use Rattle.record_table.specs.Fields.{Texts}
use Rattle.record_table.specs.Layout.{judged}
use Rattle.record_table.specs.Records.{Sofar}
use Rattle.record_table.specs.Walk.{told}
use Rattle.record_read.specs.Fields.{IsTextKept, ReadsText}
use Rattle.record_read.specs.Reader.{Reader}
use Rattle.record_read.specs.Order.Order.{StandsBehind}

-- the text that is kept is that of the operands, and the rules that are told are theirs
pub record IsTextBehind (s : Sofar) (operands : List ℕ) (text : Option Bytes) (now : Reader) : Type 0 where
  pub kept : IsTextKept text (judged s.texts.last operands).0 now.walk
  pub told_is : told now.walk ≡ (judged s.texts.last operands).1
  pub at : now.at ≡ suc s.at

pub text_behind : (s : Sofar) (t : Texts) (last : ℕ) (old now : Reader) (operands : List ℕ) (text : Option Bytes) → StandsBehind t last old s operands → ReadsText t.last old now text → IsTextBehind s operands text now
text_behind s t last old now operands text b h = record {
  kept = subst (λ (x : Texts). IsTextKept text (judged x.last operands).0 now.walk) (sym b.texts_are) (subst (λ w. IsTextKept text (t.last.read w).0 now.walk) b.walk h.kept);
  told_is = ap (λ (r : Reader). told r.walk) h.reader ∙ (ap (λ w. told (t.last.read w).1) b.walk ∙ ap (λ (x : Texts). (judged x.last operands).1) (sym b.texts_are));
  at = ap (λ (r : Reader). r.at) h.reader ∙ b.at;
}
