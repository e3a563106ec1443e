-- A record whose operands are those of a layout is read as the value that was spelled.
use Rattle.std.proofs.Common.{◌≡◌, [], None, sym, ap, ◌∙◌, append-nil}
use Rattle.record_table.specs.Walk.{going, told}
use Rattle.record_table.specs.Layout.{Layout, judged}
use Rattle.record_table.specs.Lays.{Lays}

pub judged_from : {A : Type 0} {good : A → Type 0} {l : Layout A} → Lays good l → (x : A) → good x → judged l (l.spell x) ≡ (x, None)
judged_from {l} lays x fit = ap (λ p. (p.0, told p.1)) (ap (λ ns. l.read (going ns None)) (sym (append-nil (l.spell x))) ∙ lays.back x [] fit)
