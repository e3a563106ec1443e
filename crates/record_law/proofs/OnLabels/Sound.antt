-- How texts stand in records: names are read so that it is known what stands next, or a rule is broken.
use Rattle.std.proofs.Common.{◌≡◌, ℕ, Bool, true, false, List, [], ◌∷◌, Some, None, refl}
use Rattle.record_table.specs.Walk.{Walk, going, stopped, ask, break, stop, next}
use Rattle.record_table.specs.Fields.{version_1}
use Rattle.record_table.specs.StringTable.{read_only}
use Rattle.record_law.specs.Labels.Laws.{HasSoundLabels, IsSound, is_broken}
use Rattle.record_law.proofs.OnLabels.Kept.{broken_lasts}
use Rattle.record_law.proofs.OnLabels.Lasting.{Lasts, inline_keeps, table_keeps}

sound_taken : (w : Walk) → IsSound w → IsSound (next w).1
unfolding next
sound_taken (going [] None) h = refl
sound_taken (going [] (Some r)) h = refl
sound_taken (going (n ∷ rest) broken) h = tt
sound_taken (stopped broken) h = h

sound_broken : (rule : ℕ) (w : Walk) → IsSound w → IsSound (break rule w)
sound_broken rule (going rest broken) h = tt
sound_broken rule (stopped broken) h = h

sound_asked : (rule : ℕ) (b : Bool) (w : Walk) → IsSound w → IsSound (ask rule b w)
sound_asked rule true w h = h
sound_asked rule false w h = sound_broken rule w h

sound_stopped : (rule : ℕ) (w : Walk) → IsSound w → IsSound (stop rule w)
sound_stopped rule (going rest None) h = refl
sound_stopped rule (going rest (Some r)) h = refl
sound_stopped rule (stopped broken) h = h

sound_lasts : Lasts IsSound
sound_lasts = record { taken = sound_taken; asked = sound_asked; stopped_by = sound_stopped; broken_by = sound_broken }

-- in version 1
pub inline_sound : HasSoundLabels version_1
inline_sound = record { sound = inline_keeps IsSound sound_lasts; lasts = inline_keeps (λ w. is_broken w ≡ true) broken_lasts }

-- in a table
pub table_sound : (table : List ℕ) → HasSoundLabels (read_only table)
table_sound table = record { sound = table_keeps IsSound sound_lasts table; lasts = table_keeps (λ w. is_broken w ≡ true) broken_lasts table }
