-- A text that is gathered, and written as it grows.
use Rattle.std.proofs.Common.{◌≡◌, ℕ, ◌+◌, List, [], ◌∷◌, ◌++◌, length, take, Option, Result, Ok, Err, refl, subst, sym, ap, ◌∙◌, arith, append_assoc, length-append}
use Rattle.std.specs.Prelude.{codes}
use Rattle.std.specs.List.{flat_map}
use Rattle.std.proofs.lemmas.List.{append-nil}
use Rattle.ir_base.specs.Outside.{Added, Wrote}
use Rattle.ir_base.proofs.Pieces.{added_more}
use Rattle.bit_dump.specs.declared.fault.DumpFault.{DumpFault}
use Rattle.bit_dump.specs.declared.fault.DumpFault.TheVariants.{Bit, WriteFault, Memory}
use Rattle.bit_dump.specs.declared.counts.StreamCounts.{StreamCounts}
use Rattle.bit_dump.specs.Tally.{Tally}
use Rattle.bit_dump.specs.Text.{row_line, counts_line, summary}
use Rattle.bit_dump.specs.Telling.{TookFront, WroteFirst, Spilled}
use Rattle.bit_dump.proofs.Sinks.{added_none, front_is}
use Rattle.bit_dump.proofs.Telling.{longer}

-- nothing was written
pub gathers : (before : Option (List ℕ)) (all : List ℕ) → WroteFirst before before all all
gathers before all = record { written = []; added = added_none before; is = refl }

pub took_none : (before : Option (List ℕ)) (all : List ℕ) → TookFront before before all
took_none before all = record { count = 0; within = omega arith; added = added_none before }

-- what was gathered alone
pub alone : (before now : Option (List ℕ)) (old new : List ℕ) (r : Result (Unit {0}) DumpFault) (row : List ℕ) → Spilled [] before (old ++ row) now new r → Spilled row before old now new r
alone before now old new (Ok done) row h = record { written = h.written; added = h.added; is = h.is ∙ append-nil (old ++ row) }
alone before now old new (Err (Bit fault)) row h = h
alone before now old new (Err WriteFault) row h = let same : (old ++ row) ++ [] ≡ old ++ row = append-nil (old ++ row) in rw same at h
alone before now old new (Err Memory) row h = let same : (old ++ row) ++ [] ≡ old ++ row = append-nil (old ++ row) in rw same at h

pub wrote_alone : (before now : Option (List ℕ)) (old : List ℕ) (faults_before faults_now : ℕ) → Wrote before now faults_before faults_now old → TookFront before now (old ++ [])
wrote_alone before now old faults_before faults_now h =
    let same : old ++ [] ≡ old = append-nil old in
    rw same (record { count = h.count; within = h.within; added = h.added })

-- a front behind what was written
pub front_behind : (before between now : Option (List ℕ)) (all rest more whole : List ℕ) → (h : WroteFirst before between all rest) → whole ≡ all ++ more → TookFront between now (rest ++ more) → TookFront before now whole
front_behind before between now all rest more whole h is k =
    let text : whole ≡ h.written ++ (rest ++ more) = is ∙ (ap (λ (l : List ℕ). l ++ more) (sym h.is) ∙ append_assoc h.written rest more) in
    let front = front_is h.written (rest ++ more) [] k.count k.within in
    let both = added_more before between now h.written (take k.count (rest ++ more)) h.added k.added in
    record { count = length h.written + k.count; within = rw text (omega (arith, k.within, length-append h.written (rest ++ more))); added = rw (text, ← append-nil (h.written ++ (rest ++ more)), ← front) both }

-- one text and then another
pub both_spilled : (before between now : Option (List ℕ)) (old rest new a b : List ℕ) (r : Result (Unit {0}) DumpFault) → WroteFirst before between (old ++ a) rest → Spilled b between rest now new r → Spilled (a ++ b) before old now new r
both_spilled before between now old rest new a b (Ok done) h k = record {
  written = h.written ++ k.written;
  added = added_more before between now h.written k.written h.added k.added;
  is = append_assoc h.written k.written new ∙ (ap (λ (l : List ℕ). h.written ++ l) k.is ∙ (sym (append_assoc h.written rest b) ∙ (ap (λ (l : List ℕ). l ++ b) h.is ∙ append_assoc old a b)));
}
both_spilled before between now old rest new a b (Err (Bit fault)) h k = k
both_spilled before between now old rest new a b (Err WriteFault) h k = front_behind before between now (old ++ a) rest b (old ++ (a ++ b)) h (sym (append_assoc old a b)) k
both_spilled before between now old rest new a b (Err Memory) h k = front_behind before between now (old ++ a) rest b (old ++ (a ++ b)) h (sym (append_assoc old a b)) k

-- what failed within a text failed within a longer one
pub spilled_longer : (before now : Option (List ℕ)) (old new later a b : List ℕ) (fault : DumpFault) → Spilled a before old now new (Err fault) → Spilled (a ++ b) before old now later (Err fault)
spilled_longer before now old new later a b (Bit fault) h = h
spilled_longer before now old new later a b WriteFault h = longer before now (old ++ a) b (old ++ (a ++ b)) (sym (append_assoc old a b)) h
spilled_longer before now old new later a b Memory h = longer before now (old ++ a) b (old ++ (a ++ b)) (sym (append_assoc old a b)) h

-- and the last of it
pub last_added : (before between now : Option (List ℕ)) (all rest : List ℕ) → WroteFirst before between all rest → Added between now rest → Added before now all
last_added before between now all rest h k = rw (← h.is) (added_more before between now h.written rest h.added k)

pub last_failed : (before between now : Option (List ℕ)) (all rest : List ℕ) (faults_before faults_now : ℕ) → WroteFirst before between all rest → Wrote between now faults_before faults_now rest → TookFront before now all
last_failed before between now all rest faults_before faults_now h k =
    front_behind before between now all rest [] all h (sym (append-nil all)) (wrote_alone between now rest faults_before faults_now k)

-- the rows of a summary, of which these are left

abbrev pub Rows : Option (List ℕ) → Option (List ℕ) → List ℕ → List ℕ → (all left : List (ℕ × StreamCounts)) → Type 0
Rows before now old new all left = (done : List ℕ) × (done ++ flat_map row_line left ≡ flat_map row_line all) × WroteFirst before now (old ++ done) new

pub no_rows : (before : Option (List ℕ)) (old : List ℕ) (all left : List (ℕ × StreamCounts)) → left ≡ all → Rows before before old old all left
no_rows before old all left is = ([], ap (λ (l : List (ℕ × StreamCounts)). flat_map row_line l) is, rw append-nil (gathers before old))

pub row_more : (before between now : Option (List ℕ)) (old rest new : List ℕ) (all left later : List (ℕ × StreamCounts)) (row : ℕ × StreamCounts) → left ≡ row ∷ later → Rows before between old rest all left → WroteFirst between now (rest ++ row_line row) new → Rows before now old new all later
row_more before between now old rest new all left later row is h k =
    let step : (h.0 ++ row_line row) ++ flat_map row_line later ≡ flat_map row_line all =
    append_assoc h.0 (row_line row) (flat_map row_line later) ∙ (ap (λ (l : List (ℕ × StreamCounts)). h.0 ++ flat_map row_line l) (sym is) ∙ h.1) in
    (h.0 ++ row_line row, step, both_spilled before between now old rest new h.0 (row_line row) (Ok tt) h.2 k)

pub row_stops : (before between now : Option (List ℕ)) (old rest new last : List ℕ) (all left later : List (ℕ × StreamCounts)) (row : ℕ × StreamCounts) (fault : DumpFault) → left ≡ row ∷ later → Rows before between old rest all left → Spilled (row_line row) between rest now new (Err fault) → Spilled (flat_map row_line all) before old now last (Err fault)
row_stops before between now old rest new last all left later row fault is h k =
    let step : (h.0 ++ row_line row) ++ flat_map row_line later ≡ flat_map row_line all =
    append_assoc h.0 (row_line row) (flat_map row_line later) ∙ (ap (λ (l : List (ℕ × StreamCounts)). h.0 ++ flat_map row_line l) (sym is) ∙ h.1) in
    let P : List ℕ → Type 0 = λ text. Spilled text before old now last (Err fault) in
    subst P step (spilled_longer before now old new last (h.0 ++ row_line row) (flat_map row_line later) fault (both_spilled before between now old rest new h.0 (row_line row) (Err fault) h.2 k))

-- memory ran out before the last line
summary_is : (t : Tally) → summary t ≡ flat_map row_line t.rows ++ (codes "total: " ++ counts_line t.total)
unfolding summary
summary_is t = append_assoc (flat_map row_line t.rows) (codes "total: ") (counts_line t.total)

pub total_wanted : (before now : Option (List ℕ)) (old rest : List ℕ) (t : Tally) → WroteFirst before now (old ++ flat_map row_line t.rows) rest → TookFront before now (old ++ summary t)
total_wanted before now old rest t h =
    let is : old ++ summary t ≡ (old ++ flat_map row_line t.rows) ++ (codes "total: " ++ counts_line t.total) =
    ap (λ (l : List ℕ). old ++ l) (summary_is t) ∙ sym (append_assoc old (flat_map row_line t.rows) (codes "total: " ++ counts_line t.total)) in
    front_behind before now now (old ++ flat_map row_line t.rows) rest (codes "total: " ++ counts_line t.total) (old ++ summary t) h is (took_none now (rest ++ (codes "total: " ++ counts_line t.total)))

-- or before the last of the other lines
pub rows_stop : (before now : Option (List ℕ)) (old new : List ℕ) (t : Tally) (fault : DumpFault) → Spilled (flat_map row_line t.rows) before old now new (Err fault) → Spilled (summary t) before old now new (Err fault)
rows_stop before now old new t fault h =
    let P : List ℕ → Type 0 = λ text. Spilled text before old now new (Err fault) in
    subst P (sym (summary_is t)) (spilled_longer before now old new new (flat_map row_line t.rows) (codes "total: " ++ counts_line t.total) fault h)
