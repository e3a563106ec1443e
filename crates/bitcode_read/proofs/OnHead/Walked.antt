-- One field behind another, seen from a reader whose walk stands there; and what is broken stays so.
use Rattle.std.proofs.Common.{◌≡◌, ℕ, Option, Some, None, refl, ap, ◌∙◌}
use Rattle.std.specs.Prelude.{nat_lt}
use Rattle.record_table.specs.Walk.{Walk, going, stopped, break, next}
use Rattle.record_table.specs.Layout.{Layout, counted, found_or}
use Rattle.record_table.specs.Fields as fields
use Rattle.record_table.specs.TypeRecords.{earlier}
use Rattle.record_read.specs.Reader.{Reader, Reads, IsKept, IsBroken, is_broken}
use Rattle.type_read.proofs.OnArena.Lasting.{ask_still, many_still, next_still}

-- an exact answer behind a walk
pub record Exactly {A : Type 0} (l : Layout A) (old : Reader) (w : Walk) (now : Reader) (answer : A) : Type 0 where
  pub value : answer ≡ (l.read w).0
  pub reader : now ≡ record old { walk = (l.read w).1 }

pub exactly : {A : Type 0} (l : Layout A) (old mid now : Reader) (w : Walk) (answer : A) → mid ≡ record old { walk = w } → Reads l mid now answer → Exactly l old w now answer
exactly l old mid now w answer is h = record {
  value = h.value ∙ ap (λ (r : Reader). (l.read r.walk).0) is;
  reader = h.reader ∙ ap (λ (r : Reader). record r { walk = (l.read r.walk).1 }) is;
}

-- ---- what is broken stays so

break_still : (rule : ℕ) (w : Walk) → IsBroken w → IsBroken (break rule w)
break_still rule (going rest None) h = refl
break_still rule (going rest (Some r)) h = refl
break_still rule (stopped broken) h = h

found_still : {A : Type 0} (other : A) (o : Option A) (w : Walk) → IsBroken w → IsBroken (found_or other o w).1
found_still other None w h = break_still 3 w h
found_still other (Some x) w h = h

pub linkage_still : (w : Walk) → IsBroken w → IsBroken (fields.linkage.read w).1
linkage_still w h = found_still _ _ (next w).1 (next_still w h)

pub truth_still : (w : Walk) → IsBroken w → IsBroken (fields.truth.read w).1
truth_still w h = ask_still 3 (nat_lt (next w).0 2) (next w).1 (next_still w h)

pub earlier_still : (types : ℕ) (w : Walk) → IsBroken w → IsBroken ((earlier types).read w).1
earlier_still types w h = ask_still 2 (nat_lt (next w).0 types) (next w).1 (next_still w h)

pub types_still : (types : ℕ) (w : Walk) → IsBroken w → IsBroken ((counted (earlier types)).read w).1
types_still types w h = many_still (earlier types).read (earlier_still types) (next w).0 (next w).1 (next_still w h)

pub alignment_still : (w : Walk) → IsBroken w → IsBroken (fields.alignment.read w).1
alignment_still w h = ask_still 7 _ (next w).1 (next_still w h)

-- what holds of a walk that is broken only, on a walk that is broken where that one is
pub kept_on : {A B : Type 0} (means : B → A → Type 0) (kept : Option B) (value : A) (w v : Walk) → (IsBroken w → IsBroken v) → IsKept means kept value w → IsKept means kept value v
kept_on means None value w v still h = still h
kept_on means (Some x) value w v still h = h

-- the same walk, as a reader has it
pub walk_on : {A : Type 0} (l : Layout A) (old now : Reader) (w : Walk) → now ≡ record old { walk = (l.read w).1 } → ((v : Walk) → IsBroken v → IsBroken (l.read v).1) → IsBroken w → IsBroken now.walk
walk_on l old now w is still h = ap (λ (r : Reader). is_broken r.walk) is ∙ still w h
