-- Rules that are told of a record, and records that break none.
use Rattle.std.proofs.Common.{◌≡◌, ℕ, zero, suc, Bool, true, false, List, [], ◌∷◌, Option, Some, None, length, refl, ap}
use Rattle.std.specs.Prelude.{Ok}
use Rattle.module_arena.specs.Module.{LocalName}
use Rattle.record_table.specs.Walk.{Walk, going, stopped, ask, break, stop, next, told}
use Rattle.record_table.specs.Fields.{Texts, label, after}
use Rattle.record_table.specs.Faults.{also, unless_broken}
use Rattle.record_table.specs.Bodies.{Begun, BodyDue, Parameters, FirstBlock, Line, NextBlock, are_new, declaring, is_parameters, is_line, labels_by}
use Rattle.record_law.specs.Labels.Laws.{HasSoundLabels, IsSound, is_broken}
use Rattle.record_law.proofs.OnLabels.Lasting.{Lasts}

-- ---- a rule that is broken stays so

still_taken : (w : Walk) → is_broken w ≡ true → is_broken (next w).1 ≡ true
unfolding next
still_taken (going [] None) h = absurd (cc)
still_taken (going [] (Some r)) h = refl
still_taken (going (n ∷ rest) broken) h = h
still_taken (stopped broken) h = h

pub broken_lasts : Lasts (λ w. is_broken w ≡ true)
broken_lasts = record { taken = still_taken; asked = asked; stopped_by = stopped_by; broken_by = broken_by }
  where
    broken_by : (rule : ℕ) (w : Walk) → is_broken w ≡ true → is_broken (break rule w) ≡ true
    broken_by rule (going rest None) h = refl
    broken_by rule (going rest (Some r)) h = refl
    broken_by rule (stopped broken) h = h

    asked : (rule : ℕ) (b : Bool) (w : Walk) → is_broken w ≡ true → is_broken (ask rule b w) ≡ true
    asked rule true w h = h
    asked rule false (going rest None) h = refl
    asked rule false (going rest (Some r)) h = refl
    asked rule false (stopped broken) h = h

    stopped_by : (rule : ℕ) (w : Walk) → is_broken w ≡ true → is_broken (stop rule w) ≡ true
    stopped_by rule (going rest None) h = refl
    stopped_by rule (going rest (Some r)) h = refl
    stopped_by rule (stopped broken) h = h

pub told_broken : (w : Walk) → is_broken w ≡ true → told w ≡ None → ⊥
told_broken (going [] None) h e = cc
told_broken (going [] (Some r)) h e = cc
told_broken (going (n ∷ rest) None) h e = cc
told_broken (going (n ∷ rest) (Some r)) h e = cc
told_broken (stopped None) h e = cc
told_broken (stopped (Some r)) h e = cc

-- ---- names one behind the other

-- it is known what stands next
abbrev IsGoing : Walk → Type 0
IsGoing (going rest broken) = Unit {0}
IsGoing (stopped broken) = ⊥

told_going : (w : Walk) → IsSound w → told w ≡ None → IsGoing w
told_going (going rest broken) h e = tt
told_going (stopped None) h e = cc
told_going (stopped (Some r)) h e = cc

module _ (texts : Texts) (h : HasSoundLabels texts) where
  names_sound : (n own : ℕ) (w : Walk) → IsSound w → IsSound (labels_by texts own n w).1
  unfolding labels_by
  names_sound zero own w s = s
  names_sound (suc n) own (stopped broken) s = s
  names_sound (suc n) own (going rest broken) s =
      let x = (label texts own).read (going rest broken) in names_sound n (after own x.0) x.1 (h.sound own (going rest broken) s)

  names_all : (n own : ℕ) (w : Walk) → IsGoing (labels_by texts own n w).1 → length (labels_by texts own n w).0 ≡ n
  unfolding labels_by
  names_all zero own w s = refl
  names_all (suc n) own (stopped broken) s = absurd s
  names_all (suc n) own (going rest broken) s = let x = (label texts own).read (going rest broken) in ap suc (names_all n (after own x.0) x.1 s)

  -- where no rule is broken all names are there
  pub names_many : (count : ℕ) (operands : List ℕ) → told (labels_by texts 0 count (going operands None)).1 ≡ None → length (labels_by texts 0 count (going operands None)).0 ≡ count
  names_many count operands e =
      names_all count 0 (going operands None) (told_going (labels_by texts 0 count (going operands None)).1 (names_sound count 0 (going operands None) tt) e)

-- ---- a record that is answered breaks no rule

pub unless_ok : {A : Type 0} (id at : ℕ) (o : Option ℕ) (x t : A) → unless_broken id at o x ≡ Ok t → (o ≡ None) × (x ≡ t)
unless_ok id at None x t e = (refl, cc)
unless_ok id at (Some rule) x t e = absurd (cc)

pub also_held : (rule : ℕ) (b : Bool) (o : Option ℕ) → also rule b o ≡ None → (b ≡ true) × (o ≡ None)
also_held rule true o h = (refl, h)
also_held rule false None h = absurd (cc)
also_held rule false (Some r) h = absurd (cc)

-- what is declared is new, may stand there, and is what is answered
pub record IsDeclared {A : Type 0} (s : Begun) (names : List LocalName) (may_stand : Bool) (broken : Option ℕ) (x t : A) : Type 0 where
  pub unbroken : broken ≡ None
  pub may : may_stand ≡ true
  pub new : are_new s.taken names ≡ true
  pub same : x ≡ t

pub declared : {A : Type 0} (s : Begun) (names : List LocalName) (may_stand : Bool) (broken : Option ℕ) (x t : A) → declaring s names may_stand broken x ≡ Ok t → IsDeclared s names may_stand broken x t
declared s names may_stand broken x t e =
    let one = unless_ok 12 s.at (also 5 may_stand (also 4 (are_new s.taken names) broken)) x t e in
    let five = also_held 5 may_stand (also 4 (are_new s.taken names) broken) one.0 in
    let four = also_held 4 (are_new s.taken names) broken five.1 in
    record { unbroken = four.1; may = five.0; new = four.0; same = one.1 }

pub due_parameters : (d : BodyDue) → is_parameters d ≡ true → d ≡ Parameters
due_parameters Parameters e = refl
due_parameters FirstBlock e = absurd (cc)
due_parameters Line e = absurd (cc)
due_parameters NextBlock e = absurd (cc)

pub due_line : (d : BodyDue) → is_line d ≡ true → d ≡ Line
due_line Parameters e = absurd (cc)
due_line FirstBlock e = absurd (cc)
due_line Line e = refl
due_line NextBlock e = absurd (cc)
