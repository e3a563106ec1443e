-- Records of a module's block that are ended, against what they stand for.
use Rattle.std.proofs.Common.{◌≡◌, ℕ, suc, Bool, true, false, Option, Some, None, [], ◌∷◌, refl, sym, ap, ◌∙◌}
use Rattle.std.specs.Prelude.{Result, Ok, Err}
use Rattle.module_arena.specs.Module.{Bytes}
use Rattle.record_table.specs.Faults.{Answer, also, unless_broken}
use Rattle.record_table.specs.Records.{Sofar, may_follow, record_at_place}
use Rattle.record_table.specs.Walk.{Walk, going, stopped, told}
use Rattle.record_read.specs.declared.fault.BitcodeFault.{BitcodeFault}
use Rattle.record_read.specs.Faults.{Answers, Finishes}
use Rattle.record_read.specs.Fields.{IsTextKept}
use Rattle.record_read.specs.Reader.{Reader, also_asked, is_broken}
use Rattle.record_read.specs.Order.Order.{IsBehindRecord}
use Rattle.record_read.proofs.OnOpening.Answering.{finished, told_also}

-- what is asked of a record as a whole changes the walk alone
pub stays_two : (a b c : Reader) (w : Walk) → b ≡ record a { walk = w } → IsBehindRecord b c → IsBehindRecord a c
stays_two a b c w is h = record {
  spent = h.spent ∙ ap (λ (r : Reader). r.spent) is;
  left = h.left ∙ ap (λ (r : Reader). r.left) is;
  at = h.at ∙ ap (λ (r : Reader). r.at) is;
}

pub stays_one : (a b : Reader) (w : Walk) → b ≡ record a { walk = w } → IsBehindRecord a b
stays_one a b w is = record { spent = ap (λ (r : Reader). r.spent) is; left = ap (λ (r : Reader). r.left) is; at = ap (λ (r : Reader). r.at) is }

-- a part that is ended answers as it is placed
pub part_ended : (s after : Sofar) (old r : Reader) (holds : Bool) (last place : ℕ) (broken : Option ℕ) (result : Result (Unit {0}) BitcodeFault) → s.last ≡ last → old.at ≡ suc s.at → told old.walk ≡ broken
    → holds ≡ may_follow last place → r ≡ record old { walk = also_asked 5 holds old.walk } → Finishes 8 r result
    → Answers {A = Sofar} {B = Unit {0}} (λ done t. t ≡ record after { at = suc s.at; last = place }) (record_at_place s place broken after) result
part_ended s after old r holds last place broken result same at is may also_is f =
    let value : Sofar = record after { at = suc s.at; last = place } in
    let rules = also 5 (may_follow s.last place) broken in
    let here : holds ≡ may_follow s.last place = may ∙ ap (λ n. may_follow n place) (sym same) in
    let told_is : told r.walk ≡ rules = ap (λ (x : Reader). told x.walk) also_is ∙ (told_also 5 holds old.walk ∙ (ap (λ b. also 5 b (told old.walk)) here ∙ ap (λ o. also 5 (may_follow s.last place) o) is)) in
    finished (λ done t. t ≡ value) 8 s.at r rules value result (ap (λ (x : Reader). x.at) also_is ∙ at) told_is f (λ none. refl)

-- a refusal means the same whatever was to be kept
pub refused_so : {A B C : Type 0} (means : B → A → Type 0) (other : C → A → Type 0) (a : Answer A) (given : BitcodeFault) → Answers {A = A} {B = B} means a (Err given) → Answers {A = A} {B = C} other a (Err given)
refused_so means other (Ok value) given h = h
refused_so means other (Err fault) given h = h

-- ---- texts

broken_told : (w : Walk) → is_broken w ≡ true → told w ≡ None → ⊥
broken_told (going [] None) h e = cc
broken_told (going [] (Some r)) h e = cc
broken_told (going (n ∷ rest) None) h e = cc
broken_told (going (n ∷ rest) (Some r)) h e = cc
broken_told (stopped None) h e = cc
broken_told (stopped (Some r)) h e = cc

-- a record that breaks no rule has the text
text_kept : (text : Option Bytes) (value : Bytes) (w : Walk) → IsTextKept text value w → told w ≡ None → text ≡ Some value
text_kept (Some kept) value w k e = ap (λ (b : Bytes). Some b) k
text_kept None value w k e = absurd (broken_told w k.1 e)

pub text_told : (s : Sofar) (at place : ℕ) (value : Bytes) (broken : Option ℕ) (after : Option Bytes → Sofar) (text : Option Bytes) (w : Walk) → IsTextKept text value w → told w ≡ broken
    → Answers {A = Sofar} {B = Unit {0}} (λ done t. t ≡ record (after (Some value)) { at = at; last = place }) (unless_broken 8 s.at (also 5 (may_follow s.last place) broken) (record (after (Some value)) { at = at; last = place })) (Ok tt)
    → Answers {A = Sofar} {B = Option Bytes} (λ text t. t ≡ record (after text) { at = at; last = place }) (unless_broken 8 s.at (also 5 (may_follow s.last place) broken) (record (after (Some value)) { at = at; last = place })) (Ok text)
text_told s at place value broken after text w kept is h = by (may_follow s.last place) broken is h
  where
    by : (b : Bool) (broken : Option ℕ) → told w ≡ broken
        → Answers {A = Sofar} {B = Unit {0}} (λ done t. t ≡ record (after (Some value)) { at = at; last = place }) (unless_broken 8 s.at (also 5 b broken) (record (after (Some value)) { at = at; last = place })) (Ok tt)
        → Answers {A = Sofar} {B = Option Bytes} (λ text t. t ≡ record (after text) { at = at; last = place }) (unless_broken 8 s.at (also 5 b broken) (record (after (Some value)) { at = at; last = place })) (Ok text)
    by true None e h = ap (λ (o : Option Bytes). record (after o) { at = at; last = place }) (sym (text_kept text value w kept e))
    by true (Some rule) e h = absurd h
    by false None e h = absurd h
    by false (Some rule) e h = absurd h
