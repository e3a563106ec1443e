-- The byte that is taken is the first of the input that the run still has.
use Rattle.std.proofs.Common.{◌≡◌, ◌↔◌, ℕ, ◌≤◌, Bool, true, false, List, [], ◌∷◌, ◌++◌, length, Option, Some, None, IfSome, IsTrue, refl, sym, ap, ◌∙◌, inl, inr, arith}
use Rattle.std.proofs.lemmas.List.{nil_from_length}
use Rattle.std.proofs.lemmas.Bool.{true_from_ne_false}
use Rattle.ir_base.specs.Outside.{Lost}
use Rattle.run_rules.specs.Traffic.Input.{Waiting, IsWaiting, bytes_left, IsNext, IsHeard, Takes}

pub lost_none : (l : Option (List ℕ)) → Lost l l []
lost_none None = refl
lost_none (Some xs) = refl

-- ---- a byte that waits, or the end that was found before

next_left : (unused others : List ℕ) (closed after : Bool) (byte : Option ℕ) (rest : List ℕ) → IsNext unused byte others → after ≡ closed → (unused ≡ [] → closed ≡ true)
    → IsNext (bytes_left (record { unused = unused; closed = closed }) rest) byte (bytes_left (record { unused = others; closed = after }) rest)
next_left [] others closed after byte rest n e end = rw (e, end refl, n.1) (n.0, refl)
next_left (b ∷ bs) others closed after byte rest n e end = rw (e, n.1) (n.0, refl)

-- what is false is not told
never : (test : Bool) (P : Type 0) → (IsTrue test ↔ P) → test ≡ false → P → ⊥
never true P h e p = cc
never false P h e p =
    let wrong = h.1 p in
    cc

told : (test : Bool) (P : Type 0) → (IsTrue test ↔ P) → test ≡ true → P
told true P h e = h.0 refl
told false P h e = cc

-- what is not waiting has a byte or is closed
end_is : (w : Waiting) → (IsWaiting w → ⊥) → w.unused ≡ [] → w.closed ≡ true
end_is w never none = true_from_ne_false w.closed (λ c. never (none, c))

-- `test` is what `must_read` answered
pub takes_unused : (old new : Waiting) (byte : Option ℕ) (l : Option (List ℕ)) (test : Bool) → (IsTrue test ↔ IsWaiting old) → test ≡ false → IsNext old.unused byte new.unused → new.closed ≡ old.closed → Takes old byte new l l
takes_unused old new byte l test h false_is n e =
    record {
      heard = [];
      lost = lost_none l;
      reads = inl (refl, e);
      next = λ rest k. next_left old.unused new.unused old.closed new.closed byte rest n e (end_is old (never test (IsWaiting old) h false_is));
    }

-- ---- a byte of those that were read, or the end

next_heard : (heard others : List ℕ) (closed : Bool) (byte : Option ℕ) (rest : List ℕ) → IsNext heard byte others → ((closed ≡ true) ↔ (heard ≡ [])) → (closed ≡ true → rest ≡ [])
    → IsNext (heard ++ rest) byte (others ++ (bytes_left (record { unused = []; closed = closed }) rest))
next_heard [] others closed byte rest n c h =
    let shut : closed ≡ true = c.1 refl in
    rw (h shut, shut, n.1) (n.0, refl)
next_heard (b ∷ bs) others true byte rest n c h = let wrong = c.0 refl in cc
next_heard (b ∷ bs) others false byte rest n c h = rw n.1 (n.0, refl)

pub takes_heard : (old mid new : Waiting) (byte : Option ℕ) (before now : Option (List ℕ)) (test : Bool) → (IsTrue test ↔ IsWaiting old) → test ≡ true → IsHeard before now mid → IsNext mid.unused byte new.unused → new.closed ≡ mid.closed
    → Takes old byte new before now
takes_heard old mid new byte before now test t true_is h n e =
    let w : IsWaiting old = told test (IsWaiting old) t true_is in
    record {
      heard = mid.unused;
      lost = h.lost;
      reads = inr (record { waits = w; few = h.few; closes = rw e h.closes; at_end = rw e h.at_end });
      next = λ rest k. rw (w.0, w.1, e) (next_heard mid.unused new.unused mid.closed byte rest n h.closes (λ c. k w.1 (e ∙ c)));
    }

-- ---- a read

-- where none wait, and nothing came, what waits is as it was
pub still_waiting : (w : Waiting) (unused : List ℕ) (closed : Bool) → IsWaiting w → unused ≡ [] → closed ≡ w.closed → record { unused = unused; closed = closed } ≡ w
still_waiting w unused closed h none same = rw (none, same, ← h.0) refl

-- where the end was found, nothing is left
rest_none : (before now : Option (List ℕ)) → Lost before now [] → IfSome before (λ bytes. bytes ≡ []) → IfSome now (λ rest. rest ≡ [])
rest_none before None l e = tt
rest_none before (Some rest) l e = rw l at e

at_end : (before now : Option (List ℕ)) (count : ℕ) → Lost before now [] → count ≡ 0 → IfSome before (λ bytes. (count ≡ 0) ↔ (bytes ≡ [])) → IfSome now (λ rest. rest ≡ [])
at_end None now count l z e = rest_none None now l tt
at_end (Some bytes) now count l z e = rest_none (Some bytes) now l (e.0 z)

-- `closed` is whether no byte came
pub heard_is : (before now : Option (List ℕ)) (count : ℕ) (bytes : List ℕ) (closed : Bool) → length bytes ≡ count → count ≤ 65536 → ((closed ≡ true) ↔ (count ≡ 0)) → Lost before now bytes
    → IfSome before (λ all. (count ≡ 0) ↔ (all ≡ [])) → IsHeard before now (record { unused = bytes; closed = closed })
heard_is before now count bytes closed long few shut lost e =
    record {
      lost = lost;
      few = omega (arith, long, few);
      closes = (λ c. nil_from_length bytes (long ∙ shut.0 c), λ none. shut.1 (sym long ∙ ap length none));
      at_end = λ c. at_end before now count (rw (nil_from_length bytes (long ∙ shut.0 c)) at lost) (shut.0 c) e;
    }
