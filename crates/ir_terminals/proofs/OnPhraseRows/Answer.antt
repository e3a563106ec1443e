-- Reading answers with the value, or the first bad place.
use Rattle.std.proofs.Common.{◌≡◌, ℕ, suc, ◌≤◌, ◌<◌, ◌-◌, ◌+◌, List, [], ◌∷◌, ◌++◌, length, take, drop, Bool, true, false, inl, inr, refl, sym, ap, subst, ◌∙◌, append-nil, arith, length-append, length-drop, Result, Ok, Err}
use Rattle.std.proofs.lemmas.List.{take-append-drop, take-append-le}
use Rattle.std.proofs.lemmas.Bool.{cases_order}
use Rattle.std.proofs.Math.Seq.{take-length}
use Rattle.ir_terminals.specs.PhraseRows.Row.{Reading, Done, Bad, PhraseShape, Row}
use Rattle.ir_terminals.specs.PhraseRows.Reads.{Front, Takes, tokens_behind, Reads}
use Rattle.ir_terminals.specs.PhraseRows.Answer.{IsFirstBad, ended, answer}

-- the tokens are all there is and are whole with this value, or this is the first bad place
abbrev pub IsAnswer : {T A : Type 0} → Row T A → Bool → List T → Result A ℕ → Type 0
IsAnswer r ended ts (Ok a) = (ended ≡ true) × r.whole ts a
IsAnswer r ended ts (Err i) = IsFirstBad r ended ts i

-- tokens have exactly one answer: whole with one value, or one first bad place, and never both
pub record HasOneAnswer {T A : Type 0} (r : Row T A) (ended : Bool) (ts : List T) : Type 0 where
  pub found : Result A ℕ
  pub holds : IsAnswer r ended ts found
  pub only : (x : Result A ℕ) → IsAnswer r ended ts x → x ≡ found

module _ {T A : Type 0} (class : T → ℕ) (r : Row T A) (s : PhraseShape) (h : Reads class r s) where
  front_before : (us rest : List T) (j : ℕ) → Front r us → j ≤ length us → Front r (take j (us ++ rest))
  front_before us rest j f le = rw take-append-le (h.closed (take j us) (drop j us) (rw take-append-drop f))

  no_front_after : (ts : List T) (j : ℕ) → length ts < j + length (tokens_behind (r.run ts)) → j ≤ length ts → Front r (take j ts) → ⊥
  no_front_after ts j lt le f =
      let past = h.past (take j ts) (drop j ts) f in
      let here = rw (take-append-drop j ts) at past in
      omega (arith, here, length-drop j ts)

  whole_read : (ts : List T) (a : A) → r.whole ts a → r.run ts ≡ Done a []
  whole_read ts a w = ap r.run (sym (append-nil ts)) ∙ h.complete ts [] a w tt

  first_bad : (end : Bool) (ts us rest : List T) → ts ≡ us ++ rest → Front r us → length (tokens_behind (r.run ts)) ≡ length rest → (end ≡ true → (a : A) → r.whole ts a → ⊥) → IsFirstBad r end ts (length ts - length rest)
  first_bad end ts us rest e f l unread =
      let n = ap length e in
      record {
        within = omega arith;
        before = λ j le. rw e (front_before us rest j f (omega (arith, n, length-append us rest)));
        after = λ j lt le g. no_front_after ts j (omega (arith, n, l, length-append us rest)) le g;
        at_end = λ over i a w. unread over a w;
      }

  -- whole tokens behind which stands what begins no token
  bad_behind : (ts : List T) (a : A) → r.whole ts a → IsFirstBad r false ts (length ts)
  bad_behind ts a w = record {
    within = omega arith;
    before = λ j le. rw (append-nil ts) at (front_before ts [] j (inl (a, w)) le);
    after = λ j lt le g. absurd (omega arith);
    at_end = λ over i b v. absurd cc;
  }

  pub answered : (end : Bool) (ts : List T) → IsAnswer r end ts (answer r end ts)
  answered end ts = answered_at end (r.run ts) refl (h.takes ts)
    where
      answered_at : (end : Bool) (x : Reading T A) → r.run ts ≡ x → Takes r ts x → IsAnswer r end ts (ended end (length ts) x)
      answered_at true (Done a []) e (us, d, w) = (refl, rw d (rw (append-nil us) w))
      answered_at false (Done a []) e (us, d, w) = bad_behind ts a (rw d (rw (append-nil us) w))
      answered_at end (Done a (t ∷ rest)) e (us, d, w) =
          first_bad end ts us (t ∷ rest) d (inl (a, w)) (ap (λ (x : Reading T A). length (tokens_behind x)) e) (λ over b v. let k = whole_read ts b v in absurd cc)
      answered_at end (Bad rest) e (us, d, c) =
          first_bad end ts us rest d (inr c) (ap (λ (x : Reading T A). length (tokens_behind x)) e) (λ over b v. let k = whole_read ts b v in absurd cc)

  -- nothing that is whole is refused, where it is all there is
  pub answered_whole : (ts : List T) (a : A) → r.whole ts a → answer r true ts ≡ Ok a
  answered_whole ts a w = ap (ended true (length ts)) (whole_read ts a w)

  -- there is one first bad place
  pub first_bad_once : (end : Bool) (ts : List T) (i : ℕ) → IsFirstBad r end ts i → answer r end ts ≡ Err i
  first_bad_once end ts i b = once (answer r end ts) refl (answered end ts)
    where
      once : (x : Result A ℕ) → answer r end ts ≡ x → IsAnswer r end ts x → x ≡ Err i
      once (Ok a) e (over, w) = absurd (elim (cases_order i (length ts)) [
        | inl same ↦ b.at_end over same a w
        | inr rest ↦ elim rest [ inl lt ↦ b.after (length ts) lt (omega arith) (inl (a, rw (take-length ts) w)) | inr gt ↦ (let k = b.within in omega arith) ]
      ])
      once (Err j) e c = ap Err (elim (cases_order j i) [
        | inl same ↦ same
        | inr rest ↦ elim rest [
          | inl lt ↦ absurd (c.after i lt b.within (b.before i (omega arith)))
          | inr lt ↦ absurd (b.after j lt c.within (c.before j (omega arith)))
        ]
      ])

  is_answer : (end : Bool) (ts : List T) (x : Result A ℕ) → answer r end ts ≡ x → IsAnswer r end ts x
  is_answer end ts x e = subst (λ (y : Result A ℕ). IsAnswer r end ts y) e (answered end ts)

  -- the tokens through one before the first bad place are viable
  pub viable_through : (end : Bool) (ts : List T) (i j : ℕ) → answer r end ts ≡ Err j → i < j → Front r (take (suc i) ts)
  viable_through end ts i j e lt = (is_answer end ts (Err j) e).before (suc i) (omega arith)

  -- of whole tokens each front is viable
  pub viable_in_whole : (end : Bool) (ts : List T) (i : ℕ) (a : A) → answer r end ts ≡ Ok a → i < length ts → Front r (take (suc i) ts)
  viable_in_whole end ts i a e lt = rw (append-nil ts) at (front_before ts [] (suc i) (inl (a, (is_answer end ts (Ok a) e).1)) (omega arith))

  -- no more are, from the first bad place on
  pub not_viable_from : (end : Bool) (ts : List T) (i j : ℕ) → answer r end ts ≡ Err j → j ≤ i → i < length ts → Front r (take (suc i) ts) → ⊥
  not_viable_from end ts i j e le lt f = (is_answer end ts (Err j) e).after (suc i) (omega arith) (omega arith) f

  only_answer : (end : Bool) (ts : List T) (x : Result A ℕ) → IsAnswer r end ts x → x ≡ answer r end ts
  only_answer end ts (Ok a) (over, w) = rw over (sym (answered_whole ts a w))
  only_answer end ts (Err i) b = sym (first_bad_once end ts i b)

  -- whole with one value, or one first bad place, and never both
  pub one_answer : (end : Bool) (ts : List T) → HasOneAnswer r end ts
  one_answer end ts = record { found = answer r end ts; holds = answered end ts; only = only_answer end ts }
