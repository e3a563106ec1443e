-- The one operand of the version, and what stands for none.
use Rattle.std.proofs.Common.{◌≡◌, ℕ, suc, Bool, true, false, not, ◌&&◌, cond, Option, Some, None, List, [], ◌∷◌, nat_eq, refl, sym, ap, subst, ◌∙◌}
use Rattle.std.specs.Prelude.{Err}
use Rattle.record_table.specs.Faults.{Answer, BadVersion, also}
use Rattle.record_table.specs.Fields.{Texts}
use Rattle.record_table.specs.Records.{Sofar, is_version, record_at_place, version_record}
use Rattle.record_table.specs.Walk.{Walk, going, next, told}
use Rattle.record_read.specs.Reader.{Reader, TakesBy, also_asked}
use Rattle.record_read.specs.Order.Order.{IsAlone, IsNoNumber, IsOnly, StandsBehind}
use Rattle.record_read.proofs.OnOpening.Answering.{told_also}

-- ---- operands that were taken

pub took_another : (number : ℕ) (old new : Reader) (taken : ℕ) → TakesBy old.walk old (Some taken) new → (operands : List ℕ) → old.walk ≡ going operands None → IsAlone number operands None new.walk
took_another number old new taken t [] walk = absurd (subst (λ w. TakesBy w old (Some taken) new) walk t)
took_another number old new taken t (n ∷ operands) walk =
    let k : (taken ≡ n) × (new ≡ record old { walk = going operands None }) = subst (λ w. TakesBy w old (Some taken) new) walk t in
    (refl, ap (λ (r : Reader). r.walk) k.1)

pub took_no_other : (number : ℕ) (old new : Reader) → TakesBy old.walk old None new → (operands : List ℕ) → old.walk ≡ going operands None → IsAlone number operands (Some number) new.walk
took_no_other number old new t [] walk =
    let k : new ≡ old = subst (λ w. TakesBy w old None new) walk t in
    (refl, ap (λ (r : Reader). r.walk) k ∙ walk)
took_no_other number old new t (n ∷ operands) walk = absurd (subst (λ w. TakesBy w old None new) walk t)

pub took_first : (old new : Reader) (first : ℕ) → TakesBy old.walk old (Some first) new → (operands : List ℕ) → old.walk ≡ going operands None → (result : Option ℕ) (w : Walk)
    → ((others : List ℕ) → new.walk ≡ going others None → IsAlone first others result w) → IsOnly operands result w
took_first old new first t [] walk result w alone = absurd (subst (λ v. TakesBy v old (Some first) new) walk t)
took_first old new first t (n ∷ operands) walk result w alone =
    let k : (first ≡ n) × (new ≡ record old { walk = going operands None }) = subst (λ v. TakesBy v old (Some first) new) walk t in
    subst (λ m. IsAlone m operands result w) k.0 (alone operands (ap (λ (r : Reader). r.walk) k.1))

pub took_none : (old new : Reader) → TakesBy old.walk old None new → (operands : List ℕ) → old.walk ≡ going operands None → IsOnly operands None new.walk
took_none old new t [] walk =
    let k : new ≡ old = subst (λ w. TakesBy w old None new) walk t in
    (refl, ap (λ (r : Reader). r.walk) k ∙ walk)
took_none old new t (n ∷ operands) walk = absurd (subst (λ w. TakesBy w old None new) walk t)

-- ---- what the operands were

pub only_some : (operands : List ℕ) (number : ℕ) (w : Walk) → IsOnly operands (Some number) w → (operands ≡ number ∷ []) × (w ≡ going [] None)
only_some [] number w h = absurd (never h.0)
  where
    never : Some number ≡ None → ⊥
    never e = cc
only_some (n ∷ []) number w h = (ap (λ k. k ∷ []) (same h.0), h.1)
  where
    same : Some number ≡ Some n → n ≡ number
    same e = cc
only_some (n ∷ m ∷ operands) number w h = absurd (never h.0)
  where
    never : Some number ≡ None → ⊥
    never e = cc

-- there is no number, and these are left
pub record HasNone (operands : List ℕ) (w : Walk) : Type 0 where
  pub none : IsNoNumber operands
  pub left : List ℕ
  pub walk : w ≡ going left None

pub only_none : (operands : List ℕ) (w : Walk) → IsOnly operands None w → HasNone operands w
only_none [] w h = record { none = tt; left = []; walk = h.1 }
only_none (n ∷ []) w h = absurd (never h.0)
  where
    never : None ≡ Some n → ⊥
    never e = cc
only_none (n ∷ m ∷ operands) w h = record { none = tt; left = operands; walk = h.1 }

-- ---- the record

-- behind what was taken the record stands behind the same
pub still_behind : (t : Texts) (last : ℕ) (old new : Reader) (s : Sofar) (operands left : List ℕ) → StandsBehind t last old s operands → new ≡ record old { walk = new.walk } → new.walk ≡ going left None → StandsBehind t last new s left
still_behind t last old new s operands left b rest walk = record { texts_are = b.texts_are; last_is = b.last_is; walk = walk; at = ap (λ (r : Reader). r.at) rest ∙ b.at }

abbrev is_strange : Sofar → ℕ → Bool
is_strange s number = nat_eq s.last 0 && not (is_version number)

by_strange : (s : Sofar) (number : ℕ) (b : Bool) → is_strange s number ≡ b
    → version_record s (number ∷ []) ≡ cond {A = Answer Sofar} b (Err (BadVersion number)) (record_at_place s 1 (also 5 (nat_eq number s.texts.version) None) s)
by_strange s number b e = ap (λ c. cond {A = Answer Sofar} c (Err (BadVersion number)) (record_at_place s 1 (also 5 (nat_eq number s.texts.version) None) s)) e

strange_is : (s : Sofar) (last number : ℕ) (b : Bool) → s.last ≡ last → (nat_eq last 0 && not (is_version number)) ≡ b → is_strange s number ≡ b
strange_is s last number b same e = ap (λ n. nat_eq n 0 && not (is_version number)) same ∙ e

pub version_strange : (s : Sofar) (last number : ℕ) → s.last ≡ last → (nat_eq last 0 && not (is_version number)) ≡ true → version_record s (number ∷ []) ≡ Err (BadVersion number)
version_strange s last number same e = by_strange s number true (strange_is s last number true same e)

pub version_known : (s : Sofar) (last number : ℕ) → s.last ≡ last → (nat_eq last 0 && not (is_version number)) ≡ false → version_record s (number ∷ []) ≡ record_at_place s 1 (also 5 (nat_eq number s.texts.version) None) s
version_known s last number same e = by_strange s number false (strange_is s last number false same e)

pub number_told : (s : Sofar) (t : Texts) (last number : ℕ) (is : Bool) (old mid : Reader) → StandsBehind t last old s [] → is ≡ nat_eq number t.version → mid ≡ record old { walk = also_asked 5 is old.walk }
    → told mid.walk ≡ also 5 (nat_eq number s.texts.version) None
number_told s t last number is old mid b same also_is =
    ap (λ (x : Reader). told x.walk) also_is
    ∙ (told_also 5 is old.walk ∙ (ap (λ c. also 5 c (told old.walk)) (same ∙ ap (λ (x : Texts). nat_eq number x.version) (sym b.texts_are)) ∙ ap (λ w. also 5 (nat_eq number s.texts.version) (told w)) b.walk))

pub without_told : (s : Sofar) (t : Texts) (last : ℕ) (left : List ℕ) (old mid : Reader) → StandsBehind t last old s left → mid ≡ record old { walk = also_asked 1 false old.walk } → told mid.walk ≡ Some 1
without_told s t last left old mid b also_is = ap (λ (x : Reader). told x.walk) also_is ∙ (ap (λ w. told (also_asked 1 false w)) b.walk ∙ by left)
  where
    by : (left : List ℕ) → told (also_asked 1 false (going left None)) ≡ Some 1
    by [] = refl
    by (n ∷ left) = refl

pub without_number : (s : Sofar) (operands : List ℕ) → IsNoNumber operands → version_record s operands ≡ record_at_place s 1 (Some 1) s
unfolding next
without_number s [] h = refl
without_number s (n ∷ []) h = absurd h
without_number s (n ∷ m ∷ operands) h = refl

pub also_at : (s : Sofar) (old mid : Reader) (w : Walk) → mid ≡ record old { walk = w } → old.at ≡ suc s.at → mid.at ≡ suc s.at
also_at s old mid w is at = ap (λ (r : Reader). r.at) is ∙ at
