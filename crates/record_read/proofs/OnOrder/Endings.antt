-- The end of a module's block, by what is missing.
use Rattle.std.proofs.Common.{◌≡◌, ℕ, Bool, true, false, cond, nat_eq, nat_lt, is_some, refl, ap, ◌∙◌}
use Rattle.std.specs.Prelude.{Ok, Err}
use Rattle.record_table.specs.Faults.{Answer, BadRecord}
use Rattle.record_table.specs.Records.{Sofar, ended, first_due}

ended_by : (s : Sofar) (a b c : Bool) → nat_eq s.last 0 ≡ a → nat_lt s.last 5 ≡ b → is_some (first_due s.functions) ≡ c
    → ended s ≡ cond {A = Answer Sofar} a (Err (BadRecord 8 s.at 5)) (cond {A = Answer Sofar} b (Err (BadRecord 17 s.at 5)) (cond {A = Answer Sofar} c (Err (BadRecord 12 s.at 5)) (Ok s)))
ended_by s a b c p q r =
    λ j. cond {A = Answer Sofar} (p j) (Err (BadRecord 8 s.at 5)) (cond {A = Answer Sofar} (q j) (Err (BadRecord 17 s.at 5)) (cond {A = Answer Sofar} (r j) (Err (BadRecord 12 s.at 5)) (Ok s)))

module _ (s : Sofar) (last : ℕ) (same : s.last ≡ last) where
  abbrev bare : (b : Bool) → nat_eq last 0 ≡ b → nat_eq s.last 0 ≡ b
  bare b e = ap (λ n. nat_eq n 0) same ∙ e

  abbrev untyped : (b : Bool) → nat_lt last 5 ≡ b → nat_lt s.last 5 ≡ b
  untyped b e = ap (λ n. nat_lt n 5) same ∙ e

  pub no_version : nat_eq last 0 ≡ true → ended s ≡ Err (BadRecord 8 s.at 5)
  no_version e = ended_by s true _ _ (bare true e) refl refl

  pub no_types : nat_eq last 0 ≡ false → nat_lt last 5 ≡ true → ended s ≡ Err (BadRecord 17 s.at 5)
  no_types e f = ended_by s false true _ (bare false e) (untyped true f) refl

  pub no_body : nat_eq last 0 ≡ false → nat_lt last 5 ≡ false → is_some (first_due s.functions) ≡ true → ended s ≡ Err (BadRecord 12 s.at 5)
  no_body e f g = ended_by s false false true (bare false e) (untyped false f) g

  pub nothing_missing : nat_eq last 0 ≡ false → nat_lt last 5 ≡ false → is_some (first_due s.functions) ≡ false → ended s ≡ Ok s
  nothing_missing e f g = ended_by s false false false (bare false e) (untyped false f) g
