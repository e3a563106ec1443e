-- Marks of the numbers that came in turn.
use Rattle.std.specs.Prelude.{◌≡◌, refl, ℕ, ◌+◌, ◌==◌, ◌&&◌, Bool, true, false, not, cond, List, [], ◌∷◌, ◌++◌, length}
use Rattle.std.proofs.Common.{inl, inr, ap, sym, ◌∙◌, arith}
use Rattle.std.proofs.lemmas.Bool.{cases_lt, eqb-true, eqb-false}
use Rattle.std.proofs.lemmas.List.{get_or_append_left, get_or_past, get_or_push, length_push}
use Rattle.name_rules.specs.Locals.{is_alike}
use Rattle.name_judge.specs.Locals.Names.{is_marked}

-- what is first asked may be asked later
pub marked_first : (one mark other : Bool) → cond (cond one true mark) true other ≡ cond one true (cond mark true other)
marked_first true mark other = refl
marked_first false mark other = refl

pub marked_last : (one mark other : Bool) → cond mark true (cond one true other) ≡ cond one true (cond mark true other)
marked_last true true other = refl
marked_last true false other = refl
marked_last false mark other = refl

-- the mark of the other kind is none
pub no_mark : (block : Bool) → is_alike (not block) block ≡ false
no_mark true = refl
no_mark false = refl

-- where none was
first : (one old : Bool) → old ≡ false → one ≡ cond one true old
first true old e = refl
first false old e = sym e

-- one mark more
pub mark_more : (marks : List Bool) (mark block : Bool) (next number : ℕ) → length marks ≡ next → is_marked (marks ++ mark ∷ []) block number ≡ cond ((next == number) && is_alike mark block) true (is_marked marks block number)
mark_more marks mark block next number long = by (next == number) refl
  where
    by : (same : Bool) → (next == number) ≡ same → is_marked (marks ++ mark ∷ []) block number ≡ cond (same && is_alike mark block) true (is_marked marks block number)
    by true same =
        let here : length marks ≡ number = long ∙ eqb-true next number same in
        ap (λ (m : Bool). is_alike m block) (get_or_push marks mark (not block) number here)
        ∙ first (is_alike mark block) (is_marked marks block number) (ap (λ (m : Bool). is_alike m block) (get_or_past marks number (not block) (omega (arith, here))) ∙ no_mark block)
    by false same = elim (cases_lt number (length marks)) [
      | inl before ↦ ap (λ (m : Bool). is_alike m block) (get_or_append_left marks (mark ∷ []) (not block) number before)
      | inr behind ↦ (
          let apart = eqb-false next number same in
          ap (λ (m : Bool). is_alike m block)
          (get_or_past (marks ++ mark ∷ []) number (not block) (omega (arith, behind, apart, long, length_push marks mark)) ∙ sym (get_or_past marks number (not block) behind)))
    ]
