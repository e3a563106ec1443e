-- What is due, in order.
use Rattle.std.proofs.Common.{◌≡◌, ℕ, ◌+◌, ◌<◌, ◌≤◌, Bool, true, false, List, [], ◌∷◌, length, get_or, drop, map, eqb, refl, sym, ap, ◌∙◌, subst, arith}
use Rattle.std.proofs.lemmas.Bool.{eqb-true}
use Rattle.std.proofs.lemmas.Bool.Decides.{nat_tests}
use Rattle.std.proofs.lemmas.List.{drop_all, drop_more}
use Rattle.run_rules.specs.State.{Due}
use Rattle.run_acts.specs.declared.due.DueCall.{DueCall}
use Rattle.run_acts.specs.declared.due.DueCall.TheVariants.{Constructor}
use Rattle.run_acts.specs.Dues.{due_of}
use Rattle.run_acts.specs.Said.{IsLast}

abbrev left : List DueCall → ℕ → List Due
left calls made = map due_of (drop made calls)

pub none_due : (calls : List DueCall) (made : ℕ) → length calls ≤ made → left calls made ≡ []
none_due calls made over = ap (map due_of) (drop_all made calls over)

pub next_due : (calls : List DueCall) (made : ℕ) (call : DueCall) → made < length calls → call ≡ get_or calls made call → left calls made ≡ due_of call ∷ left calls (made + 1)
next_due calls made call lt is = ap (map due_of) (drop_more calls made call lt) ∙ ap (λ x. due_of x ∷ left calls (made + 1)) (sym is)

-- whether none is due, by the test
pub last_told : (calls : List DueCall) (made : ℕ) (b : Bool) → made ≤ length calls → b ≡ eqb made (length calls) → IsLast (left calls made) b
last_told calls made true within e =
    let same : made ≡ length calls = eqb-true made (length calls) (sym e) in
    subst (λ (ds : List Due). IsLast ds true) (sym (none_due calls made (omega (arith, same)))) refl
last_told calls made false within e =
    let less : made < length calls = grind (arith, nat_tests) in
    subst (λ (ds : List Due). IsLast ds false) (sym (ap (map due_of) (drop_more calls made (Constructor 0) less))) refl
