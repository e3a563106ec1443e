-- The first demand that does not hold, part by part.
use Rattle.std.specs.Prelude.{◌≡◌, refl, Bool, true, false, List, [], ◌∷◌, ◌++◌, Option, Some, None, Result, Err}
use Rattle.std.proofs.Common.{ap, sym, subst, ◌∙◌}
use Rattle.name_rules.specs.declared.fault.ResolveFault.{ResolveFault}
use Rattle.name_rules.specs.declared.fault.ResolveFault.TheVariants as faults
use Rattle.name_rules.specs.Demand.{Demand, ask, first_refusal, first_there, Tells, Judged}

-- the first of two lists' demands
pub first-append : (a b : List Demand) → first_refusal (a ++ b) ≡ first_there (first_refusal a) (first_refusal b)
first-append [] b = refl
first-append (d ∷ a) b = by d.holds (first-append a b)
  where
    by : (h : Bool) → first_refusal (a ++ b) ≡ first_there (first_refusal a) (first_refusal b)
        → elim h as (λ _. Option ResolveFault) [ true ↦ first_refusal (a ++ b) | false ↦ Some d.refusal ] ≡ first_there (elim h as (λ _. Option ResolveFault) [ true ↦ first_refusal a | false ↦ Some d.refusal ]) (first_refusal b)
    by true e = e
    by false e = refl

pub there_none : (x y : Option ResolveFault) → first_there x y ≡ None → (x ≡ None) × (y ≡ None)
there_none None y e = (refl, e)
there_none (Some f) y e = absurd cc

-- where none of all fails, none of either part does
pub both_hold : (a b : List Demand) → first_refusal (a ++ b) ≡ None → (first_refusal a ≡ None) × (first_refusal b ≡ None)
both_hold a b e = there_none (first_refusal a) (first_refusal b) (sym (first-append a b) ∙ e)

-- where none fails, the first holds and none of the others fails
pub held : (h : Bool) (refusal : ResolveFault) (more : List Demand) → first_refusal (ask h refusal ∷ more) ≡ None → (h ≡ true) × (first_refusal more ≡ None)
held true refusal more e = (refl, e)
held false refusal more e = absurd cc

told_first : (A B : Type 0) (x y : Option ResolveFault) (fault : ResolveFault) → Tells {A = A} x (Err fault) → Tells {A = B} (first_there x y) (Err fault)
told_first A B x y faults.Memory j = tt
told_first A B x y (faults.TooMany kind count) j = ap (λ z. first_there z y) j
told_first A B x y (faults.Duplicate place earlier) j = ap (λ z. first_there z y) j
told_first A B x y (faults.UnknownName place name) j = ap (λ z. first_there z y) j
told_first A B x y (faults.WrongNumber place next found) j = ap (λ z. first_there z y) j
told_first A B x y (faults.ConstantRange place) j = ap (λ z. first_there z y) j
told_first A B x y (faults.TooDeep place) j = ap (λ z. first_there z y) j
told_first A B x y (faults.SelfContaining place) j = ap (λ z. first_there z y) j
told_first A B x y (faults.TooLarge place) j = ap (λ z. first_there z y) j

-- a part that is refused refuses all that begins with it
pub judged_front : (A B : Type 0) (a b : List Demand) (fault : ResolveFault) → Judged {A = A} a (Err fault) → Judged {A = B} (a ++ b) (Err fault)
judged_front A B a b fault j = subst (λ x. Tells {A = B} x (Err fault)) (sym (first-append a b)) (told_first A B (first_refusal a) (first_refusal b) fault j)

-- behind a part that is fine, the answer to the rest is that to all
pub judged_rest : {A : Type 0} (a b : List Demand) (r : Result A ResolveFault) → first_refusal a ≡ None → Judged b r → Judged (a ++ b) r
judged_rest a b r fine j = subst (λ x. Tells x r) (sym (first-append a b ∙ ap (λ x. first_there x (first_refusal b)) fine)) j
