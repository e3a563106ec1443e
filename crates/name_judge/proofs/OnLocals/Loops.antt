-- Loops over what a function calls, element by element.
use Rattle.std.specs.Prelude.{◌≡◌, refl, ℕ, zero, suc, ◌+◌, ◌<◌, ◌≤◌, List, [], ◌∷◌, ◌++◌, length, map, flat_map, Ok, Err}
use Rattle.std.proofs.Common.{ap, sym, subst, ◌∙◌, arith, get_or, take, drop, append_assoc}
use Rattle.std.proofs.lemmas.List.{drop_more, drop_all, take_all, append-nil}
use Rattle.name_rules.specs.declared.fault.ResolveFault.{ResolveFault}
use Rattle.name_rules.specs.Demand.{Demand}
use Rattle.name_rules.specs.FunctionDemands.{Called, called_with, called_after}
use Rattle.name_rules.specs.Locals.{Announced}
use Rattle.type_judge.specs.Judging.{IsJudged}
use Rattle.type_judge.proofs.Parts.{Leads, leads_start}
use Rattle.name_judge.specs.declared.locals.called.CalledNames.{CalledNames}
use Rattle.name_judge.specs.Locals.Calling.{IsCalled, Goes}
use Rattle.name_judge.proofs.OnLocals.Steps.{judged_front, judged_rest}

-- one element more
pub flat_more : {A B C : Type 0} (f : B → List C) (view : A → B) (xs : List A) (i : ℕ) (x : A) → i < length xs → x ≡ get_or xs i x → flat_map f (map view (take (i + 1) xs)) ≡ flat_map f (map view (take i xs)) ++ f (view x)
flat_more f view [] i x h e = absurd (omega (arith, h))
flat_more f view (y ∷ xs) zero x h e = append-nil (f (view y)) ∙ ap (λ z. f (view z)) (sym e)
flat_more f view (y ∷ xs) (suc i) x h e =
    let more : suc i + 1 ≡ suc (i + 1) = omega arith in
    rw more (ap (λ rest. f (view y) ++ rest) (flat_more f view xs i x (omega (arith, h)) e) ∙ sym (append_assoc (f (view y)) (flat_map f (map view (take i xs))) (f (view x))))

-- what is called behind two lists
pub after_both : (b : Called) (xs ys : List Announced) → called_after b (xs ++ ys) ≡ called_after (called_after b xs) ys
after_both b [] ys = refl
after_both b (x ∷ xs) ys = after_both (called_with b x) xs ys

-- so far in a loop: what is left is to be answered, and what was called is in the table
pub record Going (old now : CalledNames) (all rest : Called → List Demand) (then_ : Called → Called) : Type 0 where
  pub leads : (before : Called) → IsCalled old before → Leads (rest (then_ before)) (all before)
  pub calls : (before : Called) → IsCalled old before → IsCalled now (then_ before)

module _ {A B : Type 0} (view : A → B) (one : Called → B → List Demand) (announced : B → List Announced) (all : Called → List B → List Demand) (xs : List A) where
  -- what is called behind the elements before one
  abbrev pub then_at : ℕ → Called → Called
  then_at i before = called_after before (flat_map announced (map view (take i xs)))

  -- what the elements from one on ask for
  abbrev pub rest_at : ℕ → Called → List Demand
  rest_at i before = all before (map view (drop i xs))

  -- what all ask for
  abbrev pub whole : Called → List Demand
  whole before = all before (map view xs)

  -- before the first
  pub going_start : (old : CalledNames) → Going old old whole (rest_at 0) (then_at 0)
  going_start old = record { leads = λ b h. leads_start (whole b); calls = λ b h. h }

  module _ (none : (b : Called) → all b [] ≡ []) (more : (b : Called) (y : B) (ys : List B) → all b (y ∷ ys) ≡ one b y ++ all (called_after b (announced y)) ys) where
    split : (i : ℕ) (x : A) → i < length xs → x ≡ get_or xs i x → (b : Called) → rest_at i b ≡ one b (view x) ++ rest_at (i + 1) (called_after b (announced (view x)))
    split i x h e b =
        ap (λ ys. all b (map view ys)) (drop_more xs i x h)
        ∙ ap (λ y. all b (view y ∷ map view (drop (i + 1) xs))) (sym e)
        ∙ more b (view x) (map view (drop (i + 1) xs))

    next_then : (i : ℕ) (x : A) → i < length xs → x ≡ get_or xs i x → (b : Called) → called_after (then_at i b) (announced (view x)) ≡ then_at (i + 1) b
    next_then i x h e b = sym (after_both b (flat_map announced (map view (take i xs))) (announced (view x))) ∙ ap (called_after b) (sym (flat_more announced view xs i x h e))

    -- the next element is fine
    pub going_next : (i : ℕ) (x : A) → i < length xs → x ≡ get_or xs i x → (old now next : CalledNames) → Goes now next (λ b. one b (view x)) (λ b. called_after b (announced (view x))) (Ok tt)
        → Going old now whole (rest_at i) (then_at i) → Going old next whole (rest_at (i + 1)) (then_at (i + 1))
    going_next i x h e old now next g l = record {
      leads = λ b q. record {
        on_ = λ r j.
            (l.leads b q).on_ r
            (subst (λ (ds : List Demand). IsJudged ds r) (sym (split i x h e (then_at i b)))
            (judged_rest _ _ r (g.judged (then_at i b) (l.calls b q)) (subst (λ (c : Called). IsJudged (rest_at (i + 1) c) r) (sym (next_then i x h e b)) j)));
      };
      calls = λ b q. subst (λ (c : Called). IsCalled next c) (next_then i x h e b) (g.calls (then_at i b) (l.calls b q));
    }

    -- the next element is refused
    pub going_fails : (i : ℕ) (x : A) → i < length xs → x ≡ get_or xs i x → (old now next : CalledNames) (s t : Called → Called) (fault : ResolveFault) → Goes now next (λ b. one b (view x)) s (Err fault)
        → Going old now whole (rest_at i) (then_at i) → Goes old next whole t (Err fault)
    going_fails i x h e old now next s t fault g l = record {
      judged = λ b q. (l.leads b q).on_ (Err fault) (subst (λ (ds : List Demand). IsJudged ds (Err fault)) (sym (split i x h e (then_at i b))) (judged_front _ _ fault (g.judged (then_at i b) (l.calls b q))));
      calls = tt;
    }

    -- none is left
    pub going_end : (i : ℕ) → length xs ≤ i → (old now : CalledNames) → Going old now whole (rest_at i) (then_at i) → Goes old now whole (λ b. called_after b (flat_map announced (map view xs))) (Ok tt)
    going_end i h old now l = record {
      judged = λ b q. (l.leads b q).on_ (Ok tt) (subst (λ (ds : List Demand). IsJudged ds (Ok tt)) (sym (ap (λ ys. all (then_at i b) (map view ys)) (drop_all i xs h) ∙ none (then_at i b))) (record { told = refl }));
      calls = λ b q. subst (λ (ys : List A). IsCalled now (called_after b (flat_map announced (map view ys)))) (take_all i xs h) (l.calls b q);
    }
