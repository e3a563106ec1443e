-- Main as it is due, from what was made of its arguments.
use Rattle.std.proofs.Common.{◌≡◌, ℕ, suc, List, [], ◌∷◌, length, Bool, true, false, not, true≢false, Result, Ok, Err, refl, sym, ap, ◌∙◌, subst}
use Rattle.std.specs.Prelude.{IfOk, if◌then◌else◌}
use Rattle.ir_eval.specs.declared.value.Pointer.{Pointer}
use Rattle.ir_memory.specs.Memory.{Blocks}
use Rattle.run_rules.specs.declared.end.End.{End}
use Rattle.run_rules.specs.declared.end.End.TheVariants.{MemoryLimit}
use Rattle.run_rules.specs.Access.{and_then}
use Rattle.run_rules.specs.Opening.{with_main, with_pointers, with_string, with_strings}
use Rattle.run_rules.specs.Plan as plans
use Rattle.run_rules.specs.State.{Due, Main, MainWith}

-- ---- tests

pub false_if : (b : Bool) → not b ≡ true → b ≡ false
false_if true h = absurd (true≢false (sym h))
false_if false h = refl

pub true_if : (b : Bool) → not b ≡ false → b ≡ true
true_if true h = refl
true_if false h = absurd (true≢false h)

-- ---- as many pointers as strings

abbrev AreAsMany : ℕ → Blocks × List Pointer → Type 0
AreAsMany n x = length x.1 ≡ n

many_strings : (ss : List (List ℕ)) (m : Blocks) → IfOk (with_strings ss m) (AreAsMany (length ss))
unfolding with_strings
many_strings [] m = refl
many_strings (s ∷ ss) m = first (with_string s m) (λ n. many_strings ss n)
  where
    second : (x : Blocks × Pointer) (r : Result (Blocks × List Pointer) End) → IfOk r (AreAsMany (length ss)) → IfOk (and_then r (λ y. Ok (y.0, x.1 ∷ y.1))) (AreAsMany (length (s ∷ ss)))
    second x (Err e) h = tt
    second x (Ok y) h = ap (λ (n : ℕ). suc n) h

    first : (r : Result (Blocks × Pointer) End) → ((n : Blocks) → IfOk (with_strings ss n) (AreAsMany (length ss))) → IfOk (and_then r (λ x. and_then (with_strings ss x.0) (λ y. Ok (y.0, x.1 ∷ y.1)))) (AreAsMany (length (s ∷ ss)))
    first (Err e) more = tt
    first (Ok x) more = second x (with_strings ss x.0) (more x.0)

pub as_many_strings : (ss : List (List ℕ)) (m n : Blocks) (ps : List Pointer) → with_strings ss m ≡ Ok (n, ps) → length ps ≡ length ss
as_many_strings ss m n ps e = subst (λ (r : Result (Blocks × List Pointer) End). IfOk r (AreAsMany (length ss))) e (many_strings ss m)

-- ---- main

module _ (main : plans.Main) (ss : List (List ℕ)) (m : Blocks) where
  abbrev behind_strings : Result (Blocks × List Pointer) End → Result (Blocks × Due) End
  behind_strings r = and_then r (λ x. and_then (with_pointers x.1 x.0) (λ y. Ok (y.0, MainWith main.address (length ss) y.1)))

  abbrev by_arguments : Bool → Result (Blocks × Due) End
  by_arguments b = if b then behind_strings (with_strings ss m) else Ok (m, Main main.address)

  pub plain_made : main.takes_arguments ≡ false → with_main main ss m ≡ Ok (m, Main main.address)
  unfolding with_main
  plain_made h = ap by_arguments h

  pub words_full : main.takes_arguments ≡ true → with_strings ss m ≡ Err MemoryLimit → with_main main ss m ≡ Err MemoryLimit
  unfolding with_main
  words_full h e = ap by_arguments h ∙ ap behind_strings e

  module _ (takes : main.takes_arguments ≡ true) (n : Blocks) (ps : List Pointer) (e : with_strings ss m ≡ Ok (n, ps)) where
    abbrev behind_pointers : Result (Blocks × Pointer) End → Result (Blocks × Due) End
    behind_pointers r = and_then r (λ y. Ok (y.0, MainWith main.address (length ss) y.1))

    pub array_full : with_pointers ps n ≡ Err MemoryLimit → with_main main ss m ≡ Err MemoryLimit
    unfolding with_main
    array_full f = ap by_arguments takes ∙ ap behind_strings e ∙ ap behind_pointers f

    abbrev due_with : Blocks → Pointer → ℕ → Result (Blocks × Due) End
    due_with o p k = Ok (o, MainWith main.address k p)

    pub main_made : (o : Blocks) (p : Pointer) (count : ℕ) → count ≡ length ps → with_pointers ps n ≡ Ok (o, p) → with_main main ss m ≡ Ok (o, MainWith main.address count p)
    unfolding with_main
    main_made o p count is f =
        ap by_arguments takes ∙ ap behind_strings e ∙ ap behind_pointers f
        ∙ ap (due_with o p) (sym (is ∙ as_many_strings ss m n ps e))
