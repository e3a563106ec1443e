-- Opening leaves main due.
use Rattle.std.proofs.Common.{◌≡◌, ℕ, List, [], ◌∷◌, ◌++◌, length, map, refl, subst, Bool, true, false, Option, Some, None, Result, Ok, Err}
use Rattle.std.specs.Prelude.{IfOk, if◌then◌else◌}
use Rattle.ir_memory.specs.Memory.{Blocks, no_blocks}
use Rattle.run_rules.specs.Access.{and_then}
use Rattle.run_rules.specs.Action.{Action}
use Rattle.run_rules.specs.Calls.{Callee}
use Rattle.run_rules.specs.Due.{plain_main, main_with_arguments}
use Rattle.run_rules.specs.Opening.{with_variables, with_strings, with_pointers, with_main, ready, opening_core, opened_main, opened_from, opened}
use Rattle.run_rules.specs.Plan.{Plan}
use Rattle.run_rules.specs.Plan as plans
use Rattle.run_rules.specs.declared.end.End.{End}
use Rattle.run_rules.specs.State.{Due, Constructor, Main, MainWith, Core}
use Rattle.run_rules.specs.Places.Places.{IsFunctionOf, IsTrueMain, EndsInMain, HasWork, IsFine}

module _ (look : ℕ → ℕ → ℕ → Action) (table : ℕ → Callee) where
  -- main has the type that it is called with
  abbrev pub IsCalled : ℕ → Bool → Type 0
  IsCalled address true = IsFunctionOf look table main_with_arguments (table address)
  IsCalled address false = IsFunctionOf look table plain_main (table address)

  then_ok : {A B : Type 0} (r : Result A End) (more : A → Result B End) (Q : B → Type 0) → ((x : A) → IfOk (more x) Q) → IfOk (and_then r more) Q
  then_ok (Ok x) more Q h = h x
  then_ok (Err e) more Q h = tt

  then_kept : {A B : Type 0} (r : Result A End) (more : A → Result B End) (P : A → Type 0) (Q : B → Type 0) → IfOk r P → ((x : A) → P x → IfOk (more x) Q) → IfOk (and_then r more) Q
  then_kept (Ok x) more P Q h k = k x h
  then_kept (Err e) more P Q h k = tt

  module _ (p : Plan) (arguments : List (List ℕ)) (is : (m : plans.Main) → p.main ≡ Some m → IsCalled m.address m.takes_arguments) where
    main_due : (m : plans.Main) → IsCalled m.address m.takes_arguments → (b : Blocks) → IfOk (with_main m arguments b) (λ x. IsTrueMain look table x.1)
    unfolding with_main
    main_due m has b = go m.takes_arguments has
      where
        Q : Blocks × Due → Type 0
        Q = λ x. IsTrueMain look table x.1

        go : (t : Bool) → IsCalled m.address t
            → IfOk (if t then and_then (with_strings arguments b) (λ x. and_then (with_pointers x.1 x.0) (λ y. Ok (y.0, MainWith m.address (length arguments) y.1))) else Ok (b, Main m.address)) Q
        go true k =
            then_ok (with_strings arguments b) (λ x. and_then (with_pointers x.1 x.0) (λ y. Ok (y.0, MainWith m.address (length arguments) y.1))) Q
            (λ x. then_ok {B = Blocks × Due} (with_pointers x.1 x.0) (λ y. Ok (y.0, MainWith m.address (length arguments) y.1)) Q (λ y. k))
        go false k = k

    due_ends : (cs : List ℕ) (d : Due) → IsTrueMain look table d → EndsInMain look table (map Constructor cs ++ d ∷ [])
    due_ends [] d h = h
    due_ends (c ∷ []) d h = (tt, h)
    due_ends (c ∷ e ∷ cs) d h = (tt, due_ends (e ∷ cs) d h)

    has_due : (cs : List ℕ) (d : Due) → HasWork look table [] (map Constructor cs ++ d ∷ [])
    has_due [] d = tt
    has_due (c ∷ cs) d = tt

    placed_fine : (m : plans.Main) → IsCalled m.address m.takes_arguments → IfOk (opening_core p m arguments) (IsFine look table)
    placed_fine m has =
        then_ok (with_variables p.variables no_blocks) (λ b. and_then (with_main m arguments b) (λ x. Ok (ready p x))) (IsFine look table)
        (λ b. then_kept (with_main m arguments b) (λ x. Ok (ready p x)) (λ x. IsTrueMain look table x.1) (IsFine look table) (main_due m has b)
        (λ x k. record { frames = tt; due = due_ends p.constructors x.1 k; work = has_due p.constructors x.1 }))

    opened_fine : IfOk (opened p arguments) (IsFine look table)
    opened_fine = missing p.missing
      where
        main : (o : Option plans.Main) → p.main ≡ o → IfOk (opened_main p o arguments) (IsFine look table)
        main None e = tt
        main (Some x) e = placed_fine x (is x e)

        missing : (o : Option (List ℕ)) → IfOk (opened_from p o arguments) (IsFine look table)
        missing (Some name) = tt
        missing None = main p.main refl

    pub begins_fine : (c : Core) → opened p arguments ≡ Ok c → IsFine look table c
    begins_fine c e = subst (λ r. IfOk r (IsFine look table)) e opened_fine
