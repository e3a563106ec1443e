-- What an instruction comes to, by what it answers.
use Rattle.std.proofs.Common.{◌≡◌, true, Option, Result, Ok, Err, sym, ap, ◌∙◌, subst}
use Rattle.std.specs.declared.alloc.AllocError.{AllocError}
use Rattle.std.specs.Prelude.{[], IfOk, OnErr}
use Rattle.std.proofs.lemmas.Bool.{false≢true}
use Rattle.ir_memory.specs.declared.fault.MemoryFault.{MemoryFault}
use Rattle.ir_memory.specs.declared.fault.MemoryFault.TheVariants as faults
use Rattle.ir_memory.specs.Memory.{Blocks}
use Rattle.ir_tables.specs.declared.undefined_kind.UndefinedKind.{UndefinedKind}
use Rattle.run_rules.specs.Action.{Action}
use Rattle.run_rules.specs.Wants.{wants_memory}
use Rattle.run_actions.specs.Stack.UnderWay.{UnderWay}
use Rattle.run_actions.specs.Carried.{Acts, core_of, IsCarriedOut}
use Rattle.run_actions.specs.Accesses.Done.{Accesses}
use Rattle.run_acts.specs.declared.next.Next.{Next}
use Rattle.run_acts.specs.declared.next.Next.TheVariants.{Goes}
use Rattle.run_acts.specs.Said.{next_of}
use Rattle.run_acts.specs.Acting.{AnswersMemory, AnswersWith, ComesTo}

module _ (action : Action) (old new : UnderWay) where
  pub carried_comes : (m : Blocks) → IsCarriedOut action old new → ComesTo action Goes old new m m
  carried_comes m h = λ table due. h.goes table due m

  pub acts_come : (m : Blocks) (r : Result (Unit {0}) UndefinedKind) (next : Next) → AnswersWith r next → Acts action r old new → ComesTo action next old new m m
  acts_come m (Ok done) next e h = λ table due. h.goes table due m ∙ ap (λ (x : Next). next_of x (core_of new.frames due m) []) (sym e)
  acts_come m (Err kind) next e h = λ table due. h.fails table due m ∙ ap (λ (x : Next). next_of x (core_of new.frames due m) []) (sym e)

  pub accesses_want : (m n : Blocks) (r : Result (Unit {0}) MemoryFault) (next : Result (Option Next) AllocError) → AnswersMemory r next → Accesses action r old new m n → OnErr next (wants_memory action ≡ true)
  accesses_want m n (Ok done) next e h = subst (λ (y : Result (Option Next) AllocError). OnErr y (wants_memory action ≡ true)) (sym e) tt
  accesses_want m n (Err (faults.Undefined kind)) next e h = subst (λ (y : Result (Option Next) AllocError). OnErr y (wants_memory action ≡ true)) (sym e) tt
  accesses_want m n (Err faults.MemoryLimit) next e h = subst (λ (y : Result (Option Next) AllocError). OnErr y (wants_memory action ≡ true)) (sym e) tt
  accesses_want m n (Err faults.Memory) (Ok next) e h = absurd (false≢true e)
  accesses_want m n (Err faults.Memory) (Err refused) e h = h

-- ---- for all lists

pub if_ok_all : {A T E : Type 0} (r : Result T E) (P : A → T → Type 0) → ((a : A) → IfOk r (P a)) → IfOk r (λ (x : T). (a : A) → P a x)
if_ok_all (Ok x) P h = h
if_ok_all (Err e) P h = tt

pub on_err_all : {A T E : Type 0} (r : Result T E) (P : A → Type 0) → ((a : A) → OnErr r (P a)) → OnErr r ((a : A) → P a)
on_err_all (Ok x) P h = tt
on_err_all (Err e) P h = h
