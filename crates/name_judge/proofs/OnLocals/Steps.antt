-- Answers to the parts of what is asked, and the answer to the whole.
use Rattle.std.specs.Prelude.{◌≡◌, refl, Bool, true, false, List, [], ◌∷◌, ◌++◌, Result, Ok, Err}
use Rattle.name_rules.specs.declared.fault.ResolveFault.{ResolveFault}
use Rattle.name_rules.specs.declared.fault.ResolveFault.TheVariants as faults
use Rattle.name_rules.specs.Demand.{Demand, ask}
use Rattle.name_rules.specs.FunctionDemands.{Called}
use Rattle.type_judge.specs.Judging.{IsJudged}
use Rattle.type_judge.proofs.Parts as parts
use Rattle.name_judge.specs.declared.locals.called.CalledNames.{CalledNames}
use Rattle.name_judge.specs.Locals.Calling.{Goes}

abbrev pub Answer : Type 0
Answer = Result (Unit {0}) ResolveFault

pub judged_front : (a b : List Demand) (fault : ResolveFault) → IsJudged a (Err fault) → IsJudged (a ++ b) (Err fault)
judged_front = parts.judged_front

pub judged_rest : (a b : List Demand) (r : Answer) → IsJudged a (Ok tt) → IsJudged b r → IsJudged (a ++ b) r
judged_rest = parts.judged_rest

pub judged_stop : (d : Demand) (ds : List Demand) (fault : ResolveFault) → IsJudged (d ∷ []) (Err fault) → IsJudged (d ∷ ds) (Err fault)
judged_stop = parts.judged_stop

pub judged_next : (d : Demand) (ds : List Demand) (r : Answer) → IsJudged (d ∷ []) (Ok tt) → IsJudged ds r → IsJudged (d ∷ ds) r
judged_next = parts.judged_next

-- one demand that holds
pub asked : (holds : Bool) (fault : ResolveFault) → holds ≡ true → IsJudged (ask holds fault ∷ []) (Ok tt)
asked true fault e = record { told = refl }
asked false fault e = absurd cc

-- a part that is refused refuses all that begins with it
pub goes_front : (old mid new : CalledNames) (d e : Called → List Demand) (s t : Called → Called) (fault : ResolveFault) → Goes old mid d s (Err fault) → Goes old new (λ b. d b ++ e b) t (Err fault)
goes_front old mid new d e s t fault g = record { judged = λ b h. judged_front (d b) (e b) fault (g.judged b h); calls = tt }

-- behind a part that is fine, the answer to the rest is that to all
pub goes_rest : (old mid new : CalledNames) (d e : Called → List Demand) (s t : Called → Called) (r : Answer) → Goes old mid d s (Ok tt) → Goes mid new e t r → Goes old new (λ b. d b ++ e (s b)) (λ b. t (s b)) r
goes_rest old mid new d e s t (Ok u) g l = record { judged = λ b h. judged_rest (d b) (e (s b)) (Ok u) (g.judged b h) (l.judged (s b) (g.calls b h)); calls = λ b h. l.calls (s b) (g.calls b h) }
goes_rest old mid new d e s t (Err fault) g l = record { judged = λ b h. judged_rest (d b) (e (s b)) (Err fault) (g.judged b h) (l.judged (s b) (g.calls b h)); calls = tt }

-- the rest calls nothing
pub goes_then : (old new : CalledNames) (d : Called → List Demand) (e : List Demand) (s : Called → Called) (r : Answer) → Goes old new d s (Ok tt) → IsJudged e r → Goes old new (λ b. d b ++ e) s r
goes_then old new d e s (Ok u) g j = record { judged = λ b h. judged_rest (d b) e (Ok u) (g.judged b h) j; calls = g.calls }
goes_then old new d e s (Err fault) g j = record { judged = λ b h. judged_rest (d b) e (Err fault) (g.judged b h) j; calls = tt }

-- what stands before it calls nothing, and is fine
pub goes_behind : (old new : CalledNames) (a : List Demand) (d : Called → List Demand) (s : Called → Called) (r : Answer) → IsJudged a (Ok tt) → Goes old new d s r → Goes old new (λ b. a ++ d b) s r
goes_behind old new a d s r j g = record { judged = λ b h. judged_rest a (d b) r j (g.judged b h); calls = g.calls }

-- what stands before it is refused
pub goes_stop : (old new : CalledNames) (a : List Demand) (d : Called → List Demand) (s : Called → Called) (fault : ResolveFault) → IsJudged a (Err fault) → Goes old new (λ b. a ++ d b) s (Err fault)
goes_stop old new a d s fault j = record { judged = λ b h. judged_front a (d b) fault j; calls = tt }

-- want of memory says nothing
pub goes_memory : (old new : CalledNames) (d : Called → List Demand) (s : Called → Called) → Goes old new d s (Err faults.Memory)
goes_memory old new d s = record { judged = λ b h. record { told = tt }; calls = tt }
