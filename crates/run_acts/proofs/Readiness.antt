-- The bodies of the functions under way are there still.
use Rattle.std.proofs.Common.{◌≡◌, ℕ, List, [], ◌∷◌, refl, sym, ◌∙◌, subst, arith}
use Rattle.std.specs.Prelude.{All, max}
use Rattle.std.proofs.lemmas.List.Elements.{All-cons, All-head, All-tail, All-weaker}
use Rattle.ir_eval.specs.declared.value.Scalar.{Scalar}
use Rattle.run_rules.specs.Calls.{begun}
use Rattle.run_rules.specs.Frame.{with_value}
use Rattle.run_rules.specs.State.{Frame}
use Rattle.run_actions.specs.Stack.UnderWay.{UnderWay, changed, older, on_newest}
use Rattle.run_decode.specs.Body.Bodies.{Decoded}
use Rattle.run_decode.proofs.OnSignatures.Numbered.{numbers_none, numbers_then}
use Rattle.run_acts.specs.Program.Loaded.{IsReady, Keeps, Loaded}
use Rattle.run_acts.specs.Made.{AreReady, IsFunctionReady, StaysReady}

-- ---- what is kept

pub keeps_none : (p : Loaded) → Keeps p p
keeps_none p = record { lists = refl; met = numbers_none p.met; bodies = λ function b h. h }

pub keeps_then : (p q r : Loaded) → Keeps p q → Keeps q r → Keeps p r
keeps_then p q r h k = record { lists = k.lists ∙ h.lists; met = numbers_then p.met q.met r.met h.met k.met; bodies = λ function b y. k.bodies function b (h.bodies function b y) }

-- ---- frames that are older, and frames that are changed

-- the function of a frame is ready
abbrev HasBody : Loaded → ℕ → Frame → Type 0
HasBody p widest f = IsFunctionReady p widest f.function

older_ready : (p : Loaded) (widest : ℕ) (fs : List Frame) → All (HasBody p widest) fs → All (HasBody p widest) (older fs)
older_ready p widest [] h = h
older_ready p widest (f ∷ fs) h = All-tail (HasBody p widest) f fs h

valued_ready : (p : Loaded) (widest to : ℕ) (value : List Scalar) (fs : List Frame) → All (HasBody p widest) fs → All (HasBody p widest) (on_newest (λ f. with_value f to value) fs)
valued_ready p widest to value [] h = h
valued_ready p widest to value (f ∷ fs) h = All-cons (HasBody p widest) (with_value f to value) fs (All-head (HasBody p widest) f fs h) (All-tail (HasBody p widest) f fs h)

-- the newest frame gets a value
pub ready_valued : (p : Loaded) (old new : UnderWay) (to : ℕ) (value : List Scalar) → new ≡ changed (λ f. with_value f to value) old → StaysReady p old p new
ready_valued p old new to value is h = subst (AreReady p) (sym is) (valued_ready p old.widest to value old.frames h)

-- the newest function is left
pub ready_left : (p : Loaded) (old new : UnderWay) → new ≡ record { frames = older old.frames; widest = old.widest } → StaysReady p old p new
ready_left p old new is h = subst (AreReady p) (sym is) (older_ready p old.widest old.frames h)

-- ---- programs that gain bodies

pub ready_kept : (p q : Loaded) (s : UnderWay) → Keeps p q → StaysReady p s q s
ready_kept p q s keeps h =
    All-weaker (HasBody p s.widest) (HasBody q s.widest) (λ f k. record { body = k.body; ready = keeps.bodies f.function k.body k.ready; narrow = k.narrow }) s.frames h

-- the same, where the frames are as they were
pub ready_stays : (p q : Loaded) (old new : UnderWay) → Keeps p q → new ≡ old → StaysReady p old q new
ready_stays p q old new keeps same h = subst (AreReady q) (sym same) (ready_kept p q old keeps h)

-- a function is entered whose body is there
pub ready_entered : (p q : Loaded) (old new : UnderWay) (function leaves widest : ℕ) (arguments : List Scalar) (to : ℕ) → Keeps p q
    → new ≡ record { frames = begun function leaves arguments to ∷ old.frames; widest = max old.widest widest }
    → (body : Decoded) → IsReady q function body → body.widest ≡ widest → StaysReady p old q new
ready_entered p q old new function leaves widest arguments to keeps is body ready narrow h =
    let most = max old.widest widest in
    subst (AreReady q) (sym is)
    (All-cons (HasBody q most) (begun function leaves arguments to) old.frames (record { body = body; ready = ready; narrow = omega (arith, narrow) })
    (All-weaker (HasBody p old.widest) (HasBody q most) (λ f k. record { body = k.body; ready = keeps.bodies f.function k.body k.ready; narrow = omega (arith, k.narrow) }) old.frames h))
