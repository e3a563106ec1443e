-- What is left when a function returns.
use Rattle.std.proofs.Common.{◌≡◌, ℕ, List, [], ◌∷◌, Some, refl, sym, ap, ◌∙◌, subst}
use Rattle.std.specs.Prelude.{All}
use Rattle.std.proofs.lemmas.List.Elements.{All-tail}
use Rattle.std.proofs.lemmas.Option.{none-some, same_Some}
use Rattle.ir_eval.specs.declared.value.Pointer.{Pointer}
use Rattle.ir_memory.specs.Answer.{Keeps}
use Rattle.ir_memory.specs.Given.{IsBlock, IsKnown}
use Rattle.ir_memory.specs.Memory.{Blocks}
use Rattle.run_rules.specs.Access.{released}
use Rattle.run_rules.specs.State.{Frame}
use Rattle.run_actions.specs.Stack.UnderWay.{UnderWay, changed, first_alloca, IsRunning, newest, older, on_newest, other_allocas, without_alloca}
use Rattle.run_actions.proofs.Carried.{running_after}
use Rattle.run_acts.specs.Said.{with_allocas}

-- ---- allocas

first_is : (ps : List Pointer) (p : Pointer) → Some p ≡ first_alloca ps → ps ≡ p ∷ other_allocas ps
first_is [] p e = absurd (none-some p (sym e))
first_is (q ∷ qs) p e = ap (λ x. x ∷ qs) (sym (same_Some p q e))

-- the newest frame's last alloca, and those that are left
taken : (fs : List Frame) (p : Pointer) → IsRunning fs → Some p ≡ first_alloca (newest fs).allocas → (newest fs).allocas ≡ p ∷ (newest (on_newest without_alloca fs)).allocas
taken [] p r e = absurd r
taken (f ∷ fs) p r e = first_is f.allocas p e

cleared_all : (fs : List Frame) → on_newest (with_allocas []) (on_newest without_alloca fs) ≡ on_newest (with_allocas []) fs
cleared_all [] = refl
cleared_all (f ∷ fs) = refl

-- so many of the newest frame's allocas have ended
pub record IsEnding (old : UnderWay) (m : Blocks) (now : UnderWay) (n : Blocks) : Type 0 where
  pub running : IsRunning now.frames
  pub frames : changed (with_allocas []) now ≡ changed (with_allocas []) old
  pub memory : released (newest now.frames).allocas n ≡ released (newest old.frames).allocas m
  pub known : All (IsKnown n.list) (newest now.frames).allocas
  pub kept : Keeps m n

module _ (old : UnderWay) (m : Blocks) (now : UnderWay) (n : Blocks) (h : IsEnding old m now n) (popped : UnderWay) (is : popped ≡ changed without_alloca now) (p : Pointer) (first : Some p ≡ first_alloca (newest now.frames).allocas) where
  all_are : (newest now.frames).allocas ≡ p ∷ (newest (on_newest without_alloca now.frames)).allocas
  all_are = taken now.frames p h.running first

  -- one more has ended
  pub ending_more : (left : Blocks) → left ≡ released (p ∷ []) n → Keeps n left → IsEnding old m popped left
  ending_more left does keeps = record {
    running = subst (λ (u : UnderWay). IsRunning u.frames) (sym is) (running_after without_alloca now h.running);
    frames = ap (changed (with_allocas [])) is ∙ ap (λ (fs : List Frame). record now { frames = fs }) (cleared_all now.frames) ∙ h.frames;
    memory =
        ap (λ (u : UnderWay). released (newest u.frames).allocas left) is
        ∙ ap (released (newest (on_newest without_alloca now.frames)).allocas) does
        ∙ ap (λ (ps : List Pointer). released ps n) (sym all_are)
        ∙ h.memory;
    known =
        subst (λ (u : UnderWay). All (IsKnown left.list) (newest u.frames).allocas) (sym is)
        (subst (λ (count : ℕ). All (λ (q : Pointer). IsBlock count q.block) (newest (on_newest without_alloca now.frames)).allocas) (sym keeps.0)
        (All-tail (IsKnown n.list) p (newest (on_newest without_alloca now.frames)).allocas (subst (All (IsKnown n.list)) all_are h.known)));
    kept = (keeps.0 ∙ h.kept.0, keeps.1 ∙ h.kept.1);
  }

-- ---- leaving

older_same : (change : Frame → Frame) (fs : List Frame) → older (on_newest change fs) ≡ older fs
older_same change [] = refl
older_same change (f ∷ fs) = refl

abbrev under : ℕ → List Frame → UnderWay
under widest fs = record { frames = fs; widest = widest }

-- the frames that are left
pub left_is : (old s t : UnderWay) → s ≡ changed (with_allocas []) old → t ≡ record { frames = older s.frames; widest = s.widest } → t ≡ record { frames = older old.frames; widest = old.widest }
left_is old s t cleared left = left ∙ ap (λ (u : UnderWay). under u.widest (older u.frames)) cleared ∙ ap (under old.widest) (older_same (with_allocas []) old.frames)
