use Rattle.std.proofs.Common.{◌≡◌, length, Option, subst, sym}
use Rattle.ir_intrinsics.specs.declared.outcome.Outcome.{Outcome}
use Rattle.run_names.specs.Host.Answers.{leaves_of}
use Rattle.run_rules.specs.Frame.{with_value}
use Rattle.run_actions.specs.Stack.UnderWay.{changed, Fits, newest}
use Rattle.run_acts.proofs.Hosts.{none_given}
use Rattle.run_acts.proofs.host.give.Goals as goal

pub returns-in-None : goal.returns-in-None
returns-in-None c =
    let s = c.args.stack.now in
    subst (λ (o : Option Outcome). s ≡ changed (λ f. with_value f c.args.to (leaves_of o)) s) (sym c.in-None.is) (none_given c.args.to s)

pub give_leaves-requires : goal.give_leaves-requires
give_leaves-requires c = subst (λ (o : Option Outcome). Fits (length (newest c.args.stack.now.frames).leaves) c.args.to (leaves_of o)) c.in-Some.is c.requires

pub returns-in-Some : goal.returns-in-Some
returns-in-Some c = subst (λ (o : Option Outcome). c.give_leaves.new.stack ≡ changed (λ f. with_value f c.args.to (leaves_of o)) c.args.stack.now) (sym c.in-Some.is) c.give_leaves.ensures
