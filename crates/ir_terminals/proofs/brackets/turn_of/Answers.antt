use Rattle.std.proofs.Common.{◌≡◌, ◌<◌, length, arith}
use Rattle.std.proofs.lemmas.Bool.Decides.{nat_tests}
use Rattle.ir_terminals.specs.declared.brackets.Role.TheVariants as roles
use Rattle.ir_terminals.proofs.Stacks.{opens, goes_on_inside}
use Rattle.ir_terminals.proofs.brackets.turn_of.Goals as goal

pub returns-in_ok-push-in-Opens-clause-step :
    goal.returns-in_ok-push-in-Opens-clause-step
returns-in_ok-push-in-Opens-clause-step c =
    rw c.in-Opens.is (opens c.args.unclosed.now.items c.push.new.self.items c.in-Opens.bracket c.in_ok-push-in-Opens.ensures.items)

pub returns-in-Neither-2-clause-step : goal.returns-in-Neither-2-clause-step
returns-in-Neither-2-clause-step c =
    let is_length = c.args.unclosed.now.ok.0 in
    let some : 0 < length c.args.unclosed.now.items = grind (arith, nat_tests) in
    let is : c.args.role ≡ roles.Neither = assumption in
    rw is (goes_on_inside c.args.unclosed.now.items some)
