use Rattle.std.proofs.Common.{◌≡◌, ◌+◌, ◌*◌, ◌^◌, drop}
use Rattle.std.specs.Prelude.{IfSome}
use Rattle.run_rules.specs.Displace.{sum_of}
use Rattle.run_rules.specs.Frame.{read}
use Rattle.run_actions.specs.Stack.UnderWay.{newest}
use Rattle.run_actions.specs.Accesses.Near.{IsNear}
use Rattle.run_decode.specs.Flat.Flat.{others_reach}
use Rattle.run_acts.proofs.classes.distance.reach_of_terms.Given as goal

-- with the terms that are left the distance is that of all, and so many terms have not made it far
abbrev pub invariant-terms : goal.invariant-terms
invariant-terms l = record {
  reached : sum_of l.all (others_reach l.pools (read (newest l.stack.frames)) (drop l.term-index l.listed)) ≡ sum_of l.initial.all (others_reach l.pools (read (newest l.stack.frames)) l.listed);
  near : IfSome l.all (IsNear (2 ^ 124 + l.term-index * 2 ^ 103));
}
