-- The main theorem: look-up, table and plan of the result are those of the parts, so each run is one of theirs.
use Rattle.std.specs.Prelude.{List}
use Rattle.module_arena.specs.Module.{Module}
use Rattle.link_rules.specs.Carried.{merged}
use Rattle.link_rules.specs.Merges.{Merges}
use Rattle.link_rules.proofs.Carrying.{carries_symbols}
use Rattle.run_rules.specs.Same.{LookAlike}
use Rattle.run_rules.specs.Side.{run_of}
use Rattle.linked_runs.specs.Headline.{LinkedLooksAlike, LinkedRunsAsItsParts}
use Rattle.linked_runs.proofs.Known.{Fit}
use Rattle.linked_runs.proofs.Fits.{fits}
use Rattle.linked_runs.proofs.SameCode.{same_actions, same_callees}
use Rattle.linked_runs.proofs.SamePlan.{same_plan}

looks_alike : (parts : List Module) → Fit parts → Merges parts → LookAlike (merged parts) parts
looks_alike parts fit merges = record {
  same_actions = same_actions parts fit merges;
  same_callees = same_callees parts fit merges;
  same_plan = same_plan parts fit merges;
}

pub linked_looks_alike : LinkedLooksAlike
linked_looks_alike parts formed valid none = looks_alike parts (fits parts formed valid none) (carries_symbols parts formed valid none)

pub linked_runs_as_its_parts : LinkedRunsAsItsParts
linked_runs_as_its_parts parts formed valid none arguments input bound =
    let alike = linked_looks_alike parts formed valid none in
    λ i. run_of (λ f b p. alike.same_actions f b p i) (λ a. alike.same_callees a i) (alike.same_plan i) arguments input bound
