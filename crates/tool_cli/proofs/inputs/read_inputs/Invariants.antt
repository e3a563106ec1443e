use Rattle.std.proofs.Common.{◌≡◌, ◌≤◌, ℕ, List, length, drop, take, false, Some}
use Rattle.ir_base.specs.Files.{Named}
use Rattle.tool_cli.specs.Causes.{MayHoldAll, bytes_of_all}
use Rattle.tool_cli.specs.Inputs.{TellsAll}
use Rattle.tool_cli.specs.Judged.{AreShort}
use Rattle.tool_cli.specs.Order.{has_file}
use Rattle.tool_cli.proofs.InputsInOrder.{Stdin, GoesOn}
use Rattle.tool_cli.proofs.Front.{IsDue}
use Rattle.tool_cli.proofs.Order.{Untouched}
use Rattle.tool_cli.proofs.Together.{left_behind_all}
use Rattle.tool_cli.proofs.inputs.read_inputs.Given as goal
use Rattle.tool_cli.specs.declared.inputs.TheConstants.{LARGEST_TOGETHER}

-- nothing failed so far, and what the inputs give is these texts and then what the rest of them give
abbrev pub invariant-loop-name : goal.invariant-loop-name
invariant-loop-name g l =
    let left = g.I.Source.left in
    let faults = g.I.Source.faults in
    let contents = g.F.Files.contents in
    let reads = g.F.Files.read_faults in
    let writes = g.F.Files.write_faults in
    record {
      count : length l.texts ≡ l.name-index;
      few : l.total ≤ LARGEST_TOGETHER;
      short : AreShort l.texts;
      same_contents : contents l.files ≡ contents l.fn.files;
      same_reads : reads l.files ≡ reads l.fn.files;
      same_writes : writes l.files ≡ writes l.fn.files;
      same_faults : faults l.input ≡ faults l.fn.input;
      input : Stdin l.names (drop l.name-index l.names) l.fn.input l.input (left l.fn.input) (left l.input);
      untouched : Untouched l.names l.name-index l.fn.input l.input;
      due : (held : Named) → contents l.fn.files ≡ Some held → IsDue held l.names l.name-index l.total l.fn.input l.input;
      no_file : has_file l.names ≡ false → l.files ≡ l.fn.files;
      held : MayHoldAll (contents l.fn.files) (left l.fn.input) (take l.name-index l.names) l.texts;
      behind : left l.input ≡ left_behind_all (left l.fn.input) (take l.name-index l.names);
      sum : l.total ≡ bytes_of_all l.texts;
      told : (held : Named) (stdin : List ℕ) → TellsAll l.names (contents l.fn.files) (left l.fn.input) held stdin
          → GoesOn l.names l.name-index (left l.fn.input) (left l.input) held stdin l.total l.texts;
    }
