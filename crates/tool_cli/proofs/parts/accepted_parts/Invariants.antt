use Rattle.std.proofs.Common.{◌≡◌, Option, drop, take}
use Rattle.std.specs.Vec.Iter.{into_iter_items}
use Rattle.linkage_rules.specs.Ids.{modules}
use Rattle.tool_output.specs.declared.ends.ended.Ended.{Ended}
use Rattle.tool_cli.specs.Made.{AreParts}
use Rattle.tool_cli.proofs.Judging.{IsJudged}
use Rattle.tool_cli.proofs.parts.accepted_parts.Given as goal

-- the inputs so far stand for the parts, so what is judged of the others, which are left, is judged of all
abbrev pub invariant-inputs : goal.invariant-inputs
invariant-inputs l = record {
  judged : (found : Option Ended) → IsJudged (drop l.name-index l.names) (drop l.name-index l.fn.texts) found → IsJudged l.names l.fn.texts found;
  are : AreParts (take l.name-index l.fn.texts) (modules l.parts.items);
  left : into_iter_items l.rest ≡ drop l.name-index l.fn.texts;
}
