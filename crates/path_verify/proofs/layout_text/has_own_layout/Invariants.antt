use Rattle.std.proofs.Common.{◌≡◌, length}
use Rattle.std.specs.List.{list_any}
use Rattle.module_arena.specs.LayoutText.{pieces, is_foreign_component}
use Rattle.path_verify.proofs.layout_text.has_own_layout.Given as goal

abbrev pub invariant-loop-rest : goal.invariant-loop-rest
invariant-loop-rest l = list_any is_foreign_component (pieces 45 l.text) ≡ list_any is_foreign_component (pieces 45 l.rest)

abbrev pub decreases-loop-rest : goal.decreases-loop-rest
decreases-loop-rest l = length l.rest
