use Rattle.std.proofs.Common.{◌≡◌, true, take}
use Rattle.std.specs.List.{list_all}
use Rattle.entry_verify.specs.Entries.Constructors.{is_constructor_at}
use Rattle.entry_verify.proofs.entries.llvm_lists.are_constructors.Given as goal

abbrev pub invariant-loop-part : goal.invariant-loop-part
invariant-loop-part l = list_all (is_constructor_at l.judge) (take l.part-index l.parts) ≡ true
