use Rattle.std.proofs.Common.{◌≡◌, ◌++◌, map, take}
use Rattle.entry_copy.specs.Moved.{moved_typed}
use Rattle.module_linker.proofs.filling.appended.push_moved.Given as goal

abbrev pub invariant-elements : goal.invariant-elements
invariant-elements l = l.into.items ≡ l.fn.into.items ++ map (moved_typed l.copier) (take l.element-index l.elements)
