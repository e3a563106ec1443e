use Rattle.std.proofs.Common.{◌≡◌, take}
use Rattle.bitcode_read.specs.Holding.Holding.{targeted_by}
use Rattle.bitcode_read.proofs.holding.setting.set_targets.Given as goal

abbrev pub invariant-aliases : goal.invariant-aliases
invariant-aliases l = l.arena ≡ record l.initial.arena { aliases = targeted_by l.initial.arena.aliases (take l.number l.targets) }
