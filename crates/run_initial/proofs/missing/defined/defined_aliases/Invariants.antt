use Rattle.std.proofs.Common.{◌≡◌, map, take, true}
use Rattle.run_initial.proofs.missing.defined.defined_aliases.Given as goal

abbrev pub invariant-aliases : goal.invariant-aliases
invariant-aliases l = l.flags ≡ map (λ x. true) (take l._number l.arena.aliases)
