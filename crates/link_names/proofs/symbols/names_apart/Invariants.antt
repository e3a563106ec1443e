use Rattle.std.proofs.Common.{◌≡◌, ◌++◌, drop, map}
use Rattle.linkage_rules.specs.Ids.{modules}
use Rattle.module_arena.specs.Module.{Bytes}
use Rattle.linkage_rules.specs.declared.symbol.Symbol.{Symbol}
use Rattle.link_rules.specs.Rename.{base_of, all_names, with_given_names, renaming}
use Rattle.link_names.specs.Naming.{SameNames}
use Rattle.link_names.proofs.symbols.names_apart.Given as goal

-- what is named so far, and what is named of the rest where the names so far are given
abbrev pub invariant-loop-symbol : goal.invariant-loop-symbol
invariant-loop-symbol l = record {
  joined : l.names ++ map (λ (r : Symbol × Bytes). r.1) (with_given_names base_of (all_names (modules l.parts)) l.naming.given (drop l.symbol-index l.symbols)) ≡ map (λ (r : Symbol × Bytes). r.1) (renaming (modules l.parts));
  avoided : SameNames l.naming.avoided (all_names (modules l.parts));
}
