use Rattle.module_arena.specs.Module.{Variable, Alias, Function}
use Rattle.module_arena.specs.View.{module_of}
use Rattle.extract_rules.specs.Extracted.{kept_names}
use Rattle.extract_rules.proofs.OnKeptNames.Naming.{flags_same}
use Rattle.extract_rules.proofs.kept_names.named.named_by_kept.Goals as goal

pub returns : goal.returns
returns c = λ s kept.
    let m = module_of c.args.arena.now in
    let same = c.in_ok-names.ensures s kept in
    record {
      variables = flags_same (λ (v : Variable). v.name) m.variables c.in_ok-names.names.keys (kept_names m s) _ c.in_ok-named_variables.ensures same;
      functions = flags_same (λ (f : Function). f.name) m.functions c.in_ok-names.names.keys (kept_names m s) _ c.in_ok-named_functions.ensures same;
      aliases = flags_same (λ (x : Alias). x.name) m.aliases c.in_ok-names.names.keys (kept_names m s) _ c.in_ok-named_aliases.ensures same;
    }
