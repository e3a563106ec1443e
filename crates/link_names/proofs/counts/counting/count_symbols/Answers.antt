use Rattle.std.proofs.Common.{◌∙◌}
use Rattle.linkage_rules.specs.Ids.{modules}
use Rattle.link_names.proofs.OnCounts.Counted.{aliases_counted, functions_counted, variables_counted}
use Rattle.link_names.proofs.counts.counting.count_symbols.Goals as goal

pub returns-clause-variables : goal.returns-clause-variables
returns-clause-variables c = c.count_all.ensures.variables ∙ variables_counted (modules c.args.parts.now) c.as_slice.result.now (c.as_slice.ensures ∙ c.symbols.ensures ∙ c.requires.symbols)

pub returns-clause-functions : goal.returns-clause-functions
returns-clause-functions c = c.count_all.ensures.functions ∙ functions_counted (modules c.args.parts.now) c.as_slice.result.now (c.as_slice.ensures ∙ c.symbols.ensures ∙ c.requires.symbols)

pub returns-clause-aliases : goal.returns-clause-aliases
returns-clause-aliases c =
    aliases_counted (modules c.args.parts.now) c.as_slice.result.now (c.as_slice.ensures ∙ c.symbols.ensures ∙ c.requires.symbols)
    c.count_all.result.variables c.count_all.result.functions c.count_all.result.aliases c.count_all.ensures.variables c.count_all.ensures.functions c.count_all.ensures.all
