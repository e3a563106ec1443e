use Rattle.std.proofs.Common.{◌∙◌, ap}
use Rattle.module_arena.specs.Changes.{with_texts}
use Rattle.module_arena.specs.Lists.{Lists}
use Rattle.item_build.specs.Types.Holding.{entries}
use Rattle.extract_core.proofs.OnEntries.Grounded.{texts_there}
use Rattle.extract_core.proofs.entries.declaring.copy_texts.Goals as goal

pub returns-clause-table : goal.returns-clause-table
returns-clause-table c = ap (λ (l : Lists). l.table) c.set_texts.ensures ∙ ap (λ (l : Lists). l.table) c.requires

pub returns-clause-entries : goal.returns-clause-entries
returns-clause-entries c = ap entries c.set_texts.ensures ∙ ap entries c.requires

pub returns-clause-module : goal.returns-clause-module
returns-clause-module c =
    let source = c.in_ok-source.source in
    let layout = c.in_ok-layout.layout in
    let triple = c.in_ok-triple.triple in
    texts_there c.args.from.now c.set_texts.new.self source layout triple (c.set_texts.ensures ∙ ap (λ l. with_texts l source layout triple) c.requires)
    (c.in_ok-source.ensures ∙ c.source.ensures) (c.in_ok-layout.ensures ∙ c.data_layout.ensures) (c.in_ok-triple.ensures ∙ c.triple.ensures)
