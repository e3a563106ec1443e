use Rattle.std.proofs.Common.{ap, ◌∙◌}
use Rattle.module_arena.specs.View.{module_of}
use Rattle.module_arena.proofs.ArenaRows.{empty_row}
use Rattle.item_build.specs.Texts.{with_texts}
use Rattle.item_build.proofs.ModuleTexts.{module_texts}
use Rattle.module_linker.proofs.head.texts.set_texts.Goals as goal

pub returns-clause-module : goal.returns-clause-module
returns-clause-module c =
    module_texts c.args.into.now.arena c.set_texts.new.self c.in_ok-source.source c.in_ok-layout.layout c.in_ok-triple.triple c.set_texts.ensures
    ∙ (λ j. with_texts ((ap module_of c.requires ∙ empty_row) j) (c.in_ok-source.ensures j) (c.in_ok-layout.ensures j) (c.in_ok-triple.ensures j))
