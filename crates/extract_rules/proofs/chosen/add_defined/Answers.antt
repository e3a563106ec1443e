use Rattle.std.proofs.Common.{sym, ◌∙◌}
use Rattle.module_arena.specs.Lists.{name_at}
use Rattle.module_arena.specs.View.{module_of}
use Rattle.extract_rules.proofs.Adding.{adds_as, adds_none}
use Rattle.extract_rules.proofs.Called.{is_behind, defined_yes, defined_no}
use Rattle.extract_rules.proofs.chosen.add_defined.Goals as goal

pub returns-in_ok-add_name : goal.returns-in_ok-add_name
returns-in_ok-add_name c =
    let a = c.args.arena.now in
    adds_as _ _ _ _
    (defined_yes (module_of a) (name_at a c.args.id) c.target_or_own-name.result.now (is_behind a c.variable_count-count.ensures.distinct c.args.id c.requires.known ∙ sym c.target_or_own-name.ensures)
    (sym c.defines_function.ensures ∙ c.if-defines_function.true))
    c.in_ok-add_name.ensures

pub returns-else-defines_function : goal.returns-else-defines_function
returns-else-defines_function c =
    let a = c.args.arena.now in
    adds_as _ _ _ _
    (defined_no (module_of a) (name_at a c.args.id) c.target_or_own-name.result.now (is_behind a c.variable_count-count.ensures.distinct c.args.id c.requires.known ∙ sym c.target_or_own-name.ensures)
    (sym c.defines_function.ensures ∙ c.if-defines_function.false))
    (adds_none c.args.names.now.keys)
