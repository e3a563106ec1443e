use Rattle.std.proofs.Common.{◌≡◌, ◌++◌, map, sym, subst}
use Rattle.std.specs.Prelude.{option_to_list}
use Rattle.module_arena.specs.Module.{Module}
use Rattle.module_arena.specs.View.{module_of}
use Rattle.item_build.specs.Types.Declarations.{without_initialiser}
use Rattle.extract_core.specs.Fates.Fates.{variable_as}
use Rattle.extract_core.specs.Declaring.Stages.{with_variables}
use Rattle.extract_core.proofs.OnDeclaring.NewIds.{keeps_same}
use Rattle.extract_core.proofs.OnDeclaring.VariablesDeclared.{variable_passed, variables_stay}
use Rattle.extract_core.proofs.declaring.variables.declare_variable.Goals as goal

pub returns-in-LeftOut-clause-module : goal.returns-in-LeftOut-clause-module
returns-in-LeftOut-clause-module c = λ v e.
    let m : Module = module_of c.args.into.now.arena in
    subst (λ f. m ≡ with_variables m (m.variables ++ map without_initialiser (option_to_list (variable_as f v)))) (sym c.in-LeftOut.is) (variables_stay m)

pub returns-in-LeftOut-clause-declaring : goal.returns-in-LeftOut-clause-declaring
returns-in-LeftOut-clause-declaring c = variable_passed c.args.from.now c.args.into.now.arena c.args.id c.requires.declaring

pub returns-in-LeftOut-clause-keeps : goal.returns-in-LeftOut-clause-keeps
returns-in-LeftOut-clause-keeps c = keeps_same c.args.into.now.arena
