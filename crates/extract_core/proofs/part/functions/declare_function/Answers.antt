use Rattle.std.proofs.Common.{◌≡◌, ◌++◌, map, sym, subst}
use Rattle.std.specs.Prelude.{option_to_list}
use Rattle.module_arena.specs.Module.{Module}
use Rattle.module_arena.specs.View.{module_of}
use Rattle.item_build.specs.Types.Parameters.{without_body}
use Rattle.extract_core.specs.Fates.Fates.{function_as}
use Rattle.extract_core.specs.Part.FunctionsThere.{with_functions}
use Rattle.extract_core.proofs.OnDeclaring.NewIds.{keeps_same}
use Rattle.extract_core.proofs.OnPart.FunctionsDeclared.{function_passed, functions_stay}
use Rattle.extract_core.proofs.part.functions.declare_function.Goals as goal

pub returns-in-LeftOut-clause-module : goal.returns-in-LeftOut-clause-module
returns-in-LeftOut-clause-module c = λ v e.
    let m : Module = module_of c.args.into.now.arena in
    subst (λ f. m ≡ with_functions m (m.functions ++ map without_body (option_to_list (function_as f v)))) (sym c.in-LeftOut.is) (functions_stay m)

pub returns-in-LeftOut-clause-declaring : goal.returns-in-LeftOut-clause-declaring
returns-in-LeftOut-clause-declaring c = function_passed c.args.from.now c.args.into.now.arena c.args.id c.requires.declaring

pub returns-in-LeftOut-clause-keeps : goal.returns-in-LeftOut-clause-keeps
returns-in-LeftOut-clause-keeps c = keeps_same c.args.into.now.arena
