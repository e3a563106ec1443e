-- For `declare_definition`: the parameters of a function, and a function without its body.
use Rattle.std.specs.Prelude.{◌≡◌, ℕ, ◌<◌, Bool, true, false, List, [], ◌∷◌, map, length, All, Option, None}
use Rattle.ir_terminals.specs.declared.values.Local.{Local}
use Rattle.ir_syntax.specs.Tree.{ParameterTree, HeadTree}
use Rattle.type_table.specs.Types.{trees}
use Rattle.module_arena.specs.declared.entry.Parameter as the_parameter
use Rattle.module_arena.specs.Lists.{Lists}
use Rattle.module_arena.specs.Module.{Parameter, Function}
use Rattle.module_arena.specs.View.{parameter_view}
use Rattle.name_rules.specs.Locals.{next_behind}
use Rattle.name_rules.specs.ModuleOf.{linkage_in}
use Rattle.name_rules.specs.Written.{type_in}

-- the parameters are these
pub record AreParameters (a : Lists) (ps : List the_parameter.Parameter) (expected : List Parameter) : Type 0 where
  pub known : All (λ (p : the_parameter.Parameter). p.ty < length a.table.types) ps
  pub parameters : map (parameter_view (trees a.table)) ps ≡ expected

-- a name that counts: those of a declaration say nothing
abbrev pub name_kept : Bool → Option Local → Option Local
name_kept true written = written
name_kept false written = None

-- the same, of a parameter
abbrev pub kept : Bool → ParameterTree → ParameterTree
kept named parameter = (parameter.0, name_kept named parameter.1)

-- the next number behind these parameters
abbrev pub behind : ℕ → List ParameterTree → ℕ
behind next [] = next
behind next (parameter ∷ more) = behind (next_behind next parameter.1) more

-- a function as it is declared
abbrev pub function_head : HeadTree → List Parameter → Bool → Function
function_head head parameters variadic = record {
  name = head.name.name;
  linkage = linkage_in head.linkage;
  returns = type_in head.returns;
  parameters = parameters;
  variadic = variadic;
  body = None;
}

-- the function without its blocks
abbrev pub without_body : Function → Function
without_body f = record f { body = None }
