-- Says how the code of `put_contents` reads: what a variable of a module holds at first, in a run of the module alone.
use Rattle.std.specs.Prelude.{ℕ, Bool, true, false, not, ◌&&◌, [], if◌then◌else◌}
use Rattle.std.specs.Option.{option_map_or}
use Rattle.linkage_rules.specs.Linkages.{is_appending}
use Rattle.module_arena.specs.declared.entry.Variable.{Variable}
use Rattle.module_arena.specs.Lists.{Lists}
use Rattle.module_arena.specs.Module.{Constant, Aggregate}
use Rattle.type_table.specs.Types.{tree}
use Rattle.run_initial.specs.Constants.Sound.{constant_of, names_of}
use Rattle.run_initial.specs.Initial.Constants.{value_at}
use Rattle.run_rules.specs.Plan.{Contents}

-- a list in brackets
abbrev pub is_list : Constant → Bool
is_list (Aggregate round elements) = true
is_list _ = false

-- an initialiser; of a list that grows by linking only the elements in brackets count (LangRef, "Appending linkage")
abbrev pub held_by : Lists → Variable → ℕ → Contents
held_by a v id = if is_appending v.linkage && not (is_list (constant_of a id)) then [] else value_at (names_of a) (tree a.table v.ty) (constant_of a id) 0

-- what a variable holds at first
abbrev pub held : Lists → Variable → Contents
held a v = option_map_or (held_by a v) v.initialiser []
