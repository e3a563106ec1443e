-- For `Names::callee` and `Names::address`: what each function of a module is in a run of the module alone.
use Rattle.std.specs.Prelude.{◌≡◌, Bool, true, false, not, ◌&&◌, is_some, List, map, Option, Some, None, if◌then◌else◌}
use Rattle.module_arena.specs.declared.host.HostRow.{HostRow}
use Rattle.module_arena.specs.HostRows.{host_row}
use Rattle.module_arena.specs.declared.entry.Function.{Function}
use Rattle.module_arena.specs.Lists.{Lists}
use Rattle.linkage_rules.specs.Linkages.{is_available_externally, is_extern_weak}
use Rattle.run_names.specs.declared.standing.Standing.{Standing}
use Rattle.run_names.specs.declared.standing.Standing.TheVariants.{Code, Host, Null, Unresolved}

-- a function that no one defines, and whether the module can do without it
abbrev pub nowhere : Bool → Standing
nowhere true = Null
nowhere false = Unresolved

-- one that the module does not define: the host's, if the host has one of the name
abbrev pub elsewhere : Bool → Option HostRow → Standing
elsewhere weak (Some row) = Host row
elsewhere weak None = nowhere weak

-- a function has a body that counts
abbrev pub has_code : Function → Bool
has_code f = is_some f.body && not (is_available_externally f.linkage)

-- what a function is: a body that counts comes before the host's
abbrev pub function_stands : Function → Standing
function_stands f = if has_code f then Code else elsewhere (is_extern_weak f.linkage) (host_row f.name)

-- what each function is, in order
abbrev pub AreStandings : Lists → List Standing → Type 0
AreStandings a standings = standings ≡ map function_stands a.functions
