use Rattle.std.proofs.Common.{◌≡◌, ◌-◌, ◌^◌, ◌<◌, ap, ap₂, ◌∙◌, lit<, arith}
use Rattle.std.specs.Option.{option_map, option_or}
use Rattle.module_arena.specs.declared.fault.CountKind.TheVariants.{Aliases}
use Rattle.link_names.specs.Counts.Told.{past, told}
use Rattle.link_names.proofs.OnCounts.FirstPast.{entries_told, first_entry_count}
use Rattle.link_names.proofs.counts.limits.too_many_entries.Goals as goal

pub returns : goal.returns
returns c =
    let structs = c.args.structs in
    let counts = c.args.counts in
    let small : 262144 < 2 ^ 64 - 1 = lit< tt in
    let few_structs : structs < 2 ^ 64 = omega (arith, c.ranges) in
    let few_variables : counts.variables < 2 ^ 64 = omega (arith, c.ranges) in
    let few_functions : counts.functions < 2 ^ 64 = omega (arith, c.ranges) in
    let is : c.or-3.result ≡ first_entry_count structs counts =
    c.or-3.ensures
    ∙ ap₂ option_or (c.or-2.ensures ∙ ap₂ option_or (c.or.ensures ∙ ap₂ option_or c.past.ensures c.past-2.ensures) c.past-3.ensures)
    (c.past-4.ensures ∙ ap (past Aliases) c.count_of_aliases.ensures) in
    ap (option_map told) is ∙ entries_told structs counts small few_structs few_variables few_functions
