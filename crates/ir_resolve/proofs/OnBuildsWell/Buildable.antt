-- An arena can be built from items of which nothing breaks a rule.
use Rattle.std.proofs.Common.{◌≡◌, ℕ, ◌≤◌, nat_le, List, [], length, Bool, true, false, Option, Some, None, refl, ap, ◌∙◌, bytes_eq}
use Rattle.std.specs.List.{filter_map}
use Rattle.std.proofs.lemmas.Bool.{leb-true}
use Rattle.ir_tables.specs.Table.{is_distinct}
use Rattle.ir_syntax.specs.Tree.{ItemTree}
use Rattle.module_arena.specs.declared.fault.CountKind.{CountKind}
use Rattle.module_arena.specs.declared.fault.CountKind.TheVariants as kinds
use Rattle.module_arena.specs.Known.{counted_aliases}
use Rattle.name_rules.specs.declared.fault.ResolveFault.{ResolveFault}
use Rattle.name_rules.specs.declared.fault.ResolveFault.TheVariants as faults
use Rattle.name_rules.specs.ModuleOf.{structs_in, variable_in, alias_in, function_in}
use Rattle.name_rules.specs.Breaks.{known_in, most, no_more, too_many}
use Rattle.name_rules.proofs.NewNames.{structs_distinct, globals_distinct}
use Rattle.name_rules.proofs.Fine.{unbroken}
use Rattle.name_rules.proofs.OnReading.Entries.{struct_names_same}
use Rattle.item_build.specs.Buildable.Entries.{CanDeclare, CanComplete}
use Rattle.ir_resolve.specs.BuildsWell.Laws.{CanBuild}
use Rattle.ir_resolve.proofs.OnBuildsWell.Given.{IsGiven}
use Rattle.ir_resolve.proofs.OnBuildsWell.Items.{all_items, can_declare, can_complete}

-- a count that is not refused, and what further counts say
count_fits : (kind : CountKind) (count : ℕ) (further : Option ResolveFault) → no_more kind count further ≡ None → (count ≤ most) × (further ≡ None)
count_fits kind count further e = by (nat_le count most) refl e
  where
    by : (b : Bool) → nat_le count most ≡ b → elim b as (λ _. Option ResolveFault) [ true ↦ further | false ↦ Some (faults.TooMany kind count) ] ≡ None → (count ≤ most) × (further ≡ None)
    by true q e = (leb-true count most q, e)
    by false q e = absurd cc

-- how many structs, variables, functions and aliases there are
pub record AreCounted (items : List ItemTree) : Type 0 where
  pub structs : length (structs_in items) ≤ most
  pub variables : length (filter_map variable_in items) ≤ most
  pub functions : length (filter_map function_in items) ≤ most
  pub aliases : counted_aliases (length (filter_map alias_in items)) (length (filter_map variable_in items)) (length (filter_map function_in items)) ≤ most

pub counts_fit : (items : List ItemTree) → too_many items ≡ None → AreCounted items
counts_fit items e =
    let variables = length (filter_map variable_in items) in
    let functions = length (filter_map function_in items) in
    let aliases = counted_aliases (length (filter_map alias_in items)) variables functions in
    let third = no_more kinds.Aliases aliases None in
    let second = no_more kinds.Functions functions third in
    let first = no_more kinds.Variables variables second in
    let one = count_fits kinds.Structs (length (structs_in items)) first e in
    let two = count_fits kinds.Variables variables second one.1 in
    let three = count_fits kinds.Functions functions third two.1 in
    let four = count_fits kinds.Aliases aliases None three.1 in
    record { structs = one.0; variables = two.0; functions = three.0; aliases = four.0 }

pub can_build : CanBuild
can_build items formed narrow few e =
    let parts = unbroken items e in
    let counts = counts_fit items parts.0 in
    let known = known_in items in
    record {
      structs = ap (is_distinct bytes_eq) (struct_names_same items) ∙ structs_distinct known items parts.1;
      globals = globals_distinct known items parts.1;
      few_structs = counts.structs;
      few_variables = counts.variables;
      few_functions = counts.functions;
      declared = all_items known (CanDeclare (structs_in items)) (λ before i n f c q. can_declare items parts.1 before i n q) [] items narrow.each formed.each few parts.1;
      completed = λ entries there.
          let given : IsGiven items entries = record { unbroken = parts.1; entries_there = there } in
          all_items known (CanComplete (structs_in items) entries) (can_complete items entries given) [] items narrow.each formed.each few parts.1;
    }
