-- Items that break no rule have few entries.
use Rattle.std.proofs.Common.{◌≡◌, ℕ, ◌≤◌, Bool, true, false, nat_le, List, length, Option, Some, None, refl}
use Rattle.std.specs.Prelude.{filter_map}
use Rattle.std.proofs.lemmas.Bool.{leb-true}
use Rattle.ir_syntax.specs.Tree.{ItemTree}
use Rattle.module_arena.specs.declared.fault.CountKind.{CountKind}
use Rattle.module_arena.specs.declared.fault.CountKind.TheVariants as kinds
use Rattle.module_arena.specs.Known.{counted_aliases}
use Rattle.name_rules.specs.declared.fault.ResolveFault.{ResolveFault}
use Rattle.name_rules.specs.declared.fault.ResolveFault.TheVariants as faults
use Rattle.name_rules.specs.Breaks.{most, no_more, first_break}
use Rattle.name_rules.specs.ModuleOf.{structs_in, variable_in, alias_in, function_in}
use Rattle.name_rules.proofs.Fine.{unbroken}
use Rattle.item_build.specs.Types.Declarations.{AreFew}
use Rattle.item_build.specs.Declaring.{counts_in}
use Rattle.item_build.proofs.Room.{are_few}

-- there are no more than that, and nothing further is told
none_told : (kind : CountKind) (count : ℕ) (further : Option ResolveFault) → no_more kind count further ≡ None → (count ≤ 262144) × (further ≡ None)
none_told kind count further e = by (nat_le count most) refl e
  where
    by : (b : Bool) → nat_le count most ≡ b → elim b as (λ _. Option ResolveFault) [ true ↦ further | false ↦ Some (faults.TooMany kind count) ] ≡ None → (count ≤ 262144) × (further ≡ None)
    by true is e = (leb-true count most is, e)
    by false is e = absurd cc

pub few_entries : (items : List ItemTree) → first_break items ≡ None → AreFew (counts_in items)
few_entries items e =
    let variables = length (filter_map variable_in items) in
    let functions = length (filter_map function_in items) in
    let aliases = counted_aliases (length (filter_map alias_in items)) variables functions in
    let fourth : Option ResolveFault = no_more kinds.Aliases aliases None in
    let third = no_more kinds.Functions functions fourth in
    let second = no_more kinds.Variables variables third in
    let one = none_told kinds.Structs (length (structs_in items)) second (unbroken items e).0 in
    let two = none_told kinds.Variables variables third one.1 in
    let three = none_told kinds.Functions functions fourth two.1 in
    let four = none_told kinds.Aliases aliases None three.1 in
    are_few (counts_in items) (record { variables = two.0; functions = three.0; aliases = four.0 })
