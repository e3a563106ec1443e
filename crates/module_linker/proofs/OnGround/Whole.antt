-- The structs of a linked module are few, and within the limits.
use Rattle.std.proofs.Common.{◌≡◌, ◌≤◌, true, ◌&&◌, List, [], ◌∷◌, length, All, bytes_eq, nat_le, arith}
use Rattle.std.specs.List.{list_any, AllByRecursion}
use Rattle.std.proofs.lemmas.Bool.{and_parts, leb-true}
use Rattle.std.proofs.lemmas.List.{length-map}
use Rattle.std.proofs.lemmas.List.Elements.{All-nil, All-cons}
use Rattle.type_table.specs.Limits.{IsWithinLimits}
use Rattle.type_table.specs.Shape.{shape}
use Rattle.type_table.specs.Tree.{named, TreeBody, Structs}
use Rattle.module_arena.specs.Module.{Bytes, Module}
use Rattle.module_arena.specs.WellFormed.{is_good_body, is_good_type, is_within_limits, alias_count}
use Rattle.module_arena.proofs.WithinLimits.{within_limits_decides}
use Rattle.link_rules.specs.Linked.{link_result}
use Rattle.link_rules.specs.Structs.{struct_map, linked_struct}
use Rattle.link_rules.proofs.Parts.{all_true}
use Rattle.item_build.specs.Partly.{AllFit, names_of}
use Rattle.module_linker.specs.Stages.Parts.{CanLink}

each_fits : (whole all : Structs) → AllByRecursion (λ (s : Bytes × TreeBody). (is_good_body whole s.1 && is_good_type whole (named s.0)) ≡ true) all → All (λ name. IsWithinLimits (shape whole (named name))) (names_of all)
each_fits whole [] good = All-nil (λ name. IsWithinLimits (shape whole (named name)))
each_fits whole (s ∷ all) good =
    let known = (and_parts (is_good_body whole s.1) (is_good_type whole (named s.0)) good.0).1 in
    let within = (and_parts (list_any (λ (x : Bytes × TreeBody). bytes_eq x.0 s.0) whole) (is_within_limits (shape whole (named s.0))) known).1 in
    All-cons (λ name. IsWithinLimits (shape whole (named name))) s.0 (names_of all) ((within_limits_decides (shape whole (named s.0))).0 within) (each_fits whole all good.1)

module _ (ms : List Module) (can : CanLink ms) where
  abbrev whole : Structs
  whole = (link_result ms).structs

  pub structs_fit : AllFit whole
  structs_fit = each_fits whole whole (all_true (λ (s : Bytes × TreeBody). is_good_body whole s.1 && is_good_type whole (named s.0)) whole can.whole.structs)

  pub few_rows : length (struct_map ms) ≤ 262144
  few_rows =
      let m = link_result ms in
      let few = leb-true (length m.structs) 262144 (and_parts (nat_le (length m.structs) 262144) (nat_le (length m.variables) 262144 && (nat_le (length m.functions) 262144 && nat_le (alias_count m) 262144)) can.whole.few).0 in
      let many = length-map (struct_map ms) (linked_struct ms) in
      omega (arith, few, many)
