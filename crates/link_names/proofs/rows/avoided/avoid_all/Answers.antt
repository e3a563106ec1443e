use Rattle.std.proofs.Common.{◌≡◌, ℕ, List, length, map, take, refl, ap, ◌∙◌, subst, arith}
use Rattle.std.proofs.lemmas.List.{length-map}
use Rattle.linkage_rules.specs.Entries.{symbol_name}
use Rattle.linkage_rules.specs.Ids.{modules}
use Rattle.linkage_rules.proofs.Steps.{take_whole}
use Rattle.module_arena.specs.Module.{Module}
use Rattle.module_arena.specs.View.{module_of}
use Rattle.link_rules.specs.Structs.{structs_from}
use Rattle.type_table.specs.Types.{Types, names}
use Rattle.link_names.specs.Naming.{HasMore}
use Rattle.link_names.proofs.Avoided.{nothing_more}
use Rattle.link_names.proofs.OnRows.Avoiding.{part_more}
use Rattle.link_names.proofs.rows.avoided.avoid_all.Goals as goal

pub parts-init : goal.parts-init
parts-init c = record { avoided = nothing_more c.args.naming.now.avoided; given = refl }

pub parts-preserved : goal.parts-preserved
parts-preserved c =
    record {
      avoided = part_more c.args.parts.now c.parts.part c.arena_of-arena.result.now c.args.naming.now.avoided c.parts.naming.avoided c.avoid_structs.new.naming.avoided c.arena_of-arena.ensures.arena c.parts.invariant.avoided
          (subst (λ (t : Types). HasMore c.parts.naming.avoided (names t) c.avoid_structs.new.naming.avoided) c.types.ensures c.in_ok-avoid_structs.ensures.avoided);
      given = c.avoid_structs.ensures.given ∙ c.parts.invariant.given;
    }

pub returns-clause-avoided : goal.returns-clause-avoided
returns-clause-avoided c =
    let ms = modules c.args.parts.now in
    let many = length-map c.args.parts.now module_of in
    let end : c.parts.part ≡ length ms = omega (arith, many, c.parts-test.false, c.parts.auto.part-end) in
    subst (λ (l : List Module). HasMore c.args.naming.now.avoided (map symbol_name (structs_from 0 l)) c.parts.naming.avoided) (ap (λ (n : ℕ). take n ms) end ∙ take_whole ms) c.parts.invariant.avoided
