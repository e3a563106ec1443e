use Rattle.std.proofs.Common.{◌≡◌, ℕ, List, length, take, refl, sym, ap, ◌∙◌, subst, slice_get, arith}
use Rattle.std.proofs.lemmas.List.{length-map}
use Rattle.linkage_rules.proofs.Steps.{take_whole}
use Rattle.module_arena.specs.Module.{Bytes}
use Rattle.type_table.specs.Types.{names}
use Rattle.link_names.specs.Naming.{HasMore}
use Rattle.link_names.proofs.Avoided.{nothing_more}
use Rattle.link_names.proofs.OnRows.Avoiding.{one_more}
use Rattle.link_names.proofs.rows.avoided.avoid_structs.Goals as goal

pub structs-init : goal.structs-init
structs-init c = record { avoided = nothing_more c.args.naming.now.avoided; given = refl }

pub structs-preserved : goal.structs-preserved
structs-preserved c =
    let all = names c.args.from.now in
    record {
      avoided = one_more all c.structs.number c.struct_name.result.now c.args.naming.now.avoided c.structs.naming.avoided c.avoid.new.self.avoided
          (ap (λ (n : ℕ). slice_get all n) (sym c.new.ensures) ∙ c.struct_name.ensures) c.structs.invariant.avoided c.in_ok-avoid.ensures.avoided;
      given = c.avoid.ensures.given ∙ c.structs.invariant.given;
    }

pub returns-clause-avoided : goal.returns-clause-avoided
returns-clause-avoided c =
    let all = names c.args.from.now in
    let many = length-map c.args.from.now.structs (λ s. s.0) in
    let end : c.structs.number ≡ length all = omega (arith, many, c.structs-test.false, c.structs.auto.number-end, c.struct_count-number-end.ensures) in
    subst (λ (l : List Bytes). HasMore c.args.naming.now.avoided l c.structs.naming.avoided) (ap (λ (n : ℕ). take n all) end ∙ take_whole all) c.structs.invariant.avoided
