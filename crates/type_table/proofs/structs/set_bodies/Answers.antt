use Rattle.std.proofs.Common.{◌≡◌, suc, ap, ◌∙◌, arith, length, get_or, map, Some, []}
use Rattle.std.specs.Vec.Iter.{into_iter_items}
use Rattle.std.proofs.lemmas.List.{length-set}
use Rattle.type_table.proofs.Defined.{set_value_at-place}
use Rattle.type_table.proofs.Given.{given_next}
use Rattle.type_table.proofs.structs.set_bodies.Goals as goal

pub overflow_add-index : goal.overflow_add-index
overflow_add-index c =
    let one : length (into_iter_items c.bodies.rest) ≡ suc (length (into_iter_items c.next.new.self)) = ap length c.in-Some.ensures.items in
    let many = c.bodies.invariant.many in
    let fit = c.bodies.invariant.fit in
    omega (arith, one, many, fit)

pub bodies-preserved : goal.bodies-preserved
bodies-preserved c =
    let es = c.bodies.structs.entries in
    let place = c.bodies.index in
    let one : length (into_iter_items c.bodies.rest) ≡ suc (length (into_iter_items c.next.new.self)) = ap length c.in-Some.ensures.items in
    let fit = c.bodies.invariant.fit in
    let same = ap length (c.set_body.ensures ∙ set_value_at-place es place (Some c.in-Some.body)) ∙ length-set es place (get_or (map (λ s. s.0) es) place [], Some c.in-Some.body) in
    record {
      set_so_far = λ types.
          given_next types es c.set_body.new.structs.entries place _ _ c.in-Some.body c.set_body.ensures c.in-Some.ensures.items ∙ c.bodies.invariant.set_so_far types;
      many = same ∙ c.bodies.invariant.many;
      fit = omega (arith, one, fit, same);
    }
