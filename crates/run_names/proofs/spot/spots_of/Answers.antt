use Rattle.std.proofs.Common.{◌≡◌, ℕ, ◌+◌, ◌^◌, ◌<◌, ◌≤◌, ◌++◌, [], ◌∷◌, Some, true, false, length, sym, ap, ap₂, ◌∙◌, subst, arith}
use Rattle.std.specs.Prelude.{slice_get}
use Rattle.std.specs.Option.{option_map_or}
use Rattle.module_arena.specs.Known.{counts}
use Rattle.module_arena.specs.Lists.{Lists}
use Rattle.linkage_rules.proofs.Seen.{get_within}
use Rattle.run_names.specs.declared.spot.Spot.{Spot}
use Rattle.run_names.specs.Spots.{defines, is_defined, spot_at, spot_of}
use Rattle.run_names.proofs.Bounded.{few_variables}
use Rattle.run_names.proofs.Listed.{last_or}
use Rattle.run_names.proofs.Put.{all_put, pass_put, spot_is, step_put}
use Rattle.run_names.proofs.Spotted.{are_spots}
use Rattle.run_names.proofs.spot.spots_of.Goals.{then-is_defined+in_ok-push, else-is_defined}
use Rattle.run_names.proofs.spot.spots_of.Goals as goal

pub variables-preserved : goal.variables-preserved
variables-preserved c =
    let a = c.args.program.now in
    let n = c.variables.number in
    let count = c.variable_count-number-end.ensures.count ∙ ap (λ (x : Lists). length x.variables) c.arena-arena.ensures.arena in
    let lt : n < length a.variables = omega (arith, count, c.variables-test.true) in
    let few = few_variables (counts c.arena-arena.result.now) c.variable_count-number-end.ensures.good.few in
    let v = get_within a.variables n lt in
    let test = c.is_defined.ensures ∙ ap₂ defines c.arena-arena.ensures.arena c.new-id.ensures ∙ ap (λ o. option_map_or is_defined o false) v.1 in
    let before = c.variables.invariant.next in
    elim c.if-is_defined.branch [
      | then-is_defined+in_ok-push w ↦
          let s = w.spot_of-spot.result in
          let told : s ≡ spot_of a n c.variables.next v.0 = w.spot_of-spot.ensures.spot ∙ ap (λ i. spot_at a i c.variables.next) c.new-id.ensures ∙ spot_is a n c.variables.next v.0 v.1 in
          let more : c.if-is_defined.spots.items ≡ c.variables.spots.items ++ s ∷ [] = ap (λ x. x.items) w.spots-is ∙ w.in_ok-push.ensures.items in
          let size = w.spot_of-spot.ensures.size in
          let start = w.spot_of-spot.ensures.start in
          record {
            put = step_put a a.variables n v.0 c.variables.spots.items c.if-is_defined.spots.items c.variables.next c.if-is_defined.next s c.variables.invariant.put v.1 (sym test ∙ w.if-is_defined.true) told more w.next-is;
            next = omega (arith, before, size, start, w.next-is);
            within =
                let here : s.start + s.size ≤ 2 ^ 60 = omega (arith, before, size, start, few, lt, count) in
                subst (λ l. (k : ℕ) (x : Spot) → slice_get l k ≡ Some x → x.start + x.size ≤ 2 ^ 60) (sym more) (last_or (λ (x : Spot). x.start + x.size ≤ 2 ^ 60) c.variables.spots.items s c.variables.invariant.within here);
          }
      | else-is_defined w ↦
          let more : c.if-is_defined.spots.items ≡ c.variables.spots.items = ap (λ x. x.items) w.spots-is in
          record {
            put = pass_put a a.variables n v.0 c.variables.spots.items c.if-is_defined.spots.items c.variables.next c.if-is_defined.next c.variables.invariant.put v.1 (sym test ∙ w.if-is_defined.false) more w.next-is;
            next = omega (arith, before, w.next-is);
            within = subst (λ l. (k : ℕ) (x : Spot) → slice_get l k ≡ Some x → x.start + x.size ≤ 2 ^ 60) (sym more) c.variables.invariant.within;
          }
    ]

pub returns : goal.returns
returns c =
    let a = c.args.program.now in
    let count = c.variable_count-number-end.ensures.count ∙ ap (λ (x : Lists). length x.variables) c.arena-arena.ensures.arena in
    let past : length a.variables ≤ c.variables.number = omega (arith, count, c.variables-test.false) in
    are_spots a c.arena-arena.ensures.well_formed c.arena-arena.ensures.valid c.variables.spots.items (all_put a a.variables c.variables.number c.variables.spots.items c.variables.next past c.variables.invariant.put) c.variables.invariant.within
