use Rattle.std.proofs.Common.{◌≡◌, ◌+◌, ◌<◌, ◌++◌, [], ◌∷◌, Some, true, false, get_or, length, sym, ap, ap₂, ◌∙◌, subst, arith}
use Rattle.std.specs.Prelude.{slice_get}
use Rattle.std.specs.Option.{option_map_or}
use Rattle.std.proofs.lemmas.Option.{same_Some, slice_get-get_or}
use Rattle.ir_eval.specs.declared.value.Scalar.TheVariants.{Ptr}
use Rattle.module_arena.specs.declared.entry.Variable.{Variable}
use Rattle.module_arena.specs.Known.{counts}
use Rattle.module_arena.specs.Lists.{Lists}
use Rattle.module_arena.specs.View.{module_of}
use Rattle.linkage_rules.proofs.Seen.{get_within}
use Rattle.linkage_rules.proofs.Steps.{map_step}
use Rattle.run_rules.specs.Look.{address_in}
use Rattle.run_names.specs.declared.spot.Spot.{Spot}
use Rattle.run_names.specs.Spots.{absent_leaf, defines, is_defined}
use Rattle.run_names.proofs.Bounded.{few_variables}
use Rattle.run_names.proofs.Listed.{kept_few, kept_more, kept_same, mapped_within}
use Rattle.run_names.proofs.Spotted.{absent_address, spot_address, spot_there}
use Rattle.run_names.proofs.spot.addresses_of.Goals.{then-is_defined+in_ok-push, else-is_defined+in_ok-push-2}
use Rattle.run_names.proofs.spot.addresses_of.Goals as goal

pub offset_bounds-spots-block : goal.offset_bounds-spots-block
offset_bounds-spots-block c =
    let a = c.args.program.now in
    let count = c.variable_count-count.ensures.count ∙ ap (λ (x : Lists). length x.variables) c.arena-arena.ensures.arena in
    let few = few_variables (counts c.arena-arena.result.now) c.variable_count-count.ensures.good.few in
    let kept = kept_few is_defined a.variables c.variables.number in
    omega (arith, c.variables.invariant.block, kept, count, few)

pub bounds-spots-block : goal.bounds-spots-block
bounds-spots-block c =
    let a = c.args.program.now in
    let n = c.variables.number in
    let count = c.variable_count-count.ensures.count ∙ ap (λ (x : Lists). length x.variables) c.arena-arena.ensures.arena in
    let lt : n < length a.variables = omega (arith, count, c.variables-test.true) in
    let v = get_within a.variables n lt in
    let test = c.is_defined.ensures ∙ ap₂ defines c.arena-arena.ensures.arena c.new-id.ensures ∙ ap (λ o. option_map_or is_defined o false) v.1 in
    mapped_within (λ (s : Spot). s.start) c.args.spots.now c.variables.block _ (spot_there a c.arena-arena.ensures.well_formed c.arena-arena.ensures.valid c.args.spots.now c.requires n v.0 v.1 (sym test ∙ c.if-is_defined.true) c.variables.block c.variables.invariant.block)

pub bounds-spots-block-then-is_defined : goal.bounds-spots-block-then-is_defined
bounds-spots-block-then-is_defined c =
    let a = c.args.program.now in
    let n = c.variables.number in
    let count = c.variable_count-count.ensures.count ∙ ap (λ (x : Lists). length x.variables) c.arena-arena.ensures.arena in
    let lt : n < length a.variables = omega (arith, count, c.variables-test.true) in
    let v = get_within a.variables n lt in
    let test = c.is_defined.ensures ∙ ap₂ defines c.arena-arena.ensures.arena c.new-id.ensures ∙ ap (λ o. option_map_or is_defined o false) v.1 in
    mapped_within (λ (s : Spot). s.start) c.args.spots.now c.variables.block _ (spot_there a c.arena-arena.ensures.well_formed c.arena-arena.ensures.valid c.args.spots.now c.requires n v.0 v.1 (sym test ∙ c.if-is_defined.true) c.variables.block c.variables.invariant.block)

pub overflow_add-block : goal.overflow_add-block
overflow_add-block c =
    let a = c.args.program.now in
    let count = c.variable_count-count.ensures.count ∙ ap (λ (x : Lists). length x.variables) c.arena-arena.ensures.arena in
    let few = few_variables (counts c.arena-arena.result.now) c.variable_count-count.ensures.good.few in
    let kept = kept_few is_defined a.variables c.variables.number in
    omega (arith, c.variables.invariant.block, kept, count, few)

pub variables-preserved : goal.variables-preserved
variables-preserved c =
    let a = c.args.program.now in
    let n = c.variables.number in
    let count = c.variable_count-count.ensures.count ∙ ap (λ (x : Lists). length x.variables) c.arena-arena.ensures.arena in
    let lt : n < length a.variables = omega (arith, count, c.variables-test.true) in
    let v = get_within a.variables n lt in
    let test = c.is_defined.ensures ∙ ap₂ defines c.arena-arena.ensures.arena c.new-id.ensures ∙ ap (λ o. option_map_or is_defined o false) v.1 in
    let F = λ (v : Variable). address_in (module_of a ∷ []) 0 v.name in
    elim c.if-is_defined.branch [
      | then-is_defined+in_ok-push w ↦
          let is = sym test ∙ w.if-is_defined.true in
          let inside = mapped_within (λ (s : Spot). s.start) c.args.spots.now c.variables.block _ (spot_there a c.arena-arena.ensures.well_formed c.arena-arena.ensures.valid c.args.spots.now c.requires n v.0 v.1 is c.variables.block c.variables.invariant.block) in
          let s = get_or c.args.spots.now c.variables.block w.index-spots-block.result in
          let at = slice_get-get_or c.args.spots.now c.variables.block w.index-spots-block.result inside in
          let leaf = spot_address a c.arena-arena.ensures.well_formed c.arena-arena.ensures.valid c.args.spots.now c.requires n v.0 v.1 is c.variables.block s c.variables.invariant.block at in
          let more : c.if-is_defined.addresses.items ≡ c.variables.addresses.items ++ Ptr (record { block = Some c.variables.block; address = s.start }) ∷ [] = ap (λ x. x.items) w.addresses-is ∙ w.in_ok-push.ensures.items in
          record {
            block = w.block-is ∙ ap (λ k. k + 1) c.variables.invariant.block ∙ sym (kept_more is_defined a.variables n v.0 v.1 is);
            addresses = more ∙ ap₂ (λ l x. l ++ x ∷ []) c.variables.invariant.addresses (sym leaf) ∙ sym (map_step F a.variables n v.0 v.1);
          }
      | else-is_defined+in_ok-push-2 w ↦
          let is = sym test ∙ w.if-is_defined.false in
          let there = subst (λ (x : Lists). slice_get x.variables c.new-id.result ≡ Some w.variable.result.now) c.arena-arena.ensures.arena w.variable.ensures in
          let at = subst (λ i. slice_get a.variables i ≡ Some w.variable.result.now) c.new-id.ensures there in
          let same : w.variable.result.now ≡ v.0 = same_Some w.variable.result.now v.0 (sym at ∙ v.1) in
          let leaf = w.absent.ensures ∙ ap (λ (x : Variable). absent_leaf x.linkage) same ∙ sym (absent_address a c.arena-arena.ensures.well_formed c.arena-arena.ensures.valid n v.0 v.1 is) in
          let more : c.if-is_defined.addresses.items ≡ c.variables.addresses.items ++ w.absent.result ∷ [] = ap (λ x. x.items) w.addresses-is ∙ w.in_ok-push-2.ensures.items in
          record {
            block = w.block-is ∙ c.variables.invariant.block ∙ sym (kept_same is_defined a.variables n v.0 v.1 is);
            addresses = more ∙ ap₂ (λ l x. l ++ x ∷ []) c.variables.invariant.addresses leaf ∙ sym (map_step F a.variables n v.0 v.1);
          }
    ]
