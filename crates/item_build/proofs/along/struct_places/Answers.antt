use Rattle.std.proofs.Common.{ℕ, ◌+◌, List, length, take, option_to_list, sym, ap, ◌∙◌, subst}
use Rattle.std.proofs.lemmas.List.{length-append}
use Rattle.ir_syntax.specs.Tree.{ItemTree}
use Rattle.ir_syntax.specs.View.{item_view, items_view}
use Rattle.name_rules.specs.ModuleOf.{struct_in, structs_in}
use Rattle.item_build.specs.Places.{ArePlaces}
use Rattle.item_build.proofs.Placing.{count_more, no_places, places_more}
use Rattle.item_build.proofs.Walked.{taken, view_more}
use Rattle.item_build.proofs.along.struct_places.Goals as goal

pub items-init : goal.items-init
items-init c = record { places = no_places c.args.items.now c.new-places.result.items c.new-places.ensures.items; count = ap length c.new-places.ensures.items }

pub items-preserved : goal.items-preserved
items-preserved c =
    let all = c.args.items.now in
    let i = c.items.place in
    let x = c.index-items-place.result in
    let found = struct_in (item_view x) in
    let first = items_view (take i all) in
    let more = view_more item_view all i x c.items-test.true c.index-items-place.is in
    record {
      places = subst (ArePlaces all) (sym c.in_ok-add_place.ensures) (places_more all c.items.places.items i found c.items.invariant.places c.items-test.true c.items.invariant.count);
      count =
          ap length c.in_ok-add_place.ensures
          ∙ count_more all c.items.places.items i found
          ∙ ap (λ (n : ℕ). n + length (option_to_list found)) c.items.invariant.count
          ∙ sym (length-append (structs_in first) (option_to_list found))
          ∙ sym (ap length (taken struct_in first (item_view x)))
          ∙ sym (ap (λ (xs : List ItemTree). length (structs_in xs)) more);
    }
